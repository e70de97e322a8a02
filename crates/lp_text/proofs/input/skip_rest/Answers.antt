use Rattle.std.proofs.Common.{◌++◌, ◌-◌, [], take, ◌∙◌, refl, arith}
use Rattle.std.proofs.lemmas.Grind.{common_steps}
use Rattle.std.proofs.lemmas.List.{length-append, length-take-le}
use Rattle.lp_text.proofs.Counts.{going_on, none_called, one_more_called}
use Rattle.lp_text.proofs.Inputs.{consumes_more, consumes_none}
use Rattle.lp_text.proofs.Streams.{after}
use Rattle.lp_text.proofs.input.skip_rest.Goals as goal

pub loop-count-init : goal.loop-count-init
loop-count-init g c =
    (([], consumes_none (g.R.Read.remaining c.args.reader.now.stream), omega arith), c.requires.few, refl, (refl, refl), none_called (c.args.before - c.args.before) c.args.reader.now.calls)

pub loop-count-preserved : goal.loop-count-preserved
loop-count-preserved g c =
    let bytes = c.loop-count.invariant.0.0 in
    let piece = c.read_piece.new.piece in
    let more = take c.in-Ok.count piece in (
      (bytes ++ more, consumes_more (g.R.Read.remaining c.args.reader.now.stream) (g.R.Read.remaining c.loop-count.reader.stream) (g.R.Read.remaining c.read_piece.new.reader.stream) bytes more c.loop-count.invariant.0.1 c.in-Ok.ensures.bytes, omega (arith, c.loop-count.invariant.0.2, length-append bytes more, length-take-le c.in-Ok.count piece c.in-Ok.ensures.within)),
      omega (arith, c.in-Ok.ensures.few),
      c.read_piece.ensures.size ∙ c.loop-count.invariant.2,
      going_on c.args.reader.now c.loop-count.reader c.read_piece.new.reader c.in-Ok.count c.loop-count.invariant.3 c.in-Ok.ensures.counted (omega (arith, c.in-Ok.count-test.1)),
      one_more_called _ c.loop-count.reader.calls _ (c.loop-count.total - c.args.before) _ c.loop-count.invariant.4 c.read_piece.ensures.calls (omega (arith, c.loop-count.invariant.0.2, c.in-Ok.count-test.1)),
    )

pub returns-in-Ok-eq0-clause-calls : goal.returns-in-Ok-eq0-clause-calls
returns-in-Ok-eq0-clause-calls g c =
    one_more_called _ c.loop-count.reader.calls _ (c.loop-count.total - c.args.before) _ c.loop-count.invariant.4 c.read_piece.ensures.calls (omega (arith, c.loop-count.invariant.0.2, c.loop-count.invariant.1))

pub returns-in-Err-clause-calls : goal.returns-in-Err-clause-calls
returns-in-Err-clause-calls g c =
    one_more_called _ c.loop-count.reader.calls _ (c.loop-count.total - c.args.before) _ c.loop-count.invariant.4 c.read_piece.ensures.calls (omega (arith, c.loop-count.invariant.0.2, c.loop-count.invariant.1))

pub returns-in-Err-clause-fault : goal.returns-in-Err-clause-fault
returns-in-Err-clause-fault g c =
    after c.args.before c.loop-count.total (g.R.Read.remaining c.args.reader.now.stream) (g.R.Read.remaining c.loop-count.reader.stream) (g.R.Read.remaining c.read_piece.new.reader.stream) c.loop-count.invariant.0.0 c.in-Err.fault c.loop-count.invariant.0.1 c.loop-count.invariant.0.2 c.in-Err.ensures.fault

pub returns-in-Ok-eq0-clause-end : goal.returns-in-Ok-eq0-clause-end
returns-in-Ok-eq0-clause-end g c = grind (arith, common_steps)

pub returns-in-Ok-eq0-clause-counted : goal.returns-in-Ok-eq0-clause-counted
returns-in-Ok-eq0-clause-counted g c = grind (arith, common_steps)
