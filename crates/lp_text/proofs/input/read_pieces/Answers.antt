use Rattle.std.proofs.Common.{List, ℕ, take, vec_len, refl, subst, sym, arith, rules}
use Rattle.std.proofs.lemmas.Grind.{common_steps}
use Rattle.std.proofs.lemmas.List.{length-take-le}
use Rattle.std.specs.Io.KnownBytes.{Consumes}
use Rattle.lp_text.specs.inside.Streams.{Ended}
use Rattle.lp_text.proofs.Counts.{going_on, going_to_fault, none_called, one_more_called}
use Rattle.lp_text.proofs.Inputs.{consumes_more, consumes_none}
use Rattle.lp_text.proofs.StreamContract.{reads_done, reads_input, reads_other}
use Rattle.lp_text.proofs.Streams.{after}
use Rattle.lp_text.proofs.input.read_pieces.Goals as goal

pub loop-text-init : goal.loop-text-init
loop-text-init g c =
    let all = g.R.Read.remaining c.args.reader.now.stream in
    let P : List ℕ → Type 0 = λ bytes. Consumes all all bytes in (
      subst P (sym c.new-text.ensures.items) (consumes_none all),
      search rules,
      search rules,
      (refl, refl),
      none_called _ c.args.reader.now.calls,
    )

pub loop-text-preserved : goal.loop-text-preserved
loop-text-preserved g c =
    let old = g.R.Read.remaining c.args.reader.now.stream in
    let now = g.R.Read.remaining c.loop-text.reader.stream in
    let then = g.R.Read.remaining c.read_piece.new.reader.stream in
    let more = take c.in-Ok.count c.read_piece.new.piece in
    let P : List ℕ → Type 0 = λ bytes. Consumes old then bytes in (
      subst P (sym c.in-Ok-extend_from_slice.ensures.items) (consumes_more old now then c.loop-text.text.items more c.loop-text.invariant.0 c.in-Ok.ensures.bytes),
      search rules,
      search rules,
      going_on c.args.reader.now c.loop-text.reader c.read_piece.new.reader c.in-Ok.count c.loop-text.invariant.3 c.in-Ok.ensures.counted (omega (arith, c.in-Ok.count-test.1)),
      one_more_called _ c.loop-text.reader.calls _ (vec_len c.loop-text.text) _ c.loop-text.invariant.4 c.read_piece.ensures.calls (omega (arith, c.in-Ok-extend_from_slice.ensures.len, length-take-le c.in-Ok.count c.read_piece.new.piece c.in-Ok.ensures.within, c.in-Ok.count-test.1)),
    )

pub returns-in-Err-clause-fault : goal.returns-in-Err-clause-fault
returns-in-Err-clause-fault g c =
    after 0 c.len.result (g.R.Read.remaining c.args.reader.now.stream) (g.R.Read.remaining c.loop-text.reader.stream) (g.R.Read.remaining c.read_piece.new.reader.stream) c.loop-text.text.items c.in-Err.fault c.loop-text.invariant.0 (omega (arith, c.loop-text.invariant.2, c.len.ensures)) c.in-Err.ensures.fault

pub loop-text-smaller : goal.loop-text-smaller
loop-text-smaller g c = grind (arith, common_steps)

pub slice_bounds-extend_from_slice-end-in-loop-text : goal.slice_bounds-extend_from_slice-end-in-loop-text
slice_bounds-extend_from_slice-end-in-loop-text g c = grind (arith, common_steps)

pub returns-in-Ok-eq0-clause-whole : goal.returns-in-Ok-eq0-clause-whole
returns-in-Ok-eq0-clause-whole g c = grind (arith, common_steps)

pub returns-in-Ok-eq0-clause-reads : goal.returns-in-Ok-eq0-clause-reads
returns-in-Ok-eq0-clause-reads g c =
    let ends : Ended c.args.reader.now c.read_piece.new.reader = grind (arith, common_steps) in
    reads_done c.args.reader.now c.read_piece.new.reader ends
    (one_more_called _ c.loop-text.reader.calls _ (vec_len c.loop-text.text) _ c.loop-text.invariant.4 c.read_piece.ensures.calls (omega (arith, c.loop-text.invariant.1)))

pub returns-in-Err-clause-reads : goal.returns-in-Err-clause-reads
returns-in-Err-clause-reads g c =
    reads_input c.args.reader.now c.read_piece.new.reader c.in-Err.fault
    (going_to_fault c.args.reader.now c.loop-text.reader c.read_piece.new.reader c.in-Err.fault c.loop-text.invariant.3 c.in-Err.ensures.counted)
    (one_more_called _ c.loop-text.reader.calls _ (vec_len c.loop-text.text) _ c.loop-text.invariant.4 c.read_piece.ensures.calls (omega (arith, c.loop-text.invariant.1)))

pub returns-in_default-clause-reads : goal.returns-in_default-clause-reads
returns-in_default-clause-reads g c =
    let going = going_on c.args.reader.now c.loop-text.reader c.read_piece.new.reader c.in-Ok.count c.loop-text.invariant.3 c.in-Ok.ensures.counted (omega (arith, c.in-Ok.count-test.1)) in
    reads_other c.args.reader.now c.read_piece.new.reader going.0
    (one_more_called _ c.loop-text.reader.calls _ (vec_len c.loop-text.text) _ c.loop-text.invariant.4 c.read_piece.ensures.calls (omega (arith, c.loop-text.invariant.1)))
