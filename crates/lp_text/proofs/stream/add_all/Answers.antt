use Rattle.std.proofs.Common.{refl, ◌-◌, ◌≡◌, ◌≤◌, ◌+◌, ℕ, List, [], ◌++◌, length, take, Option, sym, ap, ◌∙◌, arith}
use Rattle.std.proofs.lemmas.Grind.{common_steps}
use Rattle.std.proofs.lemmas.List.{length-append, length-take-le}
use Rattle.lp_text.specs.inside.Streams.{Stream, reading_after}
use Rattle.lp_text.proofs.Counts.{called_more, going_on, going_to_end, going_to_fault, none_called, one_more_called}
use Rattle.lp_text.proofs.StreamContract.{input_told, reads_done, reads_input, text_told}
use Rattle.lp_text.proofs.Inputs.{consumes_more, consumes_none}
use Rattle.lp_text.proofs.Streams.{input_fault_after, one_more, trace_fault, whole}
use Rattle.lp_text.proofs.stream.add_all.Goals as goal

pub loop-count-init : goal.loop-count-init
loop-count-init g c =
    let start = c.requires.empty in (
      ([], consumes_none (g.R.Read.remaining c.args.reader.now.stream), refl, λ bytes. ap (λ came. reading_after came bytes) (sym start)),
      omega arith,
      omega (arith, ap (λ (came : Stream). came.number) start, ap (λ (came : Stream). length came.held) start),
      refl,
      omega (arith, ap (λ (came : Stream). came.number) start),
      (refl, refl),
      none_called _ c.args.reader.now.calls,
    )

pub returns-in-Err-clause-reads : goal.returns-in-Err-clause-reads
returns-in-Err-clause-reads g c =
    let fails = going_to_fault c.args.reader.now c.loop-count.reader c.read_piece.new.reader c.in-Err.fault c.loop-count.invariant.5 c.in-Err.ensures.counted in
    let calls = one_more_called _ c.loop-count.reader.calls _ c.loop-count.total _ c.loop-count.invariant.6 c.read_piece.ensures.calls (omega (arith, c.loop-count.invariant.1)) in
    input_told c.args.reader.now c.read_piece.new.reader c.in-Err.fault c.from.result (reads_input c.args.reader.now c.read_piece.new.reader c.in-Err.fault fails calls) c.from.ensures

pub returns-then-count-eq0-clause-reads : goal.returns-then-count-eq0-clause-reads
returns-then-count-eq0-clause-reads g c =
    reads_done c.args.reader.now c.read_piece.new.reader
    (going_to_end c.args.reader.now c.loop-count.reader c.read_piece.new.reader c.loop-count.invariant.5 (c.in-Ok.ensures.counted.1 c.if-count-eq0.true))
    (one_more_called _ c.loop-count.reader.calls _ c.loop-count.total _ c.loop-count.invariant.6 c.read_piece.ensures.calls (omega (arith, c.loop-count.invariant.1)))

pub returns-in-Ok-skip_rest-clause-reads : goal.returns-in-Ok-skip_rest-clause-reads
returns-in-Ok-skip_rest-clause-reads g c =
    let total = c.loop-count.total + c.in-Ok.count in
    let so_far = one_more_called _ c.loop-count.reader.calls _ c.loop-count.total total c.loop-count.invariant.6 c.read_piece.ensures.calls (omega (arith, c.if-count-eq0.false)) in
    let calls = called_more _ c.read_piece.new.reader.calls _ total (134217729 - total) 134217729 so_far c.skip_rest.ensures.calls (omega (arith, c.in-Ok.ensures.few)) in
    let going = going_on c.args.reader.now c.loop-count.reader c.read_piece.new.reader c.in-Ok.count c.loop-count.invariant.5 c.in-Ok.ensures.counted (omega (arith, c.if-count-eq0.false)) in
    let ends = going_to_end c.args.reader.now c.read_piece.new.reader c.skip_rest.new.reader going c.in-Ok-skip_rest.ensures.counted in
    text_told c.args.reader.now c.skip_rest.new.reader c.in-Err-add.fault c.from-in-Ok-skip_rest.result ends.0 calls c.from-in-Ok-skip_rest.ensures

pub returns-in-Err-skip_rest-clause-reads : goal.returns-in-Err-skip_rest-clause-reads
returns-in-Err-skip_rest-clause-reads g c =
    let later = c.in-Err-skip_rest.later in
    let total = c.loop-count.total + c.in-Ok.count in
    let so_far = one_more_called _ c.loop-count.reader.calls _ c.loop-count.total total c.loop-count.invariant.6 c.read_piece.ensures.calls (omega (arith, c.if-count-eq0.false)) in
    let calls = called_more _ c.read_piece.new.reader.calls _ total (134217729 - total) 134217729 so_far c.skip_rest.ensures.calls (omega (arith, c.in-Ok.ensures.few)) in
    let going = going_on c.args.reader.now c.loop-count.reader c.read_piece.new.reader c.in-Ok.count c.loop-count.invariant.5 c.in-Ok.ensures.counted (omega (arith, c.if-count-eq0.false)) in
    let fails = going_to_fault c.args.reader.now c.read_piece.new.reader c.skip_rest.new.reader later going c.in-Err-skip_rest.ensures.counted in
    input_told c.args.reader.now c.skip_rest.new.reader later c.from-in-Err-skip_rest.result (reads_input c.args.reader.now c.skip_rest.new.reader later fails calls) c.from-in-Err-skip_rest.ensures

pub returns-in-Err-clause-trace : goal.returns-in-Err-clause-trace
returns-in-Err-clause-trace g c =
    let so_far = c.loop-count.invariant.0 in
    input_fault_after (g.R.Read.remaining c.args.reader.now.stream) (g.R.Read.remaining c.loop-count.reader.stream) (g.R.Read.remaining c.read_piece.new.reader.stream) so_far.0 c.loop-count.total c.in-Err.fault c.from.result so_far.1 so_far.2 c.in-Err.ensures.fault c.from.ensures

pub returns-then-count-eq0-clause-found : goal.returns-then-count-eq0-clause-found
returns-then-count-eq0-clause-found g c =
    let so_far = c.loop-count.invariant.0 in
    let piece : List ℕ = take c.in-Ok.count c.read_piece.new.piece in
    let none : piece ≡ [] = ap (λ n. take n c.read_piece.new.piece) c.if-count-eq0.true in
    let few : length so_far.0 + length piece ≤ 134217728 = omega (arith, so_far.2, c.in-Ok.ensures.few, length-take-le c.in-Ok.count c.read_piece.new.piece c.in-Ok.ensures.within) in
    let there = whole (g.R.Read.remaining c.args.reader.now.stream) (g.R.Read.remaining c.loop-count.reader.stream) so_far.0 c.loop-count.stream so_far.1 so_far.3 (g.R.Read.remaining c.read_piece.new.reader.stream) piece (c.in-Ok.ensures.bytes, c.in-Ok.ensures.end c.if-count-eq0.true) few in
    (so_far.0 ++ piece, there.0, there.1 ∙ ap (reading_after c.loop-count.stream) none)

pub returns-in-Ok-skip_rest-clause-trace : goal.returns-in-Ok-skip_rest-clause-trace
returns-in-Ok-skip_rest-clause-trace g c =
    let so_far = c.loop-count.invariant.0 in
    let before : Option (List ℕ) = g.R.Read.remaining c.args.reader.now.stream in
    let now : Option (List ℕ) = g.R.Read.remaining c.loop-count.reader.stream in
    let then : Option (List ℕ) = g.R.Read.remaining c.read_piece.new.reader.stream in
    let last : Option (List ℕ) = g.R.Read.remaining c.skip_rest.new.reader.stream in
    let piece : List ℕ = take c.in-Ok.count c.read_piece.new.piece in
    let size : length piece ≡ c.in-Ok.count = length-take-le c.in-Ok.count c.read_piece.new.piece c.in-Ok.ensures.within in
    let rest = c.in-Ok-skip_rest.ensures.end in
    let few : length so_far.0 + length (piece ++ rest.0) ≤ 134217728 = omega (arith, so_far.2, size, rest.2, length-append piece rest.0) in
    trace_fault before now so_far.0 c.loop-count.stream so_far.1 so_far.3 last (piece ++ rest.0) c.in-Err-add.fault c.from-in-Ok-skip_rest.result (consumes_more now then last piece rest.0 c.in-Ok.ensures.bytes rest.1.0, rest.1.1) few (c.in-Err-add.ensures.fault rest.0) c.from-in-Ok-skip_rest.ensures

pub returns-in-Err-skip_rest-clause-trace : goal.returns-in-Err-skip_rest-clause-trace
returns-in-Err-skip_rest-clause-trace g c =
    let so_far = c.loop-count.invariant.0 in
    let before : Option (List ℕ) = g.R.Read.remaining c.args.reader.now.stream in
    let now : Option (List ℕ) = g.R.Read.remaining c.loop-count.reader.stream in
    let then : Option (List ℕ) = g.R.Read.remaining c.read_piece.new.reader.stream in
    let last : Option (List ℕ) = g.R.Read.remaining c.skip_rest.new.reader.stream in
    let piece : List ℕ = take c.in-Ok.count c.read_piece.new.piece in
    let size : length piece ≡ c.in-Ok.count = length-take-le c.in-Ok.count c.read_piece.new.piece c.in-Ok.ensures.within in
    input_fault_after before then last (so_far.0 ++ piece) (c.loop-count.total + c.in-Ok.count) c.in-Err-skip_rest.later c.from-in-Err-skip_rest.result (consumes_more before now then so_far.0 piece so_far.1 c.in-Ok.ensures.bytes) (omega (arith, so_far.2, size, length-append so_far.0 piece)) c.in-Err-skip_rest.ensures.fault c.from-in-Err-skip_rest.ensures

pub loop-count-preserved : goal.loop-count-preserved
loop-count-preserved g c =
    let so_far = c.loop-count.invariant.0 in
    let piece : List ℕ = take c.in-Ok.count c.read_piece.new.piece in
    let size : length piece ≡ c.in-Ok.count = length-take-le c.in-Ok.count c.read_piece.new.piece c.in-Ok.ensures.within in
    let more = one_more (g.R.Read.remaining c.args.reader.now.stream) (g.R.Read.remaining c.loop-count.reader.stream) so_far.0 c.loop-count.stream so_far.1 so_far.3 (g.R.Read.remaining c.read_piece.new.reader.stream) piece c.add.new.self c.in-Ok.ensures.bytes c.in_default.ensures.read in (
      (so_far.0 ++ piece, more.0, omega (arith, so_far.2, size, length-append so_far.0 piece), more.1),
      omega (arith, c.in-Ok.ensures.few),
      omega (arith, c.loop-count.invariant.2, c.in_default.ensures.few, size),
      c.read_piece.ensures.size ∙ c.loop-count.invariant.3,
      c.in_default.ensures.some,
      going_on c.args.reader.now c.loop-count.reader c.read_piece.new.reader c.in-Ok.count c.loop-count.invariant.5 c.in-Ok.ensures.counted (omega (arith, c.if-count-eq0.false)),
      one_more_called _ c.loop-count.reader.calls _ c.loop-count.total _ c.loop-count.invariant.6 c.read_piece.ensures.calls (omega (arith, c.if-count-eq0.false)),
    )

pub add-requires-clause-few : goal.add-requires-clause-few
add-requires-clause-few g c = grind (arith, common_steps)

pub slice_bounds-add-end-in-loop-count : goal.slice_bounds-add-end-in-loop-count
slice_bounds-add-end-in-loop-count g c = grind (arith, common_steps)
