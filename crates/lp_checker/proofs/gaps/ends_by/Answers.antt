use Rattle.std.proofs.Common.{◌≡◌, ℕ, suc, ◌-◌, ◌<◌, ◌++◌, List, length, take, drop, nat_le, nat_lt, slice_index, take_all, sym, ap, ◌∙◌, arith}
use Rattle.std.proofs.lemmas.Grind.{common_steps}
use Rattle.std.proofs.lemmas.List.{take-append-le}
use Rattle.std.specs.List.{list_any}
use Rattle.lp_checker.specs.inside.Spans.{some_spans_to}
use Rattle.lp_checker.proofs.SpanLines.{ends_so_far, lines_cover}
use Rattle.lp_checker.proofs.gaps.ends_by.Goals as goal

pub returns-clause-covers : goal.returns-clause-covers
returns-clause-covers c = λ model leg moment its low high.
    let begin = c.args.section.begin in
    let last : ℕ = c.args.section.until - begin in
    let place : ℕ = moment - begin in
    let own = c.in_ok-ends.ends.items in
    let new = c.keep_greatest.new.numbers in
    let same_length = c.deref_mut.ensures.len in
    let n : length new ≡ c.in_ok-ends.ends.len = c.keep_greatest.auto.numbers ∙ same_length in
    let written : take c.in_ok-ends.ends.len (new ++ drop (length new) own) ≡ new = take-append-le c.in_ok-ends.ends.len new (drop (length new) own) (omega (arith, n)) ∙ take_all c.in_ok-ends.ends.len new (omega (arith, n)) in
    let all = c.in_ok-ends.ensures.all in
    let there : place < length c.deref_mut.result.now = let len = ap length c.deref_mut.ensures.value in omega (arith, len, all, low, high) in
    let positive : 0 < moment = omega (arith, low) in
    ap (λ (xs : List ℕ). nat_le moment (slice_index xs place)) written
    ∙ c.keep_greatest.ensures place moment there positive
    ∙ ap (λ (xs : List ℕ). list_any (nat_le moment) (take (suc place) xs)) c.deref_mut.ensures.value
    ∙ ends_so_far c.args.number begin last c.args.lines.now own all c.in_ok-ends.ensures.ends moment positive (suc place) (omega (arith, low, high))
    ∙ ap (λ n. some_spans_to n begin (λ at. nat_lt at (suc (moment - begin))) moment c.args.lines.now) (sym its)
    ∙ lines_cover model leg begin moment low c.args.lines.now

pub returns-clause-all : goal.returns-clause-all
returns-clause-all c = grind (arith, common_steps)
