use Rattle.std.proofs.Common.{◌≡◌, ℕ, ◌+◌, ◌-◌, ◌<◌, ◌≤◌, List, nat_le, slice_index, sym, ap, ◌∙◌, arith}
use Rattle.std.specs.List.{list_any}
use Rattle.lp_checker.specs.inside.Cursors.{leg_in}
use Rattle.lp_definitions.specs.Judgement.{covers}
use Rattle.lp_checker.proofs.GapLines.{gap_at, no_gap, found_within}
use Rattle.lp_checker.proofs.gaps.gap_in.Goals as goal

pub returns-in-None-clause-fault : goal.returns-in-None-clause-fault
returns-in-None-clause-fault g c =
    let model = g.M.Consistency.rules in
    let leg = leg_in c.args.cursor.now.range in
    let begin = c.args.section.begin in
    let lines = c.args.lines.now in
    let ends = c.as_slice.result.now in
    let covered : (moment : ℕ) → begin < moment → moment ≤ c.args.section.until → nat_le moment (slice_index ends (moment - begin)) ≡ list_any (covers model leg moment) lines = λ moment low high. ap (λ (xs : List ℕ). nat_le moment (slice_index xs (moment - begin))) c.as_slice.ensures.value ∙ c.in_ok-ends.ensures.covers model leg moment (sym c.number-number.ensures.value) low high in
    sym (no_gap model leg lines c.args.section ends covered c.requires.order (sym c.in_ok-first_gap.ensures.gap ∙ c.in-None.is))

pub overflow_add-result : goal.overflow_add-result
overflow_add-result g c =
    let model = g.M.Consistency.rules in
    let leg = leg_in c.args.cursor.now.range in
    let begin = c.args.section.begin in
    let lines = c.args.lines.now in
    let ends = c.as_slice.result.now in
    let covered : (moment : ℕ) → begin < moment → moment ≤ c.args.section.until → nat_le moment (slice_index ends (moment - begin)) ≡ list_any (covers model leg moment) lines = λ moment low high. ap (λ (xs : List ℕ). nat_le moment (slice_index xs (moment - begin))) c.as_slice.ensures.value ∙ c.in_ok-ends.ensures.covers model leg moment (sym c.number-number.ensures.value) low high in
    let within = found_within model leg lines c.args.section ends covered c.requires.order c.in-Some.place (sym c.in_ok-first_gap.ensures.gap ∙ c.in-Some.is) in
    omega (arith, within, c.requires.within, c.number-number.ensures.value, c.number-number.ensures.room)

pub overflow_add-result-in-Some : goal.overflow_add-result-in-Some
overflow_add-result-in-Some g c =
    let model = g.M.Consistency.rules in
    let leg = leg_in c.args.cursor.now.range in
    let begin = c.args.section.begin in
    let lines = c.args.lines.now in
    let ends = c.as_slice.result.now in
    let covered : (moment : ℕ) → begin < moment → moment ≤ c.args.section.until → nat_le moment (slice_index ends (moment - begin)) ≡ list_any (covers model leg moment) lines = λ moment low high. ap (λ (xs : List ℕ). nat_le moment (slice_index xs (moment - begin))) c.as_slice.ensures.value ∙ c.in_ok-ends.ensures.covers model leg moment (sym c.number-number.ensures.value) low high in
    let within = found_within model leg lines c.args.section ends covered c.requires.order c.in-Some.place (sym c.in_ok-first_gap.ensures.gap ∙ c.in-Some.is) in
    omega (arith, within, c.requires.within, c.number-number.ensures.value, c.number-number.ensures.room)

pub returns-clause-fault : goal.returns-clause-fault
returns-clause-fault g c =
    let model = g.M.Consistency.rules in
    let leg = leg_in c.args.cursor.now.range in
    let begin = c.args.section.begin in
    let lines = c.args.lines.now in
    let ends = c.as_slice.result.now in
    let covered : (moment : ℕ) → begin < moment → moment ≤ c.args.section.until → nat_le moment (slice_index ends (moment - begin)) ≡ list_any (covers model leg moment) lines = λ moment low high. ap (λ (xs : List ℕ). nat_le moment (slice_index xs (moment - begin))) c.as_slice.ensures.value ∙ c.in_ok-ends.ensures.covers model leg moment (sym c.number-number.ensures.value) low high in
    sym (gap_at model leg lines c.args.section ends covered c.requires.order c.in-Some.place (c.number-number.result + c.in-Some.place + 1) (sym c.in_ok-first_gap.ensures.gap ∙ c.in-Some.is) (omega (arith, c.number-number.ensures.value)))
