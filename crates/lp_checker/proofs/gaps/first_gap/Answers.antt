use Rattle.std.proofs.Common.{◌≡◌, ℕ, suc, ◌+◌, ◌-◌, ◌<◌, ◌≤◌, ◌||◌, true, is_none, is_some, nat_le, slice_index, add-one, sym, ap, ◌∙◌, subst, arith}
use Rattle.std.proofs.lemmas.Grind.{common_steps}
use Rattle.lp_definitions.specs.Leg.{check}
use Rattle.lp_checker.specs.inside.Cursors.{Range, leg_in}
use Rattle.lp_laws.proofs.FirstBad.{none_bad, bad_here, good_here}
use Rattle.lp_checker.proofs.GapLines.{no_check, ends_later, ends_before}
use Rattle.lp_checker.proofs.gaps.first_gap.Goals as goal
use Rattle.lp_checker.proofs.gaps.first_gap.Goals.{else-is_some-via-then-is_some+else-ends-place, else-is_some-via-else-is_some}

pub go_to-requires : goal.go_to-requires
go_to-requires g c = omega (arith, c.requires.within, c.loop-place-test.true, ap (λ (range : Range). range.end) c.loop-place.invariant.range)

pub returns-then-ends-place-clause-gap : goal.returns-then-ends-place-clause-gap
returns-then-ends-place-clause-gap g c =
    let leg = leg_in c.args.cursor.now.range in
    let begin = c.args.section.begin in
    let place = c.loop-place.place in
    let checked = λ (k : ℕ). check g.M.Consistency.rules leg k c.args.section.group.0 in
    let end_at = λ (k : ℕ). slice_index c.args.ends.now (k - begin) in
    let passes = λ (k : ℕ). is_none (checked k) || nat_le (suc k) (end_at (suc k)) in
    let found = rw (c.go_to.ensures.range, c.loop-place.invariant.range, c.in_ok-go_to.ensures.moment, add-one) at c.check-check.ensures in
    let low : end_at (suc place) ≤ place = subst (λ n. end_at n ≤ place) (add-one place) c.if-ends-place.true in
    let bad = ends_before (checked place) place (end_at (suc place)) (c.if-is_some.ensures ∙ ap is_some found) low in
    sym (c.loop-place.invariant.rest ∙ bad_here (c.args.section.until - place) place passes (omega (arith, c.loop-place-test.true)) bad)

pub loop-place-preserved : goal.loop-place-preserved
loop-place-preserved g c =
    let leg = leg_in c.args.cursor.now.range in
    let begin = c.args.section.begin in
    let place = c.loop-place.place in
    let checked = λ (k : ℕ). check g.M.Consistency.rules leg k c.args.section.group.0 in
    let end_at = λ (k : ℕ). slice_index c.args.ends.now (k - begin) in
    let passes = λ (k : ℕ). is_none (checked k) || nat_le (suc k) (end_at (suc k)) in
    let found = rw (c.go_to.ensures.range, c.loop-place.invariant.range, c.in_ok-go_to.ensures.moment, add-one) at c.check-check.ensures in
    let ok : passes place ≡ true =
    elim c.else-is_some.branch [
      | else-is_some-via-then-is_some+else-ends-place w ↦
          let high : place < end_at (suc place) = subst (λ n. place < end_at n) (add-one place) w.if-ends-place.false in
          ends_later (checked place) place (end_at (suc place)) high
      | else-is_some-via-else-is_some w ↦ no_check (checked place) (nat_le (suc place) (end_at (suc place))) (w.if-is_some.ensures ∙ ap is_some found)
    ] in
    record {
      range = c.go_to.ensures.range ∙ c.loop-place.invariant.range;
      rest = c.loop-place.invariant.rest ∙ good_here (c.args.section.until - place) (c.args.section.until - (place + 1)) place (place + 1) passes (omega (arith, c.loop-place-test.true)) (omega arith) ok;
    }

pub returns-clause-gap : goal.returns-clause-gap
returns-clause-gap g c =
    let leg = leg_in c.args.cursor.now.range in
    let passes = λ (place : ℕ). is_none (check g.M.Consistency.rules leg place c.args.section.group.0) || nat_le (suc place) (slice_index c.args.ends.now (suc place - c.args.section.begin)) in
    sym (c.loop-place.invariant.rest ∙ none_bad (c.args.section.until - c.loop-place.place) c.loop-place.place passes (omega (arith, c.loop-place-test.false)))

pub overflow_add-place-then-is_some : goal.overflow_add-place-then-is_some
overflow_add-place-then-is_some g c = grind (arith, common_steps)
