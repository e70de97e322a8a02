use Rattle.std.proofs.Common.{◌≡◌, ℕ, suc, ◌-◌, ◌||◌, is_none, nat_le, slice_index}
use Rattle.lp_definitions.specs.Leg.{check}
use Rattle.lp_definitions.specs.Judgement.{first_bad}
use Rattle.lp_checker.specs.inside.Cursors.{leg_in}
use Rattle.lp_checker.proofs.gaps.first_gap.Given as goal

-- no gap so far
abbrev pub invariant-loop-place : goal.invariant-loop-place
invariant-loop-place g l = record {
  range : l.cursor.range ≡ l.fn.cursor.range;
  rest :
      let passes = λ (place : ℕ). is_none (check g.M.Consistency.rules (leg_in l.fn.cursor.range) place l.fn.section.group.0) || nat_le (suc place) (slice_index l.fn.ends (suc place - l.fn.section.begin)) in
      first_bad (l.fn.section.until - l.fn.section.begin) l.fn.section.begin passes ≡ first_bad (l.fn.section.until - l.place) l.place passes;
}
