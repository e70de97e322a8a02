use Rattle.std.proofs.Common.{◌≡◌, ℕ, suc, ◌-◌}
use Rattle.lp_definitions.specs.Judgement.{first_bad, is_on_stack}
use Rattle.lp_checker.specs.inside.Cursors.{leg_in}
use Rattle.lp_checker.proofs.lines.first_off.Given as goal

-- the frame was there so far
abbrev pub invariant-loop-moment : goal.invariant-loop-moment
invariant-loop-moment g l = record {
  range : l.cursor.range ≡ l.fn.cursor.range;
  rest :
      let leg = leg_in l.fn.cursor.range in
      let begin : ℕ = l.fn.hold.from - leg.number in
      let end : ℕ = l.fn.hold.to - leg.number in
      let stands = is_on_stack g.M.Consistency.rules leg l.fn.hold.task.0 l.fn.hold.serial in
      first_bad (suc end - begin) begin stands ≡ first_bad (suc end - l.moment) l.moment stands;
}
