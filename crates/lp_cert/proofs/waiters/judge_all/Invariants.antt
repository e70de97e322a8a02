use Rattle.std.proofs.Common.{◌≡◌, ℕ, true, length, take}
use Rattle.lp_machine.specs.Table.{state_in}
use Rattle.lp_cert.specs.inside.Waiters.{AreJudged, StandsAt, is_left}
use Rattle.lp_cert.proofs.waiters.judge_all.Given as goal

-- the verdicts so far are noted
abbrev pub invariant-loop-verdict : goal.invariant-loop-verdict
invariant-loop-verdict g l = record {
  judged : AreJudged (state_in l.core) l.at (take l.verdict-index l.verdicts) (is_left l.waiting l.fn.refused) (is_left l.waiting l.refused) l.fn.reasons l.reasons;
  stand : (group : ℕ) → is_left l.waiting l.refused group ≡ true → StandsAt (length l.reasons.scans) l.reasons group;
}
