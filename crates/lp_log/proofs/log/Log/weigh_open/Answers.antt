use Rattle.std.proofs.Common.{◌≡◌, ◌∙◌, ap, length, subst, ℕ, ◌≤◌, ◌↔◌, Err}
use Rattle.lp_transition.specs.declared.engine.step.Halt.TheVariants.{JournalFull}
use Rattle.lp_log.specs.Journals.{Written}
use Rattle.lp_log.specs.Logs.{Logged}
use Rattle.lp_log.proofs.Longer.{number_of}
use Rattle.lp_log.proofs.log.Log.weigh_open.Goals as goal

pub returns-clause-full : goal.returns-clause-full
returns-clause-full g c =
    let journal : Written = record { patches = c.self.inside.patches; boots = c.self.inside.boots.items; entries = c.self.inside.entries.items } in
    let n : c.self.inside.core.number ≡ length c.args.self.now.journal.entries = number_of g.M.Consistency.rules c.self.inside.core journal c.self.invariant ∙ ap (λ (l : Logged). length l.journal.entries) c.self.view_is in
    subst (λ (k : ℕ). (c.weigh_open.result ≡ Err JournalFull) ↔ (1000000 ≤ k)) n c.weigh_open.ensures.full
