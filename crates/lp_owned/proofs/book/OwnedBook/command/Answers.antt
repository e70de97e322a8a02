use Rattle.std.proofs.Common.{◌≡◌, ◌∷◌, ◌++◌, [], List, None, Option, Some, IfOk, ℕ, true, ap, subst, sym, ◌∙◌}
use Rattle.lp_machine.specs.Steps.{StandsIn}
use Rattle.lp_machine.specs.Table.{state_in}
use Rattle.lp_definitions.specs.declared.reply.Reply.{Reply}
use Rattle.lp_log.specs.Audits.{control_part, was_used}
use Rattle.lp_log.specs.Entries.{Entry}
use Rattle.lp_log.specs.Journals.{Written, and_entry, next_entry, run_of}
use Rattle.lp_log.specs.Logs.{Logged}
use Rattle.lp_log.specs.Seats.{owner}
use Rattle.lp_parts.specs.Parts.{part_for}
use Rattle.lp_parts.proofs.Moves.{part_own}
use Rattle.lp_owned.specs.Owned.{IsKept, key_of}
use Rattle.lp_owned.proofs.Kept.{kept_as, kept_longer, nobodys_part_is}
use Rattle.lp_owned.proofs.book.OwnedBook.command.Goals as goal
use Rattle.lp_owned.proofs.book.OwnedBook.command.Goals.{in-Ok, in-Err}

pub invariant_of-self : goal.invariant_of-self
invariant_of-self g c =
    let journal : Written = c.self.inside.book.journal in
    let stands = subst (λ (l : Logged). StandsIn g.M.Consistency.rules (run_of l.journal) (state_in l.core)) c.log.ensures.value c.core-stands.ensures.stands in
    elim c.match-command.branch [
      | in-Ok w ↦
          let given : Reply = w.in-Ok.field-0.reply in
          let whose : (t : ℕ) → owner c.args.event ≡ Some t → was_used journal t ≡ true = λ t is. absurd (cc (w.in-Ok.ensures.yours, is)) in
          let entry_is : w.last_of.result.now ≡ next_entry journal.entries c.args.event given = w.last_of.ensures c.control.inside.control (next_entry journal.entries c.args.event given) (w.entries.ensures ∙ w.in-Ok.ensures.control) in
          let whole_is : w.add-part.new.self.all ≡ c.self.inside.keeper.all ++ next_entry journal.entries c.args.event given ∷ [] = w.add-part.ensures.all ∙ ap (λ (e : Entry). c.self.inside.keeper.all ++ e ∷ []) entry_is in
          let first = kept_longer g.N.DeskName.desk g.M.Consistency.rules (g.met.M.Consistency g.world.𝓛 g.world.𝓜 g.world.𝓡 ((λ s x. x), (λ x. x), (λ x. x), (λ x. x))).lawful journal c.log.ensures.named (state_in c.self.inside.book.core) stands c.args.event given w.in-Ok.ensures.sent.reply c.self.inside.keeper c.self.invariant whose in
          let added = kept_as g.N.DeskName.desk (and_entry journal c.args.event given) _ w.add-part.new.self first whole_is w.add-part.ensures.out in
          subst (λ inside. IsKept g.N.DeskName.desk inside.book.journal inside.keeper) (sym w.self-inside-is) (subst (λ (j : Written). IsKept g.N.DeskName.desk j w.add-part.new.self) (sym w.in-Ok.ensures.journal) added)
      | in-Err w ↦
          subst (λ inside. IsKept g.N.DeskName.desk inside.book.journal inside.keeper) (sym w.self-inside-is) (subst (λ (j : Written). IsKept g.N.DeskName.desk j c.self.inside.keeper) (sym w.in-Err.ensures.unchanged.journal) c.self.invariant)
    ]

pub returns-clause-after : goal.returns-clause-after
returns-clause-after g c =
    let journal : Written = c.self.inside.book.journal in
    elim c.match-command.branch [
      | in-Ok w ↦
          let given : Reply = w.in-Ok.field-0.reply in
          let entry : Entry = next_entry journal.entries c.args.event given in
          let before : c.control.inside.control ≡ part_for key_of None journal.entries =
          sym c.control.invariant.1 ∙ w.add-part.ensures.was
          ∙ ap (λ (k : Option ℕ). part_for key_of k c.self.inside.keeper.all) c.control.invariant.0
          ∙ ap (part_for key_of None) c.self.invariant.all in
          let after : w.in-Ok.field-0.control ≡ control_part (and_entry journal c.args.event given).entries =
          w.in-Ok.ensures.control
          ∙ ap (λ (es : List Entry). es ++ entry ∷ []) before
          ∙ sym (part_own key_of None journal.entries entry w.in-Ok.ensures.yours)
          ∙ nobodys_part_is (and_entry journal c.args.event given).entries in
          let there : w.in-Ok.field-0.control ≡ control_part c.command.new.self.journal.entries =
          after ∙ ap (λ (j : Written). control_part j.entries) (sym w.in-Ok.ensures.journal) in
          subst (λ r. IfOk r (λ done. done.control ≡ control_part c.match-command.self-inside.book.journal.entries)) (sym w.result-is)
          (subst (λ inside. w.in-Ok.field-0.control ≡ control_part inside.book.journal.entries) (sym w.self-inside-is) there)
      | in-Err w ↦
          subst (λ r. IfOk r (λ done. done.control ≡ control_part c.match-command.self-inside.book.journal.entries)) (sym w.result-is) tt
    ]
