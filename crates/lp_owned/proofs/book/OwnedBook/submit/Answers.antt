use Rattle.std.proofs.Common.{◌≡◌, ◌∷◌, ◌++◌, [], List, Option, Some, IfOk, ℕ, true, ap, subst, sym, ◌∙◌}
use Rattle.lp_definitions.specs.declared.reply.Reply.{Reply}
use Rattle.lp_machine.specs.Steps.{StandsIn}
use Rattle.lp_machine.specs.Table.{state_in}
use Rattle.lp_log.specs.Audits.{part_of, was_used}
use Rattle.lp_log.specs.Entries.{Entry}
use Rattle.lp_log.specs.Journals.{Written, and_entry, next_entry, run_of}
use Rattle.lp_log.specs.Logs.{Logged}
use Rattle.lp_log.specs.Seats.{Seated, owner}
use Rattle.lp_parts.specs.Parts.{Among, part_for}
use Rattle.lp_parts.proofs.Moves.{part_own}
use Rattle.lp_owned.specs.Owned.{IsKept, key_of}
use Rattle.lp_owned.proofs.Kept.{child_has_none, child_if, child_is_free, kept_as, kept_longer, kept_seated}
use Rattle.lp_owned.proofs.book.OwnedBook.submit.Goals as goal
use Rattle.lp_owned.proofs.book.OwnedBook.submit.Goals.{in-Ok, in-Err}

pub seated-child-requires-clause-free : goal.seated-child-requires-clause-free
seated-child-requires-clause-free g c =
    let journal : Written = c.self.inside.book.journal in
    let stands = subst (λ (l : Logged). StandsIn g.M.Consistency.rules (run_of l.journal) (state_in l.core)) c.log.ensures.value c.core-stands.ensures.stands in
    let given : Reply = c.in-Ok.field-0.reply in
    child_if c.in-Ok.field-0.child c.args.event given.what (λ (seat : Seated). Among (Some seat.task) c.add-part.new.self.out → ⊥) c.in-Ok.ensures.child
    (λ child born at. child_is_free g.N.DeskName.desk g.M.Consistency.rules g.met.M.Consistency.lawful journal c.log.ensures.named (state_in c.self.inside.book.core) stands c.args.event given c.in-Ok.ensures.sent.reply c.self.inside.keeper c.self.invariant child born (subst (Among (Some child)) c.add-part.ensures.out at))

pub seated-child-requires-clause-none : goal.seated-child-requires-clause-none
seated-child-requires-clause-none g c =
    let journal : Written = c.self.inside.book.journal in
    let stands = subst (λ (l : Logged). StandsIn g.M.Consistency.rules (run_of l.journal) (state_in l.core)) c.log.ensures.value c.core-stands.ensures.stands in
    let given : Reply = c.in-Ok.field-0.reply in
    let whose : (t : ℕ) → owner c.args.event ≡ Some t → was_used journal t ≡ true = λ t is.
    let same : c.seat.inside.seat.task ≡ t = cc (c.in-Ok.ensures.yours, is) in
    subst (λ (u : ℕ). was_used journal u ≡ true) same (c.self.invariant.out c.seat.inside.seat.task (subst (λ (k : Option ℕ). Among k c.self.inside.keeper.out) c.seat.invariant.0 c.add-part.ensures.among)) in
    let entry_is : c.last_entry.result.now ≡ next_entry journal.entries c.args.event given = c.last_entry.ensures c.seat.inside.seat.entries (next_entry journal.entries c.args.event given) (ap (λ (seat : Seated). seat.entries) c.in-Ok.ensures.seat) in
    let whole_is : c.add-part.new.self.all ≡ c.self.inside.keeper.all ++ next_entry journal.entries c.args.event given ∷ [] = c.add-part.ensures.all ∙ ap (λ (e : Entry). c.self.inside.keeper.all ++ e ∷ []) entry_is in
    child_if c.in-Ok.field-0.child c.args.event given.what (λ (seat : Seated). part_for key_of (Some seat.task) c.add-part.new.self.all ≡ []) c.in-Ok.ensures.child
    (λ child born. ap (part_for key_of (Some child)) whole_is ∙ child_has_none g.N.DeskName.desk g.M.Consistency.rules g.met.M.Consistency.lawful journal c.log.ensures.named (state_in c.self.inside.book.core) stands c.args.event given c.in-Ok.ensures.sent.reply c.self.inside.keeper c.self.invariant whose child born)

pub invariant_of-self : goal.invariant_of-self
invariant_of-self g c =
    let journal : Written = c.self.inside.book.journal in
    let stands = subst (λ (l : Logged). StandsIn g.M.Consistency.rules (run_of l.journal) (state_in l.core)) c.log.ensures.value c.core-stands.ensures.stands in
    elim c.match-submit.branch [
      | in-Ok w ↦
          let given : Reply = w.in-Ok.field-0.reply in
          let whose : (t : ℕ) → owner c.args.event ≡ Some t → was_used journal t ≡ true = λ t is.
          let same : c.seat.inside.seat.task ≡ t = cc (w.in-Ok.ensures.yours, is) in
          subst (λ (u : ℕ). was_used journal u ≡ true) same (c.self.invariant.out c.seat.inside.seat.task (subst (λ (k : Option ℕ). Among k c.self.inside.keeper.out) c.seat.invariant.0 w.add-part.ensures.among)) in
          let entry_is : w.last_entry.result.now ≡ next_entry journal.entries c.args.event given = w.last_entry.ensures c.seat.inside.seat.entries (next_entry journal.entries c.args.event given) (ap (λ (seat : Seated). seat.entries) w.in-Ok.ensures.seat) in
          let whole_is : w.add-part.new.self.all ≡ c.self.inside.keeper.all ++ next_entry journal.entries c.args.event given ∷ [] = w.add-part.ensures.all ∙ ap (λ (e : Entry). c.self.inside.keeper.all ++ e ∷ []) entry_is in
          let first = kept_longer g.N.DeskName.desk g.M.Consistency.rules g.met.M.Consistency.lawful journal c.log.ensures.named (state_in c.self.inside.book.core) stands c.args.event given w.in-Ok.ensures.sent.reply c.self.inside.keeper c.self.invariant whose in
          let added = kept_as g.N.DeskName.desk (and_entry journal c.args.event given) _ w.add-part.new.self first whole_is w.add-part.ensures.out in
          let last = kept_seated g.N.DeskName.desk g.M.Consistency.rules g.met.M.Consistency.lawful journal c.log.ensures.named (state_in c.self.inside.book.core) stands c.args.event given w.in-Ok.ensures.sent.reply c.self.inside.keeper c.self.invariant w.in-Ok.field-0.child w.add-part.new.self w.seated-child.new.keeper added w.in-Ok.ensures.child w.seated-child.ensures.all w.seated-child.ensures.out in
          subst (λ inside. IsKept g.N.DeskName.desk inside.book.journal inside.keeper) (sym w.self-inside-is) (subst (λ (j : Written). IsKept g.N.DeskName.desk j w.seated-child.new.keeper) (sym w.in-Ok.ensures.journal) last)
      | in-Err w ↦
          subst (λ inside. IsKept g.N.DeskName.desk inside.book.journal inside.keeper) (sym w.self-inside-is) (subst (λ (j : Written). IsKept g.N.DeskName.desk j c.self.inside.keeper) (sym w.in-Err.ensures.unchanged.journal) c.self.invariant)
    ]

pub returns-clause-after : goal.returns-clause-after
returns-clause-after g c =
    let journal : Written = c.self.inside.book.journal in
    elim c.match-submit.branch [
      | in-Ok w ↦
          let given : Reply = w.in-Ok.field-0.reply in
          let task : ℕ = c.seat.inside.seat.task in
          let entry : Entry = next_entry journal.entries c.args.event given in
          let before : c.seat.inside.seat.entries ≡ part_of task journal.entries =
          sym c.seat.invariant.1 ∙ w.add-part.ensures.was
          ∙ ap (λ (k : Option ℕ). part_for key_of k c.self.inside.keeper.all) c.seat.invariant.0
          ∙ ap (part_of task) c.self.invariant.all in
          let after : w.in-Ok.field-0.seat.entries ≡ part_of task (and_entry journal c.args.event given).entries =
          ap (λ (seat : Seated). seat.entries) w.in-Ok.ensures.seat
          ∙ ap (λ (es : List Entry). es ++ entry ∷ []) before
          ∙ sym (part_own key_of (Some task) journal.entries entry w.in-Ok.ensures.yours) in
          let there : w.in-Ok.field-0.seat.entries ≡ part_of task c.submit.new.self.journal.entries =
          after ∙ ap (λ (j : Written). part_of task j.entries) (sym w.in-Ok.ensures.journal) in
          subst (λ r. IfOk r (λ done. done.seat.entries ≡ part_of c.args.seat.task c.match-submit.self-inside.book.journal.entries)) (sym w.result-is)
          (subst (λ inside. w.in-Ok.field-0.seat.entries ≡ part_of c.args.seat.task inside.book.journal.entries) (sym w.self-inside-is)
          (subst (λ (seat : Seated). w.in-Ok.field-0.seat.entries ≡ part_of seat.task c.submit.new.self.journal.entries) c.seat.view_is there))
      | in-Err w ↦
          subst (λ r. IfOk r (λ done. done.seat.entries ≡ part_of c.args.seat.task c.match-submit.self-inside.book.journal.entries)) (sym w.result-is) tt
    ]
