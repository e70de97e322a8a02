-- The engine after a task is born, or ends.
use Rattle.std.proofs.Common.{◌≡◌, ℕ, suc, ◌<◌, true, false, not, length, set, Some, None, if◌then◌else◌, nat_eq, refl, sym, ap, ◌∙◌, subst, ⊎_elim, arith}
use Rattle.std.proofs.lemmas.Bool.{cases_eq, eq-eqb, ne_eqb, cond-true, cond-false}
use Rattle.std.proofs.lemmas.List.{length-set, get_or-set_same, get_or-set_other}
use mathlib.Core.Path.{fun_ext}
use Rattle.lp_numbers.specs.Numbers.{Numbers, has}
use Rattle.lp_stack.specs.declared.number.TaskId.{TaskId}
use Rattle.lp_model.specs.Rules.{Rules, IsLawful}
use Rattle.lp_model.specs.declared.check.ForkKind.{ForkKind}
use Rattle.lp_definitions.specs.declared.event.Event.TheVariants.{Fork, Die}
use Rattle.lp_definitions.specs.Tasks.{Live, map_live}
use Rattle.lp_definitions.specs.Leg.{LegTask}
use Rattle.lp_machine.specs.Machine.{refusal_of, own_effect, bearing, affected}
use Rattle.lp_machine.specs.Table.{Table, Engine, IsWide, slot, leg_tasks, state_in}
use Rattle.lp_tasks.specs.inside.Table.{with_task, without_task, is_off}
use Rattle.lp_transition.specs.inside.Invariant.{IsBetween, IsEngine}
use Rattle.lp_transition.specs.inside.Births.{born_of, born_by, child_of}
use Rattle.lp_machine.proofs.EngineLemmas.{unchecked-control, unchecked-stays, next-still}
use Rattle.lp_machine.proofs.Accept.{fork-live, fork-new}
use Rattle.lp_tasks.proofs.TableLemmas.{leg_tasks-with_task, leg_tasks-without_task, slot-with_task, slot-with_task_other, slot-without_task, slot-without_task_other, IsWide-with_task, IsWide-without_task, live_from_slot}
use Rattle.lp_transition.proofs.Effects.{HasTaken, with_table, state-with_table, sound_next}

-- who waits, with a task more
off-with_task : (table : Table) (waiting now : Numbers) (c target : ℕ) (x : LegTask) → IsWide table → c < 65536 → ((t : ℕ) → has waiting t ≡ is_off target (slot table t)) → ((t : ℕ) → has now t ≡ (if nat_eq t c then not (nat_eq x.level target) else has waiting t)) → (t : ℕ) → has now t ≡ is_off target (slot (with_task c x table) t)
off-with_task table waiting now c target x wide h waits put t =
    ⊎_elim
    (λ (e : t ≡ c). put t ∙ cond-true _ _ _ (eq-eqb t c e) ∙ sym (subst (λ u. is_off target (slot (with_task c x table) u) ≡ not (nat_eq x.level target)) (sym e) (ap (is_off target) (slot-with_task table c x wide h))))
    (λ (ne : t ≡ c → ⊥). put t ∙ cond-false _ _ _ (ne_eqb t c ne) ∙ waits t ∙ sym (ap (is_off target) (slot-with_task_other table c t x ne)))
    (cases_eq t c)

-- and with a task fewer
off-without_task : (table : Table) (waiting : Numbers) (t target : ℕ) → IsWide table → length waiting ≡ 65536 → t < 65536 → ((u : ℕ) → has waiting u ≡ is_off target (slot table u)) → (u : ℕ) → has (set waiting t false) u ≡ is_off target (slot (without_task t table) u)
off-without_task table waiting t target wide long h waits u =
    ⊎_elim
    (λ (e : u ≡ t).
    let within : t < length waiting = omega (arith, long) in
    subst (λ v. has (set waiting t false) v ≡ is_off target (slot (without_task t table) v)) (sym e) (get_or-set_same waiting t false false within ∙ sym (ap (is_off target) (slot-without_task table t wide h))))
    (λ (ne : u ≡ t → ⊥). get_or-set_other waiting t u false false ne ∙ waits u ∙ sym (ap (is_off target) (slot-without_task_other table t u ne)))
    (cases_eq u t)

-- a task more that is between the levels
between-with_task : (table : Table) (c from target : ℕ) (x : LegTask) → IsWide table → c < 65536 → IsBetween from target (Some x) → ((t : ℕ) → IsBetween from target (slot table t)) → (t : ℕ) → IsBetween from target (slot (with_task c x table) t)
between-with_task table c from target x wide h child between t =
    ⊎_elim
    (λ (e : t ≡ c). subst (λ u. IsBetween from target (slot (with_task c x table) u)) (sym e) (subst (IsBetween from target) (sym (slot-with_task table c x wide h)) child))
    (λ (ne : t ≡ c → ⊥). subst (IsBetween from target) (sym (slot-with_task_other table c t x ne)) (between t))
    (cases_eq t c)

-- and with a task fewer
between-without_task : (table : Table) (t from target : ℕ) → IsWide table → t < 65536 → ((u : ℕ) → IsBetween from target (slot table u)) → (u : ℕ) → IsBetween from target (slot (without_task t table) u)
between-without_task table t from target wide h between u =
    ⊎_elim
    (λ (e : u ≡ t). subst (λ v. IsBetween from target (slot (without_task t table) v)) (sym e) (subst (IsBetween from target) (sym (slot-without_task table t wide h)) (λ _. refl)))
    (λ (ne : u ≡ t → ⊥). subst (IsBetween from target) (sym (slot-without_task_other table t u ne)) (between u))
    (cases_eq u t)

module _ (model : Rules) (lawful : IsLawful model) where
  by_birth : (e : Engine) (waiting now : Numbers) (p c : TaskId) (how : ForkKind) (x : LegTask) → IsEngine e waiting → length now ≡ 65536 → c.0 < 65536 → e.number < 1000000 → refusal_of model (state_in e) (Fork p c how) ≡ None
      → born_of model (state_in e) (Fork p c how) ≡ Some x → ((t : ℕ) → has now t ≡ (if nat_eq t c.0 then not (nat_eq x.level e.target) else has waiting t))
      → HasTaken model e (Fork p c how) (with_table (with_task c.0 x e.table) e) now
  by_birth e waiting now p c how x kept wide_now h room accepted born put =
      let event = Fork p c how in
      let parent = fork-live model e p c how accepted in
      let fate = live_from_slot e.table p.0 parent.task parent.there in
      let brought : born_by model.child_group None (Fork p c how) (leg_tasks e.table) ≡ Some x = subst (λ o. born_by model.child_group o (Fork p c how) (leg_tasks e.table) ≡ Some x) accepted born in
      let child : Some (bearing model.child_group c.0 how parent.task) ≡ Some x = subst (λ f. child_of model.child_group c.0 (Fork p c how) f ≡ Some x) fate brought in
      let is : bearing model.child_group c.0 how parent.task ≡ x = cc in
      let own : leg_tasks (with_task c.0 x e.table) ≡ own_effect model.child_group (suc e.number) event (leg_tasks e.table) =
      leg_tasks-with_task e.table c.0 x kept.wide h ∙ fun_ext (λ u. ap (λ f. if nat_eq u c.0 then f else leg_tasks e.table u) (sym (ap (map_live (bearing model.child_group c.0 how)) fate ∙ ap Live is))) in
      let there = state-with_table e (with_task c.0 x e.table) (own_effect model.child_group (suc e.number) event (leg_tasks e.table)) own
      ∙ sym (next-still model (state_in e) event accepted (unchecked-control model event refl) (λ g. unchecked-stays model (affected model (state_in e) event) event g refl)) in
      let new = fork-new model e p c how accepted in
      record {
        kept = record {
          sound = sound_next model lawful e (with_table (with_task c.0 x e.table) e) event kept.sound there;
          wide = IsWide-with_task e.table c.0 x kept.wide;
          waiting_wide = wide_now;
          waits = off-with_task e.table waiting now c.0 e.target x kept.wide h kept.waits put;
          between = between-with_task e.table c.0 e.from e.target x kept.wide h (subst (λ y. IsBetween e.from e.target (Some y)) is (subst (IsBetween e.from e.target) parent.there (kept.between p.0))) kept.between;
          from_fits = kept.from_fits;
          target_fits = kept.target_fits;
          number_fits = omega arith;
        };
        state = there;
      }

  -- an accepted fork, of the engine that code holds
  pub takes_birth : (e old : Engine) (table : Table) (waiting now : Numbers) (p c : TaskId) (how : ForkKind) (x : LegTask) → e ≡ old → table ≡ with_task c.0 x e.table → IsEngine e waiting → length now ≡ 65536 → c.0 < 65536 → old.number < 1000000 → refusal_of model (state_in old) (Fork p c how) ≡ None
      → born_of model (state_in old) (Fork p c how) ≡ Some x → ((t : ℕ) → has now t ≡ (if nat_eq t c.0 then not (nat_eq x.level e.target) else has waiting t))
      → HasTaken model old (Fork p c how) (with_table table e) now
  takes_birth e old table waiting now p c how x was is kept wide_now h room accepted born put =
      subst (λ o. HasTaken model o (Fork p c how) (with_table table e) now) was
      (subst (λ t. HasTaken model e (Fork p c how) (with_table t e) now) (sym is)
      (by_birth e waiting now p c how x kept wide_now h (subst (λ o. o.number < 1000000) (sym was) room) (subst (λ o. refusal_of model (state_in o) (Fork p c how) ≡ None) (sym was) accepted) (subst (λ o. born_of model (state_in o) (Fork p c how) ≡ Some x) (sym was) born) put))

  by_death : (e : Engine) (waiting : Numbers) (t : TaskId) → IsEngine e waiting → length waiting ≡ 65536 → t.0 < 65536 → e.number < 1000000 → refusal_of model (state_in e) (Die t) ≡ None
      → has e.table.used t.0 ≡ true
      → HasTaken model e (Die t) (with_table (without_task t.0 e.table) e) (set waiting t.0 false)
  by_death e waiting t kept long h room accepted known =
      let event = Die t in
      let gone = state-with_table e (without_task t.0 e.table) (own_effect model.child_group (suc e.number) event (leg_tasks e.table)) (leg_tasks-without_task e.table t.0 kept.wide h known)
      ∙ sym (next-still model (state_in e) event accepted (unchecked-control model event refl) (λ g. unchecked-stays model (affected model (state_in e) event) event g refl)) in
      record {
        kept = record {
          sound = sound_next model lawful e (with_table (without_task t.0 e.table) e) event kept.sound gone;
          wide = IsWide-without_task e.table t.0 kept.wide;
          waiting_wide = length-set waiting t.0 false ∙ long;
          waits = off-without_task e.table waiting t.0 e.target kept.wide long h kept.waits;
          between = between-without_task e.table t.0 e.from e.target kept.wide h kept.between;
          from_fits = kept.from_fits;
          target_fits = kept.target_fits;
          number_fits = omega arith;
        };
        state = gone;
      }

  -- an accepted end of a task, of the engine that code holds
  pub takes_death : (e old : Engine) (table : Table) (waiting now : Numbers) (t : TaskId) → e ≡ old → table ≡ without_task t.0 e.table → IsEngine e waiting → length now ≡ 65536 → now ≡ set waiting t.0 false → t.0 < 65536 → old.number < 1000000 → refusal_of model (state_in old) (Die t) ≡ None
      → has e.table.used t.0 ≡ true
      → HasTaken model old (Die t) (with_table table e) now
  takes_death e old table waiting now t was is kept long removed h room accepted known =
      subst (λ o. HasTaken model o (Die t) (with_table table e) now) was
      (subst (λ n. HasTaken model e (Die t) (with_table table e) n) (sym removed)
      (subst (λ tb. HasTaken model e (Die t) (with_table tb e) (set waiting t.0 false)) (sym is)
      (by_death e waiting t kept (sym (length-set waiting t.0 false) ∙ ap length (sym removed) ∙ long) h (subst (λ o. o.number < 1000000) (sym was) room) (subst (λ o. refusal_of model (state_in o) (Die t) ≡ None) (sym was) accepted) known)))
