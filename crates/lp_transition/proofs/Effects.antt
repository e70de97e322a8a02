-- The engine after an accepted event that takes no group over.
use Rattle.std.proofs.Common.{◌≡◌, ℕ, suc, ◌+◌, ◌<◌, true, false, Option, Some, None, not, nat_eq, refl, sym, ap, ◌∙◌, subst, ⊎_elim, add-one, arith}
use Rattle.std.proofs.lemmas.Bool.{cases_eq}
use Rattle.std.specs.Option.{option_map}
use Rattle.lp_numbers.specs.Numbers.{Numbers}
use Rattle.lp_model.specs.Rules.{Rules, IsLawful}
use Rattle.lp_definitions.specs.declared.event.Event.{Event}
use Rattle.lp_definitions.specs.declared.refusal.Refusal.{Refusal}
use Rattle.lp_definitions.specs.Events.{is_control}
use Rattle.lp_definitions.specs.Tasks.{Fate, change}
use Rattle.lp_definitions.specs.Leg.{LegTask, State}
use Rattle.lp_definitions.specs.Sound.{IsSound}
use Rattle.lp_machine.specs.Machine.{refusal_of, switches_at, affected, next, own_effect}
use Rattle.lp_machine.specs.Table.{Table, Engine, LastScan, IsWide, slot, leg_tasks, state_in}
use Rattle.lp_tasks.specs.inside.Table.{changed, is_off}
use Rattle.lp_transition.specs.inside.Invariant.{IsEngine}
use Rattle.lp_machine_laws.proofs.States.{next_keeps_sound}
use Rattle.lp_machine.proofs.EngineLemmas.{is_unchecked, unchecked-control, unchecked-stays, next-still, next-refused}
use Rattle.lp_tasks.proofs.TableLemmas.{leg_tasks-changed, slot-changed, slot-changed_other, IsWide-changed}

-- one event more, and another table
abbrev pub with_table : Table → Engine → Engine
with_table table e = record e { number = e.number + 1; table = table }

-- an engine has taken an event: it keeps what it has to, and is where the machine goes
pub record HasTaken (model : Rules) (old : Engine) (event : Event) (new : Engine) (waiting : Numbers) : Type 0 where
  pub kept : IsEngine new waiting
  pub state : state_in new ≡ next model (state_in old) event

-- the same engine, where something else is known of its last scan
pub with_scan : (model : Rules) (old new : Engine) (event : Event) (waiting : Numbers) (last : LastScan) → HasTaken model old event new waiting → HasTaken model old event (record new { last_scan = last }) waiting
with_scan model old new event waiting last taken =
    let kept = taken.kept in
    record {
      kept = record {
        sound = kept.sound;
        wide = kept.wide;
        waiting_wide = kept.waiting_wide;
        waits = kept.waits;
        between = kept.between;
        from_fits = kept.from_fits;
        target_fits = kept.target_fits;
        number_fits = kept.number_fits;
      };
      state = taken.state;
    }

-- the state of an engine whose table stands for these tasks
pub state-with_table : (e : Engine) (table : Table) (tasks : ℕ → Fate LegTask) → leg_tasks table ≡ tasks → state_in (with_table table e) ≡ (let s = state_in e in record s { number = suc s.number; tasks = tasks })
state-with_table e table tasks is =
    ap {A = ℕ → Fate LegTask} {B = State} (λ now. let s = state_in e in record s { number = e.number + 1; tasks = now }) is
    ∙ ap {A = ℕ} {B = State} (λ n. let s = state_in e in record s { number = n; tasks = tasks }) (add-one e.number)

-- where an engine goes is sound
pub sound_next : (model : Rules) → IsLawful model → (e new : Engine) (event : Event) → IsSound (state_in e) → state_in new ≡ next model (state_in e) event → IsSound (state_in new)
sound_next model lawful e new event sound is = subst IsSound (sym is) (next_keeps_sound model lawful (state_in e) event sound)

-- a change that keeps levels keeps who is off the target
is_off-map : (target : ℕ) (f : LegTask → LegTask) → ((x : LegTask) → (f x).level ≡ x.level) → (o : Option LegTask) → is_off target (option_map f o) ≡ is_off target o
is_off-map target f keeps None = refl
is_off-map target f keeps (Some x) = ap (λ l. not (nat_eq l target)) (keeps x)

pub is_off-changed : (table : Table) (t u target : ℕ) (f : LegTask → LegTask) → IsWide table → t < 65536 → ((x : LegTask) → (f x).level ≡ x.level) → is_off target (slot (changed t f table) u) ≡ is_off target (slot table u)
is_off-changed table t u target f wide h keeps =
    ⊎_elim
    (λ (e : u ≡ t). subst (λ v. is_off target (slot (changed t f table) v) ≡ is_off target (slot table v)) (sym e) (ap (is_off target) (slot-changed table t f wide h) ∙ is_off-map target f keeps (slot table t)))
    (λ (ne : u ≡ t → ⊥). ap (is_off target) (slot-changed_other table t u f ne))
    (cases_eq u t)

module _ (model : Rules) (lawful : IsLawful model) where
  -- an event at which no group switches, and whose own effect is a change of one live task, which keeps its level and its group
  by_change : (e : Engine) (waiting : Numbers) (event : Event) (t : ℕ) (f : LegTask → LegTask) → IsEngine e waiting → t < 65536 → e.number < 1000000 → is_control event ≡ false → ((group : ℕ) → switches_at model (affected model (state_in e) event) event group ≡ false) → refusal_of model (state_in e) event ≡ None
      → own_effect model.child_group (suc e.number) event (leg_tasks e.table) ≡ change t f (leg_tasks e.table) → ((x : LegTask) → (f x).level ≡ x.level) → ((x : LegTask) → (f x).group ≡ x.group)
      → HasTaken model e event (with_table (changed t f e.table) e) waiting
  by_change e waiting event t f kept h room plain none accepted own levels groups =
      let there = state-with_table e (changed t f e.table) (own_effect model.child_group (suc e.number) event (leg_tasks e.table)) (leg_tasks-changed e.table t f kept.wide h ∙ sym own) ∙ sym (next-still model (state_in e) event accepted plain none) in
      record {
        kept = record {
          sound = sound_next model lawful e (with_table (changed t f e.table) e) event kept.sound there;
          wide = IsWide-changed e.table t f kept.wide;
          waiting_wide = kept.waiting_wide;
          waits = λ u. kept.waits u ∙ sym (is_off-changed e.table t u e.target f kept.wide h levels);
          between = λ u off. is_off-changed e.table t u e.from f kept.wide h levels ∙ kept.between u (sym (is_off-changed e.table t u e.target f kept.wide h levels) ∙ off);
          from_fits = kept.from_fits;
          target_fits = kept.target_fits;
          number_fits = omega arith;
        };
        state = there;
      }

  -- the same, of the engine that code holds
  pub takes_change_still : (e old : Engine) (table : Table) (waiting : Numbers) (event : Event) (t : ℕ) (f : LegTask → LegTask) → e ≡ old → table ≡ changed t f e.table → IsEngine e waiting → t < 65536 → old.number < 1000000
      → is_control event ≡ false → ((group : ℕ) → switches_at model (affected model (state_in old) event) event group ≡ false) → refusal_of model (state_in old) event ≡ None
      → own_effect model.child_group (suc e.number) event (leg_tasks e.table) ≡ change t f (leg_tasks e.table) → ((x : LegTask) → (f x).level ≡ x.level) → ((x : LegTask) → (f x).group ≡ x.group)
      → HasTaken model old event (with_table table e) waiting
  takes_change_still e old table waiting event t f was is kept h room plain none accepted own levels groups =
      subst (λ o. HasTaken model o event (with_table table e) waiting) was
      (subst (λ now. HasTaken model e event (with_table now e) waiting) (sym is)
      (by_change e waiting event t f kept h (subst (λ o. o.number < 1000000) (sym was) room) plain (subst (λ o. (group : ℕ) → switches_at model (affected model (state_in o) event) event group ≡ false) (sym was) none) (subst (λ o. refusal_of model (state_in o) event ≡ None) (sym was) accepted) own levels groups))

  -- and for a quiet event
  pub takes_change : (e old : Engine) (table : Table) (waiting : Numbers) (event : Event) (t : ℕ) (f : LegTask → LegTask) → e ≡ old → table ≡ changed t f e.table → IsEngine e waiting → t < 65536 → old.number < 1000000 → is_unchecked event ≡ true → refusal_of model (state_in old) event ≡ None
      → own_effect model.child_group (suc e.number) event (leg_tasks e.table) ≡ change t f (leg_tasks e.table) → ((x : LegTask) → (f x).level ≡ x.level) → ((x : LegTask) → (f x).group ≡ x.group)
      → HasTaken model old event (with_table table e) waiting
  takes_change e old table waiting event t f was is kept h room quiet accepted own levels groups =
      takes_change_still e old table waiting event t f was is kept h room (unchecked-control model event quiet) (λ group. unchecked-stays model (affected model (state_in old) event) event group quiet) accepted own levels groups

  -- an event that leaves the tasks alone, and at which no group switches
  pub takes_nothing : (e old : Engine) (waiting : Numbers) (event : Event) → e ≡ old → IsEngine e waiting → old.number < 1000000
      → is_control event ≡ false → ((group : ℕ) → switches_at model (affected model (state_in old) event) event group ≡ false) → refusal_of model (state_in old) event ≡ None
      → own_effect model.child_group (suc e.number) event (leg_tasks e.table) ≡ leg_tasks e.table
      → HasTaken model old event (with_table e.table e) waiting
  takes_nothing e old waiting event was kept room plain none accepted own =
      let there = state-with_table e e.table (own_effect model.child_group (suc e.number) event (leg_tasks e.table)) (sym own)
      ∙ sym (next-still model (state_in e) event (subst (λ o. refusal_of model (state_in o) event ≡ None) (sym was) accepted) plain (subst (λ o. (group : ℕ) → switches_at model (affected model (state_in o) event) event group ≡ false) (sym was) none)) in
      let fits : e.number < 1000000 = subst (λ o. o.number < 1000000) (sym was) room in
      subst (λ o. HasTaken model o event (with_table e.table e) waiting) was (record {
        kept = record {
          sound = sound_next model lawful e (with_table e.table e) event kept.sound there;
          wide = kept.wide;
          waiting_wide = kept.waiting_wide;
          waits = kept.waits;
          between = kept.between;
          from_fits = kept.from_fits;
          target_fits = kept.target_fits;
          number_fits = omega arith;
        };
        state = there;
      })

  -- a refused event
  pub takes_refused : (e old : Engine) (waiting : Numbers) (event : Event) (why : Refusal) → e ≡ old → IsEngine e waiting → old.number < 1000000 → refusal_of model (state_in old) event ≡ Some why
      → HasTaken model old event (with_table e.table e) waiting
  takes_refused e old waiting event why was kept room refused =
      let there = state-with_table e e.table (leg_tasks e.table) refl ∙ sym (next-refused model (state_in e) event why (subst (λ o. refusal_of model (state_in o) event ≡ Some why) (sym was) refused)) in
      let fits : e.number < 1000000 = subst (λ o. o.number < 1000000) (sym was) room in
      subst (λ o. HasTaken model o event (with_table e.table e) waiting) was (record {
        kept = record {
          sound = sound_next model lawful e (with_table e.table e) event kept.sound there;
          wide = kept.wide;
          waiting_wide = kept.waiting_wide;
          waits = kept.waits;
          between = kept.between;
          from_fits = kept.from_fits;
          target_fits = kept.target_fits;
          number_fits = omega arith;
        };
        state = there;
      })
