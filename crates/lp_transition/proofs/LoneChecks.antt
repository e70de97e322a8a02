-- The engine at an own check.
use Rattle.std.proofs.Common.{◌≡◌, ◌≢◌, ◌<◌, ◌≤◌, ℕ, suc, Bool, true, false, not, ◌&&◌, length, set, Some, None, IsTrue, ◌↔◌, nat_eq, refl, sym, ap, ◌∙◌, subst, ⊎_elim, arith}
use Rattle.std.proofs.lemmas.Bool.{false≢true, cases_Bool, cases_eq, eq-eqb, ne_eqb, cond-true, cond-false}
use Rattle.std.proofs.lemmas.List.{length-set, get_or-set_same, get_or-set_other}
use Rattle.std.specs.Option.{option_map}
use mathlib.Core.Path.{fun_ext}
use Rattle.lp_numbers.specs.Numbers.{Numbers, has}
use Rattle.lp_model.specs.Rules.{Rules, IsLawful}
use Rattle.lp_model.specs.declared.check.CheckKind.{CheckKind}
use Rattle.lp_definitions.specs.declared.event.Event.{Event}
use Rattle.lp_definitions.specs.Events.{is_control}
use Rattle.lp_definitions.specs.Tasks.{Fate, Unused, Live, Dead, map_live, change}
use Rattle.lp_definitions.specs.Leg.{LegTask, State, is_alone}
use Rattle.lp_machine.specs.Machine.{LegTasks, outlines_of, view_of, waits_in, switches_at, switched_task, refusal_of, affected, next, own_effect}
use Rattle.lp_machine.specs.Table.{Table, Engine, slot, leg_tasks, state_in, bounds_of}
use Rattle.lp_tasks.specs.inside.Table.{changed, is_off}
use Rattle.lp_transition.specs.inside.Invariant.{IsBetween, IsEngine}
use Rattle.lp_machine.proofs.EngineLemmas.{next-accepted}
use Rattle.lp_tasks.proofs.TableLemmas.{leg_tasks-changed, slot-changed, slot-changed_other, IsWide-changed, slot-zero, live_from_slot}
use Rattle.lp_tasks.proofs.MemberLemmas.{Member, IsLone, slot-positive, lone-told, it_waits}
use Rattle.lp_transition.proofs.Effects.{HasTaken, with_table, state-with_table, sound_next}
use Rattle.lp_machine.proofs.Alone.{ChecksAlone, waits-same, alone-same, alone-other, alone-stays, other-stays, quiet-stays, alone-switches}

-- the state in which a task is changed and asked
abbrev pub asked : Engine → ℕ → (LegTask → LegTask) → State
asked e t f = record (state_in e) { number = suc e.number; tasks = change t f (leg_tasks e.table) }

-- a task is put on a level
abbrev pub put_on : ℕ → LegTask → LegTask
put_on level y = record y { level = level }

module _ (model : Rules) (lawful : IsLawful model) (e : Engine) (waiting : Numbers) (kept : IsEngine e waiting) (event : Event) (kind : CheckKind) (t : ℕ) (small : t < 65536) (f : LegTask → LegTask) (levels : (x : LegTask) → (f x).level ≡ x.level) (groups : (x : LegTask) → (f x).group ≡ x.group) (x : LegTask) (there : slot e.table t ≡ Some x) (checks : ChecksAlone (bounds_of e.patches) (change t f (leg_tasks e.table)) event t kind) where
  empty : slot e.table 0 ≡ None
  empty = slot-zero e kept.sound

  positive : 0 < t
  positive = slot-positive e.table t x empty there

  live : leg_tasks e.table t ≡ Live x
  live = live_from_slot e.table t x there

  now_live : change t f (leg_tasks e.table) t ≡ Live (f x)
  now_live = cond-true _ _ _ (eq-eqb t t refl) ∙ ap (map_live f) live

  waits_for : has waiting t ≡ true → IsTrue (waits_in (asked e t f) (f x).group)
  waits_for w =
      waits-same t f levels groups (bounds_of e.patches) e.target (f x).group (leg_tasks e.table)
      ∙ (it_waits e.table e.patches kept.wide empty waiting e.target kept.waits (f x).group).1 (record { number = t; waits = w; member = record { task = x; there = there; grouped = sym (groups x) } })

  off : (y : LegTask) (u : ℕ) → slot e.table u ≡ Some y → not (nat_eq y.level e.target) ≡ has waiting u
  off y u at = sym (kept.waits u ∙ ap (is_off e.target) at)

  quiet : has waiting t ≡ false → waits_in (asked e t f) (f x).group ≡ false
  quiet w = by (waits_in (asked e t f) (f x).group) refl
    where
      by : (b : Bool) → waits_in (asked e t f) (f x).group ≡ b → waits_in (asked e t f) (f x).group ≡ false
      by false h = h
      by true h =
          let one = (it_waits e.table e.patches kept.wide empty waiting e.target kept.waits (f x).group).0 (sym (waits-same t f levels groups (bounds_of e.patches) e.target (f x).group (leg_tasks e.table)) ∙ h) in
          let level : x.level ≡ one.member.task.level = kept.sound.one_side t one.number x one.member.task live (live_from_slot e.table one.number one.member.task one.member.there) (sym (groups x) ∙ sym one.member.grouped) in
          let mine = off x t there ∙ w in
          let other = off one.member.task one.number one.member.there ∙ one.waits in
          let same = ap (λ l. not (nat_eq l e.target)) level in
          absurd (cc)

  -- a test that tells whether the task is alone
  told_alone : (one : Bool) → IsTrue one ↔ IsLone e.table (f x).group t → is_alone (bounds_of e.patches) (outlines_of (change t f (leg_tasks e.table))) (f x).group t ≡ one
  told_alone one told =
      let member : Member e.table (f x).group t = record { task = x; there = there; grouped = sym (groups x) } in
      alone-same t f levels groups (bounds_of e.patches) (f x).group (leg_tasks e.table) ∙ sym (lone-told e.table e.patches kept.wide empty (f x).group t member one told)

  within_bounds : t ≤ 65535
  within_bounds = omega (arith, small)

  -- what code asks of a task that is checked alone
  pub switches-alone : (w : Bool) → has waiting t ≡ w → (one : Bool) → (w ≡ true → IsTrue one ↔ IsLone e.table (f x).group t) → switches_at model (asked e t f) event (f x).group ≡ (w && (one && model.admits kind (view_of t (f x)) (record { patches = e.patches; target = e.target })))
  switches-alone false w one told = quiet-stays model lawful (asked e t f) event t kind (f x) checks now_live positive within_bounds (f x).group (quiet w)
  switches-alone true w false told = alone-stays model lawful (asked e t f) event t kind (f x) checks now_live positive within_bounds (f x).group (told_alone false (told refl))
  switches-alone true w true told = alone-switches model lawful (asked e t f) event t kind (f x) checks now_live positive within_bounds (waits_for w) (told_alone true (told refl))

  -- where its group doesn't switch, none does
  pub none-switches : switches_at model (asked e t f) event (f x).group ≡ false → (group : ℕ) → switches_at model (asked e t f) event group ≡ false
  none-switches stays group =
      ⊎_elim
      (λ (same : (f x).group ≡ group). subst (λ g. switches_at model (asked e t f) event g ≡ false) same stays)
      (λ (ne : (f x).group ≡ group → ⊥). other-stays model lawful (asked e t f) event t kind (f x) checks now_live positive within_bounds group ne)
      (cases_eq (f x).group group)

  -- ---- Where the group switches

  lone : switches_at model (asked e t f) event (f x).group ≡ true → IsTrue (is_alone (bounds_of e.patches) (outlines_of (change t f (leg_tasks e.table))) (f x).group t)
  lone switches = by (is_alone (bounds_of e.patches) (outlines_of (change t f (leg_tasks e.table))) (f x).group t) refl
    where
      by : (b : Bool) → is_alone (bounds_of e.patches) (outlines_of (change t f (leg_tasks e.table))) (f x).group t ≡ b → IsTrue (is_alone (bounds_of e.patches) (outlines_of (change t f (leg_tasks e.table))) (f x).group t)
      by true h = h
      by false h = let stays = alone-stays model lawful (asked e t f) event t kind (f x) checks now_live positive within_bounds (f x).group h in absurd (cc)

  -- another live task is in another group
  apart : switches_at model (asked e t f) event (f x).group ≡ true → (u : ℕ) (z : LegTask) → u ≢ t → change t f (leg_tasks e.table) u ≡ Live z → (f x).group ≢ z.group
  apart switches u z ne at same =
      let before : leg_tasks e.table u ≡ Live z = sym (cond-false _ _ _ (ne_eqb u t ne)) ∙ at in
      let bounds = kept.sound.numbered u z before in
      ne (alone-other (bounds_of e.patches) (change t f (leg_tasks e.table)) (f x).group t (f x) now_live refl (lone switches) u z bounds.0 bounds.1 at (sym same))

  switched-fate : switches_at model (asked e t f) event (f x).group ≡ true → (u : ℕ) → u ≢ t → (fate : Fate LegTask) → change t f (leg_tasks e.table) u ≡ fate → map_live (switched_task model (asked e t f) event) fate ≡ fate
  switched-fate switches u ne Unused at = refl
  switched-fate switches u ne (Live z) at = ap Live (cond-false _ _ _ (other-stays model lawful (asked e t f) event t kind (f x) checks now_live positive within_bounds z.group (apart switches u z ne at)))
  switched-fate switches u ne Dead at = refl

  -- so the task alone switches
  switched-one : switches_at model (asked e t f) event (f x).group ≡ true → (u : ℕ) → map_live (switched_task model (asked e t f) event) (change t f (leg_tasks e.table) u) ≡ change t (put_on e.target) (change t f (leg_tasks e.table)) u
  switched-one switches u =
      ⊎_elim
      (λ (same : u ≡ t). subst (λ v. map_live (switched_task model (asked e t f) event) (change t f (leg_tasks e.table) v) ≡ change t (put_on e.target) (change t f (leg_tasks e.table)) v) (sym same)
      (ap (map_live (switched_task model (asked e t f) event)) now_live ∙ ap Live (cond-true _ _ _ switches) ∙ sym (cond-true _ _ _ (eq-eqb t t refl) ∙ ap (map_live (put_on e.target)) now_live)))
      (λ (ne : u ≡ t → ⊥). switched-fate switches u ne (change t f (leg_tasks e.table) u) refl ∙ sym (cond-false _ _ _ (ne_eqb u t ne)))
      (cases_eq u t)

  off-after : length waiting ≡ 65536 → (u : ℕ) → has (set waiting t false) u ≡ is_off e.target (slot (changed t (put_on e.target) (changed t f e.table)) u)
  off-after long u =
      let wide = IsWide-changed e.table t f kept.wide in
      let within : t < length waiting = omega (arith, long, small) in
      ⊎_elim
      (λ (same : u ≡ t). subst (λ v. has (set waiting t false) v ≡ is_off e.target (slot (changed t (put_on e.target) (changed t f e.table)) v)) (sym same)
      (get_or-set_same waiting t false false within ∙ sym (ap (is_off e.target) (slot-changed (changed t f e.table) t (put_on e.target) wide small ∙ ap (option_map (put_on e.target)) (slot-changed e.table t f kept.wide small ∙ ap (option_map f) there)) ∙ ap not (eq-eqb e.target e.target refl))))
      (λ (ne : u ≡ t → ⊥). get_or-set_other waiting t u false false ne ∙ kept.waits u ∙ sym (ap (is_off e.target) (slot-changed_other (changed t f e.table) t u (put_on e.target) ne ∙ slot-changed_other e.table t u f ne)))
      (cases_eq u t)

  between-after : (u : ℕ) → IsBetween e.from e.target (slot (changed t (put_on e.target) (changed t f e.table)) u)
  between-after u =
      let wide = IsWide-changed e.table t f kept.wide in
      let here = slot-changed (changed t f e.table) t (put_on e.target) wide small ∙ ap (option_map (put_on e.target)) (slot-changed e.table t f kept.wide small ∙ ap (option_map f) there) in
      ⊎_elim
      (λ (same : u ≡ t). subst (λ v. IsBetween e.from e.target (slot (changed t (put_on e.target) (changed t f e.table)) v)) (sym same)
      (subst (IsBetween e.from e.target) (sym here) (λ off. absurd (false≢true (sym (ap not (eq-eqb e.target e.target refl)) ∙ off)))))
      (λ (ne : u ≡ t → ⊥). subst (IsBetween e.from e.target) (sym (slot-changed_other (changed t f e.table) t u (put_on e.target) ne ∙ slot-changed_other e.table t u f ne)) (kept.between u))
      (cases_eq u t)

  -- the engine after its task switched
  pub switches-switching : e.number < 1000000 → length waiting ≡ 65536 → is_control event ≡ false → refusal_of model (state_in e) event ≡ None → own_effect model.child_group (suc e.number) event (leg_tasks e.table) ≡ change t f (leg_tasks e.table)
      → switches_at model (asked e t f) event (f x).group ≡ true → HasTaken model e event (with_table (changed t (put_on e.target) (changed t f e.table)) e) (set waiting t false)
  switches-switching room long plain accepted own switches =
      let wide = IsWide-changed e.table t f kept.wide in
      let affected-is : affected model (state_in e) event ≡ asked e t f = ap {A = LegTasks} {B = State} (λ now. record (state_in e) { number = suc e.number; tasks = now }) own in
      let tasks : leg_tasks (changed t (put_on e.target) (changed t f e.table)) ≡ (λ u. map_live (switched_task model (asked e t f) event) (change t f (leg_tasks e.table) u)) =
      leg_tasks-changed (changed t f e.table) t (put_on e.target) wide small ∙ ap (change t (put_on e.target)) (leg_tasks-changed e.table t f kept.wide small) ∙ sym (fun_ext (λ u. switched-one switches u)) in
      let state : state_in (with_table (changed t (put_on e.target) (changed t f e.table)) e) ≡ next model (state_in e) event =
      state-with_table e (changed t (put_on e.target) (changed t f e.table)) (λ u. map_live (switched_task model (asked e t f) event) (change t f (leg_tasks e.table) u)) tasks
      ∙ ap {A = State} {B = State} (λ now. record now { tasks = λ u. map_live (switched_task model now event) (now.tasks u) }) (sym affected-is)
      ∙ sym (next-accepted model (state_in e) event accepted plain) in
      record {
        kept = record {
          sound = sound_next model lawful e (with_table (changed t (put_on e.target) (changed t f e.table)) e) event kept.sound state;
          wide = IsWide-changed (changed t f e.table) t (put_on e.target) wide;
          waiting_wide = length-set waiting t false ∙ long;
          waits = λ u. off-after long u;
          between = λ u. between-after u;
          from_fits = kept.from_fits;
          target_fits = kept.target_fits;
          number_fits = omega arith;
        };
        state = state;
      }

  -- what code asks, of the engine that it holds
  pub asks : (old : Engine) → e ≡ old → own_effect model.child_group (suc e.number) event (leg_tasks e.table) ≡ change t f (leg_tasks e.table)
      → (w : Bool) → has waiting t ≡ w → (one : Bool) → (w ≡ true → IsTrue one ↔ IsLone e.table (f x).group t)
      → (w && (one && model.admits kind (view_of t (f x)) (record { patches = e.patches; target = e.target }))) ≡ switches_at model (affected model (state_in old) event) event (f x).group
  asks old was own w is one told =
      let affected-is : affected model (state_in e) event ≡ asked e t f = ap {A = LegTasks} {B = State} (λ now. record (state_in e) { number = suc e.number; tasks = now }) own in
      subst (λ o. (w && (one && model.admits kind (view_of t (f x)) (record { patches = e.patches; target = e.target }))) ≡ switches_at model (affected model (state_in o) event) event (f x).group) was
      (sym (ap {A = State} {B = Bool} (λ now. switches_at model now event (f x).group) affected-is ∙ switches-alone w is one told))

  -- the engine that code holds after its task switched
  pub takes_switch : (old : Engine) (table : Table) (now : Numbers) → e ≡ old → table ≡ changed t (put_on e.target) (changed t f e.table) → now ≡ set waiting t false → length now ≡ 65536 → old.number < 1000000 → is_control event ≡ false → refusal_of model (state_in old) event ≡ None → own_effect model.child_group (suc e.number) event (leg_tasks e.table) ≡ change t f (leg_tasks e.table)
      → switches_at model (affected model (state_in old) event) event (f x).group ≡ true → HasTaken model old event (with_table table e) now
  takes_switch old table now was is removed long room plain accepted own switches =
      let affected-is : affected model (state_in e) event ≡ asked e t f = ap {A = LegTasks} {B = State} (λ tasks. record (state_in e) { number = suc e.number; tasks = tasks }) own in
      let here : switches_at model (asked e t f) event (f x).group ≡ true = ap {A = State} {B = Bool} (λ s. switches_at model s event (f x).group) (sym affected-is) ∙ subst (λ o. switches_at model (affected model (state_in o) event) event (f x).group ≡ true) (sym was) switches in
      let wide : length waiting ≡ 65536 = sym (length-set waiting t false) ∙ ap length (sym removed) ∙ long in
      subst (λ o. HasTaken model o event (with_table table e) now) was
      (subst (λ n. HasTaken model e event (with_table table e) n) (sym removed)
      (subst (λ tb. HasTaken model e event (with_table tb e) (set waiting t false)) (sym is)
      (switches-switching (subst (λ o. o.number < 1000000) (sym was) room) wide plain (subst (λ o. refusal_of model (state_in o) event ≡ None) (sym was) accepted) own here)))

  -- where the task's group stays, every group does
  pub none-switches_now : (old : Engine) → e ≡ old → own_effect model.child_group (suc e.number) event (leg_tasks e.table) ≡ change t f (leg_tasks e.table) → switches_at model (affected model (state_in old) event) event (f x).group ≡ false → (group : ℕ) → switches_at model (affected model (state_in old) event) event group ≡ false
  none-switches_now old was own stays group =
      let affected-is : affected model (state_in e) event ≡ asked e t f = ap {A = LegTasks} {B = State} (λ tasks. record (state_in e) { number = suc e.number; tasks = tasks }) own in
      let here : switches_at model (asked e t f) event (f x).group ≡ false = ap {A = State} {B = Bool} (λ s. switches_at model s event (f x).group) (sym affected-is) ∙ subst (λ o. switches_at model (affected model (state_in o) event) event (f x).group ≡ false) (sym was) stays in
      subst (λ o. switches_at model (affected model (state_in o) event) event group ≡ false) was (ap {A = State} {B = Bool} (λ s. switches_at model s event group) affected-is ∙ none-switches here group)

  -- and every group but the task's own stays anyway
  pub others-stay_now : (old : Engine) → e ≡ old → own_effect model.child_group (suc e.number) event (leg_tasks e.table) ≡ change t f (leg_tasks e.table) → (group : ℕ) → (f x).group ≢ group → switches_at model (affected model (state_in old) event) event group ≡ false
  others-stay_now old was own group ne =
      let affected-is : affected model (state_in e) event ≡ asked e t f = ap {A = LegTasks} {B = State} (λ tasks. record (state_in e) { number = suc e.number; tasks = tasks }) own in
      subst (λ o. switches_at model (affected model (state_in o) event) event group ≡ false) was (ap {A = State} {B = Bool} (λ s. switches_at model s event group) affected-is ∙ other-stays model lawful (asked e t f) event t kind (f x) checks now_live positive within_bounds group ne)

-- a change that changes nothing
same-fate : (fate : Fate LegTask) → fate ≡ map_live (λ y. y) fate
same-fate Unused = refl
same-fate (Live y) = refl
same-fate Dead = refl

pub same-after_nothing : (t : ℕ) (now : LegTasks) → now ≡ change t (λ y. y) now
same-after_nothing t now =
    fun_ext (λ u. ⊎_elim
    (λ (e : nat_eq u t ≡ true). same-fate (now u) ∙ sym (cond-true _ _ _ e))
    (λ (e : nat_eq u t ≡ false). sym (cond-false _ _ _ e))
    (cases_Bool (nat_eq u t)))
