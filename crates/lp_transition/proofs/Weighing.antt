-- The answers of an engine to events of one task.
use Rattle.std.proofs.Common.{◌≡◌, ◌≢◌, ◌<◌, ◌≤◌, ℕ, suc, Bool, true, false, not, ◌&&◌, List, [], ◌∷◌, set, Option, Some, None, IsTrue, nat_eq, if◌then◌else◌, refl, sym, ap, ap₂, ◌∙◌, subst, ⊎_elim, ◌↔◌, arith}
use Rattle.std.proofs.lemmas.Bool.{false≢true, not-false, eq-eqb, ne_eqb, cond-true, cond-false, cases_lt}
use Rattle.std.proofs.lemmas.List.{length-set, get_or_past}
use Rattle.lp_numbers.specs.Numbers.{Numbers, has}
use Rattle.lp_stack.specs.declared.number.TaskId.{TaskId}
use Rattle.lp_symbols.specs.declared.sym_id.SymId.{SymId}
use Rattle.lp_stack.specs.declared.view.Mode.TheVariants.{Kernel, Asleep}
use Rattle.lp_model.specs.Rules.{Rules, IsLawful}
use Rattle.lp_model.specs.declared.check.CheckKind.{CheckKind}
use Rattle.lp_model.specs.declared.check.ForkKind.{ForkKind}
use Rattle.lp_definitions.specs.declared.event.Event.{Event}
use Rattle.lp_definitions.specs.declared.event.Event.TheVariants.{Call, Ret, Sleep, Wake, Enter, Exit, Idle, Resched, Fork, Die, Walk, Stop, Enable, Disable, Reverse}
use Rattle.lp_definitions.specs.declared.refusal.Refusal.{Refusal}
use Rattle.lp_definitions.specs.declared.reply.What.{What}
use Rattle.lp_definitions.specs.declared.reply.What.TheVariants.{Done}
use Rattle.lp_definitions.specs.declared.reply.Reply.{Reply}
use Rattle.lp_definitions.specs.Events.{is_control, is_scan}
use Rattle.lp_definitions.specs.Tasks.{Unused, Live, Dead, change}
use Rattle.lp_definitions.specs.Leg.{LegTask, State}
use Rattle.lp_definitions.specs.Run.{switched}
use Rattle.lp_machine.specs.Machine.{complete_in, switches_at, switched_groups, bearing, refusal_of, affected, own_effect, calling, returning, put_in, told, answer_by, answer}
use Rattle.lp_machine.specs.Table.{Engine, slot, fate_at, leg_tasks, state_in, bounds_of}
use Rattle.lp_tasks.specs.inside.Table.{changed, is_off}
use Rattle.lp_transition.specs.inside.Invariant.{IsEngine}
use Rattle.lp_transition.specs.Weigh.{Weighed, IsWeighed, AreVerdictsFor, is_answered_done, done_task, is_switched, refusal_in}
use Rattle.lp_transition.specs.inside.Births.{child_of, born_by, born_of}
use Rattle.lp_machine.proofs.EngineLemmas.{is_unchecked, unchecked-control, unchecked-stays, switched-still, answer-accepted}
use Rattle.lp_definitions.proofs.Quantifiers.{each_live-at, each_live-from}
use Rattle.lp_machine.proofs.Accept.{fork-new}
use Rattle.lp_tasks.proofs.TableLemmas.{slot-zero, slot_from_live, live_from_slot}
use Rattle.lp_transition.proofs.Effects.{with_table, takes_change_still}
use Rattle.lp_tasks.proofs.MemberLemmas.{slot-positive, slot-below}
use Rattle.lp_transition.proofs.SwitchedGroups.{switched-none, switched-one-group}
use Rattle.lp_machine.proofs.Alone.{ChecksAlone}
use Rattle.lp_transition.proofs.LoneChecks.{put_on, takes_switch, none-switches_now, others-stay_now}
use Rattle.lp_transition.proofs.Told.{plain_tells}
use Rattle.lp_transition.proofs.Completes.{answer-taken, not-completed, completed_by, completed}

module _ (model : Rules) (lawful : IsLawful model) (e : Engine) (waiting : Numbers) (kept : IsEngine e waiting) (room : e.number < 1000000) where
  -- an event that changes one task and takes no group over completes nothing
  pub answer-change : (event : Event) (t : ℕ) (f : LegTask → LegTask) → t < 65536 → is_control event ≡ false → ((group : ℕ) → switches_at model (affected model (state_in e) event) event group ≡ false) → refusal_of model (state_in e) event ≡ None
      → own_effect model.child_group (suc e.number) event (leg_tasks e.table) ≡ change t f (leg_tasks e.table) → ((x : LegTask) → (f x).level ≡ x.level) → ((x : LegTask) → (f x).group ≡ x.group)
      → answer model (state_in e) event ≡ record { what = told model (state_in e) event; completed = false }
  answer-change event t f small plain none accepted own levels groups =
      let taken = takes_change_still model lawful e e (changed t f e.table) waiting event t f refl refl kept small room plain none accepted own levels groups in
      answer-taken model e (with_table (changed t f e.table) e) event accepted plain taken.state
      ∙ ap {A = Bool} {B = Reply} (λ b. record { what = told model (state_in e) event; completed = b }) (sym (not-completed e (with_table (changed t f e.table) e) waiting waiting kept taken.kept (λ empty. empty)))

  -- where no group switches, an event that is no call reports that it was done
  pub done-still : (event : Event) → ((group : ℕ) → switches_at model (affected model (state_in e) event) event group ≡ false) → told model (state_in e) event ≡ switched (switched_groups model (affected model (state_in e) event) event) → told model (state_in e) event ≡ Done
  done-still event none is = is ∙ ap switched (switched-none model (affected model (state_in e) event) event none)

  still : (event : Event) → is_unchecked event ≡ true → (group : ℕ) → switches_at model (affected model (state_in e) event) event group ≡ false
  still event quiet group = unchecked-stays model (affected model (state_in e) event) event group quiet

  by : (event : Event) (t : ℕ) (f : LegTask → LegTask) → t < 65536 → is_unchecked event ≡ true → refusal_of model (state_in e) event ≡ None
      → own_effect model.child_group (suc e.number) event (leg_tasks e.table) ≡ change t f (leg_tasks e.table) → ((x : LegTask) → (f x).level ≡ x.level) → ((x : LegTask) → (f x).group ≡ x.group)
      → told model (state_in e) event ≡ switched (switched_groups model (affected model (state_in e) event) event)
      → answer model (state_in e) event ≡ record { what = Done; completed = false }
  by event t f small quiet accepted own levels groups reports =
      answer-change event t f small (unchecked-control model event quiet) (still event quiet) accepted own levels groups
      ∙ ap {A = What} {B = Reply} (λ what. record { what = what; completed = false }) (done-still event (still event quiet) reports)

  -- a call runs its task's level
  pub answer-call : (t : TaskId) (f : SymId) → t.0 < 65536 → refusal_of model (state_in e) (Call t f) ≡ None → answer model (state_in e) (Call t f) ≡ record { what = told model (state_in e) (Call t f); completed = false }
  answer-call t f small accepted =
      answer-change (Call t f) t.0 (calling (suc e.number) f) small refl (still (Call t f) refl) accepted refl (λ x. refl) (λ x. refl)

  -- after a fork the transition is complete only where it was before
  fork-complete : (p c : TaskId) (how : ForkKind) → refusal_of model (state_in e) (Fork p c how) ≡ None → IsTrue (complete_in (affected model (state_in e) (Fork p c how))) → IsTrue (complete_in (state_in e))
  fork-complete p c how accepted all =
      let now = affected model (state_in e) (Fork p c how) in
      each_live-from (bounds_of e.patches) (leg_tasks e.table) (λ u y. nat_eq y.level e.target) (λ u y positive within live.
      let other : u ≢ c.0 = λ same. let none = (fork-new model e p c how accepted).0 in let there = slot_from_live e.table c.0 y (subst (λ v. leg_tasks e.table v ≡ Live y) same live) in absurd (cc) in
      each_live-at (bounds_of e.patches) now.tasks (λ v z. nat_eq z.level e.target) all u y positive within (cond-false _ _ _ (ne_eqb u c.0 other) ∙ live))

  answer-fork : (p c : TaskId) (how : ForkKind) → refusal_of model (state_in e) (Fork p c how) ≡ None → answer model (state_in e) (Fork p c how) ≡ record { what = Done; completed = false }
  answer-fork p c how accepted =
      let event = Fork p c how in
      let s = state_in e in
      let none = still event refl in
      answer-accepted model s event accepted
      ∙ ap₂ {A = What} {B = Bool} {C = Reply} (λ what b. record { what = what; completed = b }) (done-still event none refl)
      (ap {A = State} {B = Bool} (λ now. complete_in now && not (complete_in s)) (switched-still model s event none) ∙ never (complete_in (affected model s event)) refl)
    where
      never : (b : Bool) → complete_in (affected model (state_in e) (Fork p c how)) ≡ b → (b && not (complete_in (state_in e))) ≡ false
      never false h = refl
      never true h = ap not (fork-complete p c how accepted h)

  -- a return, a sleep, a wake-up, an entry into the kernel and a fork are done
  pub answer-done : (event : Event) → is_answered_done event ≡ true → done_task event < 65536 → refusal_of model (state_in e) event ≡ None → answer model (state_in e) event ≡ record { what = Done; completed = false }
  answer-done (Ret t) m small accepted = by (Ret t) t.0 returning small refl accepted refl (λ x. refl) (λ x. refl) refl
  answer-done (Sleep t) m small accepted = by (Sleep t) t.0 (put_in Asleep) small refl accepted refl (λ x. refl) (λ x. refl) refl
  answer-done (Wake t) m small accepted = by (Wake t) t.0 (put_in Kernel) small refl accepted refl (λ x. refl) (λ x. refl) refl
  answer-done (Enter t) m small accepted = by (Enter t) t.0 (put_in Kernel) small refl accepted refl (λ x. refl) (λ x. refl) refl
  answer-done (Fork p c how) m small accepted = answer-fork p c how accepted
  answer-done _ m small accepted = cc

  -- after the end of a task the others decide whether the transition is complete
  die-complete : (t : TaskId) → IsTrue (complete_in (affected model (state_in e) (Die t))) ↔ ((u : ℕ) → u ≢ t.0 → has waiting u ≡ false)
  die-complete t = (others, back)
    where
      others : IsTrue (complete_in (affected model (state_in e) (Die t))) → (u : ℕ) → u ≢ t.0 → has waiting u ≡ false
      others all u ne = kept.waits u ∙ by (slot e.table u) refl
        where
          by : (o : Option LegTask) → slot e.table u ≡ o → is_off e.target o ≡ false
          by None there = refl
          by (Some y) there =
              let positive = slot-positive e.table u y (slot-zero e kept.sound) there in
              let below = slot-below e.table u y kept.wide there in
              ap not (each_live-at (bounds_of e.patches) (affected model (state_in e) (Die t)).tasks (λ v z. nat_eq z.level e.target) all u y positive (omega arith) (cond-false _ _ _ (ne_eqb u t.0 ne) ∙ live_from_slot e.table u y there))

      apart : (u : ℕ) (y : LegTask) → (if nat_eq u t.0 then Dead else leg_tasks e.table u) ≡ Live y → u ≢ t.0
      apart u y live same = let dead : Dead ≡ Live y = sym (cond-true _ _ _ (eq-eqb u t.0 same)) ∙ live in cc

      back : ((u : ℕ) → u ≢ t.0 → has waiting u ≡ false) → IsTrue (complete_in (affected model (state_in e) (Die t)))
      back alone =
          each_live-from (bounds_of e.patches) (affected model (state_in e) (Die t)).tasks (λ v z. nat_eq z.level e.target) (λ u y positive within live.
          let ne = apart u y live in
          let there = slot_from_live e.table u y (sym (cond-false _ _ _ (ne_eqb u t.0 ne)) ∙ live) in
          not-false (nat_eq y.level e.target) (sym (ap (is_off e.target) there) ∙ sym (kept.waits u) ∙ alone u ne))

  -- an end of a task completes the transition where nobody else waited
  pub answer-die : (t : TaskId) (last : Bool) → refusal_of model (state_in e) (Die t) ≡ None → IsTrue last ↔ ((has waiting t.0 ≡ true) × ((u : ℕ) → u ≢ t.0 → has waiting u ≡ false)) → answer model (state_in e) (Die t) ≡ record { what = Done; completed = last }
  answer-die t last accepted lone =
      let event = Die t in
      let s = state_in e in
      let none = still event refl in
      answer-accepted model s event accepted
      ∙ ap₂ {A = What} {B = Bool} {C = Reply} (λ what b. record { what = what; completed = b }) (done-still event none refl)
      (ap {A = State} {B = Bool} (λ now. complete_in now && not (complete_in s)) (switched-still model s event none) ∙ sym (completed_by e waiting t.0 last (complete_in (affected model s event)) kept (die-complete t) lone))

  -- an own check
  module _ (event : Event) (kind : CheckKind) (t : ℕ) (small : t < 65536) (f : LegTask → LegTask) (levels : (x : LegTask) → (f x).level ≡ x.level) (groups : (x : LegTask) → (f x).group ≡ x.group) (x : LegTask) (there : slot e.table t ≡ Some x) (checks : ChecksAlone (bounds_of e.patches) (change t f (leg_tasks e.table)) event t kind) (plain : is_control event ≡ false) (accepted : refusal_of model (state_in e) event ≡ None) (own : own_effect model.child_group (suc e.number) event (leg_tasks e.table) ≡ change t f (leg_tasks e.table)) (reports : told model (state_in e) event ≡ switched (switched_groups model (affected model (state_in e) event) event)) where
    -- its group stays
    pub answer-stays : switches_at model (affected model (state_in e) event) event (f x).group ≡ false → answer model (state_in e) event ≡ record { what = Done; completed = false }
    answer-stays stays =
        let none = none-switches_now model lawful e waiting kept event kind t small f levels groups x there checks e refl own stays in
        answer-change event t f small plain none accepted own levels groups
        ∙ ap {A = What} {B = Reply} (λ what. record { what = what; completed = false }) (done-still event none reports)

    -- its group switches
    pub answer-switches : (f x).group < 65536 → (last : Bool) → IsTrue last ↔ ((has waiting t ≡ true) × ((u : ℕ) → u ≢ t → has waiting u ≡ false)) → switches_at model (affected model (state_in e) event) event (f x).group ≡ true
        → answer model (state_in e) event ≡ record { what = switched ((f x).group ∷ []); completed = last }
    answer-switches within last lone switches =
        let table = changed t (put_on e.target) (changed t f e.table) in
        let taken = takes_switch model lawful e waiting kept event kind t small f levels groups x there checks e table (set waiting t false) refl refl refl (length-set waiting t false ∙ kept.waiting_wide) room plain accepted own switches in
        let new = with_table table e in
        let one = switched-one-group model (affected model (state_in e) event) event (f x).group (omega (arith, within)) switches (λ n ne. others-stay_now model lawful e waiting kept event kind t small f levels groups x there checks e refl own n (λ same. ne (sym same))) in
        answer-taken model e new event accepted plain taken.state
        ∙ ap₂ {A = What} {B = Bool} {C = Reply} (λ what b. record { what = what; completed = b }) (reports ∙ ap switched one)
        (sym (completed e new waiting (set waiting t false) t last kept taken.kept small refl lone))

    -- and the answer says so
    pub switched-where_switches : (f x).group < 65536 → switches_at model (affected model (state_in e) event) event (f x).group ≡ true → is_switched (answer model (state_in e) event).what ≡ true
    switched-where_switches within switches =
        let one = switched-one-group model (affected model (state_in e) event) event (f x).group (omega (arith, within)) switches (λ n ne. others-stay_now model lawful e waiting kept event kind t small f levels groups x there checks e refl own n (λ same. ne (sym same))) in
        ap (λ (r : Reply). is_switched r.what) (answer-accepted model (state_in e) event accepted ∙ cond-false _ _ _ plain) ∙ ap is_switched (reports ∙ ap switched one)

    -- it switches where the answer says that groups switched
    pub switches-reported : (switching : Bool) → (f x).group < 65536 → switching ≡ is_switched (answer model (state_in e) event).what → switches_at model (affected model (state_in e) event) event (f x).group ≡ switching
    switches-reported switching within is = by (switches_at model (affected model (state_in e) event) event (f x).group) refl
      where
        by : (b : Bool) → switches_at model (affected model (state_in e) event) event (f x).group ≡ b → switches_at model (affected model (state_in e) event) event (f x).group ≡ switching
        by false stays = stays ∙ sym (is ∙ ap (λ (r : Reply). is_switched r.what) (answer-stays stays))
        by true switches = switches ∙ sym (is ∙ switched-where_switches within switches)

-- an answer refuses where the event is refused
pub refused-as : (model : Rules) (s : State) (event : Event) → refusal_in (answer model s event).what ≡ refusal_of model s event
unfolding answer
refused-as model s event = by (refusal_of model s event)
  where
    listed : (groups : List ℕ) → refusal_in (switched groups) ≡ None
    listed [] = refl
    listed (group ∷ groups) = refl

    told-none : (event : Event) → refusal_in (told model s event) ≡ None
    told-none (Call t f) = refl
    told-none (Ret t) = listed (switched_groups model (affected model s (Ret t)) (Ret t))
    told-none (Sleep t) = listed (switched_groups model (affected model s (Sleep t)) (Sleep t))
    told-none (Wake t) = listed (switched_groups model (affected model s (Wake t)) (Wake t))
    told-none (Enter t) = listed (switched_groups model (affected model s (Enter t)) (Enter t))
    told-none (Exit t) = listed (switched_groups model (affected model s (Exit t)) (Exit t))
    told-none (Idle t) = listed (switched_groups model (affected model s (Idle t)) (Idle t))
    told-none (Resched t) = listed (switched_groups model (affected model s (Resched t)) (Resched t))
    told-none (Fork p c how) = listed (switched_groups model (affected model s (Fork p c how)) (Fork p c how))
    told-none (Die t) = listed (switched_groups model (affected model s (Die t)) (Die t))
    told-none Walk = listed (switched_groups model (affected model s Walk) Walk)
    told-none Stop = listed (switched_groups model (affected model s Stop) Stop)
    told-none Enable = listed (switched_groups model (affected model s Enable) Enable)
    told-none Disable = listed (switched_groups model (affected model s Disable) Disable)
    told-none Reverse = listed (switched_groups model (affected model s Reverse) Reverse)

    accepted : (control : Bool) → is_control event ≡ control → refusal_in (answer_by model s event None).what ≡ None
    accepted true is = ap (λ (r : Reply). refusal_in r.what) (cond-true _ _ _ is)
    accepted false is = ap (λ (r : Reply). refusal_in r.what) (cond-false _ _ _ is) ∙ told-none event

    by : (r : Option Refusal) → refusal_in (answer_by model s event r).what ≡ r
    by (Some why) = refl
    by None = accepted (is_control event) refl

-- a scan is never refused
pub scan_accepted : (model : Rules) (s : State) (event : Event) → is_scan event ≡ true → refusal_of model s event ≡ None
unfolding refusal_of
scan_accepted model s Walk scan = refl
scan_accepted model s Stop scan = refl
scan_accepted model s (Call t f) scan = absurd (false≢true scan)
scan_accepted model s (Ret t) scan = absurd (false≢true scan)
scan_accepted model s (Sleep t) scan = absurd (false≢true scan)
scan_accepted model s (Wake t) scan = absurd (false≢true scan)
scan_accepted model s (Enter t) scan = absurd (false≢true scan)
scan_accepted model s (Exit t) scan = absurd (false≢true scan)
scan_accepted model s (Idle t) scan = absurd (false≢true scan)
scan_accepted model s (Resched t) scan = absurd (false≢true scan)
scan_accepted model s (Fork p c how) scan = absurd (false≢true scan)
scan_accepted model s (Die t) scan = absurd (false≢true scan)
scan_accepted model s Enable scan = absurd (false≢true scan)
scan_accepted model s Disable scan = absurd (false≢true scan)
scan_accepted model s Reverse scan = absurd (false≢true scan)

-- the child that an accepted fork brings
pub born-child : (model : Rules) (e : Engine) (p c : TaskId) (how : ForkKind) (x : LegTask) → refusal_of model (state_in e) (Fork p c how) ≡ None → slot e.table p.0 ≡ Some x
    → Some (bearing model.child_group c.0 how x) ≡ born_of model (state_in e) (Fork p c how)
born-child model e p c how x accepted there =
    sym (ap (λ r. born_by model.child_group r (Fork p c how) (leg_tasks e.table)) accepted ∙ ap (child_of model.child_group c.0 (Fork p c how)) (live_from_slot e.table p.0 x there))

-- an event that is no scan is answered by no verdicts
pub verdicts-none : (model : Rules) (s : State) (event : Event) → is_scan event ≡ false → AreVerdictsFor model s event []
verdicts-none model s (Call t f) h = refl
verdicts-none model s (Ret t) h = refl
verdicts-none model s (Sleep t) h = refl
verdicts-none model s (Wake t) h = refl
verdicts-none model s (Enter t) h = refl
verdicts-none model s (Exit t) h = refl
verdicts-none model s (Idle t) h = refl
verdicts-none model s (Resched t) h = refl
verdicts-none model s (Fork p c how) h = refl
verdicts-none model s (Die t) h = refl
verdicts-none model s Walk h = absurd (false≢true (sym h))
verdicts-none model s Stop h = absurd (false≢true (sym h))
verdicts-none model s Enable h = refl
verdicts-none model s Disable h = refl
verdicts-none model s Reverse h = refl

-- an event that is no scan was weighed with its answer
pub weighed-as : (model : Rules) (e : Engine) (step : Weighed) (event : Event) (reply : Reply) → is_scan event ≡ false → e.number < 1000000 → step ≡ record { event = event; reply = reply; verdicts = [] } → reply ≡ answer model (state_in e) event
    → IsWeighed model e step
weighed-as model e step event reply plain room is answers =
    let weighed : Weighed = record { event = event; reply = reply; verdicts = [] } in
    let there : IsWeighed model e weighed =
    record { room = room; reply = answers; verdicts = verdicts-none model (state_in e) event plain; told = plain_tells model e event [] plain } in
    subst (IsWeighed model e) (sym is) there

-- the group of a live task is a number below 65,536
pub group-below : (e : Engine) (waiting : Numbers) (t : ℕ) (x : LegTask) → IsEngine e waiting → slot e.table t ≡ Some x → x.group < 65536
group-below e waiting t x kept there = ⊎_elim (λ (h : x.group < 65536). h) (λ (h : 65536 ≤ x.group). absurd (past h)) (cases_lt x.group 65536)
  where
    unused : 65536 ≤ x.group → leg_tasks e.table x.group ≡ Unused
    unused h = ap₂ fate_at (get_or_past e.table.slots x.group None (omega (arith, h, kept.wide.slots))) (get_or_past e.table.used x.group false (omega (arith, h, kept.wide.used)))

    past : 65536 ≤ x.group → ⊥
    past h = ⊎_elim (λ (zero : x.group ≡ 0). omega (arith, h, zero)) (λ (some : leg_tasks e.table x.group ≡ Unused → ⊥). some (unused h)) (kept.sound.grouped t x (live_from_slot e.table t x there))
