-- What the engine tells of its last scan is right after each event.
use Rattle.std.proofs.Common.{◌≡◌, ◌⊎◌, ℕ, suc, Bool, true, false, Some, None, is_some, if◌then◌else◌, nat_eq, refl, sym, ap, subst, ◌∙◌, ⊎_elim, inl, inr}
use Rattle.std.proofs.lemmas.Bool.{false≢true, cond-false, cond-true, cases_Bool, false_from_ne_true}
use Rattle.lp_stack.specs.declared.number.TaskId.{TaskId}
use Rattle.lp_numbers.specs.Numbers.{Numbers, has, IsEmpty}
use Rattle.lp_model.specs.Rules.{Rules}
use Rattle.lp_model.specs.declared.check.CheckKind.{CheckKind}
use Rattle.lp_model.specs.declared.check.CheckKind.TheVariants as kind
use Rattle.lp_definitions.specs.declared.event.Event.{Event}
use Rattle.lp_definitions.specs.declared.event.Event.TheVariants.{Call, Ret, Sleep, Wake, Enter, Exit, Idle, Resched, Fork, Die, Walk, Stop, Enable, Disable, Reverse}
use Rattle.lp_definitions.specs.declared.refusal.Refusal.{Refusal}
use Rattle.lp_definitions.specs.Events.{is_control}
use Rattle.lp_definitions.specs.Tasks.{Live, change}
use Rattle.lp_definitions.specs.Leg.{LegTask, State}
use Rattle.lp_machine.specs.Machine.{own_effect, switches_at, switched_task, refusal_of, affected, with_switches, next}
use Rattle.lp_machine.specs.Table.{Engine, LastScan, leg_tasks, state_in}
use Rattle.lp_transition.specs.Blames.{is_open}
use Rattle.lp_transition.specs.Scan.{is_scan_kind, scan_event}
use Rattle.lp_transition.specs.LastScan.{used_kind, used_scan, AreSameMembers, IsLastScanAfter}
use Rattle.lp_transition.specs.inside.Invariant.{KeptScan, told_scan}
use Rattle.lp_tasks.specs.inside.OwnChecks.{own_check_event}
use Rattle.lp_machine.proofs.EngineLemmas.{is_unchecked, next-refused, next-accepted}
use Rattle.lp_transition.proofs.Effects.{HasTaken}
use Rattle.lp_transition.proofs.Unchanged.{touches, live_from, none_some, own_same, switched_not, left, stands_still, TakesIn, stays_in, scan_touches, scan_free, scan_plain, Notes, changes_in}

-- ---- Events that are no scan of use

module _ (model : Rules) where
  pub quiet_unused : (event : Event) → is_unchecked event ≡ true → used_scan model event ≡ None
  quiet_unused (Call t f) q = refl
  quiet_unused (Ret t) q = refl
  quiet_unused (Sleep t) q = refl
  quiet_unused (Wake t) q = refl
  quiet_unused (Enter t) q = refl
  quiet_unused (Fork p c how) q = refl
  quiet_unused (Die t) q = refl
  quiet_unused (Exit t) q = refl
  quiet_unused (Idle t) q = refl
  quiet_unused (Resched t) q = refl
  quiet_unused Walk q = cc
  quiet_unused Stop q = cc
  quiet_unused Enable q = refl
  quiet_unused Disable q = refl
  quiet_unused Reverse q = refl

  pub own_check_unused : (on : CheckKind) (t : TaskId) → used_scan model (own_check_event on t) ≡ None
  own_check_unused kind.KernelExit t = refl
  own_check_unused kind.IdlePoint t = refl
  own_check_unused kind.Resched t = refl
  own_check_unused kind.Walk t = refl
  own_check_unused kind.Stop t = refl

  -- the kind of a scan
  pub scan_used : (on : CheckKind) → is_scan_kind on ≡ true → used_scan model (scan_event on) ≡ used_kind model on
  scan_used kind.Walk scan = refl
  scan_used kind.Stop scan = refl
  scan_used kind.KernelExit scan = absurd (cc)
  scan_used kind.IdlePoint scan = absurd (cc)
  scan_used kind.Resched scan = absurd (cc)

  -- no scan is refused
  used_free : (s : State) (event : Event) (on : CheckKind) → used_scan model event ≡ Some on → refusal_of model s event ≡ None
  used_free s (Call t f) on used = absurd (cc)
  used_free s (Ret t) on used = absurd (cc)
  used_free s (Sleep t) on used = absurd (cc)
  used_free s (Wake t) on used = absurd (cc)
  used_free s (Enter t) on used = absurd (cc)
  used_free s (Exit t) on used = absurd (cc)
  used_free s (Idle t) on used = absurd (cc)
  used_free s (Resched t) on used = absurd (cc)
  used_free s (Fork p c how) on used = absurd (cc)
  used_free s (Die t) on used = absurd (cc)
  used_free s Walk on used = scan_free model s kind.Walk
  used_free s Stop on used = scan_free model s kind.Stop
  used_free s Enable on used = absurd (cc)
  used_free s Disable on used = absurd (cc)
  used_free s Reverse on used = absurd (cc)

-- ---- A group to which nothing happened

grouped_still : (x : LegTask) (target : ℕ) (goes : Bool) → (if goes then record x { level = target } else x).group ≡ x.group
grouped_still x target true = refl
grouped_still x target false = refl

module _ (model : Rules) (s : State) (event : Event) (opens : ℕ → Bool) (before after : KeptScan) (takes : TakesIn model s event opens before after) (group : ℕ) (free : opens group ≡ true) (out : has after.changed group ≡ false) (stays : switches_at model (affected model s event) event group ≡ false) where
  -- nothing happens to a task that is in it before or after the event's own effect
  apart_from : (t : ℕ) (x : LegTask) → x.group ≡ group → (touches event t ≡ true → has after.changed x.group ≡ true) → touches event t ≡ false
  apart_from t x grouped noted =
      false_from_ne_true (touches event t) (λ (hit : touches event t ≡ true). false≢true (sym out ∙ (ap (has after.changed) (sym grouped) ∙ noted hit)))

  -- its members stay,
  stays_member : (t : ℕ) (x : LegTask) → x.group ≡ group → s.tasks t ≡ Live x → (with_switches model s event).tasks t ≡ Live x
  stays_member t x grouped live =
      stands_still model s event t x (apart_from t x grouped (λ hit. takes.before t x hit live (ap opens grouped ∙ free))) live
      (ap (switches_at model (affected model s event) event) grouped ∙ stays)

  -- and nobody joins it
  was_member : (t : ℕ) (x : LegTask) → x.group ≡ group → (with_switches model s event).tasks t ≡ Live x → s.tasks t ≡ Live x
  was_member t x grouped live =
      let now = affected model s event in
      let w = live_from (switched_task model now event) (now.tasks t) x live in
      let grouped_then : w.0.group ≡ group = sym (grouped_still w.0 s.target (switches_at model now event w.0.group)) ∙ (ap (λ (y : LegTask). y.group) w.2 ∙ grouped) in
      let same : w.0 ≡ x = sym (switched_not model s event w.0 (ap (switches_at model now event) grouped_then ∙ stays)) ∙ w.2 in
      let there : now.tasks t ≡ Live x = w.1 ∙ ap Live same in
      sym (own_same model s event event t (apart_from t x grouped (λ hit. takes.after t x hit there (ap opens grouped ∙ free)))) ∙ there

  same_members : AreSameMembers s (with_switches model s event) group
  same_members t x grouped = (stays_member t x grouped, was_member t x grouped)

-- ---- What the engine tells

-- where it tells of no scan any longer
pub last_forgotten : (model : Rules) (old : Engine) (event : Event) (new : Engine) → new.last_scan.kind ≡ None → IsLastScanAfter model old event new
last_forgotten model old event new none = record {
  scan = λ on other used some. absurd (none_some other (sym none ∙ some));
  fresh = λ on other used some. absurd (none_some other (sym none ∙ some));
  opening = λ control accepted. none;
  kind = λ unused on some. absurd (none_some on (sym none ∙ some));
  others = λ unused on some t x live off free out. absurd (none_some on (sym none ∙ some));
}

-- where nothing was forgotten, or all
pub last_rests : (model : Rules) (old : Engine) (event : Event) (new : Engine) (before after : KeptScan) → IsLastScanAfter model old event (record new { last_scan = told_scan before }) → (after ≡ before) ⊎ (after.kind ≡ None) → IsLastScanAfter model old event (record new { last_scan = told_scan after })
last_rests model old event new before after told done =
    ⊎_elim
    (λ (same : after ≡ before). subst (λ (l : KeptScan). IsLastScanAfter model old event (record new { last_scan = told_scan l })) (sym same) told)
    (λ (none : after.kind ≡ None). last_forgotten model old event (record new { last_scan = told_scan after }) none)
    done

module _ (model : Rules) (e old new : Engine) (left_waiting : Numbers) (event : Event) (before after : KeptScan) (was : e ≡ old) (told : e.last_scan ≡ told_scan before) (tells : new.last_scan ≡ told_scan after) (taken : HasTaken model old event new left_waiting) where
  -- it is told of the engine that code holds
  of_old : IsLastScanAfter model e event new → IsLastScanAfter model old event new
  of_old is = subst (λ (o : Engine). IsLastScanAfter model o event new) was is

  came : state_in new ≡ next model (state_in e) event
  came = taken.state ∙ ap (λ (o : Engine). next model (state_in o) event) (sym was)

  kind_after : (on : CheckKind) → new.last_scan.kind ≡ Some on → after.kind ≡ Some on
  kind_after on some = sym (ap (λ (l : LastScan). l.kind) tells) ∙ some

  kept_kind : after.kind ≡ before.kind → (on : CheckKind) → new.last_scan.kind ≡ Some on → e.last_scan.kind ≡ Some on
  kept_kind same on some = ap (λ (l : LastScan). l.kind) told ∙ (sym same ∙ kind_after on some)

  -- a refused event
  pub last_counts : (why : Refusal) → refusal_of model (state_in old) event ≡ Some why → after ≡ before → IsLastScanAfter model old event new
  last_counts why refused same =
      let there = came ∙ next-refused model (state_in e) event why (ap (λ (o : Engine). refusal_of model (state_in o) event) was ∙ refused) in
      let tasks = ap (λ (st : State). st.tasks) there in
      of_old (record {
        scan = λ on other used some. absurd (none_some why (sym (used_free model (state_in old) event on used) ∙ refused));
        fresh = λ on other used some. absurd (none_some why (sym (used_free model (state_in old) event on used) ∙ refused));
        opening = λ control accepted. absurd (none_some why (sym accepted ∙ (ap (λ (o : Engine). refusal_of model (state_in o) event) was ∙ refused)));
        kind = λ unused. kept_kind (ap (λ (l : KeptScan). l.kind) same);
        others = λ unused on some t x live off free out. (
          ap (λ (l : LastScan). has l.changed x.group) (told ∙ (ap told_scan (sym same) ∙ sym tells)) ∙ out,
          (λ u y grouped. ((λ before_it. ap (λ now. now u) tasks ∙ before_it), (λ after_it. sym (ap (λ now. now u) tasks) ∙ after_it))),
        );
      })

  -- an accepted event that is no scan of use, and whose task's group is noted
  pub last_takes : refusal_of model (state_in old) event ≡ None → is_control event ≡ false → used_scan model event ≡ None → after.kind ≡ before.kind → (is_some before.kind ≡ true → TakesIn model (state_in e) event (is_open new) before after) → IsLastScanAfter model old event new
  last_takes accepted plain unused same takes =
      let switched = came ∙ next-accepted model (state_in e) event (ap (λ (o : Engine). refusal_of model (state_in o) event) was ∙ accepted) plain in
      of_old (record {
        scan = λ on other used some. absurd (none_some on (sym unused ∙ used));
        fresh = λ on other used some. absurd (none_some on (sym unused ∙ used));
        opening = λ control free. absurd (false≢true (sym plain ∙ control));
        kind = λ none. kept_kind same;
        others = λ none on some t x live off free out.
            let noted = takes (ap is_some (sym same ∙ kind_after on some)) in
            let out_now : has after.changed x.group ≡ false = ap (λ (l : LastScan). has l.changed x.group) (sym tells) ∙ out in
            let w = left model (state_in e) event t x (ap (λ (st : State). st.tasks t) (sym switched) ∙ live) (ap (λ (st : State). nat_eq x.level st.target) (sym switched) ∙ off) in (
              ap (λ (l : LastScan). has l.changed x.group) told ∙ noted.keeps x.group out_now,
              subst (λ (st : State). AreSameMembers (state_in e) st x.group) (sym switched) (same_members model (state_in e) event (is_open new) before after noted x.group free out_now w.1),
            );
      })

  -- after a change of a task
  pub last_changes : (a : ℕ) (f : LegTask → LegTask) → refusal_of model (state_in old) event ≡ None → is_control event ≡ false → used_scan model event ≡ None → after.kind ≡ before.kind → Notes (is_open new) e.table a before after → ((t : ℕ) → touches event t ≡ nat_eq t a)
      → own_effect model.child_group (suc e.number) event (leg_tasks e.table) ≡ change a f (leg_tasks e.table) → ((x : LegTask) → (f x).group ≡ x.group) → IsLastScanAfter model old event new
  last_changes a f accepted plain unused same noted only own groups =
      last_takes accepted plain unused same (changes_in model e event (is_open new) before after a f noted only own groups)

  -- a scan of a kind that the model uses
  pub last_noted : (on : CheckKind) → used_scan model event ≡ Some on → is_control event ≡ false → after.kind ≡ Some on → IsEmpty after.changed → IsLastScanAfter model old event new
  last_noted on used plain noted empty = record {
    scan = λ this other again some.
        let one : Some on ≡ Some this = sym used ∙ again in
        let two : Some on ≡ Some other = sym noted ∙ kind_after other some in
        cc;
    fresh = λ this other again some group. ap (λ (l : LastScan). has l.changed group) tells ∙ empty group;
    opening = λ control free. absurd (false≢true (sym plain ∙ control));
    kind = λ unused. absurd (none_some on (sym unused ∙ used));
    others = λ unused. absurd (none_some on (sym unused ∙ used));
  }

  -- a scan: its kind is noted where the model uses it, else nothing is
  pub last_scanned : (on : CheckKind) (is_used : Bool) → is_scan_kind on ≡ true → scan_event on ≡ event → is_used ≡ model.uses on → (is_used ≡ true → (after.kind ≡ Some on) × IsEmpty after.changed) → (is_used ≡ false → after ≡ before) → IsLastScanAfter model old event new
  last_scanned on is_used scan is uses noted kept =
      let kind_is : used_scan model event ≡ used_kind model on = ap (used_scan model) (sym is) ∙ scan_used model on scan in
      let plain : is_control event ≡ false = ap is_control (sym is) ∙ scan_plain on in
      ⊎_elim
      (λ (yes : is_used ≡ true). last_noted on (kind_is ∙ cond-true (model.uses on) (Some on) None (sym uses ∙ yes)) plain (noted yes).0 (noted yes).1)
      (λ (no : is_used ≡ false).
      let accepted : refusal_of model (state_in old) event ≡ None = ap (refusal_of model (state_in old)) (sym is) ∙ scan_free model (state_in old) on in
      last_takes accepted plain (kind_is ∙ cond-false (model.uses on) (Some on) None (sym uses ∙ no)) (ap (λ (l : KeptScan). l.kind) (kept no))
      (λ some. stays_in model (state_in e) event (is_open new) before after (λ t. ap (λ given. touches given t) (sym is) ∙ scan_touches on t) (kept no)))
      (cases_Bool is_used)

-- whether a scan was noted
pub noted_or : {A B : Type 0} (is_used : Bool) → (is_used ≡ true → A) → (is_used ≡ false → B) → B ⊎ A
noted_or true used unused = inr (used refl)
noted_or false used unused = inl (unused refl)
