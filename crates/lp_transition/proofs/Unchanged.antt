-- What the engine keeps of its last scan stays true at each event.
use Rattle.std.proofs.Common.{◌≡◌, ◌⊎◌, ℕ, suc, Bool, true, false, not, ◌&&◌, ◌||◌, List, Option, Some, None, is_some, is_none, if◌then◌else◌, nat_eq, refl, sym, ap, subst, ◌∙◌, ◌<◌, ⊎_elim, arith}
use Rattle.std.proofs.lemmas.Bool.{false≢true, cond-false, cond-true, cases_Bool, eq-eqb, eqb-true, and_from, or_right, not_from_false, false_from_ne_true}
use Rattle.std.specs.List.{list_any}
use Rattle.std.specs.Option.{ForSome, option_map}
use Rattle.lp_stack.specs.declared.number.TaskId.{TaskId}
use Rattle.lp_stack.specs.declared.view.Mode.TheVariants.{User, Kernel, Asleep}
use Rattle.lp_numbers.specs.Numbers.{Numbers, has}
use Rattle.lp_model.specs.Rules.{Rules, IsLawful}
use Rattle.lp_model.specs.declared.check.CheckKind.{CheckKind}
use Rattle.lp_model.specs.declared.check.ForkKind.{ForkKind}
use Rattle.lp_model.specs.declared.check.CheckKind.TheVariants as kind
use Rattle.lp_model.specs.declared.verdict.Verdict.{Verdict}
use Rattle.lp_definitions.specs.declared.event.Event.{Event}
use Rattle.lp_definitions.specs.declared.event.Event.TheVariants.{Call, Ret, Sleep, Wake, Enter, Exit, Idle, Resched, Fork, Die, Walk, Stop, Enable, Disable, Reverse}
use Rattle.lp_definitions.specs.declared.refusal.Refusal.{Refusal}
use Rattle.lp_definitions.specs.Events.{is_control}
use Rattle.lp_definitions.specs.Tasks.{Fate, Unused, Live, Dead, map_live, change}
use Rattle.lp_definitions.specs.Leg.{LegTask, State}
use Rattle.lp_definitions.specs.Sound.{IsSound}
use Rattle.lp_machine.specs.Machine.{view_of, put_in, calling, returning, bearing, own_effect, switches_at, switched_task, refusal_of, counted, affected, with_switches, next}
use Rattle.lp_machine.specs.Table.{Table, Engine, IsWide, slot, leg_tasks, state_in}
use Rattle.lp_transition.specs.Scan.{is_scan_kind, scan_event, verdicts_of, RefusesMember, MayLeaveOut, AreEnough}
use Rattle.lp_transition.specs.Weigh.{AreVerdictsFor}
use Rattle.lp_transition.specs.inside.Births.{child_of, born_by, born_of}
use Rattle.lp_tasks.specs.inside.Table.{changed, is_off, is_in, with_task}
use Rattle.lp_transition.specs.inside.Invariant.{IsEngine, KeptScan, AreUnchanged, IsNoted, IsCore}
use Rattle.lp_tasks.specs.inside.OwnChecks.{own_check_event}
use Rattle.lp_transition.specs.inside.ScanSteps.{is_found, switches_by, admits_task}
use Rattle.lp_machine.proofs.EngineLemmas.{next-refused, next-accepted}
use Rattle.lp_transition.proofs.Effects.{HasTaken}
use Rattle.lp_tasks.proofs.TableLemmas.{slot_from_live, slot-changed, slot-with_task}
use Rattle.lp_machine.proofs.Accept.{fork-new}
use Rattle.lp_transition.proofs.ScanAnswers.{switches-walk, switches-stop}
use Rattle.lp_transition.proofs.ScanGroups.{found-from, found-is}
use Rattle.lp_transition.proofs.Admitted.{admitted-is, enough_for}

-- something happens to the task at the event, or it is born there
abbrev pub touches : Event → ℕ → Bool
touches (Call a f) t = nat_eq t a.0
touches (Ret a) t = nat_eq t a.0
touches (Sleep a) t = nat_eq t a.0
touches (Wake a) t = nat_eq t a.0
touches (Enter a) t = nat_eq t a.0
touches (Exit a) t = nat_eq t a.0
touches (Idle a) t = nat_eq t a.0
touches (Resched a) t = nat_eq t a.0
touches (Fork p c how) t = nat_eq t c.0
touches (Die a) t = nat_eq t a.0
touches Walk t = false
touches Stop t = false
touches Enable t = false
touches Disable t = false
touches Reverse t = false

pub live_from : {A B : Type 0} (f : A → B) (fate : Fate A) (x : B) → map_live f fate ≡ Live x → (y : A) × (fate ≡ Live y) × (f y ≡ x)
live_from f Unused x e = absurd (cc)
live_from f (Live y) x e = (y, refl, cc)
live_from f Dead x e = absurd (cc)

pub none_some : {A : Type 0} (a : A) → None ≡ Some a → ⊥
none_some a e = absurd (cc)

module _ (model : Rules) (s : State) (event : Event) where
  abbrev now : State
  now = affected model s event

  -- to whom nothing happens stands as before
  pub own_same : (given : Event) (t : ℕ) → touches given t ≡ false → own_effect model.child_group (suc s.number) given s.tasks t ≡ s.tasks t
  own_same (Call a f) t out = cond-false (nat_eq t a.0) (map_live (calling (suc s.number) f) (s.tasks t)) (s.tasks t) out
  own_same (Ret a) t out = cond-false (nat_eq t a.0) (map_live returning (s.tasks t)) (s.tasks t) out
  own_same (Sleep a) t out = cond-false (nat_eq t a.0) (map_live (put_in Asleep) (s.tasks t)) (s.tasks t) out
  own_same (Wake a) t out = cond-false (nat_eq t a.0) (map_live (put_in Kernel) (s.tasks t)) (s.tasks t) out
  own_same (Enter a) t out = cond-false (nat_eq t a.0) (map_live (put_in Kernel) (s.tasks t)) (s.tasks t) out
  own_same (Exit a) t out = cond-false (nat_eq t a.0) (map_live (put_in User) (s.tasks t)) (s.tasks t) out
  own_same (Idle a) t out = refl
  own_same (Resched a) t out = refl
  own_same (Fork p c how) t out = cond-false (nat_eq t c.0) (map_live (bearing model.child_group c.0 how) (s.tasks p.0)) (s.tasks t) out
  own_same (Die a) t out = cond-false (nat_eq t a.0) Dead (s.tasks t) out
  own_same Walk t out = refl
  own_same Stop t out = refl
  own_same Enable t out = refl
  own_same Disable t out = refl
  own_same Reverse t out = refl

  -- who is off the target afterwards didn't switch
  not_switched : (y : LegTask) (goes : Bool) → switches_at model now event y.group ≡ goes → nat_eq (switched_task model now event y).level s.target ≡ false → switches_at model now event y.group ≡ false
  not_switched y true e off =
      let there : nat_eq s.target s.target ≡ false = ap (λ b. nat_eq (if b then record y { level = s.target } else y).level s.target) (sym e) ∙ off in
      absurd (false≢true (sym there ∙ eq-eqb s.target s.target refl))
  not_switched y false e off = e

  pub switched_not : (y : LegTask) → switches_at model now event y.group ≡ false → switched_task model now event y ≡ y
  switched_not y stays = cond-false (switches_at model now event y.group) (record y { level = s.target }) y stays

  -- who waits afterwards stands as after the event's own effect, and its group didn't switch
  pub left : (t : ℕ) (x : LegTask) → (with_switches model s event).tasks t ≡ Live x → nat_eq x.level s.target ≡ false → (now.tasks t ≡ Live x) × (switches_at model now event x.group ≡ false)
  left t x live off =
      let w = live_from (switched_task model now event) (now.tasks t) x live in
      let stays = not_switched w.0 (switches_at model now event w.0.group) refl (ap (λ y. nat_eq y.level s.target) w.2 ∙ off) in
      let same : w.0 ≡ x = sym (switched_not w.0 stays) ∙ w.2 in
      (w.1 ∙ ap Live same, ap (λ y. switches_at model now event y.group) (sym same) ∙ stays)

  -- to whom nothing happens, and whose group doesn't switch, stands as before
  pub stands_still : (t : ℕ) (x : LegTask) → touches event t ≡ false → s.tasks t ≡ Live x → switches_at model now event x.group ≡ false → (with_switches model s event).tasks t ≡ Live x
  stands_still t x apart live stays =
      ap (map_live (switched_task model now event)) (own_same event t apart ∙ live) ∙ ap Live (switched_not x stays)

  -- of the groups that no frame holds back, those of whom something happens to a member are in the set before it and after it; no group
  -- left the set; and so with those tasks
  pub record TakesIn (opens : ℕ → Bool) (old new : KeptScan) : Type 0 where
    pub keeps : (group : ℕ) → has new.changed group ≡ false → has old.changed group ≡ false
    pub before : (t : ℕ) (x : LegTask) → touches event t ≡ true → s.tasks t ≡ Live x → opens x.group ≡ true → has new.changed x.group ≡ true
    pub after : (t : ℕ) (x : LegTask) → touches event t ≡ true → (affected model s event).tasks t ≡ Live x → opens x.group ≡ true → has new.changed x.group ≡ true
    pub spares : (t : ℕ) → has new.may_refuse t ≡ false → has old.may_refuse t ≡ false
    pub doubts : (t : ℕ) → touches event t ≡ true → has new.may_refuse t ≡ true

  -- an event at which nothing happens to anybody, and nothing is noted
  pub stays_in : (opens : ℕ → Bool) (old new : KeptScan) → ((t : ℕ) → touches event t ≡ false) → new ≡ old → TakesIn opens old new
  stays_in opens old new apart same = record {
    keeps = λ group out. sym (ap (λ (l : KeptScan). has l.changed group) same) ∙ out;
    before = λ t x hit live free. absurd (false≢true (sym (apart t) ∙ hit));
    after = λ t x hit live free. absurd (false≢true (sym (apart t) ∙ hit));
    spares = λ t out. sym (ap (λ (l : KeptScan). has l.may_refuse t) same) ∙ out;
    doubts = λ t hit. absurd (false≢true (sym (apart t) ∙ hit));
  }

  -- a group to which nothing happens is refused as before, and so is one that a frame holds back
  still_out : (on : CheckKind) (opens : ℕ → Bool) (old new : KeptScan) → TakesIn opens old new → MayLeaveOut model on (with_switches model s event) opens → MayLeaveOut model on s (has old.changed) → MayLeaveOut model on (with_switches model s event) (has new.changed)
  still_out on opens old new takes held was t x live off out = ⊎_elim apart_from (λ (stuck : opens x.group ≡ false). held t x live off stuck) (cases_Bool (opens x.group))
    where
      apart_from : opens x.group ≡ true → RefusesMember model on (with_switches model s event) x.group
      apart_from free =
          let w = left t x live off in
          let apart = false_from_ne_true (touches event t) (λ (hit : touches event t ≡ true). false≢true (sym out ∙ takes.after t x hit w.0 free)) in
          let r = was t x (sym (own_same event t apart) ∙ w.0) off (takes.keeps x.group out) in
          let apart_too = false_from_ne_true (touches event r.member) (λ (hit : touches event r.member ≡ true). false≢true (sym out ∙ (ap (has new.changed) (sym r.grouped) ∙ takes.before r.member r.life hit r.live (ap opens r.grouped ∙ free)))) in
          record {
            member = r.member;
            life = r.life;
            live = stands_still r.member r.life apart_too r.live (ap (switches_at model now event) r.grouped ∙ w.1);
            off = r.off;
            grouped = r.grouped;
            refused = r.refused;
          }

  -- and where nothing happens to anybody
  counted_out : (on : CheckKind) (old : Numbers) → MayLeaveOut model on s (has old) → MayLeaveOut model on (counted model s) (has old)
  counted_out on old was t x live off out =
      let r = was t x live off out in
      record { member = r.member; life = r.life; live = r.live; off = r.off; grouped = r.grouped; refused = r.refused }

  -- what a scan told stands after an event
  still_unchanged : (on : CheckKind) (opens : ℕ → Bool) (old new : KeptScan) → TakesIn opens old new → MayLeaveOut model on (with_switches model s event) opens → AreUnchanged model on s old → AreUnchanged model on (with_switches model s event) new
  still_unchanged on opens old new takes held was = record {
    left_out = still_out on opens old new takes held was.left_out;
    admitted = λ t x live off out.
        let w = left t x live off in
        let apart = false_from_ne_true (touches event t) (λ (hit : touches event t ≡ true). false≢true (sym out ∙ takes.doubts t hit)) in
        was.admitted t x (sym (own_same event t apart) ∙ w.0) off (takes.spares t out);
  }

  counted_unchanged : (on : CheckKind) (old : KeptScan) → AreUnchanged model on s old → AreUnchanged model on (counted model s) old
  counted_unchanged on old was = record { left_out = counted_out on (old.changed) was.left_out; admitted = was.admitted }

-- ---- A scan

pub scan_touches : (on : CheckKind) (t : ℕ) → touches (scan_event on) t ≡ false
scan_touches kind.Walk t = refl
scan_touches kind.Stop t = refl
scan_touches kind.KernelExit t = refl
scan_touches kind.IdlePoint t = refl
scan_touches kind.Resched t = refl

module _ (model : Rules) (lawful : IsLawful model) (limit : ℕ) (s : State) (wide : suc s.bounds.tasks ≡ limit) (sound : IsSound s) (table : Table) (there : (t : ℕ) (x : LegTask) → s.tasks t ≡ Live x → slot table t ≡ Some x) where
  scan_switches : (on : CheckKind) → is_scan_kind on ≡ true → (group : ℕ) → switches_at model (affected model s (scan_event on)) (scan_event on) group ≡ switches_by table (verdicts_of model on s) group
  scan_switches kind.Walk scan group = switches-walk model lawful limit s wide sound table there group
  scan_switches kind.Stop scan group = switches-stop model lawful limit s wide sound table there group
  scan_switches kind.KernelExit scan group = absurd (cc)
  scan_switches kind.IdlePoint scan group = absurd (cc)
  scan_switches kind.Resched scan group = absurd (cc)

  -- of a group that waits after a scan, the scan refused a member
  scan_refused : (on : CheckKind) → is_scan_kind on ≡ true → (asked : ℕ → Bool) → MayLeaveOut model on (with_switches model s (scan_event on)) asked
  scan_refused on scan asked t x live off out =
      let w = left model s (scan_event on) t x live off in
      let stood : s.tasks t ≡ Live x = sym (own_same model s (scan_event on) (scan_event on) t (scan_touches on t)) ∙ w.0 in
      ⊎_elim
      (λ (refused : is_some (model.blame on (view_of t x) s.aim) ≡ true).
      let mine : RefusesMember model on (with_switches model s (scan_event on)) x.group = record { member = t; life = x; live = live; off = off; grouped = refl; refused = refused } in mine)
      (λ (free : is_some (model.blame on (view_of t x) s.aim) ≡ false).
      let whole = verdicts_of model on s in
      let admitted = found-from model lawful on s sound table there false x.group t x stood off refl (none_of (model.blame on (view_of t x) s.aim) free) in
      let refused = second (list_any (is_found table false x.group) whole) (list_any (is_found table true x.group) whole) admitted (sym (scan_switches on scan x.group) ∙ w.1) in
      let r = found-is model lawful on s sound table there true x.group refused in
      let other : RefusesMember model on (with_switches model s (scan_event on)) x.group = record {
        member = r.number;
        life = r.task;
        live = stands_still model s (scan_event on) r.number r.task (scan_touches on r.number) r.live (ap (switches_at model (affected model s (scan_event on)) (scan_event on)) r.grouped ∙ w.1);
        off = r.off;
        grouped = r.grouped;
        refused = r.told;
      } in other)
      (cases_Bool (is_some (model.blame on (view_of t x) s.aim)))
    where
      none_of : {A : Type 0} (o : Option A) → is_some o ≡ false → is_none o ≡ true
      none_of None e = refl
      none_of (Some a) e = absurd (cc)

      second : (a b : Bool) → a ≡ true → (a && not b) ≡ false → b ≡ true
      second true true h e = refl
      second true false h e = absurd (cc)
      second false b h e = absurd (cc)

-- who waits after a scan, and isn't among those that one of its kind may refuse, was admitted by it or by one before
module _ (model : Rules) (s : State) (on : CheckKind) (verdicts : List Verdict) (enough : AreEnough model on s verdicts) (waiting : Numbers) (before after : KeptScan) (noted : IsNoted on waiting verdicts before after) (was : ForSome before.kind (λ k. AreUnchanged model k s before)) where
  scan_admits : (t : ℕ) (x : LegTask) → (with_switches model s (scan_event on)).tasks t ≡ Live x → nat_eq x.level s.target ≡ false → has waiting t ≡ true → has after.may_refuse t ≡ false → model.blame on (view_of t x) s.aim ≡ None
  scan_admits t x live off waits out =
      let w = left model s (scan_event on) t x live off in
      let stood : s.tasks t ≡ Live x = sym (own_same model s (scan_event on) (scan_event on) t (scan_touches on t)) ∙ w.0 in
      ⊎_elim
      (λ (told : list_any (admits_task t) verdicts ≡ true). admitted-is model on s verdicts enough t x stood told)
      (λ (unsaid : list_any (admits_task t) verdicts ≡ false).
      let sure = spared (has noted.doubted t) (list_any (admits_task t) verdicts) unsaid (sym (noted.left t) ∙ out) in
      ⊎_elim
      (λ (again : (before.kind ≡ Some on) × (noted.doubted ≡ before.may_refuse)). (was on again.0).admitted t x stood off (ap (λ set. has set t) (sym again.1) ∙ sure))
      (λ (all : noted.doubted ≡ waiting). absurd (false≢true (sym sure ∙ (ap (λ set. has set t) all ∙ waits))))
      noted.begun)
      (cases_Bool (list_any (admits_task t) verdicts))
    where
      spared : (a b : Bool) → b ≡ false → (a && not b) ≡ false → a ≡ false
      spared false b unsaid h = refl
      spared true false unsaid h = absurd (cc)
      spared true true unsaid h = absurd (cc)

-- ---- What code keeps

module _ (model : Rules) (e old new : Engine) (waiting left_waiting : Numbers) (event : Event) (before after : KeptScan) (was : e ≡ old) (core : IsCore model e waiting before) (taken : HasTaken model old event new left_waiting) where
  -- where it goes by no scan any longer
  pub core_forgets : after.kind ≡ None → IsCore model new left_waiting after
  core_forgets none = record { engine = taken.kept; unchanged = λ on some. absurd (none_some on (sym none ∙ some)) }

  came : state_in new ≡ next model (state_in e) event
  came = taken.state ∙ ap (λ (o : Engine). next model (state_in o) event) (sym was)

  -- a refused event
  pub core_counts : (why : Refusal) → refusal_of model (state_in old) event ≡ Some why → after ≡ before → IsCore model new left_waiting after
  core_counts why refused same =
      let there = came ∙ next-refused model (state_in e) event why (ap (λ (o : Engine). refusal_of model (state_in o) event) was ∙ refused) in
      record {
        engine = taken.kept;
        unchanged = λ on some.
            subst (λ (l : KeptScan). AreUnchanged model on (state_in new) l) (sym same)
            (subst (λ (st : State). AreUnchanged model on st before) (sym there)
            (counted_unchanged model (state_in e) event on before (core.unchanged on (ap (λ (l : KeptScan). l.kind) (sym same) ∙ some))));
      }

  module _ (accepted : refusal_of model (state_in old) event ≡ None) (plain : is_control event ≡ false) where
    switched : state_in new ≡ with_switches model (state_in e) event
    switched = came ∙ next-accepted model (state_in e) event (ap (λ (o : Engine). refusal_of model (state_in o) event) was ∙ accepted) plain

    -- an accepted event whose task's group is noted
    pub core_takes : (opens : ℕ → Bool) → ((on : CheckKind) → MayLeaveOut model on (state_in new) opens) → after.kind ≡ before.kind → (is_some before.kind ≡ true → TakesIn model (state_in e) event opens before after) → IsCore model new left_waiting after
    core_takes opens held same takes = record {
      engine = taken.kept;
      unchanged = λ on some.
          let was : before.kind ≡ Some on = sym same ∙ some in
          subst (λ (st : State). AreUnchanged model on st after) (sym switched)
          (still_unchanged model (state_in e) event on opens before after (takes (ap is_some was)) (subst (λ (st : State). MayLeaveOut model on st opens) switched (held on)) (core.unchanged on was));
    }

    -- a scan that the model doesn't use: nothing happens to anybody
    pub core_stays : ((t : ℕ) → touches event t ≡ false) → after ≡ before → IsCore model new left_waiting after
    core_stays apart same =
        core_takes (λ group. true) (λ on t x live off out. absurd (false≢true (sym out))) (ap (λ (l : KeptScan). l.kind) same)
        (λ some. stays_in model (state_in e) event (λ group. true) before after apart same)

    -- who waits after the event is in the set of those that wait
    waits_after : (t : ℕ) (x : LegTask) → (with_switches model (state_in e) event).tasks t ≡ Live x → nat_eq x.level (state_in e).target ≡ false → has left_waiting t ≡ true
    waits_after t x live off =
        let there = slot_from_live new.table t x (ap (λ (st : State). st.tasks t) switched ∙ live) in
        taken.kept.waits t ∙ ap (is_off new.target) there ∙ not_from_false (nat_eq x.level new.target) (ap (λ (st : State). nat_eq x.level st.target) switched ∙ off)

    -- a scan after which this is noted
    pub core_scans : IsLawful model → (on : CheckKind) → is_scan_kind on ≡ true → scan_event on ≡ event → (verdicts : List Verdict) → AreEnough model on (state_in e) verdicts → IsNoted on left_waiting verdicts before after → IsCore model new left_waiting after
    core_scans lawful on scan is verdicts enough noted =
        let s = state_in e in
        let wide : suc s.bounds.tasks ≡ 65536 = omega arith in
        let there = switched ∙ ap (with_switches model s) (sym is) in
        let told : AreUnchanged model on (with_switches model s (scan_event on)) after = record {
          left_out = scan_refused model lawful 65536 s wide core.engine.sound e.table (λ t x live. slot_from_live e.table t x live) on scan (has after.changed);
          admitted = λ t x live off out. scan_admits model s on verdicts enough left_waiting before after noted core.unchanged t x live off (waits_after t x (ap (λ given. (with_switches model s given).tasks t) (sym is) ∙ live) off) out;
        } in
        record {
          engine = taken.kept;
          unchanged = λ other some.
              let same : Some on ≡ Some other = sym noted.noted ∙ some in
              let one : on ≡ other = cc in
              subst (λ k. AreUnchanged model k (state_in new) after) one (subst (λ (st : State). AreUnchanged model on st after) (sym there) told);
        }

-- nothing was forgotten, or all
pub core_rests : (model : Rules) (new : Engine) (waiting : Numbers) (before after : KeptScan) → IsCore model new waiting before → (after ≡ before) ⊎ (after.kind ≡ None) → IsCore model new waiting after
core_rests model new waiting before after core done =
    ⊎_elim
    (λ (same : after ≡ before). subst (λ (l : KeptScan). IsCore model new waiting l) (sym same) core)
    (λ (none : after.kind ≡ None). record { engine = core.engine; unchanged = λ on some. absurd (none_some on (sym none ∙ some)) })
    done

-- ---- What is noted of a task

-- the task that stands at a place of a table, and its group, if no frame holds it back
abbrev pub Notes : (opens : ℕ → Bool) → Table → ℕ → KeptScan → KeptScan → Type 0
Notes opens table a before after =
    ((group : ℕ) → has after.changed group ≡ (has before.changed group || (is_some before.kind && (is_in group (slot table a) && opens group))))
    × ((t : ℕ) → has after.may_refuse t ≡ (has before.may_refuse t || (is_some before.kind && nat_eq t a)))

in_same : (group : ℕ) (f : LegTask → LegTask) → ((x : LegTask) → (f x).group ≡ x.group) → (slot : Option LegTask) → is_in group (option_map f slot) ≡ is_in group slot
in_same group f groups None = refl
in_same group f groups (Some x) = ap (λ n. nat_eq n group) (groups x)

-- what is noted of a task after a change that leaves it in its group is what is noted of it before the change
pub notes_before : (opens : ℕ → Bool) (table new : Table) (a : ℕ) (f : LegTask → LegTask) (before after : KeptScan) → IsWide table → a < 65536 → new ≡ changed a f table → ((x : LegTask) → (f x).group ≡ x.group) → Notes opens new a before after → Notes opens table a before after
notes_before opens table new a f before after wide h is groups noted = (
  λ group.
      let same : is_in group (slot new a) ≡ is_in group (slot table a) =
      ap (λ (t : Table). is_in group (slot t a)) is ∙ (ap (is_in group) (slot-changed table a f wide h) ∙ in_same group f groups (slot table a)) in
      noted.0 group ∙ ap (λ b. has before.changed group || (is_some before.kind && (b && opens group))) same,
  noted.1,
)

first_out : (b c : Bool) → (b || c) ≡ false → b ≡ false
first_out false c h = refl
first_out true c h = h

module _ (opens : ℕ → Bool) (table : Table) (a : ℕ) (before after : KeptScan) (noted : Notes opens table a before after) (some : is_some before.kind ≡ true) where
  kept_out : (group : ℕ) → has after.changed group ≡ false → has before.changed group ≡ false
  kept_out group out = first_out (has before.changed group) (is_some before.kind && (is_in group (slot table a) && opens group)) (sym (noted.0 group) ∙ out)

  spared_out : (t : ℕ) → has after.may_refuse t ≡ false → has before.may_refuse t ≡ false
  spared_out t out = first_out (has before.may_refuse t) (is_some before.kind && nat_eq t a) (sym (noted.1 t) ∙ out)

  doubted_in : (t : ℕ) → nat_eq t a ≡ true → has after.may_refuse t ≡ true
  doubted_in t hit =
      noted.1 t
      ∙ or_right (has before.may_refuse t) (is_some before.kind && nat_eq t a) (and_from (is_some before.kind) (nat_eq t a) some hit)

  taken_in : (x : LegTask) → slot table a ≡ Some x → opens x.group ≡ true → has after.changed x.group ≡ true
  taken_in x there free =
      noted.0 x.group
      ∙ or_right (has before.changed x.group) (is_some before.kind && (is_in x.group (slot table a) && opens x.group))
      (and_from (is_some before.kind) (is_in x.group (slot table a) && opens x.group) some
      (and_from (is_in x.group (slot table a)) (opens x.group) (ap (is_in x.group) there ∙ eq-eqb x.group x.group refl) free))

module _ (model : Rules) (e : Engine) (event : Event) (opens : ℕ → Bool) (before after : KeptScan) where
  -- an event whose own effect is a change of a task, which keeps its group
  pub changes_in : (a : ℕ) (f : LegTask → LegTask) → Notes opens e.table a before after → ((t : ℕ) → touches event t ≡ nat_eq t a) → own_effect model.child_group (suc e.number) event (leg_tasks e.table) ≡ change a f (leg_tasks e.table) → ((x : LegTask) → (f x).group ≡ x.group)
      → is_some before.kind ≡ true → TakesIn model (state_in e) event opens before after
  changes_in a f noted only own groups some = record {
    keeps = kept_out opens e.table a before after noted some;
    before = λ t x hit live free. taken_in opens e.table a before after noted some x (slot_at t x hit live) free;
    after = λ t x hit live free.
        let is = sym (only_t t hit) ∙ (sym (ap (λ (w : ℕ → Fate LegTask). w t) own) ∙ live) in
        let w = live_from f (leg_tasks e.table t) x is in
        let same : w.0.group ≡ x.group = sym (groups w.0) ∙ ap (λ (y : LegTask). y.group) w.2 in
        ap (has after.changed) (sym same) ∙ taken_in opens e.table a before after noted some w.0 (slot_at t w.0 hit w.1) (ap opens same ∙ free);
    spares = spared_out opens e.table a before after noted some;
    doubts = λ t hit. doubted_in opens e.table a before after noted some t (at t hit);
  }
    where
      at : (t : ℕ) → touches event t ≡ true → nat_eq t a ≡ true
      at t hit = sym (only t) ∙ hit

      slot_at : (t : ℕ) (x : LegTask) → touches event t ≡ true → leg_tasks e.table t ≡ Live x → slot e.table a ≡ Some x
      slot_at t x hit live = ap (slot e.table) (sym (eqb-true t a (at t hit))) ∙ slot_from_live e.table t x live

      only_t : (t : ℕ) → touches event t ≡ true → change a f (leg_tasks e.table) t ≡ map_live f (leg_tasks e.table t)
      only_t t hit = cond-true (nat_eq t a) (map_live f (leg_tasks e.table t)) (leg_tasks e.table t) (at t hit)

-- the end of a task
pub dies_in : (model : Rules) (e : Engine) (a : TaskId) (opens : ℕ → Bool) (before after : KeptScan) → Notes opens e.table a.0 before after → is_some before.kind ≡ true → TakesIn model (state_in e) (Die a) opens before after
dies_in model e a opens before after noted some = record {
  keeps = kept_out opens e.table a.0 before after noted some;
  before = λ t x hit live free. taken_in opens e.table a.0 before after noted some x (ap (slot e.table) (sym (eqb-true t a.0 hit)) ∙ slot_from_live e.table t x live) free;
  after = λ t x hit live free. absurd (dead_live x (sym (cond-true (nat_eq t a.0) Dead (leg_tasks e.table t) hit) ∙ live));
  spares = spared_out opens e.table a.0 before after noted some;
  doubts = λ t hit. doubted_in opens e.table a.0 before after noted some t hit;
}
  where
    dead_live : (x : LegTask) → Dead ≡ Live x → ⊥
    dead_live x e = absurd (cc)

-- and a birth, which is noted of the table with the child
pub bears_in : (model : Rules) (e : Engine) (p c : TaskId) (how : ForkKind) (x : LegTask) (opens : ℕ → Bool) (before after : KeptScan) → IsWide e.table → c.0 < 65536 → refusal_of model (state_in e) (Fork p c how) ≡ None → born_of model (state_in e) (Fork p c how) ≡ Some x
    → Notes opens (with_task c.0 x e.table) c.0 before after → is_some before.kind ≡ true → TakesIn model (state_in e) (Fork p c how) opens before after
bears_in model e p c how x opens before after wide h accepted born noted some = record {
  keeps = kept_out opens (with_task c.0 x e.table) c.0 before after noted some;
  before = λ t y hit live free. absurd (none_some y (sym new.0 ∙ (ap (slot e.table) (sym (eqb-true t c.0 hit)) ∙ slot_from_live e.table t y live)));
  after = λ t y hit live free.
      let is = sym (cond-true (nat_eq t c.0) (map_live (bearing model.child_group c.0 how) (leg_tasks e.table p.0)) (leg_tasks e.table t) hit) ∙ live in
      let w = live_from (bearing model.child_group c.0 how) (leg_tasks e.table p.0) y is in
      let same : Some x ≡ Some y = sym brought ∙ (ap (child_of model.child_group c.0 (Fork p c how)) w.1 ∙ ap {A = LegTask} {B = Option LegTask} Some w.2) in
      let one : x ≡ y = cc in
      ap (λ (z : LegTask). has after.changed z.group) (sym one)
      ∙ taken_in opens (with_task c.0 x e.table) c.0 before after noted some x (slot-with_task e.table c.0 x wide h) (ap (λ (z : LegTask). opens z.group) one ∙ free);
  spares = spared_out opens (with_task c.0 x e.table) c.0 before after noted some;
  doubts = λ t hit. doubted_in opens (with_task c.0 x e.table) c.0 before after noted some t hit;
}
  where
    new : (slot e.table c.0 ≡ None) × (has e.table.used c.0 ≡ false)
    new = fork-new model e p c how accepted

    brought : child_of model.child_group c.0 (Fork p c how) (leg_tasks e.table p.0) ≡ Some x
    brought = subst (λ o. born_by model.child_group o (Fork p c how) (leg_tasks e.table) ≡ Some x) accepted born

pub own_check_touches : (on : CheckKind) (t : TaskId) (u : ℕ) → touches (own_check_event on t) u ≡ nat_eq u t.0
own_check_touches kind.KernelExit t u = refl
own_check_touches kind.IdlePoint t u = refl
own_check_touches kind.Resched t u = refl
own_check_touches kind.Walk t u = refl
own_check_touches kind.Stop t u = refl

-- ---- The engine with what it noted

module _ (model : Rules) (e old new : Engine) (waiting left_waiting : Numbers) (event : Event) (before after : KeptScan) (was : e ≡ old) (core : IsCore model e waiting before) (taken : HasTaken model old event new left_waiting) (accepted : refusal_of model (state_in old) event ≡ None) (kind : after.kind ≡ before.kind) where
  -- after a change of a task
  pub core_changes : (opens : ℕ → Bool) → ((on : CheckKind) → MayLeaveOut model on (state_in new) opens) → (a : ℕ) (f : LegTask → LegTask) → is_control event ≡ false → Notes opens e.table a before after → ((t : ℕ) → touches event t ≡ nat_eq t a) → own_effect model.child_group (suc e.number) event (leg_tasks e.table) ≡ change a f (leg_tasks e.table) → ((x : LegTask) → (f x).group ≡ x.group)
      → IsCore model new left_waiting after
  core_changes opens held a f plain noted only own groups =
      core_takes model e old new waiting left_waiting event before after was core taken accepted plain opens held kind (changes_in model e event opens before after a f noted only own groups)

-- ---- A scan that was taken

pub scan_free : (model : Rules) (s : State) (on : CheckKind) → refusal_of model s (scan_event on) ≡ None
unfolding refusal_of
scan_free model s kind.Walk = refl
scan_free model s kind.Stop = refl
scan_free model s kind.KernelExit = refl
scan_free model s kind.IdlePoint = refl
scan_free model s kind.Resched = refl

pub scan_plain : (on : CheckKind) → is_control (scan_event on) ≡ false
scan_plain kind.Walk = refl
scan_plain kind.Stop = refl
scan_plain kind.KernelExit = refl
scan_plain kind.IdlePoint = refl
scan_plain kind.Resched = refl

module _ (model : Rules) (lawful : IsLawful model) (e old new : Engine) (waiting left_waiting : Numbers) (event : Event) (before after : KeptScan) (was : e ≡ old) (core : IsCore model e waiting before) (taken : HasTaken model old event new left_waiting) where
  -- after a scan, whether it was noted or not
  pub core_scanned : (on : CheckKind) → is_scan_kind on ≡ true → scan_event on ≡ event → (verdicts : List Verdict) → AreVerdictsFor model (state_in old) event verdicts → (after ≡ before) ⊎ IsNoted on left_waiting verdicts before after → IsCore model new left_waiting after
  core_scanned on scan is verdicts enough noted =
      let accepted : refusal_of model (state_in old) event ≡ None = ap (refusal_of model (state_in old)) (sym is) ∙ scan_free model (state_in old) on in
      let plain : is_control event ≡ false = ap is_control (sym is) ∙ scan_plain on in
      let here : AreEnough model on (state_in e) verdicts = enough_for model (state_in e) on verdicts scan (subst (λ given. AreVerdictsFor model (state_in e) given verdicts) (sym is) (subst (λ (o : Engine). AreVerdictsFor model (state_in o) event verdicts) (sym was) enough)) in
      ⊎_elim
      (λ (same : after ≡ before). core_stays model e old new waiting left_waiting event before after was core taken accepted plain (λ t. ap (λ given. touches given t) (sym is) ∙ scan_touches on t) same)
      (λ (some : IsNoted on left_waiting verdicts before after). core_scans model e old new waiting left_waiting event before after was core taken accepted plain lawful on scan is verdicts here some)
      noted

-- ---- An engine that starts, and one that scans

pub core_starts : (model : Rules) (e : Engine) (waiting : Numbers) (last : KeptScan) → IsEngine e waiting → last.kind ≡ None → IsCore model e waiting last
core_starts model e waiting last kept none = record { engine = kept; unchanged = λ on some. absurd (none_some on (sym none ∙ some)) }
