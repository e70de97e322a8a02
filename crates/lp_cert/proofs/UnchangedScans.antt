-- A group that waits after a scan that the model uses is unchanged: the scan refused it, and its newest line tells why.
use Rattle.std.proofs.Common.{◌≡◌, ℕ, suc, Bool, true, false, not, ◌&&◌, List, [], ◌∷◌, ◌++◌, length, Option, Some, None, IsTrue, if◌then◌else◌, nat_eq, refl, sym, ap, ap₂, subst, ◌∙◌, length-append, arith}
use Rattle.std.specs.List.{list_any}
use Rattle.std.proofs.lemmas.Bool.{false≢true, cond-true, cond-false, eq-eqb}
use Rattle.std.proofs.lemmas.List.Folds.{list_any_at}
use Rattle.lp_stack.specs.declared.frame.Frame.{Frame}
use Rattle.lp_model.specs.declared.check.CheckKind.{CheckKind}
use Rattle.lp_model.specs.declared.check.CheckKind.TheVariants as kind
use Rattle.lp_model.specs.declared.check.Blame.{Blame}
use Rattle.lp_model.specs.declared.check.Blame.TheVariants as blame
use Rattle.lp_model.specs.Rules.{Rules, IsLawful}
use Rattle.lp_transition.specs.LastScan.{AreSameMembers}
use Rattle.lp_definitions.specs.Tasks.{Fate, Unused, Live, Dead, on_live, map_live}
use Rattle.lp_definitions.specs.Leg.{LegTask, State, Leg}
use Rattle.lp_definitions.specs.Run.{and_then, opens}
use Rattle.lp_transition.specs.Scan.{is_scan_kind, scan_event, verdicts_of}
use Rattle.lp_transition.specs.inside.ScanSteps.{switches_by}
use Rattle.lp_definitions.specs.Sound.{IsSound}
use Rattle.lp_machine.specs.Table.{Engine, state_in}
use Rattle.lp_machine.specs.Machine.{view_of, waits_in, refusal_of, affected, switches_at, switched_task, with_switches, state_of}
use Rattle.lp_definitions.proofs.Quantifiers.{some_live-from}
use Rattle.lp_transition.proofs.ScanAnswers.{switches-walk, switches-stop}
use Rattle.lp_machine_laws.proofs.States.{state_sound}
use Rattle.lp_tasks.proofs.TableLemmas.{slot_from_live}
use Rattle.lp_transition.proofs.Unchanged.{live_from}
use Rattle.lp_transition.specs.Blames.{has_frame_in, blame_in, first_blamed_in}
use Rattle.lp_definitions.specs.declared.line.Line.{Line}
use Rattle.lp_definitions.specs.declared.line.Line.TheVariants as line
use Rattle.lp_definitions.specs.Certificates.{lines, after_check, after_refusal, refusal_line}
use Rattle.lp_cert.specs.Unchanged.{IsUnchanged, AreUnchanged}
use Rattle.lp_cert.proofs.Waits.{none_refused}
use Rattle.lp_cert.proofs.HoldNames.{NamesMember, first_at, lines_name}
use Rattle.lp_cert.proofs.NextLines.{lines_at_scan}
use Rattle.lp_cert.proofs.UnchangedEvents.{after_is, unchanged_as}
use Rattle.lp_cert.proofs.VerdictLines.{verdicts_tell}

some_none : {A : Type 0} (a : A) → Some a ≡ None → ⊥
some_none a e = absurd (cc)

-- nobody is blamed at a kind that the model uses because it doesn't use it
used_first : (model : Rules) → IsLawful model → (s : State) (on : CheckKind) → IsTrue (model.uses on) → (g : ℕ) (blamed : ℕ × Blame) → first_blamed_in model s on g ≡ Some blamed → blamed.1 ≡ blame.Unused → ⊥
used_first model lawful s on used g blamed first unused =
    at (s.tasks blamed.0) refl
  where
    told : blame_in model s on g blamed.0 ≡ Some blame.Unused
    told = first_at (blame_in model s on g) blamed 1 s.bounds.tasks first ∙ ap {A = Blame} {B = Option Blame} Some unused

    by : (y : LegTask) → s.tasks blamed.0 ≡ Live y → (b : Bool) → nat_eq y.group g ≡ b → ⊥
    by y there true mine =
        let is : model.blame on (view_of blamed.0 y) s.aim ≡ Some blame.Unused = sym (ap (on_live None (λ (y : LegTask). if nat_eq y.group g then model.blame on (view_of blamed.0 y) s.aim else None)) there ∙ cond-true (nat_eq y.group g) (model.blame on (view_of blamed.0 y) s.aim) None mine) ∙ told in
        let not_used = lawful.blames_used on (view_of blamed.0 y) s.aim is in
        absurd (cc)
    by y there false mine = some_none blame.Unused (sym (sym (ap (on_live None (λ (y : LegTask). if nat_eq y.group g then model.blame on (view_of blamed.0 y) s.aim else None)) there ∙ cond-false (nat_eq y.group g) (model.blame on (view_of blamed.0 y) s.aim) None mine) ∙ told))

    at : (fate : Fate LegTask) → s.tasks blamed.0 ≡ fate → ⊥
    at Unused e = some_none blame.Unused (sym (sym (ap (on_live None (λ (y : LegTask). if nat_eq y.group g then model.blame on (view_of blamed.0 y) s.aim else None)) e) ∙ told))
    at (Live y) e = by y e (nat_eq y.group g) refl
    at Dead e = some_none blame.Unused (sym (sym (ap (on_live None (λ (y : LegTask). if nat_eq y.group g then model.blame on (view_of blamed.0 y) s.aim else None)) e) ∙ told))

-- a task that waits shows that its group does
pub is_waiting : (s : State) (sound : IsSound s) (t : ℕ) (x : LegTask) → s.tasks t ≡ Live x → nat_eq x.level s.target ≡ false → IsTrue (waits_in s x.group)
is_waiting s sound t x live off =
    let range = sound.numbered t x live in
    some_live-from s.bounds s.tasks (λ u y. nat_eq y.group x.group && not (nat_eq y.level s.target)) (record {
      task = t;
      life = x;
      positive = range.0;
      within = range.1;
      live = live;
      passed = ap₂ (λ a b. a && not b) (eq-eqb x.group x.group refl) off;
    })

-- ---- The first member that is refused

module _ (model : Rules) (lawful : IsLawful model) (s : State) (on : CheckKind) (used : IsTrue (model.uses on)) (g : ℕ) (blamed : ℕ × Blame) (first : first_blamed_in model s on g ≡ Some blamed) where
  told : blame_in model s on g blamed.0 ≡ Some blamed.1
  told = first_at (blame_in model s on g) blamed 1 s.bounds.tasks first

  -- a frame for which it is refused is on its stack
  pub frame_there : (serial : ℕ) → blamed.1 ≡ blame.Frame serial → has_frame_in s blamed.0 serial ≡ true
  frame_there serial why = at (s.tasks blamed.0) refl
    where
      asked : Fate LegTask → Option Blame
      asked fate = on_live None (λ (y : LegTask). if nat_eq y.group g then model.blame on (view_of blamed.0 y) s.aim else None) fate

      is_frame : asked (s.tasks blamed.0) ≡ Some (blame.Frame serial)
      is_frame = told ∙ ap {A = Blame} {B = Option Blame} Some why

      by : (y : LegTask) → s.tasks blamed.0 ≡ Live y → (mine : Bool) → nat_eq y.group g ≡ mine → has_frame_in s blamed.0 serial ≡ true
      by y there true mine =
          let is : model.blame on (view_of blamed.0 y) s.aim ≡ Some (blame.Frame serial) = sym (ap asked there ∙ cond-true (nat_eq y.group g) (model.blame on (view_of blamed.0 y) s.aim) None mine) ∙ is_frame in
          let holds = lawful.blames_there on (view_of blamed.0 y) s.aim serial is in
          ap (on_live false (λ (z : LegTask). list_any (λ frame. nat_eq frame.serial serial) z.frames)) there
          ∙ list_any_at (λ (frame : Frame). nat_eq frame.serial serial) y.frames holds.1.0 holds.0 holds.1.1 (ap (λ (frame : Frame). nat_eq frame.serial serial) holds.1.2 ∙ eq-eqb holds.0.serial serial holds.2)
      by y there false mine = absurd (some_none (blame.Frame serial) (sym is_frame ∙ (ap asked there ∙ cond-false (nat_eq y.group g) (model.blame on (view_of blamed.0 y) s.aim) None mine)))

      at : (fate : Fate LegTask) → s.tasks blamed.0 ≡ fate → has_frame_in s blamed.0 serial ≡ true
      at Unused e = absurd (some_none (blame.Frame serial) (sym is_frame ∙ ap asked e))
      at Dead e = absurd (some_none (blame.Frame serial) (sym is_frame ∙ ap asked e))
      at (Live y) e = by y e (nat_eq y.group g) refl

  -- the lines after its refusal go on at a further one
  refused_unchanged : (at : ℕ) (ls : List Line) → IsUnchanged model on s g (after_refusal (has_frame_in s) g at blamed ls)
  refused_unchanged at ls = by ls
    where
      fresh : (why : Blame) → blamed.1 ≡ why → (rest : List Line) → IsUnchanged model on s g (refusal_line g at (blamed.0, why) ++ rest)
      fresh (blame.Frame serial) e rest = frame_there serial e
      fresh blame.Busy e rest = first ∙ ap {A = Blame} {B = Option (ℕ × Blame)} (λ b. Some (blamed.0, b)) e
      fresh blame.Unused e rest = absurd (used_first model lawful s on used g blamed first e)

      by : (rest : List Line) → IsUnchanged model on s g (after_refusal (has_frame_in s) g at blamed rest)
      by [] = fresh blamed.1 refl []
      by (line.Busy h2 task on_at ∷ older) = fresh blamed.1 refl (line.Busy h2 task on_at ∷ older)
      by (line.Born h2 p on_at ∷ older) = fresh blamed.1 refl (line.Born h2 p on_at ∷ older)
      by (line.Hold h2 task serial from to ∷ older) = held (has_frame_in s task.0 serial) refl
        where
          held : (b : Bool) → has_frame_in s task.0 serial ≡ b → IsUnchanged model on s g (after_refusal (has_frame_in s) g at blamed (line.Hold h2 task serial from to ∷ older))
          held true e =
              subst (IsUnchanged model on s g) (sym (cond-true (has_frame_in s task.0 serial) (line.Hold h2 task serial from at ∷ older) (refusal_line g at blamed ++ line.Hold h2 task serial from to ∷ older) e)) e
          held false e =
              subst (IsUnchanged model on s g) (sym (cond-false (has_frame_in s task.0 serial) (line.Hold h2 task serial from at ∷ older) (refusal_line g at blamed ++ line.Hold h2 task serial from to ∷ older) e))
              (fresh blamed.1 refl (line.Hold h2 task serial from to ∷ older))

-- ---- A scan

pub scan_free : (model : Rules) (s : State) (on : CheckKind) → refusal_of model s (scan_event on) ≡ None
unfolding refusal_of
scan_free model s kind.Walk = refl
scan_free model s kind.Stop = refl
scan_free model s kind.KernelExit = refl
scan_free model s kind.IdlePoint = refl
scan_free model s kind.Resched = refl

scan_opens_none : (model : Rules) (leg : Leg) (on : CheckKind) → opens model leg (scan_event on) ≡ false
scan_opens_none model leg kind.Walk = refl
scan_opens_none model leg kind.Stop = refl
scan_opens_none model leg kind.KernelExit = refl
scan_opens_none model leg kind.IdlePoint = refl
scan_opens_none model leg kind.Resched = refl

-- the tasks stand as they stood before groups switch
pub scan_own : (model : Rules) (s : State) (on : CheckKind) → (affected model s (scan_event on)).tasks ≡ s.tasks
scan_own model s kind.Walk = refl
scan_own model s kind.Stop = refl
scan_own model s kind.KernelExit = refl
scan_own model s kind.IdlePoint = refl
scan_own model s kind.Resched = refl

-- a group that waits and doesn't switch is refused
module _ (model : Rules) (lawful : IsLawful model) (e : Engine) (sound : IsSound (state_in e)) where
  scan_switches : (on : CheckKind) → is_scan_kind on ≡ true → (g : ℕ) → switches_at model (affected model (state_in e) (scan_event on)) (scan_event on) g ≡ switches_by e.table (verdicts_of model on (state_in e)) g
  scan_switches kind.Walk scan g = switches-walk model lawful 65536 (state_in e) refl sound e.table (λ t x live. slot_from_live e.table t x live) g
  scan_switches kind.Stop scan g = switches-stop model lawful 65536 (state_in e) refl sound e.table (λ t x live. slot_from_live e.table t x live) g
  scan_switches kind.KernelExit scan g = absurd (false≢true scan)
  scan_switches kind.IdlePoint scan g = absurd (false≢true scan)
  scan_switches kind.Resched scan g = absurd (false≢true scan)

  abbrev IsRefused : CheckKind → ℕ → State → Type 0
  IsRefused on g s = waits_in s g ≡ true → switches_at model (affected model s (scan_event on)) (scan_event on) g ≡ false → first_blamed_in model s on g ≡ None → ⊥

  refused_here : (on : CheckKind) → is_scan_kind on ≡ true → (g : ℕ) → IsRefused on g (state_in e)
  refused_here on scan g it_waits stays none =
      false≢true (sym stays ∙ (scan_switches on scan g ∙ none_refused model lawful e sound on g it_waits (verdicts_tell model (state_in e) sound on g it_waits ∙ none)))

module _ (model : Rules) (lawful : IsLawful model) (e : Engine) (sound : IsSound (state_in e)) (leg : Leg) (leg_sound : IsSound leg.opening) (there : state_in e ≡ state_of model leg)
    (on : CheckKind) (scan : is_scan_kind on ≡ true) (used : IsTrue (model.uses on)) where
  abbrev s : State
  s = state_of model leg

  abbrev n : ℕ
  n = length leg.events

  abbrev event_now : State
  event_now = affected model s (scan_event on)

  abbrev goes : ℕ → Bool
  goes g = switches_at model event_now (scan_event on) g

  abbrev switched : LegTask → LegTask
  switched y = switched_task model event_now (scan_event on) y

  abbrev after : State
  after = with_switches model s (scan_event on)

  switched_not : (y : LegTask) → goes y.group ≡ false → switched y ≡ y
  switched_not y stays = cond-false (goes y.group) (record y { level = s.target }) y stays

  switched_group : (y : LegTask) (b : Bool) → goes y.group ≡ b → y.group ≡ (switched y).group
  switched_group y true e2 = ap (λ b. (if b then record y { level = s.target } else y).group) (sym e2)
  switched_group y false e2 = ap (λ b. (if b then record y { level = s.target } else y).group) (sym e2)

  -- who is off the target afterwards didn't switch
  not_switched : (y : LegTask) (b : Bool) → goes y.group ≡ b → nat_eq (switched y).level s.target ≡ false → goes y.group ≡ false
  not_switched y true e2 off =
      absurd (false≢true (sym (ap (λ b. nat_eq (if b then record y { level = s.target } else y).level s.target) (sym e2) ∙ off) ∙ eq-eqb s.target s.target refl))
  not_switched y false e2 off = e2

  -- the members of a group that doesn't switch stand as they stood
  members_as : (g : ℕ) → goes g ≡ false → AreSameMembers s after g
  members_as g stays t x mine = (
    λ live. ap (map_live switched) (ap (λ (w : ℕ → Fate LegTask). w t) (scan_own model s on) ∙ live) ∙ ap Live (switched_not x (ap goes mine ∙ stays)),
    λ live.
        let w = live_from switched (event_now.tasks t) x live in
        let group : w.0.group ≡ g = switched_group w.0 (goes w.0.group) refl ∙ (ap (λ z. z.group) w.2 ∙ mine) in
        let same : w.0 ≡ x = sym (switched_not w.0 (ap goes group ∙ stays)) ∙ w.2 in
        sym (ap (λ (w2 : ℕ → Fate LegTask). w2 t) (scan_own model s on)) ∙ (w.1 ∙ ap Live same),
  )

  waits_still : (t : ℕ) (x : LegTask) → after.tasks t ≡ Live x → nat_eq x.level s.target ≡ false → goes x.group ≡ false
  waits_still t x live off =
      let w = live_from switched (event_now.tasks t) x live in
      let stays = not_switched w.0 (goes w.0.group) refl (ap (λ y. nat_eq y.level s.target) w.2 ∙ off) in
      ap goes (sym (switched_group w.0 (goes w.0.group) refl ∙ ap (λ z. z.group) w.2)) ∙ stays

  -- the lines of a group that waits and is refused
  further_unchanged : (g : ℕ) → IsTrue (waits_in s g) → goes g ≡ false → IsUnchanged model on s g (lines model (and_then leg (scan_event on)) (suc n) g)
  further_unchanged g it_waits stays = by (first_blamed_in model s on g) refl
    where
      is : lines model (and_then leg (scan_event on)) (suc n) g ≡ after_check (has_frame_in s) g (suc s.number) (first_blamed_in model s on g) (lines model leg n g)
      is = lines_at_scan model leg on g scan used it_waits

      by : (o : Option (ℕ × Blame)) → first_blamed_in model s on g ≡ o → IsUnchanged model on s g (lines model (and_then leg (scan_event on)) (suc n) g)
      by None none = absurd (subst (IsRefused model lawful e sound on g) there (refused_here model lawful e sound on scan g) it_waits stays none)
      by (Some blamed) first =
          subst (IsUnchanged model on s g) (sym (is ∙ ap (λ o. after_check (has_frame_in s) g (suc s.number) o (lines model leg n g)) first))
          (refused_unchanged model lawful s on used g blamed first (suc s.number) (lines model leg n g))

  -- who waits after the scan is unchanged
  pub scan_leaves_unchanged : (changed : ℕ → Bool) → AreUnchanged model (state_of model (and_then leg (scan_event on))) (lines model (and_then leg (scan_event on)) (suc n)) on changed
  scan_leaves_unchanged changed =
      let after_scan_is : state_of model (and_then leg (scan_event on)) ≡ after = after_is model lawful leg leg_sound (scan_event on) (scan_opens_none model leg on) (scan_free model s on) in
      subst (λ st. AreUnchanged model st (lines model (and_then leg (scan_event on)) (suc n)) on changed) (sym after_scan_is)
      (λ t x live off out.
      let stays = waits_still t x live off in
      let same = members_as x.group stays in
      let stood : s.tasks t ≡ Live x = (same t x refl).1 live in
      let named : NamesMember after x.group (lines model (and_then leg (scan_event on)) (suc n) x.group) = subst (λ st. NamesMember st x.group (lines model (and_then leg (scan_event on)) (suc n) x.group)) after_scan_is (names_at x.group) in
      unchanged_as model s after refl refl on x.group same (lines model (and_then leg (scan_event on)) (suc n) x.group)
      (names_before x.group (lines model (and_then leg (scan_event on)) (suc n) x.group) named)
      (further_unchanged x.group (is_waiting s (state_sound model lawful leg leg_sound) t x stood off) stays))
    where
      names_at : (g : ℕ) → NamesMember (state_of model (and_then leg (scan_event on))) g (lines model (and_then leg (scan_event on)) (suc n) g)
      names_at g =
          subst (λ m. NamesMember (state_of model (and_then leg (scan_event on))) g (lines model (and_then leg (scan_event on)) m g))
          (length-append leg.events (scan_event on ∷ []) ∙ omega arith)
          (lines_name model (and_then leg (scan_event on)) g)

      -- a task keeps its group
      group_of : (fate : Fate LegTask) (g : ℕ) → ((x : LegTask) → map_live switched fate ≡ Live x → x.group ≡ g) → (x : LegTask) → fate ≡ Live x → x.group ≡ g
      group_of fate g named x is = switched_group x (goes x.group) refl ∙ named (switched x) (ap (map_live switched) is)

      names_before : (g : ℕ) (ls : List Line) → NamesMember after g ls → NamesMember s g ls
      names_before g [] named = tt
      names_before g (line.Hold h2 task serial from to ∷ older) named = λ x live.
          group_of (event_now.tasks task.0) g named x (ap (λ (w : ℕ → Fate LegTask). w task.0) (scan_own model s on) ∙ live)
      names_before g (line.Busy h2 task at ∷ older) named = tt
      names_before g (line.Born h2 p at ∷ older) named = tt
