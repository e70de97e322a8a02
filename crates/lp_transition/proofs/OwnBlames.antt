-- The frame for which an own check in the kernel refuses its task: it is found of the task's group alone, and is right.
use Rattle.std.proofs.Common.{◌≡◌, ℕ, ◌<◌, ◌≤◌, Bool, true, false, not, ◌&&◌, [], length, Option, Some, None, if◌then◌else◌, nat_eq, refl, sym, ap, subst, ◌∙◌}
use Rattle.std.proofs.lemmas.Bool.{cond-true, cond-false, and_parts, eqb-true, not-true}
use Rattle.std.specs.Option.{option_map}
use Rattle.lp_stack.specs.declared.number.TaskId.{TaskId}
use Rattle.lp_numbers.specs.Numbers.{Numbers, has}
use Rattle.lp_model.specs.Rules.{Rules, IsLawful}
use Rattle.lp_model.specs.declared.check.Blame.{Blame}
use Rattle.lp_model.specs.declared.check.Blame.TheVariants.{Unused, Frame as Held, Busy}
use Rattle.lp_model.specs.declared.check.CheckKind.{CheckKind}
use Rattle.lp_model.specs.declared.check.CheckKind.TheVariants as kind
use Rattle.lp_machine.specs.declared.standing_blame.StandingBlame.{StandingBlame}
use Rattle.lp_definitions.specs.declared.event.Event.TheVariants.{Resched}
use Rattle.lp_definitions.specs.Tasks.{Fate, Unused, Live, Dead, on_live, map_live}
use Rattle.lp_definitions.specs.Leg.{LegTask, State, is_alone}
use Rattle.lp_definitions.specs.Sound.{IsSound}
use Rattle.lp_definitions.proofs.Quantifiers.{some_live-is}
use Rattle.lp_machine.specs.Machine.{outline_of, outlines_of, view_of, waits_in, affected, refusal_of}
use Rattle.lp_machine.specs.Table.{Engine, slot, fate_at, leg_tasks, bounds_of, state_in}
use Rattle.lp_machine.proofs.Alone.{alone-other}
use Rattle.lp_tasks.specs.inside.Table.{is_in, is_off}
use Rattle.lp_tasks.specs.inside.OwnChecks.{own_check_event, at_own_check}
use Rattle.lp_tasks.proofs.TableLemmas.{slot-zero, live_from_slot}
use Rattle.lp_tasks.proofs.MemberLemmas.{IsLone, lone-told, it_waits}
use Rattle.lp_transition.specs.Blames.{own_blame, refused_first, frame_blame, or_blame}
use Rattle.lp_transition.specs.inside.Blames.{blame_at, IsBlamed, AreBlamed}
use Rattle.lp_transition.specs.inside.Invariant.{IsEngine}
use Rattle.lp_transition.proofs.Blames.{Leaves, leaves_found, moves, still}
use Rattle.lp_transition.proofs.BlamedScans.{blame_within}
use Rattle.lp_transition.proofs.Effects.{HasTaken}
use Rattle.lp_transition.proofs.OwnChecks.{own_check-level, own_check-group, own_check-plain, own_check-own}

-- the group waits, and the task is its only member
abbrev is_asked : State → (task group : ℕ) → Bool
is_asked s t g = waits_in s g && is_alone s.bounds (outlines_of s.tasks) g t

-- the frame that the check finds
abbrev found_frame : Rules → State → TaskId → Option StandingBlame
found_frame model s t = frame_blame (option_map (λ why. (t.0, why)) (own_blame model s t.0))

module _ (model : Rules) (e : Engine) (t : TaskId) where
  abbrev s : State
  s = state_in e

  asked_found : (g : ℕ) (b : Bool) → is_asked (state_in e) t.0 g ≡ b → frame_blame (refused_first model (state_in e) (Resched t) [] g) ≡ (if b then found_frame model (state_in e) t else None)
  asked_found g true is = ap frame_blame (cond-true (is_asked (state_in e) t.0 g) (option_map (λ why. (t.0, why)) (own_blame model (state_in e) t.0)) None is)
  asked_found g false is = ap frame_blame (cond-false (is_asked (state_in e) t.0 g) (option_map (λ why. (t.0, why)) (own_blame model (state_in e) t.0)) None is)

  -- a task that isn't live is no member
  no_member : (g : ℕ) (used : Bool) → on_live false (λ x. nat_eq x.group g) (map_live outline_of (fate_at None used)) ≡ false
  no_member g true = refl
  no_member g false = refl

  -- what is found is told of the task's group alone
  pub told_alone : (found : Option StandingBlame) → ((x : LegTask) → slot e.table t.0 ≡ Some x → (b : Bool) × (is_asked (state_in e) t.0 x.group ≡ b) × ((if b then found_frame model (state_in e) t else None) ≡ found))
      → (g : ℕ) → frame_blame (refused_first model (state_in e) (Resched t) [] g) ≡ (if is_in g (slot e.table t.0) then found else None)
  told_alone found own g = by (slot e.table t.0) refl
    where
      member : Option LegTask → Bool
      member o = on_live false (λ x. nat_eq x.group g) (map_live outline_of (fate_at o (has e.table.used t.0)))

      Goal : Type 0
      Goal = frame_blame (refused_first model (state_in e) (Resched t) [] g) ≡ (if is_in g (slot e.table t.0) then found else None)

      out : member (slot e.table t.0) ≡ false → is_in g (slot e.table t.0) ≡ false → Goal
      out none other =
          let unasked : is_asked (state_in e) t.0 g ≡ false = both (waits_in (state_in e) g) (member (slot e.table t.0)) _ none in
          asked_found g false unasked ∙ sym (cond-false (is_in g (slot e.table t.0)) found None other)
        where
          both : (a b c : Bool) → b ≡ false → (a && (b && c)) ≡ false
          both true b c h = ap (λ p. p && c) h
          both false b c h = refl

      within : (x : LegTask) → slot e.table t.0 ≡ Some x → (b : Bool) → nat_eq x.group g ≡ b → Goal
      within x there false other = out (ap member there ∙ other) (ap (is_in g) there ∙ other)
      within x there true mine =
          let same : x.group ≡ g = eqb-true x.group g mine in
          let told = own x there in
          asked_found g told.0 (ap (is_asked (state_in e) t.0) (sym same) ∙ told.1) ∙ told.2
          ∙ sym (cond-true (is_in g (slot e.table t.0)) found None (ap (is_in g) there ∙ mine))

      by : (o : Option LegTask) → slot e.table t.0 ≡ o → Goal
      by None there = out (ap member there ∙ no_member g (has e.table.used t.0)) (ap (is_in g) there)
      by (Some x) there = within x there (nat_eq x.group g) refl

-- where the model uses the check, what it says of the task
pub found_as : (model : Rules) (e : Engine) (t : TaskId) (x : LegTask) → slot e.table t.0 ≡ Some x → model.uses kind.Resched ≡ true → (o : Option Blame) → model.blame kind.Resched (view_of t.0 x) (state_in e).aim ≡ o
    → found_frame model (state_in e) t ≡ frame_blame (option_map (λ why. (t.0, why)) o)
found_as model e t x there used o is =
    let asked = λ (fate : Fate LegTask). on_live None (λ y. model.blame kind.Resched (view_of t.0 y) (state_in e).aim) fate in
    ap (λ p. frame_blame (option_map (λ why. (t.0, why)) p)) (cond-true (model.uses kind.Resched) (asked (leg_tasks e.table t.0)) None used ∙ (ap asked (live_from_slot e.table t.0 x there) ∙ is))

-- ---- Who is asked

module _ (e : Engine) (waiting : Numbers) (kept : IsEngine e waiting) (t : ℕ) (x : LegTask) (there : slot e.table t ≡ Some x) where
  -- a task that doesn't wait isn't
  pub unasked_on : has waiting t ≡ false → is_asked (state_in e) t x.group ≡ false
  unasked_on on = by (waits_in (state_in e) x.group) refl
    where
      by : (b : Bool) → waits_in (state_in e) x.group ≡ b → is_asked (state_in e) t x.group ≡ false
      by false none = ap (λ b. b && is_alone (bounds_of e.patches) (outlines_of (leg_tasks e.table)) x.group t) none
      by true some =
          let one = (it_waits e.table e.patches kept.wide (slot-zero e kept.sound) waiting e.target kept.waits x.group).0 some in
          let level : x.level ≡ one.member.task.level = kept.sound.one_side t one.number x one.member.task (live_from_slot e.table t x there) (live_from_slot e.table one.number one.member.task one.member.there) (sym one.member.grouped) in
          let mine : not (nat_eq x.level e.target) ≡ false = sym (kept.waits t ∙ ap (is_off e.target) there) ∙ on in
          let other : not (nat_eq one.member.task.level e.target) ≡ true = sym (kept.waits one.number ∙ ap (is_off e.target) one.member.there) ∙ one.waits in
          let same = ap (λ l. not (nat_eq l e.target)) level in
          absurd (cc)

  -- of any other it is asked whether it is alone
  pub asked_as : has waiting t ≡ true → (one : Bool) → (one ≡ true → IsLone e.table x.group t) → (IsLone e.table x.group t → one ≡ true) → is_asked (state_in e) t x.group ≡ one
  asked_as waits one to back =
      let here : waits_in (state_in e) x.group ≡ true = (it_waits e.table e.patches kept.wide (slot-zero e kept.sound) waiting e.target kept.waits x.group).1 (record { number = t; waits = waits; member = record { task = x; there = there; grouped = refl } }) in
      ap (λ b. b && is_alone (bounds_of e.patches) (outlines_of (leg_tasks e.table)) x.group t) here
      ∙ sym (lone-told e.table e.patches kept.wide (slot-zero e kept.sound) x.group t (record { task = x; there = there; grouped = refl }) one (to, back))

-- ---- It is right

frame_some : (t serial : ℕ) (b : StandingBlame) → frame_blame (Some (t, Held serial)) ≡ Some b → (record { task = record { 0 = t }; serial = serial }) ≡ b
frame_some t serial b e = let same : frame_blame (Some (t, Held serial)) ≡ Some b = e in cc

module _ (model : Rules) (lawful : IsLawful model) (e : Engine) (sound : IsSound (state_in e)) (t : TaskId) (g : ℕ) (b : StandingBlame) where
  -- who is asked is a member that waits
  right_of : (x : LegTask) → leg_tasks e.table t.0 ≡ Live x → is_asked (state_in e) t.0 g ≡ true → (serial : ℕ) → model.blame kind.Resched (view_of t.0 x) (state_in e).aim ≡ Some (Held serial) → IsBlamed model (state_in e) g (record { task = record { 0 = t.0 }; serial = serial })
  right_of x live asked serial blamed =
      let parts = and_parts (waits_in (state_in e) g) (is_alone (bounds_of e.patches) (outlines_of (leg_tasks e.table)) g t.0) asked in
      let mine : x.group ≡ g = eqb-true x.group g (sym (ap (λ fate. on_live false (λ y. nat_eq y.group g) (map_live outline_of fate)) live) ∙ (and_parts _ _ parts.1).0) in
      let w = some_live-is (bounds_of e.patches) (leg_tasks e.table) (λ u y. nat_eq y.group g && not (nat_eq y.level e.target)) parts.0 in
      let both = and_parts (nat_eq w.life.group g) (not (nat_eq w.life.level e.target)) w.passed in
      let same : w.task ≡ t.0 = alone-other (bounds_of e.patches) (leg_tasks e.table) g t.0 x live mine parts.1 w.task w.life w.positive w.within w.live (eqb-true w.life.group g both.0) in
      let one : Live w.life ≡ Live x = sym w.live ∙ (ap (leg_tasks e.table) same ∙ live) in
      let life : w.life ≡ x = cc in
      let holds = lawful.blames_there kind.Resched (view_of t.0 x) (state_in e).aim serial blamed in
      record {
        life = x;
        live = live;
        off = ap (λ (y : LegTask). nat_eq y.level e.target) (sym life) ∙ not-true (nat_eq w.life.level e.target) both.1;
        grouped = mine;
        frame = holds.0;
        serial = holds.2;
        there = holds.1;
        kind = kind.Resched;
        seen = view_of t.0 x;
        task = refl;
        rises = sound.serials_rise t.0 x live;
        held = holds.1;
        blame = blamed;
      }

  right_blame : (x : LegTask) → leg_tasks e.table t.0 ≡ Live x → is_asked (state_in e) t.0 g ≡ true → (o : Option Blame) → model.blame kind.Resched (view_of t.0 x) (state_in e).aim ≡ o → frame_blame (option_map (λ why. (t.0, why)) o) ≡ Some b → IsBlamed model (state_in e) g b
  right_blame x live asked None is h = absurd (cc)
  right_blame x live asked (Some Unused) is h = absurd (cc)
  right_blame x live asked (Some Busy) is h = absurd (cc)
  right_blame x live asked (Some (Held serial)) is h = subst (IsBlamed model (state_in e) g) (frame_some t.0 serial b h) (right_of x live asked serial is)

  right_fate : is_asked (state_in e) t.0 g ≡ true → (fate : Fate LegTask) → leg_tasks e.table t.0 ≡ fate → frame_blame (option_map (λ why. (t.0, why)) (on_live None (λ x. model.blame kind.Resched (view_of t.0 x) (state_in e).aim) fate)) ≡ Some b → IsBlamed model (state_in e) g b
  right_fate asked Unused is h = absurd (cc)
  right_fate asked Dead is h = absurd (cc)
  right_fate asked (Live x) is h = right_blame x is asked (model.blame kind.Resched (view_of t.0 x) (state_in e).aim) refl h

  right_used : is_asked (state_in e) t.0 g ≡ true → (used : Bool) → model.uses kind.Resched ≡ used → found_frame model (state_in e) t ≡ Some b → IsBlamed model (state_in e) g b
  right_used asked true used h =
      right_fate asked (leg_tasks e.table t.0) refl
      (sym (ap (λ o. frame_blame (option_map (λ why. (t.0, why)) o)) (cond-true (model.uses kind.Resched) (on_live None (λ x. model.blame kind.Resched (view_of t.0 x) (state_in e).aim) (leg_tasks e.table t.0)) None used)) ∙ h)
  right_used asked false used h =
      let none : None ≡ Some b = sym (ap (λ o. frame_blame (option_map (λ why. (t.0, why)) o)) (cond-false (model.uses kind.Resched) (on_live None (λ x. model.blame kind.Resched (view_of t.0 x) (state_in e).aim) (leg_tasks e.table t.0)) None used)) ∙ h in
      absurd (cc)

  pub found_right : frame_blame (refused_first model (state_in e) (Resched t) [] g) ≡ Some b → IsBlamed model (state_in e) g b
  found_right h = by (is_asked (state_in e) t.0 g) refl
    where
      by : (asked : Bool) → is_asked (state_in e) t.0 g ≡ asked → IsBlamed model (state_in e) g b
      by true asked = right_used asked (model.uses kind.Resched) refl (sym (asked_found model e t g true asked) ∙ h)
      by false asked = let none : None ≡ Some b = sym (asked_found model e t g false asked) ∙ h in absurd (cc)

-- ---- The blames after an own check

module _ (model : Rules) (lawful : IsLawful model) (e old new : Engine) (waiting left_waiting : Numbers) (on : CheckKind) (t : TaskId) (was : e ≡ old) (kept : IsEngine e waiting) (blamed : AreBlamed model (state_in e) e.blames) (taken : HasTaken model old (own_check_event on t) new left_waiting) (accepted : refusal_of model (state_in old) (own_check_event on t) ≡ None) where
  none_found : (b : StandingBlame) → None ≡ Some b → ⊥
  none_found b h = absurd (cc)

  finds : (k : CheckKind) (g : ℕ) (b : StandingBlame) → frame_blame (refused_first model (state_in e) (own_check_event k t) [] g) ≡ Some b → IsBlamed model (affected model (state_in e) (own_check_event k t)) g b
  finds kind.Resched g b h = still model lawful (state_in e) g b (found_right model lawful e kept.sound t g b h) (Resched t) refl
  finds kind.KernelExit g b h = absurd (none_found b h)
  finds kind.IdlePoint g b h = absurd (none_found b h)
  finds kind.Walk g b h = absurd (none_found b h)
  finds kind.Stop g b h = absurd (none_found b h)

  pub leaves_own : (found : Option StandingBlame) → length new.blames ≤ 65536
      → ((g : ℕ) → frame_blame (refused_first model (state_in e) (own_check_event on t) [] g) ≡ (if is_in g (slot e.table t.0) then found else None))
      → ((g : ℕ) → g < 65536 → blame_at new.blames g ≡ (if is_in g (slot e.table t.0) then or_blame (blame_at e.blames g) found else blame_at e.blames g))
      → Leaves model old (own_check_event on t) [] new
  leaves_own found few told noted =
      leaves_found model lawful e old new (own_check_event on t) was taken.kept.sound taken.state accepted (own_check-plain on t)
      (λ g b at. blame_within new.blames g b few at)
      (λ g within. noted g within ∙ joined (is_in g (slot e.table t.0)) (blame_at e.blames g) ∙ ap (or_blame (blame_at e.blames g)) (sym (told g)))
      (finds on)
      (λ g b at.
      let w = blamed g b at in
      moves model lawful (state_in e) g b w (own_check_event on t) t.0 (at_own_check on) (own_check-own _ _ on t _) (own_check-level on) (own_check-group on) (λ _. w.there))
    where
      joined : (mine : Bool) (o : Option StandingBlame) → (if mine then or_blame o found else o) ≡ or_blame o (if mine then found else None)
      joined true o = refl
      joined false None = refl
      joined false (Some b) = refl
