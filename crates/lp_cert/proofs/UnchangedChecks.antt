-- An own check in the kernel that refuses a group leaves it unchanged: its newest line goes on still.
use Rattle.std.proofs.Common.{◌≡◌, ℕ, suc, Bool, true, false, ◌&&◌, List, [], ◌∷◌, ◌++◌, length, Contains, Option, Some, None, if◌then◌else◌, nat_eq, refl, sym, ap, ap₂, subst, ◌∙◌}
use Rattle.std.specs.List.{list_any}
use Rattle.std.proofs.lemmas.Bool.{and_parts, cond-true, cond-false, eq-eqb, eqb-true}
use Rattle.std.proofs.lemmas.List.Folds.{list_any_at}
use Rattle.lp_stack.specs.declared.frame.Frame.{Frame}
use Rattle.lp_stack.specs.declared.number.TaskId.{TaskId}
use Rattle.lp_model.specs.declared.check.Blame.{Blame}
use Rattle.lp_model.specs.declared.check.Blame.TheVariants as blame
use Rattle.lp_model.specs.declared.check.CheckKind.{CheckKind}
use Rattle.lp_model.specs.declared.check.CheckKind.TheVariants as kind
use Rattle.lp_model.specs.Rules.{Rules, IsLawful}
use Rattle.lp_definitions.specs.declared.event.Event.TheVariants.{Resched}
use Rattle.lp_definitions.specs.declared.refusal.Refusal.{Refusal}
use Rattle.lp_definitions.specs.Tasks.{Fate, Unused, Live, Dead, on_live, map_live}
use Rattle.lp_definitions.specs.Leg.{LegTask, State, Leg, is_alone}
use Rattle.lp_definitions.specs.Run.{and_then}
use Rattle.lp_definitions.specs.Sound.{IsSound}
use Rattle.lp_machine.specs.Machine.{outline_of, outlines_of, view_of, refusal_of, state_of}
use Rattle.lp_machine.proofs.Alone.{alone-other}
use Rattle.lp_machine_laws.proofs.States.{state_sound}
use Rattle.lp_machine_laws.proofs.Steps.{refusal_is}
use Rattle.lp_laws.proofs.OneMore.{plain_refusal}
use Rattle.lp_transition.specs.Blames.{has_frame_in, blame_in, first_blamed_in}
use Rattle.lp_definitions.specs.declared.line.Line.{Line}
use Rattle.lp_definitions.specs.declared.line.Line.TheVariants as line
use Rattle.lp_definitions.specs.Certificates.{after_check, after_refusal, refusal_line, lines}
use Rattle.lp_cert.specs.EventLines.{lines_after_scan, lines_after_own_check}
use Rattle.lp_cert.specs.Unchanged.{IsUnchanged}
use Rattle.lp_cert.proofs.HoldNames.{NamesMember, first_at}
use Rattle.lp_cert.proofs.NextLines.{lines_at_own_check}
use Rattle.lp_cert.proofs.OtherEvents.{lines_at_refused}

none_some : {A : Type 0} (a : A) → None ≡ Some a → ⊥
none_some a e = absurd (cc)

-- a live member of the group that a check blames
record IsBlamedMember (model : Rules) (s : State) (on : CheckKind) (g u : ℕ) (why : Blame) : Type 0 where
  life : LegTask
  live : s.tasks u ≡ Live life
  member : life.group ≡ g
  blamed : model.blame on (view_of u life) s.aim ≡ Some why

abbrev asked : (model : Rules) (s : State) (on : CheckKind) (g u : ℕ) → Fate LegTask → Option Blame
asked model s on g u fate = on_live None (λ y. if nat_eq y.group g then model.blame on (view_of u y) s.aim else None) fate

blamed_member : (model : Rules) (s : State) (on : CheckKind) (g u : ℕ) (why : Blame) → blame_in model s on g u ≡ Some why → IsBlamedMember model s on g u why
blamed_member model s on g u why e = by (s.tasks u) refl
  where
    member : (y : LegTask) → s.tasks u ≡ Live y → (b : Bool) → nat_eq y.group g ≡ b → IsBlamedMember model s on g u why
    member y is false other = absurd (none_some why (sym (cond-false (nat_eq y.group g) (model.blame on (view_of u y) s.aim) None other) ∙ (sym (ap (asked model s on g u) is) ∙ e)))
    member y is true own = record {
      life = y;
      live = is;
      member = eqb-true y.group g own;
      blamed = sym (cond-true (nat_eq y.group g) (model.blame on (view_of u y) s.aim) None own) ∙ (sym (ap (asked model s on g u) is) ∙ e);
    }

    by : (fate : Fate LegTask) → s.tasks u ≡ fate → IsBlamedMember model s on g u why
    by Unused is = absurd (none_some why (sym (ap (asked model s on g u) is) ∙ e))
    by Dead is = absurd (none_some why (sym (ap (asked model s on g u) is) ∙ e))
    by (Live y) is = member y is (nat_eq y.group g) refl

has_serial : (frames : List Frame) (serial : ℕ) (frame : Frame) → Contains frames frame → frame.serial ≡ serial → list_any (λ f. nat_eq f.serial serial) frames ≡ true
has_serial frames serial frame there same =
    list_any_at (λ f. nat_eq f.serial serial) frames there.0 frame there.1 (eq-eqb _ serial (ap (λ (f : Frame). f.serial) there.2 ∙ same))

live_live : (x y : LegTask) → Live x ≡ Live y → x ≡ y
live_live x y e = cc

-- the newest line names a member if it is a hold, and goes on with a scan of a kind
pub record GoesOnStill (model : Rules) (s : State) (on : CheckKind) (g : ℕ) (ls : List Line) : Type 0 where
  pub names : NamesMember s g ls
  pub unchanged : IsUnchanged model on s g ls

abbrev seen : ℕ → Fate LegTask → Bool
seen g fate = on_live false (λ y. nat_eq y.group g) (map_live outline_of fate)

module _ (model : Rules) (lawful : IsLawful model) (s : State) (sound : IsSound s) (on : CheckKind) (g a : ℕ) (alone : is_alone s.bounds (outlines_of s.tasks) g a ≡ true) where
  -- whoever is blamed in the group is its only member
  only_member : (k : CheckKind) (u : ℕ) (why : Blame) → IsBlamedMember model s k g u why → u ≡ a
  only_member k u why is = by (s.tasks a) refl
    where
      first : seen g (s.tasks a) ≡ true
      first = (and_parts _ _ alone).0

      false_true : false ≡ true → ⊥
      false_true e = absurd (cc)

      by : (fate : Fate LegTask) → s.tasks a ≡ fate → u ≡ a
      by Unused e = absurd (false_true (sym (ap (seen g) e) ∙ first))
      by Dead e = absurd (false_true (sym (ap (seen g) e) ∙ first))
      by (Live x) e =
          let mine : x.group ≡ g = eqb-true x.group g (sym (ap (seen g) e) ∙ first) in
          let range = sound.numbered u is.life is.live in
          alone-other s.bounds s.tasks g a x e mine alone u is.life range.0 range.1 is.live is.member

  blames : (u : ℕ) (why : Blame) → first_blamed_in model s kind.Resched g ≡ Some (u, why) → IsBlamedMember model s kind.Resched g u why
  blames u why first = blamed_member model s kind.Resched g u why (first_at (λ t. blame_in model s kind.Resched g t) (u, why) 1 s.bounds.tasks first)

  -- a frame that is blamed is on the stack of a member
  frame_there : (u serial : ℕ) → first_blamed_in model s kind.Resched g ≡ Some (u, blame.Frame serial) → has_frame_in s u serial ≡ true
  frame_there u serial first =
      let is = blames u (blame.Frame serial) first in
      let held = lawful.blames_there kind.Resched (view_of u is.life) s.aim serial is.blamed in
      ap (on_live false (λ (x : LegTask). list_any (λ frame. nat_eq frame.serial serial) x.frames)) is.live ∙ has_serial is.life.frames serial held.0 held.1 held.2

  names_there : (u serial : ℕ) → first_blamed_in model s kind.Resched g ≡ Some (u, blame.Frame serial) → (x : LegTask) → s.tasks u ≡ Live x → x.group ≡ g
  names_there u serial first x live =
      let is = blames u (blame.Frame serial) first in
      ap (λ (y : LegTask). y.group) (live_live x is.life (sym live ∙ is.live)) ∙ is.member

  -- who was busy at the last scan is who is blamed now
  same_busy : (u task : ℕ) (why : Blame) → first_blamed_in model s kind.Resched g ≡ Some (u, why) → first_blamed_in model s on g ≡ Some (task, blame.Busy) → first_blamed_in model s on g ≡ Some (u, blame.Busy)
  same_busy u task why first before =
      let now = only_member kind.Resched u why (blames u why first) in
      let earlier = only_member on task blame.Busy (blamed_member model s on g task blame.Busy (first_at (λ t. blame_in model s on g t) (task, blame.Busy) 1 s.bounds.tasks before)) in
      before ∙ ap (λ (k : ℕ). Some (k, blame.Busy)) (earlier ∙ sym now)

  new_line : (at u : ℕ) (why : Blame) → first_blamed_in model s kind.Resched g ≡ Some (u, why) → (task : TaskId) → first_blamed_in model s on g ≡ Some (task.0, blame.Busy)
      → (older : List Line) → IsUnchanged model on s g older → NamesMember s g older → GoesOnStill model s on g (refusal_line g at (u, why) ++ older)
  new_line at u (blame.Frame serial) first task busy older h named = record { names = names_there u serial first; unchanged = frame_there u serial first }
  new_line at u blame.Busy first task busy older h named = record { names = tt; unchanged = same_busy u task.0 blame.Busy first busy }
  new_line at u blame.Unused first task busy older h named = record { names = named; unchanged = h }

  -- a refusal
  refused_on : (at u : ℕ) (why : Blame) → first_blamed_in model s kind.Resched g ≡ Some (u, why) → (ls : List Line) → NamesMember s g ls → IsUnchanged model on s g ls → GoesOnStill model s on g (after_refusal (has_frame_in s) g at (u, why) ls)
  refused_on at u why first [] named h = absurd h
  refused_on at u why first (line.Born g2 p on_at ∷ older) named h = absurd h
  refused_on at u why first (line.Busy g2 task on_at ∷ older) named h = new_line at u why first task h (line.Busy g2 task on_at ∷ older) h named
  refused_on at u why first (line.Hold g2 task serial from to ∷ older) named h =
      subst (GoesOnStill model s on g)
      (sym (cond-true (has_frame_in s task.0 serial) (line.Hold g2 task serial from at ∷ older) (refusal_line g at (u, why) ++ line.Hold g2 task serial from to ∷ older) h))
      (record { names = named; unchanged = h })

  checked_on : (at : ℕ) (first : Option (ℕ × Blame)) → first_blamed_in model s kind.Resched g ≡ first → (ls : List Line) → NamesMember s g ls → IsUnchanged model on s g ls → GoesOnStill model s on g (after_check (has_frame_in s) g at first ls)
  checked_on at None first ls named h = record { names = named; unchanged = h }
  checked_on at (Some blamed) first ls named h = refused_on at blamed.0 blamed.1 first ls named h

  pub own_checked : (ls : List Line) → NamesMember s g ls → IsUnchanged model on s g ls → GoesOnStill model s on g (lines_after_scan model s kind.Resched g ls)
  own_checked ls named h = checked_on (suc s.number) (first_blamed_in model s kind.Resched g) refl ls named h

module _ (model : Rules) (lawful : IsLawful model) (leg : Leg) (leg_sound : IsSound leg.opening) (on : CheckKind) (a : TaskId) (g : ℕ) where
  abbrev s : State
  s = state_of model leg

  abbrev before : List Line
  before = lines model leg (length leg.events) g

  abbrev new : List Line
  new = lines model (and_then leg (Resched a)) (suc (length leg.events)) g

  -- the newest line of a group goes on after an own check in the kernel, whosever it is
  pub goes_on_still : NamesMember s g before → IsUnchanged model on s g before → GoesOnStill model s on g new
  goes_on_still named h = by (refusal_of model s (Resched a)) refl
    where
      same : new ≡ before → GoesOnStill model s on g new
      same e = subst (GoesOnStill model s on g) (sym e) (record { names = named; unchanged = h })

      after_lines : Bool → List Line
      after_lines b = if b then lines_after_scan model s kind.Resched g before else before

      checked : new ≡ lines_after_own_check model s a g before → (used : Bool) → model.uses kind.Resched ≡ used → (alone : Bool) → is_alone s.bounds (outlines_of s.tasks) g a.0 ≡ alone → GoesOnStill model s on g new
      checked law true used true alone =
          subst (GoesOnStill model s on g) (sym (law ∙ ap₂ (λ b c. after_lines (b && c)) used alone))
          (own_checked model lawful s (state_sound model lawful leg leg_sound) on g a.0 alone before named h)
      checked law true used false alone = same (law ∙ ap₂ (λ b c. after_lines (b && c)) used alone)
      checked law false used alone is = same (law ∙ ap (λ b. after_lines (b && is_alone s.bounds (outlines_of s.tasks) g a.0)) used)

      by : (why : Option Refusal) → refusal_of model s (Resched a) ≡ why → GoesOnStill model s on g new
      by None ok =
          checked (lines_at_own_check model leg a g (sym (refusal_is model leg (Resched a)) ∙ ok))
          (model.uses kind.Resched) refl (is_alone s.bounds (outlines_of s.tasks) g a.0) refl
      by (Some why) turned_down =
          same (lines_at_refused model lawful leg leg_sound (Resched a) g why (sym (plain_refusal model leg (Resched a) refl) ∙ (sym (refusal_is model leg (Resched a)) ∙ turned_down)))
