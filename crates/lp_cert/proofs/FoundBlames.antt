-- Whom a check blames for a frame, and what the engine finds of a group that waits.
use Rattle.std.proofs.Common.{◌≡◌, ◌⊎◌, ◌≤◌, ℕ, Bool, true, false, List, [], ◌∷◌, Option, Some, None, is_none, IsTrue, IsFalse, if◌then◌else◌, nat_eq, refl, sym, ap, inl, inr, ◌∙◌, ⊎_elim, arith}
use Rattle.std.specs.List.{list_any}
use Rattle.std.proofs.lemmas.Bool.{false≢true, cond-true, cond-false, cases_Bool, eqb-true}
use Rattle.std.proofs.lemmas.List.Elements.{All-contains}
use Rattle.std.proofs.lemmas.List.Folds.{Any-from_list_any}
use Rattle.lp_stack.specs.declared.frame.Frame.{Frame}
use Rattle.lp_model.specs.Rules.{Rules, IsLawful}
use Rattle.lp_model.specs.declared.check.Blame.{Blame}
use Rattle.lp_model.specs.declared.check.Blame.TheVariants as blame
use Rattle.lp_model.specs.declared.check.CheckKind.{CheckKind}
use Rattle.lp_model.specs.declared.verdict.Verdict.{Verdict}
use Rattle.lp_machine.specs.declared.standing_blame.StandingBlame.{StandingBlame}
use Rattle.lp_definitions.specs.declared.line.Line.{Line}
use Rattle.lp_definitions.specs.declared.line.Line.TheVariants as line
use Rattle.lp_definitions.specs.Leg.{LegTask, State}
use Rattle.lp_definitions.specs.Sound.{IsSound}
use Rattle.lp_definitions.specs.Tasks.{Fate, Unused, Live, Dead, on_live}
use Rattle.lp_machine.specs.Machine.{view_of, waits_in}
use Rattle.lp_transition.specs.Blames.{has_frame_in, blame_in, first_blamed_in, frame_blame, or_blame}
use Rattle.lp_transition.specs.Scan.{is_of, first_refused, AreEnough}
use Rattle.lp_cert.specs.Unchanged.{IsHeldBy, IsUnchanged}
use Rattle.lp_cert.proofs.Frames.{has_serial}
use Rattle.lp_cert.proofs.HeldLines.{IsThere}
use Rattle.lp_cert.proofs.HoldNames.{first_at}
use Rattle.lp_cert.proofs.ScanTold.{none_refused_of}
use Rattle.lp_cert.proofs.UnchangedScans.{frame_there}
use Rattle.lp_cert.proofs.VerdictLines.{verdicts_tell}

pub some_none : {A : Type 0} (a : A) → Some a ≡ None → ⊥
some_none a e = absurd (cc)

-- ---- Whom a check blames

-- at a check that the model doesn't use no frame is blamed
unused_blames : (model : Rules) → IsLawful model → (s : State) (on : CheckKind) (g : ℕ) → IsFalse (model.uses on) → (first : Option (ℕ × Blame)) → first_blamed_in model s on g ≡ first → frame_blame first ≡ None
unused_blames model lawful s on g unused None first = refl
unused_blames model lawful s on g unused (Some (u, blame.Busy)) first = refl
unused_blames model lawful s on g unused (Some (u, blame.Unused)) first = refl
unused_blames model lawful s on g unused (Some (u, blame.Frame serial)) first =
    absurd (at (s.tasks u) (first_at (blame_in model s on g) (u, blame.Frame serial) 1 s.bounds.tasks first))
  where
    asked : Fate LegTask → Option Blame
    asked fate = on_live None (λ (y : LegTask). if nat_eq y.group g then model.blame on (view_of u y) s.aim else None) fate

    member : (y : LegTask) (b : Bool) → nat_eq y.group g ≡ b → asked (Live y) ≡ Some (blame.Frame serial) → ⊥
    member y true mine told =
        let both : Some blame.Unused ≡ Some (blame.Frame serial) = sym (lawful.blames_unused on (view_of u y) s.aim unused) ∙ (sym (cond-true (nat_eq y.group g) (model.blame on (view_of u y) s.aim) None mine) ∙ told) in
        absurd (cc)
    member y false other told = some_none (blame.Frame serial) (sym told ∙ cond-false (nat_eq y.group g) (model.blame on (view_of u y) s.aim) None other)

    at : (fate : Fate LegTask) → asked fate ≡ Some (blame.Frame serial) → ⊥
    at Unused told = some_none (blame.Frame serial) (sym told)
    at Dead told = some_none (blame.Frame serial) (sym told)
    at (Live y) told = member y (nat_eq y.group g) refl told

-- a frame that is there is no later than the state
frame_past : (s : State) → IsSound s → (u serial : ℕ) → has_frame_in s u serial ≡ true → serial ≤ s.number
frame_past s sound u serial there = by (s.tasks u) refl
  where
    by : (fate : Fate LegTask) → s.tasks u ≡ fate → serial ≤ s.number
    by Unused is = absurd (false≢true (sym (ap (has_serial serial) is) ∙ there))
    by Dead is = absurd (false≢true (sym (ap (has_serial serial) is) ∙ there))
    by (Live y) is =
        let some = Any-from_list_any (λ (f : Frame). nat_eq f.serial serial) y.frames (sym (ap (has_serial serial) is) ∙ there) in
        let past : some.1.serial ≤ s.number = All-contains (λ (f : Frame). f.serial ≤ s.number) y.frames some.1 (sound.serials_past u y is) (some.0, some.2, some.3) in
        let same : some.1.serial ≡ serial = eqb-true some.1.serial serial some.4 in
        omega (arith, past, same)

-- whom a check that the model uses blames for a frame has it
pub blamed_there : (model : Rules) → IsLawful model → (s : State) → IsSound s → (on : CheckKind) → IsTrue (model.uses on) → (g : ℕ) (first : Option (ℕ × Blame)) → first_blamed_in model s on g ≡ first → IsThere s first
blamed_there model lawful s sound on used g first is u serial some =
    let has = frame_there model lawful s on used g (u, blame.Frame serial) (is ∙ some) serial refl in
    (has, frame_past s sound u serial has)

-- ---- What the engine finds of a group

module _ (model : Rules) (lawful : IsLawful model) (s : State) (sound : IsSound s) (on : CheckKind) (g : ℕ) (waits : IsTrue (waits_in s g)) (vs : List Verdict) (enough : AreEnough model on s vs) where
  -- verdicts of its members find what a look at all finds
  by_verdict : list_any (is_of s g) vs ≡ true → first_refused s g vs ≡ first_blamed_in model s on g
  by_verdict some = enough.first g some ∙ verdicts_tell model s sound on g waits

  -- without any, nothing is found
  found_or_none : (first_refused s g vs ≡ first_blamed_in model s on g) ⊎ (first_refused s g vs ≡ None)
  found_or_none =
      ⊎_elim
      (λ (some : list_any (is_of s g) vs ≡ true). inl (by_verdict some))
      (λ (none : list_any (is_of s g) vs ≡ false). inr (none_refused_of s g vs none))
      (cases_Bool (list_any (is_of s g) vs))

  -- at a check that the model doesn't use no frame is found
  pub unused_found : IsFalse (model.uses on) → frame_blame (first_refused s g vs) ≡ None
  unused_found unused =
      ⊎_elim
      (λ (same : first_refused s g vs ≡ first_blamed_in model s on g). ap frame_blame same ∙ unused_blames model lawful s on g unused (first_blamed_in model s on g) refl)
      (λ (none : first_refused s g vs ≡ None). ap frame_blame none)
      found_or_none

  -- at one that it uses the blame is as if all were looked at: it stands already, or the group is told of, or is busy still
  pub used_found : (b : Option StandingBlame) (ls : List Line) → IsHeldBy s ls b → (list_any (is_of s g) vs ≡ true) ⊎ ((is_none b ≡ false) ⊎ IsUnchanged model on s g ls) → or_blame b (frame_blame (first_refused s g vs)) ≡ or_blame b (frame_blame (first_blamed_in model s on g))
  used_found b ls held told =
      ⊎_elim
      (λ (some : list_any (is_of s g) vs ≡ true). ap (λ o. or_blame b (frame_blame o)) (by_verdict some))
      (λ (known : (is_none b ≡ false) ⊎ IsUnchanged model on s g ls). ⊎_elim (stands b) (unchanged ls held) known)
      told
    where
      stands : (o : Option StandingBlame) → is_none o ≡ false → or_blame o (frame_blame (first_refused s g vs)) ≡ or_blame o (frame_blame (first_blamed_in model s on g))
      stands None out = absurd (false≢true (sym out))
      stands (Some c) out = refl

      unchanged : (ms : List Line) → IsHeldBy s ms b → IsUnchanged model on s g ms → or_blame b (frame_blame (first_refused s g vs)) ≡ or_blame b (frame_blame (first_blamed_in model s on g))
      unchanged [] is h = absurd h
      unchanged (line.Born g2 p at ∷ older) is h = absurd h
      unchanged (line.Hold g2 task serial from to ∷ older) is h = stands b (ap is_none (is.blamed ∙ cond-true (has_frame_in s task.0 serial) (Some (record { task = task; serial = serial })) None h))
      unchanged (line.Busy g2 task at ∷ older) is h =
          ⊎_elim
          (λ (same : first_refused s g vs ≡ first_blamed_in model s on g). ap (λ o. or_blame b (frame_blame o)) same)
          (λ (none : first_refused s g vs ≡ None). ap (λ o. or_blame b (frame_blame o)) none ∙ sym (ap (λ o. or_blame b (frame_blame o)) h))
          found_or_none
