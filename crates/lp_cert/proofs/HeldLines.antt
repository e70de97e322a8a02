-- The frame that holds a group back by its newest line, and by what the engine knows: each check and each event leaves them alike.
use Rattle.std.proofs.Common.{◌≡◌, ◌≤◌, ℕ, Bool, true, false, List, [], ◌∷◌, ◌++◌, Option, Some, None, if◌then◌else◌, refl, sym, ap, subst, ◌∙◌, arith}
use Rattle.std.proofs.lemmas.Bool.{false≢true, cond-true, cond-false}
use Rattle.lp_model.specs.declared.check.Blame.{Blame}
use Rattle.lp_model.specs.declared.check.Blame.TheVariants as blame
use Rattle.lp_definitions.specs.Leg.{State}
use Rattle.lp_definitions.specs.declared.line.Line.{Line}
use Rattle.lp_definitions.specs.declared.line.Line.TheVariants as line
use Rattle.lp_definitions.specs.Certificates.{after_check, after_refusal, refusal_line}
use Rattle.lp_machine.specs.declared.standing_blame.StandingBlame.{StandingBlame}
use Rattle.lp_transition.specs.Blames.{has_frame_in, while_there, or_blame, frame_blame}
use Rattle.lp_cert.specs.Unchanged.{IsPast, IsHeldBy, hold_of}

-- ---- Frames of another state

past_later : (n m : ℕ) → n ≤ m → (o : Option StandingBlame) → IsPast n o → IsPast m o
past_later n m less None past = tt
past_later n m less (Some b) past = omega (arith, less, past)

-- where frames that aren't new were there before
pub later_held : (s after : State) (ls : List Line) (b : Option StandingBlame) → s.number ≤ after.number → ((t serial : ℕ) → serial ≤ s.number → has_frame_in after t serial ≡ true → has_frame_in s t serial ≡ true)
    → IsHeldBy s ls b → IsHeldBy after ls (while_there after b)
later_held s after ls b less frames held = record {
  past = past_later s.number after.number less (hold_of ls) held.past;
  blamed = ap (while_there after) held.blamed ∙ by (hold_of ls) held.past;
}
  where
    by : (o : Option StandingBlame) → IsPast s.number o → while_there after (while_there s o) ≡ while_there after o
    by None past = refl
    by (Some c) past = there (has_frame_in s c.task.0 c.serial) refl (has_frame_in after c.task.0 c.serial) refl
      where
        there : (p : Bool) → has_frame_in s c.task.0 c.serial ≡ p → (q : Bool) → has_frame_in after c.task.0 c.serial ≡ q → while_there after (while_there s (Some c)) ≡ while_there after (Some c)
        there true is q now = ap (while_there after) (cond-true (has_frame_in s c.task.0 c.serial) (Some c) None is)
        there false is false now = ap (while_there after) (cond-false (has_frame_in s c.task.0 c.serial) (Some c) None is) ∙ sym (cond-false (has_frame_in after c.task.0 c.serial) (Some c) None now)
        there false is true now = absurd (false≢true (sym is ∙ frames c.task.0 c.serial past now))

-- where the frames are the same
pub same_held : (s after : State) (ls : List Line) (b : Option StandingBlame) → s.number ≤ after.number → ((t serial : ℕ) → has_frame_in after t serial ≡ has_frame_in s t serial) → IsHeldBy s ls b → IsHeldBy after ls b
same_held s after ls b less frames held = record {
  past = past_later s.number after.number less (hold_of ls) held.past;
  blamed = held.blamed ∙ by (hold_of ls);
}
  where
    by : (o : Option StandingBlame) → while_there s o ≡ while_there after o
    by None = refl
    by (Some c) = ap (λ p. if p then Some c else None) (sym (frames c.task.0 c.serial))

-- ---- A check

-- a refusal is for a frame that is there, and isn't new
abbrev pub IsThere : State → Option (ℕ × Blame) → Type 0
IsThere s first = (u serial : ℕ) → first ≡ Some (u, blame.Frame serial) → (has_frame_in s u serial ≡ true) × (serial ≤ s.number)

module _ (s : State) (g at : ℕ) (b : Option StandingBlame) where
  -- of a group that no frame holds back the refusal is the newest line
  fresh : (first : ℕ × Blame) → IsThere s (Some first) → (ls : List Line) → IsPast s.number (hold_of ls) → while_there s (hold_of ls) ≡ None → b ≡ None → IsHeldBy s (refusal_line g at first ++ ls) (or_blame b (frame_blame (Some first)))
  fresh (u, blame.Frame serial) there ls past none free = record {
    past = (there u serial refl).1;
    blamed =
        ap (λ o. or_blame o (frame_blame (Some (u, blame.Frame serial)))) free
        ∙ sym (cond-true (has_frame_in s u serial) (Some (record { task = record { 0 = u }; serial = serial })) None (there u serial refl).0);
  }
  fresh (u, blame.Busy) there ls past none free = record { past = tt; blamed = ap (λ o. or_blame o None) free }
  fresh (u, blame.Unused) there ls past none free = record { past = past; blamed = ap (λ o. or_blame o None) free ∙ sym none }

  or_none : (o : Option StandingBlame) → or_blame o None ≡ o
  or_none None = refl
  or_none (Some c) = refl

  -- the newest line after a check, and the blame
  pub check_held : (first : Option (ℕ × Blame)) → IsThere s first → (ls : List Line) → IsHeldBy s ls b → IsHeldBy s (after_check (has_frame_in s) g at first ls) (or_blame b (frame_blame first))
  check_held None there ls held = record { past = held.past; blamed = or_none b ∙ held.blamed }
  check_held (Some first) there [] held = fresh first there [] tt refl held.blamed
  check_held (Some first) there (line.Busy g2 task on ∷ older) held = fresh first there (line.Busy g2 task on ∷ older) tt refl held.blamed
  check_held (Some first) there (line.Born g2 p on ∷ older) held = fresh first there (line.Born g2 p on ∷ older) tt refl held.blamed
  check_held (Some first) there (line.Hold g2 task serial from to ∷ older) held = by (has_frame_in s task.0 serial) refl
    where
      hold : StandingBlame
      hold = record { task = task; serial = serial }

      next : List Line
      next = after_refusal (has_frame_in s) g at first (line.Hold g2 task serial from to ∷ older)

      by : (p : Bool) → has_frame_in s task.0 serial ≡ p → IsHeldBy s next (or_blame b (frame_blame (Some first)))
      by true is =
          let some : b ≡ Some hold = held.blamed ∙ cond-true (has_frame_in s task.0 serial) (Some hold) None is in
          subst (λ ls. IsHeldBy s ls (or_blame b (frame_blame (Some first)))) (sym (cond-true (has_frame_in s task.0 serial) (line.Hold g2 task serial from at ∷ older) (refusal_line g at first ++ line.Hold g2 task serial from to ∷ older) is))
          (record { past = held.past; blamed = ap (λ o. or_blame o (frame_blame (Some first))) some ∙ sym (cond-true (has_frame_in s task.0 serial) (Some hold) None is) })
      by false is =
          let none : while_there s (Some hold) ≡ None = cond-false (has_frame_in s task.0 serial) (Some hold) None is in
          subst (λ ls. IsHeldBy s ls (or_blame b (frame_blame (Some first)))) (sym (cond-false (has_frame_in s task.0 serial) (line.Hold g2 task serial from at ∷ older) (refusal_line g at first ++ line.Hold g2 task serial from to ∷ older) is))
          (fresh first there (line.Hold g2 task serial from to ∷ older) held.past none (held.blamed ∙ none))
