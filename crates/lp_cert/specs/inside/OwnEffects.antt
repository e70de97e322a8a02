-- What an accepted event that is no scan does to the groups that wait.
use Rattle.std.specs.Prelude.{◌≡◌, ℕ, ◌<◌, Bool, true, List, Option, None, if◌then◌else◌, nat_eq}
use Rattle.std.specs.Option.{option_map}
use Rattle.lp_numbers.specs.Numbers.{has}
use Rattle.lp_definitions.specs.declared.event.Event.{Event}
use Rattle.lp_definitions.specs.declared.event.Event.TheVariants.{Fork, Resched}
use Rattle.lp_definitions.specs.declared.line.Line.{Line}
use Rattle.lp_definitions.specs.Certificates.{after_refusal}
use Rattle.lp_cert.specs.declared.head.OwnFork.{OwnFork}
use Rattle.lp_cert.specs.declared.head.Refused.{Refused}
use Rattle.lp_cert.specs.declared.waiters.own_effect.OwnEffect.{OwnEffect}
use Rattle.lp_cert.specs.declared.waiters.own_effect.OwnEffect.TheVariants.{Birth, End, Refusal, Nothing}
use Rattle.lp_cert.specs.Waiters.{WaitingGroups, head_of}
use Rattle.lp_cert.specs.inside.Heads.{HasFrameAs, IsUsed}
use Rattle.lp_cert.specs.inside.Waiters.{after_birth}

-- the lines of a group after the effect
abbrev pub after_effect : (has_frame : (task serial : ℕ) → Bool) → OwnEffect → (ℕ → Option (List Line)) → (group : ℕ) → Option (List Line)
after_effect has_frame (Birth parent birth) lines group = after_birth birth parent.0 lines group
after_effect has_frame (End mine) lines group = if nat_eq group mine.0 then None else lines group
after_effect has_frame (Refusal mine refused) lines group =
    if nat_eq group mine.0
    then option_map (after_refusal has_frame group refused.at (refused.task.0, refused.blame)) (lines group)
    else lines group
after_effect has_frame Nothing lines group = lines group

-- of a hold that continues, the refusal tells whether its frame is still on its task's stack
abbrev pub IsTold : (has_frame : (task serial : ℕ) → Bool) → OwnEffect → WaitingGroups → Type 0
IsTold has_frame (Refusal group refused) waiters = HasFrameAs has_frame (head_of waiters.reasons group.0).ongoing refused.frame_stands
IsTold has_frame _ waiters = Unit {0}

-- a birth is of a group that waits, and there is room for it
pub record HasBirthRoom (parent : ℕ) (birth : OwnFork) (waiters : WaitingGroups) : Type 0 where
  pub waits : has waiters.groups parent ≡ true
  pub room : 1 < waiters.reasons.room

-- a refusal is of a group that waits, by a check that the model uses, and there is room for it
pub record HasRefusalRoom (group : ℕ) (refused : Refused) (waiters : WaitingGroups) : Type 0 where
  pub waits : has waiters.groups group ≡ true
  pub room : 1 < waiters.reasons.room
  pub used : IsUsed refused.blame

abbrev pub HasEffectRoom : OwnEffect → WaitingGroups → Type 0
HasEffectRoom (Birth parent birth) waiters = HasBirthRoom parent.0 birth waiters
HasEffectRoom (Refusal group refused) waiters = HasRefusalRoom group.0 refused waiters
HasEffectRoom _ waiters = Unit {0}

-- there is room for what the event does by itself
abbrev pub HasOwnRoom : Event → WaitingGroups → Type 0
HasOwnRoom (Fork p c how) waiters = 1 < waiters.reasons.room
HasOwnRoom (Resched t) waiters = 1 < waiters.reasons.room
HasOwnRoom _ waiters = Unit {0}
