-- How the check keeps the sections of a certificate.
use Rattle.std.specs.Prelude.{◌≡◌, ℕ, ◌-◌, ◌<◌, ◌≤◌, Bool, false, not, ◌&&◌, Option, Some, None, nat_eq, List, [], ◌∷◌, slice_range}
use Rattle.lp_definitions.specs.declared.line.Line.{Line}
use Rattle.lp_definitions.specs.Leg.{Leg, LegTask}
use Rattle.lp_checker.specs.declared.sections.Section.{Section as Part}
use Rattle.lp_definitions.specs.Judgement.{Birth, Section}

-- its group and its time, with these lines
abbrev pub with_lines : List Line → Part → Section
with_lines lines part = record { group = part.group.0; begin = part.begin; until = part.until; lines = lines }

-- without lines
abbrev pub timed : Part → Section
timed part = with_lines [] part

-- with its own of a certificate's lines
abbrev pub section_of : List Line → Part → Section
section_of lines part = with_lines (slice_range lines part.start part.end) part

-- each birth comes after the one before, and no later than the last moment
abbrev pub AreInOrder : Leg → (last begin : ℕ) → List Birth → Type 0
AreInOrder leg last begin [] = begin ≤ last
AreInOrder leg last begin (birth ∷ more) =
    (begin < birth.at - leg.number) × AreInOrder leg last (birth.at - leg.number) more

-- each begins where the one before ends, no later than the last moment, and has some of so many lines
abbrev pub FollowOn : (size last begin : ℕ) → List Part → Type 0
FollowOn size last begin [] = begin ≤ last
FollowOn size last begin (part ∷ more) =
    (part.begin ≡ begin) × (begin ≤ part.until) × (part.until ≤ last) × (part.start ≤ part.end) × (part.end ≤ size)
    × FollowOn size last part.until more

-- a live member of the group that is off the target
abbrev pub is_waiting_member : (target group : ℕ) → Option LegTask → Bool
is_waiting_member target group None = false
is_waiting_member target group (Some x) = nat_eq x.group group && not (nat_eq x.level target)
