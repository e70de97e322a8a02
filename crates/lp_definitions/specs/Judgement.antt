-- The answer to a certificate: its first fault, if it has one. The events of the leg are taken with nobody switching, so that
-- what a check sees of a group that waits is what it sees under every schedule under which the group waits. Certificates number
-- events as the run does; the definitions count from the opening of the leg, as `moment_of` does.
use Rattle.std.specs.Prelude.{ℕ, zero, suc, pred, ◌+◌, ◌-◌, Bool, true, false, not, ◌&&◌, ◌||◌, List, [], ◌∷◌, ◌++◌, length, map, Option, Some, None, is_none, if◌then◌else◌, nat_eq, nat_le, nat_lt}
use Rattle.std.specs.List.{list_any, flat_map}
use Rattle.std.specs.Option.{option_map}
use Rattle.lp_model.specs.declared.check.CheckKind.{CheckKind}
use Rattle.lp_model.specs.declared.check.Blame.{Blame}
use Rattle.lp_model.specs.declared.check.Blame.TheVariants.{Frame as Held, Busy}
use Rattle.lp_model.specs.Rules.{Rules}
use Rattle.lp_definitions.specs.declared.event.Event.{Event}
use Rattle.lp_definitions.specs.declared.event.Event.TheVariants.{Fork}
use Rattle.lp_definitions.specs.Tasks.{Life, Fate, Live, on_live, fits, first_of, outlines}
use Rattle.lp_definitions.specs.Leg.{Leg, accepted, after, check, has_member}
use Rattle.lp_definitions.specs.Schedule.{view, waits}
use Rattle.lp_definitions.specs.Chain.{nobody}
use Rattle.lp_definitions.specs.declared.cert.Cert.{Cert}
use Rattle.lp_definitions.specs.declared.cert.Claim.{Claim}
use Rattle.lp_definitions.specs.declared.cert.Claim.TheVariants.{Waiting, Floor}
use Rattle.lp_definitions.specs.declared.line.Line.{Line}
use Rattle.lp_definitions.specs.declared.line.Line.TheVariants.{Hold, Busy as OnCpu, Born}
use Rattle.lp_definitions.specs.declared.cert_fault.CertFault.{CertFault}
use Rattle.lp_definitions.specs.declared.cert_fault.CertFault.TheVariants.{NoSuchGroup, NotOnStack, NoBlame, Gap, BadBirth, NoLeg}

-- ---- The parts of a certificate

-- a `born` line, and the other lines after it up to the next
pub record Birth : Type 0 where
  pub group : ℕ
  pub parent : ℕ
  pub at : ℕ
  pub lines : List Line

-- the lines before the first `born` line
abbrev pub first_lines : List Line → List Line
first_lines [] = []
first_lines (Hold group task serial from to ∷ more) = Hold group task serial from to ∷ first_lines more
first_lines (OnCpu group task at ∷ more) = OnCpu group task at ∷ first_lines more
first_lines (Born group parent at ∷ more) = []

-- the births, in their order
abbrev pub births : List Line → List Birth
births [] = []
births (Hold group task serial from to ∷ more) = births more
births (OnCpu group task at ∷ more) = births more
births (Born group parent at ∷ more) =
    record { group = group.0; parent = parent.0; at = at; lines = first_lines more } ∷ births more

-- a group, its time in the leg (after the first `begin` events, up to event `until` of the leg) and its lines
pub record Section : Type 0 where
  pub group : ℕ
  pub begin : ℕ
  pub until : ℕ
  pub lines : List Line

-- the group that a line names
abbrev pub group_of : Line → ℕ
group_of (Hold group task serial from to) = group.0
group_of (OnCpu group task at) = group.0
group_of (Born group parent at) = group.0

-- the group of the last birth, or this one
abbrev pub last_group : ℕ → List Birth → ℕ
last_group group [] = group
last_group group (birth ∷ more) = last_group birth.group more

-- ---- Small tests

-- the first of n numbers, from `start` on, that fails a test
unfoldable pub first_bad : ℕ → ℕ → (ℕ → Bool) → Option ℕ
first_bad zero start passes = None
first_bad (suc n) start passes = if passes start then first_bad n (suc start) passes else Some start

abbrev pub same_claim : Claim → Claim → Bool
same_claim Waiting Waiting = true
same_claim Floor Floor = true
same_claim _ _ = false

abbrev pub is_held_by : ℕ → Option Blame → Bool
is_held_by serial (Some (Held by)) = nat_eq by serial
is_held_by serial _ = false

abbrev pub is_busy : Option Blame → Bool
is_busy (Some Busy) = true
is_busy _ = false

abbrev pub lies_in : Section → ℕ → Bool
lies_in section moment = nat_lt section.begin moment && nat_le moment section.until

module _ (model : Rules) (leg : Leg) where
  -- the place of an event in the leg, counted from 1; 0 for the opening and all before it
  abbrev pub moment_of : ℕ → ℕ
  moment_of event = event - leg.number

  -- ---- The leg: C6

  -- another claim, another leg, or an end that lies outside of the leg, or past the 1,000,000 events that a run can have
  abbrev pub no_leg : Claim → Cert → Bool
  no_leg claim cert =
      not (same_claim cert.claim claim)
      || (not (nat_eq cert.leg leg.number)
      || (nat_lt cert.upto leg.number || (nat_lt (leg.number + length leg.events) cert.upto || nat_lt 1000000 cert.upto)))

  -- ---- Births: C5

  -- the event is a fork by the birth's parent, in this group, of a child with the birth's number and group
  abbrev pub forks_group : Option Event → Fate Life → ℕ → Birth → Bool
  forks_group (Some (Fork p c how)) (Live x) from birth =
      (nat_eq p.0 birth.parent && nat_eq c.0 birth.group)
      && (nat_eq x.group from && nat_eq (model.child_group x.group c.0 how) birth.group)
  forks_group _ _ from birth = false

  abbrev pub is_birth : ℕ → Birth → Bool
  is_birth from birth =
      let place = pred (moment_of birth.at) in
      forks_group (accepted model leg place) (after model leg place birth.parent) from birth

  -- each birth comes after the one before, by a parent of its group, and no later than the last moment
  abbrev pub birth_tests : ℕ → ℕ → ℕ → List Birth → List (Option CertFault)
  birth_tests last group begin [] = []
  birth_tests last group begin (birth ∷ more) =
      let moment = moment_of birth.at in
      fits (not ((nat_lt begin moment && nat_le moment last) && is_birth group birth)) (BadBirth birth.at)
      ∷ birth_tests last birth.group moment more

  -- ---- Sections: C1

  -- the group of the first section: that of the first birth's parent, or the claimed one
  abbrev pub first_group : ℕ → List Birth → ℕ
  first_group claimed [] = claimed
  first_group claimed (birth ∷ more) =
      on_live 0 (λ x. x.group) (after model leg (pred (moment_of birth.at)) birth.parent)

  -- each birth ends a section and begins the next
  abbrev pub sections : ℕ → ℕ → ℕ → List Line → List Birth → List Section
  sections last group begin lines [] = record { group = group; begin = begin; until = last; lines = lines } ∷ []
  sections last group begin lines (birth ∷ more) =
      let moment = moment_of birth.at in
      record { group = group; begin = begin; until = moment; lines = lines }
      ∷ sections last birth.group moment birth.lines more

  -- a line of the section names another group
  abbrev pub has_stray : Section → Bool
  has_stray section = list_any (λ line. not (nat_eq (group_of line) section.group)) section.lines

  -- the births lead to another group, the first group doesn't wait at the opening, a line is a stray,
  -- or the group has no live member after the last moment
  abbrev pub no_such_group : ℕ → ℕ → ℕ → List Birth → List Section → Bool
  no_such_group last claimed first rest parts =
      not (nat_eq (last_group first rest) claimed)
      || (not (waits model leg nobody zero first)
      || (list_any has_stray parts || not (has_member leg.bounds (outlines (after model leg last)) claimed)))

  -- ---- Lines: C3 and C2

  -- the blame of a live member at a kind of check
  abbrev pub blame_by : Option CheckKind → ℕ → ℕ → Fate Life → Option Blame
  blame_by (Some kind) group t (Live x) =
      if nat_eq x.group group then model.blame kind (view leg nobody t x) leg.aim else None
  blame_by _ group t _ = None

  -- the blame of a live member of the group, where this event of the leg is a check of it
  abbrev pub blame_at : ℕ → ℕ → ℕ → Option Blame
  blame_at group moment t = blame_by (check model leg (pred moment) group) group t (after model leg moment t)

  -- after the first k events a frame with this serial is on the task's stack
  abbrev pub is_on_stack : ℕ → ℕ → ℕ → Bool
  is_on_stack t serial k =
      on_live false (λ x. list_any (λ frame. nat_eq frame.serial serial) (view leg nobody t x).frames) (after model leg k t)

  abbrev pub line_test : Section → Line → Option CertFault
  line_test section (Hold group t serial from to) =
      let begin = moment_of from in
      let end = moment_of to in
      let is_placed = nat_le from to && (lies_in section begin && lies_in section end) in
      first_of (
      fits (not (is_placed && is_held_by serial (blame_at section.group begin t.0))) (NoBlame from)
      ∷ option_map (λ moment. NotOnStack (leg.number + moment)) (first_bad (suc end - begin) begin (is_on_stack t.0 serial))
      ∷ [])
  line_test section (OnCpu group t at) =
      fits (not (lies_in section (moment_of at) && is_busy (blame_at section.group (moment_of at) t.0))) (NoBlame at)
  line_test section (Born group parent at) = None

  abbrev pub line_tests : Section → List (Option CertFault)
  line_tests section = map (line_test section) section.lines

  -- ---- Gaps: C4

  -- the line says why the check of this event refused
  abbrev pub covers : ℕ → Line → Bool
  covers moment (Hold group t serial from to) = nat_le (moment_of from) moment && nat_le moment (moment_of to)
  covers moment (OnCpu group t at) = nat_eq (moment_of at) moment
  covers moment (Born group parent at) = false

  -- event `place` + 1 is no check of the section's group, or a line covers it
  abbrev pub is_covered : Section → ℕ → Bool
  is_covered section place =
      is_none (check model leg place section.group) || list_any (covers (suc place)) section.lines

  abbrev pub gap_test : Section → Option CertFault
  gap_test section =
      option_map (λ place. Gap (leg.number + suc place)) (first_bad (section.until - section.begin) section.begin (is_covered section))

  -- ---- The whole

  -- the first fault of a certificate that is to make this claim, if it has one
  unfoldable pub cert_fault : Claim → Cert → Option CertFault
  cert_fault claim cert =
      let last = moment_of cert.upto in
      let rest = births cert.lines in
      let first = first_group cert.group.0 rest in
      let parts = sections last first zero (first_lines cert.lines) rest in
      first_of (
      fits (no_leg claim cert) NoLeg
      ∷ birth_tests last first zero rest
      ++ (fits (no_such_group last cert.group.0 first rest parts) NoSuchGroup
      ∷ flat_map line_tests parts
      ++ map gap_test parts))
