-- The sections that are kept are gone through one by one.
use Rattle.std.proofs.Common.{◌≡◌, ℕ, ◌≤◌, List, ◌∷◌, map, slice_range, Option, Some, None, is_some, true, false, refl, sym, ap, subst, ◌∙◌}
use Rattle.std.specs.List.{flat_map}
use mathlib.Core.Path.{fun_ext}
use Rattle.lp_model.specs.Rules.{Rules}
use Rattle.lp_definitions.specs.Leg.{Leg}
use Rattle.lp_definitions.specs.Tasks.{first_of}
use Rattle.lp_definitions.specs.declared.line.Line.{Line}
use Rattle.lp_definitions.specs.declared.line.Line.TheVariants.{Hold, Busy as OnCpu, Born}
use Rattle.lp_definitions.specs.declared.cert_fault.CertFault.{CertFault}
use Rattle.lp_checker.specs.declared.sections.Section.{Section as Part}
use Rattle.lp_definitions.specs.Judgement.{line_test, line_tests, gap_test}
use Rattle.lp_checker.specs.inside.Sections.{section_of, timed, FollowOn}
use Rattle.lp_laws.proofs.FirstBad.{first_of_append, first_of_found, first_none, first_some}

-- what comes after the first of them
pub follows : (size last : ℕ) (parts more : List Part) (part : Part) → parts ≡ part ∷ more → (begin : ℕ) × FollowOn size last begin parts → FollowOn size last part.until more
follows size last parts more part here h = let first = subst (FollowOn size last h.0) here h.1 in first.5

-- the first of them lies in time and has some of the lines
pub in_time : (size last : ℕ) (parts more : List Part) (part : Part) → parts ≡ part ∷ more → (begin : ℕ) × FollowOn size last begin parts → (part.begin ≤ part.until) × (part.until ≤ last) × (part.start ≤ part.end) × (part.end ≤ size)
in_time size last parts more part here h = let first = subst (FollowOn size last h.0) here h.1 in (subst (λ begin. begin ≤ part.until) (sym first.0) first.1, first.2, first.3, first.4)

module _ (model : Rules) (leg : Leg) (lines : List Line) where
  -- a line is tested by its section's group and time
  timed_test : (part : Part) (line : Line) → line_test model leg (section_of lines part) line ≡ line_test model leg (timed part) line
  timed_test part (Hold g t s from to) = refl
  timed_test part (OnCpu g t at) = refl
  timed_test part (Born g p at) = refl

  pub timed_tests : (part : Part) → line_tests model leg (section_of lines part) ≡ map (line_test model leg (timed part)) (slice_range lines part.start part.end)
  timed_tests part = ap (λ (f : Line → Option CertFault). map f (slice_range lines part.start part.end)) (fun_ext (timed_test part))

  -- the faults of the lines of the sections from one on
  abbrev pub faults_from : List Part → Option CertFault
  faults_from parts = first_of (flat_map (line_tests model leg) (map (section_of lines) parts))

  abbrev own : Part → Option CertFault
  own part = first_of (map (line_test model leg (timed part)) (slice_range lines part.start part.end))

  fault_by : (parts more : List Part) (part : Part) (fault : CertFault) → parts ≡ part ∷ more → own part ≡ Some fault → faults_from parts ≡ Some fault
  fault_by parts more part fault here e =
      ap faults_from here ∙ first_of_found (line_tests model leg (section_of lines part)) (flat_map (line_tests model leg) (map (section_of lines) more)) fault (ap first_of (timed_tests part) ∙ e)

  no_fault_by : (parts more : List Part) (part : Part) → parts ≡ part ∷ more → own part ≡ None → faults_from parts ≡ faults_from more
  no_fault_by parts more part here e =
      ap faults_from here ∙ first_of_append (line_tests model leg (section_of lines part)) (flat_map (line_tests model leg) (map (section_of lines) more)) (ap first_of (timed_tests part) ∙ e)

  pub fault_here : (parts more : List Part) (part : Part) (fault : Option CertFault) → parts ≡ part ∷ more → fault ≡ own part → true ≡ is_some fault → faults_from parts ≡ fault
  fault_here parts more part (Some fault) here e some = fault_by parts more part fault here (sym e)
  fault_here parts more part None here e some = absurd (cc)

  pub no_fault_here : (parts more : List Part) (part : Part) (fault : Option CertFault) → parts ≡ part ∷ more → fault ≡ own part → false ≡ is_some fault → faults_from parts ≡ faults_from more
  no_fault_here parts more part (Some fault) here e none = absurd (cc)
  no_fault_here parts more part None here e none = no_fault_by parts more part here (sym e)

  -- the gaps of the sections from one on
  abbrev pub gaps_from : List Part → Option CertFault
  gaps_from parts = first_of (map (gap_test model leg) (map (section_of lines) parts))

  gap_by : (parts more : List Part) (part : Part) (fault : CertFault) → parts ≡ part ∷ more → gap_test model leg (section_of lines part) ≡ Some fault → gaps_from parts ≡ Some fault
  gap_by parts more part fault here e = ap gaps_from here ∙ first_some (gap_test model leg (section_of lines part)) (map (gap_test model leg) (map (section_of lines) more)) fault e

  no_gap_by : (parts more : List Part) (part : Part) → parts ≡ part ∷ more → gap_test model leg (section_of lines part) ≡ None → gaps_from parts ≡ gaps_from more
  no_gap_by parts more part here e = ap gaps_from here ∙ first_none (gap_test model leg (section_of lines part)) (map (gap_test model leg) (map (section_of lines) more)) e

  pub gap_here : (parts more : List Part) (part : Part) (fault : Option CertFault) → parts ≡ part ∷ more → fault ≡ gap_test model leg (section_of lines part) → true ≡ is_some fault → gaps_from parts ≡ fault
  gap_here parts more part (Some fault) here e some = gap_by parts more part fault here (sym e)
  gap_here parts more part None here e some = absurd (cc)

  pub no_gap_here : (parts more : List Part) (part : Part) (fault : Option CertFault) → parts ≡ part ∷ more → fault ≡ gap_test model leg (section_of lines part) → false ≡ is_some fault → gaps_from parts ≡ gaps_from more
  no_gap_here parts more part (Some fault) here e none = absurd (cc)
  no_gap_here parts more part None here e none = no_gap_by parts more part here (sym e)

-- what isn't there
pub none_is : {A : Type 0} (o : Option A) → false ≡ is_some o → o ≡ None
none_is None h = refl
none_is (Some x) h = absurd (cc)
