-- That a certificate is of no such leg is found by the first test alone.
use Rattle.std.proofs.Common.{◌≡◌, ℕ, zero, suc, ◌+◌, ◌-◌, Bool, true, false, List, [], ◌∷◌, ◌++◌, map, Option, Some, None, not, ◌&&◌, nat_le, nat_lt, refl, sym, ◌∙◌}
use Rattle.std.specs.List.{flat_map, AllByRecursion}
use Rattle.std.specs.Option.{option_map}
use Rattle.lp_model.specs.Rules.{Rules}
use Rattle.lp_definitions.specs.Leg.{Leg}
use Rattle.lp_definitions.specs.Tasks.{fits, first_of}
use Rattle.lp_definitions.specs.declared.cert.Cert.{Cert}
use Rattle.lp_definitions.specs.declared.cert.Claim.{Claim}
use Rattle.lp_definitions.specs.declared.line.Line.{Line}
use Rattle.lp_definitions.specs.declared.line.Line.TheVariants.{Hold, Busy as OnCpu, Born}
use Rattle.lp_definitions.specs.declared.cert_fault.CertFault.{CertFault}
use Rattle.lp_definitions.specs.declared.cert_fault.CertFault.TheVariants.{NoSuchGroup, NotOnStack, NoBlame, Gap, BadBirth, NoLeg}
use Rattle.lp_definitions.specs.Judgement.{Birth, Section, births, birth_tests, first_bad, first_group, first_lines, gap_test, is_birth, is_covered, is_held_by, is_busy, is_on_stack, blame_at, lies_in, line_test, line_tests, moment_of, no_leg, no_such_group, sections, cert_fault}

-- a test that finds no other leg
abbrev Other : Option CertFault → Type 0
Other o = ¬ (o ≡ Some NoLeg)

no_fault : Other None
no_fault e = absurd (cc)

fits_other : (b : Bool) (x : CertFault) → Other (Some x) → Other (fits b x)
fits_other true x h = h
fits_other false x h = no_fault

mapped : {A : Type 0} (f : A → CertFault) (o : Option A) → ((x : A) → Other (Some (f x))) → Other (option_map f o)
mapped f None h = no_fault
mapped f (Some x) h = h x

others : (tests : List (Option CertFault)) → AllByRecursion Other tests → Other (first_of tests)
others [] h = no_fault
others (None ∷ tests) h = others tests h.1
others (Some x ∷ tests) h = h.0

joined : (xs ys : List (Option CertFault)) → AllByRecursion Other xs → AllByRecursion Other ys → AllByRecursion Other (xs ++ ys)
joined [] ys h k = k
joined (x ∷ xs) ys h k = (h.0, joined xs ys h.1 k)

all_mapped : {A : Type 0} (f : A → Option CertFault) (xs : List A) → ((x : A) → Other (f x)) → AllByRecursion Other (map f xs)
all_mapped f [] h = tt
all_mapped f (x ∷ xs) h = (h x, all_mapped f xs h)

module _ (model : Rules) (leg : Leg) where
  birth_others : (last group begin : ℕ) (rest : List Birth) → AllByRecursion Other (birth_tests model leg last group begin rest)
  birth_others last group begin [] = tt
  birth_others last group begin (birth ∷ more) =
      let moment = moment_of model leg birth.at in
      (fits_other (not ((nat_lt begin moment && nat_le moment last) && is_birth model leg group birth)) (BadBirth birth.at) (λ e. absurd (cc)), birth_others last birth.group moment more)

  line_other : (section : Section) (line : Line) → Other (line_test model leg section line)
  line_other section (Hold group t serial from to) =
      let begin = moment_of model leg from in
      let end = moment_of model leg to in
      let is_placed = nat_le from to && (lies_in section begin && lies_in section end) in
      let blamed = not (is_placed && is_held_by serial (blame_at model leg section.group begin t.0)) in
      let off = first_bad (suc end - begin) begin (is_on_stack model leg t.0 serial) in
      let left : ℕ → CertFault = λ moment. NotOnStack (leg.number + moment) in
      others (fits blamed (NoBlame from) ∷ option_map left off ∷ []) (fits_other blamed (NoBlame from) (λ e. absurd (cc)), (mapped left off (λ x e. absurd (cc)), tt))
  line_other section (OnCpu group t at) =
      let moment = moment_of model leg at in
      fits_other (not (lies_in section moment && is_busy (blame_at model leg section.group moment t.0))) (NoBlame at) (λ e. absurd (cc))
  line_other section (Born group parent at) = no_fault

  lines_other : (parts : List Section) → AllByRecursion Other (flat_map (line_tests model leg) parts)
  lines_other [] = tt
  lines_other (part ∷ parts) = joined (line_tests model leg part) (flat_map (line_tests model leg) parts) (all_mapped (line_test model leg part) part.lines (line_other part)) (lines_other parts)

  gap_other : (section : Section) → Other (gap_test model leg section)
  gap_other section =
      let gap : ℕ → CertFault = λ place. Gap (leg.number + suc place) in
      mapped gap (first_bad (section.until - section.begin) section.begin (is_covered model leg section)) (λ x e. absurd (cc))

  module _ (claim : Claim) (cert : Cert) where
    -- the tests after the first
    abbrev later : List (Option CertFault)
    later =
        let last = moment_of model leg cert.upto in
        let rest = births cert.lines in
        let first = first_group model leg cert.group.0 rest in
        let parts = sections model leg last first zero (first_lines cert.lines) rest in
        birth_tests model leg last first zero rest
        ++ (fits (no_such_group model leg last cert.group.0 first rest parts) NoSuchGroup
        ∷ flat_map (line_tests model leg) parts
        ++ map (gap_test model leg) parts)

    all_tests : cert_fault model leg claim cert ≡ first_of (fits (no_leg model leg claim cert) NoLeg ∷ later)
    unfolding cert_fault
    all_tests = refl

    later_others : AllByRecursion Other later
    later_others =
        let last = moment_of model leg cert.upto in
        let rest = births cert.lines in
        let first = first_group model leg cert.group.0 rest in
        let parts = sections model leg last first zero (first_lines cert.lines) rest in
        let grouped = no_such_group model leg last cert.group.0 first rest parts in
        let the_rest = joined (flat_map (line_tests model leg) parts) (map (gap_test model leg) parts) (lines_other parts) (all_mapped (gap_test model leg) parts gap_other) in
        joined (birth_tests model leg last first zero rest) (fits grouped NoSuchGroup ∷ flat_map (line_tests model leg) parts ++ map (gap_test model leg) parts) (birth_others last first zero rest)
        (fits_other grouped NoSuchGroup (λ e. absurd (cc)), the_rest)

    by_first : (b : Bool) → first_of (fits b NoLeg ∷ later) ≡ Some NoLeg → b ≡ true
    by_first true e = refl
    by_first false e = absurd (others later later_others e)

    -- where the fault is that of another leg, the first test finds it
    pub found_by_first : cert_fault model leg claim cert ≡ Some NoLeg → no_leg model leg claim cert ≡ true
    found_by_first e = by_first (no_leg model leg claim cert) (sym all_tests ∙ e)
