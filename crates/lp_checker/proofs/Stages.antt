-- The stages of a check, one after the other.
use Rattle.std.proofs.Common.{◌≡◌, ℕ, ◌≤◌, Bool, true, false, not, ◌&&◌, List, [], ◌∷◌, ◌++◌, Option, Some, None, is_some, map, nat_lt, nat_le, refl, sym, ap, ap₂, ◌∙◌}
use Rattle.std.specs.List.{flat_map}
use Rattle.std.proofs.lemmas.Bool.{and_parts, ltb-true, leb-true, not-false}
use Rattle.lp_model.specs.Rules.{Rules}
use Rattle.lp_definitions.specs.declared.event.Event.{Event}
use Rattle.lp_definitions.specs.Leg.{Leg}
use Rattle.lp_machine.specs.Table.{Engine}
use Rattle.lp_definitions.specs.Tasks.{fits, first_of}
use Rattle.lp_laws.proofs.NextTasks.{none_first, unfit}
use Rattle.lp_definitions.specs.declared.cert.Cert.{Cert}
use Rattle.lp_definitions.specs.declared.cert.Claim.{Claim}
use Rattle.lp_definitions.specs.declared.line.Line.{Line}
use Rattle.lp_definitions.specs.declared.cert_fault.CertFault.{CertFault}
use Rattle.lp_definitions.specs.declared.cert_fault.CertFault.TheVariants.{BadBirth, NoLeg, NoSuchGroup}
use Rattle.lp_definitions.specs.Judgement.{Birth, Section, births, birth_tests, cert_fault, first_lines, gap_test, is_birth, line_tests, moment_of, no_leg, no_such_group, sections}
use Rattle.lp_checker.specs.Folds.{leg_with}
use Rattle.lp_checker.specs.inside.Cursors.{Range, leg_in}
use Rattle.lp_checker.specs.inside.Sections.{AreInOrder}
use Rattle.lp_checker.specs.inside.Stages.{chain_tests, later_tests}
use Rattle.lp_laws.proofs.FirstBad.{fit_none, first_of_append, first_of_found, first_none, first_some}

fit_some : {A : Type 0} (b : Bool) (x : A) → b ≡ true → fits b x ≡ Some x
fit_some true x e = refl
fit_some false x e = absurd (cc)

pub found_first : {A : Type 0} (xs ys : List (Option A)) (o : Option A) → o ≡ first_of xs → true ≡ is_some o → first_of (xs ++ ys) ≡ o
found_first xs ys None e some = absurd (cc)
found_first xs ys (Some x) e some = first_of_found xs ys x (sym e)

-- C1 comes before the faults of the sections, whichever is looked for first
module _ (model : Rules) (range : Range) (first claimed : ℕ) (lines : List Line) (parts : List Section) (is : parts ≡ sections model (leg_in range) range.end first 0 (first_lines lines) (births lines)) where
  abbrev all : List Section
  all = sections model (leg_in range) range.end first 0 (first_lines lines) (births lines)

  abbrev lined : List Section → List (Option CertFault)
  lined sections = flat_map (line_tests model (leg_in range)) sections

  abbrev gapped : List Section → List (Option CertFault)
  gapped sections = map (gap_test model (leg_in range)) sections

  abbrev none_such : Bool
  none_such = no_such_group model (leg_in range) range.end claimed first (births lines) all

  past_group : none_such ≡ false → first_of (chain_tests model range first claimed lines) ≡ first_of (lined all ++ gapped all)
  past_group other = first_none (fits none_such NoSuchGroup) (lined all ++ gapped all) (fit_none none_such NoSuchGroup other)

  pub at_group : none_such ≡ true → Some NoSuchGroup ≡ first_of (chain_tests model range first claimed lines)
  at_group here = sym (first_some (fits none_such NoSuchGroup) (lined all ++ gapped all) NoSuchGroup (fit_some none_such NoSuchGroup here))

  pub at_line : none_such ≡ false → (o : Option CertFault) → o ≡ first_of (lined parts) → true ≡ is_some o → o ≡ first_of (chain_tests model range first claimed lines)
  at_line other o e some = sym (past_group other ∙ found_first (lined all) (gapped all) o (e ∙ ap (λ ps. first_of (lined ps)) is) some)

  pub at_gap : none_such ≡ false → first_of (lined parts) ≡ None → (o : Option CertFault) → o ≡ first_of (gapped parts) → o ≡ first_of (chain_tests model range first claimed lines)
  at_gap other none o e = e ∙ ap (λ ps. first_of (gapped ps)) is ∙ sym (past_group other ∙ first_of_append (lined all) (gapped all) (ap (λ ps. first_of (lined ps)) (sym is) ∙ none))

module _ (model : Rules) (leg : Leg) where
  -- births without a fault come one after the other
  pub in_order : (last group begin : ℕ) (rest : List Birth) → begin ≤ last → first_of (birth_tests model leg last group begin rest) ≡ None → AreInOrder leg last begin rest
  in_order last group begin [] le e = le
  in_order last group begin (birth ∷ more) le e =
      let m = moment_of model leg birth.at in
      let timely = nat_lt begin m && nat_le m last in
      let own = is_birth model leg group birth in
      let tests = none_first (fits (not (timely && own)) (BadBirth birth.at)) (birth_tests model leg last birth.group m more) e in
      let both = and_parts timely own (not-false (timely && own) (unfit (not (timely && own)) (BadBirth birth.at) tests.0)) in
      let times = and_parts (nat_lt begin m) (nat_le m last) both.0 in
      (ltb-true begin m times.0, in_order last birth.group m more (leb-true m last times.1) tests.1)

-- past C6 the parts are tested one after the other
module _ (model : Rules) (opening : Engine) (events : List Event) (claim : Claim) (cert : Cert) where
  abbrev leg : Leg
  leg = leg_with opening events

  abbrev up_to : ℕ → Range
  up_to end = record { opening = opening; events = events; end = end }

  all_stages : cert_fault model leg claim cert ≡ first_of (fits (no_leg model leg claim cert) NoLeg ∷ later_tests model (up_to (moment_of model leg cert.upto)) cert.group.0 cert.lines)
  unfolding cert_fault
  all_stages = refl

  pub at_no_leg : no_leg model leg claim cert ≡ true → cert_fault model leg claim cert ≡ Some NoLeg
  at_no_leg e = all_stages ∙ first_some (fits (no_leg model leg claim cert) NoLeg) (later_tests model (up_to (moment_of model leg cert.upto)) cert.group.0 cert.lines) NoLeg (fit_some _ NoLeg e)

  pub past_no_leg : (last : ℕ) (range : Range) (lines : List Line) → no_leg model leg claim cert ≡ false → last ≡ moment_of model leg cert.upto → range ≡ up_to last → lines ≡ cert.lines → first_of (later_tests model range cert.group.0 lines) ≡ cert_fault model leg claim cert
  past_no_leg last range lines on is_last is_range is_lines =
      sym (
      all_stages
      ∙ first_none (fits (no_leg model leg claim cert) NoLeg) (later_tests model (up_to (moment_of model leg cert.upto)) cert.group.0 cert.lines) (fit_none _ NoLeg on)
      ∙ ap₂ (λ (r : Range) (ls : List Line). first_of (later_tests model r cert.group.0 ls)) (ap up_to (sym is_last) ∙ sym is_range) (sym is_lines))
