-- The parts of a check, one after the other.
use Rattle.std.specs.Prelude.{ℕ, ◌∷◌, ◌++◌, List, Option, map}
use Rattle.std.specs.List.{flat_map}
use Rattle.lp_model.specs.Rules.{Rules}
use Rattle.lp_definitions.specs.Leg.{Leg}
use Rattle.lp_definitions.specs.Tasks.{fits}
use Rattle.lp_definitions.specs.declared.line.Line.{Line}
use Rattle.lp_definitions.specs.declared.cert_fault.CertFault.{CertFault}
use Rattle.lp_definitions.specs.declared.cert_fault.CertFault.TheVariants.{NoSuchGroup}
use Rattle.lp_checker.specs.inside.Cursors.{Range, leg_in}
use Rattle.lp_definitions.specs.Judgement.{births, birth_tests, first_group, first_lines, gap_test, line_tests, no_such_group, sections}

-- C1, then those of the sections: C3 and C2, then C4
abbrev pub chain_tests : Rules → Range → (first claimed : ℕ) → List Line → List (Option CertFault)
chain_tests model range first claimed lines =
    let leg = leg_in range in
    let parts = sections model leg range.end first 0 (first_lines lines) (births lines) in
    fits (no_such_group model leg range.end claimed first (births lines) parts) NoSuchGroup ∷ (flat_map (line_tests model leg) parts ++ map (gap_test model leg) parts)

-- C5, then those of the births' groups
abbrev pub later_tests : Rules → Range → (claimed : ℕ) → List Line → List (Option CertFault)
later_tests model range claimed lines =
    let first = first_group model (leg_in range) claimed (births lines) in
    birth_tests model (leg_in range) range.end first 0 (births lines) ++ chain_tests model range first claimed lines
