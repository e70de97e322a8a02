use Rattle.std.proofs.Common.{◌≡◌, ℕ, zero, Option, sym, ap, ◌∙◌, arith}
use Rattle.std.proofs.lemmas.Result.{IfOk-weaker}
use Rattle.lp_definitions.specs.Tasks.{first_of}
use Rattle.lp_definitions.specs.declared.cert_fault.CertFault.{CertFault}
use Rattle.lp_checker.specs.inside.Cursors.{leg_in}
use Rattle.lp_checker.specs.inside.Stages.{chain_tests, later_tests}
use Rattle.lp_definitions.specs.Judgement.{births, birth_tests, first_group}
use Rattle.lp_laws.proofs.FirstBad.{first_of_append}
use Rattle.lp_checker.proofs.PartLines.{none_is}
use Rattle.lp_checker.proofs.Stages.{in_order, found_first}
use Rattle.lp_checker.proofs.judge.later_fault.Goals as goal

pub returns-then-is_some : goal.returns-then-is_some
returns-then-is_some g c =
    let model = g.M.Consistency.rules in
    let range = c.args.cursor.now.range in
    let lines = c.args.lines.now in
    let first = first_group model (leg_in range) c.args.claimed.0 (births lines) in
    let told = rw c.first_group.ensures.range at c.in_ok-fault.ensures.fault c.args.claimed.0 in
    sym (found_first (birth_tests model (leg_in range) range.end first 0 (births lines)) (chain_tests model range first c.args.claimed.0 lines) c.in_ok-fault.fault told c.if-is_some.ensures)

pub chain_fault-requires : goal.chain_fault-requires
chain_fault-requires g c =
    let range = c.args.cursor.now.range in
    let told = rw c.first_group.ensures.range at c.in_ok-fault.ensures.fault 0 in
    rw (c.birth_fault.ensures.range, c.first_group.ensures.range) (in_order g.M.Consistency.rules (leg_in range) range.end _ zero (births c.args.lines.now) (omega arith) (sym told ∙ none_is c.in_ok-fault.fault c.if-is_some.ensures))

pub returns : goal.returns
returns g c =
    let model = g.M.Consistency.rules in
    let range = c.args.cursor.now.range in
    let lines = c.args.lines.now in
    let claimed = c.args.claimed.0 in
    let first = first_group model (leg_in range) claimed (births lines) in
    let born = birth_tests model (leg_in range) range.end first 0 (births lines) in
    let told = rw c.first_group.ensures.range at c.in_ok-fault.ensures.fault claimed in
    let none = sym told ∙ none_is c.in_ok-fault.fault c.if-is_some.ensures in
    let is_first = c.in_ok-first.ensures.group (in_order model (leg_in range) range.end _ zero (births lines) (omega arith) none) in
    IfOk-weaker c.chain_fault.result (λ (fault : Option CertFault). fault ≡ first_of (chain_tests model range c.in_ok-first.first.0 claimed lines)) (λ fault. fault ≡ first_of (later_tests model range claimed lines)) (λ fault e.
    e ∙ ap (λ (f : ℕ). first_of (chain_tests model range f claimed lines)) is_first ∙ sym (first_of_append born (chain_tests model range first claimed lines) none))
    (rw (c.birth_fault.ensures.range, c.first_group.ensures.range) at c.chain_fault.ensures)
