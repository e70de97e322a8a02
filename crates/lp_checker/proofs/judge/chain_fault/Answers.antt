use Rattle.std.proofs.Common.{◌≡◌, None, Option, List, map, sym, ap, ◌∙◌, arith}
use Rattle.std.specs.List.{flat_map}
use Rattle.std.proofs.lemmas.Grind.{common_steps}
use Rattle.std.proofs.lemmas.Result.{IfOk-weaker}
use Rattle.lp_definitions.specs.Tasks.{first_of}
use Rattle.lp_definitions.specs.declared.cert_fault.CertFault.{CertFault}
use Rattle.lp_definitions.specs.Judgement.{Section, gap_test, line_tests}
use Rattle.lp_checker.specs.inside.Cursors.{leg_in}
use Rattle.lp_checker.specs.inside.Sections.{section_of}
use Rattle.lp_checker.specs.inside.Stages.{chain_tests}
use Rattle.lp_checker.proofs.PartLines.{none_is}
use Rattle.lp_checker.proofs.Stages.{at_gap, at_group, at_line}
use Rattle.lp_checker.proofs.judge.chain_fault.Goals as goal

pub returns-then-branch : goal.returns-then-branch
returns-then-branch g c =
    let parts : List Section = map (section_of c.args.lines.now) c.as_slice.result.now in
    let same = ap (map (section_of c.args.lines.now)) c.as_slice.ensures.value ∙ c.in_ok-parts.ensures.sections in
    at_group g.M.Consistency.rules c.args.cursor.now.range c.args.first.0 c.args.claimed.0 c.args.lines.now parts same (sym (rw c.line_fault.ensures.range at c.in_ok-is_no_such_group.ensures.none) ∙ c.if-branch.true)

pub returns-then-is_some : goal.returns-then-is_some
returns-then-is_some g c =
    let parts : List Section = map (section_of c.args.lines.now) c.as_slice.result.now in
    let same = ap (map (section_of c.args.lines.now)) c.as_slice.ensures.value ∙ c.in_ok-parts.ensures.sections in
    at_line g.M.Consistency.rules c.args.cursor.now.range c.args.first.0 c.args.claimed.0 c.args.lines.now parts same (sym (rw c.line_fault.ensures.range at c.in_ok-is_no_such_group.ensures.none) ∙ c.if-branch.false) c.in_ok-fault.fault c.in_ok-fault.ensures.fault c.if-is_some.ensures

pub returns : goal.returns
returns g c =
    let model = g.M.Consistency.rules in
    let range = c.args.cursor.now.range in
    let lines = c.args.lines.now in
    let parts : List Section = map (section_of lines) c.as_slice.result.now in
    let same = ap (map (section_of lines)) c.as_slice.ensures.value ∙ c.in_ok-parts.ensures.sections in
    let again : c.as_slice-2.result.now ≡ c.as_slice.result.now = c.as_slice-2.ensures.value ∙ sym c.as_slice.ensures.value in
    let none : first_of (flat_map (line_tests model (leg_in range)) parts) ≡ None = sym c.in_ok-fault.ensures.fault ∙ none_is c.in_ok-fault.fault c.if-is_some.ensures in
    let known = sym (rw c.line_fault.ensures.range at c.in_ok-is_no_such_group.ensures.none) ∙ c.if-branch.false in
    IfOk-weaker c.gap_fault.result (λ (fault : Option CertFault). fault ≡ first_of (map (gap_test model (leg_in range)) (map (section_of lines) c.as_slice-2.result.now))) (λ fault. fault ≡ first_of (chain_tests model range c.args.first.0 c.args.claimed.0 lines))
    (λ fault e. at_gap model range c.args.first.0 c.args.claimed.0 lines parts same known none fault (e ∙ ap (λ own. first_of (map (gap_test model (leg_in range)) (map (section_of lines) own))) again))
    (rw (c.is_no_such_group.ensures.range, c.line_fault.ensures.range) at c.gap_fault.ensures.fault)

pub line_fault-requires : goal.line_fault-requires
line_fault-requires g c = grind (arith, common_steps)

pub gap_fault-requires : goal.gap_fault-requires
gap_fault-requires g c = grind (arith, common_steps)
