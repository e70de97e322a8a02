use Rattle.std.proofs.Common.{◌≡◌, ℕ, suc, pred, ◌+◌, ◌-◌, ◌&&◌, true, false, ◌∷◌, drop, Some, nat_lt, nat_le, sym, ap, ◌∙◌, subst, arith}
use Rattle.std.proofs.lemmas.Grind.{common_steps}
use Rattle.std.proofs.Math.Seq.{drop-cons}
use Rattle.std.proofs.lemmas.List.{drop_all}
use Rattle.lp_definitions.specs.declared.line.Line.{Line}
use Rattle.lp_definitions.specs.declared.line.Line.TheVariants.{Born}
use Rattle.lp_definitions.specs.Leg.{accepted, after}
use Rattle.lp_checker.specs.inside.Births.{group_in, group_or_0, is_own_fork, group_now}
use Rattle.lp_checker.specs.inside.Cursors.{leg_in}
use Rattle.lp_checker.proofs.BirthLines.{Passed, moment_between, pass_birth, late_birth, no_birth, all_passed, fits_some, fits_none}
use Rattle.lp_checker.proofs.births.birth_fault.Goals as goal

pub returns-in_default-moment_within-clause-fault : goal.returns-in_default-moment_within-clause-fault
returns-in_default-moment_within-clause-fault g c = λ claimed.
    let leg = leg_in c.args.cursor.now.range in
    let i = c.loop-line.line-index in
    let lines = c.args.lines.now in
    let here : drop i lines ≡ Born c.in-Born.group c.in-Born.parent c.in-Born.at ∷ drop (suc i) lines = drop-cons lines i _ c.loop-line-test.true ∙ ap (λ (l : Line). l ∷ drop (suc i) lines) c.in-Born.is in
    let late = fits_none _ _ (sym c.in_default-moment_within.is ∙ (rw (c.loop-line.invariant.range, c.end-last.ensures.value) at c.moment_within.ensures)) in
    late_birth g.M.Consistency.rules leg lines c.args.cursor.now.range.end i c.loop-line.begin c.loop-line.from c.in-Born.group c.in-Born.parent c.in-Born.at c.loop-line.invariant.passed here late claimed

pub returns-then-not-branch-clause-fault : goal.returns-then-not-branch-clause-fault
returns-then-not-branch-clause-fault g c = λ claimed.
    let model = g.M.Consistency.rules in
    let leg = leg_in c.args.cursor.now.range in
    let i = c.loop-line.line-index in
    let lines = c.args.lines.now in
    let here : drop i lines ≡ Born c.in-Born.group c.in-Born.parent c.in-Born.at ∷ drop (suc i) lines = drop-cons lines i _ c.loop-line-test.true ∙ ap (λ (l : Line). l ∷ drop (suc i) lines) c.in-Born.is in
    let timely = fits_some (nat_lt c.loop-line.begin (c.in-Born.at - leg.number) && nat_le (c.in-Born.at - leg.number) c.args.cursor.now.range.end) (c.in-Born.at - leg.number) c.in-Some.moment (rw (c.loop-line.invariant.range, c.end-last.ensures.value) at c.in-Some.ensures) in
    let answer = sym (rw c.loop-line.invariant.range at c.in_ok-is_birth.ensures.birth) ∙ c.if-not-branch.true in
    let none = subst (λ (m : ℕ). is_own_fork model (accepted model leg (pred m)) (group_in (after model leg (pred m) c.in-Born.parent.0)) (group_now c.loop-line.from (group_or_0 (after model leg (pred m) c.in-Born.parent.0))) c.in-Born.group.0 c.in-Born.parent.0 ≡ false) timely.1 answer in
    no_birth model leg lines c.args.cursor.now.range.end i c.loop-line.begin c.loop-line.from c.in-Born.group c.in-Born.parent c.in-Born.at c.loop-line.invariant.passed here timely.0 none claimed

pub loop-line-preserved : goal.loop-line-preserved
loop-line-preserved g c =
    let model = g.M.Consistency.rules in
    let leg = leg_in c.args.cursor.now.range in
    let i = c.loop-line.line-index in
    let lines = c.args.lines.now in
    let here : drop i lines ≡ Born c.in-Born.group c.in-Born.parent c.in-Born.at ∷ drop (suc i) lines = drop-cons lines i _ c.loop-line-test.true ∙ ap (λ (l : Line). l ∷ drop (suc i) lines) c.in-Born.is in
    let timely = fits_some (nat_lt c.loop-line.begin (c.in-Born.at - leg.number) && nat_le (c.in-Born.at - leg.number) c.args.cursor.now.range.end) (c.in-Born.at - leg.number) c.in-Some.moment (rw (c.loop-line.invariant.range, c.end-last.ensures.value) at c.in-Some.ensures) in
    let answer = sym (rw c.loop-line.invariant.range at c.in_ok-is_birth.ensures.birth) ∙ c.if-not-branch.false in
    let is = subst (λ (m : ℕ). is_own_fork model (accepted model leg (pred m)) (group_in (after model leg (pred m) c.in-Born.parent.0)) (group_now c.loop-line.from (group_or_0 (after model leg (pred m) c.in-Born.parent.0))) c.in-Born.group.0 c.in-Born.parent.0 ≡ true) timely.1 answer in
    let more = pass_birth model leg lines c.args.cursor.now.range.end i c.loop-line.begin c.loop-line.from c.in-Born.group c.in-Born.parent c.in-Born.at c.loop-line.invariant.passed here timely.0 is in
    let next : suc i ≡ i + 1 = omega arith in
    record {
      range = c.is_birth.ensures.range ∙ c.loop-line.invariant.range;
      passed = subst (λ n. Passed model leg lines c.args.cursor.now.range.end n c.in-Some.moment (Some c.in-Born.group)) next (subst (λ m. Passed model leg lines c.args.cursor.now.range.end (suc i) m (Some c.in-Born.group)) (sym timely.1) more);
    }

pub returns-clause-fault : goal.returns-clause-fault
returns-clause-fault g c = λ claimed.
    let leg = leg_in c.args.cursor.now.range in
    let lines = c.args.lines.now in
    all_passed g.M.Consistency.rules leg lines c.args.cursor.now.range.end c.loop-line.line-index c.loop-line.begin c.loop-line.from (drop_all c.loop-line.line-index lines (omega (arith, c.loop-line-test.false))) c.loop-line.invariant.passed claimed

pub is_birth-requires-clause-event : goal.is_birth-requires-clause-event
is_birth-requires-clause-event g c =
    let range = c.args.cursor.now.range in
    let between = moment_between c.loop-line.begin range.end (c.in-Born.at - range.opening.number) c.in-Some.moment (rw (c.loop-line.invariant.range, c.end-last.ensures.value) at c.in-Some.ensures) in
    omega (arith, between.0)

pub is_birth-requires-clause-within : goal.is_birth-requires-clause-within
is_birth-requires-clause-within g c =
    let range = c.args.cursor.now.range in
    let between = moment_between c.loop-line.begin range.end (c.in-Born.at - range.opening.number) c.in-Some.moment (rw (c.loop-line.invariant.range, c.end-last.ensures.value) at c.in-Some.ensures) in
    rw c.loop-line.invariant.range between.1

pub loop-line-preserved-in_default : goal.loop-line-preserved-in_default
loop-line-preserved-in_default g c = grind (arith, common_steps)

pub returns-then-not-branch-clause-range : goal.returns-then-not-branch-clause-range
returns-then-not-branch-clause-range g c = grind (arith, common_steps)
