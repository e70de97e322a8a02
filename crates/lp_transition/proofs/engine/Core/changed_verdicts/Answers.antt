use Rattle.std.proofs.Common.{List, inr, sym, subst, ◌∙◌}
use Rattle.std.proofs.lemmas.Result.{IfOk-weaker}
use Rattle.lp_numbers.specs.Numbers.{has}
use Rattle.lp_model.specs.declared.verdict.Verdict.{Verdict}
use Rattle.lp_transition.specs.Blames.{TellOf}
use Rattle.lp_transition.specs.Scan.{MayLeaveOut, AreEnough}
use Rattle.lp_machine.specs.Table.{Engine, state_in}
use Rattle.lp_transition.specs.inside.FirstRefusals.{AreTold}
use Rattle.lp_transition.proofs.AskedScans.{none-enough, all-enough}
use Rattle.lp_transition.proofs.FirstRefusals.{told-enough, told-tells}
use Rattle.lp_transition.specs.inside.Invariant.{told_scan}
use Rattle.lp_transition.proofs.engine.Core.changed_verdicts.Goals as goal

pub returns-in-Some-clause-enough : goal.returns-in-Some-clause-enough
returns-in-Some-clause-enough g c =
    let i = c.self.inside in
    let e : Engine = record { number = i.events; from = i.from.0; target = i.target.0; patches = i.patches; table = i.tasks; blames = i.blames; last_scan = told_scan i.unchanged } in
    let rules = g.M.Consistency.rules in
    let asked = has c.in-Some.changed.now in
    let enough = subst (λ (o : Engine). (vs : List Verdict) → MayLeaveOut rules c.args.kind (state_in o) asked → AreTold rules c.args.kind (state_in o) asked vs → AreEnough rules c.args.kind (state_in o) vs) c.self.view_is
    (told-enough e i.waiting c.self.invariant.engine rules c.args.kind asked) in
    IfOk-weaker c.first_refusals.result _ _ (λ found told. enough found.items c.in-Some.ensures.others told) c.first_refusals.ensures

pub returns-in-Some-clause-told : goal.returns-in-Some-clause-told
returns-in-Some-clause-told g c =
    let i = c.self.inside in
    let e : Engine = record { number = i.events; from = i.from.0; target = i.target.0; patches = i.patches; table = i.tasks; blames = i.blames; last_scan = told_scan i.unchanged } in
    let rules = g.M.Consistency.rules in
    let asked = has c.in-Some.changed.now in
    let last = c.in-Some.ensures.last in
    let tells = subst (λ (o : Engine). (vs : List Verdict) → AreTold rules c.args.kind (state_in o) asked vs → TellOf rules c.args.kind (state_in o) asked vs) c.self.view_is
    (told-tells e i.waiting c.self.invariant.engine rules c.args.kind asked) in
    IfOk-weaker c.first_refusals.result _ _ (λ found told used. inr (last.0, subst (λ changed. TellOf rules c.args.kind (state_in c.args.self.now) (has changed) found.items) last.1 (tells found.items told))) c.first_refusals.ensures

pub returns-then-not-uses-clause-enough : goal.returns-then-not-uses-clause-enough
returns-then-not-uses-clause-enough g c = rw c.new.ensures.items (none-enough g.M.Consistency.rules g.met.M.Consistency.lawful c.args.kind (state_in c.args.self.now) (sym c.uses.ensures ∙ c.if-not-uses.true))

pub returns-clause-enough : goal.returns-clause-enough
returns-clause-enough g c = IfOk-weaker c.all_verdicts.result _ _ (λ found all. all-enough g.M.Consistency.rules c.args.kind (state_in c.args.self.now) found.items all) c.all_verdicts.ensures
