use Rattle.std.proofs.Common.{◌≡◌, Bool, true, false, not, Option, None, Some, is_some, List, refl, sym, ap, subst, ◌∙◌}
use Rattle.std.specs.List.{AllByRecursion}
use Rattle.std.proofs.lemmas.Bool.{false≢true}
use Rattle.lp_model.specs.declared.verdict.Verdict.{Verdict}
use Rattle.lp_definitions.specs.declared.reply.Reply.{Reply}
use Rattle.lp_machine.specs.Table.{state_in}
use Rattle.lp_transition.specs.Blames.{has_frame_in}
use Rattle.lp_transition.specs.LastScan.{used_scan}
use Rattle.lp_transition.specs.inside.ScanSteps.{groups_of}
use Rattle.lp_cert.specs.inside.Waiters.{IsUsedVerdict, after_switch, lines_at}
use Rattle.lp_cert.proofs.LegSteps.{gone_stepped, over_stepped}
use Rattle.lp_cert.proofs.OwnEffects.{few_scanned, is_used, scanned_so, used_verdicts_of}
use Rattle.lp_cert.proofs.maker.note_leg.Goals as goal

no_kind : {A : Type 0} (o : Option A) (b : Bool) → is_some o ≡ not b → b ≡ true → o ≡ None
no_kind None b told none = refl
no_kind (Some x) true told none = absurd (false≢true (sym told))
no_kind (Some x) false told none = absurd (false≢true none)

some_kind : {A : Type 0} (o : Option A) (b : Bool) → is_some o ≡ not b → b ≡ false → (x : A) × (o ≡ Some x)
some_kind None true told some = absurd (false≢true (sym some))
some_kind None false told some = absurd (false≢true told)
some_kind (Some x) b told some = (x, refl)

-- an event that is no scan which the model uses
pub returns-then-is_none : goal.returns-then-is_none
returns-then-is_none g c =
    let model = g.M.Consistency.rules in
    let e = c.args.core.now in
    let step = c.args.step.now in
    let none = ap (used_scan model) (sym c.event.ensures) ∙ (sym c.used_scan.ensures ∙ no_kind c.used_scan.result c.is_none.result c.is_none.ensures c.if-is_none.true) in
    let own = rw c.event-then-is_none.ensures at c.own_effect-effect.ensures.lines in
    let few = rw c.event-then-is_none.ensures at c.own_effect-effect.ensures.few in
    c.affect_leg.ensures model e step (has_frame_in (state_in e)) none (λ group. own step.verdicts group) c.own_effect-effect.ensures.told few c.reply.ensures

pub returns-then-is_over : goal.returns-then-is_over
returns-then-is_over g c =
    over_stepped g.M.Consistency.rules c.args.core.now c.args.step.now _ _ _ _ _ (ap (λ (r : Reply). r.completed) c.reply-2.ensures) _ (sym c.is_over.ensures.over ∙ c.if-is_over.true) c.is_over.ensures.complete c.is_over.ensures.completes

pub returns : goal.returns
returns g c =
    let model = g.M.Consistency.rules in
    let e = c.args.core.now in
    let step = c.args.step.now in
    let kind = some_kind c.used_scan.result c.is_none.result c.is_none.ensures c.if-is_none.false in
    let used = ap (used_scan model) (sym c.event.ensures) ∙ (sym c.used_scan.ensures ∙ kind.1) in
    let scan = is_used model step.event kind.0 used in
    gone_stepped model e step _ _ _ _ _ (ap (λ (r : Reply). r.completed) c.reply-2.ensures) c.is_over.new.waiters _ (sym c.is_over.ensures.over ∙ c.if-is_over.false) (c.is_over.ensures.goes_on c.if-is_over.false)
    (λ group. c.switch.ensures group ∙ (ap (λ (r : Reply). after_switch (groups_of r.what) (lines_at c.scan.new.self) group) c.reply-3.ensures
    ∙ scanned_so model e step c.requires.weighed scan kind.0 used c.is_over.new.waiters c.args.number group _ c.requires.number
    (rw c.verdicts.ensures at (c.scan.ensures.lines group))))
    (λ accepted. few_scanned e step.event scan) (λ some accepted. c.scan.ensures.stood)

pub scan-requires-clause-used : goal.scan-requires-clause-used
scan-requires-clause-used g c =
    let model = g.M.Consistency.rules in
    let kind = some_kind c.used_scan.result c.is_none.result c.is_none.ensures c.if-is_none.false in
    let used = ap (used_scan model) (sym c.event.ensures) ∙ (sym c.used_scan.ensures ∙ kind.1) in
    subst (λ (vs : List Verdict). AllByRecursion IsUsedVerdict vs) (sym c.verdicts.ensures)
    (used_verdicts_of model g.met.M.Consistency.lawful (state_in c.args.core.now) c.args.step.now.event kind.0 used c.args.step.now.verdicts c.requires.weighed.verdicts)
