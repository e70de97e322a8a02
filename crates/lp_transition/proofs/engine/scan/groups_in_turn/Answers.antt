use Rattle.std.proofs.Common.{◌+◌, [], ◌∷◌, true, false, not, None, Vec, take, get_or, sym, ap, subst, ◌∙◌}
use Rattle.std.proofs.lemmas.List.{append-nil, map-append, take_all, take_more}
use Rattle.std.specs.Global.{Global}
use Rattle.lp_stack.specs.declared.number.GroupId.{GroupId}
use Rattle.lp_model.specs.declared.verdict.Verdict.{Verdict}
use Rattle.lp_definitions.specs.Events.{group_numbers}
use Rattle.lp_transition.proofs.RisingGroups.{AreInTurn, turn-none, turn-more, turn-all}
use Rattle.lp_transition.proofs.engine.scan.groups_in_turn.Goals as goal
use Rattle.lp_transition.proofs.engine.scan.groups_in_turn.Goals.{then-is_none+in_ok-push, else-is_none}

pub loop-verdict-init : goal.loop-verdict-init
loop-verdict-init c = turn-none c.args.tasks.now _ c.new-groups.ensures.items

pub loop-verdict-preserved : goal.loop-verdict-preserved
loop-verdict-preserved c =
    let i = c.loop-verdict.verdict-index in
    let table = c.args.tasks.now in
    let vs = c.args.verdicts.now in
    let v : Verdict = get_or vs i (record { task = record { 0 = 0 }; blame = None }) in
    let group = c.in-Some.group in
    let groups = c.loop-verdict.groups.items in
    let next = turn-more table (take i vs) v group.0 c.in-Some.ensures.member (take (i + 1) vs) c.loop-verdict.from (group_numbers groups) in
    rw c.from-from.ensures (elim c.if-is_none.branch [
      | then-is_none+in_ok-push w ↦
          next _ true c.loop-verdict.invariant c.in-Some.ensures.later (take_more vs i _ c.loop-verdict-test.true) (c.is_none.ensures ∙ ap not w.if-is_none.true)
          (ap (λ (list : Vec GroupId Global). group_numbers list.items) w.groups-is ∙ ap group_numbers w.in_ok-push.ensures.items ∙ map-append (λ (g : GroupId). g.0) groups (group ∷ []))
      | else-is_none w ↦
          next _ false c.loop-verdict.invariant c.in-Some.ensures.later (take_more vs i _ c.loop-verdict-test.true) (c.is_none.ensures ∙ ap not w.if-is_none.false)
          (ap (λ (list : Vec GroupId Global). group_numbers list.items) w.groups-is ∙ sym (append-nil (group_numbers groups)))
    ])

pub returns : goal.returns
returns c =
    let vs = c.args.verdicts.now in
    turn-all c.args.tasks.now vs c.loop-verdict.from _ (subst (λ ws. AreInTurn c.args.tasks.now ws c.loop-verdict.from (group_numbers c.loop-verdict.groups.items)) (take_all c.loop-verdict.verdict-index vs c.loop-verdict-test.false) c.loop-verdict.invariant)
