use Rattle.std.proofs.Common.{[], ◌∷◌, ◌++◌, List, refl, sym, ap, append_assoc, ◌∙◌, arith}
use Rattle.std.proofs.lemmas.Grind.{common_steps}
use Rattle.std.proofs.lemmas.List.{append-nil}
use Rattle.lp_stack.specs.declared.number.GroupId.{GroupId}
use Rattle.lp_definitions.specs.Certificates.{group_id}
use Rattle.lp_cert.proofs.Listed.{all_listed, none_listed, one_listed}
use Rattle.lp_cert.proofs.waiters.append.Goals as goal

pub loop-number-init : goal.loop-number-init
loop-number-init c = record {
  more = [];
  longer = sym (append-nil c.args.list.now.items);
  all = none_listed group_id c.args.groups.now [] c.into_iter-number-iterator.result refl c.into_iter-number-iterator.ensures.into_iter_gives;
}

pub loop-number-preserved : goal.loop-number-preserved
loop-number-preserved c =
    let now = c.loop-number.invariant in
    let one = group_id c.in-Some.number in
    record {
      more = now.more ++ one ∷ [];
      longer = c.in_ok-push.ensures.items ∙ (ap (λ (l : List GroupId). l ++ one ∷ []) now.longer ∙ append_assoc c.args.list.now.items now.more (one ∷ []));
      all = one_listed group_id now.more (now.more ++ one ∷ []) _ c.in-Some.number c.loop-number.number-iterator c.next.new.self now.all refl c.in-Some.ensures.steps;
    }

pub returns-in_err-push : goal.returns-in_err-push
returns-in_err-push c = record {
  more = c.loop-number.invariant.more;
  longer = c.in_err-push.ensures.items ∙ c.loop-number.invariant.longer;
  done = grind (arith, common_steps);
}

pub returns : goal.returns
returns c = record {
  more = c.loop-number.invariant.more;
  longer = c.loop-number.invariant.longer;
  done = all_listed group_id c.loop-number.invariant.more _ c.loop-number.number-iterator c.loop-number.invariant.all c.in-None.ensures.steps.0;
}
