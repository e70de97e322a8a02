use Rattle.std.proofs.Common.{◌≤◌, inl, inr, None, length, sym, ◌∙◌, arith, rules}
use Rattle.std.proofs.lemmas.Bool.{cases_lt}
use Rattle.std.proofs.lemmas.List.{get_or_past}
use Rattle.lp_tasks.proofs.AscendingLemmas.{members-any}
use Rattle.lp_transition.proofs.engine.blames.clear_members.Goals as goal

pub loop-number-init : goal.loop-number-init
loop-number-init c = record {
  count = c.requires.count;
  none = λ group out.
      elim (cases_lt group 65536) [
        | inl low ↦ c.requires.others group (sym (members-any c.args.groups.now _ c.into_iter-number-iterator.ensures.into_iter_gives group low) ∙ out)
        | inr past ↦ let short : length c.args.of_group.now ≤ group = omega arith in get_or_past c.args.of_group.now group None short
      ];
}

pub loop-number-preserved : goal.loop-number-preserved
loop-number-preserved c = search rules
