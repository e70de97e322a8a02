use Rattle.std.proofs.Common.{[], refl, ap, sym, ◌∙◌, subst}
use Rattle.lp_machine.specs.Table.{bounds_of, state_in}
use Rattle.lp_machine.specs.Steps.{StandsIn}
use Rattle.lp_patch.specs.Patches.{Patches}
use Rattle.lp_board.specs.declared.sheet.Heading.{Heading}
use Rattle.lp_board.specs.declared.sheet.Page.{Page}
use Rattle.lp_board.proofs.BlankLemmas.{page-of}
use Rattle.lp_board.proofs.blank.Blank.of.Goals as goal

pub invariant_of-result : goal.invariant_of-result
invariant_of-result g c =
    let core = c.args.core in
    let kept = c.args.kept in
    let heading : Heading = record { in_transition = c.in_transition.result; lower = record { 0 = 0 } } in
    record {
      patches_are = c.requires.patches;
      stands = subst (λ (p : Patches). StandsIn g.M.Consistency.rules (record { bounds = bounds_of p; patches = p; boots = kept.boots.items; events = [] }) (state_in core)) (sym c.requires.patches) c.requires.stands;
      first_is = page-of core kept.first heading [] c.requires.levels.0 c.in_transition.ensures (rw (c.requires.opening.0, c.requires.opening.1) refl);
      second_is = ap (λ ls. let p : Page = record { levels = ls; heading = heading; events = [] } in p) (c.requires.levels.1 ∙ sym c.requires.levels.0);
      first_events = refl;
      no_events = c.open-seen.ensures.1;
      head_is = rw (c.tracked.ensures.0, c.open-seen.ensures.4, c.open-seen.ensures.2) refl;
      crew = c.requires.crew;
    }
