use Rattle.std.proofs.Common.{◌≡◌, None, Some, sym, ◌∙◌}
use Rattle.lp_machine.specs.declared.standing_blame.StandingBlame.{StandingBlame}
use Rattle.lp_transition.proofs.BootLemmas.{ArePut, starts}
use Rattle.lp_transition.proofs.Unchanged.{core_starts}
use Rattle.lp_transition.specs.inside.Invariant.{told_scan}
use Rattle.lp_transition.proofs.engine.Core.without_fault.Goals as goal

pub invariant_of-result : goal.invariant_of-result
invariant_of-result g c =
    let made = c.put_all.ensures in
    let put : ArePut g.M.Consistency.rules c.args.tasks.now c.put_all.new.tasks = record { wide = made.wide; live = made.live; in_range = made.in_range } in
    record {
      core =
          core_starts g.M.Consistency.rules _ c.in_ok-new.field-0 c.in_ok-new-2.field-0
          (starts g.M.Consistency.rules g.met.M.Consistency.lawful c.args.patches c.args.tasks.now c.put_all.new.tasks c.in_ok-new-3.field-0 (told_scan c.in_ok-new-2.field-0) c.in_ok-new.field-0 put c.in_ok-new.ensures.empty c.in_ok-new.ensures.numbers).kept
          c.in_ok-new-2.ensures;
      groups = c.in_ok-new-3.ensures.groups;
      blamed = λ group b there. absurd (none_some b (sym (c.in_ok-new-3.ensures.none group) ∙ there));
    }
  where
    none_some : (b : StandingBlame) → None ≡ Some b → ⊥
    none_some b e = absurd (cc)

pub returns-clause-started : goal.returns-clause-started
returns-clause-started g c =
    let made = c.put_all.ensures in
    let put : ArePut g.M.Consistency.rules c.args.tasks.now c.put_all.new.tasks = record { wide = made.wide; live = made.live; in_range = made.in_range } in
    (starts g.M.Consistency.rules g.met.M.Consistency.lawful c.args.patches c.args.tasks.now c.put_all.new.tasks c.in_ok-new-3.field-0 (told_scan c.in_ok-new-2.field-0) c.in_ok-new.field-0 put c.in_ok-new.ensures.empty c.in_ok-new.ensures.numbers).state

pub returns-clause-stands : goal.returns-clause-stands
returns-clause-stands g c =
    let made = c.put_all.ensures in
    let put : ArePut g.M.Consistency.rules c.args.tasks.now c.put_all.new.tasks = record { wide = made.wide; live = made.live; in_range = made.in_range } in
    (starts g.M.Consistency.rules g.met.M.Consistency.lawful c.args.patches c.args.tasks.now c.put_all.new.tasks c.in_ok-new-3.field-0 (told_scan c.in_ok-new-2.field-0) c.in_ok-new.field-0 put c.in_ok-new.ensures.empty c.in_ok-new.ensures.numbers).stands
