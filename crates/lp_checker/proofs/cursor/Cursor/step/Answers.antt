use Rattle.std.proofs.Common.{◌<◌, add-one, sym, subst, arith}
use Rattle.std.proofs.lemmas.Grind.{common_steps}
use Rattle.std.proofs.lemmas.Option.{slice_get-get_or}
use Rattle.lp_checker.specs.declared.fold.Fold.{Fold}
use Rattle.lp_checker.specs.inside.Folds.{IsAt}
use Rattle.lp_checker.proofs.Stepping.{stays, told, one_on}
use Rattle.lp_checker.proofs.cursor.Cursor.step.Goals as goal

pub invariant_of-self : goal.invariant_of-self
invariant_of-self g c =
    let model = g.M.Consistency.rules in
    let own = c.self.inside in
    let old = c.deref_mut.result.now in
    let at : IsAt model own.opening.now own.events.now own.moment old = subst (λ (fold : Fold). IsAt model own.opening.now own.events.now own.moment fold) (sym c.deref_mut.ensures.value) c.self.invariant.at in
    let kept = c.in_err-accepted.ensures in
    record {
      at = stays model g.met.M.Consistency.lawful own.opening.now own.events.now own.moment old c.step.new.self at kept.no_number c.step.ensures.target c.step.ensures.patches kept.no_tasks;
      event = c.self.invariant.event;
      reached = c.self.invariant.reached;
      within = c.self.invariant.within;
      room = c.self.invariant.room;
    }

pub invariant_of-self-2 : goal.invariant_of-self-2
invariant_of-self-2 g c =
    let model = g.M.Consistency.rules in
    let lawful = g.met.M.Consistency.lawful in
    let own = c.self.inside in
    let old = c.deref_mut.result.now in
    let at : IsAt model own.opening.now own.events.now own.moment old = subst (λ (fold : Fold). IsAt model own.opening.now own.events.now own.moment fold) (sym c.deref_mut.ensures.value) c.self.invariant.at in
    let more : own.moment < own.end = rw (← c.self.view_is) at c.requires in
    let comes = slice_get-get_or own.events.now own.moment _ (omega (arith, more, c.self.invariant.within)) in
    let made = c.in_ok-accepted.ensures in
    rw add-one (record {
      at = one_on model lawful own.opening.now own.events.now own.moment old _ at comes c.step.new.self made.number c.step.ensures.target c.step.ensures.patches made.tasks;
      event = λ later. told model lawful own.opening.now own.events.now own.moment old _ at comes c.in_ok-accepted.accepted made.accepted;
      reached = omega (arith, more);
      within = c.self.invariant.within;
      room = c.self.invariant.room;
    })

pub returns-clause-moment : goal.returns-clause-moment
returns-clause-moment g c = grind (arith, common_steps)
