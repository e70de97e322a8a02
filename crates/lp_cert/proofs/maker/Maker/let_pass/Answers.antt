use Rattle.std.proofs.Common.{◌+◌, refl, sym, ap, ◌∙◌}
use Rattle.lp_cert.specs.Ends.{Made, made_upto}
use Rattle.lp_cert.proofs.Passed.{passed}
use Rattle.lp_cert.proofs.Upto.{open_upto}
use Rattle.lp_cert.proofs.maker.Maker.let_pass.Goals as goal

pub returns : goal.returns
returns g c = record {
  made = λ event plain run after stands is stands_after blamed known.
      let i = c.self.inside in
      let number = c.args.core.now.number in
      let kept = c.args.self.now in
      passed g.M.Consistency.rules g.met.M.Consistency.lawful run c.args.core.now stands event plain c.requires.room (made_upto number kept) (made_upto (number + 1) kept) is c.events.ensures.wide c.events.ensures.blamed after stands_after blamed known refl number (number + 1) i.waiters refl i.current
      (ap (λ (made : Made). (made_upto number made).current) (sym c.self.view_is) ∙ open_upto number i.noted i.waiters i.current)
      (ap (λ (made : Made). (made_upto (number + 1) made).current) (sym c.self.view_is) ∙ open_upto (number + 1) i.noted i.waiters i.current);
}
