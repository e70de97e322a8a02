use Rattle.std.proofs.Common.{◌∷◌, ◌≡◌, ◌+◌, ℕ, suc, drop, ap, ◌∙◌, arith}
use Rattle.std.proofs.lemmas.Grind.{common_steps}
use Rattle.lp_cert.specs.Ends.{end_in}
use Rattle.lp_cert.proofs.LegRows.{next_end}
use Rattle.lp_cert.proofs.leg_list.LegEndsIterator.next.Goals as goal

pub returns-clause-steps : goal.returns-clause-steps
returns-clause-steps c =
    let ends = c.args.self.now.rows.now.ends in
    let next : suc c.args.self.now.passed ≡ c.args.self.now.passed + 1 = omega arith in
    next_end ends c.args.self.now.passed (end_in c.end-end.result) c.end-end.ensures ∙ ap (λ (k : ℕ). end_in c.end-end.result ∷ drop k ends) next

pub returns-clause-goes : goal.returns-clause-goes
returns-clause-goes c = grind (arith, common_steps)
