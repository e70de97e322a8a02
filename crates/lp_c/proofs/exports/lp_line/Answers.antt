use Rattle.std.proofs.Common.{◌≡◌, ◌∙◌, Some, ap, slice_get}
use Rattle.lp_c.specs.Held.{Held, lines_in}
use Rattle.lp_c.proofs.exports.lp_line.Goals as goal

pub returns-clause-line : goal.returns-clause-line
returns-clause-line c = λ x is found there.
    let both : Some c.in-Some.session.value ≡ Some x = c.in-Some.ensures.taken ∙ is in
    let same : c.in-Some.session.value ≡ x = cc in
    c.tell_line-status.ensures.line found (ap (λ (h : Held). slice_get (lines_in h.cert) c.args.place) (c.deref.ensures ∙ same) ∙ there)
