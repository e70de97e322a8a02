use Rattle.lp_text.proofs.Cuts.{parts-some, parts-none, is_cut}
use Rattle.lp_text.proofs.split.cut.Goals as goal

pub returns-in-Some-clause-parts : goal.returns-in-Some-clause-parts
returns-in-Some-clause-parts c =
    let h = c.in-Some.ensures in
    parts-some c.args.byte c.args.text.now c.in-Some.end h.0.high h.0.before h.1

pub returns-in-Some-clause-cut : goal.returns-in-Some-clause-cut
returns-in-Some-clause-cut c =
    let h = c.in-Some.ensures in
    is_cut c.args.byte c.args.text.now c.in-Some.end h.0.high h.0.before h.1

pub returns-in-None-clause-parts : goal.returns-in-None-clause-parts
returns-in-None-clause-parts c = parts-none c.args.byte c.args.text.now c.in-None.ensures
