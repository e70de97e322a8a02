use Rattle.lp_text.proofs.Cuts.{parts-some, parts-none}
use Rattle.lp_text.proofs.split.cut_word.Goals as goal

pub returns-in-Some-clause-parts : goal.returns-in-Some-clause-parts
returns-in-Some-clause-parts c =
    let h = c.in-Some.ensures in
    parts-some 32 c.args.line.now c.in-Some.end h.0.high h.0.before h.1

pub returns-in-None-clause-parts : goal.returns-in-None-clause-parts
returns-in-None-clause-parts c = parts-none 32 c.args.line.now c.in-None.ensures
