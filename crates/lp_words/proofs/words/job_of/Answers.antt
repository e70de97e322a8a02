use Rattle.std.proofs.Common.{◌∙◌, ap, map, sym, subst}
use Rattle.std.proofs.lemmas.Result.{IfErr-weaker, IfOk-weaker}
use Rattle.clap.specs.Words.{app_of, kind_of}
use Rattle.clap.proofs.TakesLemmas.{passed_up}
use Rattle.lp_words.specs.declared.words.WordsFault.TheVariants.{NoMemory}
use Rattle.lp_words.specs.Asked.{asked_in}
use Rattle.lp_words.specs.inside.WordsFaults.{NamesNoJob}
use Rattle.lp_words.proofs.Matched.{asks_nothing, refused, refused_asks_nothing, taken}
use Rattle.lp_words.proofs.words.job_of.Goals as goal

pub returns-in-Ok-clause-job : goal.returns-in-Ok-clause-job
returns-in-Ok-clause-job g c =
    let given = map g.S.AsStr.text c.args.words.now in
    let matched = taken (app_of c.in_ok-command.field-0) given c.in-Ok.matches c.in_ok-command.ensures c.in-Ok.ensures.kinds c.in-Ok.ensures.matches in
    IfOk-weaker c.job_in.result _ _ (λ job h. (matched.0, ap asked_in (sym matched.1) ∙ h)) c.job_in.ensures.job

pub returns-in-Ok-clause-fault : goal.returns-in-Ok-clause-fault
returns-in-Ok-clause-fault g c =
    let given = map g.S.AsStr.text c.args.words.now in
    let matched = taken (app_of c.in_ok-command.field-0) given c.in-Ok.matches c.in_ok-command.ensures c.in-Ok.ensures.kinds c.in-Ok.ensures.matches in
    IfErr-weaker c.job_in.result _ _ (λ fault h.
    asks_nothing given fault matched.0 (subst (λ found. NamesNoJob (asked_in found) fault) matched.1 h)) c.job_in.ensures.fault

pub returns-in-Err-clause-fault : goal.returns-in-Err-clause-fault
returns-in-Err-clause-fault g c =
    let given = map g.S.AsStr.text c.args.words.now in
    refused_asks_nothing given (kind_of c.in-Err.error) c.refused.result
    (refused (app_of c.in_ok-command.field-0) given (kind_of c.in-Err.error) c.in_ok-command.ensures c.in-Err.ensures.kinds)
    c.refused.ensures

pub returns-in_err-command-clause-fault : goal.returns-in_err-command-clause-fault
returns-in_err-command-clause-fault g c = passed_up c.from_residual.result NoMemory _ c.from_residual.ensures.1 tt
