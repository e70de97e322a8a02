use Rattle.std.proofs.Common.{◌∙◌, ap, ap₂, codes, inl, inr, sym, Some}
use Rattle.clap.proofs.TakesLemmas.{passed_up}
use Rattle.lp_words.specs.Asked.{argument_of}
use Rattle.lp_words.proofs.Matched.{asked_of, no_flag_of, no_job_of}
use Rattle.lp_words.proofs.words.job_in.Goals as goal

pub returns-in_ok-model_of-in-Some-run-default-clause-job :
    goal.returns-in_ok-model_of-in-Some-run-default-clause-job
returns-in_ok-model_of-in-Some-run-default-clause-job c =
    let found = c.in-Some-run-default in
    asked_of c.args.matches.now found.run'.now _ (codes "MODEL") (ap argument_of found.is-run) (sym found.ensures.name) (sym found.ensures.rows)
    ∙ ap₂ (λ name model. Some (name, model)) found.is-run c.in_ok-model_of-in-Some-run-default.ensures.model

pub returns-in_ok-model_of-in-Some-check-default-clause-job :
    goal.returns-in_ok-model_of-in-Some-check-default-clause-job
returns-in_ok-model_of-in-Some-check-default-clause-job c =
    let found = c.in-Some-check-default in
    asked_of c.args.matches.now found.check.now _ (codes "MODEL") (ap argument_of found.is-check) (sym found.ensures.name) (sym found.ensures.rows)
    ∙ ap₂ (λ name model. Some (name, model)) found.is-check c.in_ok-model_of-in-Some-check-default.ensures.model

pub returns-in_err-model_of-in-Some-run-default-clause-fault :
    goal.returns-in_err-model_of-in-Some-run-default-clause-fault
returns-in_err-model_of-in-Some-run-default-clause-fault c =
    let found = c.in-Some-run-default in
    let fault = c.in_err-model_of-in-Some-run-default in
    passed_up c.from_residual.result fault.field-0.0 _ c.from_residual.ensures.1
    (no_job_of _ _ _ _ (inl found.is-run) (asked_of c.args.matches.now found.run'.now _ (codes "MODEL") (ap argument_of found.is-run) (sym found.ensures.name) (sym found.ensures.rows)) fault.ensures.fault)

pub returns-in_err-model_of-in-Some-check-default-clause-fault :
    goal.returns-in_err-model_of-in-Some-check-default-clause-fault
returns-in_err-model_of-in-Some-check-default-clause-fault c =
    let found = c.in-Some-check-default in
    let fault = c.in_err-model_of-in-Some-check-default in
    let returned = c.from_residual-in_err-model_of-in-Some-check-default in
    passed_up returned.result fault.field-0.0 _ returned.ensures.1
    (no_job_of _ _ _ _ (inr (inl found.is-check)) (asked_of c.args.matches.now found.check.now _ (codes "MODEL") (ap argument_of found.is-check) (sym found.ensures.name) (sym found.ensures.rows)) fault.ensures.fault)

pub returns-in_ok-model_of-in-Some-threads-default-clause-job :
    goal.returns-in_ok-model_of-in-Some-threads-default-clause-job
returns-in_ok-model_of-in-Some-threads-default-clause-job c =
    let found = c.in-Some-threads-default in
    asked_of c.args.matches.now found.threads.now _ (codes "MODEL") (ap argument_of found.is-threads) (sym found.ensures.name) (sym found.ensures.rows)
    ∙ ap₂ (λ name model. Some (name, model)) found.is-threads c.in_ok-model_of-in-Some-threads-default.ensures.model

pub returns-in_err-model_of-in-Some-threads-default-clause-fault :
    goal.returns-in_err-model_of-in-Some-threads-default-clause-fault
returns-in_err-model_of-in-Some-threads-default-clause-fault c =
    let found = c.in-Some-threads-default in
    let fault = c.in_err-model_of-in-Some-threads-default in
    let returned = c.from_residual-in_err-model_of-in-Some-threads-default in
    passed_up returned.result fault.field-0.0 _ returned.ensures.1
    (no_job_of _ _ _ _ (inr (inr found.is-threads)) (asked_of c.args.matches.now found.threads.now _ (codes "MODEL") (ap argument_of found.is-threads) (sym found.ensures.name) (sym found.ensures.rows)) fault.ensures.fault)

pub returns-in_ok-flag_of-in-Some-compare-default-clause-job :
    goal.returns-in_ok-flag_of-in-Some-compare-default-clause-job
returns-in_ok-flag_of-in-Some-compare-default-clause-job c =
    let found = c.in-Some-compare-default in
    asked_of c.args.matches.now found.compare.now _ (codes "json") (ap argument_of found.is-compare) (sym found.ensures.name) (sym found.ensures.rows)
    ∙ ap₂ (λ name flag. Some (name, flag)) found.is-compare c.in_ok-flag_of-in-Some-compare-default.ensures.json

pub returns-in_err-flag_of-in-Some-compare-default-clause-fault :
    goal.returns-in_err-flag_of-in-Some-compare-default-clause-fault
returns-in_err-flag_of-in-Some-compare-default-clause-fault c =
    let found = c.in-Some-compare-default in
    let fault = c.in_err-flag_of-in-Some-compare-default in
    let returned = c.from_residual-in_err-flag_of-in-Some-compare-default in
    passed_up returned.result fault.field-0.0 _ returned.ensures.1
    (no_flag_of _ _ _ _ found.is-compare (asked_of c.args.matches.now found.compare.now _ (codes "json") (ap argument_of found.is-compare) (sym found.ensures.name) (sym found.ensures.rows)) fault.ensures.fault)
