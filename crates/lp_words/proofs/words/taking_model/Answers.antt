-- The subcommand is the definition's.
use Rattle.std.proofs.Common.{rules, ap, ap₂, refl, ◌≡◌, ◌∙◌}
use Rattle.std.proofs.lemmas.Result.{IfOk-weaker}
use Rattle.clap.specs.Words.{App, app_of, rule_of, with_rule, with_subcommand}
use Rattle.lp_words.specs.Asked.{model_rule, subcommand}
use Rattle.lp_words.proofs.words.taking_model.Goals as goal

pub returns : goal.returns
returns c =
    let model_is : rule_of c.action-model.result ≡ model_rule = search (rules, c.action-model.ensures, c.required.ensures, c.new.ensures.rule, c.new.ensures.optional) in
    IfOk-weaker c.arg.result _ _
    (λ command added. λ old new adds.
    let is : app_of command ≡ subcommand c.args.name.now = added.shape (search (rules, c.action-model.ensures, c.required.ensures, c.new.ensures.rule, c.new.ensures.optional)) ∙ ap₂ with_rule c.new-2.ensures.app model_is in
    adds.shape (search (rules, added.globals, c.new-2.ensures.local, c.action-model.ensures, c.required.ensures, c.new.ensures.optional)) ∙ ap (λ (a : App). with_subcommand (app_of old) a.top) is)
    c.arg.ensures
