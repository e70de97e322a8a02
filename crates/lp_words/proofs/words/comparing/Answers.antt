-- The comparison's subcommand is the definition's.
use Rattle.std.proofs.Common.{rules, ap, ap₂, refl, ◌≡◌, ◌∙◌}
use Rattle.std.proofs.lemmas.Result.{IfOk-weaker}
use Rattle.clap.specs.Words.{App, app_of, rule_of, with_rule, with_subcommand}
use Rattle.lp_words.specs.Asked.{comparing, json_rule}
use Rattle.lp_words.proofs.words.comparing.Goals as goal

pub returns : goal.returns
returns c =
    let json_is : rule_of c.action-json.result ≡ json_rule = search (rules, c.action-json.ensures, c.long.ensures, c.new.ensures.rule, c.new.ensures.optional) in
    IfOk-weaker c.arg.result _ _
    (λ command added. λ old new adds.
    let is : app_of command ≡ comparing = added.shape (search (rules, c.action-json.ensures, c.long.ensures, c.new.ensures.rule, c.new.ensures.optional)) ∙ ap₂ with_rule c.new-2.ensures.app json_is in
    adds.shape (search (rules, added.globals, c.new-2.ensures.local, c.action-json.ensures, c.long.ensures, c.new.ensures.optional)) ∙ ap (λ (a : App). with_subcommand (app_of old) a.top) is)
    c.arg.ensures
