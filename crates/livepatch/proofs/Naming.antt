-- What holds by the rules of a model holds by those of its name.
use Rattle.std.proofs.Common.{◌≡◌, subst}
use Rattle.lp_model.specs.Rules.{Rules}
use Rattle.lp_models.specs.Models.{rules_named}
use Rattle.livepatch.specs.Named.{NamedRun}
use Rattle.livepatch.specs.Simulated.{Simulated}

pub by_name : (P : Rules → Simulated → Type 0) (rules : Rules) (inside named : NamedRun) → rules ≡ rules_named inside.model → inside ≡ named → P rules inside.simulated → P (rules_named named.model) named.simulated
by_name P rules inside named is same holds =
    subst (λ (n : NamedRun). P (rules_named n.model) n.simulated) same (subst (λ (r : Rules). P r inside.simulated) is holds)
