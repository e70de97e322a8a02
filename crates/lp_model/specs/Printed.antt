-- What kinds of forks print as.
use Rattle.std.specs.Prelude.{ℕ, List, codes}
use Rattle.lp_model.specs.declared.check.ForkKind.{ForkKind}
use Rattle.lp_model.specs.declared.check.ForkKind.TheVariants.{Own, Share}

abbrev pub fork_kind_text : ForkKind → List ℕ
fork_kind_text Own = codes "own"
fork_kind_text Share = codes "share"
