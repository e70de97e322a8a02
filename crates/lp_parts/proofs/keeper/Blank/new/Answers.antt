use Rattle.std.proofs.Common.{[], ◌∷◌, rules}
use Rattle.lp_parts.proofs.Moves.{begins}
use Rattle.lp_parts.proofs.keeper.Blank.new.Goals as goal

pub ruled-requires : goal.ruled-requires
ruled-requires g c = (search rules, (search rules, begins g.P.Keying.key (0 ∷ [])))
