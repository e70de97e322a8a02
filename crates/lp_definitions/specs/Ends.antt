-- How the legs of a run ended, with their certificates.
use Rattle.std.specs.Prelude.{ℕ, ◌+◌, List, Option}
use Rattle.std.specs.Option.{option_map}
use Rattle.lp_stack.specs.declared.number.Level.{Level}
use Rattle.lp_model.specs.Rules.{Rules}
use Rattle.lp_definitions.specs.declared.cert.Cert.{Cert}
use Rattle.lp_definitions.specs.Leg.{Leg}
use Rattle.lp_definitions.specs.Certificates.{completion, certs_of}

-- how a leg ended: the event that opened it, the level to which it took the tasks, the event from which on no task was
-- off the target, if there was one, and its certificates
pub record LegEnd : Type 0 where
  pub opened : ℕ
  pub target : Level
  pub completed : Option ℕ
  pub certs : List Cert

-- the end of a leg
abbrev pub end_of : Rules → Leg → LegEnd
end_of model leg =
    record {
      opened = leg.number;
      target = record { 0 = leg.target };
      completed = option_map (λ k. leg.number + k) (completion model leg);
      certs = certs_of model leg;
    }
