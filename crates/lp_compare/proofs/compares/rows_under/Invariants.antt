use Rattle.std.proofs.Common.{◌≡◌, map, take}
use Rattle.lp_models.specs.Models.{rules_named}
use Rattle.lp_compare.specs.Comparison.{first_end, row_of}
use Rattle.lp_compare.proofs.compares.rows_under.Given as goal

abbrev pub invariant-loop-model : goal.invariant-loop-model
invariant-loop-model l = l.rows.items ≡ map (λ model. row_of model (first_end (rules_named model) l.trace)) (take l.model-index l.models)
