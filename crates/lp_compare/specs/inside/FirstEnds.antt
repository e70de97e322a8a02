-- What is kept of the end of a trace's first leg.
use Rattle.std.specs.Prelude.{◌<◌, ◌^◌, All, Option, Some, None, map}
use Rattle.lp_models.specs.declared.name.ModelName.{ModelName}
use Rattle.lp_definitions.specs.Ends.{LegEnd}
use Rattle.lp_compare.specs.declared.comparison.Row.{Row}
use Rattle.lp_compare.specs.declared.first_end.FirstEnd.{FirstEnd}
use Rattle.lp_compare.specs.Comparison.{waiting_by, births_in, greatest}

-- what is kept of an end
abbrev pub kept_end : LegEnd → FirstEnd
kept_end end =
    record {
      opened = end.opened;
      complete = end.completed;
      waiting = waiting_by end.completed end.certs;
      births = greatest (map births_in end.certs);
    }

-- the row that it gives
abbrev pub row_with : ModelName → Option FirstEnd → Row
row_with model None = record { model = model; complete = None; waiting = 0; births = 0 }
row_with model (Some end) =
    record { model = model; complete = end.complete; waiting = end.waiting; births = end.births }

-- each certificate has so few births that they can be counted
abbrev pub FewBirths : LegEnd → Type 0
FewBirths end = All (λ cert. births_in cert < 2 ^ 64) end.certs
