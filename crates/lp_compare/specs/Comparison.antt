-- What the first transition of a trace comes to under each model.
use Rattle.std.specs.Prelude.{ℕ, Bool, true, false, max, List, [], ◌∷◌, map, length, Option, Some, None, slice_get, count_by}
use Rattle.std.specs.List.{position_from}
use Rattle.std.specs.Option.{option_map}
use Rattle.lp_model.specs.Rules.{Rules}
use Rattle.lp_models.specs.declared.name.ModelName.{ModelName}
use Rattle.lp_models.specs.declared.name.ModelName.TheVariants.{Hybrid}
use Rattle.lp_definitions.specs.declared.event.Event.{Event}
use Rattle.lp_definitions.specs.declared.event.Event.TheVariants.{Enable}
use Rattle.lp_definitions.specs.Run.{first_leg}
use Rattle.lp_definitions.specs.declared.cert.Cert.{Cert}
use Rattle.lp_definitions.specs.Ends.{LegEnd}
use Rattle.lp_definitions.specs.declared.line.Line.{Line}
use Rattle.lp_definitions.specs.declared.line.Line.TheVariants.{Born}
use Rattle.lp_text.specs.Traces.{TraceValue}
use Rattle.lp_definitions.specs.Outcome.{leg_ends}
use Rattle.lp_replay.specs.Outcome.{run_of}
use Rattle.lp_compare.specs.declared.comparison.Comparison.{Comparison}
use Rattle.lp_compare.specs.declared.comparison.Row.{Row}
use Rattle.lp_models.specs.Models.{models, rules_named}

-- how the first leg ended that a control event of a trace opened, if one did
abbrev pub first_end : Rules → TraceValue → Option LegEnd
first_end model trace = slice_get (leg_ends model (first_leg model (run_of trace)) trace.events) 0

-- how many births a certificate tells
abbrev pub is_born : Line → Bool
is_born (Born group parent at) = true
is_born _ = false

abbrev pub births_in : Cert → ℕ
births_in cert = count_by is_born cert.lines

-- the greatest of these numbers; 0 where there is none
abbrev pub greatest : List ℕ → ℕ
greatest [] = 0
greatest (number ∷ numbers) = max number (greatest numbers)

-- how many groups wait at the end of a leg: none where it completed, else each has its certificate
abbrev pub waiting_by : Option ℕ → List Cert → ℕ
waiting_by (Some event) certs = 0
waiting_by None certs = length certs

-- what a leg came to under a model
abbrev pub row_of : ModelName → Option LegEnd → Row
row_of model None = record { model = model; complete = None; waiting = 0; births = 0 }
row_of model (Some end) =
    record {
      model = model;
      complete = end.completed;
      waiting = waiting_by end.completed end.certs;
      births = greatest (map births_in end.certs);
    }

-- the number of the event that opened the leg
abbrev pub opening : Rules → TraceValue → Option ℕ
opening model trace = option_map (λ end. end.opened) (first_end model trace)

-- the number of the first `enable`. It is the event that opens a trace's first leg, under every model: before it all tasks are on
-- level 0, which is the target, so no `disable` or `reverse` is accepted
abbrev pub is_enable : Event → Bool
is_enable Enable = true
is_enable _ = false

abbrev pub first_enable : TraceValue → Option ℕ
first_enable trace = position_from is_enable 1 trace.events

-- what a trace's first leg came to under each model
unfoldable pub comparison : TraceValue → Comparison
comparison trace =
    record {
      leg = opening (rules_named Hybrid) trace;
      rows = map (λ model. row_of model (first_end (rules_named model) trace)) models;
    }
