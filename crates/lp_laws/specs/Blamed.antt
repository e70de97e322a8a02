-- The blame that a hold of a certificate begins with.
use Rattle.std.specs.Prelude.{Bool, false, ◌&&◌, nat_le}
use Rattle.lp_model.specs.Rules.{Rules}
use Rattle.lp_definitions.specs.Leg.{Leg}
use Rattle.lp_definitions.specs.declared.line.Line.{Line}
use Rattle.lp_definitions.specs.declared.line.Line.TheVariants.{Hold, Busy, Born}
use Rattle.lp_definitions.specs.Judgement.{Section, blame_at, is_held_by, lies_in, moment_of}

module _ (model : Rules) (leg : Leg) (section : Section) where
  -- a hold lies in the section's time, and its frame is blamed at its first event
  abbrev pub is_blamed : Line → Bool
  is_blamed (Hold group t serial from to) =
      let begin = moment_of model leg from in
      (nat_le from to && (lies_in section begin && lies_in section (moment_of model leg to)))
      && is_held_by serial (blame_at model leg section.group begin t.0)
  is_blamed (Busy group t at) = false
  is_blamed (Born group parent at) = false
