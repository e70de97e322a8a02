-- What is kept of a run so far, and when it is that of the run.
use Rattle.std.specs.Prelude.{◌≡◌, List, ◌++◌, Option, option_to_list, slice_get}
use Rattle.lp_model.specs.Rules.{Rules}
use Rattle.lp_definitions.specs.declared.reply.Reply.{Reply}
use Rattle.lp_definitions.specs.Run.{Run, first_leg, replies}
use Rattle.lp_stays.specs.Invariant.{Tally}
use Rattle.lp_stays.specs.Counts.{Counts}
use Rattle.lp_definitions.specs.Ends.{LegEnd}
use Rattle.lp_cert.specs.Ends.{Made}
use Rattle.lp_cert.specs.Explained.{Explained, IsExplained}

-- ---- What is kept of a run

-- the engine with what is made of its legs, and what the run came to beside
pub record Recorded : Type 0 where
  pub explained : Explained
  pub replies : List Reply
  pub stays : Tally

-- the end of the first leg, as far as it was made
abbrev pub first_made : Made → Option LegEnd
first_made made = slice_get (made.ended ++ option_to_list made.current) 0

-- ---- When it is that of the run

module _ (model : Rules) where
  -- what is kept is that of the run
  pub record IsRecorded (run : Run) (kept : Recorded) : Type 0 where
    pub explained : IsExplained model run kept.explained
    pub replied : kept.replies ≡ replies model (first_leg model run) run.events
    pub counts : Counts model run kept.stays
