-- Ends of legs as they are kept.
use Rattle.std.specs.Prelude.{ℕ, ◌+◌, ◌<◌, ◌≤◌, Bool, true, false, List, [], drop, take, Option, Some, None, slice_index_or, All, IfSome}
use Rattle.lp_stack.specs.declared.number.GroupId.{GroupId}
use Rattle.lp_definitions.specs.Ends.{LegEnd}
use Rattle.lp_cert.specs.declared.leg_rows.LegRow.{LegRow}
use Rattle.lp_cert.specs.declared.open_leg.OpenLeg.{OpenLeg}
use Rattle.lp_cert.specs.declared.leg_rows.RowKind.{RowKind}
use Rattle.lp_cert.specs.declared.leg_rows.RowKind.TheVariants.{Waiting, Complete, Other}
use Rattle.lp_cert.specs.CommonHeads.{head_after}
use Rattle.lp_cert.specs.inside.Bare.{bare_certs}

abbrev pub completed_in : RowKind → (at : ℕ) → Option ℕ
completed_in Complete at = Some at
completed_in _ at = None

-- the leg of a row
abbrev pub leg_of : LegRow → OpenLeg
leg_of row = record { opened = row.opened; target = row.target; completed = completed_in row.kind row.at }

abbrev pub is_other : RowKind → Bool
is_other Other = true
is_other _ = false

-- how the row of a leg tells when it was complete, if it is, after so many events
abbrev pub kind_of : Option ℕ → RowKind
kind_of None = Waiting
kind_of (Some at) = Complete

abbrev pub at_of : ℕ → Option ℕ → ℕ
at_of noted None = noted
at_of noted (Some at) = at

-- the end of a leg whose certificates have no line, with their groups
abbrev pub bare_end : LegRow → List GroupId → LegEnd
bare_end row groups =
    let leg = leg_of row in
    record {
      opened = leg.opened;
      target = leg.target;
      completed = leg.completed;
      certs = bare_certs (head_after row.at leg) groups;
    }

-- the end of a leg, of which only the kind is looked at
abbrev pub row_end_as : RowKind → List GroupId → List LegEnd → LegRow → LegEnd
row_end_as Other groups others row = slice_index_or others row.start (bare_end row [])
row_end_as _ groups others row = bare_end row (take row.count (drop row.start groups))

-- the end of a leg, over the groups of all and the ends that are kept whole
abbrev pub row_end : List GroupId → List LegEnd → LegRow → LegEnd
row_end groups others row = row_end_as row.kind groups others row

-- what a row points at is there, among so many groups and ends that are kept whole
abbrev pub IsFittingAs : RowKind → (groups others : ℕ) → LegRow → Type 0
IsFittingAs Other groups others row = row.start < others
IsFittingAs _ groups others row = row.start + row.count ≤ groups

abbrev pub IsFitting : (groups others : ℕ) → LegRow → Type 0
IsFitting groups others row = IsFittingAs row.kind groups others row

-- the row of a leg after so many events
abbrev pub row_after : ℕ → OpenLeg → (start count : ℕ) → LegRow
row_after noted leg start count =
    record { opened = leg.opened; at = at_of noted leg.completed; start = start; count = count; target = leg.target; kind = kind_of leg.completed }

-- ends of legs, and one that is ready to be put after them
pub record KeptEnds : Type 0 where
  pub ends : List LegEnd
  pub closing : Option LegEnd

-- what each row points at is there, and so it is of the one that is ready, for which there is room
pub record AreFitting (groups others room : ℕ) (rows : List LegRow) (closing : Option LegRow) : Type 0 where
  pub each : All (IsFitting groups others) rows
  pub next : IfSome closing (IsFitting groups others)
  pub has_room : IfSome closing (λ row. 0 < room)
