-- The reasons of a group as it waits: one that continues with the scans of the leg, in front of a list of others.
use Rattle.std.specs.Prelude.{ℕ, ◌-◌, List, [], ◌∷◌, ◌++◌, length, map, reverse, take, drop, slice_index, slice_index_or, nat_lt, if◌then◌else◌}
use Rattle.std.specs.List.{flat_map}
use Rattle.lp_stack.specs.declared.number.GroupId.{GroupId}
use Rattle.lp_stack.specs.declared.number.TaskId.{TaskId}
use Rattle.lp_definitions.specs.declared.line.Line.{Line}
use Rattle.lp_definitions.specs.declared.line.Line.TheVariants as line
use Rattle.lp_cert.specs.declared.reason.Reason.{Reason}
use Rattle.lp_cert.specs.declared.reason.Reason.TheVariants as reason
use Rattle.lp_cert.specs.declared.ongoing.Checked.{Checked}
use Rattle.lp_cert.specs.declared.ongoing.Ongoing.{Ongoing}
use Rattle.lp_cert.specs.declared.ongoing.Ongoing.TheVariants.{Nothing, Hold, Busy}
use Rattle.lp_cert.specs.declared.head.Head.{Head}

-- ---- Lines, the newest in front. Scans are those of the leg, by their events in order

abbrev pub busy_lines : GroupId → TaskId → List ℕ → List Line
busy_lines group task scans = map (λ at. line.Busy group task at) (reverse scans)

abbrev pub reason_lines : List ℕ → Reason → List Line
reason_lines scans (reason.One line) = line ∷ []
reason_lines scans (reason.Busy group task first end) = busy_lines group task (drop first (take end scans))

unfoldable pub lines_of : List ℕ → List Reason → List Line
lines_of scans reasons = flat_map (reason_lines scans) reasons

-- the last check of a hold: the last scan, where one came after the check that is told
abbrev pub hold_end : List ℕ → Checked → ℕ
hold_end scans last = if nat_lt last.scans (length scans) then slice_index scans (length scans - 1) else last.at

-- what continues, as it stands: a hold up to the last check, a member that is busy at each scan from a place on, where there is one
abbrev pub ongoing_reasons : List ℕ → GroupId → Ongoing → List Reason
ongoing_reasons scans group Nothing = []
ongoing_reasons scans group (Hold task serial from last) = reason.One (line.Hold group task serial from (hold_end scans last)) ∷ []
ongoing_reasons scans group (Busy task first) = if nat_lt first (length scans) then reason.Busy group task first (length scans) ∷ [] else []

abbrev pub head_lines : List (List Reason) → List ℕ → GroupId → Head → List Line
head_lines lists scans group head =
    lines_of scans (ongoing_reasons scans group head.ongoing ++ slice_index_or lists head.older.0 [])
