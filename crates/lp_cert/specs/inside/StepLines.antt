-- How the lines of the groups that wait, as they are kept, come with an event.
use Rattle.std.specs.Prelude.{ℕ, suc, List, Option, Some, None, is_none, if◌then◌else◌}
use Rattle.lp_model.specs.Rules.{Rules}
use Rattle.lp_model.specs.declared.check.CheckKind.{CheckKind}
use Rattle.lp_model.specs.declared.verdict.Verdict.{Verdict}
use Rattle.lp_definitions.specs.declared.event.Event.{Event}
use Rattle.lp_transition.specs.inside.ScanSteps.{groups_of}
use Rattle.lp_machine.specs.Table.{Engine, state_in}
use Rattle.lp_transition.specs.Weigh.{Weighed, refusal_in}
use Rattle.lp_definitions.specs.declared.line.Line.{Line}
use Rattle.lp_transition.specs.LastScan.{used_scan}
use Rattle.lp_cert.specs.Waiters.{WaitingGroups}
use Rattle.lp_cert.specs.inside.Waiters.{after_switch, lines_at, own_lines, scanned_lines}

-- the lines of a group after an accepted event's own effect; of a scan, with what it found
abbrev pub noted_by : Rules → Engine → Option CheckKind → Event → List Verdict → WaitingGroups → (group : ℕ) → Option (List Line)
noted_by model e None event verdicts waiters group = own_lines model e event verdicts (lines_at waiters) group
noted_by model e (Some kind) event verdicts waiters group = scanned_lines (state_in e) (suc e.number) verdicts waiters group

abbrev pub noted_lines : Rules → Engine → Event → List Verdict → WaitingGroups → (group : ℕ) → Option (List Line)
noted_lines model e event verdicts waiters group = noted_by model e (used_scan model event) event verdicts waiters group

-- the lines of a group after an event that was answered so
abbrev pub stepped_lines : Rules → Engine → Weighed → WaitingGroups → (group : ℕ) → Option (List Line)
stepped_lines model e step waiters group =
    if is_none (refusal_in step.reply.what)
    then after_switch (groups_of step.reply.what) (noted_lines model e step.event step.verdicts waiters) group
    else lines_at waiters group
