use Rattle.std.proofs.Common.{◌≡◌, take}
use Rattle.lp_log.specs.Journals.{events_in}
use Rattle.lp_rows.proofs.in_order.has_events.Given as goal

-- the events so far are these
abbrev pub invariant-loop-place : goal.invariant-loop-place
invariant-loop-place l = events_in (take l.place l.entries) ≡ take l.place l.events
