use Rattle.std.proofs.Common.{◌≡◌, length, take}
use Rattle.lp_threads.specs.inside.Dealt.{IsDealt}
use Rattle.lp_threads.proofs.scripts.Scripts.deal.Given as goal

-- the events so far are dealt out
abbrev pub invariant-loop-event : goal.invariant-loop-event
invariant-loop-event g l = (length l.tasks.items ≡ 65536) × IsDealt (take l.event-index l.events) l.tasks.items l.control.items
