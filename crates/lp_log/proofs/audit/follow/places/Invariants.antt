use Rattle.lp_log.specs.inside.Cursors.{ArePlaces}
use Rattle.lp_log.proofs.audit.follow.places.Given as goal

-- the places of the seats so far
abbrev pub invariant-loop-place : goal.invariant-loop-place
invariant-loop-place l = ArePlaces l.seats l.place l.places.items
