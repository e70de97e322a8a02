use Rattle.lp_trace.specs.inside.Rests.{AreRests}
use Rattle.lp_trace.proofs.report.events.rests.Given as goal

-- the table is right as far as it is filled
abbrev pub invariant-loop-code : goal.invariant-loop-code
invariant-loop-code l = AreRests l.form l.code l.rests
