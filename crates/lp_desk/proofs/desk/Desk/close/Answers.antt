use Rattle.std.proofs.Common.{List, subst}
use Rattle.lp_log.specs.Audits.{AllBelong, IsClosed, IsFirstCause}
use Rattle.lp_log.specs.Seats.{Seated}
use Rattle.lp_desk.proofs.desk.Desk.close.Goals as goal

pub returns-in-Ok-clause-belong : goal.returns-in-Ok-clause-belong
returns-in-Ok-clause-belong g c = subst (λ (seats : List Seated). AllBelong c.shut-closed.result.journal.entries seats) c.as_slice.ensures.value c.in-Ok.ensures.belong

pub returns-in-Ok-clause-closed : goal.returns-in-Ok-clause-closed
returns-in-Ok-clause-closed g c = subst (λ (seats : List Seated). IsClosed c.shut-closed.result.journal seats c.args.control) c.as_slice.ensures.value c.in-Ok.ensures.closed

pub returns-in-Err-clause-cause : goal.returns-in-Err-clause-cause
returns-in-Err-clause-cause g c = subst (λ (seats : List Seated). IsFirstCause c.shut-closed.result.journal seats c.args.control c.in-Err.cause) c.as_slice.ensures.value c.in-Err.ensures.cause
