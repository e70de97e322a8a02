use Rattle.std.proofs.Common.{◌≡◌, Bool, true, false, Option, Some, IfSome, ap, subst, true≢false}
use Rattle.lp_log.specs.declared.seat.TurnedBy.{TurnedBy}
use Rattle.lp_log.specs.declared.seat.TurnedBy.TheVariants.{NotYours, JournalFull, NoMemory}
use Rattle.lp_desk.proofs.desk.Desk.judged.Goals as goal

-- what holds where there is something, where there is
where_some : {A P : Type 0} (given : Option A) (it : A) → given ≡ Some it → IfSome given (λ _. P) → P
where_some {A} {P} given it is so = subst (λ (o : Option A). IfSome o (λ _. P)) is so

abbrev is_memory : TurnedBy → Bool
is_memory NotYours = false
is_memory JournalFull = false
is_memory NoMemory = true

pub returns-in-Ok-clause-walk : goal.returns-in-Ok-clause-walk
returns-in-Ok-clause-walk g c = where_some _ c.in-Some.batch c.in-Some.is c.in_ok-batch.ensures.walk

pub returns-in-Err-clause-yours : goal.returns-in-Err-clause-yours
returns-in-Err-clause-yours g c = (
  where_some _ c.in-Some.batch c.in-Some.is c.in_ok-batch.ensures.walk,
  λ same. true≢false (ap is_memory same),
)
