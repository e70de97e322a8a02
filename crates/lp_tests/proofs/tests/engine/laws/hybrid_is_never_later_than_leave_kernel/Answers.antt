use Rattle.lp_tests.proofs.Order.{hybrid_over_leave_kernel}
use Rattle.lp_tests.proofs.tests.engine.laws.hybrid_is_never_later_than_leave_kernel.Goals as goal

pub returns-clause-permissive : goal.returns-clause-permissive
returns-clause-permissive c = hybrid_over_leave_kernel

pub returns-clause-never_later : goal.returns-clause-never_later
returns-clause-never_later c = record { completes = c.permissive_models_never_lose.ensures.completes hybrid_over_leave_kernel }
