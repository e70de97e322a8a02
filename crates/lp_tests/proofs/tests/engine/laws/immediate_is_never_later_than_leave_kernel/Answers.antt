use Rattle.lp_tests.proofs.Order.{immediate_over_leave_kernel}
use Rattle.lp_tests.proofs.tests.engine.laws.immediate_is_never_later_than_leave_kernel.Goals as goal

pub returns-clause-permissive : goal.returns-clause-permissive
returns-clause-permissive c = immediate_over_leave_kernel

pub returns-clause-never_later : goal.returns-clause-never_later
returns-clause-never_later c = record { completes = c.permissive_models_never_lose.ensures.completes immediate_over_leave_kernel }
