use Rattle.std.proofs.Common.{rules, arith}
use Rattle.std.proofs.lemmas.Grind.{common_steps}
use Rattle.lp_program.proofs.runs.run.Goals as goal

pub returns-in-Hybrid-with_model-clause-report : goal.returns-in-Hybrid-with_model-clause-report
returns-in-Hybrid-with_model-clause-report g c = search rules

pub returns-in-Hybrid-with_model-clause-headline : goal.returns-in-Hybrid-with_model-clause-headline
returns-in-Hybrid-with_model-clause-headline g c = search rules

pub returns-in-Hybrid-with_model-clause-prefix : goal.returns-in-Hybrid-with_model-clause-prefix
returns-in-Hybrid-with_model-clause-prefix g c = search rules

pub returns-in-ProcessGroup-with_model-clause-report : goal.returns-in-ProcessGroup-with_model-clause-report
returns-in-ProcessGroup-with_model-clause-report g c = grind (arith, common_steps)

pub returns-in-ProcessGroup-with_model-clause-prefix : goal.returns-in-ProcessGroup-with_model-clause-prefix
returns-in-ProcessGroup-with_model-clause-prefix g c = grind (arith, common_steps)

pub returns-in-AllAtOnce-with_model-clause-report : goal.returns-in-AllAtOnce-with_model-clause-report
returns-in-AllAtOnce-with_model-clause-report g c = grind (arith, common_steps)

pub returns-in-LeaveKernel-with_model-clause-report : goal.returns-in-LeaveKernel-with_model-clause-report
returns-in-LeaveKernel-with_model-clause-report g c = grind (arith, common_steps)

pub returns-in-AllAtOnce-with_model-clause-prefix : goal.returns-in-AllAtOnce-with_model-clause-prefix
returns-in-AllAtOnce-with_model-clause-prefix g c = grind (arith, common_steps)

pub returns-in-LeaveKernel-with_model-clause-prefix : goal.returns-in-LeaveKernel-with_model-clause-prefix
returns-in-LeaveKernel-with_model-clause-prefix g c = grind (arith, common_steps)

pub returns-in-Immediate-with_model-clause-prefix : goal.returns-in-Immediate-with_model-clause-prefix
returns-in-Immediate-with_model-clause-prefix g c = grind (arith, common_steps)

pub returns-in-Immediate-with_model-clause-report : goal.returns-in-Immediate-with_model-clause-report
returns-in-Immediate-with_model-clause-report g c = grind (arith, common_steps)
