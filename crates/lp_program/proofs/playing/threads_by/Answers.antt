-- What threads played by a model, said of the model's name.
use Rattle.std.proofs.Common.{sym}
use Rattle.lp_text.specs.StreamContract.{ended}
use Rattle.lp_threads.specs.Faults.{threads_end}
use Rattle.lp_program.proofs.Plays.{played_named, prefix_named}
use Rattle.lp_program.proofs.playing.threads_by.Goals as goal

pub returns-clause-report : goal.returns-clause-report
returns-clause-report g c =
    played_named c.threads.result c.args.name g.M.Consistency.rules _ (sym c.requires) c.name-called.ensures _ _ _ _ c.threads.ensures.report

pub returns-clause-prefix : goal.returns-clause-prefix
returns-clause-prefix g c =
    prefix_named (ended threads_end c.threads.result) c.args.name g.M.Consistency.rules _ (sym c.requires) c.name-called.ensures _ _ _ _ c.threads.ensures.prefix
