use Rattle.lp_text.specs.StreamContract.{OtherFault}
use Rattle.lp_text.proofs.StreamContract.{other≢done, other≢read_failed, reads_nothing}
use Rattle.lp_text.proofs.input.read_input.Goals as goal

pub returns-in_default-clause-reads : goal.returns-in_default-clause-reads
returns-in_default-clause-reads g c = reads_nothing c.args.reader.now OtherFault other≢read_failed other≢done
