use Rattle.std.proofs.Common.{◌∙◌}
use Rattle.lp_text.proofs.StreamContract.{done≢read_failed, text_told}
use Rattle.lp_text.proofs.StreamFaults.{known_fault}
use Rattle.lp_text.proofs.stream.read_by.Goals as goal

pub returns-in-Ok-clause-found : goal.returns-in-Ok-clause-found
returns-in-Ok-clause-found g c =
    let all = c.in_default.ensures.found in
    (all.0, all.1, all.2 ∙ c.in-Ok.ensures)

pub returns-in-Err-finish-clause-trace : goal.returns-in-Err-finish-clause-trace
returns-in-Err-finish-clause-trace g c =
    let all = c.in_default.ensures.found in
    known_fault (g.R.Read.remaining c.args.reader.now.stream) (g.R.Read.remaining c.add_all.new.reader.stream) all.0 c.in-Err-finish.fault c.from.result _ all.1 all.2 c.in-Err-finish.ensures c.from.ensures

pub returns-in-Err-clause-reads : goal.returns-in-Err-clause-reads
returns-in-Err-clause-reads g c = c.in-Err.ensures.reads

pub returns-in-Ok-clause-reads : goal.returns-in-Ok-clause-reads
returns-in-Ok-clause-reads g c = c.in_default.ensures.reads

pub returns-in-Err-finish-clause-reads : goal.returns-in-Err-finish-clause-reads
returns-in-Err-finish-clause-reads g c =
    let reads = c.in_default.ensures.reads in
    text_told c.args.reader.now c.add_all.new.reader c.in-Err-finish.fault c.from.result (reads.unfailed done≢read_failed) reads.few c.from.ensures
