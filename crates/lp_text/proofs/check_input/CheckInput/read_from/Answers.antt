use Rattle.std.proofs.Common.{refl, arith}
use Rattle.std.proofs.lemmas.Grind.{common_steps}
use Rattle.lp_text.specs.CheckReading.{check_reading}
use Rattle.lp_text.specs.Input.{of_read}
use Rattle.lp_text.specs.StreamContract.{stream_end}
use Rattle.lp_text.specs.inside.Streams.{of_input}
use Rattle.lp_text.proofs.CheckInputs.{too_long}
use Rattle.lp_text.proofs.StreamContract.{done≢read_failed, input_told, reads_by, text_told}
use Rattle.lp_text.proofs.StreamFaults.{input_fault_of}
use Rattle.lp_text.proofs.check_input.CheckInput.read_from.Goals as goal

pub returns-in_err-text-clause-trace : goal.returns-in_err-text-clause-trace
returns-in_err-text-clause-trace g c =
    input_fault_of check_reading too_long (g.R.Read.remaining c.args.reader.now.stream) (g.R.Read.remaining c.read_input.new.reader.stream) c.in_err-text.field-0.0 c.from_residual.result c.in_err-text.ensures.fault c.from_residual.ensures.1

pub returns-in_err-text-clause-reads : goal.returns-in_err-text-clause-reads
returns-in_err-text-clause-reads g c =
    let fault = c.in_err-text.field-0.0 in
    reads_by stream_end (of_input fault) c.from_residual.result c.from_residual.ensures.1 c.args.reader.now c.read_input.new.reader
    (input_told c.args.reader.now c.read_input.new.reader fault (of_input fault) c.in_err-text.ensures.reads refl)

pub returns-in_err-input-clause-reads : goal.returns-in_err-input-clause-reads
returns-in_err-input-clause-reads g c =
    let fault = c.in_err-input.field-0.0 in
    let reads = c.in_ok-text.ensures.reads in
    reads_by stream_end (of_read fault) c.from_residual-in_err-input.result c.from_residual-in_err-input.ensures.1 c.args.reader.now c.read_input.new.reader
    (text_told c.args.reader.now c.read_input.new.reader fault (of_read fault) (reads.unfailed done≢read_failed) reads.few refl)

pub returns-clause-reads : goal.returns-clause-reads
returns-clause-reads g c = c.in_ok-text.ensures.reads

pub returns-in_err-input-clause-trace : goal.returns-in_err-input-clause-trace
returns-in_err-input-clause-trace g c = grind (arith, common_steps)

pub returns-clause-found : goal.returns-clause-found
returns-clause-found g c = grind (arith, common_steps)
