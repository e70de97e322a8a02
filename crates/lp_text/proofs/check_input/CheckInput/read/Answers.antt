use Rattle.std.proofs.Common.{◌≡◌, Result, Ok, Err, arith, subst, sym}
use Rattle.lp_text.specs.Faults.{IsReadFault}
use Rattle.lp_text.specs.declared.check_input.CheckInput.{CheckInput}
use Rattle.lp_text.specs.declared.fault.ReadFault.{ReadFault}
use Rattle.lp_text.specs.CheckReading.{check_reading}
use Rattle.lp_text.proofs.CheckInputs.{both, cert_fault, found_both, too_long, trace_fault}
use Rattle.lp_text.proofs.InputsSound.{sound_input}
use Rattle.lp_text.proofs.InputsComplete.{gives_input}
use Rattle.lp_text.proofs.check_input.CheckInput.read.Goals as goal

pub returns-then-text-gt-MOST_BYTES : goal.returns-then-text-gt-MOST_BYTES
returns-then-text-gt-MOST_BYTES c =
    let P : ReadFault → Type 0 = λ fault. IsReadFault fault (check_reading c.args.text.now) in
    let read : Result CheckInput ReadFault = Err c.at.result in
    let exact : P c.at.result = subst P (sym c.at.ensures) (too_long c.args.text.now c.if-text-gt-MOST_BYTES.true) in
    record { found = tt; only = gives_input (λ input. input) read c.args.text.now exact; exact = exact }

pub returns-in-Err : goal.returns-in-Err
returns-in-Err c =
    let d = c.divide-division.ensures in
    let read : Result CheckInput ReadFault = Err c.in-Err.fault in
    let exact : IsReadFault c.in-Err.fault (check_reading c.args.text.now) = trace_fault c.args.text.now c.divide-division.result.trace.now c.divide-division.result.line _ (omega (arith, c.if-text-gt-MOST_BYTES.false)) d.prefix d.trace d.line d.cert c.in-Err.fault c.in-Err.ensures.exact in
    record { found = tt; only = gives_input (λ input. input) read c.args.text.now exact; exact = exact }

pub returns-in-Ok-read_cert : goal.returns-in-Ok-read_cert
returns-in-Ok-read_cert c =
    let d = c.divide-division.ensures in
    let input : CheckInput = both c.in-Ok.trace c.in-Ok-read_cert.cert in
    let read : Result CheckInput ReadFault = Ok input in
    let exact : check_reading c.args.text.now ≡ Ok input = found_both c.args.text.now c.divide-division.result.trace.now c.divide-division.result.line _ (omega (arith, c.if-text-gt-MOST_BYTES.false)) d.prefix d.trace d.line d.cert c.in-Ok.trace c.in-Ok-read_cert.cert c.in-Ok.ensures.exact c.in-Ok-read_cert.ensures in
    record { found = sound_input c.args.text.now input exact; only = gives_input (λ input. input) read c.args.text.now exact; exact = exact }

pub returns-in-Err-read_cert : goal.returns-in-Err-read_cert
returns-in-Err-read_cert c =
    let d = c.divide-division.ensures in
    let read : Result CheckInput ReadFault = Err c.in-Err-read_cert.fault in
    let exact : IsReadFault c.in-Err-read_cert.fault (check_reading c.args.text.now) = cert_fault c.args.text.now c.divide-division.result.trace.now c.divide-division.result.line _ (omega (arith, c.if-text-gt-MOST_BYTES.false)) d.prefix d.trace d.line d.cert c.in-Err-read_cert.fault c.in-Ok.trace c.in-Ok.ensures.exact c.in-Err-read_cert.ensures in
    record { found = tt; only = gives_input (λ input. input) read c.args.text.now exact; exact = exact }
