-- The worked inputs compute.
use Rattle.std.proofs.Common.{refl}
use Rattle.std.specs.Fmt.{digits}
use Rattle.lp_text.specs.Words.{parts, event_word_of, line_word_of, number_of}
use Rattle.lp_text.specs.Traces.{patch_lines, lines_after_header, text_of}
use Rattle.lp_text.specs.Reading.{next_word, last_word, no_word, next_number, last_number, symbol_of, task_of, call_line, fork_line, task_line, event_line, patch_line, boot_line, add_symbol, begun, grown, add_function, add_boot, add_event, first_word, line_by_word, with_line, at_end, reading_from, reading_lines}
use Rattle.lp_text.specs.CheckReading.{event_number_of, next_event, last_event, next_member, claim_line, hold_line, busy_line, born_line, reason_line, reasons_from, cert_from, divided, check_reading}
use Rattle.lp_text.specs.CheckRows.{InputsCompute}

pub inputs_compute : InputsCompute
unfolding digits patch_lines lines_after_header text_of parts event_word_of line_word_of number_of next_word last_word no_word next_number last_number symbol_of task_of call_line fork_line task_line event_line patch_line boot_line add_symbol begun grown add_function add_boot add_event first_word line_by_word with_line at_end reading_from reading_lines event_number_of next_event last_event next_member claim_line hold_line busy_line born_line reason_line reasons_from cert_from divided check_reading
inputs_compute = record {
  claim_alone = refl;
  each_line = refl;
  each_line_spelled = refl;
  no_certificate = refl;
  unended_division = refl;
  other_division = refl;
  trace_first = refl;
  no_trace = refl;
  no_bytes = refl;
  no_claim = refl;
  unended_claim = refl;
  earlier_line_first = refl;
  unended_reason = refl;
  reason_first = refl;
  claim_twice = refl;
  divided_twice = refl;
  empty_line = refl;
  group_too_great = refl;
  task_too_great = refl;
  eight_digits = refl;
  leading_zero = refl;
  one_number_more = refl;
  one_number_less = refl;
}
