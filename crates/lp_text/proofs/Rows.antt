-- The worked texts compute.
use Rattle.std.proofs.Common.{refl}
use Rattle.std.specs.Fmt.{digits}
use Rattle.lp_text.specs.Words.{parts, event_word_of, line_word_of, number_of}
use Rattle.lp_text.specs.Traces.{patch_lines, lines_after_header, text_of}
use Rattle.lp_text.specs.Reading.{next_word, last_word, no_word, next_number, last_number, symbol_of, task_of, call_line, fork_line, task_line, event_line, patch_line, boot_line, add_symbol, begun, grown, add_function, add_boot, add_event, first_word, line_by_word, with_line, at_end, reading_from, reading_lines, reading}
use Rattle.lp_text.specs.Rows.{TextsCompute}

pub texts_compute : TextsCompute
unfolding digits parts event_word_of line_word_of number_of patch_lines lines_after_header text_of next_word last_word no_word next_number last_number symbol_of task_of call_line fork_line task_line event_line patch_line boot_line add_symbol begun grown add_function add_boot add_event first_word line_by_word with_line at_end reading_from reading_lines reading
texts_compute = record {
  one_patch_spelled = refl;
  one_patch_read = refl;
  two_patches_spelled = refl;
  two_patches_read = refl;
  no_bytes = refl;
  unended_header = refl;
  unended_word = refl;
  empty_first_line = refl;
  other_header = refl;
  header_with_zero = refl;
  earlier_fault_before_the_end = refl;
  unended_event = refl;
  header_twice = refl;
  empty_line = refl;
  leading_space = refl;
  capital = refl;
  symbol_after_a_patch = refl;
  boot_after_an_event = refl;
  patch_after_a_boot = refl;
  boot_before_a_patch = refl;
  event_before_a_patch = refl;
  no_patch = refl;
  trailing_space = refl;
  leading_zero = refl;
  six_digits = refl;
  shape_before_name = refl;
  other_class = refl;
  two_names = refl;
  no_name = refl;
  odd_byte = refl;
  doubled_symbol = refl;
  patch_without_symbol = refl;
  name_before_number = refl;
  task_zero = refl;
  task_too_great = refl;
  doubled_boot = refl;
  doubled_function = refl;
  stacked_without_number = refl;
  stacked_name_first = refl;
  stacked_gap = refl;
  stacked_zero = refl;
  stacked_back = refl;
}
