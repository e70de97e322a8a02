-- The worked parts compute.
use Rattle.std.proofs.Common.{refl}
use Rattle.std.specs.Fmt.{digits}
use Rattle.lp_text.specs.Words.{parts, event_word_of, line_word_of, number_of}
use Rattle.lp_text.specs.Traces.{patch_lines, lines_after_header, text_of}
use Rattle.lp_text.specs.Reading.{next_word, last_word, no_word, next_number, last_number, symbol_of, task_of, call_line, fork_line, task_line, event_line, patch_line, boot_line, add_symbol, begun, grown, add_function, add_boot, add_event, first_word, line_by_word, with_line}
use Rattle.lp_text.specs.Build.{spelled, spelling_from, spelling}
use Rattle.lp_text.specs.BuildRows.{PartsCompute}

pub parts_compute : PartsCompute
unfolding digits parts event_word_of line_word_of number_of patch_lines lines_after_header text_of next_word last_word no_word next_number last_number symbol_of task_of call_line fork_line task_line event_line patch_line boot_line add_symbol begun grown add_function add_boot add_event first_word line_by_word with_line spelled spelling_from spelling
parts_compute = record {
  one_patch_made = refl;
  two_patches_made = refl;
  no_function = refl;
  unknown_function = refl;
  doubled_function = refl;
  boot_task_zero = refl;
  doubled_boot_task = refl;
  event_of_task_zero = refl;
  fork_of_task_zero = refl;
  call_of_no_symbol = refl;
  no_patch = refl;
  first_patch_empty = refl;
  last_patch_empty = refl;
  seventeenth_patch = refl;
}
