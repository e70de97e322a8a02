-- Worked texts: what the definitions make of short texts.
use Rattle.std.specs.Prelude.{◌≡◌, ℕ, List, [], ◌∷◌, Ok, Err, codes}
use Rattle.lp_symbols.specs.declared.sym_id.SymId.{SymId}
use Rattle.lp_stack.specs.declared.number.TaskId.{TaskId}
use Rattle.lp_stack.specs.declared.view.Class.TheVariants as class
use Rattle.lp_model.specs.declared.check.ForkKind.TheVariants.{Own, Share}
use Rattle.lp_definitions.specs.declared.event.Event.TheVariants.{Call, Ret, Sleep, Wake, Enter, Exit, Idle, Fork, Die, Walk, Stop, Enable, Disable, Reverse}
use Rattle.lp_text.specs.declared.form.TraceForm.TheVariants.{Single, Stacked}
use Rattle.lp_text.specs.declared.fault.Cause.{Cause}
use Rattle.lp_text.specs.declared.fault.Cause.TheVariants.{Header, Unended, Word, Shape, Name, Doubled, Unknown, Patch, Task}
use Rattle.lp_text.specs.Traces.{TraceValue, text_of}
use Rattle.lp_text.specs.Reading.{reading}

-- the first fault of a text is this cause, at this line
abbrev pub Fails : List ℕ → ℕ → Cause → Type 0
Fails text number why = reading text ≡ Err (record { line = number; cause = why })

abbrev pub task : ℕ → TaskId
task number = record { 0 = number }

abbrev pub func : ℕ → SymId
func number = record { 0 = number }

-- each kind of line of the first text
abbrev pub one_patch : TraceValue
one_patch =
    record {
      form = Single;
      symbols = codes "a" ∷ codes "walk" ∷ codes "#1" ∷ [];
      patches = (func 1 ∷ func 0 ∷ []) ∷ [];
      boots = (task 7, class.Normal) ∷ (task 65535, class.Idle) ∷ [];
      events = Enter (task 7) ∷ Call (task 7) (func 2) ∷ Sleep (task 7) ∷ Enable ∷ Walk ∷ Wake (task 7) ∷ Ret (task 7) ∷ Fork (task 7) (task 10) Own ∷ Fork (task 7) (task 11) Share ∷ Exit (task 7) ∷ Die (task 10) ∷ Idle (task 65535) ∷ Stop ∷ Reverse ∷ Disable ∷ [];
    }

abbrev pub one_patch_text : List ℕ
one_patch_text = codes "lptrace 1\nsym a\nsym walk\nsym #1\npatch walk\npatch a\nboot 7 normal\nboot 65535 idle\nenter 7\ncall 7 #1\nsleep 7\nenable\nwalk\nwake 7\nret 7\nfork 7 10 own\nfork 7 11 share\nexit 7\ndie 10\nidle 65535\nstop\nreverse\ndisable\n"

-- patches on one another, of which two have the same function
abbrev pub two_patches : TraceValue
two_patches = record { form = Stacked; symbols = codes "a" ∷ codes "b" ∷ []; patches = (func 0 ∷ []) ∷ (func 1 ∷ func 0 ∷ []) ∷ []; boots = []; events = Enable ∷ [] }

abbrev pub two_patches_text : List ℕ
two_patches_text = codes "lptrace 2\nsym a\nsym b\npatch 1 a\npatch 2 b\npatch 2 a\nenable\n"

pub record TextsCompute : Type 0 where
  pub one_patch_spelled : text_of one_patch ≡ one_patch_text
  pub one_patch_read : reading one_patch_text ≡ Ok one_patch
  pub two_patches_spelled : text_of two_patches ≡ two_patches_text
  pub two_patches_read : reading two_patches_text ≡ Ok two_patches
  pub no_bytes : Fails (codes "") 1 Header
  pub unended_header : Fails (codes "lptrace 1") 1 Unended
  pub unended_word : Fails (codes "x") 1 Unended
  pub empty_first_line : Fails (codes "\n") 1 Header
  pub other_header : Fails (codes "lptrace 4\n") 1 Header
  pub header_with_zero : Fails (codes "lptrace 01\n") 1 Header
  pub earlier_fault_before_the_end : Fails (codes "lptrace 1\nfoo\nwalk") 2 Word
  pub unended_event : Fails (codes "lptrace 1\nsym a\npatch a\nenable") 4 Unended
  pub header_twice : Fails (codes "lptrace 1\nlptrace 1\n") 2 Word
  pub empty_line : Fails (codes "lptrace 1\nsym a\npatch a\n\n") 4 Word
  pub leading_space : Fails (codes "lptrace 1\n enable\n") 2 Word
  pub capital : Fails (codes "lptrace 1\nsym a\npatch a\nEnable\n") 4 Word
  pub symbol_after_a_patch : Fails (codes "lptrace 1\nsym a\npatch a\nsym b c d\n") 4 Word
  pub boot_after_an_event : Fails (codes "lptrace 1\nsym a\npatch a\nenable\nboot 1 normal\n") 5 Word
  pub patch_after_a_boot : Fails (codes "lptrace 1\nsym a\npatch a\nboot 1 normal\npatch a\n") 5 Word
  pub boot_before_a_patch : Fails (codes "lptrace 1\nboot\n") 2 Patch
  pub event_before_a_patch : Fails (codes "lptrace 1\ncall 0 zz q\n") 2 Patch
  pub no_patch : Fails (codes "lptrace 1\nsym a\n") 3 Patch
  pub trailing_space : Fails (codes "lptrace 1\nsym a\npatch a\nret \n") 4 Shape
  pub leading_zero : Fails (codes "lptrace 1\nsym a\npatch a\ncall 01 a\n") 4 Shape
  pub six_digits : Fails (codes "lptrace 1\nsym a\npatch a\nret 100000\n") 4 Shape
  pub shape_before_name : Fails (codes "lptrace 1\nsym a\npatch a\ncall 100000 zz\n") 4 Shape
  pub other_class : Fails (codes "lptrace 1\nsym a\npatch a\nboot 0 foo\n") 4 Shape
  pub two_names : Fails (codes "lptrace 1\nsym a b\n") 2 Shape
  pub no_name : Fails (codes "lptrace 1\nsym \n") 2 Shape
  pub odd_byte : Fails (codes "lptrace 1\nsym \u{7f}\n") 2 Name
  pub doubled_symbol : Fails (codes "lptrace 1\nsym a\nsym a\npatch a\n") 3 Doubled
  pub patch_without_symbol : Fails (codes "lptrace 1\npatch a\n") 2 Unknown
  pub name_before_number : Fails (codes "lptrace 1\nsym a\npatch a\ncall 0 zz\n") 4 Unknown
  pub task_zero : Fails (codes "lptrace 1\nsym a\npatch a\ncall 0 a\n") 4 Task
  pub task_too_great : Fails (codes "lptrace 1\nsym a\npatch a\ncall 65536 a\n") 4 Task
  pub doubled_boot : Fails (codes "lptrace 1\nsym a\npatch a\nboot 1 normal\nboot 1 idle\n") 5 Task
  pub doubled_function : Fails (codes "lptrace 1\nsym a\npatch a\npatch a\n") 4 Patch
  pub stacked_without_number : Fails (codes "lptrace 2\nsym a\nsym b\npatch a\n") 4 Shape
  pub stacked_name_first : Fails (codes "lptrace 2\nsym a\nsym b\npatch 2 zz\n") 4 Unknown
  pub stacked_gap : Fails (codes "lptrace 2\nsym a\nsym b\npatch 2 a\n") 4 Patch
  pub stacked_zero : Fails (codes "lptrace 2\nsym a\nsym b\npatch 0 a\n") 4 Patch
  pub stacked_back : Fails (codes "lptrace 2\nsym a\nsym b\npatch 1 a\npatch 2 a\npatch 1 b\n") 6 Patch
