-- How the program ended for its streams, by the fault of what it did.
use Rattle.std.proofs.Common.{◌≡◌, ◌≢◌, ◌∙◌, Result, refl, sym, ap, subst}
use Rattle.std.specs.Prelude.{IsErrAnd}
use Rattle.lp_text.specs.Counts.{Counts}
use Rattle.lp_text.specs.StreamContract.{Ending, Done, ReadFailed, WriteFailed, OtherFault, ReadsToEnd, WritesToEnd, ended}
use Rattle.lp_text.proofs.StreamContract.{ended_unlike, other≢done, other≢read_failed, other≢write_failed, reads_nothing, writes_nothing}
use Rattle.lp_replay.specs.Runs.{run_end}
use Rattle.lp_replay.specs.declared.run_fault.RunFault.{RunFault}
use Rattle.lp_replay.specs.declared.run_fault.RunFault.TheVariants as run
use Rattle.lp_threads.specs.Codes.{code_of}
use Rattle.lp_threads.specs.Faults.{threads_end}
use Rattle.lp_threads.specs.declared.fault.ThreadsFault.{ThreadsFault}
use Rattle.lp_threads.specs.declared.fault.ThreadsFault.TheVariants as threads
use Rattle.lp_words.specs.declared.words.WordsFault.{WordsFault}
use Rattle.lp_words.specs.declared.words.WordsFault.TheVariants as words
use Rattle.lp_program.specs.Faults.{IsOfThreads, of_run, of_words, program_end}
use Rattle.lp_program.specs.declared.fault.Fault.{Fault}
use Rattle.lp_program.specs.declared.fault.Fault.TheVariants as fault

-- ---- As of a run, and as of threads

run_ends : (why : RunFault) → run_end why ≡ program_end (of_run why)
run_ends (run.Read error) = refl
run_ends (run.Trace why) = refl
run_ends run.NoMemory = refl
run_ends (run.Write error) = refl

ends_as_run : (why : RunFault) (e : Fault) → e ≡ of_run why → run_end why ≡ program_end e
ends_as_run why e is = run_ends why ∙ sym (ap program_end is)

ends_as_threads : (why : ThreadsFault) (e : Fault) → IsOfThreads (code_of why) e → threads_end why ≡ program_end e
ends_as_threads (threads.Run why) e is = ends_as_run why e is
ends_as_threads threads.NoReader (fault.Desk code) is = refl
ends_as_threads threads.NoReader other is = absurd is
ends_as_threads threads.NoThread (fault.Desk code) is = refl
ends_as_threads threads.NoThread other is = absurd is

module _ {S : Type 0} (a b : Counts S) where
  pub reads_as_run : (why : RunFault) (e : Fault) → e ≡ of_run why → ReadsToEnd (run_end why) a b → ReadsToEnd (program_end e) a b
  reads_as_run why e is h = subst (λ ending. ReadsToEnd ending a b) (ends_as_run why e is) h

  pub writes_as_run : (why : RunFault) (e : Fault) → e ≡ of_run why → WritesToEnd (run_end why) a b → WritesToEnd (program_end e) a b
  writes_as_run why e is h = subst (λ ending. WritesToEnd ending a b) (ends_as_run why e is) h

  pub reads_as_threads : (why : ThreadsFault) (e : Fault) → IsOfThreads (code_of why) e → ReadsToEnd (threads_end why) a b → ReadsToEnd (program_end e) a b
  reads_as_threads why e is h = subst (λ ending. ReadsToEnd ending a b) (ends_as_threads why e is) h

  pub writes_as_threads : (why : ThreadsFault) (e : Fault) → IsOfThreads (code_of why) e → WritesToEnd (threads_end why) a b → WritesToEnd (program_end e) a b
  writes_as_threads why e is h = subst (λ ending. WritesToEnd ending a b) (ends_as_threads why e is) h

-- ---- The words ask for nothing

words_end : (why : WordsFault) → program_end (of_words why) ≡ OtherFault
words_end words.Usage = refl
words_end words.UnknownModel = refl
words_end words.NoMemory = refl

module _ {X S : Type 0} (why : WordsFault) (r : Result X Fault) (is : IsErrAnd r (λ e. e ≡ of_words why)) (a : Counts S) where
  unlike : (other : Ending) → OtherFault ≢ other → ended program_end r ≢ other
  unlike other differs = ended_unlike program_end (of_words why) r is other (λ e. differs (sym (words_end why) ∙ e))

  pub reads_no_words : ReadsToEnd (ended program_end r) a a
  reads_no_words = reads_nothing a (ended program_end r) (unlike ReadFailed other≢read_failed) (unlike Done other≢done)

  pub writes_no_words : WritesToEnd (ended program_end r) a a
  writes_no_words = writes_nothing a (ended program_end r) (unlike WriteFailed other≢write_failed)
