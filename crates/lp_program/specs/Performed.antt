-- What the program reads and writes.
use Rattle.std.specs.Prelude.{◌≡◌, ◌⊎◌, ℕ, Bool, List, Option, None, IsSome, IfSome, Ok, Err}
use Rattle.std.specs.Io.KnownBytes.{Appends}
use Rattle.lp_models.specs.declared.name.ModelName.{ModelName}
use Rattle.lp_models.specs.Models.{name_of, rules_named}
use Rattle.lp_definitions.specs.declared.cert_fault.CertFault.{CertFault}
use Rattle.lp_text.specs.declared.check_input.CheckInput.{CheckInput}
use Rattle.lp_text.specs.declared.fault.TraceFault.{TraceFault}
use Rattle.lp_trace.specs.Answer.{ReadsInput, answer_to, answer_words}
use Rattle.lp_text.specs.CheckReading.{check_reading}
use Rattle.lp_replay.specs.Outcome.{outcome}
use Rattle.lp_text.specs.Reading.{reading}
use Rattle.lp_trace.specs.Report.{report}
use Rattle.lp_replay.specs.Runs.{ReadsTrace}
use Rattle.lp_text.specs.Traces.{TraceValue}
use Rattle.lp_text.specs.Words.{line_of}
use Rattle.lp_text.specs.Writing.{AppendsPrefix}
use Rattle.lp_threads.specs.Codes.{code_of}
use Rattle.lp_threads.specs.Faults.{IsOfPlay}
use Rattle.lp_threads.specs.Plays.{IsPlay, play_text}
use Rattle.lp_threads.specs.declared.fault.ThreadsFault.{ThreadsFault}
use Rattle.lp_threads.specs.declared.report.Play.{Play}
use Rattle.lp_compare.specs.Comparison.{comparison}
use Rattle.lp_compare.specs.Text.{written}
use Rattle.lp_words.specs.Asked.{Asks, AsksNothing}
use Rattle.lp_program.specs.Faults.{of_words}
use Rattle.lp_program.specs.declared.fault.Fault.{Fault}
use Rattle.lp_program.specs.declared.fault.Fault.TheVariants as fault
use Rattle.lp_words.specs.declared.words.Job.{Job}
use Rattle.lp_words.specs.declared.words.Job.TheVariants.{Run, Check, Compare, Threads}
use Rattle.lp_words.specs.declared.words.WordsFault.{WordsFault}

-- the report of a trace under the model of a name
abbrev pub report_under : ModelName → TraceValue → List ℕ
report_under model trace = report trace.form (name_of model) (outcome (rules_named model) trace)

-- the answer to a certificate under the model of a name, and its line
abbrev pub answer_under : ModelName → CheckInput → Option CertFault
answer_under model input = answer_to (rules_named model) input

abbrev pub answer_line : ModelName → CheckInput → List ℕ
answer_line model input = line_of (answer_words (answer_under model input))

-- what the comparison of a trace says, in one of its two forms
abbrev pub compared : Bool → TraceValue → List ℕ
compared json trace = written json (comparison trace)

-- threads played the trace under the model of a name, and this was written of it
abbrev pub IsPlayed : ModelName → TraceValue → (List ℕ → Type 0) → Type 0
IsPlayed model trace P = (play : Play) × IsPlay (rules_named model) trace play × P (play_text (name_of model) play)

-- what was to be read before and after, and what was written before and after
module _ (before after old new : Option (List ℕ)) where
  -- a job is done
  abbrev pub IsDone : Job → Type 0
  IsDone (Run model) = ReadsTrace before after (λ trace. Appends old new (report_under model trace))
  IsDone (Check model) =
      ReadsInput before after (λ input. (answer_under model input ≡ None) × Appends old new (answer_line model input))
  IsDone (Compare json) = ReadsTrace before after (λ trace. Appends old new (compared json trace))
  IsDone (Threads model) = ReadsTrace before after (λ trace. IsPlayed model trace (Appends old new))

  -- the certificate is refused, and the answer is written
  abbrev pub IsRefused : Job → Type 0
  IsRefused (Run model) = ⊥
  IsRefused (Check model) =
      ReadsInput before after (λ input. IsSome (answer_under model input) × Appends old new (answer_line model input))
  IsRefused (Compare json) = ⊥
  IsRefused (Threads model) = ⊥

  -- a prefix of what was to be written is
  abbrev pub WritesPrefix : Job → Type 0
  WritesPrefix (Run model) = ReadsTrace before after (λ trace. AppendsPrefix old new (report_under model trace))
  WritesPrefix (Check model) = ReadsInput before after (λ input. AppendsPrefix old new (answer_line model input))
  WritesPrefix (Compare json) = ReadsTrace before after (λ trace. AppendsPrefix old new (compared json trace))
  WritesPrefix (Threads model) = ReadsTrace before after (λ trace. IsPlayed model trace (AppendsPrefix old new))

-- a text is no input of the job, for this reason
abbrev pub IsTextFault : Job → TraceFault → List ℕ → Type 0
IsTextFault (Run model) why text = reading text ≡ Err why
IsTextFault (Check model) why text = check_reading text ≡ Err why
IsTextFault (Compare json) why text = reading text ≡ Err why
IsTextFault (Threads model) why text = reading text ≡ Err why

-- the job is one of threads
abbrev pub IsOfDesk : Job → Type 0
IsOfDesk (Run model) = ⊥
IsOfDesk (Check model) = ⊥
IsOfDesk (Compare json) = ⊥
IsOfDesk (Threads model) = Unit {0}

-- this is the letter and number of a fault that can come while a trace is played
abbrev pub IsCodeOfPlay : List ℕ → Type 0
IsCodeOfPlay code = (why : ThreadsFault) × IsOfPlay why × (code_of why ≡ Ok code)

module _ (before after old new : Option (List ℕ)) where
  -- how a job ends by a fault, beside what is said of its streams: nothing is written but by a failed write and a refusal
  abbrev pub EndsBy : Job → Fault → Type 0
  EndsBy job fault.Read = Unit {0}
  EndsBy job fault.Write = WritesPrefix before after old new job
  EndsBy job fault.Usage = ⊥
  EndsBy job fault.UnknownModel = ⊥
  EndsBy job (fault.Trace why) = IfSome before (IsTextFault job why)
  EndsBy job fault.Refused = IsRefused before after old new job
  EndsBy job fault.NoMemory = Unit {0}
  EndsBy job (fault.Desk code) = IsOfDesk job × IsCodeOfPlay code.now × ReadsTrace before after (λ trace. Unit {0})

  -- the words ask for a job, and it is done
  abbrev pub Performs : List (List ℕ) → Type 0
  Performs words = (job : Job) × Asks words job × IsDone before after old new job

  -- the words ask for nothing, and nothing is read; or they ask for a job, and it ends by the fault
  abbrev pub Fails : Type 0 → List (List ℕ) → Fault → Type 0
  Fails unread words fault =
      ((why : WordsFault) × AsksNothing words why × (fault ≡ of_words why) × unread)
      ⊎ ((job : Job) × Asks words job × EndsBy job fault)
