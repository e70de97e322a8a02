-- What a report tells.
use Rattle.std.specs.Prelude.{◌≡◌, ◌≢◌, ℕ, ◌<◌, ◌≤◌, ◌^◌, List, All, Option, Some, None}
use Rattle.lp_stack.specs.declared.number.Level.{Level}
use Rattle.lp_model.specs.Rules.{Rules}
use Rattle.lp_definitions.specs.declared.reply.What.{What}
use Rattle.lp_definitions.specs.declared.reply.What.TheVariants.{Ran, Done, Switched, Refused}
use Rattle.lp_definitions.specs.declared.cert.Cert.{Cert}
use Rattle.lp_definitions.specs.Ends.{LegEnd}
use Rattle.lp_definitions.specs.declared.line.Line.{Line}
use Rattle.lp_definitions.specs.declared.line.Line.TheVariants.{Hold, Busy, Born}
use Rattle.lp_text.specs.declared.form.TraceForm.{TraceForm}
use Rattle.lp_text.specs.declared.form.TraceForm.TheVariants.{Single}
use Rattle.lp_text.specs.Traces.{TraceValue, IsTrace}
use Rattle.lp_definitions.specs.Outcome.{Outcome}
use Rattle.lp_replay.specs.Outcome.{outcome}
use Rattle.lp_trace.specs.Report.{report}

-- ---- What a report shows whole

-- a number of up to 64 digits: of a longer one only the last 64 are written
abbrev pub IsWhole : ℕ → Type 0
IsWhole number = number < 10 ^ 64

-- a level. One patch has the levels 0 and 1, which are written as `old` and `new`
abbrev pub IsWholeLevel : TraceForm → Level → Type 0
IsWholeLevel Single level = level.0 ≤ 1
IsWholeLevel _ level = IsWhole level.0

-- what an event did
abbrev pub IsWholeWhat : TraceForm → What → Type 0
IsWholeWhat form (Ran level) = IsWholeLevel form level
IsWholeWhat form Done = Unit {0}
IsWholeWhat form (Switched groups) = All IsWhole groups
IsWholeWhat form (Refused why) = Unit {0}

-- a line of a certificate
abbrev pub IsWholeReason : Line → Type 0
IsWholeReason (Hold group task serial from to) = IsWhole group.0 × IsWhole task.0 × IsWhole serial × IsWhole from × IsWhole to
IsWholeReason (Busy group task at) = IsWhole group.0 × IsWhole task.0 × IsWhole at
IsWholeReason (Born group parent at) = IsWhole group.0 × IsWhole parent.0 × IsWhole at

-- a certificate
pub record IsWholeCert (cert : Cert) : Type 0 where
  pub leg : IsWhole cert.leg
  pub group : IsWhole cert.group.0
  pub upto : IsWhole cert.upto
  pub lines : All IsWholeReason cert.lines

-- the event of a leg's completion, if it has one
abbrev pub IsWholeEvent : Option ℕ → Type 0
IsWholeEvent None = Unit {0}
IsWholeEvent (Some event) = IsWhole event

-- the end of a leg
pub record IsWholeLeg (form : TraceForm) (leg : LegEnd) : Type 0 where
  pub opened : IsWhole leg.opened
  pub target : IsWholeLevel form leg.target
  pub completed : IsWholeEvent leg.completed
  pub certs : All IsWholeCert leg.certs

-- an outcome that a report of this form shows whole
pub record FitsReport (form : TraceForm) (found : Outcome) : Type 0 where
  pub replies : All (λ reply. IsWholeWhat form reply.what) found.replies
  pub legs : All (IsWholeLeg form) found.legs
  pub stays : IsWhole found.stays
  pub mixed : IsWhole found.mixed

-- ---- The laws

-- no byte of a model's name ends its line
abbrev pub IsOnOneLine : List ℕ → Type 0
IsOnOneLine name = All (λ byte. byte ≢ 10) name

-- equal reports are of the same form, model's name and outcome
abbrev pub OneOutcomeAReport : Type 0
OneOutcomeAReport =
    (form other_form : TraceForm) (name other_name : List ℕ) (found other : Outcome) →
    IsOnOneLine name → IsOnOneLine other_name → FitsReport form found → FitsReport other_form other →
    report form name found ≡ report other_form other_name other →
    (form ≡ other_form) × (name ≡ other_name) × (found ≡ other)

-- a report shows what the run of any trace comes to whole
abbrev pub RunsFitReports : Rules → Type 0
RunsFitReports model = (trace : TraceValue) → IsTrace trace → FitsReport trace.form (outcome model trace)

-- so the runs of two traces that have equal reports, each under a model of its own, came to the same
abbrev pub ReportsTellRuns : Rules → Rules → Type 0
ReportsTellRuns model other_model =
    (trace other : TraceValue) (name other_name : List ℕ) →
    IsTrace trace → IsTrace other → IsOnOneLine name → IsOnOneLine other_name →
    report trace.form name (outcome model trace) ≡ report other.form other_name (outcome other_model other) →
    (trace.form ≡ other.form) × (name ≡ other_name) × (outcome model trace ≡ outcome other_model other)
