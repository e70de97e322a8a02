-- The report of a run, as a text.
use Rattle.std.specs.Prelude.{ℕ, suc, true, false, Bool, List, [], ◌∷◌, ◌++◌, length, map, decimal, codes, nat_eq, if◌then◌else◌}
use Rattle.std.specs.List.{flat_map}
use Rattle.lp_stack.specs.declared.number.Level.{Level}
use Rattle.lp_definitions.specs.declared.reply.What.{What}
use Rattle.lp_definitions.specs.declared.reply.What.TheVariants.{Ran, Done, Switched, Refused}
use Rattle.lp_definitions.specs.declared.reply.Reply.{Reply}
use Rattle.lp_definitions.specs.Events.{refusal_number}
use Rattle.lp_definitions.specs.Ends.{LegEnd}
use Rattle.lp_text.specs.CertTexts.{cert_lines, end_words}
use Rattle.lp_text.specs.declared.form.TraceForm.{TraceForm}
use Rattle.lp_text.specs.declared.form.TraceForm.TheVariants.{Single, Stacked, WithResched}
use Rattle.lp_definitions.specs.Outcome.{Outcome}
use Rattle.lp_text.specs.Words.{line_of}

-- ---- Words

-- the first line
abbrev pub report_header : TraceForm → List ℕ
report_header Single = codes "lpreport 1"
report_header Stacked = codes "lpreport 2"
report_header WithResched = codes "lpreport 3"

-- a level: with one patch there is an old and a new one
abbrev pub level_word : TraceForm → Level → List ℕ
level_word Single level = if nat_eq level.0 0 then codes "old" else codes "new"
level_word _ level = decimal level.0

-- what an event did
abbrev pub what_words : TraceForm → What → List (List ℕ)
what_words form (Ran level) = codes "ran" ∷ level_word form level ∷ []
what_words form Done = codes "done" ∷ []
what_words form (Switched groups) = codes "over" ∷ map decimal groups
what_words form (Refused why) = codes "refused" ∷ (codes "E" ++ decimal (refusal_number why)) ∷ []

abbrev pub complete_words : Bool → List (List ℕ)
complete_words true = codes "complete" ∷ []
complete_words false = []

-- ---- Lines, each as its words

-- the number of an event and the reply to it
abbrev pub reply_line : TraceForm → ℕ → Reply → List (List ℕ)
reply_line form number reply = decimal number ∷ what_words form reply.what ++ complete_words reply.completed

-- the replies, the first of which has this number
unfoldable pub reply_lines : TraceForm → ℕ → List Reply → List (List (List ℕ))
reply_lines form number [] = []
reply_lines form number (reply ∷ replies) = reply_line form number reply ∷ reply_lines form (suc number) replies

-- where a leg takes the tasks
abbrev pub target_words : TraceForm → Level → List (List ℕ)
target_words Single level = level_word Single level ∷ []
target_words form level = codes "to" ∷ level_word form level ∷ []

abbrev pub leg_line : TraceForm → LegEnd → List (List ℕ)
leg_line form leg =
    codes "leg" ∷ decimal leg.opened ∷ target_words form leg.target ++ end_words leg.completed (length leg.certs)

-- a leg and its certificates
abbrev pub leg_lines : TraceForm → LegEnd → List (List (List ℕ))
leg_lines form leg = leg_line form leg ∷ flat_map cert_lines leg.certs

abbrev pub stays_line : Outcome → List (List ℕ)
stays_line outcome = codes "stays" ∷ decimal outcome.stays ∷ codes "mixed" ∷ decimal outcome.mixed ∷ []

-- ---- The text

-- the lines after the first: the model, each event, each leg with its certificates, and the stays
unfoldable pub report_lines : TraceForm → List ℕ → Outcome → List (List (List ℕ))
report_lines form name outcome =
    (codes "model" ∷ name ∷ [])
    ∷ reply_lines form 1 outcome.replies
    ++ flat_map (leg_lines form) outcome.legs
    ++ stays_line outcome ∷ []

-- the report of an outcome under a model of this name
unfoldable pub report : TraceForm → List ℕ → Outcome → List ℕ
report form name outcome = report_header form ++ 10 ∷ [] ++ flat_map line_of (report_lines form name outcome)
