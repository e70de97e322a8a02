-- What follows the numbers of events, by the codes of their replies.
use Rattle.std.specs.Prelude.{◌≡◌, ℕ, ◌<◌, ◌≤◌, ◌++◌, List, Option, None, take, get_or, IfSome}
use Rattle.lp_replay.specs.declared.replies.ShortReply.{ShortReply}
use Rattle.lp_replay.specs.Replies.{coded, lists_in, what_of}
use Rattle.lp_text.specs.declared.form.TraceForm.{TraceForm}
use Rattle.lp_text.specs.inside.Writing.{line_rest}
use Rattle.lp_trace.specs.Report.{complete_words, what_words}
use Rattle.lp_trace.specs.declared.report.events.Rest.{Rest}

-- the text is what follows the number of an event with this reply, which switched no group
pub record Follows (form : TraceForm) (reply : ShortReply) (rest : Rest) : Type 0 where
  pub size : rest.len ≤ 16
  pub plain : lists_in reply.what ≡ 0
  pub words : (lists : List (List ℕ)) → take rest.len rest.text ≡ line_rest (what_words form (what_of reply.what lists) ++ complete_words reply.completed)

-- it is so, where there is a text
abbrev pub IsRest : TraceForm → ShortReply → Option Rest → Type 0
IsRest form reply rest = IfSome rest (Follows form reply)

-- it is so of the first codes, so many
abbrev pub AreRests : TraceForm → ℕ → List (Option Rest) → Type 0
AreRests form count rests = (code : ℕ) → code < count → IsRest form (coded code) (get_or rests code None)
