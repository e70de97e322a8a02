-- What follows the numbers of events, by the codes of their replies.
use Rattle.std.proofs.Common.{◌≡◌, ◌<◌, ◌∙◌, ℕ, List, Option, Some, None, get_or, ap, subst}
use Rattle.lp_replay.specs.declared.replies.ShortReply.{ShortReply}
use Rattle.lp_replay.specs.Replies.{coded}
use Rattle.lp_text.specs.declared.form.TraceForm.{TraceForm}
use Rattle.lp_trace.specs.declared.report.events.Rest.{Rest}
use Rattle.lp_trace.specs.inside.Rests.{AreRests, Follows, IsRest}

-- what a table has for the code of a reply
pub rest_for : (form : TraceForm) (rests : List (Option Rest)) (i code : ℕ) (reply : ShortReply) (rest : Rest) → i < 64 → get_or rests i None ≡ Some rest → i ≡ code → coded code ≡ reply → AreRests form 64 rests → Follows form reply rest
rest_for form rests i code reply rest few found same is are =
    subst (λ (r : ShortReply). Follows form r rest) (ap coded same ∙ is) (subst (IsRest form (coded i)) found (are i few))
