-- The numbers of a run's replies are written whole.
use Rattle.std.proofs.Common.{ℕ, suc, ◌<◌, ◌≤◌, List, [], ◌∷◌, length, All, Option, None, Some, arith}
use Rattle.std.specs.List.{range_with_len}
use Rattle.std.proofs.lemmas.List.Elements.{All-cons, All-filter, All-nil, All-weaker}
use Rattle.lp_model.specs.Rules.{Rules}
use Rattle.lp_definitions.specs.declared.event.Event.{Event}
use Rattle.lp_definitions.specs.declared.event.Event.TheVariants.{Call}
use Rattle.lp_definitions.specs.declared.refusal.Refusal.{Refusal}
use Rattle.lp_definitions.specs.declared.reply.Reply.{Reply}
use Rattle.lp_definitions.specs.declared.reply.What.{What}
use Rattle.lp_definitions.specs.Leg.{Leg}
use Rattle.lp_definitions.specs.Schedule.{Schedule, first_check}
use Rattle.lp_definitions.specs.Run.{and_then, done, is_at, level_now, next_leg, refused_by, replies, reply, switched, switched_at, unless_why}
use Rattle.lp_text.specs.declared.form.TraceForm.{TraceForm}
use Rattle.lp_trace.specs.Laws.{IsWhole, IsWholeLevel, IsWholeWhat}
use Rattle.lp_trace.proofs.RunLevels.{IsUpTo, next_up_to, now_up_to}
use Rattle.lp_trace.proofs.RunLines.{range_below}

module _ (form : TraceForm) where
  switched_whole : (groups : List ℕ) → All IsWhole groups → IsWholeWhat form (switched groups)
  switched_whole [] h = tt
  switched_whole (group ∷ groups) h = h

  at_whole : (leg : Leg) (schedule : Schedule) (k : ℕ) → leg.bounds.tasks ≤ 65535 → All IsWhole (switched_at leg schedule k)
  at_whole leg schedule k few =
      All-filter (λ group. is_at k (schedule group)) IsWhole (range_with_len 0 (suc leg.bounds.tasks)) (All-weaker (λ group. group < 65536) IsWhole (λ group small. omega arith) (range_with_len 0 (suc leg.bounds.tasks)) (range_below 0 (suc leg.bounds.tasks) 65536 (omega arith)))

  module _ (model : Rules) (n : ℕ) (levels : (level : ℕ) → level ≤ n → IsWholeLevel form (record { 0 = level })) where
    unless_whole : (why : Option Refusal) (what : What) → IsWholeWhat form what → IsWholeWhat form (unless_why model why what)
    unless_whole None what h = h
    unless_whole (Some why) what h = tt

    done_whole : (leg : Leg) (event : Event) → IsUpTo n leg → IsWholeWhat form (done model leg event)
    done_whole leg (Call t f) h = levels (level_now model leg t.0) (now_up_to model n leg h t.0)
    done_whole leg event h =
        switched_whole (switched_at leg (first_check model (and_then leg event)) (suc (length leg.events))) (at_whole leg (first_check model (and_then leg event)) (suc (length leg.events)) h.bounds)

    reply_whole : (leg : Leg) (event : Event) → IsUpTo n leg → IsWholeWhat form (reply model leg event).what
    unfolding reply
    reply_whole leg event h = unless_whole (refused_by model leg event) (done model leg event) (done_whole leg event h)

    pub replies_whole : (leg : Leg) (events : List Event) → IsUpTo n leg → All (λ reply. IsWholeWhat form reply.what) (replies model leg events)
    unfolding replies
    replies_whole leg [] h = All-nil (λ (r : Reply). IsWholeWhat form r.what)
    replies_whole leg (event ∷ events) h =
        All-cons (λ (r : Reply). IsWholeWhat form r.what) (reply model leg event) (replies model (next_leg model leg event) events) (reply_whole leg event h) (replies_whole (next_leg model leg event) events (next_up_to model n leg h event))
