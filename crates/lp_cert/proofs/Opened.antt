-- An event opens a leg where its reply says so.
use Rattle.std.proofs.Common.{◌≡◌, ℕ, suc, ◌&&◌, List, [], ◌∷◌, length, Option, Some, None, is_none, refl, ap}
use Rattle.lp_model.specs.Rules.{Rules}
use Rattle.lp_definitions.specs.declared.event.Event.{Event}
use Rattle.lp_definitions.specs.declared.event.Event.TheVariants.{Call}
use Rattle.lp_definitions.specs.declared.refusal.Refusal.{Refusal}
use Rattle.lp_definitions.specs.declared.reply.What.{What}
use Rattle.lp_definitions.specs.Events.{is_control}
use Rattle.lp_definitions.specs.Leg.{Leg}
use Rattle.lp_definitions.specs.Schedule.{first_check}
use Rattle.lp_definitions.specs.Run.{and_then, switched, switched_at, refused_by, opens, done, unless_why, reply}
use Rattle.lp_transition.specs.Weigh.{refusal_in}
use Rattle.lp_cert.specs.Ends.{is_opened}

module _ (model : Rules) where
  not_refused : (leg : Leg) (event : Event) → refusal_in (done model leg event) ≡ None
  not_refused leg (Call t f) = refl
  not_refused leg event = by (switched_at (and_then leg event) (first_check model (and_then leg event)) (suc (length leg.events)))
    where
      by : (groups : List ℕ) → refusal_in (switched groups) ≡ None
      by [] = refl
      by (group ∷ groups) = refl

  accepted_by : (why : Option Refusal) (what : What) → refusal_in what ≡ None → is_none (refusal_in (unless_why model why what)) ≡ is_none why
  accepted_by None what e = ap is_none e
  accepted_by (Some why) what e = refl

  pub opened_is : (leg : Leg) (event : Event) → is_opened event (reply model leg event).what ≡ opens model leg event
  unfolding reply
  opened_is leg event =
      ap (λ b. is_control event && b) (accepted_by (refused_by model leg event) (done model leg event) (not_refused leg event))
