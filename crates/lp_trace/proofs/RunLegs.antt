-- The numbers of the legs of a run are written whole.
use Rattle.std.proofs.Common.{◌≡◌, ℕ, suc, ◌+◌, ◌≤◌, List, [], ◌∷◌, length, map, All, if◌then◌else◌, subst, arith, length-append}
use Rattle.std.proofs.lemmas.Bool.{cond_both}
use Rattle.std.proofs.lemmas.List.Elements.{All-append, All-cons, All-drop, All-map, All-nil}
use Rattle.lp_model.specs.Rules.{Rules, IsLawful}
use Rattle.lp_definitions.specs.declared.event.Event.{Event}
use Rattle.lp_definitions.specs.Leg.{Leg}
use Rattle.lp_definitions.specs.Sound.{IsSound}
use Rattle.lp_definitions.specs.Run.{Run, AreInRange, and_then, first_leg, next_leg, opened, opens}
use Rattle.lp_laws.proofs.WholeRun.{next_sound, start_sound}
use Rattle.lp_definitions.specs.Certificates.{legs, opened_legs}
use Rattle.lp_definitions.specs.Ends.{end_of}
use Rattle.lp_laws.proofs.GroupsInRange.{GroupsAreInRange, next_in_range, start_in_range}
use Rattle.lp_text.specs.declared.form.TraceForm.{TraceForm}
use Rattle.lp_trace.specs.Laws.{IsWholeLeg, IsWholeLevel}
use Rattle.lp_trace.proofs.RunLevels.{IsUpTo, next_up_to, start_up_to}
use Rattle.lp_trace.proofs.RunLines.{certs_whole, completed_whole}

module _ (form : TraceForm) (model : Rules) (lawful : IsLawful model) (n : ℕ) (levels : (level : ℕ) → level ≤ n → IsWholeLevel form (record { 0 = level })) where
  -- what every leg of a run keeps
  record IsKept (leg : Leg) : Type 0 where
    sound : IsSound leg.opening
    in_range : GroupsAreInRange leg.opening
    up_to : IsUpTo n leg

  next_kept : (leg : Leg) (event : Event) → IsKept leg → IsKept (next_leg model leg event)
  next_kept leg event h =
      record { sound = next_sound model lawful leg event h.sound; in_range = next_in_range model lawful leg event h.in_range; up_to = next_up_to model n leg h.up_to event }

  abbrev so_far : Leg → ℕ
  so_far leg = leg.number + length leg.events

  one_more : (leg : Leg) (event : Event) → so_far (next_leg model leg event) ≡ suc (so_far leg)
  unfolding next_leg
  one_more leg event =
      cond_both (opens model leg event) (opened model leg event) (and_then leg event) (λ l. so_far l ≡ suc (so_far leg)) (λ e. omega arith) (λ e. omega (arith, length-append leg.events (event ∷ [])))

  abbrev EndsWhole : Leg → Type 0
  EndsWhole leg = IsWholeLeg form (end_of model leg)

  end_whole : (leg : Leg) → IsKept leg → so_far leg ≤ 1000000 → EndsWhole leg
  end_whole leg h short =
      record {
        opened = omega (arith, short);
        target = levels leg.target h.up_to.target;
        completed = completed_whole model lawful leg h.sound h.in_range h.up_to.bounds short;
        certs = certs_whole model lawful leg h.sound h.in_range h.up_to.bounds short;
      }

  all_whole : (leg : Leg) (events : List Event) → IsKept leg → so_far leg + length events ≤ 1000000 → All EndsWhole (legs model leg events)
  unfolding legs
  all_whole leg [] h short = All-cons EndsWhole leg [] (end_whole leg h (omega (arith, short))) (All-nil EndsWhole)
  all_whole leg (event ∷ events) h short =
      let more = one_more leg event in
      All-append EndsWhole (if opens model leg event then leg ∷ [] else []) (legs model (next_leg model leg event) events)
      (cond_both (opens model leg event) (leg ∷ []) [] (All EndsWhole) (λ e. All-cons EndsWhole leg [] (end_whole leg h (omega (arith, short))) (All-nil EndsWhole)) (λ e. All-nil EndsWhole))
      (all_whole (next_leg model leg event) events (next_kept leg event h) (omega (arith, short, more)))

  pub legs_whole : (run : Run) → AreInRange run.bounds run.boots → length run.patches ≡ n → run.bounds.tasks ≤ 65535 → length run.events ≤ 1000000 → All (IsWholeLeg form) (map (end_of model) (opened_legs model (first_leg model run) run.events))
  legs_whole run in_range patches few short =
      let sound = start_sound model lawful run.bounds run.patches run.boots in_range in
      let kept : IsKept (first_leg model run) = record {
        sound = sound;
        in_range = start_in_range model lawful run.bounds run.patches run.boots sound;
        up_to = subst (λ m. IsUpTo m (first_leg model run)) patches (start_up_to model run.bounds run.patches run.boots few);
      }
      in
      All-map (IsWholeLeg form) (end_of model) (opened_legs model (first_leg model run) run.events) (All-drop EndsWhole 1 (legs model (first_leg model run) run.events) (all_whole (first_leg model run) run.events kept (omega (arith, short))))
