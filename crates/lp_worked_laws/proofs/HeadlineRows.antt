-- The headline tells the answers of its rows from the wrong ones.
use Rattle.std.proofs.Common.{◌≡◌, ◌+◌, ◌<◌, ◌≤◌, ℕ, suc, true, false, List, [], ◌∷◌, map, length, Option, Some, IsTrue, slice_get, refl, ap, subst, arith}
use mathlib.Core.Path.{fun_ext}
use Rattle.std.specs.List.{range_with_len}
use Rattle.std.specs.Option.{option_map}
use Rattle.std.proofs.lemmas.List.Elements.{All-nil, All-cons}
use Rattle.lp_symbols.specs.declared.sym_id.SymId.{SymId}
use Rattle.lp_stack.specs.declared.number.TaskId.{TaskId}
use Rattle.lp_stack.specs.declared.view.Class.{Class}
use Rattle.lp_patch.specs.Patches.{version}
use Rattle.lp_model.specs.Rules.{Rules}
use Rattle.lp_model.specs.Row.{rules_of}
use Rattle.lp_models.specs.Models.{hybrid}
use Rattle.lp_models.specs.inside.ModelLaws.{hybrid_lawful}
use Rattle.lp_definitions.specs.declared.event.Event.{Event}
use Rattle.lp_definitions.specs.declared.event.Event.TheVariants.{Call}
use Rattle.lp_definitions.specs.declared.reply.What.{What}
use Rattle.lp_definitions.specs.declared.reply.What.TheVariants.{Ran}
use Rattle.lp_definitions.specs.declared.reply.Reply.{Reply}
use Rattle.lp_worked_laws.specs.Rows.{normal, task}
use Rattle.lp_definitions.specs.Sound.{IsSound}
use Rattle.lp_definitions.specs.Tasks.{Life, Live, Made, refusal, effect}
use Rattle.lp_definitions.specs.Leg.{Leg, accepted, after, tasks_after, each_live, some_live, check}
use Rattle.lp_definitions.specs.Schedule.{Schedule, frame_of, level_by, waits, allowed, complete, first_checks, first_check}
use Rattle.lp_definitions.specs.Run.{AreInRange, first_leg, leg_of, switched_at, is_complete_now, refused_by, shown, next_leg, reply, replies, leg_after}
use Rattle.lp_definitions.specs.Stays.{moments, stays, all_stays}
use Rattle.lp_laws.proofs.First.{first_check_is}
use Rattle.lp_laws.proofs.NoEarlier.{one_first_check}
use Rattle.lp_laws.proofs.WholeRun.{run_sound, start_sound}
use Rattle.lp_definitions.specs.Ends.{LegEnd}
use Rattle.lp_definitions.specs.Certificates.{lines, completion, legs}
use Rattle.lp_definitions.specs.Outcome.{Outcome, IsOutcome}
use Rattle.lp_definitions.specs.Headline.{Headline, HeadlineOfLeg, SwitchAtFirstChecks, CallsRunTheirFrames, switched_groups, replies_in}
use Rattle.lp_worked_laws.specs.HeadlineRows.{HeadlineRefuses, of_task_1, leaves_twice, sleeps_above_a_changed_function, forks_and_leaves, dies_before_a_walk, calls_and_waits, calls_and_has_switched}
use Rattle.lp_laws.proofs.Headline.{headline_holds}

abbrev rules : Rules
rules = rules_of hybrid

-- the leg under way after these events, which is the only one where one of them opened one
abbrev leg_after_all : List Event → Leg
leg_after_all events = leg_of rules (of_task_1 events)

in_range : (events : List Event) → AreInRange (of_task_1 events).bounds (of_task_1 events).boots
in_range events =
    All-cons (λ (boot : TaskId × Class). (0 < boot.0.0) × (boot.0.0 ≤ 9)) (normal 1) [] (omega arith, omega arith) (All-nil _)

opens_soundly : (events : List Event) → IsSound (leg_after_all events).opening
opens_soundly events =
    let run = of_task_1 events in
    run_sound rules hybrid_lawful (first_leg rules run) events (start_sound rules hybrid_lawful run.bounds run.patches run.boots (in_range events))

-- ---- The answers

answered : (events : List Event) → length events ≤ 1000000 → (found : Outcome) → IsOutcome rules (of_task_1 events) found → Headline rules (of_task_1 events) found
answered events few found is = (headline_holds rules hybrid_lawful).holds (of_task_1 events) (in_range events) few found is

-- ---- What the headline says of the leg, by the schedule that is computed

module _ (events : List Event) (given : List Reply) (end : LegEnd) (h : HeadlineOfLeg rules given (leg_after_all events) end) where
  abbrev leg : Leg
  leg = leg_after_all events

  abbrev first : Schedule
  first = first_check rules leg

  computed : h.first ≡ first
  computed =
      fun_ext (λ group. one_first_check rules leg hybrid_lawful (opens_soundly events) h.first first h.is_first (first_check_is rules leg) group)

  named : map (λ (reply : Reply). switched_groups reply.what) (replies_in leg given) ≡ map (switched_at leg first) (range_with_len 0 (suc (length leg.events)))
  named = subst (λ s. SwitchAtFirstChecks rules leg s given) computed h.first_checks

  ran_its_level : (k : ℕ) (t : TaskId) (f : SymId) (x : Life) → accepted rules leg k ≡ Some (Call t f) → after rules leg k t.0 ≡ Live x → option_map (λ (reply : Reply). reply.what) (slice_get (replies_in leg given) (suc k)) ≡ Some (Ran (frame_of leg first x (Made f k)).level)
  ran_its_level = subst (λ s. CallsRunTheirFrames rules leg s given) computed h.calls

  is_complete : (at : ℕ) → end.completed ≡ Some at → (k : ℕ) × (at ≡ leg.number + k) × IsTrue (complete rules leg first k)
  is_complete at e =
      let found = h.none_earlier.completed at e in
      (found.0, found.1, subst (λ s. IsTrue (complete rules leg s found.0)) computed found.2.now)

  is_told : (k : ℕ) → k ≤ length leg.events → IsTrue (complete rules leg first k) → (j : ℕ) × (j ≤ k) × (end.completed ≡ Some (leg.number + j))
  is_told k le done = h.none_earlier.completes first (first_check_is rules leg).legal k le done

-- ---- The rows

-- the version that an answer tells; 0 of any other
abbrev level_told : Option What → ℕ
level_told (Some (Ran level)) = level.0
level_told _ = 0

pub headline_refuses : HeadlineRefuses rules
unfolding version refusal effect tasks_after each_live some_live check level_by waits allowed complete first_checks moments stays all_stays is_complete_now refused_by shown next_leg reply replies leg_after lines completion legs
headline_refuses =
    record {
      second_allowed_check = record {
        holds = answered leaves_twice.events (omega arith) _ (record { replied = refl; legs = refl; stays = refl; mixed = refl });
        refuses = λ h.
            let differ : ([] ∷ [] ∷ [] ∷ [] ∷ (1 ∷ []) ∷ []) ≡ ([] ∷ [] ∷ (1 ∷ []) ∷ [] ∷ [] ∷ []) = named leaves_twice.events _ _ h.legs.0 in
            cc;
      };
      only_the_top_frame = record {
        holds = answered sleeps_above_a_changed_function.events (omega arith) _ (record { replied = refl; legs = refl; stays = refl; mixed = refl });
        refuses = λ h. let differ : ([] ∷ (1 ∷ []) ∷ []) ≡ ([] ∷ [] ∷ []) = named sleeps_above_a_changed_function.events _ _ h.legs.0 in cc;
      };
      child_born_on_target = record {
        holds = answered forks_and_leaves.events (omega arith) _ (record { replied = refl; legs = refl; stays = refl; mixed = refl });
        refuses = λ h.
            let found = is_complete forks_and_leaves.events _ _ h.legs.0 4 refl in
            let at : 4 ≡ 2 + found.0 = found.1 in
            let two : found.0 ≡ 2 = omega (arith, at) in
            let not_yet : false ≡ true = subst (λ k. IsTrue (complete rules (leg_of rules forks_and_leaves) (first_check rules (leg_of rules forks_and_leaves)) k)) two found.2 in
            cc;
      };
      completes_only_at_checks = record {
        holds = answered dies_before_a_walk.events (omega arith) _ (record { replied = refl; legs = refl; stays = refl; mixed = refl });
        refuses = λ h.
            let by_then = is_told dies_before_a_walk.events _ _ h.legs.0 1 (omega arith) refl in
            let at : Some 4 ≡ Some (2 + by_then.0) = by_then.2 in
            let same : 4 ≡ 2 + by_then.0 = cc in
            omega (arith, by_then.1, same);
      };
      new_version_too_early = record {
        holds = answered calls_and_waits.events (omega arith) _ (record { replied = refl; legs = refl; stays = refl; mixed = refl });
        refuses = λ h. let differ : 1 ≡ 0 = ap level_told (ran_its_level calls_and_waits.events _ _ h.legs.0 1 (task 1) (record { 0 = 0 }) _ refl refl) in omega (arith, differ);
      };
      old_version_too_long = record {
        holds = answered calls_and_has_switched.events (omega arith) _ (record { replied = refl; legs = refl; stays = refl; mixed = refl });
        refuses = λ h. let differ : 0 ≡ 1 = ap level_told (ran_its_level calls_and_has_switched.events _ _ h.legs.0 3 (task 1) (record { 0 = 0 }) _ refl refl) in omega (arith, differ);
      };
      wrong_target = record {
        holds = answered calls_and_waits.events (omega arith) _ (record { replied = refl; legs = refl; stays = refl; mixed = refl });
        refuses = λ h. let differ : 0 ≡ 1 = h.legs.0.target in omega (arith, differ);
      };
      wrong_opening = record {
        holds = answered calls_and_waits.events (omega arith) _ (record { replied = refl; legs = refl; stays = refl; mixed = refl });
        refuses = λ h. let differ : 2 ≡ 1 = h.legs.0.opened in omega (arith, differ);
      };
    }
