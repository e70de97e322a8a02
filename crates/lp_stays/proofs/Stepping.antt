-- What a call that ran, an accepted return and any other event make of a count. And where no event is there yet.
use Rattle.std.proofs.Common.{◌≡◌, ℕ, zero, suc, ◌*◌, ◌<◌, ◌≤◌, List, [], ◌∷◌, ◌++◌, length, flat_map, count_by, replicate, get_or, true, false, Option, Some, None, nat_eq, refl, sym, ap, ap₂, ◌∙◌, subst, arith}
use Rattle.std.specs.List.{range_with_len}
use Rattle.std.proofs.lemmas.Bool.{cond_both, false≢true}
use Rattle.std.proofs.lemmas.List.Concat.{flat_map-cons}
use Rattle.lp_symbols.specs.declared.sym_id.SymId.{SymId}
use Rattle.lp_stack.specs.declared.number.Level.{Level}
use Rattle.lp_stack.specs.declared.number.TaskId.{TaskId}
use Rattle.lp_stack.specs.declared.view.Class.{Class}
use Rattle.lp_model.specs.Rules.{Rules, IsLawful}
use Rattle.lp_definitions.specs.declared.event.Event.{Event}
use Rattle.lp_definitions.specs.declared.event.Event.TheVariants.{Call, Ret}
use Rattle.lp_definitions.specs.declared.refusal.Refusal.{Refusal}
use Rattle.lp_definitions.specs.declared.reply.What.{What}
use Rattle.lp_definitions.specs.declared.reply.What.TheVariants.{Ran, Refused}
use Rattle.lp_definitions.specs.Tasks.{Fate, Live}
use Rattle.lp_definitions.specs.Leg.{LegTask, State}
use Rattle.lp_definitions.specs.Sound.{IsSound}
use Rattle.lp_definitions.specs.Run.{Run, plus, first_leg, leg_of, switched, at_boot, booted}
use Rattle.lp_machine.specs.Machine.{affected, switched_groups, refusal_of, level_of, answer_by, answer, state_of}
use Rattle.lp_definitions.specs.Stays.{sides, stack, moments, stays, is_mixed, all_stays, stay_count, mixed_count}
use Rattle.lp_machine.proofs.EngineLemmas.{answer-refused, answer-accepted}
use Rattle.lp_machine_laws.proofs.States.{state_sound}
use Rattle.lp_machine_laws.proofs.Steps.{open_shown, does}
use Rattle.lp_laws.proofs.WholeRun.{run_sound, start_sound}
use Rattle.lp_stays.specs.Invariant.{Tally, outside, kept}
use Rattle.lp_stays.specs.inside.Calls.{calls, returns, one_more}
use Rattle.lp_stays.specs.Counts.{Shows, Counts, IsNext, KeepsCounts, moves, top_of}
use Rattle.lp_stays.proofs.Stacks.{frames_in, refused_still, other_still, call_live, call_pushes, ret_live, ret_pops}
use Rattle.lp_stays.proofs.Moments.{run_bounds}
use Rattle.lp_stays.proofs.Counting.{still_counts, call_counts, return_counts}

-- ---- One event

abbrev ran_at : What → ℕ
ran_at (Ran level) = level.0
ran_at _ = 0

moves_switched : (task : TaskId) (groups : List ℕ) → moves (Ret task) (switched groups) ≡ true
moves_switched task [] = refl
moves_switched task (group ∷ groups) = refl

module _ (model : Rules) (lawful : IsLawful model) (run : Run) (count : Tally) (counts : Counts model run count) where
  abbrev now : State
  now = state_of model (leg_of model run)

  module _ (event : Event) (what : What) (comes : IsNext model run event what) where
    sound : IsSound (leg_of model run).opening
    sound = run_sound model lawful (first_leg model run) run.events (start_sound model lawful run.bounds run.patches run.boots comes.in_range)

    numbered : (t : ℕ) (x : LegTask) → now.tasks t ≡ Live x → (1 ≤ t) × (t < 65536)
    numbered t x live =
        let n = (state_sound model lawful (leg_of model run) sound).numbered t x live in
        let positive : 0 < t = n.0 in
        let within : t ≤ (leg_of model run).bounds.tasks = n.1 in
        let bound : (leg_of model run).bounds.tasks ≡ 65535 = ap (λ b. b.tasks) (run_bounds model (first_leg model run) run.events) ∙ counts.tasks in
        (omega arith, omega arith)

    answered : what ≡ (answer model now event).what
    answered = comes.replied ∙ sym (ap (λ r. r.what) (does model (leg_of model run) event lawful sound).answers)

    is_refused : (why : Refusal) → refusal_of model now event ≡ Some why → what ≡ Refused why
    is_refused why e = answered ∙ ap (λ r. r.what) (answer-refused model now event why e)

    accepted_reply : refusal_of model now event ≡ None → what ≡ (answer_by model now event None).what
    accepted_reply ok = answered ∙ ap (λ r. r.what) (answer-accepted model now event ok)

    refused : (why : Refusal) → refusal_of model now event ≡ Some why → Counts model (plus run event) count
    refused why e = still_counts model lawful run comes.in_range event count counts (refused_still model now event why e)

  -- ---- An event that moves no stack

  accepted : (event : Event) (what : What) → IsNext model run event what → moves event what ≡ false → refusal_of model now event ≡ None → Counts model (plus run event) count
  accepted (Call t func) what comes none ok =
      let is : what ≡ Ran (record { 0 = level_of model now t.0 }) = accepted_reply (Call t func) what comes ok in
      absurd (false≢true (sym none ∙ ap (moves (Call t func)) is))
  accepted (Ret t) what comes none ok =
      let groups = switched_groups model (affected model now (Ret t)) (Ret t) in
      let is : what ≡ switched groups = accepted_reply (Ret t) what comes ok in
      absurd (false≢true (sym none ∙ ap (moves (Ret t)) is ∙ moves_switched t groups))
  accepted event what comes none ok = still_counts model lawful run comes.in_range event count counts (other_still model now event refl)

  unmoved_counts : (event : Event) (what : What) → IsNext model run event what → moves event what ≡ false → Counts model (plus run event) count
  unmoved_counts event what comes none = by_refusal (refusal_of model now event) refl
    where
      by_refusal : (why : Option Refusal) → refusal_of model now event ≡ why → Counts model (plus run event) count
      by_refusal (Some why) e = refused event what comes why e
      by_refusal None e = accepted event what comes none e

  -- nor does a return of a task without a frame, as it is refused
  pub empty_return : (t : TaskId) (what : What) → top_of (stack model (leg_of model run) t.0) ≡ None → IsNext model run (Ret t) what → Counts model (plus run (Ret t)) count
  empty_return t what none comes = by_refusal (refusal_of model now (Ret t)) refl
    where
      by_refusal : (why : Option Refusal) → refusal_of model now (Ret t) ≡ why → Counts model (plus run (Ret t)) count
      by_refusal (Some why) e = refused (Ret t) what comes why e
      by_refusal None e =
          let pop = ret_pops model now t e in
          let one : Some pop.frame.func ≡ None = sym pop.func_is ∙ none in
          absurd (cc)

  module _ (wide : length count.present ≡ length count.patches * 65536) where
    -- ---- A call that ran

    pub call_counted : (t : TaskId) (func : SymId) (level : Level) → IsNext model run (Call t func) (Ran level) → Counts model (plus run (Call t func)) (calls (length count.patches) t.0 func.0 level.0 (one_more count))
    call_counted t func level comes = by_refusal (refusal_of model now (Call t func)) refl
      where
        by_refusal : (why : Option Refusal) → refusal_of model now (Call t func) ≡ why → Counts model (plus run (Call t func)) (calls (length count.patches) t.0 func.0 level.0 (one_more count))
        by_refusal (Some why) e =
            let is : Ran level ≡ Refused why = is_refused (Call t func) (Ran level) comes why e in
            absurd (cc)
        by_refusal None e =
            let live = call_live model now t func e in
            let n = numbered (Call t func) (Ran level) comes t.0 live.0 live.1 in
            let same : level_of model now t.0 ≡ level.0 = sym (ap ran_at (accepted_reply (Call t func) (Ran level) comes e)) in
            subst (λ l. Counts model (plus run (Call t func)) (calls (length count.patches) t.0 func.0 l (one_more count))) same
            (call_counts model lawful run comes.in_range (Call t func) count counts wide t.0 n.0 n.1 func (level_of model now t.0) (call_pushes model now t func e))

    -- ---- An accepted return

    pub return_counted : (t : TaskId) (func : SymId) (what : What) → moves (Ret t) what ≡ true → top_of (stack model (leg_of model run) t.0) ≡ Some func → IsNext model run (Ret t) what → Counts model (plus run (Ret t)) (returns (length count.patches) t.0 func.0 count)
    return_counted t func what moved top comes = by_refusal (refusal_of model now (Ret t)) refl
      where
        by_refusal : (why : Option Refusal) → refusal_of model now (Ret t) ≡ why → Counts model (plus run (Ret t)) (returns (length count.patches) t.0 func.0 count)
        by_refusal (Some why) e = absurd (false≢true (sym (ap (moves (Ret t)) (is_refused (Ret t) what comes why e)) ∙ moved))
        by_refusal None e =
            let live = ret_live model now t e in
            let n = numbered (Ret t) what comes t.0 live.0 live.1 in
            let pop = ret_pops model now t e in
            let tops : Some pop.frame.func ≡ Some func = sym pop.func_is ∙ top in
            let same : pop.frame.func ≡ func = cc in
            subst (λ f. Counts model (plus run (Ret t)) (returns (length count.patches) t.0 f.0 count)) same
            (return_counts model lawful run comes.in_range (Ret t) count counts wide t.0 n.0 n.1 pop)

-- an event that moves no stack leaves each count that of the run with the event
pub unmoved : KeepsCounts
unmoved event what count none = λ model lawful run counts comes. unmoved_counts model lawful run count counts event what comes none

-- ---- Before any event

-- nobody is in a stay
pub all_outside : (n i : ℕ) → get_or (replicate n outside) i outside ≡ outside
all_outside zero i = refl
all_outside (suc n) zero = refl
all_outside (suc n) (suc i) = all_outside n i

flat_map_none : {A : Type 0} (f : ℕ → List A) (xs : List ℕ) → ((x : ℕ) → f x ≡ []) → flat_map f xs ≡ []
flat_map_none f [] none = refl
flat_map_none f (x ∷ xs) none = flat_map-cons f x xs ∙ ap₂ (λ a b. a ++ b) (none x) (flat_map_none f xs none)

module _ (model : Rules) (run : Run) where
  boot_frames : (boots : List (TaskId × Class)) (t : ℕ) → frames_in (booted model boots t) ≡ []
  boot_frames [] t = refl
  boot_frames (boot ∷ boots) t =
      cond_both (nat_eq t boot.0.0) (Live (at_boot model t boot.1)) (booted model boots t) (λ fate. frames_in fate ≡ []) (λ e. refl) (λ e. boot_frames boots t)

  no_stack : (t : ℕ) → stack model (first_leg model run) t ≡ []
  no_stack t = ap (λ (tasks : ℕ → Fate LegTask). frames_in (tasks t)) (open_shown model (first_leg model run).opening) ∙ boot_frames run.boots t

  no_moment : (patch t : ℕ) → moments model patch t (first_leg model run) [] ≡ [] ∷ []
  unfolding moments
  no_moment patch t = ap (λ frames. sides run.patches patch frames ∷ []) (no_stack t)

  no_stay : all_stays model (first_leg model run) [] ≡ []
  unfolding all_stays stays
  no_stay =
      flat_map_none _ (range_with_len 1 run.bounds.tasks) (λ t. flat_map_none _ (range_with_len 1 (length run.patches)) (λ patch. ap stays (no_moment patch t)))

  pub started : (count : Tally) → count.patches ≡ run.patches → run.bounds.tasks ≡ 65535 → run.events ≡ [] → count.calls ≡ 0 → count.stays ≡ 0 → count.mixed ≡ 0 → ((below t : ℕ) → kept count below t ≡ outside) → Counts model run count
  started count patches tasks events none no_stays no_mixed empty =
      record {
        patches = patches;
        tasks = tasks;
        calls = omega (arith, none);
        stays = no_stays ∙ sym (ap (stay_count model (first_leg model run)) events ∙ ap length no_stay);
        mixed = no_mixed ∙ sym (ap (mixed_count model (first_leg model run)) events ∙ ap (count_by is_mixed) no_stay);
        present = λ below t lt small.
            subst (λ x. Shows x (moments model (suc below) t (first_leg model run) run.events)) (sym (empty below t)) (
            subst (λ e. Shows outside (moments model (suc below) t (first_leg model run) e)) (sym events) (subst (Shows outside) (sym (no_moment (suc below) t)) (record { frames = refl; old = refl; new = refl }))
            );
      }
