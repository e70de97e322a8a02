-- What is kept of a run after one event more.
use Rattle.std.proofs.Common.{◌≡◌, ◌<◌, ◌≤◌, ◌+◌, ℕ, List, [], ◌∷◌, ◌++◌, length, false, Option, Some, None, Result, Ok, Err, IfOk, refl, sym, ap, ap₂, ◌∙◌, arith, length-append, append_assoc, get_or, subst, take}
use Rattle.std.proofs.lemmas.List.{append-nil, length-take-le, take_more}
use Rattle.lp_symbols.specs.declared.sym_id.SymId.{SymId}
use Rattle.lp_stack.specs.declared.number.Level.{Level}
use Rattle.lp_stack.specs.declared.number.TaskId.{TaskId}
use Rattle.lp_model.specs.Rules.{Rules}
use Rattle.lp_definitions.specs.declared.event.Event.{Event}
use Rattle.lp_definitions.specs.declared.event.Event.TheVariants.{Call}
use Rattle.lp_definitions.specs.declared.reply.What.{What}
use Rattle.lp_definitions.specs.declared.reply.What.TheVariants.{Ran}
use Rattle.lp_definitions.specs.declared.reply.Reply.{Reply}
use Rattle.lp_definitions.specs.Leg.{Leg}
use Rattle.lp_definitions.specs.Run.{Run, next_leg, reply, replies, leg_after, first_leg, plus}
use Rattle.lp_machine.specs.Steps.{IsStep}
use Rattle.lp_machine.specs.Table.{state_in}
use Rattle.lp_stays.specs.Invariant.{Tally}
use Rattle.lp_stays.specs.Counts.{Counts, IsNext, moves}
use Rattle.lp_cert.specs.Explained.{Explained, IsExplained}
use Rattle.lp_cert.proofs.Explaining.{number_is}
use Rattle.lp_replay.specs.inside.Recording.{Recorded, IsRecorded}

-- ---- One event more

module _ (model : Rules) where
  replies-plus : (leg : Leg) (events : List Event) (event : Event) → replies model leg (events ++ event ∷ []) ≡ replies model leg events ++ reply model (leg_after model leg events) event ∷ []
  unfolding replies leg_after
  replies-plus leg [] event = refl
  replies-plus leg (first ∷ events) event = ap (λ rest. reply model leg first ∷ rest) (replies-plus (next_leg model leg first) events event)

pub ok_weaker : {A E : Type 0} (P Q : A → Type 0) → ((x : A) → P x → Q x) → (r : Result A E) → IfOk r P → IfOk r Q
ok_weaker P Q f (Ok x) h = f x h
ok_weaker P Q f (Err e) h = tt

-- ---- What moves no stack

-- a call that didn't run
pub not_ran : (t : TaskId) (func : SymId) (what : What) → ((level : Level) → what ≡ Ran level → ⊥) → moves (Call t func) what ≡ false
not_ran t func (Ran level) none = absurd (none level refl)
not_ran t func _ none = refl

pub no_some : {A : Type 0} (o : Option A) → ((x : A) → o ≡ Some x → ⊥) → o ≡ None
no_some None none = refl
no_some (Some x) none = absurd (none x refl)

-- ---- The run with one event more

module _ (model : Rules) where
  -- what is kept after a step is that of the longer run, if the count of stays is
  pub stepped : (run : Run) (event : Event) (kept : Recorded) (given : Reply) (explained : Explained) (count : Tally)
      → IsRecorded model run kept → IsStep model (state_in kept.explained.core) event given (state_in explained.core) → (IsExplained model run kept.explained → IsExplained model (plus run event) explained)
      → (Counts model run kept.stays → IsNext model run event given.what → Counts model (plus run event) count)
      → IsRecorded model (plus run event) (record { explained = explained; replies = kept.replies ++ given ∷ []; stays = count })
  stepped run event kept given explained count is step further counts =
      let stands = is.explained.stands in
      let replied = step.replies run stands in
      record {
        explained = further is.explained;
        replied = ap₂ (λ rs r. rs ++ r ∷ []) is.replied replied ∙ sym (replies-plus model (first_leg model run) run.events event);
        counts = counts is.counts (record { in_range = stands.in_range; replied = ap (λ r. r.what) replied });
      }

  -- a run before its first event
  pub none_recorded : (run : Run) (kept : Recorded) → IsExplained model run kept.explained → kept.replies ≡ [] → run.events ≡ [] → Counts model run kept.stays → IsRecorded model run kept
  unfolding replies
  none_recorded run kept explained empty none counts =
      record { explained = explained; replied = empty ∙ sym (ap (replies model (first_leg model run)) none); counts = counts }

  -- ---- The run with these events more

  pub recorded_first : (run : Run) (kept : Recorded) → IsRecorded model run kept → IsRecorded model (record run { events = run.events ++ [] }) kept
  recorded_first run kept is = subst (λ (es : List Event). IsRecorded model (record run { events = es }) kept) (sym (append-nil run.events)) is

  pub recorded_more : (run : Run) (events : List Event) (i : ℕ) (d : Event) (kept : Recorded) → i < length events → IsRecorded model (plus (record run { events = run.events ++ take i events }) (get_or events i d)) kept → IsRecorded model (record run { events = run.events ++ take (i + 1) events }) kept
  recorded_more run events i d kept below is =
      let same : run.events ++ take (i + 1) events ≡ (run.events ++ take i events) ++ get_or events i d ∷ [] = ap (λ l. run.events ++ l) (take_more events i d below) ∙ sym (append_assoc run.events (take i events) (get_or events i d ∷ [])) in
      subst (λ (es : List Event). IsRecorded model (record run { events = es }) kept) (sym same) is

  -- a number is left for one event more
  pub room_left : (run : Run) (events : List Event) (i : ℕ) (kept : Recorded) → i < length events → length run.events + length events ≤ 1000000 → IsRecorded model (record run { events = run.events ++ take i events }) kept → (kept.explained.core.number < 1000000) × (kept.stays.calls < 1000000)
  room_left run events i kept below few is =
      let longer : Run = record run { events = run.events ++ take i events } in
      let numbered = number_is model longer kept.explained.core is.explained.stands in
      let counted = is.counts.calls in
      let long = length-append run.events (take i events) in
      let taken = length-take-le i events (omega arith) in
      (omega (arith, few, numbered, long, taken), omega (arith, few, counted, long, taken))
