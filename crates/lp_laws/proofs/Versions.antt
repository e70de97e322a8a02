-- The version that a reply tells a call is the level of the frame that the call pushes.
use Rattle.std.proofs.Common.{◌≡◌, ◌+◌, ◌<◌, ◌≤◌, ℕ, zero, suc, pred, List, [], ◌∷◌, ◌++◌, length, take, drop, Option, Some, None, slice_get, refl, sym, ap, ◌∙◌, subst, ⊎_elim, arith, length-append}
use Rattle.std.specs.Option.{option_map}
use Rattle.std.proofs.lemmas.Bool.{cases_lt}
use Rattle.std.proofs.lemmas.Option.{slice_get_within}
use Rattle.lp_symbols.specs.declared.sym_id.SymId.{SymId}
use Rattle.lp_stack.specs.declared.number.TaskId.{TaskId}
use Rattle.lp_model.specs.Rules.{Rules}
use Rattle.lp_definitions.specs.declared.event.Event.{Event}
use Rattle.lp_definitions.specs.declared.event.Event.TheVariants.{Call}
use Rattle.lp_definitions.specs.declared.refusal.Refusal.{Refusal}
use Rattle.lp_definitions.specs.declared.reply.What.{What}
use Rattle.lp_definitions.specs.declared.reply.What.TheVariants.{Ran}
use Rattle.lp_definitions.specs.declared.reply.Reply.{Reply}
use Rattle.lp_definitions.specs.Tasks.{Life, Live, Made, Bounds, Tasks, on_live, map_live, refusal}
use Rattle.lp_definitions.specs.Leg.{Leg, accept, accepted, after, unless_refused}
use Rattle.lp_definitions.specs.Schedule.{first_check, frame_of, leg_task, level}
use Rattle.lp_definitions.specs.Run.{and_then, done, reply, shown, unless_why}
use Rattle.lp_definitions.specs.Headline.{CallsRunTheirFrames}
use Rattle.lp_laws.proofs.First.{level_agrees}
use Rattle.lp_laws.proofs.NextTasks.{come_from, from_later}
use Rattle.lp_laws.proofs.Prefix.{accepted_same, after_same, prefix_get}
use Rattle.lp_laws.proofs.OneMore.{accepted_is, end_get, plain_refusal}
use Rattle.lp_laws.proofs.Past.{agree}

-- ---- Elements of parts of a list

get_take : {A : Type 0} (n : ℕ) (xs : List A) (k : ℕ) → k < n → slice_get (take n xs) k ≡ slice_get xs k
get_take zero xs k lt = absurd (omega arith)
get_take (suc n) [] k lt = refl
get_take (suc n) (x ∷ xs) zero lt = refl
get_take (suc n) (x ∷ xs) (suc k) lt = get_take n xs k (omega arith)

get_drop : {A : Type 0} (n : ℕ) (xs : List A) (k : ℕ) → slice_get (drop n xs) k ≡ slice_get xs (n + k)
get_drop zero xs k = ap (slice_get xs) (omega arith)
get_drop (suc n) [] k = refl
get_drop (suc n) (x ∷ xs) k =
    let more : suc (n + k) ≡ suc n + k = omega arith in
    get_drop n xs k ∙ ap (slice_get (x ∷ xs)) more

-- ---- Accepted events

event_there : (bounds : Bounds) (now : Tasks) (o : Option Event) (e : Event) → accept bounds now o ≡ Some e → (event : Event) × (o ≡ Some event)
event_there bounds now None e h = absurd (cc)
event_there bounds now (Some event) e h = (event, refl)

record IsAccepted (why : Option Refusal) (event e : Event) : Type 0 where
  fits : why ≡ None
  same : event ≡ e

unrefused : (why : Option Refusal) (event e : Event) → unless_refused why event ≡ Some e → IsAccepted why event e
unrefused None event e h = record { fits = refl; same = cc }
unrefused (Some r) event e h = absurd (cc)

module _ (model : Rules) where
  -- what was answered to event k + 1 of a leg, in the replies to the whole run
  abbrev answer_to : List Reply → Leg → ℕ → Option What
  answer_to replies leg k = option_map (λ reply. reply.what) (slice_get replies (leg.number + k))

  abbrev version : Leg → Life → SymId → ℕ → What
  version leg x f k = Ran (frame_of leg (first_check model leg) x (Made f k)).level

  -- the same as CallsRunTheirFrames, by the numbers of the run
  abbrev pub AreTold : List Reply → Leg → Type 0
  AreTold replies leg =
      (k : ℕ) (t : TaskId) (f : SymId) (x : Life) → accepted model leg k ≡ Some (Call t f) → after model leg k t.0 ≡ Live x → answer_to replies leg k ≡ Some (version leg x f k)

  accepted_within : (leg : Leg) (k : ℕ) (e : Event) → accepted model leg k ≡ Some e → k < length leg.events
  accepted_within leg k e h =
      let there = event_there leg.bounds (after model leg k) (slice_get leg.events k) e h in
      slice_get_within leg.events k there.0 there.1

  -- ---- One event more

  told_of_call : (leg : Leg) (t : TaskId) (f : SymId) (x : Life) → refusal leg.bounds (after model leg (length leg.events)) (Call t f) ≡ None → after model leg (length leg.events) t.0 ≡ Live x → (reply model leg (Call t f)).what ≡ version leg x f (length leg.events)
  unfolding reply shown
  told_of_call leg t f x none live =
      ap (λ why. unless_why model why (done model leg (Call t f))) (plain_refusal model leg (Call t f) refl ∙ none)
      ∙ ap (λ fate. Ran (record { 0 = on_live 0 (λ y. y.level) (map_live (leg_task leg (first_check model leg) (length leg.events)) fate) })) live

  module _ (before : List Reply) (leg : Leg) (event : Event) (numbered : length before ≡ leg.number + length leg.events) where
    abbrev longer : Leg
    longer = and_then leg event

    abbrev n : ℕ
    n = length leg.events

    abbrev replies : List Reply
    replies = before ++ reply model leg event ∷ []

    version_same : (k t : ℕ) (f : SymId) (x : Life) → k ≤ n → after model leg k t ≡ Live x → version longer x f k ≡ version leg x f k
    version_same k t f x le live =
        ap (λ l. Ran (record { 0 = l })) (level_agrees leg.target n k x.group (first_check model longer) (first_check model leg) (agree model leg event) le x.origin (from_later k (suc n) (omega arith) x.origin (come_from model.child_group leg k t x live)))

    told_before : AreTold before leg → (k : ℕ) (t : TaskId) (f : SymId) (x : Life) → k < n → accepted model longer k ≡ Some (Call t f) → after model longer k t.0 ≡ Live x → answer_to replies longer k ≡ Some (version longer x f k)
    told_before told k t f x lt e live =
        let was_live : after model leg k t.0 ≡ Live x = sym (ap (λ ts. ts t.0) (after_same model leg event k (omega arith))) ∙ live in
        ap (option_map (λ reply. reply.what)) (prefix_get before (reply model leg event ∷ []) (leg.number + k) (omega (arith, numbered)))
        ∙ (told k t f x (sym (accepted_same model leg event k lt) ∙ e) was_live ∙ ap Some (sym (version_same k t.0 f x (omega arith) was_live)))

    told_now : (t : TaskId) (f : SymId) (x : Life) → accepted model longer n ≡ Some (Call t f) → after model longer n t.0 ≡ Live x → answer_to replies longer n ≡ Some (version longer x f n)
    told_now t f x e live =
        let was_live : after model leg n t.0 ≡ Live x = sym (ap (λ ts. ts t.0) (after_same model leg event n (omega arith))) ∙ live in
        let is = unrefused (refusal leg.bounds (after model leg n) event) event (Call t f) (sym (accepted_is model leg event) ∙ e) in
        let none : refusal leg.bounds (after model leg n) (Call t f) ≡ None = sym (ap (refusal leg.bounds (after model leg n)) is.same) ∙ is.fits in
        ap (λ place. option_map (λ reply. reply.what) (slice_get replies place)) (sym numbered)
        ∙ (ap (option_map (λ reply. reply.what)) (end_get before (reply model leg event))
        ∙ (ap (λ call. Some (reply model leg call).what) is.same ∙ ap Some (told_of_call leg t f x none was_live ∙ sym (version_same n t.0 f x (omega arith) was_live))))

    pub told_longer : AreTold before leg → AreTold replies longer
    told_longer told k t f x e live =
        let long : length longer.events ≡ suc n = omega (arith, length-append leg.events (event ∷ [])) in
        ⊎_elim
        (λ (lt : k < n). told_before told k t f x lt e live)
        (λ (ge : n ≤ k).
        let same : k ≡ n = omega (arith, accepted_within longer k (Call t f) e, long, ge) in
        subst (λ m. answer_to replies longer m ≡ Some (version longer x f m)) (sym same)
        (told_now t f x (subst (λ m. accepted model longer m ≡ Some (Call t f)) same e) (subst (λ m. after model longer m t.0 ≡ Live x) same live)))
        (cases_lt k n)

  -- a leg has no events as it opens
  pub told_at_opening : (replies : List Reply) (leg : Leg) → leg.events ≡ [] → AreTold replies leg
  told_at_opening replies leg none k t f x e live = absurd (omega (arith, accepted_within leg k (Call t f) e, ap length none))

  -- ---- The whole leg

  -- whatever is answered after the leg
  pub told_in_leg : (before later : List Reply) (leg : Leg) → 0 < leg.number → length before ≡ leg.number + length leg.events → AreTold before leg → CallsRunTheirFrames model leg (first_check model leg) (before ++ later)
  told_in_leg before later leg opened numbered told k t f x e live =
      let within = accepted_within leg k (Call t f) e in
      let place : pred leg.number + suc k ≡ leg.number + k = omega (arith, opened) in
      let what : Option Reply → Option What = option_map (λ reply. reply.what) in
      ap what (get_take (suc (length leg.events)) (drop (pred leg.number) (before ++ later)) (suc k) (omega (arith, within)))
      ∙ (ap what (get_drop (pred leg.number) (before ++ later) (suc k) ∙ ap (slice_get (before ++ later)) place)
      ∙ (ap what (prefix_get before later (leg.number + k) (omega (arith, numbered, within))) ∙ told k t f x e live))
