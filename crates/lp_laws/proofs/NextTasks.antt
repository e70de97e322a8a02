-- How the tasks come from one event to the next.
use Rattle.std.proofs.Common.{◌≡◌, ◌≢◌, ℕ, zero, suc, pred, ◌<◌, ◌≤◌, Bool, true, false, not, ◌||◌, ◌⊎◌, List, [], ◌∷◌, length, All, Option, Some, None, if◌then◌else◌, nat_eq, nat_lt, slice_get, refl, sym, ap, ◌∙◌, subst, ⊎_elim, inl, inr, arith}
use Rattle.std.proofs.lemmas.Bool.{or_parts, cases_order, eqb-true, eqb-false, ltb-false}
use Rattle.std.proofs.lemmas.List.Elements.{All-nil, All-take, All-push, All-weaker, All-map}
use Rattle.lp_stack.specs.declared.view.Mode.{Mode}
use Rattle.lp_stack.specs.declared.view.Mode.TheVariants.{User, Kernel, Asleep}
use Rattle.lp_stack.specs.declared.view.Class.TheVariants.{Normal, Idle}
use Rattle.lp_model.specs.declared.check.ForkKind.{ForkKind}
use Rattle.lp_definitions.specs.declared.event.Event.{Event}
use Rattle.lp_definitions.specs.declared.event.Event.TheVariants.{Call, Ret, Sleep, Wake, Enter, Exit, Idle, Resched, Fork, Die, Walk, Stop, Enable, Disable, Reverse}
use Rattle.lp_definitions.specs.declared.refusal.Refusal.{Refusal}
use Rattle.lp_definitions.specs.declared.refusal.Refusal.TheVariants.{TaskRange, TaskUsed}
use Rattle.lp_definitions.specs.Tasks.{Origin, Stood, Forked, Pushed, Kept, Made, Life, Fate, Unused, Live, Dead, Tasks, map_live, is_unused, outline, outlines, Bounds, fits, first_of, refusal, unknown_task, out_of_range, used, not_of, not_in, in_mode, push, pop, Grouping, child, effect}
use Rattle.lp_definitions.specs.Leg.{LegTask, Leg, begin, unless_refused, accept, take_effect, tasks_after}
use Rattle.lp_definitions.specs.Sound.{IsSound}
use Rattle.lp_symbols.specs.declared.sym_id.SymId.{SymId}
use Rattle.lp_definitions.specs.Events.{fork}

-- what an event can do to a live task
pub data Change : Type 0 where
  Same : Change
  Pushes : (func : SymId) → Change
  Pops : Change
  Turns : (mode : Mode) → Change

abbrev pub changed : ℕ → Change → Life → Life
changed place Same y = y
changed place (Pushes func) y = push (Made func place) y
changed place Pops y = pop y
changed place (Turns mode) y = in_mode mode y

-- a task that is live just after an event was live before it, or is born by it
pub data Came (grouping : Grouping) (bounds : Bounds) (place : ℕ) (now : Tasks) (event : Option Event) (t : ℕ) (x : Life) : Type 0 where
  Stayed : (y : Life) (change : Change) → now t ≡ Live y → x ≡ changed place change y → Came grouping bounds place now event t x
  Born : (p : ℕ) (how : ForkKind) (y : Life) → event ≡ Some (fork p t how) → now p ≡ Live y → now t ≡ Unused → 0 < t → t ≤ bounds.tasks → x ≡ child grouping place t how y → Came grouping bounds place now event t x

-- what a fork's tests say
pub record Forks (bounds : Bounds) (now : Tasks) (p c : ℕ) : Type 0 where
  pub positive : 0 < c
  pub within : c ≤ bounds.tasks
  pub unused : now c ≡ Unused

pub none_first : {A : Type 0} (test : Option A) (tests : List (Option A)) → first_of (test ∷ tests) ≡ None → (test ≡ None) × (first_of tests ≡ None)
none_first None tests e = (refl, e)
none_first (Some r) tests e = absurd (cc)

pub unfit : {A : Type 0} (b : Bool) (r : A) → fits b r ≡ None → b ≡ false
unfit true r e = absurd (cc)
unfit false r e = refl

is_unused-true : (f : Fate Life) → not (is_unused (map_live outline f)) ≡ false → f ≡ Unused
is_unused-true Unused e = refl
is_unused-true (Live x) e = absurd (cc)
is_unused-true Dead e = absurd (cc)

pub forks : (bounds : Bounds) (now : Tasks) (p c : ℕ) (how : ForkKind) → refusal bounds now (fork p c how) ≡ None → Forks bounds now p c
unfolding refusal
forks bounds now p c how e =
    let seen = outlines now in
    let last = not_of Normal seen p ∷ not_in Kernel seen p ∷ [] in
    let a = none_first (unknown_task seen p) (out_of_range bounds c ∷ used seen c ∷ last) e in
    let b = none_first (out_of_range bounds c) (used seen c ∷ last) a.1 in
    let d = none_first (used seen c) last b.1 in
    let range = or_parts (nat_eq c 0) (nat_lt bounds.tasks c) (unfit (nat_eq c 0 || nat_lt bounds.tasks c) TaskRange b.0) in
    let ne = eqb-false c 0 range.0 in
    record { positive = omega (arith, ne); within = ltb-false bounds.tasks c range.1; unused = is_unused-true (now c) (unfit (not (is_unused (seen c))) TaskUsed d.0) }

module _ (grouping : Grouping) (bounds : Bounds) (place : ℕ) (now : Tasks) where
  stays : (event : Option Event) (t : ℕ) (x : Life) → now t ≡ Live x → Came grouping bounds place now event t x
  stays event t x e = Stayed x Same e refl

  changes : (event : Option Event) (c : Change) (t : ℕ) (x : Life) (b : Bool) (f : Fate Life) → now t ≡ f → (if b then map_live (changed place c) f else f) ≡ Live x → Came grouping bounds place now event t x
  changes event c t x true Unused e h = absurd (cc)
  changes event c t x true (Live y) e h = Stayed y c e (cc)
  changes event c t x true Dead e h = absurd (cc)
  changes event c t x false f e h = Stayed x Same (e ∙ h) refl

  born : (p c : ℕ) (how : ForkKind) → Forks bounds now p c → (t : ℕ) (x : Life) (b : Bool) → nat_eq t c ≡ b → (f : Fate Life) → now p ≡ f → (if b then map_live (child grouping place c how) f else now t) ≡ Live x → Came grouping bounds place now (Some (fork p c how)) t x
  born p c how is t x true e Unused l h = absurd (cc)
  born p c how is t x true e (Live y) l h =
      let same : t ≡ c = eqb-true t c e in
      Born p how y (ap (λ n. Some (fork p n how)) (sym same)) l (ap now same ∙ is.unused) (subst (λ n. 0 < n) (sym same) is.positive) (subst (λ n. n ≤ bounds.tasks) (sym same) is.within) (sym (subst (λ n. Live (child grouping place n how y) ≡ Live x → child grouping place n how y ≡ x) (sym same) (λ q. cc) (subst (λ n. Live (child grouping place n how y) ≡ Live x) (sym same) h)))
  born p c how is t x true e Dead l h = absurd (cc)
  born p c how is t x false e f l h = Stayed x Same h refl

  died : (event : Option Event) (t : ℕ) (x : Life) (b : Bool) → (if b then Dead else now t) ≡ Live x → Came grouping bounds place now event t x
  died event t x true h = absurd (cc)
  died event t x false h = stays event t x h

  by_event : (event : Event) (t : ℕ) (x : Life) → refusal bounds now event ≡ None → effect grouping place event now t ≡ Live x → Came grouping bounds place now (Some event) t x
  unfolding effect
  by_event (Call a f) t x r h = changes (Some (Call a f)) (Pushes f) t x (nat_eq t a.0) (now t) refl h
  by_event (Ret a) t x r h = changes (Some (Ret a)) Pops t x (nat_eq t a.0) (now t) refl h
  by_event (Sleep a) t x r h = changes (Some (Sleep a)) (Turns Asleep) t x (nat_eq t a.0) (now t) refl h
  by_event (Wake a) t x r h = changes (Some (Wake a)) (Turns Kernel) t x (nat_eq t a.0) (now t) refl h
  by_event (Enter a) t x r h = changes (Some (Enter a)) (Turns Kernel) t x (nat_eq t a.0) (now t) refl h
  by_event (Exit a) t x r h = changes (Some (Exit a)) (Turns User) t x (nat_eq t a.0) (now t) refl h
  by_event (Idle a) t x r h = stays (Some (Idle a)) t x h
  by_event (Resched a) t x r h = stays (Some (Resched a)) t x h
  by_event (Fork p c how) t x r h = born p.0 c.0 how (forks bounds now p.0 c.0 how r) t x (nat_eq t c.0) refl (now p.0) refl h
  by_event (Die a) t x r h = died (Some (Die a)) t x (nat_eq t a.0) h
  by_event Walk t x r h = stays (Some Walk) t x h
  by_event Stop t x r h = stays (Some Stop) t x h
  by_event Enable t x r h = stays (Some Enable) t x h
  by_event Disable t x r h = stays (Some Disable) t x h
  by_event Reverse t x r h = stays (Some Reverse) t x h

  by_test : (event : Event) (r : Option Refusal) → refusal bounds now event ≡ r → (t : ℕ) (x : Life) → take_effect grouping place (unless_refused r event) now t ≡ Live x → Came grouping bounds place now (unless_refused r event) t x
  by_test event None e t x h = by_event event t x e h
  by_test event (Some why) e t x h = stays None t x h

  by_place : (event : Option Event) (t : ℕ) (x : Life) → take_effect grouping place (accept bounds now event) now t ≡ Live x → Came grouping bounds place now (accept bounds now event) t x
  by_place None t x h = stays None t x h
  by_place (Some event) t x h = by_test event (refusal bounds now event) refl t x h

  -- who is unused after an event was so before it
  change_unused : (f : Life → Life) (b : Bool) (fate : Fate Life) → (if b then map_live f fate else fate) ≡ Unused → fate ≡ Unused
  change_unused f true Unused h = refl
  change_unused f true (Live y) h = absurd (cc)
  change_unused f true Dead h = absurd (cc)
  change_unused f false fate h = h

  fork_unused : (p c : ℕ) (how : ForkKind) → Forks bounds now p c → (t : ℕ) (b : Bool) → nat_eq t c ≡ b → (if b then map_live (child grouping place c how) (now p) else now t) ≡ Unused → now t ≡ Unused
  fork_unused p c how is t true e h = ap now (eqb-true t c e) ∙ is.unused
  fork_unused p c how is t false e h = h

  die_unused : (t : ℕ) (b : Bool) → (if b then Dead else now t) ≡ Unused → now t ≡ Unused
  die_unused t true h = absurd (cc)
  die_unused t false h = h

  event_unused : (event : Event) (t : ℕ) → refusal bounds now event ≡ None → effect grouping place event now t ≡ Unused → now t ≡ Unused
  unfolding effect
  event_unused (Call a f) t r h = change_unused (push (Made f place)) (nat_eq t a.0) (now t) h
  event_unused (Ret a) t r h = change_unused pop (nat_eq t a.0) (now t) h
  event_unused (Sleep a) t r h = change_unused (in_mode Asleep) (nat_eq t a.0) (now t) h
  event_unused (Wake a) t r h = change_unused (in_mode Kernel) (nat_eq t a.0) (now t) h
  event_unused (Enter a) t r h = change_unused (in_mode Kernel) (nat_eq t a.0) (now t) h
  event_unused (Exit a) t r h = change_unused (in_mode User) (nat_eq t a.0) (now t) h
  event_unused (Idle a) t r h = h
  event_unused (Resched a) t r h = h
  event_unused (Fork p c how) t r h = fork_unused p.0 c.0 how (forks bounds now p.0 c.0 how r) t (nat_eq t c.0) refl h
  event_unused (Die a) t r h = die_unused t (nat_eq t a.0) h
  event_unused Walk t r h = h
  event_unused Stop t r h = h
  event_unused Enable t r h = h
  event_unused Disable t r h = h
  event_unused Reverse t r h = h

  test_unused : (event : Event) (r : Option Refusal) → refusal bounds now event ≡ r → (t : ℕ) → take_effect grouping place (unless_refused r event) now t ≡ Unused → now t ≡ Unused
  test_unused event None e t h = event_unused event t e h
  test_unused event (Some why) e t h = h

  place_unused : (event : Option Event) (t : ℕ) → take_effect grouping place (accept bounds now event) now t ≡ Unused → now t ≡ Unused
  place_unused None t h = h
  place_unused (Some event) t h = test_unused event (refusal bounds now event) refl t h

-- ---- Over a whole leg

abbrev pub IsMadeBefore : ℕ → Pushed → Type 0
IsMadeBefore k (Kept frame) = Unit {0}
IsMadeBefore k (Made func place) = place < k

-- forked before this place, as are all its parents
abbrev pub IsFrom : ℕ → Origin → Type 0
IsFrom k (Stood level) = Unit {0}
IsFrom k (Forked group parent place) = (place < k) × IsFrom place parent

pub made_later : (j k : ℕ) → j ≤ k → (call : Pushed) → IsMadeBefore j call → IsMadeBefore k call
made_later j k le (Kept frame) h = tt
made_later j k le (Made func place) h = omega arith

pub from_later : (j k : ℕ) → j ≤ k → (o : Origin) → IsFrom j o → IsFrom k o
from_later j k le (Stood level) h = tt
from_later j k le (Forked group parent place) h = (omega (arith, h.0), h.1)

pub changed_group : (place : ℕ) (c : Change) (y : Life) → (changed place c y).group ≡ y.group
changed_group place Same y = refl
changed_group place (Pushes func) y = refl
changed_group place Pops y = refl
changed_group place (Turns mode) y = refl

pub changed_origin : (place : ℕ) (c : Change) (y : Life) → (changed place c y).origin ≡ y.origin
changed_origin place Same y = refl
changed_origin place (Pushes func) y = refl
changed_origin place Pops y = refl
changed_origin place (Turns mode) y = refl

-- what holds of each call before and of one made now holds of each call after
pub changed_calls : (P : Pushed → Type 0) (place : ℕ) (c : Change) (y : Life) → All P y.calls → ((func : SymId) → P (Made func place)) → All P (changed place c y).calls
changed_calls P place Same y h new = h
changed_calls P place (Pushes func) y h new = All-push P y.calls (Made func place) h (new func)
changed_calls P place Pops y h new = All-take P (pred (length y.calls)) y.calls h
changed_calls P place (Turns mode) y h new = h

begun : (f : Fate LegTask) (x : Life) → map_live begin f ≡ Live x → (y : LegTask) × (f ≡ Live y) × (x ≡ begin y)
begun Unused x e = absurd (cc)
begun (Live y) x e = (y, refl, cc)
begun Dead x e = absurd (cc)

begun_unused : (f : Fate LegTask) → map_live begin f ≡ Unused → f ≡ Unused
begun_unused Unused e = refl
begun_unused (Live y) e = absurd (cc)
begun_unused Dead e = absurd (cc)

live_unused : {A : Type 0} (x : A) (f : Fate A) → f ≡ Live x → f ≡ Unused → ⊥
live_unused x f e h = cc

module _ (grouping : Grouping) (leg : Leg) where
  pub opens : (t : ℕ) (x : Life) → tasks_after grouping leg zero t ≡ Live x → (y : LegTask) × (leg.tasks t ≡ Live y) × (x ≡ begin y)
  unfolding tasks_after
  opens t x e = begun (leg.tasks t) x e

  pub came : (k t : ℕ) (x : Life) → tasks_after grouping leg (suc k) t ≡ Live x → Came grouping leg.bounds k (tasks_after grouping leg k) (accept leg.bounds (tasks_after grouping leg k) (slice_get leg.events k)) t x
  unfolding tasks_after
  came k t x e = by_place grouping leg.bounds k (tasks_after grouping leg k) (slice_get leg.events k) t x e

  unused_step : (k t : ℕ) → tasks_after grouping leg (suc k) t ≡ Unused → tasks_after grouping leg k t ≡ Unused
  unfolding tasks_after
  unused_step k t e = place_unused grouping leg.bounds k (tasks_after grouping leg k) (slice_get leg.events k) t e

  unused_start : (t : ℕ) → tasks_after grouping leg zero t ≡ Unused → leg.tasks t ≡ Unused
  unfolding tasks_after
  unused_start t e = begun_unused (leg.tasks t) e

  pub unused_before : (j k t : ℕ) → j ≤ k → tasks_after grouping leg k t ≡ Unused → tasks_after grouping leg j t ≡ Unused
  unused_before j zero t le e = let same : zero ≡ j = omega arith in subst (λ n. tasks_after grouping leg n t ≡ Unused) same e
  unused_before j (suc k) t le e =
      ⊎_elim (λ (same : suc k ≡ j). subst (λ n. tasks_after grouping leg n t ≡ Unused) same e) (λ (rest : (suc k < j) ⊎ (j < suc k)). ⊎_elim (λ (big : suc k < j). absurd (omega arith)) (λ (small : j < suc k). unused_before j k t (omega arith) (unused_step k t e)) rest) (cases_order (suc k) j)

-- what holds of each live task at the opening, stays with it and is given on to children, holds of each live task of the leg
module _ (grouping : Grouping) (leg : Leg) (Q : ℕ → ℕ → Life → Type 0)
    (start : (t : ℕ) (y : LegTask) → leg.tasks t ≡ Live y → Q zero t (begin y))
    (stay : (k t : ℕ) (y : Life) (c : Change) → tasks_after grouping leg k t ≡ Live y → Q k t y → tasks_after grouping leg (suc k) t ≡ Live (changed k c y) → Q (suc k) t (changed k c y))
    (bear : (k p t : ℕ) (how : ForkKind) (y : Life) → tasks_after grouping leg k p ≡ Live y → Q k p y → tasks_after grouping leg k t ≡ Unused → 0 < t → t ≤ leg.bounds.tasks → tasks_after grouping leg (suc k) t ≡ Live (child grouping k t how y) → Q (suc k) t (child grouping k t how y)) where
  one_more : (k t : ℕ) (x : Life) → ((u : ℕ) (y : Life) → tasks_after grouping leg k u ≡ Live y → Q k u y) → tasks_after grouping leg (suc k) t ≡ Live x → Came grouping leg.bounds k (tasks_after grouping leg k) (accept leg.bounds (tasks_after grouping leg k) (slice_get leg.events k)) t x → Q (suc k) t x
  one_more k t x before e (Stayed y c live is) = subst (λ z. Q (suc k) t z) (sym is) (stay k t y c live (before t y live) (e ∙ ap Live is))
  one_more k t x before e (Born p how y event live unused positive within is) =
      subst (λ z. Q (suc k) t z) (sym is) (bear k p t how y live (before p y live) unused positive within (e ∙ ap Live is))

  pub each_life : (k t : ℕ) (x : Life) → tasks_after grouping leg k t ≡ Live x → Q k t x
  each_life zero t x e = let y = opens grouping leg t x e in subst (λ z. Q zero t z) (sym y.2) (start t y.0 y.1)
  each_life (suc k) t x e = one_more k t x (λ u y live. each_life k u y live) e (came grouping leg k t x e)

module _ (grouping : Grouping) (leg : Leg) where
  pub made_before : (k t : ℕ) (x : Life) → tasks_after grouping leg k t ≡ Live x → All (IsMadeBefore k) x.calls
  made_before =
      each_life grouping leg (λ k t x. All (IsMadeBefore k) x.calls)
      (λ t y live. All-map (IsMadeBefore zero) Kept y.frames (λ i d h. tt))
      (λ k t y c live h now. changed_calls (IsMadeBefore (suc k)) k c y (All-weaker (IsMadeBefore k) (IsMadeBefore (suc k)) (made_later k (suc k) (omega arith)) y.calls h) (λ func. omega arith))
      (λ k p t how y live h unused positive within now. All-nil (IsMadeBefore (suc k)))

  pub come_from : (k t : ℕ) (x : Life) → tasks_after grouping leg k t ≡ Live x → IsFrom k x.origin
  come_from =
      each_life grouping leg (λ k t x. IsFrom k x.origin)
      (λ t y live. tt)
      (λ k t y c live h now. subst (IsFrom (suc k)) (sym (changed_origin k c y)) (from_later k (suc k) (omega arith) y.origin h))
      (λ k p t how y live h unused positive within now. (omega arith, h))

  module _ (sound : IsSound leg.opening) where
    pub numbered : (k t : ℕ) (x : Life) → tasks_after grouping leg k t ≡ Live x → (0 < t) × (t ≤ leg.bounds.tasks)
    numbered =
        each_life grouping leg (λ k t x. (0 < t) × (t ≤ leg.bounds.tasks))
        (λ t y live. sound.numbered t y live)
        (λ k t y c live h now. h)
        (λ k p t how y live h unused positive within now. (positive, within))

    -- a group's number is 0 or a used task number
    abbrev pub IsKnown : ℕ → ℕ → Type 0
    IsKnown k group = (group ≡ 0) ⊎ (tasks_after grouping leg k group ≢ Unused)

    pub known_later : (k group : ℕ) → IsKnown k group → IsKnown (suc k) group
    known_later k group h = ⊎_elim (λ (e : group ≡ 0). inl e) (λ (ne : tasks_after grouping leg k group ≢ Unused). inr (λ e. ne (unused_step grouping leg k group e))) h

    known_at_start : (group : ℕ) → (group ≡ 0) ⊎ (leg.tasks group ≢ Unused) → IsKnown zero group
    known_at_start group h = ⊎_elim (λ (e : group ≡ 0). inl e) (λ (ne : leg.tasks group ≢ Unused). inr (λ e. ne (unused_start grouping leg group e))) h

    module _ (child_is : (group task : ℕ) (how : ForkKind) → (grouping group task how ≡ group) ⊎ (grouping group task how ≡ task)) where
      pub grouped : (k t : ℕ) (x : Life) → tasks_after grouping leg k t ≡ Live x → IsKnown k x.group
      grouped =
          each_life grouping leg (λ k t x. IsKnown k x.group)
          (λ t y live. known_at_start y.group (sound.grouped t y live))
          (λ k t y c live h now. subst (IsKnown (suc k)) (sym (changed_group k c y)) (known_later k y.group h))
          (λ k p t how y live h unused positive within now.
          ⊎_elim (λ (e : grouping y.group t how ≡ y.group). subst (IsKnown (suc k)) (sym e) (known_later k y.group h)) (λ (e : grouping y.group t how ≡ t). subst (IsKnown (suc k)) (sym e) (inr (λ none. live_unused _ _ now none))) (child_is y.group t how))

      -- no live task is in a group that has an unused task's number
      pub no_member : (j k t u : ℕ) (x : Life) → j ≤ k → tasks_after grouping leg k t ≡ Unused → 0 < t → tasks_after grouping leg j u ≡ Live x → x.group ≡ t → ⊥
      no_member j k t u x le unused positive live is =
          ⊎_elim (λ (e : x.group ≡ 0). absurd (omega arith)) (λ (ne : tasks_after grouping leg j x.group ≢ Unused). ne (subst (λ n. tasks_after grouping leg j n ≡ Unused) (sym is) (unused_before grouping leg j k t le unused))) (grouped j u x live)
