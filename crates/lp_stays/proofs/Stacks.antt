-- What an event does to the stacks: a call puts a frame on one, a return takes the last off one, no other event changes any.
use Rattle.std.proofs.Common.{◌≡◌, ◌≢◌, ℕ, zero, suc, pred, ◌-◌, ◌<◌, Bool, true, false, not, List, [], ◌∷◌, ◌++◌, length, take, Option, Some, None, if◌then◌else◌, nat_eq, nat_le, slice_get, slice_index_or, refl, sym, ap, ◌∙◌, subst, ⊎_elim, arith}
use Rattle.std.specs.Option.{option_map}
use Rattle.std.proofs.lemmas.Bool.{cases_Bool, eqb-true, eqb-false, leb-false, cond-true, cond-false, cond_both, eq-eqb, ne_eqb}
use Rattle.std.proofs.lemmas.List.{nil_from_length}
use Rattle.lp_symbols.specs.declared.sym_id.SymId.{SymId}
use Rattle.lp_stack.specs.declared.number.TaskId.{TaskId}
use Rattle.lp_stack.specs.declared.frame.Frame.{Frame}
use Rattle.lp_model.specs.Rules.{Rules}
use Rattle.lp_definitions.specs.declared.event.Event.{Event}
use Rattle.lp_definitions.specs.declared.event.Event.TheVariants.{Call, Ret, Sleep, Wake, Enter, Exit, Idle, Resched, Fork, Die, Walk, Stop, Enable, Disable, Reverse}
use Rattle.lp_definitions.specs.declared.refusal.Refusal.{Refusal}
use Rattle.lp_definitions.specs.declared.refusal.Refusal.TheVariants.{UnknownTask, TaskUsed, StackFull, StackEmpty, StackNotEmpty}
use Rattle.lp_definitions.specs.Run.{control_tests}
use Rattle.lp_definitions.specs.Events.{is_control}
use Rattle.lp_definitions.specs.Tasks.{Fate, Unused, Live, Dead, on_live, map_live, is_unused, fits, first_of, depth, tests, change}
use Rattle.lp_definitions.specs.Leg.{LegTask, State}
use Rattle.lp_machine.specs.Machine.{LegTasks, outline_of, outlines_of, complete_in, own_effect, switched_task, refusal_of, affected, next, level_of}
use Rattle.lp_machine.proofs.EngineLemmas.{next-refused, next-accepted, next-turned}
use Rattle.lp_stays.specs.Counts.{top_of}

-- the frames of a task
abbrev pub frames_in : Fate LegTask → List Frame
frames_in fate = on_live [] (λ x. x.frames) fate

abbrev pub frames_at : State → ℕ → List Frame
frames_at s t = frames_in (s.tasks t)

-- no stack changes
abbrev pub IsStill : State → State → Type 0
IsStill before after = (t : ℕ) → frames_at after t ≡ frames_at before t

-- a frame comes on the stack of a task, which has room
pub record IsPush (before after : State) (t : ℕ) (func : SymId) (level : ℕ) : Type 0 where
  pub frame : Frame
  pub func_is : frame.func ≡ func
  pub level_is : frame.level.0 ≡ level
  pub here : frames_at after t ≡ frames_at before t ++ frame ∷ []
  pub room : length (frames_at before t) < 100
  pub others : (u : ℕ) → u ≢ t → frames_at after u ≡ frames_at before u

-- the last frame goes off the stack of a task
pub record IsPop (before after : State) (t : ℕ) : Type 0 where
  pub frame : Frame
  pub func_is : top_of (frames_at before t) ≡ Some frame.func
  pub here : frames_at before t ≡ frames_at after t ++ frame ∷ []
  pub others : (u : ℕ) → u ≢ t → frames_at after u ≡ frames_at before u

-- ---- Tests

-- where no test fits, none of the list does
free_at : {A : Type 0} (tests : List (Option A)) (k : ℕ) → first_of tests ≡ None → slice_index_or tests k None ≡ None
free_at [] k h = refl
free_at (None ∷ tests) zero h = refl
free_at (None ∷ tests) (suc k) h = free_at tests k h
free_at (Some x ∷ tests) k h = absurd (cc)

unfit : {A : Type 0} (b : Bool) (x : A) → fits b x ≡ None → b ≡ false
unfit true x h = absurd (cc)
unfit false x h = refl

live_at : (fate : Fate LegTask) → not (on_live false (λ x. true) (map_live outline_of fate)) ≡ false → (x : LegTask) × (fate ≡ Live x)
live_at Unused h = absurd (cc)
live_at (Live x) h = (x, refl)
live_at Dead h = absurd (cc)

empty_at : (fate : Fate LegTask) → not (nat_eq (on_live 0 (λ x. x.depth) (map_live outline_of fate)) 0) ≡ false → frames_in fate ≡ []
empty_at Unused h = refl
empty_at (Live x) h = nil_from_length x.frames (eqb-true (length x.frames) 0 (flip (nat_eq (length x.frames) 0) h))
  where
    flip : (b : Bool) → not b ≡ false → b ≡ true
    flip true e = refl
    flip false e = absurd (cc)
empty_at Dead h = refl

unused_at : (fate : Fate LegTask) → not (is_unused (map_live outline_of fate)) ≡ false → frames_in fate ≡ []
unused_at Unused h = refl
unused_at (Live x) h = absurd (cc)
unused_at Dead h = absurd (cc)

-- ---- Changes of one task

change_here : (t : ℕ) (f : LegTask → LegTask) (now : LegTasks) → change t f now t ≡ map_live f (now t)
change_here t f now = cond-true _ _ _ (eq-eqb t t refl)

change_other : (t u : ℕ) (f : LegTask → LegTask) (now : LegTasks) → u ≢ t → change t f now u ≡ now u
change_other t u f now other = cond-false _ _ _ (ne_eqb u t other)

-- a change that keeps the frames
same_frames : (f : LegTask → LegTask) → ((x : LegTask) → (f x).frames ≡ x.frames) → (fate : Fate LegTask) → frames_in (map_live f fate) ≡ frames_in fate
same_frames f same Unused = refl
same_frames f same (Live x) = same x
same_frames f same Dead = refl

change_still : (t : ℕ) (f : LegTask → LegTask) → ((x : LegTask) → (f x).frames ≡ x.frames) → (now : LegTasks) (u : ℕ) → frames_in (change t f now u) ≡ frames_in (now u)
change_still t f same now u =
    cond_both (nat_eq u t) (map_live f (now u)) (now u) (λ fate. frames_in fate ≡ frames_in (now u)) (λ e. same_frames f same (now u)) (λ e. refl)

-- who switches keeps the frames
switched_frames : (model : Rules) (s : State) (event : Event) (x : LegTask) → (switched_task model s event x).frames ≡ x.frames
switched_frames model s event x = cond_both {A = LegTask} _ _ _ (λ y. y.frames ≡ x.frames) (λ e. refl) (λ e. refl)

-- ---- One event

-- an event that is neither a call nor a return
abbrev pub is_other : Event → Bool
is_other (Call t f) = false
is_other (Ret t) = false
is_other _ = true

module _ (model : Rules) (s : State) where
  abbrev own : Event → LegTasks
  own event = own_effect model.child_group (suc s.number) event s.tasks

  -- no test of an accepted event fits
  free : (event : Event) (k : ℕ) → refusal_of model s event ≡ None → slice_index_or (tests s.bounds (outlines_of s.tasks) event ++ control_tests s (complete_in s) event) k None ≡ None
  unfolding refusal_of
  free event k ok = free_at (tests s.bounds (outlines_of s.tasks) event ++ control_tests s (complete_in s) event) k ok

  -- an accepted event that is no control event leaves the stacks as its own effect does
  accepted : (event : Event) → refusal_of model s event ≡ None → is_control event ≡ false → (t : ℕ) → frames_at (next model s event) t ≡ frames_in (own event t)
  accepted event ok plain t =
      ap (λ st. frames_at st t) (next-accepted model s event ok plain) ∙ same_frames (switched_task model (affected model s event) event) (switched_frames model (affected model s event) event) (own event t)

  pub refused_still : (event : Event) (why : Refusal) → refusal_of model s event ≡ Some why → IsStill s (next model s event)
  refused_still event why e t = ap (λ st. frames_at st t) (next-refused model s event why e)

  control_still : (event : Event) → refusal_of model s event ≡ None → is_control event ≡ true → IsStill s (next model s event)
  control_still event ok control t = ap (λ st. frames_at st t) (next-turned model s event ok control)

  -- ---- What no call and no return does

  fork_own : (p c t : ℕ) (f : LegTask → LegTask) → ((x : LegTask) → (f x).frames ≡ []) → frames_in (s.tasks c) ≡ [] → frames_in (if nat_eq t c then map_live f (s.tasks p) else s.tasks t) ≡ frames_in (s.tasks t)
  fork_own p c t f empty unused =
      cond_both (nat_eq t c) (map_live f (s.tasks p)) (s.tasks t) (λ fate. frames_in fate ≡ frames_in (s.tasks t)) (λ e. born (s.tasks p) ∙ sym (ap (λ u. frames_in (s.tasks u)) (eqb-true t c e) ∙ unused)) (λ e. refl)
    where
      born : (fate : Fate LegTask) → frames_in (map_live f fate) ≡ []
      born Unused = refl
      born (Live x) = empty x
      born Dead = refl

  die_own : (c t : ℕ) → frames_in (s.tasks c) ≡ [] → frames_in (if nat_eq t c then Dead else s.tasks t) ≡ frames_in (s.tasks t)
  die_own c t empty =
      cond_both (nat_eq t c) Dead (s.tasks t) (λ fate. frames_in fate ≡ frames_in (s.tasks t)) (λ e. sym (ap (λ u. frames_in (s.tasks u)) (eqb-true t c e) ∙ empty)) (λ e. refl)

  own_still : (event : Event) → is_other event ≡ true → refusal_of model s event ≡ None → (t : ℕ) → frames_in (own event t) ≡ frames_in (s.tasks t)
  own_still (Call t f) other ok u = absurd (cc)
  own_still (Ret t) other ok u = absurd (cc)
  own_still (Sleep t) other ok u = change_still t.0 _ (λ x. refl) s.tasks u
  own_still (Wake t) other ok u = change_still t.0 _ (λ x. refl) s.tasks u
  own_still (Enter t) other ok u = change_still t.0 _ (λ x. refl) s.tasks u
  own_still (Exit t) other ok u = change_still t.0 _ (λ x. refl) s.tasks u
  own_still (Idle t) other ok u = refl
  own_still (Resched t) other ok u = refl
  own_still (Fork p c how) other ok u =
      fork_own p.0 c.0 u _ (λ x. refl) (unused_at (s.tasks c.0) (unfit (not (is_unused (outlines_of s.tasks c.0))) TaskUsed (free (Fork p c how) 2 ok)))
  own_still (Die t) other ok u =
      die_own t.0 u (empty_at (s.tasks t.0) (unfit (not (nat_eq (depth (outlines_of s.tasks) t.0) 0)) StackNotEmpty (free (Die t) 3 ok)))
  own_still Walk other ok u = refl
  own_still Stop other ok u = refl
  own_still Enable other ok u = refl
  own_still Disable other ok u = refl
  own_still Reverse other ok u = refl

  pub other_still : (event : Event) → is_other event ≡ true → IsStill s (next model s event)
  other_still event other t = by_refusal (refusal_of model s event) refl
    where
      by_refusal : (why : Option Refusal) → refusal_of model s event ≡ why → frames_at (next model s event) t ≡ frames_at s t
      by_refusal (Some why) e = refused_still event why e t
      by_refusal None e =
          ⊎_elim
          (λ (control : is_control event ≡ true). control_still event e control t)
          (λ (plain : is_control event ≡ false). accepted event e plain t ∙ own_still event other e t)
          (cases_Bool (is_control event))

  -- ---- A call

  pub call_live : (t : TaskId) (func : SymId) → refusal_of model s (Call t func) ≡ None → (x : LegTask) × (s.tasks t.0 ≡ Live x)
  call_live t func ok = live_at (s.tasks t.0) (unfit (not (on_live false (λ x. true) (outlines_of s.tasks t.0))) UnknownTask (free (Call t func) 0 ok))

  call_room : (t : TaskId) (func : SymId) → refusal_of model s (Call t func) ≡ None → nat_le 100 (on_live 0 (λ x. x.depth) (map_live outline_of (s.tasks t.0))) ≡ false
  call_room t func ok = unfit (nat_le 100 (depth (outlines_of s.tasks) t.0)) StackFull (free (Call t func) 3 ok)

  pub call_pushes : (t : TaskId) (func : SymId) → refusal_of model s (Call t func) ≡ None → IsPush s (next model s (Call t func)) t.0 func (level_of model s t.0)
  call_pushes t func ok =
      let live = call_live t func ok in
      let x = live.0 in
      let frame : Frame = record { func = func; level = record { 0 = x.level }; serial = suc s.number } in
      let was : frames_at s t.0 ≡ x.frames = ap frames_in live.1 in
      record {
        frame = frame;
        func_is = refl;
        level_is = sym (ap (on_live 0 (λ y. y.level)) live.1);
        here = accepted (Call t func) ok refl t.0 ∙ ap frames_in (change_here t.0 _ s.tasks ∙ ap (map_live _) live.1) ∙ ap (λ fs. fs ++ frame ∷ []) (sym was);
        room = subst (λ fs. length fs < 100) (sym was) (leb-false 100 (length x.frames) (subst (λ fate. nat_le 100 (on_live 0 (λ y. y.depth) (map_live outline_of fate)) ≡ false) live.1 (call_room t func ok)));
        others = λ u other. accepted (Call t func) ok refl u ∙ ap frames_in (change_other t.0 u _ s.tasks other);
      }

  -- ---- A return

  pub ret_live : (t : TaskId) → refusal_of model s (Ret t) ≡ None → (x : LegTask) × (s.tasks t.0 ≡ Live x)
  ret_live t ok = live_at (s.tasks t.0) (unfit (not (on_live false (λ x. true) (outlines_of s.tasks t.0))) UnknownTask (free (Ret t) 0 ok))

  ret_some : (t : TaskId) → refusal_of model s (Ret t) ≡ None → nat_eq (on_live 0 (λ x. x.depth) (map_live outline_of (s.tasks t.0))) 0 ≡ false
  ret_some t ok = unfit (nat_eq (depth (outlines_of s.tasks) t.0) 0) StackEmpty (free (Ret t) 2 ok)

  -- a list with its last taken off
  record Last (fs : List Frame) : Type 0 where
    frame : Frame
    top : top_of fs ≡ Some frame.func
    is : fs ≡ take (pred (length fs)) fs ++ frame ∷ []

  last_frame : (f : Frame) (fs : List Frame) → Last (f ∷ fs)
  last_frame f [] = record { frame = f; top = refl; is = refl }
  last_frame f (g ∷ fs) =
      let l = last_frame g fs in
      let more : length (f ∷ (g ∷ fs)) - 1 ≡ suc (length (g ∷ fs) - 1) = omega arith in
      record { frame = l.frame; top = ap (λ k. option_map (λ frame. frame.func) (slice_get (f ∷ (g ∷ fs)) k)) more ∙ l.top; is = ap (λ gs. f ∷ gs) l.is }

  last_of_frames : (fs : List Frame) → (length fs ≡ 0 → ⊥) → Last fs
  last_of_frames [] some = absurd (some refl)
  last_of_frames (f ∷ fs) some = last_frame f fs

  pub ret_pops : (t : TaskId) → refusal_of model s (Ret t) ≡ None → IsPop s (next model s (Ret t)) t.0
  ret_pops t ok =
      let live = ret_live t ok in
      let x = live.0 in
      let was : frames_at s t.0 ≡ x.frames = ap frames_in live.1 in
      let some = subst (λ fate. nat_eq (on_live 0 (λ y. y.depth) (map_live outline_of fate)) 0 ≡ false) live.1 (ret_some t ok) in
      let last = last_of_frames x.frames (eqb-false (length x.frames) 0 some) in
      let now : frames_at (next model s (Ret t)) t.0 ≡ take (pred (length x.frames)) x.frames = accepted (Ret t) ok refl t.0 ∙ ap frames_in (change_here t.0 _ s.tasks ∙ ap (map_live _) live.1) in
      record {
        frame = last.frame;
        func_is = ap top_of was ∙ last.top;
        here = was ∙ last.is ∙ ap (λ fs. fs ++ last.frame ∷ []) (sym now);
        others = λ u other. accepted (Ret t) ok refl u ∙ ap frames_in (change_other t.0 u _ s.tasks other);
      }
