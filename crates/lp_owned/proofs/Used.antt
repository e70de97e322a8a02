-- A number that a task had stays used, and the child of a fork has a new one.
use Rattle.std.proofs.Common.{◌≡◌, ℕ, suc, Bool, true, false, not, [], ◌∷◌, Option, Some, None, is_none, nat_eq, if◌then◌else◌, refl, sym, ap, subst, ◌∙◌, ⊎_elim}
use Rattle.std.proofs.lemmas.Bool.{cases_Bool, cond-true, cond-false, eqb-true, eq-eqb}
use Rattle.lp_stack.specs.declared.number.TaskId.{TaskId}
use Rattle.lp_stack.specs.declared.view.Class.TheVariants.{Normal}
use Rattle.lp_stack.specs.declared.view.Mode.TheVariants.{Kernel}
use Rattle.lp_model.specs.declared.check.ForkKind.{ForkKind}
use Rattle.lp_model.specs.Rules.{Rules}
use Rattle.lp_definitions.specs.declared.event.Event.{Event}
use Rattle.lp_definitions.specs.declared.event.Event.TheVariants.{Call, Ret, Sleep, Wake, Enter, Exit, Idle, Resched, Fork, Die, Walk, Stop, Enable, Disable, Reverse}
use Rattle.lp_definitions.specs.declared.refusal.Refusal.{Refusal}
use Rattle.lp_definitions.specs.declared.refusal.Refusal.TheVariants.{UnknownTask, TaskUsed}
use Rattle.lp_definitions.specs.Tasks.{Fate, Unused, Live, Dead, on_live, map_live, is_unused, unknown_task, out_of_range, used, not_of, not_in, change}
use Rattle.lp_definitions.specs.Leg.{LegTask, State}
use Rattle.lp_machine.specs.Machine.{LegTasks, outline_of, outlines_of, own_effect, refusal_of, next, next_by, answer, answer_by, switched_task, affected, told}
use Rattle.lp_transition.specs.Weigh.{refusal_in}
use Rattle.lp_laws.proofs.NextTasks.{none_first, unfit}
use Rattle.lp_log.specs.Seats.{brought}

-- ---- A task's fate

map_used : (f : LegTask → LegTask) (fate : Fate LegTask) → is_unused (map_live f fate) ≡ is_unused fate
map_used f Unused = refl
map_used f (Live x) = refl
map_used f Dead = refl

change_used : (t : ℕ) (f : LegTask → LegTask) (now : LegTasks) (u : ℕ) → is_unused (change t f now u) ≡ is_unused (now u)
change_used t f now u =
    ⊎_elim
    (λ (e : nat_eq u t ≡ true). ap is_unused (cond-true _ _ _ e) ∙ map_used f (now u))
    (λ (e : nat_eq u t ≡ false). ap is_unused (cond-false _ _ _ e))
    (cases_Bool (nat_eq u t))

unused_is : (fate : Fate LegTask) → not (is_unused (map_live outline_of fate)) ≡ false → fate ≡ Unused
unused_is Unused e = refl
unused_is (Live x) e = absurd (cc)
unused_is Dead e = absurd (cc)

live_bears : (f : LegTask → LegTask) (fate : Fate LegTask) → not (on_live false (λ x. true) (map_live outline_of fate)) ≡ false → is_unused (map_live f fate) ≡ false
live_bears f Unused e = absurd (cc)
live_bears f (Live x) e = refl
live_bears f Dead e = absurd (cc)

module _ (model : Rules) (s : State) where
  -- the child of an accepted fork is new, and its parent lives
  pub record IsBorn (p c : ℕ) : Type 0 where
    pub new : s.tasks c ≡ Unused
    pub parent : not (on_live false (λ x. true) (outlines_of s.tasks p)) ≡ false

  fork_new : (p c : TaskId) (how : ForkKind) → refusal_of model s (Fork p c how) ≡ None → IsBorn p.0 c.0
  unfolding refusal_of
  fork_new p c how ok =
      let seen = outlines_of s.tasks in
      let last = not_of Normal seen p.0 ∷ not_in Kernel seen p.0 ∷ [] in
      let a = none_first (unknown_task seen p.0) (out_of_range s.bounds c.0 ∷ used seen c.0 ∷ last) ok in
      let b = none_first (out_of_range s.bounds c.0) (used seen c.0 ∷ last) a.1 in
      let d = none_first (used seen c.0) last b.1 in
      record {
        new = unused_is (s.tasks c.0) (unfit (not (is_unused (seen c.0))) TaskUsed d.0);
        parent = unfit (not (on_live false (λ x. true) (seen p.0))) UnknownTask a.0;
      }

  -- ---- One event

  -- what an accepted event does leaves used numbers used
  own_used : (number : ℕ) (event : Event) (u : ℕ) → refusal_of model s event ≡ None → is_unused (s.tasks u) ≡ false → is_unused (own_effect model.child_group number event s.tasks u) ≡ false
  own_used number (Call t f) u ok h = change_used t.0 _ s.tasks u ∙ h
  own_used number (Ret t) u ok h = change_used t.0 _ s.tasks u ∙ h
  own_used number (Sleep t) u ok h = change_used t.0 _ s.tasks u ∙ h
  own_used number (Wake t) u ok h = change_used t.0 _ s.tasks u ∙ h
  own_used number (Enter t) u ok h = change_used t.0 _ s.tasks u ∙ h
  own_used number (Exit t) u ok h = change_used t.0 _ s.tasks u ∙ h
  own_used number (Idle t) u ok h = h
  own_used number (Resched t) u ok h = h
  own_used number (Fork p c how) u ok h =
      ⊎_elim
      (λ (e : nat_eq u c.0 ≡ true). absurd (used_new (s.tasks u) (ap s.tasks (eqb-true u c.0 e) ∙ (fork_new p c how ok).new) h))
      (λ (e : nat_eq u c.0 ≡ false). ap is_unused (cond-false _ _ _ e) ∙ h)
      (cases_Bool (nat_eq u c.0))
    where
      used_new : (fate : Fate LegTask) → fate ≡ Unused → is_unused fate ≡ false → ⊥
      used_new Unused e h = cc
      used_new (Live x) e h = cc
      used_new Dead e h = cc
  own_used number (Die t) u ok h =
      ⊎_elim
      (λ (e : nat_eq u t.0 ≡ true). ap is_unused (cond-true _ _ _ e))
      (λ (e : nat_eq u t.0 ≡ false). ap is_unused (cond-false _ _ _ e) ∙ h)
      (cases_Bool (nat_eq u t.0))
  own_used number Walk u ok h = h
  own_used number Stop u ok h = h
  own_used number Enable u ok h = h
  own_used number Disable u ok h = h
  own_used number Reverse u ok h = h

  switched_used : (event : Event) (u : ℕ) → is_unused ((affected model s event).tasks u) ≡ false → is_unused (map_live (switched_task model (affected model s event) event) ((affected model s event).tasks u)) ≡ false
  switched_used event u h = map_used _ ((affected model s event).tasks u) ∙ h

  next_used_by : (event : Event) (why : Option Refusal) (u : ℕ) → refusal_of model s event ≡ why → is_unused (s.tasks u) ≡ false → is_unused ((next_by model s event why).tasks u) ≡ false
  next_used_by event (Some why) u e h = h
  next_used_by (Call t f) None u e h = switched_used (Call t f) u (own_used (suc s.number) (Call t f) u e h)
  next_used_by (Ret t) None u e h = switched_used (Ret t) u (own_used (suc s.number) (Ret t) u e h)
  next_used_by (Sleep t) None u e h = switched_used (Sleep t) u (own_used (suc s.number) (Sleep t) u e h)
  next_used_by (Wake t) None u e h = switched_used (Wake t) u (own_used (suc s.number) (Wake t) u e h)
  next_used_by (Enter t) None u e h = switched_used (Enter t) u (own_used (suc s.number) (Enter t) u e h)
  next_used_by (Exit t) None u e h = switched_used (Exit t) u (own_used (suc s.number) (Exit t) u e h)
  next_used_by (Idle t) None u e h = switched_used (Idle t) u (own_used (suc s.number) (Idle t) u e h)
  next_used_by (Resched t) None u e h = switched_used (Resched t) u (own_used (suc s.number) (Resched t) u e h)
  next_used_by (Fork p c how) None u e h = switched_used (Fork p c how) u (own_used (suc s.number) (Fork p c how) u e h)
  next_used_by (Die t) None u e h = switched_used (Die t) u (own_used (suc s.number) (Die t) u e h)
  next_used_by Walk None u e h = switched_used Walk u (own_used (suc s.number) Walk u e h)
  next_used_by Stop None u e h = switched_used Stop u (own_used (suc s.number) Stop u e h)
  next_used_by Enable None u e h = h
  next_used_by Disable None u e h = h
  next_used_by Reverse None u e h = h

  -- a used number stays used
  pub next_used : (event : Event) (u : ℕ) → is_unused (s.tasks u) ≡ false → is_unused ((next model s event).tasks u) ≡ false
  unfolding next
  next_used event u h = next_used_by event (refusal_of model s event) u refl h

  -- ---- The child that an event brings

  pub record IsChild (event : Event) (c : ℕ) : Type 0 where
    pub new : is_unused (s.tasks c) ≡ true
    pub after : is_unused ((next model s event).tasks c) ≡ false

  born_by : (p c : TaskId) (how : ForkKind) → refusal_of model s (Fork p c how) ≡ None → is_unused ((next_by model s (Fork p c how) None).tasks c.0) ≡ false
  born_by p c how ok =
      switched_used (Fork p c how) c.0
      (ap is_unused (cond-true (nat_eq c.0 c.0) _ _ (eq-eqb c.0 c.0 refl)) ∙ live_bears _ (s.tasks p.0) (fork_new p c how ok).parent)

  born : (p c : TaskId) (how : ForkKind) → refusal_of model s (Fork p c how) ≡ None → IsChild (Fork p c how) c.0
  unfolding next
  born p c how ok = record {
    new = ap is_unused (fork_new p c how ok).new;
    after = subst (λ (why : Option Refusal). is_unused ((next_by model s (Fork p c how) why).tasks c.0) ≡ false) (sym ok) (born_by p c how ok);
  }

  no_child : (b : Bool) (c : ℕ) → (if b then None else None) ≡ Some c → ⊥
  no_child true c e = cc
  no_child false c e = cc

  fork_child : (p c : TaskId) (how : ForkKind) (why : Option Refusal) (d : ℕ) → refusal_of model s (Fork p c how) ≡ why → brought (Fork p c how) (answer_by model s (Fork p c how) why).what ≡ Some d → IsChild (Fork p c how) d
  fork_child p c how (Some why) d e b = absurd (cc)
  fork_child p c how None d e b = child_is (is_none (refusal_in (told model s (Fork p c how)))) b
    where
      child_is : (accepted : Bool) → (if accepted then Some c.0 else None) ≡ Some d → IsChild (Fork p c how) d
      child_is true is = let same : c.0 ≡ d = cc in subst (IsChild (Fork p c how)) same (born p c how e)
      child_is false is = absurd (cc)

  -- the child that an event brings is new, and used from then on
  pub child_is_new : (event : Event) (c : ℕ) → brought event (answer model s event).what ≡ Some c → IsChild event c
  unfolding answer
  child_is_new (Call t f) c b = absurd (no_child _ c b)
  child_is_new (Ret t) c b = absurd (no_child _ c b)
  child_is_new (Sleep t) c b = absurd (no_child _ c b)
  child_is_new (Wake t) c b = absurd (no_child _ c b)
  child_is_new (Enter t) c b = absurd (no_child _ c b)
  child_is_new (Exit t) c b = absurd (no_child _ c b)
  child_is_new (Idle t) c b = absurd (no_child _ c b)
  child_is_new (Resched t) c b = absurd (no_child _ c b)
  child_is_new (Fork p d how) c b = fork_child p d how (refusal_of model s (Fork p d how)) c refl b
  child_is_new (Die t) c b = absurd (no_child _ c b)
  child_is_new Walk c b = absurd (no_child _ c b)
  child_is_new Stop c b = absurd (no_child _ c b)
  child_is_new Enable c b = absurd (no_child _ c b)
  child_is_new Disable c b = absurd (no_child _ c b)
  child_is_new Reverse c b = absurd (no_child _ c b)
