-- What an accepted event finds.
use Rattle.std.proofs.Common.{◌≡◌, ◌≢◌, ℕ, ◌<◌, ◌≤◌, Bool, true, false, not, List, [], ◌∷◌, length, Option, Some, None, nat_le, nat_lt, nat_eq, ◌||◌, refl, subst, arith}
use Rattle.std.proofs.lemmas.Bool.{eq-eqb}
use Rattle.std.proofs.lemmas.Bool.Decides.{nat_tests}
use Rattle.lp_symbols.specs.declared.sym_id.SymId.{SymId}
use Rattle.lp_stack.specs.declared.number.TaskId.{TaskId}
use Rattle.lp_stack.specs.declared.view.Class.TheVariants.{Normal, Idle as IsIdle}
use Rattle.lp_stack.specs.declared.view.Mode.TheVariants.{Kernel}
use Rattle.lp_model.specs.Rules.{Rules}
use Rattle.lp_model.specs.declared.check.ForkKind.{ForkKind}
use Rattle.lp_definitions.specs.declared.event.Event.TheVariants.{Call, Exit, Idle, Resched, Fork, Die, Enable}
use Rattle.lp_definitions.specs.declared.refusal.Refusal.{Refusal}
use Rattle.lp_definitions.specs.declared.refusal.Refusal.TheVariants.{UnknownTask, TaskRange, TaskUsed, StackFull, StackNotEmpty, InTransition, AlreadyThere}
use Rattle.lp_numbers.specs.Numbers.{has}
use Rattle.lp_definitions.specs.Tasks.{on_live, map_live, is_unused, fits, first_of, unknown_task, unknown_symbol, out_of_range, used, not_of, not_in, stack_full, stack_not_empty}
use Rattle.lp_definitions.specs.Leg.{LegTask}
use Rattle.lp_machine.specs.Machine.{complete_in, outline_of, outlines_of, refusal_of}
use Rattle.lp_machine.specs.Table.{Engine, bounds_of, slot, fate_at, leg_tasks, state_in}

-- no test fits, the first neither
first_free : {A : Type 0} (test : Option A) (tests : List (Option A)) → first_of (test ∷ tests) ≡ None → test ≡ None
first_free None tests h = refl
first_free (Some x) tests h = cc

others_free : {A : Type 0} (test : Option A) (tests : List (Option A)) → first_of (test ∷ tests) ≡ None → first_of tests ≡ None
others_free None tests h = h
others_free (Some x) tests h = cc

fits-free : {A : Type 0} (b : Bool) (x : A) → fits b x ≡ None → b ≡ false
fits-free true x h = cc
fits-free false x h = refl

-- the task that an accepted event names is live
pub record IsLive (e : Engine) (t : ℕ) : Type 0 where
  pub task : LegTask
  pub there : slot e.table t ≡ Some task

known-live : (e : Engine) (t : ℕ) (o : Option LegTask) (used : Bool) → slot e.table t ≡ o → not (on_live false (λ x. true) (map_live outline_of (fate_at o used))) ≡ false → IsLive e t
known-live e t None true s h = cc
known-live e t None false s h = cc
known-live e t (Some x) used s h = record { task = x; there = s }

module _ (model : Rules) (e : Engine) where
  by_first : (t : ℕ) (tests : List (Option Refusal)) → first_of (unknown_task (outlines_of (leg_tasks e.table)) t ∷ tests) ≡ None → IsLive e t
  by_first t tests h =
      known-live e t (slot e.table t) (has e.table.used t) refl (fits-free (not (on_live false (λ x. true) (outlines_of (leg_tasks e.table) t))) UnknownTask (first_free (unknown_task (outlines_of (leg_tasks e.table)) t) tests h))

  -- the task of an event that an engine accepts
  pub exit-live : (t : TaskId) → refusal_of model (state_in e) (Exit t) ≡ None → IsLive e t.0
  unfolding refusal_of
  exit-live t h = by_first t.0 (not_of Normal (outlines_of (leg_tasks e.table)) t.0 ∷ not_in Kernel (outlines_of (leg_tasks e.table)) t.0 ∷ stack_not_empty (outlines_of (leg_tasks e.table)) t.0 ∷ []) h

  pub idle-live : (t : TaskId) → refusal_of model (state_in e) (Idle t) ≡ None → IsLive e t.0
  unfolding refusal_of
  idle-live t h = by_first t.0 (not_of IsIdle (outlines_of (leg_tasks e.table)) t.0 ∷ not_in Kernel (outlines_of (leg_tasks e.table)) t.0 ∷ stack_not_empty (outlines_of (leg_tasks e.table)) t.0 ∷ []) h

  pub resched-live : (t : TaskId) → refusal_of model (state_in e) (Resched t) ≡ None → IsLive e t.0
  unfolding refusal_of
  resched-live t h = by_first t.0 (not_of Normal (outlines_of (leg_tasks e.table)) t.0 ∷ not_in Kernel (outlines_of (leg_tasks e.table)) t.0 ∷ []) h

  pub die-live : (t : TaskId) → refusal_of model (state_in e) (Die t) ≡ None → IsLive e t.0
  unfolding refusal_of
  die-live t h = by_first t.0 (not_of Normal (outlines_of (leg_tasks e.table)) t.0 ∷ not_in Kernel (outlines_of (leg_tasks e.table)) t.0 ∷ stack_not_empty (outlines_of (leg_tasks e.table)) t.0 ∷ []) h

  pub fork-live : (p c : TaskId) (how : ForkKind) → refusal_of model (state_in e) (Fork p c how) ≡ None → IsLive e p.0
  unfolding refusal_of
  fork-live p c how h = by_first p.0 (out_of_range (bounds_of e.patches) c.0 ∷ used (outlines_of (leg_tasks e.table)) c.0 ∷ not_of Normal (outlines_of (leg_tasks e.table)) p.0 ∷ not_in Kernel (outlines_of (leg_tasks e.table)) p.0 ∷ []) h

  -- a call finds room on the stack
  pub call-room : (t : TaskId) (f : SymId) (x : LegTask) → refusal_of model (state_in e) (Call t f) ≡ None → slot e.table t.0 ≡ Some x → length x.frames < 100
  unfolding refusal_of
  call-room t f x h there =
      let live = outlines_of (leg_tasks e.table) in
      let a = unknown_task live t.0 in
      let b = unknown_symbol (bounds_of e.patches) f.0 in
      let m = not_in Kernel live t.0 in
      let d = stack_full live t.0 in
      let free = first_free d [] (others_free m (d ∷ []) (others_free b (m ∷ d ∷ []) (others_free a (b ∷ m ∷ d ∷ []) h))) in
      let full : nat_le 100 (length x.frames) ≡ false = fits-free (nat_le 100 (length x.frames)) StackFull (subst (λ o. fits (nat_le 100 (on_live 0 (λ y. y.depth) (map_live outline_of (fate_at o (has e.table.used t.0))))) StackFull ≡ None) there free) in
      grind (arith, nat_tests, full)

  -- a task that ends has no frame
  pub die-empty : (t : TaskId) (x : LegTask) → refusal_of model (state_in e) (Die t) ≡ None → slot e.table t.0 ≡ Some x → length x.frames ≡ 0
  unfolding refusal_of
  die-empty t x h there =
      let live = outlines_of (leg_tasks e.table) in
      let a = unknown_task live t.0 in
      let n = not_of Normal live t.0 in
      let m = not_in Kernel live t.0 in
      let d = stack_not_empty live t.0 in
      let free = first_free d [] (others_free m (d ∷ []) (others_free n (m ∷ d ∷ []) (others_free a (n ∷ m ∷ d ∷ []) h))) in
      let empty : not (nat_eq (length x.frames) 0) ≡ false = fits-free (not (nat_eq (length x.frames) 0)) StackNotEmpty (subst (λ o. fits (not (nat_eq (on_live 0 (λ y. y.depth) (map_live outline_of (fate_at o (has e.table.used t.0)))) 0)) StackNotEmpty ≡ None) there free) in
      grind (arith, nat_tests, empty)

  -- a child's number is new
  pub fork-new : (p c : TaskId) (how : ForkKind) → refusal_of model (state_in e) (Fork p c how) ≡ None → (slot e.table c.0 ≡ None) × (has e.table.used c.0 ≡ false)
  unfolding refusal_of
  fork-new p c how h =
      let live = outlines_of (leg_tasks e.table) in
      let a = unknown_task live p.0 in
      let b = out_of_range (bounds_of e.patches) c.0 in
      let u = used live c.0 in
      let rest = not_of Normal live p.0 ∷ not_in Kernel live p.0 ∷ [] in
      let free = first_free u rest (others_free b (u ∷ rest) (others_free a (b ∷ u ∷ rest) h)) in
      unused-slot (slot e.table c.0) (has e.table.used c.0) (fits-free (not (is_unused (live c.0))) TaskUsed free)
    where
      unused-slot : (o : Option LegTask) (b : Bool) → not (is_unused (map_live outline_of (fate_at o b))) ≡ false → (o ≡ None) × (b ≡ false)
      unused-slot None true h = absurd (cc)
      unused-slot None false h = (refl, refl)
      unused-slot (Some x) b h = absurd (cc)

  -- and not 0
  pub fork-positive : (p c : TaskId) (how : ForkKind) → refusal_of model (state_in e) (Fork p c how) ≡ None → 0 < c.0
  unfolding refusal_of
  fork-positive p c how h =
      let live = outlines_of (leg_tasks e.table) in
      let a = unknown_task live p.0 in
      let b = out_of_range (bounds_of e.patches) c.0 in
      let rest = used live c.0 ∷ not_of Normal live p.0 ∷ not_in Kernel live p.0 ∷ [] in
      let free = fits-free (nat_eq c.0 0 || nat_lt 65535 c.0) TaskRange (first_free b rest (others_free a (b ∷ rest) h)) in
      grind (arith, nat_tests, free)

  -- and not past the last
  pub fork-within : (p c : TaskId) (how : ForkKind) → refusal_of model (state_in e) (Fork p c how) ≡ None → c.0 ≤ 65535
  unfolding refusal_of
  fork-within p c how h =
      let live = outlines_of (leg_tasks e.table) in
      let a = unknown_task live p.0 in
      let b = out_of_range (bounds_of e.patches) c.0 in
      let rest = used live c.0 ∷ not_of Normal live p.0 ∷ not_in Kernel live p.0 ∷ [] in
      let free = fits-free (nat_eq c.0 0 || nat_lt 65535 c.0) TaskRange (first_free b rest (others_free a (b ∷ rest) h)) in
      grind (arith, nat_tests, free)

  -- a patch is left to be enabled
  pub enable-below : refusal_of model (state_in e) Enable ≡ None → e.target ≢ length e.patches
  unfolding refusal_of
  enable-below h same =
      let a = fits (not (complete_in (state_in e))) InTransition in
      let b = fits (nat_eq e.target (length e.patches)) AlreadyThere in
      let free = fits-free (nat_eq e.target (length e.patches)) AlreadyThere (first_free b [] (others_free a (b ∷ []) h)) in
      let there = eq-eqb e.target (length e.patches) same in
      cc
