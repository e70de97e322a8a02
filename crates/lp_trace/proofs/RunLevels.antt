-- No level of a run is beyond the number of its patches.
use Rattle.std.proofs.Common.{◌≡◌, ℕ, pred, ◌≤◌, Bool, true, false, not, List, [], ◌∷◌, length, Option, None, Some, if◌then◌else◌, nat_eq, refl, sym, subst, arith}
use Rattle.std.specs.Prelude.{is_none}
use Rattle.std.proofs.lemmas.Bool.{cond_both, eqb-false}
use Rattle.lp_stack.specs.declared.number.TaskId.{TaskId}
use Rattle.lp_stack.specs.declared.view.Class.{Class}
use Rattle.lp_patch.specs.Patches.{Patches}
use Rattle.lp_model.specs.Rules.{Rules}
use Rattle.lp_definitions.specs.declared.event.Event.{Event}
use Rattle.lp_definitions.specs.declared.event.Event.TheVariants.{Call, Ret, Sleep, Wake, Enter, Exit, Idle, Resched, Fork, Die, Walk, Stop, Enable, Disable, Reverse}
use Rattle.lp_definitions.specs.declared.refusal.Refusal.TheVariants.{InTransition, AlreadyThere}
use Rattle.lp_definitions.specs.Tasks.{Bounds, Fate, Unused, Live, Dead, Life, Origin, Stood, Forked, fits, first_of, map_live, on_live}
use Rattle.lp_definitions.specs.Leg.{Leg, LegTask, State, after}
use Rattle.lp_definitions.specs.Schedule.{Schedule, first_check, has_come, level_by, leg_task}
use Rattle.lp_definitions.specs.Run.{and_then, at_boot, booted, control_tests, is_complete_now, level_now, new_target, next_leg, opened, opens, refused_by, shown, start}
use Rattle.lp_laws.proofs.NextTasks.{changed_origin, each_life, none_first, unfit}

-- ---- Levels of tasks

abbrev IsOriginUpTo : ℕ → Origin → Type 0
IsOriginUpTo n (Stood level) = level ≤ n
IsOriginUpTo n (Forked group parent place) = IsOriginUpTo n parent

level_up_to : (target : ℕ) (schedule : Schedule) (n k group : ℕ) (o : Origin) → target ≤ n → IsOriginUpTo n o → level_by target schedule k group o ≤ n
unfolding level_by
level_up_to target schedule n k group (Stood level) t h = cond_both (has_come (schedule group) k) target level (λ l. l ≤ n) (λ _. t) (λ _. h)
level_up_to target schedule n k group (Forked g parent place) t h =
    cond_both (has_come (schedule group) k) target (level_by target schedule place g parent) (λ l. l ≤ n) (λ _. t) (λ _. level_up_to target schedule n place g parent t h)

-- a leg over so many patches, none of whose levels is beyond them
pub record IsUpTo (n : ℕ) (leg : Leg) : Type 0 where
  pub patches : length leg.patches ≡ n
  pub bounds : leg.bounds.tasks ≤ 65535
  pub target : leg.target ≤ n
  pub from : leg.from ≤ n
  pub levels : (t : ℕ) (x : LegTask) → leg.tasks t ≡ Live x → x.level ≤ n

module _ (model : Rules) (n : ℕ) (leg : Leg) (h : IsUpTo n leg) where
  origin_up_to : (k t : ℕ) (x : Life) → after model leg k t ≡ Live x → IsOriginUpTo n x.origin
  origin_up_to =
      each_life model.child_group leg (λ k t x. IsOriginUpTo n x.origin)
      (λ t y live. h.levels t y live)
      (λ k t y c live was now. subst (IsOriginUpTo n) (sym (changed_origin k c y)) was)
      (λ k p t how y live was unused positive within now. was)

  stands_up_to : (t : ℕ) (f : Fate Life) → after model leg (length leg.events) t ≡ f → (x : LegTask) → map_live (leg_task leg (first_check model leg) (length leg.events)) f ≡ Live x → x.level ≤ n
  stands_up_to t Unused e x live = absurd (cc)
  stands_up_to t (Live y) e x live =
      let same : leg_task leg (first_check model leg) (length leg.events) y ≡ x = cc in
      subst (λ (z : LegTask). z.level ≤ n) same (level_up_to leg.target (first_check model leg) n (length leg.events) y.group y.origin h.target (origin_up_to (length leg.events) t y e))
  stands_up_to t Dead e x live = absurd (cc)

  pub shown_up_to : (t : ℕ) (x : LegTask) → shown model leg t ≡ Live x → x.level ≤ n
  unfolding shown
  shown_up_to t x live = stands_up_to t (after model leg (length leg.events) t) refl x live

-- ---- Where a control event goes

is_none-true : {A : Type 0} (o : Option A) → is_none o ≡ true → o ≡ None
is_none-true None e = refl
is_none-true (Some x) e = absurd (cc e)

-- an accepted `enable` finds a patch that doesn't apply yet
enable_finds : (now : State) (settled : Bool) → first_of (control_tests now settled Enable) ≡ None → nat_eq now.target (length now.patches) ≡ false
enable_finds now settled e =
    let last = fits (nat_eq now.target (length now.patches)) AlreadyThere in
    let a = none_first (fits (not settled) InTransition) (last ∷ []) e in
    let b = none_first last [] a.1 in
    unfit (nat_eq now.target (length now.patches)) AlreadyThere b.0

module _ (model : Rules) (n : ℕ) (leg : Leg) (h : IsUpTo n leg) where
  target_up_to : (event : Event) → opens model leg event ≡ true → new_target leg.opening event ≤ n
  unfolding refused_by
  target_up_to Enable e =
      let free = is_none-true (refused_by model leg Enable) e in
      let other = eqb-false leg.target (length leg.patches) (enable_finds leg.opening (is_complete_now model leg) free) in
      omega (arith, other, h.patches, h.target)
  target_up_to Disable e = let less : pred leg.target ≤ n = omega (arith, h.target) in less
  target_up_to Reverse e = h.from
  target_up_to (Call t f) e = h.target
  target_up_to (Ret t) e = h.target
  target_up_to (Sleep t) e = h.target
  target_up_to (Wake t) e = h.target
  target_up_to (Enter t) e = h.target
  target_up_to (Exit t) e = h.target
  target_up_to (Idle t) e = h.target
  target_up_to (Resched t) e = h.target
  target_up_to (Fork p c how) e = h.target
  target_up_to (Die t) e = h.target
  target_up_to Walk e = h.target
  target_up_to Stop e = h.target

  pub next_up_to : (event : Event) → IsUpTo n (next_leg model leg event)
  unfolding next_leg
  next_up_to event =
      cond_both (opens model leg event) (opened model leg event) (and_then leg event) (IsUpTo n)
      (λ e. record { patches = h.patches; bounds = h.bounds; target = target_up_to event e; from = h.target; levels = shown_up_to model n leg h })
      (λ e. record { patches = h.patches; bounds = h.bounds; target = h.target; from = h.from; levels = h.levels })

  level_of : (f : Fate LegTask) → ((x : LegTask) → f ≡ Live x → x.level ≤ n) → on_live 0 (λ x. x.level) f ≤ n
  level_of Unused each = omega arith
  level_of (Live x) each = each x refl
  level_of Dead each = omega arith

  pub now_up_to : (t : ℕ) → level_now model leg t ≤ n
  now_up_to t = level_of (shown model leg t) (shown_up_to model n leg h t)

-- ---- The start

booted_up_to : (model : Rules) (n : ℕ) (boots : List (TaskId × Class)) (t : ℕ) (x : LegTask) → booted model boots t ≡ Live x → x.level ≤ n
booted_up_to model n [] t x e = absurd (cc)
booted_up_to model n (boot ∷ boots) t x e = one (nat_eq t boot.0.0) (booted_up_to model n boots t x) e
  where
    one : (b : Bool) → (booted model boots t ≡ Live x → x.level ≤ n) → (if b then Live (at_boot model t boot.1) else booted model boots t) ≡ Live x → x.level ≤ n
    one true rest h = let same : at_boot model t boot.1 ≡ x = cc in subst (λ (z : LegTask). z.level ≤ n) same (omega arith)
    one false rest h = rest h

pub start_up_to : (model : Rules) (bounds : Bounds) (patches : Patches) (boots : List (TaskId × Class)) → bounds.tasks ≤ 65535 → IsUpTo (length patches) (start model bounds patches boots)
start_up_to model bounds patches boots few =
    record { patches = refl; bounds = few; target = omega arith; from = omega arith; levels = booted_up_to model (length patches) boots }
