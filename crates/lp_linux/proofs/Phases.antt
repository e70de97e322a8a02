-- The kernel as a function of where the engine stands, and what its steps make of it.
use Rattle.std.proofs.Common.{◌≡◌, ◌⊎◌, ℕ, suc, ◌≤◌, Bool, true, false, not, ◌&&◌, length, map, if◌then◌else◌, nat_eq, refl, ap, ◌∙◌}
use Rattle.std.proofs.lemmas.Bool.{eq-eqb, eqb-true}
use mathlib.Core.Path.{fun_ext}
use Rattle.lp_definitions.specs.Tasks.{Live}
use Rattle.lp_definitions.specs.Leg.{LegTask, State, each_live}
use Rattle.lp_machine.specs.Machine.{complete_in}
use Rattle.lp_definitions.proofs.Quantifiers.{each_live-map, each_live-at, each_live-from}
use Rattle.lp_linux.specs.Transition.{opposite, Livepatch}
use Rattle.lp_linux.specs.Reading.{awaits_walk, entry_of, task_of}
use Rattle.lp_linux.proofs.Loops.{Within, within-map}
use Rattle.lp_linux.specs.declared.follow.TargetState.{TargetState as Phase}
use Rattle.lp_linux.specs.declared.follow.TargetState.TheVariants.{Undefined, Patched, Unpatched}
use Rattle.lp_linux.specs.Followed.{klp_of, linux_of}
use Rattle.lp_linux.proofs.Own.{Fits}

-- how the levels lie
abbrev pub Turns : Phase → State → Type 0
Turns Undefined s = Unit {0}
Turns Patched s = s.target ≡ suc s.from
Turns Unpatched s = s.from ≡ suc s.target

abbrev pub Level : Phase → State → ℕ → Type 0
Level Undefined s level = level ≡ s.target
Level Patched s level = level ≡ s.target ⊎ level ≡ s.from
Level Unpatched s level = level ≡ s.target ⊎ level ≡ s.from

pub record Keeps (phase : Phase) (s : State) : Type 0 where
  pub fits : Fits s.bounds.tasks (Level phase s) s.tasks
  pub turns : Turns phase s
  pub target_in : s.target ≤ length s.patches
  pub from_in : s.from ≤ length s.patches

pub within_of : (phase : Phase) (s : State) → Keeps phase s → Within s.bounds.tasks s.tasks
within_of phase s keeps t x live = let fit = keeps.fits t x live in (fit.positive, fit.within)

pub linux_within : (phase : Phase) (s : State) → Keeps phase s → Within s.bounds.tasks (linux_of phase s).tasks
linux_within phase s keeps = within-map (task_of (klp_of phase s) s.target) s.bounds.tasks s.tasks (within_of phase s keeps)

-- ---- The time in which the kernel hasn't noticed the completion

not_not : (b : Bool) → not (not b) ≡ b
not_not true = refl
not_not false = refl

pub awaits_is : (phase : Phase) (s : State) → awaits_walk (linux_of phase s) ≡ (not (nat_eq (klp_of phase s).klp_transition_patch 0) && complete_in s)
awaits_is phase s =
    ap (λ b. not (nat_eq (klp_of phase s).klp_transition_patch 0) && b)
    (each_live-map s.bounds (task_of (klp_of phase s) s.target) s.tasks (λ t task. not task.TIF_PATCH_PENDING)
    ∙ ap (each_live s.bounds s.tasks) (fun_ext (λ t. fun_ext (λ x. not_not (nat_eq x.level s.target)))))

pub settled_complete : (s : State) → Keeps Undefined s → complete_in s ≡ true
settled_complete s keeps = each_live-from s.bounds s.tasks (λ t x. nat_eq x.level s.target) (λ t x p w live. eq-eqb x.level s.target (keeps.fits t x live).level)

pub complete_levels : (s : State) → complete_in s ≡ true → (R : ℕ → Type 0) → Fits s.bounds.tasks R s.tasks → (t : ℕ) (x : LegTask) → s.tasks t ≡ Live x → x.level ≡ s.target
complete_levels s done R fits t x live =
    let fit = fits t x live in
    eqb-true x.level s.target (each_live-at s.bounds s.tasks (λ u y. nat_eq y.level s.target) done t x fit.positive fit.within live)

-- ---- A task

module _ (klp : Livepatch) (target : ℕ) where
  -- a task that goes over
  pub moved_is : (x : LegTask) → task_of klp target (record x { level = target }) ≡ record (task_of klp target x) { patch_state = klp.klp_target_state; TIF_PATCH_PENDING = false }
  moved_is x =
      ap (λ b. record {
        class = x.class;
        mode = x.mode;
        stack = map (entry_of klp.patches) x.frames;
        patch_state = if b then klp.klp_target_state else opposite klp.klp_target_state;
        TIF_PATCH_PENDING = not b;
      }) (eq-eqb target target refl)

  -- a task by what its level says
  pub task_by : (x : LegTask) (b : Bool) → nat_eq x.level target ≡ b → task_of klp target x ≡ record {
    class = x.class;
    mode = x.mode;
    stack = map (entry_of klp.patches) x.frames;
    patch_state = if b then klp.klp_target_state else opposite klp.klp_target_state;
    TIF_PATCH_PENDING = not b;
  }
  task_by x b e =
      ap (λ b. record {
        class = x.class;
        mode = x.mode;
        stack = map (entry_of klp.patches) x.frames;
        patch_state = if b then klp.klp_target_state else opposite klp.klp_target_state;
        TIF_PATCH_PENDING = not b;
      }) e
