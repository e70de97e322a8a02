-- What the definitions' replies say of the kernel's tasks, and what a walk returns for each.
use Rattle.std.proofs.Common.{◌≡◌, ℕ, Bool, true, false, not, ◌&&◌, ◌||◌, Option, Some, None, if◌then◌else◌, nat_eq, refl, sym, ap, ◌∙◌}
use Rattle.std.specs.List.{list_any}
use Rattle.std.proofs.lemmas.Bool.{cond-false}
use Rattle.lp_stack.specs.declared.view.Mode.{Mode}
use Rattle.lp_stack.specs.declared.view.Mode.TheVariants.{User, Kernel, Asleep}
use Rattle.lp_patch.specs.Patches.{Aim, is_stale}
use Rattle.lp_model.specs.declared.check.CheckKind.TheVariants.{Resched, Walk}
use Rattle.lp_models.specs.Models.{is_awake}
use Rattle.lp_definitions.specs.declared.event.Event.{Event}
use Rattle.lp_definitions.specs.declared.refusal.Refusal.{Refusal}
use Rattle.lp_definitions.specs.declared.reply.Reply.{Reply}
use Rattle.lp_definitions.specs.Events.{is_control}
use Rattle.lp_definitions.specs.Tasks.{Live, same_mode}
use Rattle.lp_definitions.specs.Leg.{LegTask, State}
use Rattle.lp_definitions.specs.Sound.{RunsOneVersion}
use Rattle.lp_machine.specs.Machine.{view_of, complete_in, refusal_of, with_switches, answer, answer_by, next}
use Rattle.lp_linux.specs.Transition.{OK, EBUSY, EADDRINUSE, is_ok, klp_try_switch_task}
use Rattle.lp_linux.specs.Reading.{task_of, own_code_of, code_of, names}
use Rattle.lp_linux.proofs.Own.{h}
use Rattle.lp_linux.specs.declared.follow.TargetState.{TargetState as Phase}
use Rattle.lp_linux.specs.declared.follow.TargetState.TheVariants.{Undefined, Patched, Unpatched}
use Rattle.lp_linux.specs.Followed.{klp_of}
use Rattle.lp_linux.proofs.Phases.{Level, Keeps}
use Rattle.lp_linux.proofs.Moves.{went_over, still_there, told_names, complete_stays}
use Rattle.lp_linux.proofs.TaskEvents.{code_told, own_code_told}
use Rattle.lp_linux.proofs.Steps.{next-refused, next-plain, affected_fits, up_checks, down_checks}

module _ (phase : Phase) (s : State) (keeps : Keeps phase s) (event : Event) (plain : is_control event ≡ false) where
  -- whom the answer names: those that were off the target and are on it
  pub answer_names : (t : ℕ) (x y : LegTask) → s.tasks t ≡ Live x → (next h s event).tasks t ≡ Live y → names (answer h s event).what t ≡ went_over s.target x.level y.level
  unfolding answer
  answer_names t x y before after = by (refusal_of h s event) refl
    where
      by : (r : Option Refusal) → refusal_of h s event ≡ r → names (answer h s event).what t ≡ went_over s.target x.level y.level
      by (Some why) e =
          let there : s.tasks t ≡ Live y = sym (ap (λ (st : State). st.tasks t) (next-refused s event why e)) ∙ after in
          let same : x ≡ y = let both : Live x ≡ Live y = sym before ∙ there in cc in
          ap (λ r. names (answer_by h s event r).what t) e ∙ (sym (still_there s.target x.level) ∙ ap (λ (z : LegTask). went_over s.target x.level z.level) same)
      by None e =
          let there : (with_switches h s event).tasks t ≡ Live y = sym (ap (λ (st : State). st.tasks t) (next-plain s event e plain)) ∙ after in
          ap (λ r. names (answer_by h s event r).what t) e
          ∙ (ap (λ (r : Reply). names r.what t) (cond-false _ _ _ plain) ∙ told_names (Level phase s) s keeps.fits (λ ev p ok. affected_fits phase s keeps ev p ok) t (keeps.fits t x before).within event plain e x y before there)

  -- once nobody is pending nobody will be
  pub over_stays : complete_in s ≡ true → complete_in (next h s event) ≡ true
  over_stays done = by (refusal_of h s event) refl
    where
      by : (r : Option Refusal) → refusal_of h s event ≡ r → complete_in (next h s event) ≡ true
      by (Some why) e = ap complete_in (next-refused s event why e) ∙ done
      by None e = ap complete_in (next-plain s event e plain) ∙ complete_stays (Level phase s) s keeps.fits done event plain e

-- ---- What a walk returns

-- a task passes a walk where it is on the target, or `hybrid` admits it
pub passes_code : (aim : Aim) (t : ℕ) (x : LegTask) → is_ok (code_of aim x) ≡ (nat_eq x.level aim.target || h.admits Walk (view_of t x) aim)
passes_code aim t x = by (nat_eq x.level aim.target) x.mode (list_any (is_stale aim) x.frames)
  where
    by : (on : Bool) (mode : Mode) (stale : Bool) → is_ok (if on then OK else if not (same_mode mode Asleep) then EBUSY else if stale then EADDRINUSE else OK) ≡ (on || (not stale && not (is_awake mode)))
    by true mode stale = refl
    by false User true = refl
    by false User false = refl
    by false Kernel true = refl
    by false Kernel false = refl
    by false Asleep true = refl
    by false Asleep false = refl

pub codes : (phase : Phase) (s : State) → Keeps phase s → RunsOneVersion s → (phase ≡ Undefined → ⊥) → (t : ℕ) (x : LegTask) → s.tasks t ≡ Live x → (klp_try_switch_task false (klp_of phase s) (task_of (klp_of phase s) s.target x)).code ≡ code_of s.aim x
codes Undefined s keeps one moving t x live = absurd (moving refl)
codes Patched s keeps one moving t x live = code_told (Level Patched s) (klp_of Patched s) s keeps.fits refl refl (up_checks s one keeps) t x live
codes Unpatched s keeps one moving t x live = code_told (Level Unpatched s) (klp_of Unpatched s) s keeps.fits refl refl (down_checks s one keeps) t x live

-- ---- What the task's own check returns

pub passes_own_code : (aim : Aim) (t : ℕ) (x : LegTask) → is_ok (own_code_of aim x) ≡ (nat_eq x.level aim.target || h.admits Resched (view_of t x) aim)
passes_own_code aim t x = by (nat_eq x.level aim.target) (list_any (is_stale aim) x.frames)
  where
    by : (on stale : Bool) → is_ok (if on then OK else if stale then EADDRINUSE else OK) ≡ (on || (not stale && true))
    by true stale = refl
    by false true = refl
    by false false = refl

pub own_codes : (phase : Phase) (s : State) → Keeps phase s → RunsOneVersion s → (phase ≡ Undefined → ⊥) → (t : ℕ) (x : LegTask) → s.tasks t ≡ Live x → (klp_try_switch_task true (klp_of phase s) (task_of (klp_of phase s) s.target x)).code ≡ own_code_of s.aim x
own_codes Undefined s keeps one moving t x live = absurd (moving refl)
own_codes Patched s keeps one moving t x live = own_code_told (Level Patched s) (klp_of Patched s) s keeps.fits refl refl (up_checks s one keeps) t x live
own_codes Unpatched s keeps one moving t x live = own_code_told (Level Unpatched s) (klp_of Unpatched s) s keeps.fits refl refl (down_checks s one keeps) t x live
