-- Who is switched at an event, and what stays once nobody is pending.
use Rattle.std.proofs.Common.{◌≡◌, ℕ, suc, ◌≤◌, Bool, true, false, not, ◌&&◌, ◌||◌, List, [], ◌∷◌, ◌++◌, filter, Option, None, if◌then◌else◌, nat_eq, refl, sym, ap, ap₂, ◌∙◌, arith}
use Rattle.std.specs.List.{list_any, range_with_len}
use Rattle.std.proofs.lemmas.Bool.{eq-eqb, eqb-true, and_parts}
use Rattle.lp_stack.specs.declared.view.Mode.TheVariants.{User, Kernel, Asleep}
use Rattle.lp_stack.specs.declared.view.Class.TheVariants.{Normal}
use Rattle.lp_definitions.specs.declared.event.Event.{Event}
use Rattle.lp_definitions.specs.declared.event.Event.TheVariants.{Call, Ret, Sleep, Wake, Enter, Exit, Fork, Die, Enable, Disable, Reverse}
use Rattle.lp_definitions.specs.declared.refusal.Refusal.{Refusal}
use Rattle.lp_definitions.specs.declared.refusal.Refusal.TheVariants.{TaskUsed}
use Rattle.lp_definitions.specs.Events.{is_control}
use Rattle.lp_definitions.specs.Run.{switched, control_tests}
use Rattle.lp_definitions.specs.Tasks.{Fate, Unused, Live, Dead, map_live, is_unused, first_of, tests, unknown_task, out_of_range, used, not_of, not_in}
use Rattle.lp_definitions.specs.Leg.{LegTask, State}
use Rattle.lp_machine.specs.Machine.{outline_of, outlines_of, put_in, calling, returning, bearing, own_effect, complete_in, switches_at, switched_groups, switched_task, refusal_of, affected, with_switches, told}
use Rattle.lp_laws.proofs.NextTasks.{none_first, unfit}
use Rattle.lp_definitions.proofs.Quantifiers.{each_live-from}
use Rattle.lp_linux.specs.Transition.{KLP_UNDEFINED, Livepatch}
use Rattle.lp_linux.specs.Reading.{names}
use Rattle.lp_linux.proofs.Loops.{fate_from}
use Rattle.lp_linux.proofs.Stacks.{any_one}
use Rattle.lp_linux.proofs.Own.{h, Fits, effect_fits, waits_own}
use Rattle.lp_linux.proofs.Phases.{complete_levels}
use Rattle.lp_linux.proofs.TaskEvents.{lifted, quiet_switches}

-- ---- A list of groups

and_true : (a : Bool) → (a && true) ≡ a
and_true true = refl
and_true false = refl

and_false : (a : Bool) → (a && false) ≡ false
and_false true = refl
and_false false = refl

filter_one : (p : ℕ → Bool) (b : Bool) (x : ℕ) (rest : List ℕ) (tail : Bool) → list_any p rest ≡ tail → list_any p (if b then x ∷ rest else rest) ≡ ((p x && b) || tail)
filter_one p true x rest tail same = ap₂ (λ a c. a || c) (sym (and_true (p x))) same
filter_one p false x rest tail same = same ∙ ap (λ a. a || tail) (sym (and_false (p x)))

any_filter : (p q : ℕ → Bool) (xs : List ℕ) → list_any p (filter q xs) ≡ list_any (λ x. p x && q x) xs
any_filter p q [] = refl
any_filter p q (x ∷ xs) = filter_one p (q x) x (filter q xs) (list_any (λ y. p y && q y) xs) (any_filter p q xs)

names_of : (groups : List ℕ) (t : ℕ) → names (switched groups) t ≡ list_any (nat_eq t) groups
names_of [] t = refl
names_of (group ∷ groups) t = refl

-- ---- A task's level at an event

module _ (s : State) where
  changed_level : (f : LegTask → LegTask) → ((x : LegTask) → (f x).level ≡ x.level) → (b : Bool) (fate : Fate LegTask) (x y : LegTask) → fate ≡ Live x → (if b then map_live f fate else fate) ≡ Live y → y.level ≡ x.level
  changed_level f levels true Unused x y e g = absurd (cc)
  changed_level f levels true (Live z) x y e g =
      let first : z ≡ x = cc in
      let second : f z ≡ y = cc in
      ap (λ (w : LegTask). w.level) (sym second) ∙ (levels z ∙ ap (λ (w : LegTask). w.level) first)
  changed_level f levels true Dead x y e g = absurd (cc)
  changed_level f levels false fate x y e g = let same : x ≡ y = let both : Live x ≡ Live y = sym e ∙ g in cc in ap (λ (w : LegTask). w.level) (sym same)

  -- a live task's number is no child's
  used_number : (p c : ℕ) (rest : List (Option Refusal)) → first_of (unknown_task (outlines_of s.tasks) p ∷ out_of_range s.bounds c ∷ used (outlines_of s.tasks) c ∷ rest) ≡ None → (x : LegTask) → s.tasks c ≡ Live x → ⊥
  used_number p c rest ok x live =
      let seen = outlines_of s.tasks in
      let a = none_first (unknown_task seen p) (out_of_range s.bounds c ∷ used seen c ∷ rest) ok in
      let b = none_first (out_of_range s.bounds c) (used seen c ∷ rest) a.1 in
      let d = none_first (used seen c) rest b.1 in
      let unused : not (is_unused (seen c)) ≡ false = unfit _ TaskUsed d.0 in
      let is_live : not (is_unused (seen c)) ≡ true = ap (λ (fate : Fate LegTask). not (is_unused (map_live outline_of fate))) live in
      let no_way : true ≡ false = sym is_live ∙ unused in
      absurd (cc)

  pub kept_level : (event : Event) (rest : List (Option Refusal)) → first_of (tests s.bounds (outlines_of s.tasks) event ++ rest) ≡ None → (number t : ℕ) (x y : LegTask) → s.tasks t ≡ Live x → own_effect h.child_group number event s.tasks t ≡ Live y → y.level ≡ x.level
  kept_level (Call a f) rest ok number t x y e g = changed_level (calling number f) (λ z. refl) (nat_eq t a.0) (s.tasks t) x y e g
  kept_level (Ret a) rest ok number t x y e g = changed_level returning (λ z. refl) (nat_eq t a.0) (s.tasks t) x y e g
  kept_level (Sleep a) rest ok number t x y e g = changed_level (put_in Asleep) (λ z. refl) (nat_eq t a.0) (s.tasks t) x y e g
  kept_level (Wake a) rest ok number t x y e g = changed_level (put_in Kernel) (λ z. refl) (nat_eq t a.0) (s.tasks t) x y e g
  kept_level (Enter a) rest ok number t x y e g = changed_level (put_in Kernel) (λ z. refl) (nat_eq t a.0) (s.tasks t) x y e g
  kept_level (Exit a) rest ok number t x y e g = changed_level (put_in User) (λ z. refl) (nat_eq t a.0) (s.tasks t) x y e g
  kept_level (Fork p c how) rest ok number t x y e g = by (nat_eq t c.0) refl g
    where
      by : (b : Bool) → nat_eq t c.0 ≡ b → (if b then map_live (bearing h.child_group c.0 how) (s.tasks p.0) else s.tasks t) ≡ Live y → y.level ≡ x.level
      by true is there = absurd (used_number p.0 c.0 (not_of Normal (outlines_of s.tasks) p.0 ∷ not_in Kernel (outlines_of s.tasks) p.0 ∷ rest) ok x (ap s.tasks (sym (eqb-true t c.0 is)) ∙ e))
      by false is there = changed_level (λ z. z) (λ z. refl) false (s.tasks t) x y e there
  kept_level (Die a) rest ok number t x y e g = by (nat_eq t a.0) g
    where
      by : (b : Bool) → (if b then Dead else s.tasks t) ≡ Live y → y.level ≡ x.level
      by true there = absurd (cc)
      by false there = changed_level (λ z. z) (λ z. refl) false (s.tasks t) x y e there
  kept_level _ rest ok number t x y e g = changed_level (λ z. z) (λ z. refl) false (s.tasks t) x y e g

-- ---- Who is switched

-- whether a task on this level was off the target before, and is on it after
abbrev pub went_over : ℕ → ℕ → ℕ → Bool
went_over target before after = not (nat_eq before target) && not (not (nat_eq after target))

pub still_there : (target level : ℕ) → went_over target level level ≡ false
still_there target level = by (nat_eq level target)
  where
    by : (b : Bool) → (not b && not (not b)) ≡ false
    by true = refl
    by false = refl

module _ (R : ℕ → Type 0) (s : State) (event : Event) (fits_now : Fits s.bounds.tasks R (affected h s event).tasks) (t : ℕ) (x z : LegTask) (before : s.tasks t ≡ Live x) (between : (affected h s event).tasks t ≡ Live z) (same : z.level ≡ x.level) where
  abbrev now : State
  now = affected h s event

  abbrev goes : Bool
  goes = switches_at h now event t

  after_is : switched_task h now event z ≡ lifted s.target goes z
  after_is = ap (λ g. lifted s.target (switches_at h now event g) z) (fits_now t z between).own

  waits_where : goes ≡ true → not (nat_eq x.level s.target) ≡ true
  unfolding switches_at
  waits_where e =
      let parts = and_parts _ _ e in
      ap (λ l. not (nat_eq l s.target)) (sym same) ∙ (sym (waits_own R now fits_now t z between) ∙ parts.0)

  pub goes_is : (y : LegTask) → (with_switches h s event).tasks t ≡ Live y → goes ≡ went_over s.target x.level y.level
  goes_is y after = by goes refl
    where
      is : y ≡ lifted s.target goes z
      is = let there : Live (switched_task h now event z) ≡ Live y = sym (ap (map_live (switched_task h now event)) between) ∙ after in let plain : switched_task h now event z ≡ y = cc in sym plain ∙ after_is

      by : (b : Bool) → goes ≡ b → goes ≡ went_over s.target x.level y.level
      by true e =
          let up : y.level ≡ s.target = ap (λ (w : LegTask). w.level) is ∙ ap (λ b. (lifted s.target b z).level) e in
          e ∙ sym (ap₂ (λ a b. a && not (not b)) (waits_where e) (eq-eqb y.level s.target up))
      by false e =
          let stays : y.level ≡ x.level = ap (λ (w : LegTask). w.level) is ∙ (ap (λ b. (lifted s.target b z).level) e ∙ same) in
          e ∙ sym (ap (went_over s.target x.level) stays ∙ still_there s.target x.level)

-- any patch does for an event that doesn't look at it
abbrev no_patch : Livepatch
no_patch = record { patches = []; in_place = 0; func_stack = λ func. []; klp_transition_patch = 0; klp_target_state = KLP_UNDEFINED }

-- what the machine's answer to an accepted event names
module _ (R : ℕ → Type 0) (s : State) (all : Fits s.bounds.tasks R s.tasks) (fits_now : (event : Event) → is_control event ≡ false → refusal_of h s event ≡ None → Fits s.bounds.tasks R (affected h s event).tasks) (t : ℕ) (small : t ≤ s.bounds.tasks) where
  named : (event : Event) → list_any (nat_eq t) (switched_groups h (affected h s event) event) ≡ switches_at h (affected h s event) event t
  unfolding switched_groups
  named event =
      let p = switches_at h (affected h s event) event in
      any_filter (nat_eq t) p (range_with_len 0 (suc s.bounds.tasks))
      ∙ (any_one (λ g. nat_eq t g && p g) (suc s.bounds.tasks) t (λ g e. sym (eqb-true t g (and_parts _ _ e).0)) (λ e. omega (arith, small)) ∙ ap (λ b. b && p t) (eq-eqb t t refl))

  module _ (event : Event) (plain : is_control event ≡ false) (ok : refusal_of h s event ≡ None) (x y : LegTask) (before : s.tasks t ≡ Live x) (after : (with_switches h s event).tasks t ≡ Live y) where
    between_of : (z : LegTask) → (affected h s event).tasks t ≡ Live z → z.level ≡ x.level
    unfolding refusal_of
    between_of z there = kept_level s event _ ok (suc s.number) t x z before there

    goes_over : switches_at h (affected h s event) event t ≡ went_over s.target x.level y.level
    goes_over =
        let one = fate_from (switched_task h (affected h s event) event) ((affected h s event).tasks t) y after in
        goes_is R s event (fits_now event plain ok) t x one.life before one.live (between_of one.life one.live) y after

  pub told_names : (event : Event) → is_control event ≡ false → refusal_of h s event ≡ None → (x y : LegTask) → s.tasks t ≡ Live x → (with_switches h s event).tasks t ≡ Live y → names (told h s event) t ≡ went_over s.target x.level y.level
  told_names (Call a f) plain ok x y before after =
      let now_fits = fits_now (Call a f) refl ok in
      let there : (affected h s (Call a f)).tasks t ≡ Live y = sym (ap (λ (st : State). st.tasks t) (quiet_switches R no_patch s all (Call a f) now_fits refl)) ∙ after in
      sym (ap (went_over s.target x.level) (between_of (Call a f) refl ok x y before after y there) ∙ still_there s.target x.level)
  told_names event plain ok x y before after =
      names_of (switched_groups h (affected h s event) event) t ∙ (named event ∙ goes_over event plain ok x y before after)

-- ---- Nobody is pending any more

-- then nobody is after an event that is no control event
pub complete_stays : (R : ℕ → Type 0) (s : State) (all : Fits s.bounds.tasks R s.tasks) → complete_in s ≡ true → (event : Event) → is_control event ≡ false → refusal_of h s event ≡ None → complete_in (with_switches h s event) ≡ true
unfolding refusal_of
complete_stays R s all done event plain ok =
    let on : Fits s.bounds.tasks (λ level. level ≡ s.target) s.tasks = λ t x live. let fit = all t x live in record { positive = fit.positive; within = fit.within; own = fit.own; level = complete_levels s done R all t x live } in
    let after : Fits s.bounds.tasks (λ level. level ≡ s.target) (affected h s event).tasks = plain_fits s event plain ok on in
    each_live-from s.bounds (with_switches h s event).tasks (λ t x. nat_eq x.level s.target) (λ t x p w live.
    let one = fate_from (switched_task h (affected h s event) event) ((affected h s event).tasks t) x live in
    eq-eqb x.level s.target (ap (λ (z : LegTask). z.level) one.is ∙ lifted_on s.target (switches_at h (affected h s event) event one.life.group) one.life (after t one.life one.live).level))
  where
    lifted_on : (target : ℕ) (b : Bool) (x : LegTask) → x.level ≡ target → (lifted target b x).level ≡ target
    lifted_on target true x e = refl
    lifted_on target false x e = e

    plain_fits : (st : State) (e : Event) → is_control e ≡ false → first_of (tests st.bounds (outlines_of st.tasks) e ++ control_tests st (complete_in st) e) ≡ None → Fits st.bounds.tasks (λ level. level ≡ st.target) st.tasks → Fits st.bounds.tasks (λ level. level ≡ st.target) (affected h st e).tasks
    plain_fits st Enable control g on = absurd (cc)
    plain_fits st Disable control g on = absurd (cc)
    plain_fits st Reverse control g on = absurd (cc)
    plain_fits st e control g on = effect_fits (λ level. level ≡ st.target) st [] on e g (suc st.number)
