-- The groups that an event of one task switches.
use Rattle.std.proofs.Common.{◌≡◌, ◌≢◌, ◌<◌, ◌≤◌, ◌+◌, ℕ, zero, suc, Bool, true, false, List, [], ◌∷◌, refl, sym, ap, ◌∙◌, subst, ⊎_elim, arith}
use Rattle.std.proofs.lemmas.Bool.{cases_eq, cond-true, cond-false}
use Rattle.std.specs.List.{filter, range_with_len}
use Rattle.lp_model.specs.Rules.{Rules}
use Rattle.lp_definitions.specs.declared.event.Event.{Event}
use Rattle.lp_definitions.specs.Leg.{State}
use Rattle.lp_machine.specs.Machine.{switches_at, switched_groups}

none_of : (p : ℕ → Bool) (xs : List ℕ) → ((x : ℕ) → p x ≡ false) → filter p xs ≡ []
none_of p [] h = refl
none_of p (x ∷ xs) h = cond-false _ _ _ (h x) ∙ none_of p xs h

past : (p : ℕ → Bool) (g k a : ℕ) → g < a → ((n : ℕ) → n ≢ g → p n ≡ false) → filter p (range_with_len a k) ≡ []
past p g zero a less h = refl
past p g (suc k) a less h = cond-false _ _ _ (h a (λ e. absurd (omega arith))) ∙ past p g k (a + 1) (omega arith) h

one_of : (p : ℕ → Bool) (g k a : ℕ) → a ≤ g → g < a + k → p g ≡ true → ((n : ℕ) → n ≢ g → p n ≡ false) → filter p (range_with_len a k) ≡ g ∷ []
one_of p g zero a low high there h = absurd (omega arith)
one_of p g (suc k) a low high there h =
    ⊎_elim
    (λ (e : a ≡ g). cond-true _ _ _ (subst (λ n. p n ≡ true) (sym e) there) ∙ ap (λ rest. a ∷ rest) (past p g k (a + 1) (omega arith) h) ∙ ap (λ n. n ∷ []) e)
    (λ (ne : a ≡ g → ⊥). cond-false _ _ _ (h a ne) ∙ one_of p g k (a + 1) (omega (arith, ne)) (omega arith) there h)
    (cases_eq a g)

module _ (model : Rules) (s : State) (event : Event) where
  -- no group switches
  pub switched-none : ((group : ℕ) → switches_at model s event group ≡ false) → switched_groups model s event ≡ []
  unfolding switched_groups
  switched-none h = none_of (switches_at model s event) (range_with_len 0 (suc s.bounds.tasks)) h

  -- one group switches
  pub switched-one-group : (group : ℕ) → group < suc s.bounds.tasks → switches_at model s event group ≡ true → ((n : ℕ) → n ≢ group → switches_at model s event n ≡ false) → switched_groups model s event ≡ group ∷ []
  unfolding switched_groups
  switched-one-group group within there h = one_of (switches_at model s event) group (suc s.bounds.tasks) 0 (omega arith) (omega arith) there h
