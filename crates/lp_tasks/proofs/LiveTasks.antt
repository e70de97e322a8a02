-- Loops over the live tasks, each of which is off a level or on it.
use Rattle.std.proofs.Common.{◌≡◌, ℕ, ◌+◌, ◌<◌, ◌≤◌, Bool, false, [], is_some, Option, Some, None, if◌then◌else◌, nat_eq, refl, sym, ap, ◌∙◌, ⊎_elim, arith}
use Rattle.std.proofs.lemmas.Bool.{false≢true, cond-true, cond-false, cases_eq, cases_lt, eq-eqb, ne_eqb}
use Rattle.std.proofs.lemmas.List.{get_or_past}
use Rattle.lp_numbers.specs.Numbers.{Numbers, has, IsLeastFrom}
use Rattle.lp_definitions.specs.Leg.{LegTask}
use Rattle.lp_tasks.specs.Passing.{passing}
use Rattle.lp_machine.specs.Table.{Table, IsWide, slot}
use Rattle.lp_tasks.specs.inside.Table.{is_off}
use Rattle.lp_tasks.proofs.AscendingLemmas.{passing-over}

-- where no live task is left there is none from there on
pub none_live : (table : Table) (first : ℕ) → first ≤ 65536 → IsWide table → [] ≡ passing first 65536 (λ t. is_some (slot table t)) → (t : ℕ) → first ≤ t → is_some (slot table t) ≡ false
none_live table first fits wide over t from =
    ⊎_elim
    (λ (low : t < 65536). passing-over (λ t. is_some (slot table t)) first fits over t from low)
    (λ (past : 65536 ≤ t). ap is_some (get_or_past table.slots t None (omega (arith, past, wide.slots))))
    (cases_lt t 65536)

module _ (table : Table) (level : ℕ) where
  abbrev lives : ℕ → Bool
  lives t = is_some (slot table t)

  -- who isn't live is off no level
  pub not_off : (t : ℕ) → is_some (slot table t) ≡ false → is_off level (slot table t) ≡ false
  not_off t = by (slot table t)
    where
      by : (o : Option LegTask) → is_some o ≡ false → is_off level o ≡ false
      by None none = refl
      by (Some x) none = absurd (false≢true (sym none))

  -- nor is any number from one on where no live task is left
  pub none_off : (first : ℕ) → first ≤ 65536 → IsWide table → [] ≡ passing first 65536 lives → (t : ℕ) → first ≤ t → is_off level (slot table t) ≡ false
  none_off first fits wide over t from = not_off t (none_live table first fits wide over t from)

  module _ (first n : ℕ) (least : IsLeastFrom lives first n) where
    -- none of those up to the next one is off, if it isn't
    pub none_below : ((t : ℕ) → t < first → is_off level (slot table t) ≡ false) → is_off level (slot table n) ≡ false → (t : ℕ) → t < n + 1 → is_off level (slot table t) ≡ false
    none_below below here t low =
        ⊎_elim
        (λ (same : t ≡ n). ap (λ (k : ℕ). is_off level (slot table k)) same ∙ here)
        (λ (ne : t ≡ n → ⊥).
        ⊎_elim (λ (early : t < first). below t early) (λ (late : first ≤ t). not_off t (least.least t late (omega (arith, ne, low)))) (cases_lt t first))
        (cases_eq t n)

    module _ (was is : Numbers) (off : Bool) (here : off ≡ is_off level (slot table n)) (put : (t : ℕ) → has is t ≡ (if nat_eq t n then off else has was t))
        (below : (t : ℕ) → t < first → has was t ≡ is_off level (slot table t)) (above : (t : ℕ) → first ≤ t → has was t ≡ false) where
      others : (t : ℕ) → (t ≡ n → ⊥) → has is t ≡ has was t
      others t ne = put t ∙ cond-false (nat_eq t n) off (has was t) (ne_eqb t n ne)

      -- the set is right up to the next one once that is put in or left out
      pub put_below : (t : ℕ) → t < n + 1 → has is t ≡ is_off level (slot table t)
      put_below t low =
          ⊎_elim
          (λ (same : t ≡ n). put t ∙ cond-true (nat_eq t n) off (has was t) (eq-eqb t n same) ∙ here ∙ sym (ap (λ (k : ℕ). is_off level (slot table k)) same))
          (λ (ne : t ≡ n → ⊥).
          ⊎_elim
          (λ (early : t < first). others t ne ∙ below t early)
          (λ (late : first ≤ t). others t ne ∙ above t late ∙ sym (not_off t (least.least t late (omega (arith, ne, low)))))
          (cases_lt t first))
          (cases_eq t n)

      -- and empty from there on
      pub put_above : (t : ℕ) → n + 1 ≤ t → has is t ≡ false
      put_above t high =
          let from : first ≤ n = least.within in
          others t (λ (same : t ≡ n). omega (arith, same, high)) ∙ above t (omega (arith, from, high))
