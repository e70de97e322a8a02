-- The fold's table as it is made from an opening.
use Rattle.std.proofs.Common.{◌≡◌, ℕ, ◌+◌, ◌<◌, ◌≤◌, Bool, true, false, not, Option, Some, None, if◌then◌else◌, nat_eq, refl, sym, ap, ◌∙◌, ⊎_elim, arith}
use Rattle.std.proofs.lemmas.Bool.{cases_eq, cases_lt, eq-eqb, ne_eqb, cond-true, cond-false}
use Rattle.std.proofs.lemmas.List.{get_or_past}
use mathlib.Core.Path.{fun_ext}
use Rattle.lp_numbers.specs.Numbers.{has}
use Rattle.lp_definitions.specs.Tasks.{Fate, Unused, Dead, is_unused}
use Rattle.lp_definitions.specs.Leg.{LegTask}
use Rattle.lp_definitions.specs.Sound.{IsSound}
use Rattle.lp_machine.specs.Table.{Engine, Table, slot, fate_at, leg_tasks, state_in, IsWide}
use Rattle.lp_tasks.proofs.TableLemmas.{live_from_slot}

-- a live task of a sound state has a number above 0
pub positive : (engine : Engine) (t : ℕ) (x : LegTask) → IsSound (state_in engine) → slot engine.table t ≡ Some x → 0 < t
positive engine t x sound there = (sound.numbered t x (live_from_slot engine.table t x there)).0

-- what becomes of one number, said as of all
pub one_set : (t : ℕ) (new old there : ℕ → Fate LegTask) (fate : Fate LegTask) → there t ≡ fate → new ≡ (λ u. if nat_eq u t then fate else old u) → new ≡ (λ u. if nat_eq u t then there u else old u)
one_set t new old there fate is same =
    same ∙ fun_ext (λ u.
    ⊎_elim
    (λ (e : u ≡ t). cond-true (nat_eq u t) fate (old u) (eq-eqb u t e) ∙ sym is ∙ ap there (sym e) ∙ sym (cond-true (nat_eq u t) (there u) (old u) (eq-eqb u t e)))
    (λ (ne : u ≡ t → ⊥). cond-false (nat_eq u t) fate (old u) (ne_eqb u t ne) ∙ sym (cond-false (nat_eq u t) (there u) (old u) (ne_eqb u t ne)))
    (cases_eq u t))

-- a number that was used and has no live task
pub dead_at : (table : Table) (t : ℕ) → None ≡ slot table t → not (is_unused (leg_tasks table t)) ≡ true → leg_tasks table t ≡ Dead
dead_at table t none used = at (slot table t) (has table.used t) none used
  where
    at : (o : Option LegTask) (b : Bool) → None ≡ o → not (is_unused (fate_at o b)) ≡ true → fate_at o b ≡ Dead
    at None true e h = refl
    at None false e h = absurd (cc)
    at (Some x) b e h = absurd (cc)

-- the numbers below n are as in the opening, the others free
abbrev pub IsPutBelow : ℕ → (now there : ℕ → Fate LegTask) → Type 0
IsPutBelow n now there = (t : ℕ) → (t < n → now t ≡ there t) × (n ≤ t → now t ≡ Unused)

pub put_more : (n : ℕ) (now new there : ℕ → Fate LegTask) → IsPutBelow n now there → new ≡ (λ u. if nat_eq u n then there u else now u) → IsPutBelow (n + 1) new there
put_more n now new there below same t = (
  λ lt.
      ⊎_elim
      (λ (e : t ≡ n). ap (λ f. f t) same ∙ cond-true (nat_eq t n) (there t) (now t) (eq-eqb t n e))
      (λ (ne : t ≡ n → ⊥). ap (λ f. f t) same ∙ cond-false (nat_eq t n) (there t) (now t) (ne_eqb t n ne) ∙ (below t).0 (omega (arith, lt, ne)))
      (cases_eq t n),
  λ le.
      let ne : t ≡ n → ⊥ = λ e. omega (arith, le, e) in
      ap (λ f. f t) same ∙ cond-false (nat_eq t n) (there t) (now t) (ne_eqb t n ne) ∙ (below t).1 (omega arith),
)

-- past the last number nothing is used
past : (table : Table) → IsWide table → (t : ℕ) → 65536 ≤ t → leg_tasks table t ≡ Unused
past table wide t le =
    let none : slot table t ≡ None = get_or_past table.slots t None (omega (arith, le, wide.slots)) in
    let unused : has table.used t ≡ false = get_or_past table.used t false (omega (arith, le, wide.used)) in
    rw (none, unused) refl

pub put_all : (table : Table) (now : ℕ → Fate LegTask) → IsWide table → IsPutBelow 65536 now (leg_tasks table) → now ≡ leg_tasks table
put_all table now wide below =
    fun_ext (λ t. ⊎_elim (λ (lt : t < 65536). (below t).0 lt) (λ (le : 65536 ≤ t). (below t).1 le ∙ sym (past table wide t le)) (cases_lt t 65536))
