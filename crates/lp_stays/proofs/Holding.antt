-- Masks of the patches that have a function.
use Rattle.std.proofs.Common.{◌≡◌, ◌≢◌, ℕ, suc, ◌+◌, ◌-◌, ◌*◌, ◌/◌, ◌%◌, ◌^◌, ◌≤◌, ◌<◌, Bool, true, false, ◌==◌, if◌then◌else◌, ◌⊎◌, inl, inr, length, refl, sym, ap, ◌∙◌, arith, w16, w32, bit_or}
use Rattle.std.specs.Int.{bit_at, trailing_zeros}
use Rattle.std.proofs.lemmas.Bool.{eqb-true, eqb-false, eq-eqb, ne_eqb, cases_eq, cases_lt, false≢true}
use Rattle.std.proofs.lemmas.Nat.{shr-shr}
use Rattle.std.proofs.lemmas.Nat.Bits.{bit_at-zero, bit_at_above, bit_at_set_same, bit_at_set_other, bit_at-trailing_zeros}
use Rattle.lp_patch.specs.Patches.{Patches, patch_has}
use Rattle.lp_numbers.specs.Numbers.{IsLeastFrom}
use Rattle.lp_stays.specs.Invariant.{Tally}
use Rattle.lp_stays.specs.inside.Holders.{mask_has, HasFirst, IsHolders}
use Rattle.lp_stays.proofs.Keeping.{call_run, call_skip, return_run, return_skip}

-- ---- Bits

has-none : (mask bit : ℕ) → bit_at mask bit ≡ 0 → mask_has mask bit ≡ false
unfolding mask_has
has-none mask bit e = rw e refl

has-one : (mask bit : ℕ) → bit_at mask bit ≡ 1 → mask_has mask bit ≡ true
unfolding mask_has
has-one mask bit e = rw e refl

has-same : (mask other bit : ℕ) → bit_at mask bit ≡ bit_at other bit → mask_has mask bit ≡ mask_has other bit
unfolding mask_has
has-same mask other bit e = rw e refl

pub mask_has-zero : (bit : ℕ) → mask_has 0 bit ≡ false
mask_has-zero bit = has-none 0 bit (bit_at-zero bit)

-- `mask | 1 << bit`
pub mask_has-set : (mask bit k : ℕ) → bit < 16 → mask_has (bit_or mask (1 * 2 ^ bit % 2 ^ 16)) k ≡ (if k == bit then true else mask_has mask k)
mask_has-set mask bit k h = by (k == bit) refl
  where
    by : (b : Bool) → (k == bit) ≡ b → mask_has (bit_or mask (1 * 2 ^ bit % 2 ^ 16)) k ≡ (if b then true else mask_has mask k)
    by true e = rw (eqb-true k bit e) (has-one (bit_or mask (1 * 2 ^ bit % 2 ^ 16)) bit (bit_at_set_same w16 mask bit h))
    by false e = has-same (bit_or mask (1 * 2 ^ bit % 2 ^ 16)) mask k (bit_at_set_other w16 mask bit h k (eqb-false k bit e))

-- a mask as it is, with a bit that isn't set
pub mask_has-unset : (mask bit k : ℕ) → mask_has mask bit ≡ false → mask_has mask k ≡ (if k == bit then false else mask_has mask k)
mask_has-unset mask bit k unset = by (cases_eq k bit)
  where
    by : (k ≡ bit) ⊎ (k ≢ bit) → mask_has mask k ≡ (if k == bit then false else mask_has mask k)
    by (inl e) = rw (eq-eqb k bit e, e) unset
    by (inr n) = rw (ne_eqb k bit n) refl

-- a bit of `mask >> from`
has-shifted : (mask from k : ℕ) → mask_has (mask / 2 ^ from) k ≡ mask_has mask (from + k)
unfolding mask_has
has-shifted mask from k = rw (shr-shr mask from k) refl

has-from : (mask from n : ℕ) → from ≤ n → mask_has mask n ≡ mask_has (mask / 2 ^ from) (n - from)
has-from mask from n h =
    let same : from + (n - from) ≡ n = omega arith in
    sym (has-shifted mask from (n - from) ∙ ap (mask_has mask) same)

-- where `mask >> from` is 0, there is no bit from `from` on
pub none-from : (mask from : ℕ) → mask / 2 ^ from ≡ 0 → (n : ℕ) → from ≤ n → mask_has mask n ≡ false
none-from mask from e n h = has-from mask from n h ∙ rw e (mask_has-zero (n - from))

-- else its lowest is the lowest from `from` on
pub least-from : (mask from rest : ℕ) → rest ≡ mask / 2 ^ from → 0 < rest → rest < 2 ^ 32 → IsLeastFrom (mask_has mask) from (from + trailing_zeros w32 rest)
least-from mask from rest is some fits =
    let facts = bit_at-trailing_zeros w32 rest some fits in
    record {
      within = omega arith;
      passes = sym (has-shifted mask from (trailing_zeros w32 rest)) ∙ ap (λ (n : ℕ). mask_has n (trailing_zeros w32 rest)) (sym is) ∙ has-one rest (trailing_zeros w32 rest) facts.1;
      least = λ k h l. has-from mask from k h ∙ ap (λ (n : ℕ). mask_has n (k - from)) (sym is) ∙ has-none rest (k - from) (facts.2 (k - from) (omega arith));
    }

-- a mask has no bit past its 16
pub bit-within : (mask bit : ℕ) → mask < 2 ^ 16 → mask_has mask bit ≡ true → bit < 16
bit-within mask bit fits e = elim (cases_lt bit 16) [
  | inl h ↦ h
  | inr h ↦ absurd (false≢true (sym (has-none mask bit (bit_at_above mask 16 bit fits h)) ∙ e))
]

-- ---- Patches

pub first-none : (patches : Patches) (func : ℕ) → HasFirst patches func 0 0
first-none patches func = record {
  first = λ below h. absurd (omega arith);
  no_other = λ below h. mask_has-zero below;
}

pub first-more : (patches : Patches) (func count mask after : ℕ) (is_set : Bool) → HasFirst patches func count mask → is_set ≡ patch_has patches (count + 1) func → ((k : ℕ) → mask_has after k ≡ (if k == count then is_set else mask_has mask k)) → HasFirst patches func (count + 1) after
first-more patches func count mask after is_set so_far is bits = record {
  first = λ below h. bits below ∙ by below h (cases_eq below count);
  no_other = λ below h.
      let other : below ≢ count = λ e. absurd (omega arith) in
      bits below ∙ rw (ne_eqb below count other) (so_far.no_other below (omega arith));
}
  where
    by : (below : ℕ) → below < count + 1 → (below ≡ count) ⊎ (below ≢ count) → (if below == count then is_set else mask_has mask below) ≡ patch_has patches (suc below) func
    by below h (inl e) = rw (eq-eqb below count e) (is ∙ (let next : count + 1 ≡ suc below = omega arith in ap (λ patch. patch_has patches patch func) next))
    by below h (inr n) = rw (ne_eqb below count n) (so_far.first below (omega arith))

-- a patch of the mask is one of the patches, and has the function
pub holder_within : (patches : Patches) (func mask below : ℕ) → IsHolders patches func mask → mask_has mask below ≡ true → below < length patches
holder_within patches func mask below holders found = elim (cases_lt below (length patches)) [
  | inl h ↦ h
  | inr h ↦ absurd (false≢true (sym (holders.no_other below h) ∙ found))
]

pub holder_has : (patches : Patches) (func mask below : ℕ) → IsHolders patches func mask → mask_has mask below ≡ true → patch_has patches (below + 1) func ≡ true
holder_has patches func mask below holders found =
    let next : below + 1 ≡ suc below = omega arith in
    ap (λ patch. patch_has patches patch func) next ∙ sym (holders.first below (holder_within patches func mask below holders found)) ∙ found

module _ (t func mask : ℕ) (count : Tally) (holders : IsHolders count.patches func mask) where
  none_between : (from below : ℕ) → IsLeastFrom (mask_has mask) from below → (k : ℕ) → from ≤ k → k < below → patch_has count.patches (suc k) func ≡ false
  none_between from below least k h l =
      let within = holder_within count.patches func mask below holders least.passes in
      sym (holders.first k (omega arith)) ∙ least.least k h l

  none_after : (from : ℕ) → ((k : ℕ) → from ≤ k → mask_has mask k ≡ false) → (k : ℕ) → from ≤ k → k < length count.patches → patch_has count.patches (suc k) func ≡ false
  none_after from none k h l = sym (holders.first k l) ∙ none k h

  pub call_to : (level from below : ℕ) (self : Tally) → self ≡ call_run t func level count from → IsLeastFrom (mask_has mask) from below → self ≡ call_run t func level count below
  call_to level from below self e least = e ∙ sym (call_skip t func level count from below least.within (none_between from below least))

  pub call_end : (level from : ℕ) (self : Tally) → self ≡ call_run t func level count from → from ≤ length count.patches → ((k : ℕ) → from ≤ k → mask_has mask k ≡ false) → self ≡ call_run t func level count (length count.patches)
  call_end level from self e within none = e ∙ sym (call_skip t func level count from (length count.patches) within (none_after from none))

  pub return_to : (from below : ℕ) (self : Tally) → self ≡ return_run t func count from → IsLeastFrom (mask_has mask) from below → self ≡ return_run t func count below
  return_to from below self e least = e ∙ sym (return_skip t func count from below least.within (none_between from below least))

  pub return_end : (from : ℕ) (self : Tally) → self ≡ return_run t func count from → from ≤ length count.patches → ((k : ℕ) → from ≤ k → mask_has mask k ≡ false) → self ≡ return_run t func count (length count.patches)
  return_end from self e within none = e ∙ sym (return_skip t func count from (length count.patches) within (none_after from none))
