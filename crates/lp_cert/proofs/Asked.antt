-- The certificates of the leg under way, as they are asked for.
use Rattle.std.proofs.Common.{◌≡◌, ℕ, zero, suc, ◌+◌, ◌<◌, ◌≤◌, Bool, true, false, List, [], ◌∷◌, map, filter, take, Option, Some, None, is_some, if◌then◌else◌, nat_eq, slice_get, refl, sym, ap, ◌∙◌, ⊎_elim, arith, not}
use Rattle.std.specs.List.{range_with_len, find}
use Rattle.std.specs.Option.{option_map}
use Rattle.std.proofs.lemmas.Bool.{false≢true, cond-true, cond-false, cases_Bool, cases_eq, eq-eqb, ne_eqb}
use Rattle.lp_stack.specs.declared.number.GroupId.{GroupId}
use Rattle.lp_numbers.specs.Numbers.{has, IsNextFrom}
use Rattle.lp_definitions.specs.declared.cert.Claim.TheVariants.{Waiting, Floor}
use Rattle.lp_definitions.specs.declared.cert.Cert.{Cert}
use Rattle.lp_cert.specs.declared.head.Waiter.{Waiter}
use Rattle.lp_definitions.specs.declared.line.Line.{Line}
use Rattle.lp_cert.specs.declared.open_leg.OpenLeg.{OpenLeg}
use Rattle.lp_cert.specs.Ends.{waiting_in, floor_in}
use Rattle.lp_cert.specs.Invariant.{open_end}
use Rattle.lp_cert.specs.inside.Invariant.{waiting_cert}
use Rattle.lp_cert.specs.Waiters.{WaitingGroups, kept_cert, waiter_in, waiters_of}
use Rattle.lp_cert.specs.inside.Waiters.{lines_in, lines_at}
use Rattle.lp_cert.proofs.Making.{kept, kept_map, least_waiter, no_waiter}

-- ---- The certificate of a group

abbrev is_of : ℕ → Cert → Bool
is_of g cert = nat_eq cert.group.0 g

module _ (f : ℕ → Cert) (own : (k : ℕ) → (f k).group.0 ≡ k) (q : ℕ → Bool) (g : ℕ) where
  -- no certificate of an earlier group is there
  find_past : (a n : ℕ) → g < a → find (is_of g) (map f (filter q (range_with_len a n))) ≡ None
  find_past a zero past = refl
  find_past a (suc n) past =
      let rest = filter q (range_with_len (a + 1) n) in
      let later = find_past (a + 1) n (omega arith) in
      let other : is_of g (f a) ≡ false = ne_eqb (f a).group.0 g (λ e. absurd (omega (arith, own a, e))) in
      ⊎_elim
      (λ (is : q a ≡ true).
      ap (λ xs. find (is_of g) (map f xs)) (cond-true (q a) (a ∷ rest) rest is)
      ∙ (cond-false (is_of g (f a)) (Some (f a)) (find (is_of g) (map f rest)) other ∙ later))
      (λ (is : q a ≡ false). ap (λ xs. find (is_of g) (map f xs)) (cond-false (q a) (a ∷ rest) rest is) ∙ later)
      (cases_Bool (q a))

  pub find_own : (a n : ℕ) → a ≤ g → g < a + n → find (is_of g) (map f (filter q (range_with_len a n))) ≡ (if q g then Some (f g) else None)
  find_own a zero low high = absurd (omega arith)
  find_own a (suc n) low high =
      let rest = filter q (range_with_len (a + 1) n) in
      ⊎_elim
      (λ (same : g ≡ a).
      let later = find_past (a + 1) n (omega arith) in
      let mine : is_of g (f a) ≡ true = eq-eqb (f a).group.0 g (own a ∙ sym same) in
      ⊎_elim
      (λ (is : q a ≡ true).
      ap (λ xs. find (is_of g) (map f xs)) (cond-true (q a) (a ∷ rest) rest is)
      ∙ (cond-true (is_of g (f a)) (Some (f a)) (find (is_of g) (map f rest)) mine
      ∙ (ap (λ k. Some (f k)) (sym same) ∙ sym (cond-true (q g) (Some (f g)) None (ap q same ∙ is)))))
      (λ (is : q a ≡ false).
      ap (λ xs. find (is_of g) (map f xs)) (cond-false (q a) (a ∷ rest) rest is)
      ∙ (later ∙ sym (cond-false (q g) (Some (f g)) None (ap q same ∙ is))))
      (cases_Bool (q a)))
      (λ (ne : g ≡ a → ⊥).
      let later = find_own (a + 1) n (past_it a g low ne) (omega arith) in
      let other : is_of g (f a) ≡ false = ne_eqb (f a).group.0 g (λ e. ne (sym e ∙ own a)) in
      ⊎_elim
      (λ (is : q a ≡ true).
      ap (λ xs. find (is_of g) (map f xs)) (cond-true (q a) (a ∷ rest) rest is)
      ∙ (cond-false (is_of g (f a)) (Some (f a)) (find (is_of g) (map f rest)) other ∙ later))
      (λ (is : q a ≡ false). ap (λ xs. find (is_of g) (map f xs)) (cond-false (q a) (a ∷ rest) rest is) ∙ later)
      (cases_Bool (q a)))
      (cases_eq g a)
    where
      past_it : (a g : ℕ) → a ≤ g → (g ≡ a → ⊥) → a + 1 ≤ g
      past_it a g low ne = omega (arith, ne)

map_if : (f : List Line → Cert) (b : Bool) (ls : List Line) → option_map f (if b then Some ls else None) ≡ (if b then Some (f ls) else None)
map_if f true ls = refl
map_if f false ls = refl

pub waiting_asked : (noted : ℕ) (w : WaitingGroups) (leg : OpenLeg) (group : GroupId) → leg.completed ≡ None → group.0 < 65536
    → option_map (waiting_cert Waiting leg.opened noted group) (lines_at w group.0) ≡ waiting_in (Some (open_end noted w leg)) group.0
waiting_asked noted w leg group unended few =
    map_if (waiting_cert Waiting leg.opened noted group) (has w.groups group.0) (lines_in w.reasons group.0)
    ∙ (sym (find_own (kept Waiting leg.opened noted w) (λ k. refl) (has w.groups) group.0 0 65536 (omega arith) (omega arith))
    ∙ (ap (find (is_of group.0)) (sym (kept_map Waiting leg.opened noted w))
    ∙ ap (λ (o : Option ℕ). waiting_in (Some (open_end noted w (record leg { completed = o }))) group.0) (sym unended)))

-- ---- The least

first_one : {A : Type 0} (xs : List A) (x : A) → take 1 xs ≡ x ∷ [] → slice_get xs 0 ≡ Some x
first_one [] x e = absurd (cc)
first_one (y ∷ ys) x e = let same : y ≡ x = cc in ap Some same

no_first : {A : Type 0} (xs : List A) → take 1 xs ≡ [] → slice_get xs 0 ≡ None
no_first [] e = refl
no_first (y ∷ ys) e = absurd (cc)

get_map : {A B : Type 0} (f : A → B) (xs : List A) → slice_get (map f xs) 0 ≡ option_map f (slice_get xs 0)
get_map f [] = refl
get_map f (x ∷ xs) = refl

module _ (noted : ℕ) (w : WaitingGroups) (leg : OpenLeg) (unended : leg.completed ≡ None) where
  floor_is : (o : Option Waiter) → slice_get (waiters_of w) 0 ≡ o → floor_in (Some (open_end noted w leg)) ≡ option_map (kept_cert Floor leg.opened noted w.reasons.lists w.reasons.scans) o
  floor_is o e =
      ap (λ (c : Option ℕ). floor_in (Some (open_end noted w (record leg { completed = c })))) unended
      ∙ (ap (option_map (λ (cert : Cert). record cert { claim = Floor })) (get_map (kept_cert Waiting leg.opened noted w.reasons.lists w.reasons.scans) (waiters_of w) ∙ ap (option_map (kept_cert Waiting leg.opened noted w.reasons.lists w.reasons.scans)) e)
      ∙ twice o)
    where
      twice : (o : Option Waiter) → option_map (λ (cert : Cert). record cert { claim = Floor }) (option_map (kept_cert Waiting leg.opened noted w.reasons.lists w.reasons.scans) o) ≡ option_map (kept_cert Floor leg.opened noted w.reasons.lists w.reasons.scans) o
      twice None = refl
      twice (Some waiter) = refl

  pub no_floor : IsNextFrom (has w.groups) 0 None → None ≡ floor_in (Some (open_end noted w leg))
  no_floor next = sym (floor_is None (no_first (waiters_of w) (ap (take 1) (no_waiter w next))))

  pub floor_asked : (group : GroupId) → IsNextFrom (has w.groups) 0 (Some group.0) → group.0 < 65536
      → option_map (waiting_cert Floor leg.opened noted group) (lines_at w group.0) ≡ floor_in (Some (open_end noted w leg))
  floor_asked group next few =
      map_if (waiting_cert Floor leg.opened noted group) (has w.groups group.0) (lines_in w.reasons group.0)
      ∙ (cond-true (has w.groups group.0) (Some (waiting_cert Floor leg.opened noted group (lines_in w.reasons group.0))) None next.passes
      ∙ sym (floor_is (Some (waiter_in w.reasons group.0)) (first_one (waiters_of w) (waiter_in w.reasons group.0) (least_waiter w group.0 next few))))

pub not_some : {A : Type 0} (o : Option A) → is_some o ≡ false → o ≡ None
not_some None e = refl
not_some (Some a) e = absurd (false≢true (sym e))

pub not_so : (b : Bool) → not b ≡ true → b ≡ false
not_so true e = absurd (false≢true e)
not_so false e = refl

pub not_other : (b : Bool) → not b ≡ false → b ≡ true
not_other true e = refl
not_other false e = absurd (false≢true (sym e))
