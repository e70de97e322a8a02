-- What calls and returns do to what is kept, patch by patch.
use Rattle.std.proofs.Common.{◌≡◌, ◌≢◌, ℕ, zero, suc, pred, ◌+◌, ◌<◌, ◌≤◌, Bool, true, false, not, ◌&&◌, length, if◌then◌else◌, nat_le, get_or, set, refl, sym, ap, ap₂, ◌∙◌, subst, ⊎_elim, arith, length-set, get_or-set_same, get_or-set_other}
use Rattle.std.proofs.lemmas.Bool.{cases_Bool, cases_eq, cond-true, cond-false}
use Rattle.lp_patch.specs.Patches.{patch_has}
use Rattle.lp_stays.specs.Invariant.{Ongoing, Tally, outside, place, kept}
use Rattle.lp_stays.specs.inside.Calls.{is_outside, is_both, called, returned, one_if, begins, mixes, after_call, after_return, calls, returns}
use Rattle.lp_stays.proofs.Sums.{sum_from, sum_last}

-- ---- Numbers

at_most_one : (b : Bool) → one_if b ≤ 1
at_most_one true = omega arith
at_most_one false = omega arith

-- ---- Places

place_same : (i j t u : ℕ) → t < 65536 → u < 65536 → place i t ≡ place j u → i ≡ j
place_same i j t u lt lt' e = omega arith

place_task : (i j t u : ℕ) → t < 65536 → u < 65536 → place i t ≡ place j u → t ≡ u
place_task i j t u lt lt' e = let same = place_same i j t u lt lt' e in omega arith

-- ---- What a step from one patch to the next keeps

-- a change of one place
pub record IsChange (now before : Tally) (below t : ℕ) (x : Ongoing) : Type 0 where
  pub here : place below t < length before.present → kept now below t ≡ x
  pub others : (i u : ℕ) → place i u ≢ place below t → kept now i u ≡ kept before i u
  pub wide : length now.present ≡ length before.present

set_change : (now before : Tally) (below t : ℕ) (x : Ongoing) → now.present ≡ set before.present (place below t) x → IsChange now before below t x
set_change now before below t x e =
    record {
      here = λ lt. ap (λ xs. get_or xs (place below t) outside) e ∙ get_or-set_same before.present (place below t) x outside lt;
      others = λ i u other. ap (λ xs. get_or xs (place i u) outside) e ∙ get_or-set_other before.present (place below t) (place i u) x outside other;
      wide = ap length e ∙ length-set before.present (place below t) x;
    }

no_change : (now before : Tally) (below t : ℕ) → now ≡ before → IsChange now before below t (kept before below t)
no_change now before below t e =
    record {
      here = λ lt. ap (λ c. kept c below t) e;
      others = λ i u other. ap (λ c. kept c i u) e;
      wide = ap (λ c. length c.present) e;
    }

-- a count that is taken from patch to patch, by a change of each present stay
pub record Goes (run : ℕ → Tally) (t : ℕ) (change : ℕ → Ongoing → Ongoing) : Type 0 where
  pub step : (below : ℕ) → IsChange (run (suc below)) (run below) below t (change below (kept (run below) below t))

module _ (run : ℕ → Tally) (t : ℕ) (small : t < 65536) (change : ℕ → Ongoing → Ongoing) (goes : Goes run t change) where
  pub wide : (k : ℕ) → length (run k).present ≡ length (run 0).present
  wide zero = refl
  wide (suc k) = (goes.step k).wide ∙ wide k

  -- other tasks' stays are as before
  pub others : (k i u : ℕ) → u < 65536 → u ≢ t → kept (run k) i u ≡ kept (run 0) i u
  others zero i u lt other = refl
  others (suc k) i u lt other = (goes.step k).others i u (λ e. other (place_task i k u t lt small e)) ∙ others k i u lt other

  -- the stays in further patches too
  pub further : (k i : ℕ) → k ≤ i → kept (run k) i t ≡ kept (run 0) i t
  further zero i le = refl
  further (suc k) i le =
      (goes.step k).others i t (λ e. let same = place_same i k t t small small e in omega arith) ∙ further k i (omega arith)

  pub changed : (k i : ℕ) → i < k → place i t < length (run 0).present → kept (run k) i t ≡ change i (kept (run 0) i t)
  changed zero i lt room = absurd (omega arith)
  changed (suc k) i lt room =
      ⊎_elim
      (λ (same : i ≡ k).
      let room_k : place k t < length (run k).present = let w = wide k in omega arith in
      let here : kept (run (suc k)) k t ≡ change k (kept (run 0) k t) = (goes.step k).here room_k ∙ ap (change k) (further k k (omega arith)) in
      subst (λ j. kept (run (suc k)) j t ≡ change j (kept (run 0) j t)) (sym same) here)
      (λ (other : i ≡ k → ⊥).
      (goes.step k).others i t (λ e. other (place_same i k t t small small e)) ∙ changed k i (omega (arith, other)) room)
      (cases_eq i k)

-- ---- A call

module _ (t func level : ℕ) (count : Tally) where
  abbrev pub has : ℕ → Bool
  has below = patch_has count.patches (suc below) func

  abbrev pub call_run : ℕ → Tally
  call_run k = calls k t func level count

  abbrev pub call_change : ℕ → Ongoing → Ongoing
  call_change below x = if has below then called (nat_le (suc below) level) x else x

  pub call_yes : (below : ℕ) → has below ≡ true → call_run (suc below) ≡ after_call below t (nat_le (suc below) level) (call_run below)
  unfolding calls
  call_yes below e = cond-true _ _ _ e

  pub call_no : (below : ℕ) → has below ≡ false → call_run (suc below) ≡ call_run below
  unfolding calls
  call_no below e = cond-false _ _ _ e

  pub call_start : call_run 0 ≡ count
  unfolding calls
  call_start = refl

  pub call_goes : Goes call_run t call_change
  call_goes =
      record {
        step = λ below.
            let x = kept (call_run below) below t in
            ⊎_elim
            (λ (yes : has below ≡ true).
            subst (IsChange (call_run (suc below)) (call_run below) below t) (sym (cond-true (has below) (called (nat_le (suc below) level) x) x yes)) (set_change (call_run (suc below)) (call_run below) below t (called (nat_le (suc below) level) x) (ap (λ c. c.present) (call_yes below yes))))
            (λ (no : has below ≡ false).
            subst (IsChange (call_run (suc below)) (call_run below) below t) (sym (cond-false (has below) (called (nat_le (suc below) level) x) x no)) (no_change (call_run (suc below)) (call_run below) below t (call_no below no)))
            (cases_Bool (has below));
      }

  -- what else is kept stays
  pub record IsSame (now : Tally) : Type 0 where
    pub patches : now.patches ≡ count.patches
    pub calls : now.calls ≡ count.calls

  pub call_same : (k : ℕ) → IsSame (call_run k)
  call_same zero = subst IsSame (sym call_start) (record { patches = refl; calls = refl })
  call_same (suc below) =
      let before = call_same below in
      ⊎_elim
      (λ (yes : has below ≡ true). record { patches = ap (λ c. c.patches) (call_yes below yes) ∙ before.patches; calls = ap (λ c. c.calls) (call_yes below yes) ∙ before.calls })
      (λ (no : has below ≡ false). subst IsSame (sym (call_no below no)) before)
      (cases_Bool (has below))

  -- how many stays begin, and how many become mixed ones, in the patch of a number
  abbrev pub more_in : ℕ → ℕ
  more_in patch = if patch_has count.patches patch func then begins (kept count (pred patch) t) else 0

  abbrev pub mixed_in : ℕ → ℕ
  mixed_in patch = if patch_has count.patches patch func then mixes (nat_le patch level) (kept count (pred patch) t) else 0

  module _ (small : t < 65536) where
    before_is : (below : ℕ) → kept (call_run below) below t ≡ kept count below t
    before_is below = further call_run t small call_change call_goes below below (omega arith) ∙ ap (λ c. kept c below t) call_start

    one_stays : (below : ℕ) → (call_run (suc below)).stays ≡ (call_run below).stays + more_in (suc below)
    one_stays below =
        ⊎_elim
        (λ (yes : has below ≡ true). ap (λ c. c.stays) (call_yes below yes) ∙ ap (λ n. (call_run below).stays + n) (ap begins (before_is below) ∙ sym (cond-true _ _ _ yes)))
        (λ (no : has below ≡ false). ap (λ c. c.stays) (call_no below no) ∙ (let none : more_in (suc below) ≡ 0 = cond-false _ _ _ no in omega arith))
        (cases_Bool (has below))

    one_mixed : (below : ℕ) → (call_run (suc below)).mixed ≡ (call_run below).mixed + mixed_in (suc below)
    one_mixed below =
        ⊎_elim
        (λ (yes : has below ≡ true). ap (λ c. c.mixed) (call_yes below yes) ∙ ap (λ n. (call_run below).mixed + n) (ap (mixes (nat_le (suc below) level)) (before_is below) ∙ sym (cond-true _ _ _ yes)))
        (λ (no : has below ≡ false). ap (λ c. c.mixed) (call_no below no) ∙ (let none : mixed_in (suc below) ≡ 0 = cond-false _ _ _ no in omega arith))
        (cases_Bool (has below))

    pub call_stays : (k : ℕ) → (call_run k).stays ≡ count.stays + sum_from more_in 1 k
    unfolding sum_from
    call_stays zero = let e : (call_run 0).stays ≡ count.stays = ap (λ c. c.stays) call_start in omega arith
    call_stays (suc below) =
        let before = call_stays below in
        let one = one_stays below in
        let last = sum_last more_in 1 below in
        let same : more_in (1 + below) ≡ more_in (suc below) = let at : 1 + below ≡ suc below = omega arith in ap more_in at in
        omega arith

    pub call_mixed : (k : ℕ) → (call_run k).mixed ≡ count.mixed + sum_from mixed_in 1 k
    unfolding sum_from
    call_mixed zero = let e : (call_run 0).mixed ≡ count.mixed = ap (λ c. c.mixed) call_start in omega arith
    call_mixed (suc below) =
        let before = call_mixed below in
        let one = one_mixed below in
        let last = sum_last mixed_in 1 below in
        let same : mixed_in (1 + below) ≡ mixed_in (suc below) = let at : 1 + below ≡ suc below = omega arith in ap mixed_in at in
        omega arith

  -- ---- As code goes from patch to patch

  pub call_then : (below : ℕ) (self after : Tally) (side : Bool) → self ≡ call_run below → patch_has self.patches (below + 1) func ≡ true → side ≡ nat_le (below + 1) level → after ≡ after_call below t side self → after ≡ call_run (below + 1)
  call_then below self after side e found is made =
      let next : below + 1 ≡ suc below = omega arith in
      let yes_here : has below ≡ true = ap₂ (λ patches patch. patch_has patches patch func) (sym (ap (λ c. c.patches) e ∙ (call_same below).patches)) (sym next) ∙ found in
      made ∙ ap₂ (λ b c. after_call below t b c) (is ∙ ap (λ patch. nat_le patch level) next) e ∙ sym (call_yes below yes_here) ∙ ap call_run (sym next)

  -- patches that don't have the function are passed over
  pub call_skip : (n m : ℕ) → n ≤ m → ((k : ℕ) → n ≤ k → k < m → has k ≡ false) → call_run m ≡ call_run n
  call_skip n zero le none = ap call_run (omega arith)
  call_skip n (suc m) le none =
      ⊎_elim
      (λ (same : n ≡ suc m). ap call_run (sym same))
      (λ (other : n ≡ suc m → ⊥).
      let less : n ≤ m = omega (arith, other) in
      call_no m (none m less (omega arith)) ∙ call_skip n m less (λ k a b. none k a (omega arith)))
      (cases_eq n (suc m))

  -- a call counts at most one stay a patch
  pub record HasFew (k : ℕ) (now : Tally) : Type 0 where
    pub stays : now.stays ≤ count.stays + k
    pub mixed : now.mixed ≤ count.mixed + k

  pub call_few : (k : ℕ) → HasFew k (call_run k)
  call_few zero = subst (HasFew 0) (sym call_start) (record { stays = omega arith; mixed = omega arith })
  call_few (suc below) =
      let before = call_few below in
      let x = kept (call_run below) below t in
      let side = nat_le (suc below) level in
      ⊎_elim
      (λ (yes : has below ≡ true).
      subst (HasFew (suc below)) (sym (call_yes below yes)) (record {
        stays = let one = at_most_one (is_outside x) in omega (arith, one, before.stays);
        mixed = let one = at_most_one (is_both (called side x) && not (is_both x)) in omega (arith, one, before.mixed);
      }))
      (λ (no : has below ≡ false). subst (HasFew (suc below)) (sym (call_no below no)) (record { stays = omega (arith, before.stays); mixed = omega (arith, before.mixed) }))
      (cases_Bool (has below))

-- ---- A return

module _ (t func : ℕ) (count : Tally) where
  abbrev pub had : ℕ → Bool
  had below = patch_has count.patches (suc below) func

  abbrev pub return_run : ℕ → Tally
  return_run k = returns k t func count

  abbrev pub return_change : ℕ → Ongoing → Ongoing
  return_change below x = if had below then returned x else x

  pub return_yes : (below : ℕ) → had below ≡ true → return_run (suc below) ≡ after_return below t (return_run below)
  unfolding returns
  return_yes below e = cond-true _ _ _ e

  pub return_no : (below : ℕ) → had below ≡ false → return_run (suc below) ≡ return_run below
  unfolding returns
  return_no below e = cond-false _ _ _ e

  pub return_start : return_run 0 ≡ count
  unfolding returns
  return_start = refl

  pub return_goes : Goes return_run t return_change
  return_goes =
      record {
        step = λ below.
            let x = kept (return_run below) below t in
            ⊎_elim
            (λ (yes : had below ≡ true).
            subst (IsChange (return_run (suc below)) (return_run below) below t) (sym (cond-true (had below) (returned x) x yes)) (set_change (return_run (suc below)) (return_run below) below t (returned x) (ap (λ c. c.present) (return_yes below yes))))
            (λ (no : had below ≡ false).
            subst (IsChange (return_run (suc below)) (return_run below) below t) (sym (cond-false (had below) (returned x) x no)) (no_change (return_run (suc below)) (return_run below) below t (return_no below no)))
            (cases_Bool (had below));
      }

  -- what else is kept stays
  pub record IsKeptElse (now : Tally) : Type 0 where
    pub patches : now.patches ≡ count.patches
    pub calls : now.calls ≡ count.calls
    pub stays : now.stays ≡ count.stays
    pub mixed : now.mixed ≡ count.mixed

  pub return_same : (k : ℕ) → IsKeptElse (return_run k)
  return_same zero = subst IsKeptElse (sym return_start) (record { patches = refl; calls = refl; stays = refl; mixed = refl })
  return_same (suc below) =
      let before = return_same below in
      ⊎_elim
      (λ (yes : had below ≡ true).
      record {
        patches = ap (λ c. c.patches) (return_yes below yes) ∙ before.patches;
        calls = ap (λ c. c.calls) (return_yes below yes) ∙ before.calls;
        stays = ap (λ c. c.stays) (return_yes below yes) ∙ before.stays;
        mixed = ap (λ c. c.mixed) (return_yes below yes) ∙ before.mixed;
      })
      (λ (no : had below ≡ false). subst IsKeptElse (sym (return_no below no)) before)
      (cases_Bool (had below))

  -- ---- As code goes from patch to patch

  pub return_then : (below : ℕ) (self after : Tally) → self ≡ return_run below → patch_has self.patches (below + 1) func ≡ true → after ≡ after_return below t self → after ≡ return_run (below + 1)
  return_then below self after e found made =
      let next : below + 1 ≡ suc below = omega arith in
      let yes_here : had below ≡ true = ap₂ (λ patches patch. patch_has patches patch func) (sym (ap (λ c. c.patches) e ∙ (return_same below).patches)) (sym next) ∙ found in
      made ∙ ap (after_return below t) e ∙ sym (return_yes below yes_here) ∙ ap return_run (sym next)

  -- patches that don't have the function are passed over
  pub return_skip : (n m : ℕ) → n ≤ m → ((k : ℕ) → n ≤ k → k < m → had k ≡ false) → return_run m ≡ return_run n
  return_skip n zero le none = ap return_run (omega arith)
  return_skip n (suc m) le none =
      ⊎_elim
      (λ (same : n ≡ suc m). ap return_run (sym same))
      (λ (other : n ≡ suc m → ⊥).
      let less : n ≤ m = omega (arith, other) in
      return_no m (none m less (omega arith)) ∙ return_skip n m less (λ k a b. none k a (omega arith)))
      (cases_eq n (suc m))
