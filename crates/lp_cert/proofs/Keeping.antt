-- What the maker keeps, and its certificates.
use Rattle.std.proofs.Common.{◌≡◌, ℕ, ◌-◌, Bool, true, false, List, [], ◌∷◌, length, map, filter, Result, Ok, Err, IfOk, refl, sym, subst}
use Rattle.std.specs.List.{AllByRecursion, range_with_len}
use Rattle.std.proofs.lemmas.Bool.{cond-true, cond-false}
use Rattle.lp_numbers.specs.Numbers.{Numbers, has}
use Rattle.lp_tasks.specs.Passing.{passing}
use Rattle.lp_cert.specs.Waiters.{LegReasons, waiter_in}
use Rattle.lp_cert.specs.inside.Waiters.{AreHeads, StandsAt}

pub ok_weaker : {A E : Type 0} (P Q : A → Type 0) → ((x : A) → P x → Q x) → (r : Result A E) → IfOk r P → IfOk r Q
ok_weaker P Q f (Ok x) h = f x h
ok_weaker P Q f (Err e) h = tt

-- ---- The groups that wait have reasons

-- what holds of each number that passes a test holds of all that are kept
kept_all : (P : ℕ → Type 0) (test : ℕ → Bool) (xs : List ℕ) → ((n : ℕ) → test n ≡ true → P n) → AllByRecursion P (filter test xs)
kept_all P test [] each = tt
kept_all P test (x ∷ xs) each = by (kept_all P test xs each) (test x) refl
  where
    by : AllByRecursion P (filter test xs) → (b : Bool) → test x ≡ b → AllByRecursion P (filter test (x ∷ xs))
    by rest true e = subst (AllByRecursion P) (sym (cond-true (test x) (x ∷ filter test xs) (filter test xs) e)) (each x e, rest)
    by rest false e = subst (AllByRecursion P) (sym (cond-false (test x) (x ∷ filter test xs) (filter test xs) e)) rest

pub waiting_stand : (groups : Numbers) (reasons : LegReasons) → ((g : ℕ) → has groups g ≡ true → StandsAt (length reasons.scans) reasons g) → AllByRecursion (StandsAt (length reasons.scans) reasons) (passing 0 65536 (has groups))
unfolding passing
waiting_stand groups reasons h = kept_all (StandsAt (length reasons.scans) reasons) (has groups) (range_with_len 0 (65536 - 0)) h

heads_of : (reasons : LegReasons) (n : ℕ) (xs : List ℕ) → AllByRecursion (StandsAt n reasons) xs → AreHeads reasons.lists n (map (waiter_in reasons) xs)
heads_of reasons n [] h = tt
heads_of reasons n (x ∷ xs) h = (h.0, heads_of reasons n xs h.1)

pub waiting_heads : (groups : Numbers) (reasons : LegReasons) → ((g : ℕ) → has groups g ≡ true → StandsAt (length reasons.scans) reasons g) → AreHeads reasons.lists (length reasons.scans) (map (waiter_in reasons) (passing 0 65536 (has groups)))
waiting_heads groups reasons h = heads_of reasons (length reasons.scans) (passing 0 65536 (has groups)) (waiting_stand groups reasons h)
