-- Parts that come back, one after another.
use Rattle.std.proofs.Common.{◌≡◌, ◌⊎◌, ℕ, ◌+◌, ◌<◌, ◌≤◌, Bool, true, false, cond, List, [], ◌∷◌, ◌++◌, length, zero, suc, nat_eq, if◌then◌else◌, Option, Some, refl, sym, ap, subst, ◌∙◌, ⊎_elim, inl, inr, arith}
use Rattle.std.specs.Prelude.{All}
use Rattle.std.proofs.lemmas.Bool.{eqb-true}
use Rattle.std.proofs.lemmas.List.Elements.{All-nil, All-push}
use Rattle.std.proofs.lemmas.List.Sums.{sum_by-append}
use Rattle.lp_log.specs.Audits.{seats_of}
use Rattle.lp_log.specs.Entries.{Entry}
use Rattle.lp_log.specs.Seats.{Seated}
use Rattle.lp_log.proofs.Places.{seats_first}
use Rattle.lp_parts.specs.Parts.{Among, part_for, same_key, without}
use Rattle.lp_parts.proofs.Moves.{key_self}
use Rattle.lp_owned.specs.Owned.{key_of}

pub nothing_left : {A : Type 0} (l : List A) → length l ≡ 0 → l ≡ []
nothing_left [] h = refl
nothing_left (x ∷ xs) h = absurd (omega arith)

clash : (b : Bool) → b ≡ true → b ≡ false → ⊥
clash true e f = cc
clash false e f = cc

-- who is among the others was there before
still : (k j : Option ℕ) (out : List (Option ℕ)) → Among j (without k out) → Among j out
still k j [] at = at
still k j (x ∷ xs) at = by (same_key k x) (λ there. still k j xs there) at
  where
    by : (b : Bool) → (Among j (without k xs) → Among j xs) → Among j (if b then without k xs else (x ∷ without k xs)) → (x ≡ j) ⊎ Among j xs
    by true more at = inr (more at)
    by false more at = ⊎_elim (λ (here : x ≡ j). inl here) (λ (there : Among j (without k xs)). inr (more there)) at

-- and isn't who was taken out
gone : (k : Option ℕ) (out : List (Option ℕ)) → Among k (without k out) → ⊥
gone k [] at = at
gone k (x ∷ xs) at = by (same_key k x) refl (λ there. gone k xs there) at
  where
    by : (b : Bool) → same_key k x ≡ b → (Among k (without k xs) → ⊥) → Among k (if b then without k xs else (x ∷ without k xs)) → ⊥
    by true e never at = never at
    by false e never at = ⊎_elim (λ (here : x ≡ k). clash (same_key k x) (ap (same_key k) here ∙ key_self k) e) (λ (there : Among k (without k xs)). never there) at

-- the seats that were handed in so far had their parts of these entries, are of different tasks, and own no part any more
pub record AreBack (entries : List Entry) (first : List (Option ℕ)) (seats : List Seated) (out : List (Option ℕ)) : Type 0 where
  pub parts : All (λ (seat : Seated). seat.entries ≡ part_for key_of (Some seat.task) entries) seats
  pub few : (t : ℕ) → seats_of seats t ≤ 1
  pub owned : (t : ℕ) → 0 < seats_of seats t → Among (Some t) first
  pub spent : (t : ℕ) → 0 < seats_of seats t → Among (Some t) out → ⊥
  pub others : (k : Option ℕ) → Among k out → Among k first

none_of : (t : ℕ) → seats_of [] t ≡ 0
none_of t = refl

pub none_back : (entries : List Entry) (first : List (Option ℕ)) → AreBack entries first [] first
none_back entries first = record {
  parts = All-nil (λ (seat : Seated). seat.entries ≡ part_for key_of (Some seat.task) entries);
  few = λ t. omega (arith, none_of t);
  owned = λ t some. absurd (omega (arith, none_of t));
  spent = λ t some at. absurd (omega (arith, none_of t));
  others = λ k at. at;
}

last_of : (t : ℕ) (seats : List Seated) (seat : Seated) → seats_of (seats ++ seat ∷ []) t ≡ seats_of seats t + cond (nat_eq t seat.task) 1 0
last_of t seats seat =
    let a = sum_by-append (λ (s : Seated). cond (nat_eq t s.task) 1 0) seats (seat ∷ []) in
    let b = seats_first t seat [] in
    omega (arith, none_of t)

pub one_back : (entries : List Entry) (first : List (Option ℕ)) (seats : List Seated) (out : List (Option ℕ)) (seat : Seated)
    → AreBack entries first seats out → Among (Some seat.task) out → seat.entries ≡ part_for key_of (Some seat.task) entries → AreBack entries first (seats ++ seat ∷ []) (without (Some seat.task) out)
one_back entries first seats out seat back among part = record {
  parts = All-push (λ (s : Seated). s.entries ≡ part_for key_of (Some s.task) entries) seats seat back.parts part;
  few = λ t. at t (nat_eq t seat.task) refl;
  owned = λ t some. own t (nat_eq t seat.task) refl some;
  spent = λ t some there. left t (nat_eq t seat.task) refl some there;
  others = λ k there. back.others k (still (Some seat.task) k out there);
}
  where
    count : (t : ℕ) (b : Bool) → nat_eq t seat.task ≡ b → seats_of (seats ++ seat ∷ []) t ≡ seats_of seats t + cond b 1 0
    count t b e = last_of t seats seat ∙ ap (λ (c : Bool). seats_of seats t + cond c 1 0) e

    at : (t : ℕ) (b : Bool) → nat_eq t seat.task ≡ b → seats_of (seats ++ seat ∷ []) t ≤ 1
    at t false e = let n = count t false e in let few = back.few t in omega arith
    at t true e =
        let n = count t true e in
        let same : t ≡ seat.task = eqb-true t seat.task e in
        let nobody : 0 < seats_of seats t → ⊥ = λ some. back.spent t some (subst (λ (u : ℕ). Among (Some u) out) (sym same) among) in
        none (seats_of seats t) nobody (seats_of (seats ++ seat ∷ []) t) n
      where
        none : (k : ℕ) → (0 < k → ⊥) → (m : ℕ) → m ≡ k + 1 → m ≤ 1
        none zero never m is = omega arith
        none (suc k) never m is = absurd (never (omega arith))

    own : (t : ℕ) (b : Bool) → nat_eq t seat.task ≡ b → 0 < seats_of (seats ++ seat ∷ []) t → Among (Some t) first
    own t true e some = back.others (Some t) (subst (λ (u : ℕ). Among (Some u) out) (sym (eqb-true t seat.task e)) among)
    own t false e some = let n = count t false e in back.owned t (omega arith)

    left : (t : ℕ) (b : Bool) → nat_eq t seat.task ≡ b → 0 < seats_of (seats ++ seat ∷ []) t → Among (Some t) (without (Some seat.task) out) → ⊥
    left t true e some there = gone (Some seat.task) out (subst (λ (u : ℕ). Among (Some u) (without (Some seat.task) out)) (eqb-true t seat.task e) there)
    left t false e some there = let n = count t false e in back.spent t (omega arith) (still (Some seat.task) (Some t) out there)
