-- The end of the leg under way as it is kept, and as it is defined.
use Rattle.std.proofs.Common.{◌≡◌, ℕ, zero, suc, ◌+◌, ◌-◌, ◌<◌, ◌≤◌, Bool, true, false, List, [], ◌∷◌, length, map, set, filter, take, reverse, Option, Some, None, is_none, if◌then◌else◌, refl, sym, ap, ap₂, subst, ◌∙◌, ⊎_elim, arith}
use Rattle.std.specs.List.{range_with_len}
use Rattle.std.specs.Option.{option_map}
use Rattle.std.proofs.lemmas.Bool.{false≢true, cond-true, cond-false, cases_eq}
use Rattle.std.proofs.lemmas.List.{get_or-set_other, get_or-set_same, reverse-reverse}
use Rattle.lp_numbers.specs.Numbers.{Numbers, has, IsEmpty, IsNextFrom}
use Rattle.lp_tasks.specs.Passing.{passing}
use Rattle.lp_tasks.proofs.Passing.{passing-none, passing-skip}
use Rattle.lp_definitions.specs.declared.cert.Claim.{Claim}
use Rattle.lp_definitions.specs.declared.cert.Claim.TheVariants.{Floor}
use Rattle.lp_definitions.specs.declared.cert.Cert.{Cert}
use Rattle.lp_cert.specs.declared.head.Head.{Head}
use Rattle.lp_cert.specs.declared.head.Waiter.{Waiter}
use Rattle.lp_cert.specs.declared.reason.Reason.{Reason}
use Rattle.lp_definitions.specs.declared.line.Line.{Line}
use Rattle.lp_definitions.specs.Ends.{LegEnd}
use Rattle.lp_cert.specs.declared.open_leg.OpenLeg.{OpenLeg}
use Rattle.lp_definitions.specs.Certificates.{group_id}
use Rattle.lp_cert.specs.CommonHeads.{claim_of, upto_of}
use Rattle.lp_cert.specs.Invariant.{open_end}
use Rattle.lp_cert.specs.Waiters.{LegReasons, WaitingGroups, head_of, kept_cert, waiter_in, waiters_of}
use Rattle.lp_cert.specs.inside.Waiters.{lines_in, lines_at}

pub none_is : {A : Type 0} (o : Option A) → is_none o ≡ true → o ≡ None
none_is None h = refl
none_is (Some a) h = absurd (false≢true h)

-- ---- What room changes

map_same : {A B : Type 0} (f g : A → B) → ((x : A) → f x ≡ g x) → (xs : List A) → map f xs ≡ map g xs
map_same f g same [] = refl
map_same f g same (x ∷ xs) = ap₂ (λ y ys. y ∷ ys) (same x) (map_same f g same xs)

module _ (new old : WaitingGroups) (groups : new.groups ≡ old.groups) (heads : (g : ℕ) → head_of new.reasons g ≡ head_of old.reasons g) where
  same_waiter : (g : ℕ) → waiter_in new.reasons g ≡ waiter_in old.reasons g
  same_waiter g = ap (λ (h : Head). record { group = group_id g; head = h }) (heads g)

  same_waiters : waiters_of new ≡ waiters_of old
  same_waiters =
      map_same (waiter_in new.reasons) (waiter_in old.reasons) same_waiter (passing 0 65536 (has new.groups))
      ∙ ap (λ (gs : Numbers). map (waiter_in old.reasons) (passing 0 65536 (has gs))) groups

  abbrev end_as : (noted : ℕ) (leg : OpenLeg) → List (List Reason) → List ℕ → List Waiter → Option LegEnd
  end_as noted leg lists scans waiters =
      Some (record {
        opened = leg.opened;
        target = leg.target;
        completed = leg.completed;
        certs = map (kept_cert (claim_of leg.completed) leg.opened (upto_of noted leg.completed) lists scans) waiters;
      })

  pub open_end_same : (noted : ℕ) → new.reasons.lists ≡ old.reasons.lists → new.reasons.scans ≡ old.reasons.scans
      → (current : Option OpenLeg) → option_map (open_end noted new) current ≡ option_map (open_end noted old) current
  open_end_same noted lists scans None = refl
  open_end_same noted lists scans (Some leg) =
      ap₂ (λ ls xs. end_as noted leg ls xs (waiters_of new)) lists scans
      ∙ ap (end_as noted leg old.reasons.lists old.reasons.scans) same_waiters

-- ---- Certificates by their groups

abbrev group_of : Cert → ℕ
group_of cert = cert.group.0

-- the first of these certificates has a group from there on
first_from : (f : ℕ → Cert) → ((k : ℕ) → group_of (f k) ≡ k) → (p : ℕ → Bool) (a n : ℕ) (x : Cert) (xs : List Cert) → x ∷ xs ≡ map f (filter p (range_with_len a n)) → a ≤ group_of x
first_from f own p a zero x xs e = absurd (cc)
first_from f own p a (suc n) x xs e = by (λ (h : x ∷ xs ≡ map f (filter p (range_with_len (a + 1) n))). first_from f own p (a + 1) n x xs h) (p a) refl
  where
    by : (x ∷ xs ≡ map f (filter p (range_with_len (a + 1) n)) → a + 1 ≤ group_of x) → (b : Bool) → p a ≡ b → a ≤ group_of x
    by rec true is =
        let first : x ∷ xs ≡ f a ∷ map f (filter p (range_with_len (a + 1) n)) = e ∙ ap (map f) (cond-true (p a) (a ∷ filter p (range_with_len (a + 1) n)) (filter p (range_with_len (a + 1) n)) is) in
        let same : x ≡ f a = cc in
        omega (arith, ap group_of same ∙ own a)
    by rec false is =
        let rest : x ∷ xs ≡ map f (filter p (range_with_len (a + 1) n)) = e ∙ ap (map f) (cond-false (p a) (a ∷ filter p (range_with_len (a + 1) n)) (filter p (range_with_len (a + 1) n)) is) in
        omega (arith, rec rest)

above : (a k : ℕ) → a ≤ k → (k ≡ a → ⊥) → a + 1 ≤ k
above a k low ne = omega (arith, ne)

-- what equal lists of certificates say of each group
module _ (f c : ℕ → Cert) (own_f : (k : ℕ) → group_of (f k) ≡ k) (own_c : (k : ℕ) → group_of (c k) ≡ k) (q p : ℕ → Bool) where
  abbrev Same : ℕ → Type 0
  Same k = (q k ≡ p k) × (p k ≡ true → f k ≡ c k)

  split_first : (a n : ℕ) → map f (filter q (range_with_len a (suc n))) ≡ map c (filter p (range_with_len a (suc n))) → (b : Bool) → q a ≡ b → (d : Bool) → p a ≡ d
      → Same a × (map f (filter q (range_with_len (a + 1) n)) ≡ map c (filter p (range_with_len (a + 1) n)))
  split_first a n e true is true told =
      let qs = filter q (range_with_len (a + 1) n) in
      let ps = filter p (range_with_len (a + 1) n) in
      let whole : f a ∷ map f qs ≡ c a ∷ map c ps =
      sym (ap (map f) (cond-true (q a) (a ∷ qs) qs is)) ∙ (e ∙ ap (map c) (cond-true (p a) (a ∷ ps) ps told)) in
      let first : f a ≡ c a = cc in
      let rest : map f qs ≡ map c ps = cc in
      ((is ∙ sym told, λ h. first), rest)
  split_first a n e false is false told =
      let qs = filter q (range_with_len (a + 1) n) in
      let ps = filter p (range_with_len (a + 1) n) in
      let whole : map f qs ≡ map c ps =
      sym (ap (map f) (cond-false (q a) (a ∷ qs) qs is)) ∙ (e ∙ ap (map c) (cond-false (p a) (a ∷ ps) ps told)) in
      ((is ∙ sym told, λ h. absurd (false≢true (sym told ∙ h))), whole)
  split_first a n e true is false told =
      let qs = filter q (range_with_len (a + 1) n) in
      let ps = filter p (range_with_len (a + 1) n) in
      let whole : f a ∷ map f qs ≡ map c ps =
      sym (ap (map f) (cond-true (q a) (a ∷ qs) qs is)) ∙ (e ∙ ap (map c) (cond-false (p a) (a ∷ ps) ps told)) in
      absurd (omega (arith, first_from c own_c p (a + 1) n (f a) (map f qs) whole, own_f a))
  split_first a n e false is true told =
      let qs = filter q (range_with_len (a + 1) n) in
      let ps = filter p (range_with_len (a + 1) n) in
      let whole : c a ∷ map c ps ≡ map f qs =
      sym (ap (map c) (cond-true (p a) (a ∷ ps) ps told)) ∙ (sym e ∙ ap (map f) (cond-false (q a) (a ∷ qs) qs is)) in
      absurd (omega (arith, first_from f own_f q (a + 1) n (c a) (map c ps) whole, own_c a))

  pub each_same : (a n : ℕ) → map f (filter q (range_with_len a n)) ≡ map c (filter p (range_with_len a n)) → (k : ℕ) → a ≤ k → k < a + n → Same k
  each_same a zero e k low high = absurd (omega arith)
  each_same a (suc n) e k low high =
      let parts_of = split_first a n e (q a) refl (p a) refl in
      ⊎_elim
      (λ (same : k ≡ a). subst Same (sym same) parts_of.0)
      (λ (ne : k ≡ a → ⊥). each_same (a + 1) n parts_of.1 k (omega (arith, above a k low ne)) (omega arith))
      (cases_eq k a)

-- the same of each group makes equal lists
pub all_same : (f c : ℕ → Cert) (q p : ℕ → Bool) (a n : ℕ) → ((k : ℕ) → k < a + n → (q k ≡ p k) × (p k ≡ true → f k ≡ c k)) → map f (filter q (range_with_len a n)) ≡ map c (filter p (range_with_len a n))
all_same f c q p a zero h = refl
all_same f c q p a (suc n) h = by (all_same f c q p (a + 1) n (λ k high. h k (omega arith))) (p a) refl
  where
    by : map f (filter q (range_with_len (a + 1) n)) ≡ map c (filter p (range_with_len (a + 1) n)) → (b : Bool) → p a ≡ b → map f (filter q (range_with_len a (suc n))) ≡ map c (filter p (range_with_len a (suc n)))
    by rest true told =
        let at = h a (omega arith) in
        ap (map f) (cond-true (q a) (a ∷ filter q (range_with_len (a + 1) n)) (filter q (range_with_len (a + 1) n)) (at.0 ∙ told))
        ∙ (ap₂ (λ x xs. x ∷ xs) (at.1 told) rest
        ∙ sym (ap (map c) (cond-true (p a) (a ∷ filter p (range_with_len (a + 1) n)) (filter p (range_with_len (a + 1) n)) told)))
    by rest false told =
        let at = h a (omega arith) in
        ap (map f) (cond-false (q a) (a ∷ filter q (range_with_len (a + 1) n)) (filter q (range_with_len (a + 1) n)) (at.0 ∙ told))
        ∙ (rest ∙ sym (ap (map c) (cond-false (p a) (a ∷ filter p (range_with_len (a + 1) n)) (filter p (range_with_len (a + 1) n)) told)))

-- ---- The certificates of those who wait

pub map_twice : {A B C : Type 0} (f : B → C) (g : A → B) (xs : List A) → map f (map g xs) ≡ map (λ x. f (g x)) xs
map_twice f g [] = refl
map_twice f g (x ∷ xs) = ap (λ ys. f (g x) ∷ ys) (map_twice f g xs)

line_cases : (a b : Bool) (x y : List Line) → (if a then Some x else None) ≡ (if b then Some y else None) → (a ≡ b) × (b ≡ true → x ≡ y)
line_cases true true x y e = let same : x ≡ y = cc in (refl, λ h. same)
line_cases true false x y e = absurd (cc)
line_cases false true x y e = absurd (cc)
line_cases false false x y e = (refl, λ h. absurd (false≢true h))

line_same : (a b : Bool) (x y : List Line) → a ≡ b → (b ≡ true → x ≡ y) → (if a then Some x else None) ≡ (if b then Some y else None)
line_same a true x y e same = ap₂ (λ (c : Bool) (z : List Line). if c then Some z else None) e (same refl)
line_same a false x y e same = cond-false a (Some x) None e

abbrev pub cert_for : Claim → (opened upto : ℕ) → (ℕ → List Line) → ℕ → Cert
cert_for claim opened upto ls group = record { claim = claim; leg = opened; group = group_id group; upto = upto; lines = reverse (ls group) }

module _ (claim : Claim) (opened upto : ℕ) (w : WaitingGroups) where
  abbrev pub kept : ℕ → Cert
  kept g = kept_cert claim opened upto w.reasons.lists w.reasons.scans (waiter_in w.reasons g)

  pub kept_map : map (kept_cert claim opened upto w.reasons.lists w.reasons.scans) (waiters_of w) ≡ map kept (filter (has w.groups) (range_with_len 0 65536))
  unfolding passing
  kept_map = map_twice (kept_cert claim opened upto w.reasons.lists w.reasons.scans) (waiter_in w.reasons) (filter (has w.groups) (range_with_len 0 65536))

  -- lines make certificates
  pub certs_from : (p : ℕ → Bool) (ls : ℕ → List Line) → ((g : ℕ) → g < 65536 → lines_at w g ≡ (if p g then Some (ls g) else None))
      → map (kept_cert claim opened upto w.reasons.lists w.reasons.scans) (waiters_of w) ≡ map (cert_for claim opened upto ls) (filter p (range_with_len 0 65536))
  certs_from p ls is =
      kept_map
      ∙ all_same kept (cert_for claim opened upto ls) (has w.groups) p 0 65536 (λ g high.
      let told = line_cases (has w.groups g) (p g) (lines_in w.reasons g) (ls g) (is g high) in
      (told.0, λ h. ap (λ (l : List Line). record { claim = claim; leg = opened; group = group_id g; upto = upto; lines = reverse l }) (told.1 h)))

  -- certificates tell the lines
  pub certs_tell : (other : Claim) (leg last : ℕ) (p : ℕ → Bool) (ls : ℕ → List Line) → map (kept_cert claim opened upto w.reasons.lists w.reasons.scans) (waiters_of w) ≡ map (cert_for other leg last ls) (filter p (range_with_len 0 65536))
      → (g : ℕ) → g < 65536 → lines_at w g ≡ (if p g then Some (ls g) else None)
  certs_tell other leg last p ls e g high =
      let told = each_same kept (cert_for other leg last ls) (λ k. refl) (λ k. refl) (has w.groups) p 0 65536 (sym kept_map ∙ e) g (omega arith) high in
      line_same (has w.groups g) (p g) (lines_in w.reasons g) (ls g) told.0 (λ h.
      let back = ap (λ (x : Cert). reverse x.lines) (told.1 h) in
      sym (reverse-reverse (lines_in w.reasons g)) ∙ (back ∙ reverse-reverse (ls g)))

-- ---- The least group that waits

take_one : {A B : Type 0} (f : A → B) (xs : List A) → take 1 (map f xs) ≡ map f (take 1 xs)
take_one f [] = refl
take_one f (x ∷ xs) = refl

passing_at : (n limit : ℕ) (test : ℕ → Bool) → n < limit → test n ≡ true → passing n limit test ≡ n ∷ passing (n + 1) limit test
unfolding passing
passing_at n limit test below holds =
    let count : limit - n ≡ suc (limit - (n + 1)) = omega arith in
    ap (λ m. filter test (range_with_len n m)) count
    ∙ cond-true (test n) (n ∷ filter test (range_with_len (n + 1) (limit - (n + 1)))) (filter test (range_with_len (n + 1) (limit - (n + 1)))) holds

pub no_waiter : (w : WaitingGroups) → IsNextFrom (has w.groups) 0 None → waiters_of w ≡ []
no_waiter w next = ap (map (waiter_in w.reasons)) (passing-none 0 65536 (has w.groups) (λ n low high. next n low))

pub no_waiters : (w : WaitingGroups) → ((g : ℕ) → lines_at w g ≡ None) → waiters_of w ≡ []
no_waiters w none = no_waiter w (λ g low. out (has w.groups g) (lines_in w.reasons g) (none g))
  where
    out : (b : Bool) (ls : List Line) → (if b then Some ls else None) ≡ None → b ≡ false
    out true ls e = absurd (cc)
    out false ls e = refl

-- the least, and those after it
least_first : (test : ℕ → Bool) (n : ℕ) → IsNextFrom test 0 (Some n) → n < 65536 → passing 0 65536 test ≡ n ∷ passing (n + 1) 65536 test
least_first test n next few = passing-skip 0 n 65536 test (omega arith) (omega (arith, few)) next.least ∙ passing_at n 65536 test few next.passes

pub least_waiter : (w : WaitingGroups) (n : ℕ) → IsNextFrom (has w.groups) 0 (Some n) → n < 65536 → take 1 (waiters_of w) ≡ waiter_in w.reasons n ∷ []
least_waiter w n next few = ap (λ ns. take 1 (map (waiter_in w.reasons) ns)) (least_first (has w.groups) n next few)

-- it alone
module _ (empty : Numbers) (n : ℕ) (none : IsEmpty empty) (numbers : length empty ≡ 65536) (few : n < 65536) where
  one_in : has (set empty n true) n ≡ true
  one_in = get_or-set_same empty n true false (omega (arith, few, numbers))

  pub others_out : (k : ℕ) → (k ≡ n → ⊥) → has (set empty n true) k ≡ false
  others_out k ne = get_or-set_other empty n k true false ne ∙ none k

  one_listed : passing 0 65536 (has (set empty n true)) ≡ n ∷ []
  one_listed =
      least_first (has (set empty n true)) n (record { within = omega arith; passes = one_in; least = λ k low below. others_out k (λ e. omega (arith, e, below)) }) few
      ∙ ap (λ ns. n ∷ ns) (passing-none (n + 1) 65536 (has (set empty n true)) (λ k low high. others_out k (λ e. omega (arith, e, low))))

  pub least_alone : (w : WaitingGroups) → IsNextFrom (has w.groups) 0 (Some n) → waiters_of (record { groups = set empty n true; reasons = w.reasons }) ≡ take 1 (waiters_of w)
  least_alone w next = ap (map (waiter_in w.reasons)) one_listed ∙ sym (least_waiter w n next few)

-- the certificate of the floor is the first
pub floor_from : (opened upto : ℕ) (before after : WaitingGroups) → waiters_of after ≡ take 1 (waiters_of before) → after.reasons ≡ before.reasons → (p : ℕ → Bool) (ls : ℕ → List Line) → ((g : ℕ) → g < 65536 → lines_at before g ≡ (if p g then Some (ls g) else None))
    → map (kept_cert Floor opened upto after.reasons.lists after.reasons.scans) (waiters_of after) ≡ map (cert_for Floor opened upto ls) (take 1 (filter p (range_with_len 0 65536)))
floor_from opened upto before after least same p ls is =
    ap₂ (λ (reasons : LegReasons) (ws : List Waiter). map (kept_cert Floor opened upto reasons.lists reasons.scans) ws) same least
    ∙ (sym (take_one (kept_cert Floor opened upto before.reasons.lists before.reasons.scans) (waiters_of before))
    ∙ (ap (take 1) (certs_from Floor opened upto before p ls is)
    ∙ take_one (cert_for Floor opened upto ls) (filter p (range_with_len 0 65536))))
