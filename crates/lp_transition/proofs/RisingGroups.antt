-- The groups that switch by verdicts of greater and greater groups.
use Rattle.std.proofs.Common.{◌≡◌, ◌≢◌, ℕ, zero, suc, ◌+◌, ◌-◌, ◌<◌, ◌≤◌, Bool, true, false, not, ◌&&◌, ◌||◌, List, [], ◌∷◌, ◌++◌, Option, Some, None, is_some, is_none, if◌then◌else◌, nat_eq, refl, sym, ap, ap₂, subst, ◌∙◌, ⊎_elim, arith}
use Rattle.std.proofs.lemmas.Bool.{cases_Bool, eq-eqb, ne_eqb}
use Rattle.std.proofs.lemmas.List.{append-nil}
use Rattle.std.proofs.lemmas.List.Folds.{list_any-append}
use Rattle.std.specs.List.{list_any}
use Rattle.lp_numbers.proofs.Ascents.{none_in}
use Rattle.lp_stack.specs.declared.number.GroupId.{GroupId}
use Rattle.lp_model.specs.declared.verdict.Verdict.{Verdict}
use Rattle.lp_definitions.specs.Events.{group_numbers}
use Rattle.lp_tasks.specs.Passing.{passing}
use Rattle.lp_machine.specs.Table.{Table, slot}
use Rattle.lp_tasks.specs.inside.Table.{is_in}
use Rattle.lp_transition.specs.inside.ScanSteps.{is_found, switches_by}
use Rattle.lp_tasks.proofs.Passing.{passes, keep_one, skip_one, passing-skip}

split : (test : ℕ → Bool) (k m a : ℕ) → passes test a (k + m) ≡ passes test a k ++ passes test (a + k) m
split test zero m a =
    let count : zero + m ≡ m = omega arith in
    let here : a ≡ a + zero = omega arith in
    ap₂ (passes test) here count
split test (suc k) m a =
    let count : suc k + m ≡ suc (k + m) = omega arith in
    let there : a + 1 + k ≡ a + suc k = omega arith in
    let later = split test k m (a + 1) ∙ ap (λ n. passes test (a + 1) k ++ passes test n m) there in
    ap (passes test a) count
    ∙ ⊎_elim
    (λ (yes : test a ≡ true). keep_one test a (k + m) yes ∙ ap (λ ns. a ∷ ns) later ∙ sym (ap (λ ns. ns ++ passes test (a + suc k) m) (keep_one test a k yes)))
    (λ (out : test a ≡ false). skip_one test a (k + m) out ∙ later ∙ sym (ap (λ ns. ns ++ passes test (a + suc k) m) (skip_one test a k out)))
    (cases_Bool (test a))

agree : (p q : ℕ → Bool) (k a : ℕ) → ((n : ℕ) → a ≤ n → n < a + k → p n ≡ q n) → passes p a k ≡ passes q a k
agree p q zero a h = refl
agree p q (suc k) a h =
    let later = agree p q k (a + 1) (λ n low high. h n (omega arith) (omega arith)) in
    ap₂ (λ (b : Bool) (ns : List ℕ). if b then a ∷ ns else ns) (h a (omega arith) (omega arith)) later

nothing_more : (a b : Bool) → (a || ((b && false) || false)) ≡ a
nothing_more true b = refl
nothing_more false true = refl
nothing_more false false = refl

only_more : (b : Bool) → (false || ((b && true) || false)) ≡ b
only_more true = refl
only_more false = refl

-- the verdicts so far are of greater and greater groups below a place, and these of them switch
pub record AreInTurn (table : Table) (vs : List Verdict) (from : ℕ) (groups : List ℕ) : Type 0 where
  pub listed : groups ≡ passing 0 from (switches_by table vs)
  pub within : from ≤ 65536
  pub none : (refused : Bool) (n : ℕ) → from ≤ n → list_any (is_found table refused n) vs ≡ false

pub turn-none : (table : Table) (groups : List GroupId) → groups ≡ [] → AreInTurn table [] 0 (group_numbers groups)
unfolding passing
turn-none table groups is = record { listed = ap group_numbers is; within = omega arith; none = λ refused n low. refl }

-- one more verdict, of a greater group
module _ (table : Table) (vs : List Verdict) (v : Verdict) (group : ℕ) (member : (n : ℕ) → is_in n (slot table v.task.0) ≡ nat_eq group n) where
  tells : Bool → Bool
  tells refused = if refused then is_some v.blame else is_none v.blame

  more : (refused : Bool) (n : ℕ) → list_any (is_found table refused n) (vs ++ v ∷ []) ≡ (list_any (is_found table refused n) vs || ((tells refused && nat_eq group n) || false))
  unfolding tells
  more refused n = list_any-append (is_found table refused n) vs (v ∷ []) ∙ ap (λ b. list_any (is_found table refused n) vs || ((tells refused && b) || false)) (member n)

  others : (refused : Bool) (n : ℕ) → n ≢ group → list_any (is_found table refused n) (vs ++ v ∷ []) ≡ list_any (is_found table refused n) vs
  others refused n ne =
      more refused n
      ∙ ap (λ b. list_any (is_found table refused n) vs || ((tells refused && b) || false)) (ne_eqb group n (λ (e : group ≡ n). ne (sym e)))
      ∙ nothing_more (list_any (is_found table refused n) vs) (tells refused)

  here : (refused : Bool) → list_any (is_found table refused group) vs ≡ false → list_any (is_found table refused group) (vs ++ v ∷ []) ≡ tells refused
  here refused none =
      more refused group
      ∙ ap₂ (λ a b. a || ((tells refused && b) || false)) none (eq-eqb group group refl)
      ∙ only_more (tells refused)

  switches_here : ((refused : Bool) → list_any (is_found table refused group) vs ≡ false) → switches_by table (vs ++ v ∷ []) group ≡ is_none v.blame
  unfolding tells
  switches_here none = ap₂ (λ a b. a && not b) (here false (none false)) (here true (none true)) ∙ either v.blame
    where
      either : {B : Type 0} (o : Option B) → (is_none o && not (is_some o)) ≡ is_none o
      either None = refl
      either (Some b) = refl

  listed_more : (from : ℕ) (groups : List ℕ) → AreInTurn table vs from groups → from ≤ group → groups ++ (if is_none v.blame then group ∷ [] else []) ≡ passing 0 (group + 1) (switches_by table (vs ++ v ∷ []))
  unfolding passing
  listed_more from groups turn low =
      let test = switches_by table (vs ++ v ∷ []) in
      let count : group + 1 - 0 ≡ from + (group + 1 - from) = omega arith in
      let so_far = agree (switches_by table vs) test from 0 (λ n above below. sym (ap₂ (λ a b. a && not b) (others false n (λ (e : n ≡ group). omega arith)) (others true n (λ (e : n ≡ group). omega arith)))) in
      let between = passing-skip from group (group + 1) test low (omega arith) (λ n above below. ap₂ (λ a b. a && not b) (others false n (λ (e : n ≡ group). omega arith)) (others true n (λ (e : n ≡ group). omega arith)) ∙ ap (λ a. a && not (list_any (is_found table true n) vs)) (turn.none false n above)) in
      let one : group + 1 - group ≡ suc zero = omega arith in
      let last = ap (passes test group) one ∙ ap (λ (b : Bool). if b then group ∷ [] else []) (switches_here (λ refused. turn.none refused group low)) in
      let start : 0 + from ≡ from = omega arith in
      let whole : from - 0 ≡ from = omega arith in
      ap₂ ◌++◌ (turn.listed ∙ ap (passes (switches_by table vs) 0) whole ∙ so_far) (sym last ∙ sym between ∙ ap (λ n. passes test n (group + 1 - from)) (sym start))
      ∙ sym (split test from (group + 1 - from) 0)
      ∙ ap (passes test 0) (sym count)

  pub turn-more : (all : List Verdict) (from : ℕ) (groups listed : List ℕ) (admits : Bool) → AreInTurn table vs from groups → (from ≤ group) × (group < 65536) → all ≡ vs ++ v ∷ [] → is_some v.blame ≡ not admits → listed ≡ groups ++ (if admits then group ∷ [] else []) → AreInTurn table all (group + 1) listed
  turn-more all from groups listed admits turn fits every tells is =
      let low = fits.0 in
      let few = fits.1 in
      subst (λ (ws : List Verdict). AreInTurn table ws (group + 1) listed) (sym every)
      (record {
        listed = is ∙ ap (λ (b : Bool). groups ++ (if b then group ∷ [] else [])) (told v.blame admits tells) ∙ listed_more from groups turn low;
        within = omega arith;
        none = λ refused n above. others refused n (λ (e : n ≡ group). omega arith) ∙ turn.none refused n (omega arith);
      })
    where
      told : {B : Type 0} (o : Option B) (b : Bool) → is_some o ≡ not b → b ≡ is_none o
      told None true e = refl
      told None false e = absurd (cc)
      told (Some x) true e = absurd (cc)
      told (Some x) false e = refl

-- after the last verdict no group switches
pub turn-all : (table : Table) (vs : List Verdict) (from : ℕ) (groups : List ℕ) → AreInTurn table vs from groups → groups ≡ passing 0 65536 (switches_by table vs)
unfolding passing
turn-all table vs from groups turn =
    let test = switches_by table vs in
    let fits = turn.within in
    let count : 65536 - 0 ≡ from + (65536 - from) = omega arith in
    let none_later = none_in test (65536 - from) (0 + from) (λ n low high. ap (λ a. a && not (list_any (is_found table true n) vs)) (turn.none false n (omega arith))) in
    let whole : from - 0 ≡ from = omega arith in
    turn.listed
    ∙ ap (passes test 0) whole
    ∙ sym (append-nil (passes test 0 from))
    ∙ ap (λ ns. passes test 0 from ++ ns) (sym none_later)
    ∙ sym (split test from (65536 - from) 0)
    ∙ ap (passes test 0) (sym count)
