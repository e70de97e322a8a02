-- What holds of the fold's table still holds after a change.
use Rattle.std.proofs.Common.{◌≡◌, ℕ, zero, suc, ◌+◌, ◌-◌, ◌<◌, ◌≤◌, Bool, true, false, List, [], ◌∷◌, ◌++◌, length, count_by, get_or, set, Option, Some, None, is_some, Result, Ok, Err, OnOk, OnErr, if◌then◌else◌, nat_eq, refl, sym, ap, ap₂, subst, ◌∙◌, ⊎_elim, append_assoc, length-append, arith}
use Rattle.std.proofs.Math.ListN.{replicate, get_or-eq_default}
use Rattle.std.proofs.lemmas.Bool.{cases_eq, cases_lt, eq-eqb, ne_eqb, cond-true, cond-false}
use Rattle.std.proofs.lemmas.List.{length-set, get_or-set_same, get_or-set_other, get_or_default, length-replicate, set-append_left}
use Rattle.std.proofs.lemmas.List.Sums.{count_by-le-length}
use mathlib.Core.Path.{fun_ext}
use Rattle.std.specs.Option.{option_map}
use Rattle.lp_numbers.specs.Numbers.{Numbers, has}
use Rattle.lp_definitions.specs.Tasks.{Fate, Unused, Live, Dead, change, map_live}
use Rattle.lp_definitions.specs.Leg.{LegTask}
use Rattle.lp_machine.specs.Table.{Table, slot, fate_at, leg_tasks}
use Rattle.lp_tasks.specs.inside.Table.{is_in, changed, with_task, without_task, IsBlank}
use Rattle.lp_tasks.proofs.TableLemmas.{leg_tasks-changed, leg_tasks-with_task, leg_tasks-without_task, slot-changed, slot-changed_other, slot-with_task_other, used-with_task, used-with_task_other, slot-without_task, slot-without_task_other, IsWide-changed, IsWide-with_task, IsWide-without_task}
use Rattle.lp_tasks.proofs.CountLemmas.{count-changed, count-with_task, count-without_task}
use Rattle.lp_tasks.proofs.MemberLemmas.{count-blank}
use Rattle.lp_checker.specs.inside.Tables.{all_slots, IsCounted, IsKept}

is_some-map : {A B : Type 0} (f : A → B) (o : Option A) → is_some (option_map f o) ≡ is_some o
is_some-map f None = refl
is_some-map f (Some x) = refl

-- ---- Slots

none_at : (n i : ℕ) → get_or {A = Option LegTask} (replicate n None) i None ≡ None
none_at zero i = refl
none_at (suc n) zero = refl
none_at (suc n) (suc i) = none_at n i

none_after : (xs : List (Option LegTask)) (n i : ℕ) → get_or (xs ++ replicate n None) i None ≡ get_or xs i None
none_after [] n i = none_at n i
none_after (x ∷ xs) n zero = refl
none_after (x ∷ xs) n (suc i) = none_after xs n i

-- each slot holds what it held
pub slot-all : (slots : List (Option LegTask)) (i : ℕ) → get_or (all_slots slots) i None ≡ get_or slots i None
unfolding all_slots
slot-all slots i = none_after slots (65536 - length slots) i

-- after the slots that there are nobody lives
pub slot-past : (slots : List (Option LegTask)) (i : ℕ) → length slots ≤ i → get_or (all_slots slots) i None ≡ None
slot-past slots i past = slot-all slots i ∙ get_or-eq_default slots None past

some_within : (slots : List (Option LegTask)) (i : ℕ) (x : LegTask) → get_or (all_slots slots) i None ≡ Some x → i < length slots
some_within slots i x some = ⊎_elim (λ (h : i < length slots). h) (λ (past : length slots ≤ i). let none = slot-past slots i past in absurd (cc)) (cases_lt i (length slots))

count_within : (members : List ℕ) (group : ℕ) → 1 ≤ get_or members group 0 → group < length members
count_within members group some = ⊎_elim (λ (h : group < length members). h) (λ (past : length members ≤ group). let none = get_or-eq_default members 0 past in absurd (omega (arith, none, some))) (cases_lt group (length members))

pub length-all : (slots : List (Option LegTask)) → length slots ≤ 65536 → length (all_slots slots) ≡ 65536
unfolding all_slots
length-all slots few = omega (arith, length-append slots (replicate (65536 - length slots) None), length-replicate {A = Option LegTask} (65536 - length slots) None, few)

pub set-all : (slots : List (Option LegTask)) (i : ℕ) (x : Option LegTask) → i < length slots → all_slots (set slots i x) ≡ set (all_slots slots) i x
unfolding all_slots
set-all slots i x h =
    ap (λ n. set slots i x ++ replicate (65536 - n) None) (length-set slots i x)
    ∙ sym (set-append_left slots (replicate (65536 - length slots) None) i x h)

one_less : (n : ℕ) → n < 65536 → 65536 - n ≡ suc (65536 - (n + 1))
one_less n h = omega (arith, h)

-- one more slot without a task
pub push-all : (slots : List (Option LegTask)) → length slots < 65536 → all_slots (slots ++ None ∷ []) ≡ all_slots slots
unfolding all_slots
push-all slots h =
    ap (λ n. (slots ++ None ∷ []) ++ replicate (65536 - n) None) (length-append slots (None ∷ []))
    ∙ append_assoc slots (None ∷ []) (replicate (65536 - (length slots + 1)) None)
    ∙ ap (λ n. slots ++ replicate n None) (sym (one_less (length slots) h))

-- one more zero
pub push-zero : (numbers : List ℕ) (n : ℕ) → get_or (numbers ++ 0 ∷ []) n 0 ≡ get_or numbers n 0
push-zero [] zero = refl
push-zero [] (suc n) = refl
push-zero (x ∷ numbers) zero = refl
push-zero (x ∷ numbers) (suc n) = push-zero numbers n

module _ (table : Table) (members : List ℕ) (now : IsCounted table members) where
  -- where one live task is changed, but for its group
  pub counted-changed : (t : ℕ) (f : LegTask → LegTask) → t < 65536 → ((x : LegTask) → (f x).group ≡ x.group) → IsCounted (changed t f table) members
  counted-changed t f h same = record {
    wide = IsWide-changed table t f now.wide;
    nobody = ⊎_elim (λ (e : 0 ≡ t). subst (λ v. slot (changed t f table) v ≡ None) (sym e) (slot-changed table t f now.wide h ∙ ap (option_map f) (subst (λ v. slot table v ≡ None) e now.nobody))) (λ (ne : 0 ≡ t → ⊥). slot-changed_other table t 0 f ne ∙ now.nobody) (cases_eq 0 t);
    known = λ u some. now.known u (sym (alive u) ∙ some);
    counted = λ group lt. now.counted group lt ∙ sym (count-changed table t f group now.wide h same);
  }
    where
      alive : (u : ℕ) → is_some (slot (changed t f table) u) ≡ is_some (slot table u)
      alive u =
          ⊎_elim
          (λ (e : u ≡ t). subst (λ v. is_some (slot (changed t f table) v) ≡ is_some (slot table v)) (sym e) (ap is_some (slot-changed table t f now.wide h) ∙ is_some-map f (slot table t)))
          (λ (ne : u ≡ t → ⊥). ap is_some (slot-changed_other table t u f ne))
          (cases_eq u t)

  -- where a task becomes live
  pub counted-with_task : (t : ℕ) (x : LegTask) → 0 < t → t < 65536 → x.group < length members → slot table t ≡ None → IsCounted (with_task t x table) (set members x.group (get_or members x.group 0 + 1))
  counted-with_task t x positive h small none = record {
    wide = IsWide-with_task table t x now.wide;
    nobody = slot-with_task_other table t 0 x (λ e. omega (arith, positive, e)) ∙ now.nobody;
    known = λ u some. ⊎_elim
        (λ (e : u ≡ t). subst (λ v. has (with_task t x table).used v ≡ true) (sym e) (used-with_task table t x now.wide h))
        (λ (ne : u ≡ t → ⊥). used-with_task_other table t u x ne ∙ now.known u (ap is_some (sym (slot-with_task_other table t u x ne)) ∙ some))
        (cases_eq u t);
    counted = λ group lt. one_more group lt;
  }
    where
      one_more : (group : ℕ) → group < 65536 → get_or (set members x.group (get_or members x.group 0 + 1)) group 0 ≡ count_by (is_in group) (with_task t x table).slots
      one_more group lt =
          let count = count-with_task table t x group now.wide h none in
          let before = now.counted group lt in
          ⊎_elim
          (λ (e : group ≡ x.group).
          let here = get_or-set_same members x.group (get_or members x.group 0 + 1) 0 small in
          let one = cond-true {A = ℕ} (nat_eq x.group group) 1 0 (eq-eqb x.group group (sym e)) in
          let at : get_or (set members x.group (get_or members x.group 0 + 1)) group 0 ≡ get_or members group 0 + 1 = subst (λ g. get_or (set members x.group (get_or members x.group 0 + 1)) g 0 ≡ get_or members g 0 + 1) (sym e) here in
          omega (arith, at, before, count, one))
          (λ (ne : group ≡ x.group → ⊥).
          let there = get_or-set_other members x.group group (get_or members x.group 0 + 1) 0 ne in
          let none_more = cond-false {A = ℕ} (nat_eq x.group group) 1 0 (ne_eqb x.group group (λ e. ne (sym e))) in
          omega (arith, there, before, count, none_more))
          (cases_eq group x.group)

  -- where a live task ends
  pub counted-without_task : (t : ℕ) (x : LegTask) → t < 65536 → x.group < length members → slot table t ≡ Some x → (n : ℕ) → n + 1 ≡ get_or members x.group 0 → IsCounted (without_task t table) (set members x.group n)
  counted-without_task t x h small some n less = record {
    wide = IsWide-without_task table t now.wide;
    nobody = ⊎_elim (λ (e : 0 ≡ t). subst (λ v. slot (without_task t table) v ≡ None) (sym e) (slot-without_task table t now.wide h)) (λ (ne : 0 ≡ t → ⊥). slot-without_task_other table t 0 ne ∙ now.nobody) (cases_eq 0 t);
    known = λ u alive. known_still u alive;
    counted = λ group lt. one_less group lt;
  }
    where
      known_still : (u : ℕ) → is_some (slot (without_task t table) u) ≡ true → has table.used u ≡ true
      known_still u alive =
          ⊎_elim
          (λ (e : u ≡ t). let dead : is_some (slot (without_task t table) u) ≡ false = subst (λ v. is_some (slot (without_task t table) v) ≡ false) (sym e) (ap is_some (slot-without_task table t now.wide h)) in absurd (cc))
          (λ (ne : u ≡ t → ⊥). now.known u (ap is_some (sym (slot-without_task_other table t u ne)) ∙ alive))
          (cases_eq u t)

      one_less : (group : ℕ) → group < 65536 → get_or (set members x.group n) group 0 ≡ count_by (is_in group) (without_task t table).slots
      one_less group lt =
          let count = count-without_task table t x group now.wide h some in
          let before = now.counted group lt in
          ⊎_elim
          (λ (e : group ≡ x.group).
          let at : get_or (set members x.group n) group 0 ≡ n = subst (λ g. get_or (set members x.group n) g 0 ≡ n) (sym e) (get_or-set_same members x.group n 0 small) in
          let one = cond-true {A = ℕ} (nat_eq x.group group) 1 0 (eq-eqb x.group group (sym e)) in
          let was : n + 1 ≡ get_or members group 0 = subst (λ g. n + 1 ≡ get_or members g 0) (sym e) less in
          omega (arith, at, before, count, one, was))
          (λ (ne : group ≡ x.group → ⊥).
          let there = get_or-set_other members x.group group n 0 ne in
          let none_less = cond-false {A = ℕ} (nat_eq x.group group) 1 0 (ne_eqb x.group group (λ e. ne (sym e))) in
          omega (arith, there, before, count, none_less))
          (cases_eq group x.group)

-- a group with a live member counts at least one
pub counted-some : (table : Table) (members : List ℕ) → IsCounted table members → (t : ℕ) (x : LegTask) → t < 65536 → x.group < 65536 → slot table t ≡ Some x → 1 ≤ get_or members x.group 0
counted-some table members now t x h small some =
    let count = count-without_task table t x x.group now.wide h some in
    let one = cond-true {A = ℕ} (nat_eq x.group x.group) 1 0 (eq-eqb x.group x.group refl) in
    let before = now.counted x.group small in
    omega (arith, count, one, before)

-- where the counts are the same
pub counted-same : (table : Table) (members more : List ℕ) → IsCounted table members → ((n : ℕ) → get_or more n 0 ≡ get_or members n 0) → IsCounted table more
counted-same table members more now same = record {
  wide = now.wide;
  nobody = now.nobody;
  known = now.known;
  counted = λ group lt. same group ∙ now.counted group lt;
}

-- a table without tasks
pub blank : (used : Numbers) → length used ≡ 65536 → ((t : ℕ) → has used t ≡ false) → IsBlank (record { slots = all_slots []; used = used })
blank used wide none = record {
  wide = record { slots = length-all [] (omega arith); used = wide };
  no_task = λ t. slot-all [] t;
  none_used = none;
}

pub kept-blank : (used : Numbers) → length used ≡ 65536 → ((t : ℕ) → has used t ≡ false) → IsKept [] used []
kept-blank used wide none =
    let table : Table = record { slots = all_slots []; used = used } in
    record {
      few = omega arith;
      counted = record {
        wide = (blank used wide none).wide;
        nobody = slot-all [] 0;
        known = λ t some. let dead = ap is_some (slot-all [] t) in absurd (cc);
        counted = λ group lt. sym (count-blank table group (blank used wide none));
      };
    }

-- ---- A slot that is changed

module _ (slots : List (Option LegTask)) (used : Numbers) (members : List ℕ) (now : IsKept slots used members) (i : ℕ) (h : i < length slots) where
  abbrev table : Table
  table = record { slots = all_slots slots; used = used }

  -- a slot as it stands
  pub slot-here : (old : Option LegTask) → old ≡ get_or slots i old → slot table i ≡ old
  slot-here old e = slot-all slots i ∙ get_or_default slots i None old h ∙ sym e

  small : i < 65536
  small = omega (arith, h, now.few)

  module _ (old new : Option LegTask) (f : LegTask → LegTask) (e : old ≡ get_or slots i old) (is : new ≡ option_map f old) where
    all_changed : all_slots (set slots i new) ≡ set (all_slots slots) i (option_map f (slot table i))
    all_changed = set-all slots i new h ∙ ap (set (all_slots slots) i) (is ∙ ap (option_map f) (sym (slot-here old e)))

    -- the live task in a slot is changed, but for its group
    pub kept-changed : ((x : LegTask) → (f x).group ≡ x.group) → IsKept (set slots i new) used members
    kept-changed same = record {
      few = omega (arith, length-set slots i new, now.few);
      counted = subst (λ (all : List (Option LegTask)). IsCounted (record { slots = all; used = used }) members) (sym all_changed) (counted-changed table members now.counted i f small same);
    }

    pub leg_tasks-kept : leg_tasks (record { slots = all_slots (set slots i new); used = used }) ≡ change i f (leg_tasks table)
    leg_tasks-kept = ap (λ (all : List (Option LegTask)). leg_tasks (record { slots = all; used = used })) all_changed ∙ leg_tasks-changed table i f now.counted.wide small

-- a change that is made only where a call went well
abbrev pub where_ok : {T E : Type 0} → Result T E → (LegTask → LegTask) → LegTask → LegTask
where_ok (Ok v) f x = f x
where_ok (Err e) f x = x

pub where_ok-is : {T E : Type 0} (r : Result T E) (f : LegTask → LegTask) (new old : LegTask) → OnOk r (new ≡ f old) → OnErr r (new ≡ old) → new ≡ where_ok r f old
where_ok-is (Ok v) f new old well ill = well
where_ok-is (Err e) f new old well ill = ill

pub where_ok-group : {T E : Type 0} (r : Result T E) (f : LegTask → LegTask) → ((x : LegTask) → (f x).group ≡ x.group) → (x : LegTask) → (where_ok r f x).group ≡ x.group
where_ok-group (Ok v) f same x = same x
where_ok-group (Err e) f same x = refl

pub where_ok-on : {T E : Type 0} (r : Result T E) (f : LegTask → LegTask) (i : ℕ) (new old : ℕ → Fate LegTask) → new ≡ change i (where_ok r f) old → OnOk r (new ≡ change i f old)
where_ok-on (Ok v) f i new old e = e
where_ok-on (Err e) f i new old h = tt

unchanged_at : (fate : Fate LegTask) (b : Bool) → (if b then map_live (λ (x : LegTask). x) fate else fate) ≡ fate
unchanged_at fate false = refl
unchanged_at Unused true = refl
unchanged_at (Live x) true = refl
unchanged_at Dead true = refl

pub where_ok-off : {T E : Type 0} (r : Result T E) (f : LegTask → LegTask) (i : ℕ) (new old : ℕ → Fate LegTask) → new ≡ change i (where_ok r f) old → OnErr r (new ≡ old)
where_ok-off (Ok v) f i new old e = tt
where_ok-off (Err e) f i new old h = h ∙ fun_ext (λ t. unchanged_at (old t) (nat_eq t i))

-- ---- A task that comes or goes

-- where more slots and counts are there, and say the same
pub kept-same : (slots more : List (Option LegTask)) (used : Numbers) (members counts : List ℕ) → IsKept slots used members → length more ≤ 65536 → all_slots more ≡ all_slots slots → ((n : ℕ) → get_or counts n 0 ≡ get_or members n 0) → IsKept more used counts
kept-same slots more used members counts now few all same = record {
  few = few;
  counted = counted-same (record { slots = all_slots more; used = used }) members counts (subst (λ (them : List (Option LegTask)). IsCounted (record { slots = them; used = used }) members) (sym all) now.counted) same;
}

module _ (slots : List (Option LegTask)) (used : Numbers) (members : List ℕ) (now : IsKept slots used members) (t : ℕ) (x : LegTask) where
  abbrev its : Table
  its = record { slots = all_slots slots; used = used }

  module _ (h : t < length slots) where
    below : t < 65536
    below = omega (arith, h, now.few)

    -- a task becomes live
    pub kept-put : 0 < t → x.group < length members → slot its t ≡ None → IsKept (set slots t (Some x)) (set used t true) (set members x.group (get_or members x.group 0 + 1))
    kept-put positive small none = record {
      few = omega (arith, length-set slots t (Some x), now.few);
      counted = subst (λ (all : List (Option LegTask)). IsCounted (record { slots = all; used = set used t true }) (set members x.group (get_or members x.group 0 + 1))) (sym (set-all slots t (Some x) h)) (counted-with_task its members now.counted t x positive below small none);
    }

    pub leg_tasks-put : leg_tasks (record { slots = all_slots (set slots t (Some x)); used = set used t true }) ≡ (λ u. if nat_eq u t then Live x else leg_tasks its u)
    leg_tasks-put = ap (λ (all : List (Option LegTask)). leg_tasks (record { slots = all; used = set used t true })) (set-all slots t (Some x) h) ∙ leg_tasks-with_task its t x now.counted.wide below

  module _ (some : slot its t ≡ Some x) (small : x.group < 65536) where
    pub within : t < length slots
    within = some_within slots t x some

    t_small : t < 65536
    t_small = omega (arith, within, now.few)

    pub one_there : 1 ≤ get_or members x.group 0
    one_there = counted-some its members now.counted t x t_small small some

    pub group_within : x.group < length members
    group_within = count_within members x.group one_there

    -- a live task ends
    pub kept-remove : (n : ℕ) → n + 1 ≡ get_or members x.group 0 → IsKept (set slots t None) used (set members x.group n)
    kept-remove n less = record {
      few = omega (arith, length-set slots t None, now.few);
      counted = subst (λ (all : List (Option LegTask)). IsCounted (record { slots = all; used = used }) (set members x.group n)) (sym (set-all slots t None within)) (counted-without_task its members now.counted t x t_small group_within some n less);
    }

    pub leg_tasks-remove : leg_tasks (record { slots = all_slots (set slots t None); used = used }) ≡ (λ u. if nat_eq u t then Dead else leg_tasks its u)
    leg_tasks-remove =
        ap (λ (all : List (Option LegTask)). leg_tasks (record { slots = all; used = used })) (set-all slots t None within)
        ∙ leg_tasks-without_task its t now.counted.wide t_small (now.counted.known t (ap is_some some))

no_task : (f : LegTask → LegTask) (used : Bool) → map_live f (fate_at None used) ≡ fate_at None used
no_task f true = refl
no_task f false = refl

same_fate : (f : LegTask → LegTask) (o : Option LegTask) (used : Bool) → o ≡ None → fate_at o used ≡ map_live f (fate_at o used)
same_fate f o used none = ap (λ (p : Option LegTask). fate_at p used) none ∙ sym (no_task f used) ∙ sym (ap (λ (p : Option LegTask). map_live f (fate_at p used)) none)

either_fate : (b : Bool) (x y : Fate LegTask) → x ≡ y → x ≡ (if b then y else x)
either_fate true x y e = e
either_fate false x y e = refl

-- nobody is changed where there is no such task
pub leg_tasks-absent : (slots : List (Option LegTask)) (used : Numbers) (i : ℕ) (f : LegTask → LegTask) → length slots ≤ i → leg_tasks (record { slots = all_slots slots; used = used }) ≡ change i f (leg_tasks (record { slots = all_slots slots; used = used }))
leg_tasks-absent slots used i f past =
    let table : Table = record { slots = all_slots slots; used = used } in
    let none : slot table i ≡ None = slot-past slots i past in
    fun_ext (λ u.
    ⊎_elim
    (λ (e : u ≡ i). either_fate (nat_eq u i) (leg_tasks table u) (map_live f (leg_tasks table u)) (same_fate f (slot table u) (has used u) (ap (slot table) e ∙ none)))
    (λ (ne : u ≡ i → ⊥). sym (cond-false (nat_eq u i) (map_live f (leg_tasks table u)) (leg_tasks table u) (ne_eqb u i ne)))
    (cases_eq u i))

-- where a number is used
pub counted-used : (table : Table) (members : List ℕ) (t : ℕ) → IsCounted table members → t < 65536 → IsCounted (record table { used = set table.used t true }) members
counted-used table members t now h = record {
  wide = record { slots = now.wide.slots; used = length-set table.used t true ∙ now.wide.used };
  nobody = now.nobody;
  known = λ u some.
      ⊎_elim
      (λ (e : u ≡ t). subst (λ v. has (set table.used t true) v ≡ true) (sym e) (get_or-set_same table.used t true false (omega (arith, h, now.wide.used))))
      (λ (ne : u ≡ t → ⊥). get_or-set_other table.used t u true false ne ∙ now.known u some)
      (cases_eq u t);
  counted = now.counted;
}

-- ---- Fates

-- a number that no live task has is used
pub leg_tasks-used : (table : Table) (members : List ℕ) (t : ℕ) → IsCounted table members → t < 65536 → slot table t ≡ None → leg_tasks (record table { used = set table.used t true }) ≡ (λ u. if nat_eq u t then Dead else leg_tasks table u)
leg_tasks-used table members t now h none =
    fun_ext (λ u.
    ⊎_elim
    (λ (e : u ≡ t).
    subst (λ v. leg_tasks (record table { used = set table.used t true }) v ≡ Dead) (sym e) (ap₂ fate_at none (get_or-set_same table.used t true false (omega (arith, h, now.wide.used))))
    ∙ sym (cond-true (nat_eq u t) Dead (leg_tasks table u) (eq-eqb u t e)))
    (λ (ne : u ≡ t → ⊥).
    ap (fate_at (slot table u)) (get_or-set_other table.used t u true false ne)
    ∙ sym (cond-false (nat_eq u t) Dead (leg_tasks table u) (ne_eqb u t ne)))
    (cases_eq u t))

-- the task of a number that has a live task
pub group-there : (table : Table) (t group : ℕ) → option_map (λ x. x.group) (slot table t) ≡ Some group → (x : LegTask) × (slot table t ≡ Some x) × (x.group ≡ group)
group-there table t group h = at (slot table t) refl h
  where
    at : (o : Option LegTask) → slot table t ≡ o → option_map (λ x. x.group) o ≡ Some group → (x : LegTask) × (slot table t ≡ Some x) × (x.group ≡ group)
    at None e is = absurd (cc)
    at (Some x) e is = (x, e, cc)

-- no group has more members than there are numbers
pub counted-few : (table : Table) (members : List ℕ) (group : ℕ) → IsCounted table members → group < 65536 → get_or members group 0 ≤ 65536
counted-few table members group now within = omega (arith, now.counted group within, count_by-le-length (is_in group) table.slots, now.wide.slots)
