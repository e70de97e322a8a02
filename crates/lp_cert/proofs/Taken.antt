-- The groups that begin to wait as a leg opens.
use Rattle.std.proofs.Common.{◌≡◌, ◌≢◌, ℕ, ◌+◌, ◌<◌, ◌≤◌, Bool, true, false, length, set, Option, Some, None, nat_eq, refl, sym, ap, subst, ◌∙◌, arith, ◌⊎◌, inl, inr, not, ◌&&◌}
use Rattle.std.specs.Option.{option_map}
use Rattle.std.proofs.lemmas.Bool.{false≢true, cases_lt, cases_eq, eq-eqb, ne_eqb}
use Rattle.std.proofs.lemmas.List.{get_or-set_same, get_or-set_other}
use Rattle.lp_numbers.specs.Numbers.{Numbers, has, IsEmpty, IsLeastFrom}
use Rattle.lp_definitions.specs.Leg.{LegTask}
use Rattle.lp_definitions.specs.Sound.{IsSound}
use Rattle.lp_machine.specs.Table.{Table, Engine, slot, state_in}
use Rattle.lp_tasks.specs.inside.Table.{is_in, is_off}
use Rattle.lp_definitions.proofs.Quantifiers.{some_live-is, some_live-from}
use Rattle.lp_tasks.proofs.TableLemmas.{slot_from_live, live_from_slot}
use Rattle.lp_cert.specs.Waiters.{LegReasons, no_head, head_of}
use Rattle.lp_cert.specs.inside.Waiters.{is_off_here, has_off, BeginsToWait, Stays, IsTakenIn, AreTakenIn}

-- ---- One group

-- a task that isn't a member isn't off here
not_in : (table : Table) (level group : ℕ) → ((t : ℕ) → is_in group (slot table t) ≡ false) → (t : ℕ) → is_off_here table level group t ≡ false
not_in table level group none t = ap (λ b. b && is_off level (slot table t)) (none t)

off_some : (o : Option LegTask) (level g : ℕ) → (is_in g o && is_off level o) ≡ true → (x : LegTask) × (o ≡ Some x) × ((nat_eq x.group g && not (nat_eq x.level level)) ≡ true)
off_some None level g e = absurd (false≢true e)
off_some (Some x) level g e = (x, refl, e)

-- a member's level tells whether it is off
level_tells : (o : Option LegTask) (level at g : ℕ) (same : Bool) → (is_in g o ≡ true → option_map (λ x. x.level) o ≡ Some at) → nat_eq at level ≡ same → (is_in g o && is_off level o) ≡ (is_in g o && not same)
level_tells None level at g same tells is = refl
level_tells (Some x) level at g same tells is = by (nat_eq x.group g) refl
  where
    by : (b : Bool) → nat_eq x.group g ≡ b → (nat_eq x.group g && not (nat_eq x.level level)) ≡ (nat_eq x.group g && not same)
    by true e =
        let there = tells e in
        let level_is : x.level ≡ at = cc in
        ap (λ l. nat_eq x.group g && not (nat_eq l level)) level_is ∙ ap (λ b. nat_eq x.group g && not b) is
    by false e = ap (λ b. b && not (nat_eq x.level level)) e ∙ ap (λ b. b && not same) (sym e)

pub stays_taken : (table : Table) (level group : ℕ) (groups : Numbers) (reasons : LegReasons) → ((t : ℕ) → is_off_here table level group t ≡ false) → IsTakenIn table level group groups groups reasons reasons
stays_taken table level group groups reasons on = record {
  here = inr (record { on = on; waits = refl; head = refl });
  others = λ other ne. (refl, refl);
  lists = refl;
  scans = refl;
}

-- a group without a live task stays as it was
pub none_taken_in : (table : Table) (level group : ℕ) (groups : Numbers) (reasons : LegReasons) → ((t : ℕ) → is_in group (slot table t) ≡ false) → IsTakenIn table level group groups groups reasons reasons
none_taken_in table level group groups reasons none = stays_taken table level group groups reasons (not_in table level group none)

-- and one whose tasks are on the level
pub on_taken_in : (table : Table) (level at group : ℕ) (groups : Numbers) (reasons : LegReasons) → ((t : ℕ) → is_in group (slot table t) ≡ true → option_map (λ x. x.level) (slot table t) ≡ Some at) → at ≡ level → IsTakenIn table level group groups groups reasons reasons
on_taken_in table level at group groups reasons tells same =
    stays_taken table level group groups reasons (λ t. level_tells (slot table t) level at group true (tells t) (eq-eqb at level same) ∙ and_false (is_in group (slot table t)))
  where
    and_false : (b : Bool) → (b && false) ≡ false
    and_false true = refl
    and_false false = refl

-- one whose tasks are off the level begins to wait
pub off_taken_in : (table : Table) (level at group : ℕ) (groups : Numbers) (old new : LegReasons) → ((t : ℕ) → is_in group (slot table t) ≡ true → option_map (λ x. x.level) (slot table t) ≡ Some at) → (t : ℕ) × (is_in group (slot table t) ≡ true) → at ≢ level
    → length groups ≡ 65536 → group < 65536 → head_of new group ≡ no_head → ((other : ℕ) → other ≢ group → head_of new other ≡ head_of old other) → new.lists ≡ old.lists → new.scans ≡ old.scans → IsTakenIn table level group groups (set groups group true) old new
off_taken_in table level at group groups old new tells member other_level long few headless others lists scans = record {
  here = inl (record {
    task = member.0;
    off = level_tells (slot table member.0) level at group false (tells member.0) (ne_eqb at level other_level) ∙ ap (λ b. b && true) member.1;
    waits = get_or-set_same groups group true false (omega (arith, long));
    headless = headless;
  });
  others = λ other ne. (get_or-set_other groups group other true false ne, others other ne);
  lists = lists;
  scans = scans;
}

-- ---- All groups

pub none_taken : (table : Table) (level : ℕ) (groups : Numbers) (old : LegReasons) → IsEmpty groups → AreTakenIn table level 0 groups old old
none_taken table level groups old none = record {
  all = λ g t below p. absurd (omega arith);
  only = λ g there. absurd (false≢true (sym (none g) ∙ there));
  headless = λ g there. absurd (false≢true (sym (none g) ∙ there));
  lists = refl;
  scans = refl;
}

-- a group that isn't named has no live task
abbrev AreAll : Table → Numbers → Type 0
AreAll table named = (group : ℕ) → has named group ≡ false → (t : ℕ) → is_in group (slot table t) ≡ false

module _ (table : Table) (named : Numbers) (are_all : AreAll table named) (level from n : ℕ) (groups left : Numbers) (old mid new : LegReasons)
    (so_far : AreTakenIn table level from groups old mid) (next : IsLeastFrom (has named) from n) (one : IsTakenIn table level n groups left mid new) where
  taken-here : (t : ℕ) → is_off_here table level n t ≡ true → BeginsToWait table level n left new ⊎ Stays table level n groups left mid new → has left n ≡ true
  taken-here t p (inl begins) = begins.waits
  taken-here t p (inr stays) = absurd (false≢true (sym (stays.on t) ∙ p))

  taken-all : (g t : ℕ) → g < n + 1 → is_off_here table level g t ≡ true → (g ≡ n) ⊎ (g ≢ n) → (g < from) ⊎ (from ≤ g) → has left g ≡ true
  taken-all g t below p (inl same) early = subst (λ k. has left k ≡ true) (sym same) (taken-here t (subst (λ k. is_off_here table level k t ≡ true) same p) one.here)
  taken-all g t below p (inr ne) (inl early) = (one.others g ne).0 ∙ so_far.all g t early p
  taken-all g t below p (inr ne) (inr late) = absurd (false≢true (sym (not_in table level g (are_all g (next.least g late (omega (arith, ne)))) t) ∙ p))

  taken-only : (g : ℕ) → has left g ≡ true → (g ≡ n) ⊎ (g ≢ n) → BeginsToWait table level n left new ⊎ Stays table level n groups left mid new → (task : ℕ) × (is_off_here table level g task ≡ true)
  taken-only g there (inl same) (inl begins) = (begins.task, subst (λ k. is_off_here table level k begins.task ≡ true) (sym same) begins.off)
  taken-only g there (inl same) (inr stays) = so_far.only g (subst (λ k. has groups k ≡ true) (sym same) (sym stays.waits ∙ subst (λ k. has left k ≡ true) same there))
  taken-only g there (inr ne) begun = so_far.only g (sym (one.others g ne).0 ∙ there)

  taken-headless : (g : ℕ) → has left g ≡ true → (g ≡ n) ⊎ (g ≢ n) → BeginsToWait table level n left new ⊎ Stays table level n groups left mid new → head_of new g ≡ no_head
  taken-headless g there (inl same) (inl begins) = subst (λ k. head_of new k ≡ no_head) (sym same) begins.headless
  taken-headless g there (inl same) (inr stays) =
      subst (λ k. head_of new k ≡ no_head) (sym same) (stays.head ∙ so_far.headless n (sym stays.waits ∙ subst (λ k. has left k ≡ true) same there))
  taken-headless g there (inr ne) begun = (one.others g ne).1 ∙ so_far.headless g (sym (one.others g ne).0 ∙ there)

  pub more_taken : AreTakenIn table level (n + 1) left old new
  more_taken = record {
    all = λ g t below p. taken-all g t below p (cases_eq g n) (cases_lt g from);
    only = λ g there. taken-only g there (cases_eq g n) one.here;
    headless = λ g there. taken-headless g there (cases_eq g n) one.here;
    lists = one.lists ∙ so_far.lists;
    scans = one.scans ∙ so_far.scans;
  }

pub all_taken : (table : Table) (named : Numbers) → AreAll table named → (level from bound : ℕ) (groups : Numbers) (old new : LegReasons) → AreTakenIn table level from groups old new → ((g : ℕ) → from ≤ g → has named g ≡ false) → AreTakenIn table level bound groups old new
all_taken table named are_all level from bound groups old new so_far none = record {
  all = λ g t below p. by g t p (cases_lt g from);
  only = so_far.only;
  headless = so_far.headless;
  lists = so_far.lists;
  scans = so_far.scans;
}
  where
    by : (g t : ℕ) → is_off_here table level g t ≡ true → (g < from) ⊎ (from ≤ g) → has groups g ≡ true
    by g t p (inl early) = so_far.all g t early p
    by g t p (inr late) = absurd (false≢true (sym (not_in table level g (are_all g (none g late)) t) ∙ p))

-- no number from the last one on is named
pub unnamed_past : (named : Numbers) (from : ℕ) → ((g : ℕ) → has named g ≡ true → g < 65536) → ((g : ℕ) → from ≤ g → g < 65536 → has named g ≡ false) → (g : ℕ) → from ≤ g → has named g ≡ false
unnamed_past named from few none g late = by (has named g) refl
  where
    by : (b : Bool) → has named g ≡ b → has named g ≡ false
    by true is = absurd (false≢true (sym (none g late (few g is)) ∙ is))
    by false is = is

pub taken_are : (e : Engine) (level : ℕ) (groups : Numbers) (old new : LegReasons) → ((bound : ℕ) → AreTakenIn e.table level bound groups old new) → IsSound (state_in e) → (g : ℕ) → has groups g ≡ has_off (state_in e) level g
taken_are e level groups old new taken sound g = by (has groups g) refl (has_off (state_in e) level g) refl
  where
    test : ℕ → LegTask → Bool
    test t x = nat_eq x.group g && not (nat_eq x.level level)

    there_off : has groups g ≡ true → has_off (state_in e) level g ≡ true
    there_off there =
        let one = (taken 0).only g there in
        let live = off_some (slot e.table one.0) level g one.1 in
        let x = live.0 in
        let is = live_from_slot e.table one.0 x live.1 in
        let range = sound.numbered one.0 x is in
        some_live-from (state_in e).bounds (state_in e).tasks (λ t x. nat_eq x.group g && not (nat_eq x.level level))
        (record { task = one.0; life = x; positive = range.0; within = range.1; live = is; passed = live.2 })

    off_there : has_off (state_in e) level g ≡ true → has groups g ≡ true
    off_there off =
        let w = some_live-is (state_in e).bounds (state_in e).tasks (λ t x. nat_eq x.group g && not (nat_eq x.level level)) off in
        let there : slot e.table w.task ≡ Some w.life = slot_from_live e.table w.task w.life w.live in
        (taken (g + 1)).all g w.task (omega arith) (ap (λ o. is_in g o && is_off level o) there ∙ w.passed)

    by : (a : Bool) → has groups g ≡ a → (b : Bool) → has_off (state_in e) level g ≡ b → has groups g ≡ has_off (state_in e) level g
    by true a true b = a ∙ sym b
    by true a false b = absurd (false≢true (sym b ∙ there_off a))
    by false a true b = absurd (false≢true (sym a ∙ off_there b))
    by false a false b = a ∙ sym b
