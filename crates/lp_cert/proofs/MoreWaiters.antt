-- The groups that wait, as births, openings and switches come.
use Rattle.std.proofs.Common.{◌≡◌, ◌≢◌, ℕ, ◌<◌, ◌≤◌, Bool, true, false, List, [], ◌∷◌, ◌++◌, length, set, Option, Some, None, if◌then◌else◌, nat_eq, refl, sym, ap, ap₂, subst, ◌∙◌, arith, ◌⊎◌, inl, inr, ◌||◌, IfSome, IsTrue, map}
use Rattle.std.specs.List.{AllByRecursion, filter, list_any}
use Rattle.std.specs.Option.{option_map}
use Rattle.std.proofs.lemmas.Bool.{cases_lt, cond-true, cond-false, eqb-true, eqb-false}
use Rattle.std.proofs.lemmas.List.{get_or-set_same, get_or-set_other, length-set, get_or_past}
use Rattle.lp_stack.specs.declared.number.GroupId.{GroupId}
use Rattle.lp_numbers.specs.Numbers.{Numbers, has}
use Rattle.lp_definitions.specs.Leg.{State}
use Rattle.lp_definitions.specs.declared.line.Line.{Line}
use Rattle.lp_cert.specs.declared.reason.Reason.{Reason}
use Rattle.lp_cert.specs.declared.head.Head.{Head}
use Rattle.lp_cert.specs.declared.head.OwnFork.{OwnFork}
use Rattle.lp_definitions.specs.Certificates.{group_id, birth_line}
use Rattle.lp_cert.specs.Heads.{head_lines, lines_of}
use Rattle.lp_cert.specs.inside.Heads.{IsHead, IsBornBy, IsUsed}
use Rattle.lp_cert.specs.Waiters.{WaitingGroups, LegReasons, no_head, head_of}
use Rattle.lp_cert.specs.inside.Waiters.{lines_in, StandsAt, lines_at, after_birth, after_switch, IsUsedVerdict}
use Rattle.lp_patch.specs.Patches.{Aim}
use Rattle.lp_model.specs.Rules.{Rules, IsLawful}
use Rattle.lp_model.specs.declared.check.CheckKind.{CheckKind}
use Rattle.lp_model.specs.declared.check.Blame.{Blame}
use Rattle.lp_model.specs.declared.check.Blame.TheVariants as blame
use Rattle.lp_stack.specs.TaskView.{TaskView}
use Rattle.lp_transition.specs.Scan.{AreEnough, verdict_of, verdicts_of, views_of}
use Rattle.lp_model.specs.declared.verdict.Verdict.{Verdict}
use Rattle.lp_cert.proofs.WaiterLemmas.{head_kept, lines_kept}

-- ---- A birth

module _ (birth : OwnFork) (parent : GroupId) (groups left : Numbers) (old new : LegReasons)
    (stand : (g : ℕ) → has groups g ≡ true → StandsAt (length old.scans) old g)
    (waits : has groups parent.0 ≡ true)
    (born : IsBornBy birth parent old.scans (head_of old parent.0) (head_of new birth.child.0) old.lists new.lists)
    (rest : (other : ℕ) → other ≢ birth.child.0 → head_of new other ≡ head_of old other)
    (scans : new.scans ≡ old.scans) (left_is : left ≡ set groups birth.child.0 true) (wide : length left ≡ 65536) (few : birth.child.0 < 65536) where
  child_in : has left birth.child.0 ≡ true
  child_in =
      let h : birth.child.0 < length groups = omega (arith, length-set groups birth.child.0 true, ap length left_is) in
      ap (λ (l : Numbers). has l birth.child.0) left_is ∙ get_or-set_same groups birth.child.0 true false h

  child_lines : (g : ℕ) → g ≡ birth.child.0 → lines_in new g ≡ birth_line birth.child.0 birth.parent birth.at ∷ lines_in old parent.0
  child_lines g e = ap (lines_in new) e ∙ (ap (λ xs. head_lines new.lists xs birth.child (head_of new birth.child.0)) scans ∙ born.lines)

  other_in : (g : ℕ) → g ≢ birth.child.0 → has left g ≡ has groups g
  other_in g ne = ap (λ (l : Numbers). has l g) left_is ∙ get_or-set_other groups birth.child.0 g true false ne

  other_lines : (g : ℕ) → g ≢ birth.child.0 → has groups g ≡ true → lines_in new g ≡ lines_in old g
  other_lines g ne there =
      ap₂ (λ xs (h : Head). head_lines new.lists xs (group_id g) h) scans (rest g ne)
      ∙ lines_kept old.lists new.lists old.scans (group_id g) (head_of old g) born.kept (stand g there).known

  by_birth : (g : ℕ) (b : Bool) → nat_eq g birth.child.0 ≡ b → (waits_now : Bool) → has groups g ≡ waits_now
      → lines_at (record { groups = left; reasons = new }) g
      ≡ (if b then option_map (λ ls. birth_line birth.child.0 birth.parent birth.at ∷ ls) (lines_at (record { groups = groups; reasons = old }) parent.0) else (if waits_now then Some (lines_in old g) else None))
  by_birth g true e w there =
      let same : g ≡ birth.child.0 = eqb-true g birth.child.0 e in
      cond-true (has left g) (Some (lines_in new g)) None (ap (has left) same ∙ child_in)
      ∙ (ap {A = List Line} {B = Option (List Line)} Some (child_lines g same)
      ∙ ap (option_map (λ ls. birth_line birth.child.0 birth.parent birth.at ∷ ls)) (sym (cond-true (has groups parent.0) (Some (lines_in old parent.0)) None waits)))
  by_birth g false e true there =
      let ne : g ≢ birth.child.0 = eqb-false g birth.child.0 e in
      cond-true (has left g) (Some (lines_in new g)) None (other_in g ne ∙ there)
      ∙ ap {A = List Line} {B = Option (List Line)} Some (other_lines g ne there)
  by_birth g false e false there = cond-false (has left g) (Some (lines_in new g)) None (other_in g (eqb-false g birth.child.0 e) ∙ there)

  pub birth_lines : (g : ℕ) → lines_at (record { groups = left; reasons = new }) g ≡ after_birth birth parent.0 (lines_at (record { groups = groups; reasons = old })) g
  birth_lines g = by_birth g (nat_eq g birth.child.0) refl (has groups g) refl

  pub birth_stand : (g : ℕ) → has left g ≡ true → StandsAt (length new.scans) new g
  birth_stand g there = by (nat_eq g birth.child.0) refl
    where
      by : (b : Bool) → nat_eq g birth.child.0 ≡ b → StandsAt (length new.scans) new g
      by true e =
          subst (λ (xs : List ℕ). StandsAt (length xs) new g) (sym scans)
          (subst (λ k. StandsAt (length old.scans) new k) (sym (eqb-true g birth.child.0 e)) born.stands)
      by false e =
          let ne : g ≢ birth.child.0 = eqb-false g birth.child.0 e in
          let before = stand g (sym (other_in g ne) ∙ there) in
          subst (λ (xs : List ℕ). StandsAt (length xs) new g) (sym scans)
          (subst (λ (h : Head). IsHead new.lists (length old.scans) h) (sym (rest g ne)) (head_kept old.lists new.lists (length old.scans) (head_of old g) born.kept before))

-- ---- An opening

-- a group without any reason
pub headless_head : (lists : List (List Reason)) (scans : List ℕ) (h : Head) → lists ≡ [] ∷ [] → scans ≡ [] → h ≡ no_head → IsHead lists (length scans) h
headless_head lists scans h one none headless =
    subst (λ ls. IsHead ls (length scans) h) (sym one)
    (subst (λ (xs : List ℕ). IsHead ([] ∷ []) (length xs) h) (sym none)
    (subst (IsHead ([] ∷ []) 0) (sym headless) (record { known = omega arith; fits = tt; continues = tt; fits_older = tt })))

headless_nothing : (g : GroupId) → head_lines ([] ∷ []) [] g no_head ≡ []
unfolding lines_of
headless_nothing g = refl

pub headless_lines : (reasons : LegReasons) (g : ℕ) → reasons.lists ≡ [] ∷ [] → reasons.scans ≡ [] → head_of reasons g ≡ no_head → lines_in reasons g ≡ []
headless_lines reasons g one none headless =
    ap (λ ls. head_lines ls reasons.scans (group_id g) (head_of reasons g)) one
    ∙ (ap (λ xs. head_lines ([] ∷ []) xs (group_id g) (head_of reasons g)) none
    ∙ (ap (head_lines ([] ∷ []) [] (group_id g)) headless ∙ headless_nothing (group_id g)))

pub opened_lines : (groups : Numbers) (reasons : LegReasons) (g : ℕ) (waits : Bool) → has groups g ≡ waits → (has groups g ≡ true → lines_in reasons g ≡ [])
    → lines_at (record { groups = groups; reasons = reasons }) g ≡ (if waits then Some [] else None)
opened_lines groups reasons g true e headless = cond-true (has groups g) (Some (lines_in reasons g)) None e ∙ ap {A = List Line} {B = Option (List Line)} Some (headless e)
opened_lines groups reasons g false e headless = cond-false (has groups g) (Some (lines_in reasons g)) None e

-- ---- Groups that switch

out_of : (groups : Numbers) (n : ℕ) → has (set groups n false) n ≡ false
out_of groups n = by (cases_lt n (length groups))
  where
    by : (n < length groups) ⊎ (length groups ≤ n) → has (set groups n false) n ≡ false
    by (inl within) = get_or-set_same groups n false false within
    by (inr past) = get_or_past (set groups n false) n false (omega (arith, past, length-set groups n false))

left_lines : (old new : WaitingGroups) (n : ℕ) → new.groups ≡ set old.groups n false → new.reasons ≡ old.reasons → (g : ℕ) (b : Bool) → nat_eq g n ≡ b
    → lines_at new g ≡ (if b then None else lines_at old g)
left_lines old new n groups reasons g true e =
    cond-false (has new.groups g) (Some (lines_in new.reasons g)) None (ap₂ (λ (gs : Numbers) k. has gs k) groups (eqb-true g n e) ∙ out_of old.groups n)
left_lines old new n groups reasons g false e =
    ap₂ (λ b ls. if b then Some ls else None) (ap (λ (gs : Numbers). has gs g) groups ∙ get_or-set_other old.groups n g false false (eqb-false g n e)) (ap (λ (r : LegReasons). lines_in r g) reasons)

any-push : (g : ℕ) (xs : List ℕ) (x : ℕ) → list_any (nat_eq g) (xs ++ x ∷ []) ≡ (list_any (nat_eq g) xs || nat_eq g x)
any-push g [] x = or_none (nat_eq g x)
  where
    or_none : (b : Bool) → (b || false) ≡ (false || b)
    or_none true = refl
    or_none false = refl
any-push g (y ∷ xs) x = ap (λ b. nat_eq g y || b) (any-push g xs x) ∙ sym (or_assoc (nat_eq g y) (list_any (nat_eq g) xs) (nat_eq g x))
  where
    or_assoc : (a b c : Bool) → ((a || b) || c) ≡ (a || (b || c))
    or_assoc true b c = refl
    or_assoc false b c = refl

pub one_left : (first old new : WaitingGroups) (gone : List ℕ) (n : ℕ) → ((g : ℕ) → lines_at old g ≡ after_switch gone (lines_at first) g) → new.groups ≡ set old.groups n false → new.reasons ≡ old.reasons
    → (g : ℕ) → lines_at new g ≡ after_switch (gone ++ n ∷ []) (lines_at first) g
one_left first old new gone n so_far groups reasons g =
    left_lines old new n groups reasons g (nat_eq g n) refl
    ∙ (ap (λ ls. if nat_eq g n then None else ls) (so_far g)
    ∙ (both (list_any (nat_eq g) gone) (nat_eq g n)
    ∙ ap (λ b. if b then None else lines_at first g) (sym (any-push g gone n))))
  where
    both : (a b : Bool) → (if b then None else (if a then None else lines_at first g)) ≡ (if a || b then None else lines_at first g)
    both true true = refl
    both true false = refl
    both false true = refl
    both false false = refl

-- ---- Blames of a kind that the model uses

used_blame : (o : Option Blame) → (o ≡ Some blame.Unused → ⊥) → IfSome o IsUsed
used_blame None never = tt
used_blame (Some (blame.Frame serial)) never = tt
used_blame (Some blame.Busy) never = tt
used_blame (Some blame.Unused) never = absurd (never refl)

used_found : (model : Rules) → IsLawful model → (kind : CheckKind) (aim : Aim) → IsTrue (model.uses kind) → (views : List TaskView) → AllByRecursion IsUsedVerdict (map (verdict_of model kind aim) views)
used_found model lawful kind aim used [] = tt
used_found model lawful kind aim used (view ∷ views) =
    (used_blame (model.blame kind view aim) (λ e. let unused = lawful.blames_used kind view aim e in absurd (cc)), used_found model lawful kind aim used views)

pub used_verdicts : (model : Rules) → IsLawful model → (kind : CheckKind) (s : State) → IsTrue (model.uses kind) → AllByRecursion IsUsedVerdict (verdicts_of model kind s)
used_verdicts model lawful kind s used = used_found model lawful kind s.aim used (views_of s)

used_filtered : (p : Verdict → Bool) (vs : List Verdict) → AllByRecursion IsUsedVerdict vs → AllByRecursion IsUsedVerdict (filter p vs)
used_filtered p [] used = tt
used_filtered p (v ∷ vs) used = by (used_filtered p vs used.1) (p v) refl
  where
    by : AllByRecursion IsUsedVerdict (filter p vs) → (b : Bool) → p v ≡ b → AllByRecursion IsUsedVerdict (filter p (v ∷ vs))
    by rest true e = subst (AllByRecursion IsUsedVerdict) (sym (cond-true (p v) (v ∷ filter p vs) (filter p vs) e)) (used.0, rest)
    by rest false e = subst (AllByRecursion IsUsedVerdict) (sym (cond-false (p v) (v ∷ filter p vs) (filter p vs) e)) rest

pub used_enough : (model : Rules) → IsLawful model → (kind : CheckKind) (s : State) (vs : List Verdict) → AreEnough model kind s vs → IsTrue (model.uses kind) → AllByRecursion IsUsedVerdict vs
used_enough model lawful kind s vs enough used =
    subst (AllByRecursion IsUsedVerdict) (sym enough.found) (used_filtered (λ v. enough.looked v.task.0) (verdicts_of model kind s) (used_verdicts model lawful kind s used))
