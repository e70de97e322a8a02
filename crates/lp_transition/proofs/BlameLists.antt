-- What code makes of a list of standing blames.
use Rattle.std.proofs.Common.{◌≡◌, ℕ, ◌+◌, ◌<◌, ◌≤◌, Bool, true, false, not, ◌&&◌, ◌||◌, List, [], ◌∷◌, ◌++◌, length, map, take, get_or, Option, Some, None, is_some, if◌then◌else◌, nat_eq, refl, sym, ap, ap₂, ◌∙◌, ⊎_elim}
use Rattle.std.proofs.lemmas.Bool.{cond-true, cond-false, cases_eq, eq-eqb, ne_eqb}
use Rattle.std.proofs.lemmas.List.{map_more}
use Rattle.std.specs.List.{list_any}
use Rattle.std.specs.Option.{option_map}
use Rattle.lp_stack.specs.declared.frame.Frame.{Frame}
use Rattle.lp_numbers.specs.Numbers.{Numbers, has}
use Rattle.lp_model.specs.declared.check.Blame.{Blame}
use Rattle.lp_model.specs.declared.verdict.Verdict.{Verdict}
use Rattle.lp_machine.specs.declared.standing_blame.StandingBlame.{StandingBlame}
use Rattle.lp_definitions.specs.Tasks.{first_of}
use Rattle.lp_definitions.specs.Leg.{LegTask}
use Rattle.lp_machine.specs.Table.{Table, slot}
use Rattle.lp_transition.specs.Blames.{or_blame, frame_blame}
use Rattle.lp_tasks.specs.inside.Table.{is_in}
use Rattle.lp_transition.specs.inside.ScanSteps.{is_found}
use Rattle.lp_transition.specs.inside.Blames.{blame_at, frame_there, looked_at, told_of, found_by, IsDecided}

-- ---- A look at a task

module _ (table : Table) (t group : ℕ) (x : LegTask) (b : StandingBlame) (blames : List (Option StandingBlame)) (live : slot table t ≡ Some x) (grouped : group ≡ x.group) (stands : blame_at blames group ≡ Some b) where
  -- the blame of another group, or of this group for another task, stays
  apart : (g : ℕ) (o : Option StandingBlame) → (is_in g (slot table t) ≡ false) → o ≡ looked_at table t g o
  apart g None out = refl
  apart g (Some c) out = sym (ap (λ p. if p && (nat_eq c.task.0 t && not (frame_there (slot table t) c.serial)) then None else Some c) out)

  outside : (g : ℕ) → (g ≡ group → ⊥) → is_in g (slot table t) ≡ false
  outside g ne = ap (is_in g) live ∙ ne_eqb x.group g (λ same. ne (sym (grouped ∙ same)))

  pub looked-there : (list_any (λ (f : Frame). nat_eq f.serial b.serial) x.frames ≡ true) → (g : ℕ) → blame_at blames g ≡ looked_at table t g (blame_at blames g)
  looked-there has_it g =
      ⊎_elim
      (λ (same : g ≡ group).
      let here = ap (blame_at blames) same ∙ stands in
      here ∙ (kept (is_in g (slot table t)) (nat_eq b.task.0 t) ∙ ap (looked_at table t g) (sym here)))
      (λ (ne : g ≡ group → ⊥). apart g (blame_at blames g) (outside g ne))
      (cases_eq g group)
    where
      held : frame_there (slot table t) b.serial ≡ true
      held = ap (λ o. frame_there o b.serial) live ∙ has_it

      kept : (p q : Bool) → Some b ≡ (if p && (q && not (frame_there (slot table t) b.serial)) then None else Some b)
      kept p q = sym (ap (λ r. if p && (q && not r) then None else Some b) held ∙ no p q)
        where
          no : (r s : Bool) → (if r && (s && false) then None else Some b) ≡ Some b
          no true true = refl
          no true false = refl
          no false s = refl

  pub looked-gone : b.task.0 ≡ t → (list_any (λ (f : Frame). nat_eq f.serial b.serial) x.frames ≡ false) → (later : List (Option StandingBlame)) → ((g : ℕ) → blame_at later g ≡ (if nat_eq g group then None else blame_at blames g))
      → (g : ℕ) → blame_at later g ≡ looked_at table t g (blame_at blames g)
  looked-gone named gone later put g =
      ⊎_elim
      (λ (same : g ≡ group).
      let here = ap (blame_at blames) same ∙ stands in
      put g
      ∙ (cond-true (nat_eq g group) None (blame_at blames g) (eq-eqb g group same)
      ∙ (sym (ap (λ p. if p && (nat_eq b.task.0 t && not (frame_there (slot table t) b.serial)) then None else Some b) (ap (is_in g) live ∙ eq-eqb x.group g (sym (same ∙ grouped)))
      ∙ (ap (λ p. if p && not (frame_there (slot table t) b.serial) then None else Some b) (eq-eqb b.task.0 t named)
      ∙ ap (λ p. if not p then None else Some b) (ap (λ o. frame_there o b.serial) live ∙ gone)))
      ∙ ap (looked_at table t g) (sym here))))
      (λ (ne : g ≡ group → ⊥). put g ∙ (cond-false (nat_eq g group) None (blame_at blames g) (ne_eqb g group ne) ∙ apart g (blame_at blames g) (outside g ne)))
      (cases_eq g group)

-- ---- The verdicts of a scan

first_of-push : {A : Type 0} (tests : List (Option A)) (test first : Option A) → first_of tests ≡ first → first_of (tests ++ test ∷ []) ≡ first_of (first ∷ test ∷ [])
first_of-push [] test first e = ap (λ o. first_of (o ∷ test ∷ [])) e
first_of-push (None ∷ tests) test first e = first_of-push tests test first e
first_of-push (Some a ∷ tests) test first e = ap (λ o. first_of (o ∷ test ∷ [])) e

-- one verdict more
pub told_more : (told : Verdict → Option (ℕ × Blame)) (verdicts : List Verdict) (i : ℕ) (d : Verdict) → i < length verdicts → first_of (map told (take (i + 1) verdicts)) ≡ first_of (first_of (map told (take i verdicts)) ∷ told (get_or verdicts i d) ∷ [])
told_more told verdicts i d within =
    ap first_of (map_more told verdicts i d within)
    ∙ first_of-push (map told (take i verdicts)) (told (get_or verdicts i d)) (first_of (map told (take i verdicts))) refl

-- the first that tells anything of the group decides
pub blame_more : (old : Option StandingBlame) (first next : Option (ℕ × Blame)) (decided : Bool) → decided ≡ is_some first → (if decided then or_blame old (frame_blame first) else or_blame (or_blame old (frame_blame first)) (frame_blame next)) ≡ or_blame old (frame_blame (first_of (first ∷ next ∷ [])))
blame_more old (Some told) next decided is = cond-true decided (or_blame old (frame_blame (Some told))) (or_blame (or_blame old (frame_blame (Some told))) (frame_blame next)) is
blame_more None None None decided is = cond-false decided None None is
blame_more None None (Some told) decided is = cond-false decided None (frame_blame (Some told)) is
blame_more (Some b) None None decided is = cond-false decided (Some b) (Some b) is
blame_more (Some b) None (Some told) decided is = cond-false decided (Some b) (Some b) is

pub decided_more : (first next : Option (ℕ × Blame)) (decided : Bool) → decided ≡ is_some first → (decided || is_some next) ≡ is_some (first_of (first ∷ next ∷ []))
decided_more (Some told) next decided is = ap (λ p. p || is_some next) is
decided_more None None decided is = ap (λ p. p || false) is
decided_more None (Some told) decided is = ap (λ p. p || true) is

-- what some verdicts made of the groups' blames
pub record AreDecided (table : Table) (verdicts : List Verdict) (old now : List (Option StandingBlame)) (noted decided : Numbers) : Type 0 where
  pub few : length now ≤ 65536
  pub blames : (group : ℕ) → group < 65536 → blame_at now group ≡ or_blame (blame_at old group) (found_by table group verdicts)
  pub decides : (group : ℕ) → group < 65536 → has decided group ≡ is_some (first_of (map (told_of table group) verdicts))
  pub others : (group : ℕ) → has noted group ≡ false → blame_at now group ≡ None

pub decided_next : (table : Table) (verdicts : List Verdict) (i : ℕ) (d : Verdict) (old now later : List (Option StandingBlame)) (noted more_noted decided more_decided : Numbers) → i < length verdicts → AreDecided table (take i verdicts) old now noted decided
    → IsDecided (λ group. told_of table group (get_or verdicts i d)) now later noted more_noted decided more_decided → AreDecided table (take (i + 1) verdicts) old later more_noted more_decided
decided_next table verdicts i d old now later noted more_noted decided more_decided within so_far is = record {
  few = is.few;
  blames = λ group small.
      let told = told_of table group in
      let first = first_of (map told (take i verdicts)) in
      is.blames group small
      ∙ (ap (λ o. if has decided group then o else or_blame o (frame_blame (told (get_or verdicts i d)))) (so_far.blames group small)
      ∙ (blame_more (blame_at old group) first (told (get_or verdicts i d)) (has decided group) (so_far.decides group small)
      ∙ ap (λ f. or_blame (blame_at old group) (frame_blame f)) (sym (told_more told verdicts i d within))));
  decides = λ group small.
      let told = told_of table group in
      is.decides group small
      ∙ (decided_more (first_of (map told (take i verdicts))) (told (get_or verdicts i d)) (has decided group) (so_far.decides group small)
      ∙ ap is_some (sym (told_more told verdicts i d within)));
  others = is.others so_far.others;
}

-- a verdict that tells anything of a group refuses a member
told_found : (table : Table) (group : ℕ) (v : Verdict) → is_some (told_of table group v) ≡ is_found table true group v
told_found table group v = by (is_in group (slot table v.task.0)) v.blame
  where
    by : (b : Bool) (o : Option Blame) → is_some (if b then option_map {U = ℕ × Blame} (λ why. (v.task.0, why)) o else None) ≡ (is_some o && b)
    by true None = refl
    by true (Some why) = refl
    by false None = refl
    by false (Some why) = refl

first_some : {A : Type 0} (o : Option A) (rest : List (Option A)) → is_some (first_of (o ∷ rest)) ≡ (is_some o || is_some (first_of rest))
first_some None rest = refl
first_some (Some a) rest = refl

pub told_any : (table : Table) (group : ℕ) (vs : List Verdict) → is_some (first_of (map (told_of table group) vs)) ≡ list_any (is_found table true group) vs
told_any table group [] = refl
told_any table group (v ∷ vs) = first_some (told_of table group v) (map (told_of table group) vs) ∙ ap₂ (λ a b. a || b) (told_found table group v) (told_any table group vs)
