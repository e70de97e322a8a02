-- An own check: where a task leaves the kernel, at its idle point, or where it would let another run.
use Rattle.std.proofs.Common.{◌≡◌, ◌≢◌, ◌<◌, ◌≤◌, ℕ, Bool, true, false, not, ◌&&◌, ◌||◌, Some, None, IsTrue, nat_eq, refl, sym, ap, ap₂, ◌∙◌, subst, ◌⊎◌, ⊎_elim, inl, inr}
use Rattle.std.proofs.lemmas.Bool.{cases_Bool, eq-eqb, ne_eqb, eqb-true, cond-true, cond-false, and_parts, or_left, or_right}
use Rattle.std.specs.Bool.{one_answer}
use mathlib.Core.Path.{fun_ext}
use Rattle.lp_model.specs.Rules.{Rules, IsLawful}
use Rattle.lp_model.specs.declared.check.CheckKind.{CheckKind}
use Rattle.lp_definitions.specs.declared.event.Event.{Event}
use Rattle.lp_definitions.specs.Tasks.{Fate, Unused, Live, Dead, Bounds, on_live, map_live, change}
use Rattle.lp_definitions.specs.Leg.{LegTask, State, each_live, some_live, each_task, some_task, is_alone, check_by, when, if_used}
use Rattle.lp_machine.specs.Machine.{LegTasks, outlines_of, outline_of, view_of, waits_in, admits_all, switches_at}
use Rattle.lp_machine.proofs.EngineLemmas.{and-false}
use Rattle.lp_definitions.proofs.Quantifiers.{each_live-at, each_live-from}

-- ---- A change of one task that keeps its level and its group

module _ (t : ℕ) (f : LegTask → LegTask) (levels : (x : LegTask) → (f x).level ≡ x.level) (groups : (x : LegTask) → (f x).group ≡ x.group) where
  -- what is said of levels and groups alone is said of the task still
  same-changed : {B : Type 0} (other : B) (test : ℕ → ℕ → B) (fate : Fate LegTask) → on_live other (λ x. test x.level x.group) (map_live f fate) ≡ on_live other (λ x. test x.level x.group) fate
  same-changed other test Unused = refl
  same-changed other test (Live x) = ap₂ test (levels x) (groups x)
  same-changed other test Dead = refl

  pub same-after : {B : Type 0} (other : B) (test : ℕ → ℕ → ℕ → B) (now : LegTasks) (u : ℕ) → on_live other (λ x. test u x.level x.group) (change t f now u) ≡ on_live other (λ x. test u x.level x.group) (now u)
  same-after other test now u =
      ⊎_elim
      (λ (e : nat_eq u t ≡ true). ap (on_live other (λ x. test u x.level x.group)) (cond-true _ _ _ e) ∙ same-changed other (test u) (now u))
      (λ (e : nat_eq u t ≡ false). ap (on_live other (λ x. test u x.level x.group)) (cond-false _ _ _ e))
      (cases_Bool (nat_eq u t))

  -- who waits goes on waiting
  pub waits-same : (bounds : Bounds) (target group : ℕ) (now : LegTasks) → some_live bounds (change t f now) (λ u x. nat_eq x.group group && not (nat_eq x.level target)) ≡ some_live bounds now (λ u x. nat_eq x.group group && not (nat_eq x.level target))
  unfolding some_live
  waits-same bounds target group now = ap (some_task bounds.tasks) (fun_ext (λ u. same-after false (λ v level g. nat_eq g group && not (nat_eq level target)) now u))

  -- who is alone stays so
  in_outline : (test : ℕ → Bool) (other : Bool) (fate : Fate LegTask) → on_live other (λ x. test x.group) (map_live outline_of fate) ≡ on_live other (λ x. test x.group) fate
  in_outline test other Unused = refl
  in_outline test other (Live x) = refl
  in_outline test other Dead = refl

  outlined : (test : ℕ → ℕ → Bool) (other : Bool) (now : LegTasks) (u : ℕ) → on_live other (λ x. test u x.group) (outlines_of (change t f now) u) ≡ on_live other (λ x. test u x.group) (outlines_of now u)
  outlined test other now u =
      in_outline (test u) other (change t f now u) ∙ same-after other (λ v level g. test v g) now u ∙ sym (in_outline (test u) other (now u))

  pub alone-same : (bounds : Bounds) (group : ℕ) (now : LegTasks) → is_alone bounds (outlines_of (change t f now)) group t ≡ is_alone bounds (outlines_of now) group t
  unfolding each_live
  alone-same bounds group now =
      ap₂ (λ a b. a && b) (outlined (λ u g. nat_eq g group) false now t) (ap (each_task bounds.tasks) (fun_ext (λ u. outlined (λ v g. not (nat_eq g group) || nat_eq v t) true now u)))

-- ---- Who is asked where a task is alone

or_second : (a b : Bool) → a ≡ true → IsTrue (not a || b) → b ≡ true
or_second true b e h = h
or_second false b e h = cc

module _ (bounds : Bounds) (now : LegTasks) (group t : ℕ) (x : LegTask) (live : now t ≡ Live x) (mine : x.group ≡ group) (alone : IsTrue (is_alone bounds (outlines_of now) group t)) where
  -- no other live task is in the group
  pub alone-other : (u : ℕ) (y : LegTask) → 0 < u → u ≤ bounds.tasks → now u ≡ Live y → y.group ≡ group → u ≡ t
  alone-other u y positive within there same =
      let all = (and_parts (on_live false (λ x. nat_eq x.group group) (outlines_of now t)) _ alone).1 in
      let one = each_live-at bounds (outlines_of now) (λ other x. not (nat_eq x.group group) || nat_eq other t) all u (outline_of y) positive within (ap (map_live outline_of) there) in
      eqb-true u t (or_second (nat_eq y.group group) (nat_eq u t) (eq-eqb y.group group same) one)

  live_same : (u : ℕ) (y : LegTask) → now u ≡ Live y → u ≡ t → x ≡ y
  live_same u y there e = let same : Live x ≡ Live y = sym live ∙ subst (λ v. now v ≡ Live y) e there in cc

  -- so it alone is asked
  pub alone-asked : (admits : ℕ → LegTask → Bool) → 0 < t → t ≤ bounds.tasks → each_live bounds now (λ u y. not (nat_eq y.group group) || admits u y) ≡ admits t x
  alone-asked admits positive within =
      one_answer (each_live bounds now (λ u y. not (nat_eq y.group group) || admits u y)) (admits t x) (
        (λ all. or_second (nat_eq x.group group) (admits t x) (eq-eqb x.group group mine) (each_live-at bounds now (λ u y. not (nat_eq y.group group) || admits u y) all t x positive within live)),
        (λ admitted. each_live-from bounds now (λ u y. not (nat_eq y.group group) || admits u y) (λ u y p w there. asked u y p w there admitted (cases_Bool (nat_eq y.group group)))),
      )
      ((λ e. e), (λ e. e))
    where
      asked : (u : ℕ) (y : LegTask) → 0 < u → u ≤ bounds.tasks → now u ≡ Live y → admits t x ≡ true → (nat_eq y.group group ≡ true) ⊎ (nat_eq y.group group ≡ false) → IsTrue (not (nat_eq y.group group) || admits u y)
      asked u y p w there admitted (inl e) =
          let same = alone-other u y p w there (eqb-true _ _ e) in
          or_right (not (nat_eq y.group group)) (admits u y) (ap₂ admits same (sym (live_same u y there same)) ∙ admitted)
      asked u y p w there admitted (inr e) = or_left (not (nat_eq y.group group)) (admits u y) (ap not e)

-- ---- The check

-- an event that is a check, of this kind, of the group of a task that is alone in it, and of no other
abbrev pub ChecksAlone : Bounds → LegTasks → Event → ℕ → CheckKind → Type 0
ChecksAlone bounds now event t kind = (group : ℕ) → check_by bounds (outlines_of now) (Some event) group ≡ when (is_alone bounds (outlines_of now) group t) kind

module _ (model : Rules) (lawful : IsLawful model) (now : State) (event : Event) (t : ℕ) (kind : CheckKind) (x : LegTask) (checks : ChecksAlone now.bounds now.tasks event t kind) (live : now.tasks t ≡ Live x) (positive : 0 < t) (within : t ≤ now.bounds.tasks) where
  -- a group of which the task isn't the only live member stays
  pub alone-stays : (group : ℕ) → is_alone now.bounds (outlines_of now.tasks) group t ≡ false → switches_at model now event group ≡ false
  unfolding switches_at
  alone-stays group crowd =
      let none : if_used model.uses (check_by now.bounds (outlines_of now.tasks) (Some event) group) ≡ None = ap (if_used model.uses) (checks group ∙ ap (λ b. when b kind) crowd) in
      ap (λ o. waits_in now group && admits_all model now o group) none ∙ and-false (waits_in now group)

  -- so does every group but the task's own
  pub other-stays : (group : ℕ) → x.group ≢ group → switches_at model now event group ≡ false
  other-stays group ne =
      alone-stays group (ap (λ b. b && each_live now.bounds (outlines_of now.tasks) (λ other y. not (nat_eq y.group group) || nat_eq other t)) (ap (λ f. on_live false (λ y. nat_eq y.group group) (map_live outline_of f)) live ∙ ne_eqb x.group group ne))

  -- a group that doesn't wait stays
  pub quiet-stays : (group : ℕ) → waits_in now group ≡ false → switches_at model now event group ≡ false
  unfolding switches_at
  quiet-stays group quiet = ap (λ b. b && admits_all model now (if_used model.uses (check_by now.bounds (outlines_of now.tasks) (Some event) group)) group) quiet

  -- a waiting group of the task alone switches where the model admits the task
  pub alone-switches : IsTrue (waits_in now x.group) → IsTrue (is_alone now.bounds (outlines_of now.tasks) x.group t) → switches_at model now event x.group ≡ model.admits kind (view_of t x) now.aim
  unfolding switches_at
  alone-switches it_waits alone =
      ap (λ b. b && admits_all model now (if_used model.uses (check_by now.bounds (outlines_of now.tasks) (Some event) x.group)) x.group) it_waits
      ∙ ap (λ o. admits_all model now (if_used model.uses o) x.group) (checks x.group ∙ ap (λ b. when b kind) alone)
      ∙ by (model.uses kind) refl
    where
      asked : admits_all model now (Some kind) x.group ≡ model.admits kind (view_of t x) now.aim
      asked = alone-asked now.bounds now.tasks x.group t x live refl alone (λ u y. model.admits kind (view_of u y) now.aim) positive within

      by : (b : Bool) → model.uses kind ≡ b → admits_all model now (when b kind) x.group ≡ model.admits kind (view_of t x) now.aim
      by true used = asked
      by false unused = sym (not_admitted (model.admits kind (view_of t x) now.aim) refl)
        where
          not_admitted : (b : Bool) → model.admits kind (view_of t x) now.aim ≡ b → model.admits kind (view_of t x) now.aim ≡ false
          not_admitted true e = let u = lawful.unused kind (view_of t x) now.aim e in absurd (cc)
          not_admitted false e = e
