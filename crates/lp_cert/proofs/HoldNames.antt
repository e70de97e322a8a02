-- Whom a group's newest line names: where it is a hold, a member of the group.
use Rattle.std.proofs.Common.{◌≡◌, ◌≢◌, ℕ, zero, suc, ◌+◌, Bool, true, false, ◌&&◌, List, [], ◌∷◌, ◌++◌, length, map, Option, Some, None, if◌then◌else◌, nat_eq, refl, sym, ap, subst, ◌∙◌, arith}
use Rattle.std.specs.List.{range_with_len}
use Rattle.std.specs.Option.{option_map}
use Rattle.std.proofs.lemmas.Bool.{cond-true, cond-false, eqb-true}
use Rattle.lp_model.specs.declared.check.CheckKind.{CheckKind}
use Rattle.lp_model.specs.declared.check.Blame.{Blame}
use Rattle.lp_model.specs.declared.check.Blame.TheVariants as blame
use Rattle.lp_model.specs.Rules.{Rules}
use Rattle.lp_definitions.specs.declared.event.Event.{Event}
use Rattle.lp_definitions.specs.declared.event.Event.TheVariants.{Fork}
use Rattle.lp_definitions.specs.Tasks.{Life, Fate, Unused, Live, Dead, map_live, on_live, first_of}
use Rattle.lp_definitions.specs.Leg.{LegTask, State, Leg, after, accepted, check}
use Rattle.lp_definitions.specs.Schedule.{leg_task, view, first_check}
use Rattle.lp_definitions.specs.Run.{shown}
use Rattle.lp_machine.specs.Machine.{state_of}
use Rattle.lp_laws.proofs.NextTasks.{Came, Stayed, Born, came, changed_group, unused_before}
use Rattle.lp_definitions.specs.declared.line.Line.{Line}
use Rattle.lp_definitions.specs.declared.line.Line.TheVariants as line
use Rattle.lp_definitions.specs.Certificates.{after_check, after_refusal, refusal_line, birth_line, with_birth, has_frame, member_blame, first_blamed, lines}

-- of numbers of which the first is blamed so, some is
pub first_at : (at : ℕ → Option Blame) (blamed : ℕ × Blame) (a n : ℕ) → first_of {A = ℕ × Blame} (map (λ u. option_map (λ b. (u, b)) (at u)) (range_with_len a n)) ≡ Some blamed → at blamed.0 ≡ Some blamed.1
first_at at blamed a zero first = absurd (none_some blamed first)
  where
    none_some : {A : Type 0} (a : A) → None ≡ Some a → ⊥
    none_some a e = absurd (cc)
first_at at blamed a (suc n) first = by (first_at at blamed (a + 1) n) (at a) refl
  where
    rest : List (Option (ℕ × Blame))
    rest = map (λ k. option_map (λ b. (k, b)) (at k)) (range_with_len (a + 1) n)

    by : (first_of {A = ℕ × Blame} rest ≡ Some blamed → at blamed.0 ≡ Some blamed.1) → (o : Option Blame) → at a ≡ o → at blamed.0 ≡ Some blamed.1
    by later (Some b) e =
        let is : Some (a, b) ≡ Some blamed = sym (ap (λ p. first_of {A = ℕ × Blame} (option_map (λ c. (a, c)) p ∷ rest)) e) ∙ first in
        let same : (a, b) ≡ blamed = cc in
        ap at (sym (ap (λ (p : ℕ × Blame). p.0) same)) ∙ (e ∙ ap (λ (p : ℕ × Blame). Some p.1) same)
    by later None e = later (sym (ap (λ p. first_of {A = ℕ × Blame} (option_map (λ c. (a, c)) p ∷ rest)) e) ∙ first)

none_some : {A : Type 0} (a : A) → None ≡ Some a → ⊥
none_some a e = absurd (cc)

-- the task that a newest line names that is a hold is a member of the group, if it lives
abbrev pub NamesMember : State → (group : ℕ) → List Line → Type 0
NamesMember s group (line.Hold g task serial from to ∷ older) = (x : LegTask) → s.tasks task.0 ≡ Live x → x.group ≡ group
NamesMember s group _ = Unit {0}

module _ (model : Rules) (leg : Leg) where
  -- a number that was used, by a member of the group if it lives
  record IsNamed (k g t : ℕ) : Type 0 where
    used : after model leg k t ≢ Unused
    member : (x : Life) → after model leg k t ≡ Live x → x.group ≡ g

  named_later : (k g t : ℕ) → IsNamed k g t → IsNamed (suc k) g t
  named_later k g t is = record {
    used = λ e. is.used (unused_before model.child_group leg k (suc k) t (omega arith) e);
    member = λ x live. by x (came model.child_group leg k t x live);
  }
    where
      by : (x : Life) → Came model.child_group leg.bounds k (after model leg k) (accepted model leg k) t x → x.group ≡ g
      by x (Stayed y c live told) = ap (λ z. z.group) told ∙ (changed_group k c y ∙ is.member y live)
      by x (Born p how y e live unused positive within told) = absurd (is.used unused)

  abbrev Names : (k g : ℕ) → List Line → Type 0
  Names k g (line.Hold h task serial from to ∷ older) = IsNamed k g task.0
  Names k g _ = Unit {0}

  names_later : (k g : ℕ) (ls : List Line) → Names k g ls → Names (suc k) g ls
  names_later k g [] h = tt
  names_later k g (line.Hold h2 task serial from to ∷ older) h = named_later k g task.0 h
  names_later k g (line.Busy h2 task at ∷ older) h = tt
  names_later k g (line.Born h2 p at ∷ older) h = tt

  -- the first member that is refused is one
  blamed_named : (on : Option CheckKind) (k g : ℕ) (blamed : ℕ × Blame) → first_blamed model leg on k g ≡ Some blamed → IsNamed k g blamed.0
  blamed_named None k g blamed first = absurd (none_some blamed first)
  blamed_named (Some on) k g blamed first = at (after model leg k blamed.0) refl
    where
      asked : Fate Life → Option Blame
      asked fate = on_live None (λ x. if nat_eq x.group g then model.blame on (view leg (first_check model leg) blamed.0 x) leg.aim else None) fate

      told : asked (after model leg k blamed.0) ≡ Some blamed.1
      told = first_at (member_blame model leg on k g) blamed 1 leg.bounds.tasks first

      live_unused : (x : Life) → Live x ≡ Unused → ⊥
      live_unused x e = absurd (cc)

      live_live : (x y : Life) → Live x ≡ Live y → x ≡ y
      live_live x y e = cc

      by : (x : Life) → after model leg k blamed.0 ≡ Live x → (mine : Bool) → nat_eq x.group g ≡ mine → IsNamed k g blamed.0
      by x is true mine = record {
        used = λ e. live_unused x (sym is ∙ e);
        member = λ y live. ap (λ z. z.group) (sym (live_live x y (sym is ∙ live))) ∙ eqb-true x.group g mine;
      }
      by x is false mine =
          absurd (none_some blamed.1 (sym (cond-false (nat_eq x.group g) (model.blame on (view leg (first_check model leg) blamed.0 x) leg.aim) None mine) ∙ (sym (ap asked is) ∙ told)))

      at : (fate : Fate Life) → after model leg k blamed.0 ≡ fate → IsNamed k g blamed.0
      at Unused is = absurd (none_some blamed.1 (sym (ap asked is) ∙ told))
      at Dead is = absurd (none_some blamed.1 (sym (ap asked is) ∙ told))
      at (Live x) is = by x is (nat_eq x.group g) refl

  names_refused : (has : (task serial : ℕ) → Bool) (k g at : ℕ) (blamed : ℕ × Blame) → IsNamed k g blamed.0 → (ls : List Line) → Names k g ls → Names k g (after_refusal has g at blamed ls)
  names_refused has k g at blamed named ls h = by ls h
    where
      fresh : (b : ℕ × Blame) → IsNamed k g b.0 → (rest : List Line) → Names k g rest → Names k g (refusal_line g at b ++ rest)
      fresh (t, blame.Frame serial) is rest before = is
      fresh (t, blame.Busy) is rest before = tt
      fresh (t, blame.Unused) is rest before = before

      by : (rest : List Line) → Names k g rest → Names k g (after_refusal has g at blamed rest)
      by [] before = fresh blamed named [] before
      by (line.Busy h2 task on ∷ older) before = fresh blamed named (line.Busy h2 task on ∷ older) before
      by (line.Born h2 p on ∷ older) before = fresh blamed named (line.Born h2 p on ∷ older) before
      by (line.Hold h2 task serial from to ∷ older) before = held (has task.0 serial) refl
        where
          held : (b : Bool) → has task.0 serial ≡ b → Names k g (after_refusal has g at blamed (line.Hold h2 task serial from to ∷ older))
          held true e = subst (Names k g) (sym (cond-true (has task.0 serial) (line.Hold h2 task serial from at ∷ older) (refusal_line g at blamed ++ line.Hold h2 task serial from to ∷ older) e)) before
          held false e =
              subst (Names k g) (sym (cond-false (has task.0 serial) (line.Hold h2 task serial from at ∷ older) (refusal_line g at blamed ++ line.Hold h2 task serial from to ∷ older) e))
              (fresh blamed named (line.Hold h2 task serial from to ∷ older) before)

  names_checked : (has : (task serial : ℕ) → Bool) (k g at : ℕ) (o : Option (ℕ × Blame)) → ((blamed : ℕ × Blame) → o ≡ Some blamed → IsNamed k g blamed.0) → (ls : List Line) → Names k g ls → Names k g (after_check has g at o ls)
  names_checked has k g at None named ls h = h
  names_checked has k g at (Some blamed) named ls h = names_refused has k g at blamed (named blamed refl) ls h

  names_born : (k g : ℕ) (o : Option Event) (before : ℕ → List Line) → Names k g (before g) → Names k g (with_birth model leg k g o before)
  names_born k g (Some (Fork p c how)) before h = by (nat_eq g c.0 && nat_eq g (model.child_group parents c.0 how)) refl
    where
      parents : ℕ
      parents = on_live 0 (λ x. x.group) (after model leg k p.0)

      by : (b : Bool) → (nat_eq g c.0 && nat_eq g (model.child_group parents c.0 how)) ≡ b → Names k g (with_birth model leg k g (Some (Fork p c how)) before)
      by true e = subst (Names k g) (sym (cond-true (nat_eq g c.0 && nat_eq g (model.child_group parents c.0 how)) (birth_line g p (leg.number + suc k) ∷ before parents) (before g) e)) tt
      by false e = subst (Names k g) (sym (cond-false (nat_eq g c.0 && nat_eq g (model.child_group parents c.0 how)) (birth_line g p (leg.number + suc k) ∷ before parents) (before g) e)) h
  names_born k g _ before h = h

  names : (k g : ℕ) → Names k g (lines model leg k g)
  unfolding lines
  names zero g = tt
  names (suc k) g =
      names_checked (has_frame model leg (suc k)) (suc k) g (leg.number + suc k) (first_blamed model leg (check model leg k g) (suc k) g)
      (λ blamed first. blamed_named (check model leg k g) (suc k) g blamed first)
      (with_birth model leg k g (accepted model leg k) (lines model leg k))
      (names_later k g (with_birth model leg k g (accepted model leg k) (lines model leg k)) (names_born k g (accepted model leg k) (lines model leg k) (names k g)))

  -- the lines of a leg name so
  pub lines_name : (g : ℕ) → NamesMember (state_of model leg) g (lines model leg (length leg.events) g)
  unfolding shown
  lines_name g = by (lines model leg (length leg.events) g) (names (length leg.events) g)
    where
      live_of : (fate : Fate Life) (x : LegTask) → map_live (leg_task leg (first_check model leg) (length leg.events)) fate ≡ Live x → (y : Life) × (fate ≡ Live y) × (y.group ≡ x.group)
      live_of Unused x e = absurd (cc)
      live_of Dead x e = absurd (cc)
      live_of (Live y) x e = let same : leg_task leg (first_check model leg) (length leg.events) y ≡ x = cc in (y, refl, ap (λ z. z.group) same)

      shown_of : (t : ℕ) (x : LegTask) → shown model leg t ≡ Live x → (y : Life) × (after model leg (length leg.events) t ≡ Live y) × (y.group ≡ x.group)
      shown_of t x e = live_of (after model leg (length leg.events) t) x e

      by : (ls : List Line) → Names (length leg.events) g ls → NamesMember (state_of model leg) g ls
      by [] h = tt
      by (line.Hold h2 task serial from to ∷ older) h = λ x live.
          let w = shown_of task.0 x live in
          sym w.2 ∙ h.member w.0 w.1
      by (line.Busy h2 task at ∷ older) h = tt
      by (line.Born h2 p at ∷ older) h = tt
