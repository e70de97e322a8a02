-- Own checks in the kernel: whom they blame, and the lines of a group whose only member is refused by its own.
use Rattle.std.proofs.Common.{◌≡◌, ◌≢◌, ℕ, zero, suc, ◌+◌, ◌<◌, ◌≤◌, Bool, true, false, List, ◌∷◌, length, map, Option, Some, None, if◌then◌else◌, nat_eq, refl, sym, ap, ap₂, subst, ◌∙◌, ⊎_elim, arith}
use Rattle.std.specs.List.{range_with_len}
use Rattle.std.specs.Option.{option_map}
use Rattle.std.proofs.lemmas.Bool.{cond-true, cond-false, eq-eqb, eqb-true, eqb-false, cases_eq}
use Rattle.lp_stack.specs.declared.number.GroupId.{GroupId}
use Rattle.lp_numbers.specs.Numbers.{Numbers, has}
use Rattle.lp_model.specs.declared.check.Blame.{Blame}
use Rattle.lp_model.specs.declared.check.CheckKind.{CheckKind}
use Rattle.lp_model.specs.Rules.{Rules}
use Rattle.lp_definitions.specs.Tasks.{Fate, Unused, Live, Dead, on_live, first_of}
use Rattle.lp_definitions.specs.Leg.{LegTask, State, is_alone}
use Rattle.lp_definitions.specs.Sound.{IsSound}
use Rattle.lp_machine.specs.Machine.{outlines_of, view_of}
use Rattle.lp_machine.proofs.Alone.{alone-other}
use Rattle.lp_transition.specs.Blames.{blame_in, first_blamed_in}
use Rattle.lp_definitions.specs.declared.line.Line.{Line}
use Rattle.lp_definitions.specs.Certificates.{group_id, after_refusal}
use Rattle.lp_cert.specs.declared.head.Head.{Head}
use Rattle.lp_cert.specs.declared.ongoing.Ongoing.{Ongoing}
use Rattle.lp_cert.specs.declared.ongoing.Ongoing.TheVariants.{Nothing, Hold, Busy}
use Rattle.lp_cert.specs.declared.head.Refused.{Refused}
use Rattle.lp_cert.specs.Heads.{head_lines}
use Rattle.lp_cert.specs.Waiters.{LegReasons, WaitingGroups, head_of}
use Rattle.lp_cert.specs.inside.Heads.{HasFrameAs, IsHead, IsRefusedAlone}
use Rattle.lp_cert.specs.inside.Waiters.{StandsAt, lines_at, lines_in}
use Rattle.lp_cert.proofs.HoldNames.{first_at}
use Rattle.lp_cert.proofs.WaiterLemmas.{head_kept, lines_kept}

-- ---- The first that is blamed

abbrev told : (ℕ → Option Blame) → ℕ → Option (ℕ × Blame)
told at t = option_map (λ why. (t, why)) (at t)

none_head : (t : ℕ) (o : Option Blame) (rest : List (Option (ℕ × Blame))) → first_of {A = ℕ × Blame} (option_map (λ why. (t, why)) o ∷ rest) ≡ None → (o ≡ None) × (first_of rest ≡ None)
none_head t None rest e = (refl, e)
none_head t (Some b) rest e = absurd (cc)

-- where none of some numbers is blamed, this one isn't
none_at : (at : ℕ → Option Blame) (n start t : ℕ) → first_of {A = ℕ × Blame} (map (told at) (range_with_len start n)) ≡ None → start ≤ t → t < start + n → at t ≡ None
none_at at zero start t e low high = absurd (omega (arith, low, high))
none_at at (suc n) start t e low high =
    let parts = none_head start (at start) (map (told at) (range_with_len (start + 1) n)) e in
    ⊎_elim
    (λ (same : t ≡ start). ap at same ∙ parts.0)
    (λ (ne : t ≡ start → ⊥). none_at at n (start + 1) t parts.1 (omega (arith, low, ne)) (omega (arith, high)))
    (cases_eq t start)

none_some : {A : Type 0} (a : A) → None ≡ Some a → ⊥
none_some a e = absurd (cc)

-- of the only live member of a group a check finds what it finds of the group
module _ (model : Rules) (s : State) (sound : IsSound s) (kind : CheckKind) (t : ℕ) (x : LegTask) (live : s.tasks t ≡ Live x) (g : ℕ) (mine : x.group ≡ g) (alone : is_alone s.bounds (outlines_of s.tasks) g t ≡ true) where
  abbrev at : ℕ → Option Blame
  at u = blame_in model s kind g u

  abbrev asked : ℕ → Fate LegTask → Option Blame
  asked u fate = on_live None (λ y. if nat_eq y.group g then model.blame kind (view_of u y) s.aim else None) fate

  mine_at : at t ≡ model.blame kind (view_of t x) s.aim
  mine_at = ap (asked t) live ∙ cond-true (nat_eq x.group g) _ None (eq-eqb x.group g mine)

  other_at : (u : ℕ) → u ≢ t → at u ≡ None
  other_at u ne = by (s.tasks u) refl
    where
      member : (y : LegTask) → s.tasks u ≡ Live y → (b : Bool) → nat_eq y.group g ≡ b → asked u (Live y) ≡ None
      member y is false other = cond-false (nat_eq y.group g) (model.blame kind (view_of u y) s.aim) None other
      member y is true own =
          let range = sound.numbered u y is in
          absurd (ne (alone-other s.bounds s.tasks g t x live mine alone u y range.0 range.1 is (eqb-true y.group g own)))

      by : (fate : Fate LegTask) → s.tasks u ≡ fate → at u ≡ None
      by Unused is = ap (asked u) is
      by Dead is = ap (asked u) is
      by (Live y) is = ap (asked u) is ∙ member y is (nat_eq y.group g) refl

  pub lone_blamed : first_blamed_in model s kind g ≡ option_map (λ why. (t, why)) (model.blame kind (view_of t x) s.aim)
  lone_blamed = by (first_blamed_in model s kind g) refl ∙ ap (option_map (λ why. (t, why))) mine_at
    where
      by : (first : Option (ℕ × Blame)) → first_blamed_in model s kind g ≡ first → first_blamed_in model s kind g ≡ option_map (λ why. (t, why)) (at t)
      by None e =
          let range = sound.numbered t x live in
          let none : at t ≡ None = none_at at s.bounds.tasks 1 t e (omega (arith, range.0)) (omega (arith, range.1)) in
          e ∙ sym (ap (option_map (λ why. (t, why))) none)
      by (Some blamed) e =
          let found : at blamed.0 ≡ Some blamed.1 = first_at at blamed 1 s.bounds.tasks e in
          ⊎_elim
          (λ (same : blamed.0 ≡ t).
          e ∙ (ap (λ (k : ℕ). Some (k, blamed.1)) same ∙ sym (ap (option_map (λ why. (t, why))) (ap at (sym same) ∙ found))))
          (λ (ne : blamed.0 ≡ t → ⊥). absurd (none_some blamed.1 (sym (other_at blamed.0 ne) ∙ found)))
          (cases_eq blamed.0 t)

-- ---- The groups that wait

-- what is said of a hold's frame is so of some frames
pub as_said : (ongoing : Ongoing) (stands : Bool) → HasFrameAs (λ task serial. stands) ongoing stands
as_said Nothing stands = tt
as_said (Hold task serial from last) stands = refl
as_said (Busy task first) stands = tt

module _ (has_frame : (task serial : ℕ) → Bool) (group : GroupId) (refused : Refused) (groups : Numbers) (old new : LegReasons)
    (stand : (g : ℕ) → has groups g ≡ true → StandsAt (length old.scans) old g)
    (waits : has groups group.0 ≡ true)
    (alone : IsRefusedAlone refused group old.scans (head_of old group.0) (head_of new group.0) old.lists new.lists)
    (rest : (other : ℕ) → other ≢ group.0 → head_of new other ≡ head_of old other)
    (scans : new.scans ≡ old.scans)
    (as_told : HasFrameAs has_frame (head_of old group.0).ongoing refused.frame_stands) where
  abbrev before : WaitingGroups
  before = record { groups = groups; reasons = old }

  abbrev later : WaitingGroups
  later = record { groups = groups; reasons = new }

  abbrev next : ℕ → List Line → List Line
  next g ls = after_refusal has_frame g refused.at (refused.task.0, refused.blame) ls

  own_lines : lines_in new group.0 ≡ next group.0 (lines_in old group.0)
  own_lines =
      ap (λ xs. head_lines new.lists xs group (head_of new group.0)) scans
      ∙ alone.lines has_frame as_told

  mine : lines_at later group.0 ≡ option_map (next group.0) (lines_at before group.0)
  mine =
      cond-true (has groups group.0) (Some (lines_in new group.0)) None waits
      ∙ (ap {A = List Line} {B = Option (List Line)} Some own_lines
      ∙ ap (option_map (next group.0)) (sym (cond-true (has groups group.0) (Some (lines_in old group.0)) None waits)))

  other_lines : (g : ℕ) → g ≢ group.0 → has groups g ≡ true → lines_in new g ≡ lines_in old g
  other_lines g ne there =
      ap₂ (λ xs (h : Head). head_lines new.lists xs (group_id g) h) scans (rest g ne)
      ∙ lines_kept old.lists new.lists old.scans (group_id g) (head_of old g) alone.kept (stand g there).known

  other : (g : ℕ) → g ≢ group.0 → (b : Bool) → has groups g ≡ b → lines_at later g ≡ lines_at before g
  other g ne true there =
      cond-true (has groups g) (Some (lines_in new g)) None there
      ∙ (ap {A = List Line} {B = Option (List Line)} Some (other_lines g ne there)
      ∙ sym (cond-true (has groups g) (Some (lines_in old g)) None there))
  other g ne false out = cond-false (has groups g) (Some (lines_in new g)) None out ∙ sym (cond-false (has groups g) (Some (lines_in old g)) None out)

  pub alone_lines : (g : ℕ) → lines_at later g ≡ (if nat_eq g group.0 then option_map (next g) (lines_at before g) else lines_at before g)
  alone_lines g = by (nat_eq g group.0) refl
    where
      by : (b : Bool) → nat_eq g group.0 ≡ b → lines_at later g ≡ (if nat_eq g group.0 then option_map (next g) (lines_at before g) else lines_at before g)
      by true e =
          subst (λ k. lines_at later k ≡ option_map (next k) (lines_at before k)) (sym (eqb-true g group.0 e)) mine
          ∙ sym (cond-true (nat_eq g group.0) _ (lines_at before g) e)
      by false e = other g (eqb-false g group.0 e) (has groups g) refl ∙ sym (cond-false (nat_eq g group.0) (option_map (next g) (lines_at before g)) _ e)

  pub alone_stand : (g : ℕ) → has groups g ≡ true → StandsAt (length new.scans) new g
  alone_stand g there = by (nat_eq g group.0) refl
    where
      by : (b : Bool) → nat_eq g group.0 ≡ b → StandsAt (length new.scans) new g
      by true e =
          subst (λ (xs : List ℕ). StandsAt (length xs) new g) (sym scans)
          (subst (λ k. StandsAt (length old.scans) new k) (sym (eqb-true g group.0 e)) alone.stands)
      by false e =
          subst (λ (xs : List ℕ). StandsAt (length xs) new g) (sym scans)
          (subst (λ (h : Head). IsHead new.lists (length old.scans) h) (sym (rest g (eqb-false g group.0 e))) (head_kept old.lists new.lists (length old.scans) (head_of old g) alone.kept (stand g there)))
