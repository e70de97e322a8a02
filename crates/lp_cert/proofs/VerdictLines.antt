-- The verdicts of a scan tell whom its line names.
use Rattle.std.proofs.Common.{◌≡◌, ℕ, Bool, true, false, not, ◌&&◌, List, [], ◌∷◌, map, Option, Some, None, IsTrue, if◌then◌else◌, nat_eq, refl, sym, ap, ◌∙◌}
use Rattle.std.specs.List.{range_with_len, filter_map, cons_option}
use Rattle.std.specs.Option.{option_map}
use Rattle.std.proofs.lemmas.Bool.{and_parts, eqb-true, not-true}
use Rattle.lp_model.specs.declared.check.CheckKind.{CheckKind}
use Rattle.lp_model.specs.declared.check.Blame.{Blame}
use Rattle.lp_model.specs.declared.verdict.Verdict.{Verdict}
use Rattle.lp_model.specs.Rules.{Rules}
use Rattle.lp_stack.specs.TaskView.{TaskView}
use Rattle.lp_definitions.specs.Tasks.{Fate, Unused, Live, Dead, on_live, first_of}
use Rattle.lp_definitions.specs.Leg.{LegTask, State}
use Rattle.lp_transition.specs.Scan.{waiting_view, verdict_of, verdicts_of, views_of, member_verdict, first_refused}
use Rattle.lp_machine.specs.Machine.{view_of, waits_in}
use Rattle.lp_definitions.specs.Sound.{IsSound}
use Rattle.lp_definitions.proofs.Quantifiers.{some_live-is}
use Rattle.lp_transition.specs.Blames.{blame_in, first_blamed_in}

module _ (model : Rules) (s : State) (sound : IsSound s) (on : CheckKind) (group : ℕ) (it_waits : IsTrue (waits_in s group)) where
  abbrev looked : ℕ → Option TaskView
  looked t = waiting_view s.target t (s.tasks t)

  abbrev found : List ℕ → List Verdict
  found ts = map (verdict_of model on s.aim) (filter_map looked ts)

  abbrev told : ℕ → Option (ℕ × Blame)
  told t = option_map (λ why. (t, why)) (blame_in model s on group t)

  -- a member of the group is off the target
  member_off : (t : ℕ) (x : LegTask) → s.tasks t ≡ Live x → nat_eq x.group group ≡ true → nat_eq x.level s.target ≡ false
  member_off t x e h =
      let w = some_live-is s.bounds s.tasks (λ u y. nat_eq y.group group && not (nat_eq y.level s.target)) it_waits in
      let both = and_parts (nat_eq w.life.group group) (not (nat_eq w.life.level s.target)) w.passed in
      let one : x.level ≡ w.life.level = sound.one_side t w.task x w.life e w.live (eqb-true _ _ h ∙ sym (eqb-true _ _ both.0)) in
      ap (λ l. nat_eq l s.target) one ∙ not-true (nat_eq w.life.level s.target) both.1

  -- the first that is found, with a task in front of others
  abbrev next : Option TaskView → List ℕ → Option (ℕ × Blame)
  next view ts = first_of (map (member_verdict s group) (map (verdict_of model on s.aim) (cons_option view (filter_map looked ts))))

  refused_member : (t : ℕ) (x : LegTask) (ts : List ℕ) → s.tasks t ≡ Live x → (off : Bool) → nat_eq x.level s.target ≡ off → (member : Bool) → nat_eq x.group group ≡ member
      → next (if nat_eq x.level s.target then None else Some (view_of t x)) ts
      ≡ first_of (option_map (λ why. (t, why)) (if nat_eq x.group group then model.blame on (view_of t x) s.aim else None) ∷ map (member_verdict s group) (found ts))
  refused_member t x ts e true h true m = let never = member_off t x e m in absurd (cc)
  refused_member t x ts e true h false m =
      ap (λ b. next (if b then None else Some (view_of t x)) ts) h
      ∙ sym (ap (λ b. first_of (option_map (λ why. (t, why)) (if b then model.blame on (view_of t x) s.aim else None) ∷ map (member_verdict s group) (found ts))) m)
  refused_member t x ts e false h member m =
      ap (λ b. next (if b then None else Some (view_of t x)) ts) h
      ∙ (ap (λ f. first_of ((if on_live false (λ y. nat_eq y.group group) f then option_map (λ why. (t, why)) (model.blame on (view_of t x) s.aim) else None) ∷ map (member_verdict s group) (found ts))) e
      ∙ by member m)
    where
      by : (b : Bool) → nat_eq x.group group ≡ b
          → first_of {A = ℕ × Blame} ((if nat_eq x.group group then option_map (λ why. (t, why)) (model.blame on (view_of t x) s.aim) else None) ∷ map (member_verdict s group) (found ts))
          ≡ first_of {A = ℕ × Blame} (option_map (λ why. (t, why)) (if nat_eq x.group group then model.blame on (view_of t x) s.aim else None) ∷ map (member_verdict s group) (found ts))
      by true m2 =
          ap (λ c. first_of {A = ℕ × Blame} ((if c then option_map (λ why. (t, why)) (model.blame on (view_of t x) s.aim) else None) ∷ map (member_verdict s group) (found ts))) m2
          ∙ sym (ap (λ c. first_of {A = ℕ × Blame} (option_map (λ why. (t, why)) (if c then model.blame on (view_of t x) s.aim else None) ∷ map (member_verdict s group) (found ts))) m2)
      by false m2 =
          ap (λ c. first_of {A = ℕ × Blame} ((if c then option_map (λ why. (t, why)) (model.blame on (view_of t x) s.aim) else None) ∷ map (member_verdict s group) (found ts))) m2
          ∙ sym (ap (λ c. first_of {A = ℕ × Blame} (option_map (λ why. (t, why)) (if c then model.blame on (view_of t x) s.aim else None) ∷ map (member_verdict s group) (found ts))) m2)

  at_fate : (t : ℕ) (ts : List ℕ) (fate : Fate LegTask) → s.tasks t ≡ fate
      → next (waiting_view s.target t fate) ts
      ≡ first_of (option_map (λ why. (t, why)) (on_live None (λ x. if nat_eq x.group group then model.blame on (view_of t x) s.aim else None) fate) ∷ map (member_verdict s group) (found ts))
  at_fate t ts Unused e = refl
  at_fate t ts (Live x) e = refused_member t x ts e (nat_eq x.level s.target) refl (nat_eq x.group group) refl
  at_fate t ts Dead e = refl

  in_front : (o : Option (ℕ × Blame)) (xs ys : List (Option (ℕ × Blame))) → first_of xs ≡ first_of ys → first_of (o ∷ xs) ≡ first_of (o ∷ ys)
  in_front None xs ys e = e
  in_front (Some blamed) xs ys e = refl

  all_found : (ts : List ℕ) → first_of (map (member_verdict s group) (found ts)) ≡ first_of (map told ts)
  all_found [] = refl
  all_found (t ∷ ts) =
      at_fate t ts (s.tasks t) refl ∙ in_front (told t) (map (member_verdict s group) (found ts)) (map told ts) (all_found ts)

  pub verdicts_tell : first_refused s group (verdicts_of model on s) ≡ first_blamed_in model s on group
  unfolding views_of
  verdicts_tell = all_found (range_with_len 1 s.bounds.tasks)
