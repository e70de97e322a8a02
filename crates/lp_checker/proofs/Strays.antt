-- The groups of a certificate's lines are gone through line by line.
use Rattle.std.proofs.Common.{◌≡◌, ℕ, Bool, true, false, not, ◌||◌, ◌⊎◌, inl, inr, suc, drop, List, [], ◌∷◌, nat_eq, refl, ap, ◌∙◌}
use Rattle.std.specs.List.{list_any}
use Rattle.std.proofs.lemmas.Bool.{ne_eqb}
use Rattle.lp_stack.specs.declared.number.GroupId.{GroupId}
use Rattle.lp_stack.specs.declared.number.TaskId.{TaskId}
use Rattle.lp_model.specs.Rules.{Rules}
use Rattle.lp_definitions.specs.Leg.{Leg}
use Rattle.lp_definitions.specs.declared.line.Line.{Line}
use Rattle.lp_definitions.specs.declared.line.Line.TheVariants.{Hold, Busy as OnCpu, Born}
use Rattle.lp_definitions.specs.Judgement.{Birth, births, first_lines, group_of, has_stray, moment_of, sections}

-- a line names another group than its section's, the first section being that of a group
abbrev pub strays : ℕ → List Line → Bool
strays group [] = false
strays group (Hold g task serial from to ∷ more) = not (nat_eq g.0 group) || strays group more
strays group (OnCpu g task at ∷ more) = not (nat_eq g.0 group) || strays group more
strays group (Born g parent at ∷ more) = strays g.0 more

-- a line here that is of another group
pub stray_here : (lines : List Line) (i section : ℕ) (g : GroupId) (line : Line) → drop i lines ≡ line ∷ drop (suc i) lines
    → ((task : TaskId) × (serial : ℕ) × (from : ℕ) × (to : ℕ) × (line ≡ Hold g task serial from to)) ⊎ ((task : TaskId) × (at : ℕ) × (line ≡ OnCpu g task at)) → (g.0 ≡ section → ⊥)
    → strays section (drop i lines) ≡ true
stray_here lines i section g line here (inl h) ne =
    ap (strays section) (here ∙ ap (λ (l : Line). l ∷ drop (suc i) lines) h.4) ∙ (rw (ne_eqb g.0 section ne) refl)
stray_here lines i section g line here (inr h) ne =
    ap (strays section) (here ∙ ap (λ (l : Line). l ∷ drop (suc i) lines) h.2) ∙ (rw (ne_eqb g.0 section ne) refl)

or_three : (a b c : Bool) → ((a || b) || c) ≡ (a || (b || c))
or_three true b c = refl
or_three false b c = refl

module _ (model : Rules) (leg : Leg) (last : ℕ) where
  one_line : (group begin : ℕ) (line : Line) (lines : List Line) (rest : List Birth) → list_any (has_stray model leg) (sections model leg last group begin (line ∷ lines) rest) ≡ (not (nat_eq (group_of line) group) || list_any (has_stray model leg) (sections model leg last group begin lines rest))
  one_line group begin line lines [] = or_three (not (nat_eq (group_of line) group)) (list_any (λ (l : Line). not (nat_eq (group_of l) group)) lines) false
  one_line group begin line lines (birth ∷ more) =
      or_three (not (nat_eq (group_of line) group)) (list_any (λ (l : Line). not (nat_eq (group_of l) group)) lines) (list_any (has_stray model leg) (sections model leg last birth.group (moment_of model leg birth.at) birth.lines more))

  pub strays_are : (group begin : ℕ) (lines : List Line) → list_any (has_stray model leg) (sections model leg last group begin (first_lines lines) (births lines)) ≡ strays group lines
  strays_are group begin [] = refl
  strays_are group begin (Hold g task serial from to ∷ more) =
      one_line group begin (Hold g task serial from to) (first_lines more) (births more) ∙ ap (λ b. not (nat_eq g.0 group) || b) (strays_are group begin more)
  strays_are group begin (OnCpu g task at ∷ more) =
      one_line group begin (OnCpu g task at) (first_lines more) (births more) ∙ ap (λ b. not (nat_eq g.0 group) || b) (strays_are group begin more)
  strays_are group begin (Born g parent at ∷ more) = strays_are g.0 (moment_of model leg at) more
