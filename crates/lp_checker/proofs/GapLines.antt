-- What a place of a section's time has to do with its checks.
use Rattle.std.proofs.Common.{◌≡◌, ℕ, suc, ◌+◌, ◌-◌, ◌<◌, ◌≤◌, Bool, true, false, ◌||◌, List, Option, Some, None, is_none, is_some, nat_le, slice_index, sym, ap, refl, ◌∙◌, arith}
use Rattle.std.proofs.lemmas.Bool.{le-leb, lt-leb, or_right}
use Rattle.std.specs.List.{list_any}
use Rattle.std.specs.Option.{option_map}
use Rattle.lp_model.specs.declared.check.CheckKind.{CheckKind}
use Rattle.lp_model.specs.Rules.{Rules}
use Rattle.lp_definitions.specs.Leg.{Leg, check}
use Rattle.lp_definitions.specs.declared.line.Line.{Line}
use Rattle.lp_definitions.specs.declared.cert_fault.CertFault.TheVariants.{Gap}
use Rattle.lp_checker.specs.declared.sections.Section.{Section as Part}
use Rattle.lp_checker.specs.inside.Sections.{with_lines}
use Rattle.lp_definitions.specs.Judgement.{covers, first_bad, gap_test, is_covered}
use Rattle.lp_laws.proofs.FirstBad.{first_bad_same, bad_within}

pub no_check : (o : Option CheckKind) (b : Bool) → false ≡ is_some o → (is_none o || b) ≡ true
no_check None b e = refl
no_check (Some k) b e = absurd (cc)

pub ends_later : (o : Option CheckKind) (place end : ℕ) → place < end → (is_none o || nat_le (suc place) end) ≡ true
ends_later o place end lt = or_right (is_none o) (nat_le (suc place) end) (le-leb (suc place) end (omega (arith, lt)))

pub ends_before : (o : Option CheckKind) (place end : ℕ) → true ≡ is_some o → end ≤ place → (is_none o || nat_le (suc place) end) ≡ false
ends_before None place end some le = absurd (cc)
ends_before (Some k) place end some le = lt-leb (suc place) end (omega (arith, le))

-- the gap of a section, as the check finds it
module _ (model : Rules) (leg : Leg) (lines : List Line) (part : Part) (ends : List ℕ)
    (covered : (moment : ℕ) → part.begin < moment → moment ≤ part.until → nat_le moment (slice_index ends (moment - part.begin)) ≡ list_any (covers model leg moment) lines)
    (order : part.begin ≤ part.until) where
  abbrev passes : ℕ → Bool
  passes place = is_none (check model leg place part.group.0) || nat_le (suc place) (slice_index ends (suc place - part.begin))

  abbrev pub found : Option ℕ
  found = first_bad (part.until - part.begin) part.begin passes

  found_is : found ≡ first_bad (part.until - part.begin) part.begin (is_covered model leg (with_lines lines part))
  found_is =
      first_bad_same (part.until - part.begin) part.begin passes (is_covered model leg (with_lines lines part)) (λ place low high.
      ap (λ b. is_none (check model leg place part.group.0) || b) (covered (suc place) (omega (arith, low)) (omega (arith, high, order))))

  pub gap_at : (place gap : ℕ) → found ≡ Some place → gap ≡ leg.number + suc place → gap_test model leg (with_lines lines part) ≡ Some (Gap gap)
  gap_at place gap e same = ap (option_map (λ (p : ℕ). Gap (leg.number + suc p))) (sym found_is ∙ e) ∙ ap (λ n. Some (Gap n)) (sym same)

  pub no_gap : found ≡ None → gap_test model leg (with_lines lines part) ≡ None
  no_gap e = ap (option_map (λ (p : ℕ). Gap (leg.number + suc p))) (sym found_is ∙ e)

  pub found_within : (place : ℕ) → found ≡ Some place → place < part.until
  found_within place e = let h = bad_within (part.until - part.begin) part.begin passes place e in omega (arith, h.1, order)
