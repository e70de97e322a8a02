-- Marks of lines, one by one.
use Rattle.std.proofs.Common.{◌≡◌, ℕ, suc, ◌<◌, List, length, map, drop, set, get_or, Option, Some, None, is_some, true, false, length-set, get_or-set_same, get_or-set_other, sym, ap, subst, ◌∙◌, ⊎_elim, arith}
use Rattle.std.proofs.lemmas.Bool.{cases_eq}
use Rattle.std.proofs.lemmas.List.{get_or_default}
use Rattle.std.proofs.Math.Seq.{drop-cons}
use Rattle.lp_model.specs.Rules.{Rules}
use Rattle.lp_definitions.specs.Leg.{Leg}
use Rattle.lp_definitions.specs.Tasks.{first_of}
use Rattle.lp_definitions.specs.declared.line.Line.{Line}
use Rattle.lp_definitions.specs.declared.cert_fault.CertFault.{CertFault}
use Rattle.lp_checker.specs.declared.marks.Mark.{Mark}
use Rattle.lp_checker.specs.declared.marks.Mark.TheVariants.{Sound}
use Rattle.lp_checker.specs.inside.Marks.{IsMarked, AreMarked}
use Rattle.lp_definitions.specs.Judgement.{Section, line_test}
use Rattle.lp_laws.proofs.FirstBad.{first_none, first_some}

module _ (model : Rules) (leg : Leg) (section : Section) (lines : List Line) where
  -- one line's mark is put
  pub marks_with : (marks : List Mark) (i : ℕ) (d : Line) (mark : Mark) → i < length lines → IsMarked model leg section (get_or lines i d) mark → AreMarked model leg section lines marks → AreMarked model leg section lines (set marks i mark)
  marks_with marks i d mark lt is marked = record {
    all = length-set marks i mark ∙ marked.all;
    each = λ j less line other.
        ⊎_elim
        (λ (e : j ≡ i).
        let here : get_or lines i d ≡ get_or lines j line = get_or_default lines i d line lt ∙ ap (λ k. get_or lines k line) (sym e) in
        let put : mark ≡ get_or (set marks i mark) j other = sym (ap (λ k. get_or (set marks i mark) k other) e ∙ get_or-set_same marks i mark other (let all = marked.all in omega (arith, lt, all))) in
        subst (λ m. IsMarked model leg section (get_or lines j line) m) put (subst (λ l. IsMarked model leg section l mark) here is))
        (λ (ne : j ≡ i → ⊥). subst (λ m. IsMarked model leg section (get_or lines j line) m) (sym (get_or-set_other marks i j mark other ne)) (marked.each j less line other))
        (cases_eq j i);
  }

  -- a line with no fault is passed over
  pub passes_sound : (marks : List Mark) (i : ℕ) (d : Line) (e : Mark) → i < length lines → get_or marks i e ≡ Sound → AreMarked model leg section lines marks → first_of (map (line_test model leg section) (drop i lines)) ≡ first_of (map (line_test model leg section) (drop (suc i) lines))
  passes_sound marks i d e lt is marked =
      let none : line_test model leg section (get_or lines i d) ≡ None = subst (λ m. IsMarked model leg section (get_or lines i d) m) is (marked.each i lt d e) in
      ap (λ (ls : List Line). first_of (map (line_test model leg section) ls)) (drop-cons lines i d lt)
      ∙ first_none (line_test model leg section (get_or lines i d)) (map (line_test model leg section) (drop (suc i) lines)) none

-- the first line at fault, where the lines before it have none
pub line_here : (test : Line → Option CertFault) (lines : List Line) (i : ℕ) (d : Line) (fault : Option CertFault) → i < length lines → fault ≡ test (get_or lines i d) → true ≡ is_some fault → first_of (map test (drop i lines)) ≡ fault
line_here test lines i d (Some fault) lt e some = ap (λ (ls : List Line). first_of (map test ls)) (drop-cons lines i d lt) ∙ first_some (test (get_or lines i d)) (map test (drop (suc i) lines)) fault (sym e)
line_here test lines i d None lt e some = absurd (cc)

pub line_passed : (test : Line → Option CertFault) (lines : List Line) (i : ℕ) (d : Line) (fault : Option CertFault) → i < length lines → fault ≡ test (get_or lines i d) → false ≡ is_some fault → first_of (map test (drop i lines)) ≡ first_of (map test (drop (suc i) lines))
line_passed test lines i d (Some fault) lt e none = absurd (cc)
line_passed test lines i d None lt e none = ap (λ (ls : List Line). first_of (map test ls)) (drop-cons lines i d lt) ∙ first_none (test (get_or lines i d)) (map test (drop (suc i) lines)) (sym e)
