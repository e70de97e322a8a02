-- The lines that are left of a certificate.
use Rattle.std.proofs.Common.{◌≡◌, ℕ, ◌+◌, ◌<◌, ◌≤◌, List, [], ◌∷◌, ◌++◌, length, map, reverse, take, drop, Option, Some, None, IfNone, option_to_list, refl, sym, ap, ap₂, subst, ◌∙◌, arith}
use Rattle.std.specs.List.{AllByRecursion, slice_get}
use Rattle.std.proofs.lemmas.Grind.{flat_map-append}
use Rattle.std.proofs.Math.Seq.{take-append_seam}
use Rattle.std.proofs.lemmas.List.{append-nil, append_assoc, reverse-append, length-append, length-drop, length-reverse, length-take-le, length-map}
use Rattle.lp_stack.specs.declared.number.GroupId.{GroupId}
use Rattle.lp_stack.specs.declared.number.TaskId.{TaskId}
use Rattle.lp_definitions.specs.declared.line.Line.{Line}
use Rattle.lp_definitions.specs.declared.line.Line.TheVariants as line
use Rattle.lp_cert.specs.declared.reason.Reason.{Reason}
use Rattle.lp_cert.specs.declared.reason.Reason.TheVariants as reason
use Rattle.lp_cert.specs.Beside.{BeginWith}
use Rattle.lp_cert.specs.Heads.{busy_lines, reason_lines, lines_of}
use Rattle.lp_cert.specs.inside.Chains.{line_count}
use Rattle.lp_cert.specs.inside.Heads.{FitsIn}
use Rattle.lp_cert.proofs.PartLemmas.{all_prefix, all_last}
use Rattle.lp_cert.proofs.WrittenLemmas.{oldest_busy}

-- ---- The first line, and the others

pub first_line : (r : Option Line) (old new : List Line) → old ≡ option_to_list r ++ new → IfNone r (old ≡ []) → r ≡ slice_get old 0
first_line None old new e nothing = ap (λ ls. slice_get ls 0) (sym nothing)
first_line (Some l) old new e nothing = ap (λ ls. slice_get ls 0) (sym e)

pub lines_left : (r : Option Line) (old new : List Line) → old ≡ option_to_list r ++ new → IfNone r (old ≡ []) → new ≡ drop 1 old
lines_left None old new e nothing = sym e ∙ (nothing ∙ ap (drop 1) (sym nothing))
lines_left (Some l) old new e nothing = ap (drop 1) (sym e)

-- ---- Where no line is left of a run

module _ (scans : List ℕ) (run run_new : List Line) (old new : List Reason) (same : run ≡ run_new) (over : run ≡ []) where
  pub all_done : old ≡ new ++ [] → old ≡ [] → (run ++ reverse (lines_of scans old) ≡ []) × (run_new ++ reverse (lines_of scans new) ≡ [])
  unfolding lines_of
  all_done e nothing = (
    ap₂ (λ ls rs. ls ++ reverse (lines_of scans rs)) over nothing,
    ap₂ (λ ls rs. ls ++ reverse (lines_of scans rs)) (sym same ∙ over) (sym (append-nil new) ∙ (sym e ∙ nothing)),
  )

  with_reason : (r : Reason) → old ≡ new ++ r ∷ [] → run ++ reverse (lines_of scans old) ≡ reverse (reason_lines scans r) ++ reverse (lines_of scans new)
  unfolding lines_of
  with_reason r e =
      ap₂ (λ ls rs. ls ++ reverse (lines_of scans rs)) over e
      ∙ (ap reverse (flat_map-append (reason_lines scans) new (r ∷ []) ∙ ap (λ ls. lines_of scans new ++ ls) (append-nil (reason_lines scans r)))
      ∙ reverse-append (lines_of scans new) (reason_lines scans r))

  pub one_line : (r : Reason) (l : Line) → old ≡ new ++ r ∷ [] → r ≡ reason.One l → run ++ reverse (lines_of scans old) ≡ l ∷ (run_new ++ reverse (lines_of scans new))
  one_line r l e is =
      with_reason r e
      ∙ (ap (λ x. reverse (reason_lines scans x) ++ reverse (lines_of scans new)) is
      ∙ ap (λ ls. l ∷ (ls ++ reverse (lines_of scans new))) (sym over ∙ same))

  module _ (r : Reason) (g : GroupId) (t : TaskId) (first end : ℕ) (part : List ℕ) (found : Option Line) (later : List Line)
      (e : old ≡ new ++ r ∷ []) (is : r ≡ reason.Busy g t first end) (is_part : part ≡ drop first (take end scans)) (lines : map (λ at. line.Busy g t at) part ≡ option_to_list found ++ later) where
    pub busy_line : run ++ reverse (lines_of scans old) ≡ option_to_list found ++ (later ++ reverse (lines_of scans new))
    busy_line =
        with_reason r e
        ∙ (ap (λ x. reverse (reason_lines scans x) ++ reverse (lines_of scans new)) is
        ∙ (ap (λ ls. ls ++ reverse (lines_of scans new)) (oldest_busy g t (drop first (take end scans)) ∙ (ap (map (λ at. line.Busy g t at)) (sym is_part) ∙ lines))
        ∙ append_assoc (option_to_list found) later (reverse (lines_of scans new))))

-- ---- Reasons that two lists end with

-- the lines of reasons in front of others come after the lines of those
pub lines_after : (scans : List ℕ) (newer older all : List Reason) → newer ++ older ≡ all → reverse (lines_of scans all) ≡ reverse (lines_of scans older) ++ reverse (lines_of scans newer)
unfolding lines_of
lines_after scans newer older all are =
    ap (λ rs. reverse (lines_of scans rs)) (sym are)
    ∙ (ap reverse (flat_map-append (reason_lines scans) newer older) ∙ reverse-append (lines_of scans newer) (lines_of scans older))

-- all lines are counted
pub lines-count : (scans : List ℕ) (reasons : List Reason) → AllByRecursion (FitsIn (length scans)) reasons → length (lines_of scans reasons) ≡ line_count reasons
unfolding lines_of
lines-count scans [] fits = refl
lines-count scans (reason.One l ∷ reasons) fits =
    let others = lines-count scans reasons fits.1 in
    omega arith
lines-count scans (reason.Busy g t first end ∷ reasons) fits =
    let run : List ℕ = drop first (take end scans) in
    let lines : List Line = busy_lines g t run in
    let others = lines-count scans reasons fits.1 in
    let both : length (lines ++ lines_of scans reasons) ≡ length lines + length (lines_of scans reasons) = length-append lines (lines_of scans reasons) in
    let own : length lines ≡ length (reverse run) = length-map (reverse run) (λ at. line.Busy g t at) in
    omega (arith, both, own, length-reverse run, length-drop first (take end scans), length-take-le end scans fits.0.1)

module _ (scans : List ℕ) (newer older all : List Reason) (are : newer ++ older ≡ all) (fits : AllByRecursion (FitsIn (length scans)) older) where
  -- the lines of the older reasons are among them
  pub no_fewer : line_count older ≤ length (reverse (lines_of scans all))
  no_fewer =
      let both = ap length (lines_after scans newer older all are) in
      omega (arith, both, length-append (reverse (lines_of scans older)) (reverse (lines_of scans newer)), length-reverse (lines_of scans older), lines-count scans older fits)

  -- other lines begin with those of the same older reasons
  pub begin_with : (lines after : List Line) (count : ℕ) → lines ≡ reverse (lines_of scans older) ++ after → count ≡ line_count older → BeginWith lines (reverse (lines_of scans all)) count after
  begin_with lines after count so counted =
      let first : List Line = reverse (lines_of scans older) in
      let size : count ≡ length first = omega (arith, counted, length-reverse (lines_of scans older), lines-count scans older fits) in
      let same : take count (reverse (lines_of scans all)) ≡ first = ap (take count) (lines_after scans newer older all are) ∙ ap (λ n. take n (first ++ reverse (lines_of scans newer))) size ∙ take-append_seam first (reverse (lines_of scans newer)) in
      record {
        within = omega (arith, no_fewer, counted);
        whole = so ∙ ap (λ ls. ls ++ after) (sym same);
      }

-- ---- Reasons that fit the scans

pub busy_fits : (n : ℕ) (rs new : List Reason) (r : Reason) (g : GroupId) (t : TaskId) (first end : ℕ) → rs ≡ new ++ r ∷ [] → r ≡ reason.Busy g t first end
    → AllByRecursion (FitsIn n) rs → (first < end) × (end ≤ n)
busy_fits n rs new r g t first end e is fits = subst (FitsIn n) is (all_last (FitsIn n) new r (subst (AllByRecursion (FitsIn n)) e fits))

pub others_fit : (n : ℕ) (rs new : List Reason) (r : Reason) → rs ≡ new ++ r ∷ [] → AllByRecursion (FitsIn n) rs → AllByRecursion (FitsIn n) new
others_fit n rs new r e fits = all_prefix (FitsIn n) new (r ∷ []) (subst (AllByRecursion (FitsIn n)) e fits)

-- a run has a line
pub run_has : (g : GroupId) (t : TaskId) (scans part : List ℕ) (first end : ℕ) (found : Option Line) (X : Type 0) → part ≡ drop first (take end scans) → (first < end) × (end ≤ length scans)
    → IfNone found (map (λ at. line.Busy g t at) part ≡ []) → IfNone found X
run_has g t scans part first end None X is fits nothing =
    let m = length-map part (λ at. line.Busy g t at) in
    let z = ap length nothing in
    let p = ap length is in
    let d = length-drop first (take end scans) in
    let k = length-take-le end scans fits.1 in
    absurd (omega (arith, fits.0))
run_has g t scans part first end (Some l) X is fits nothing = tt

-- ---- All lines that are left, one after the other

pub first_left : (old new : List Line) (l : Line) → slice_get old 0 ≡ Some l → new ≡ drop 1 old → old ≡ l ∷ new
first_left [] new l e is = absurd (cc)
first_left (x ∷ xs) new l e is = let same : x ≡ l = cc in ap₂ (λ y ys. y ∷ ys) same (sym is)

pub none_are_left : (old : List Line) → slice_get old 0 ≡ None → old ≡ []
none_are_left [] e = refl
none_are_left (x ∷ xs) e = absurd (cc)

-- a line more of all of them
pub line_taken : (all before now old new : List Line) (l : Line) → before ++ old ≡ all → now ≡ before ++ l ∷ [] → old ≡ l ∷ new → now ++ new ≡ all
line_taken all before now old new l is more first = ap (λ ls. ls ++ new) more ∙ (append_assoc before (l ∷ []) new ∙ (ap (λ ls. before ++ ls) (sym first) ∙ is))
