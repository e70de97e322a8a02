-- Where an input is divided: after some lines, none of which is `lpcert 1`.
use Rattle.std.proofs.Common.{◌≡◌, ◌<◌, ◌≤◌, ◌+◌, ◌-◌, ℕ, true, false, List, [], ◌∷◌, ◌++◌, length, take, Option, None, Some, refl, sym, ap, ◌∙◌, arith, length-append, append_assoc, codes}
use Rattle.std.specs.Str.{bytes_eq}
use Rattle.std.proofs.lemmas.Bool.{cond-true, cond-false}
use Rattle.std.proofs.lemmas.List.{append-nil}
use Rattle.std.proofs.Math.Seq.{take-append_seam}
use Rattle.lp_text.specs.inside.Cut.{IsCut}
use Rattle.lp_text.specs.Words.{lines, parts}
use Rattle.lp_text.specs.CheckReading.{divided}
use Rattle.lp_text.proofs.Cuts.{parts-some_there}

-- a text continues here after some lines, none of which is `lpcert 1`
pub record IsAt (text : List ℕ) (number : ℕ) (rest : List ℕ) : Type 0 where
  pub prefix : List ℕ
  pub before : List (List ℕ)
  pub split : text ≡ prefix ++ rest
  pub cut : (tail : List ℕ) → lines (prefix ++ tail) ≡ before ++ lines tail
  pub divides : (further : List (List ℕ)) → 0 < length further → divided (before ++ further) ≡ (before ++ (divided further).0, (divided further).1)
  pub count : number ≡ length before + 1
  pub few : number + length rest ≤ 1 + length text

pub at_start : (text : List ℕ) → IsAt text 1 text
at_start text =
    record {
      prefix = [];
      before = [];
      split = refl;
      cut = λ tail. refl;
      divides = λ further some. refl;
      count = refl;
      few = omega arith;
    }

pub other_line : (line : List ℕ) (further : List (List ℕ)) → bytes_eq line (codes "lpcert 1") ≡ false → 0 < length further → divided (line ∷ further) ≡ (line ∷ (divided further).0, (divided further).1)
unfolding divided
other_line line [] e some = absurd (omega arith)
other_line line (next ∷ more) e some = cond-false _ _ _ e

pub the_line : (line : List ℕ) (further : List (List ℕ)) → bytes_eq line (codes "lpcert 1") ≡ true → 0 < length further → divided (line ∷ further) ≡ ([] ∷ [], Some further)
unfolding divided
the_line line [] e some = absurd (omega arith)
the_line line (next ∷ more) e some = cond-true _ _ _ e

no_lines : lines [] ≡ [] ∷ []
unfolding parts
no_lines = refl

module _ (text : List ℕ) (number : ℕ) (rest : List ℕ) (here : IsAt text number rest) (line : List ℕ) where
  divided_here : divided (lines text) ≡ (here.before ++ (divided (lines rest)).0, (divided (lines rest)).1)
  divided_here =
      ap divided (ap lines here.split ∙ here.cut rest) ∙ here.divides (lines rest) (parts-some_there 10 rest)

  -- one line more, which is another
  pub at_next : (more : List ℕ) → IsCut 10 rest line more → bytes_eq line (codes "lpcert 1") ≡ false → IsAt text (number + 1) more
  at_next more is other =
      let prefix = here.prefix in
      let before = here.before in
      let end : List ℕ = line ++ 10 ∷ [] in
      let after : (tail : List ℕ) → (prefix ++ end) ++ tail ≡ prefix ++ (line ++ 10 ∷ tail) = λ tail. append_assoc prefix end tail ∙ ap (λ l. prefix ++ l) (append_assoc line (10 ∷ []) tail) in
      record {
        prefix = prefix ++ end;
        before = before ++ line ∷ [];
        split = here.split ∙ (ap (λ l. prefix ++ l) is.whole ∙ sym (after more));
        cut = λ tail. ap lines (after tail) ∙ (here.cut (line ++ 10 ∷ tail) ∙ (ap (λ l. before ++ l) (is.again tail) ∙ sym (append_assoc before (line ∷ []) (lines tail))));
        divides = λ further some.
            ap divided (append_assoc before (line ∷ []) further)
            ∙ (here.divides (line ∷ further) (omega arith)
            ∙ (ap (λ (d : List (List ℕ) × Option (List (List ℕ))). (before ++ d.0, d.1)) (other_line line further other some)
            ∙ ap (λ (l : List (List ℕ)). (l, (divided further).1)) (sym (append_assoc before (line ∷ []) (divided further).0))));
        count = omega (arith, here.count, length-append before (line ∷ []));
        few = omega (arith, here.few, ap length is.whole, length-append line (10 ∷ more));
      }

  -- the last line
  module _ (cut : lines rest ≡ line ∷ []) where
    last_divided : divided (lines text) ≡ (here.before ++ line ∷ [], None)
    unfolding divided
    last_divided = divided_here ∙ ap (λ l. (here.before ++ (divided l).0, (divided l).1)) cut

    pub last_trace : lines text ≡ (divided (lines text)).0
    last_trace =
        ap lines here.split ∙ (here.cut rest ∙ (ap (λ l. here.before ++ l) cut ∙ sym (ap (λ (d : List (List ℕ) × Option (List (List ℕ))). d.0) last_divided)))

    pub last_line : number ≡ length (divided (lines text)).0
    last_line =
        omega (arith, here.count, length-append here.before (line ∷ []), ap (λ (d : List (List ℕ) × Option (List (List ℕ))). length d.0) last_divided)

    pub last_cert : None ≡ (divided (lines text)).1
    last_cert = sym (ap (λ (d : List (List ℕ) × Option (List (List ℕ))). d.1) last_divided)

  -- the line `lpcert 1`
  module _ (more : List ℕ) (cut : lines rest ≡ line ∷ lines more) (is : bytes_eq line (codes "lpcert 1") ≡ true) where
    found_divided : divided (lines text) ≡ (here.before ++ [] ∷ [], Some (lines more))
    found_divided =
        divided_here
        ∙ (ap (λ l. (here.before ++ (divided l).0, (divided l).1)) cut
        ∙ ap (λ (d : List (List ℕ) × Option (List (List ℕ))). (here.before ++ d.0, d.1)) (the_line line (lines more) is (parts-some_there 10 more)))

    pub found_trace : (trace : List ℕ) → trace ≡ take (length text - length rest) text → lines trace ≡ (divided (lines text)).0
    found_trace trace e =
        let end : length text - length rest ≡ length here.prefix = omega (arith, ap length here.split, length-append here.prefix rest) in
        let prefix : take (length text - length rest) text ≡ here.prefix = ap (λ n. take n text) end ∙ (ap (take (length here.prefix)) here.split ∙ take-append_seam here.prefix rest) in
        ap lines (e ∙ (prefix ∙ sym (append-nil here.prefix)))
        ∙ (here.cut [] ∙ (ap (λ l. here.before ++ l) no_lines ∙ sym (ap (λ (d : List (List ℕ) × Option (List (List ℕ))). d.0) found_divided)))

    pub found_line : number ≡ length (divided (lines text)).0
    found_line =
        omega (arith, here.count, length-append here.before ([] ∷ []), ap (λ (d : List (List ℕ) × Option (List (List ℕ))). length d.0) found_divided)

    pub found_cert : Some (lines more) ≡ (divided (lines text)).1
    found_cert = sym (ap (λ (d : List (List ℕ) × Option (List (List ℕ))). d.1) found_divided)
