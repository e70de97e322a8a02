-- The sections are made line by line.
use Rattle.std.proofs.Common.{◌≡◌, ℕ, zero, suc, ◌+◌, ◌-◌, ◌<◌, ◌≤◌, List, [], ◌∷◌, ◌++◌, length, map, take, drop, slice_range, append_assoc, append-nil, drop-drop, refl, sym, ap, ap₂, subst, ◌∙◌, arith}
use Rattle.std.proofs.lemmas.List.{map-append}
use Rattle.lp_stack.specs.declared.number.GroupId.{GroupId}
use Rattle.lp_stack.specs.declared.number.TaskId.{TaskId}
use Rattle.lp_model.specs.Rules.{Rules}
use Rattle.lp_definitions.specs.Leg.{Leg}
use Rattle.lp_definitions.specs.declared.line.Line.{Line}
use Rattle.lp_definitions.specs.declared.line.Line.TheVariants.{Hold, Busy as OnCpu, Born}
use Rattle.lp_checker.specs.declared.sections.Section.{Section as Part}
use Rattle.lp_definitions.specs.Judgement.{Birth, Section, births, first_lines, sections}
use Rattle.lp_checker.specs.inside.Sections.{section_of, AreInOrder, FollowOn}

-- what is in order ends no later than the last moment
pub ends_in_time : (leg : Leg) (last begin : ℕ) (rest : List Birth) → AreInOrder leg last begin rest → begin ≤ last
ends_in_time leg last begin [] h = h
ends_in_time leg last begin (birth ∷ more) h = let later = ends_in_time leg last (birth.at - leg.number) more h.1 in omega (arith, later, h.0)

-- one element more
take_more : {A : Type 0} (n : ℕ) (xs more : List A) (x : A) → drop n xs ≡ x ∷ more → take (suc n) xs ≡ take n xs ++ x ∷ []
take_more zero [] more x e = absurd (cc)
take_more zero (y ∷ ys) more x e = let same : y ≡ x = cc in ap (λ z. z ∷ []) same
take_more (suc n) [] more x e = absurd (cc)
take_more (suc n) (y ∷ ys) more x e = ap (λ zs. y ∷ zs) (take_more n ys more x e)

range_more : {A : Type 0} (xs more : List A) (i j : ℕ) (x : A) → i ≤ j → drop j xs ≡ x ∷ more → slice_range xs i (suc j) ≡ slice_range xs i j ++ x ∷ []
range_more xs more i j x le e =
    let n : suc j - i ≡ suc (j - i) = omega (arith, le) in
    let m : i + (j - i) ≡ j = omega (arith, le) in
    ap (λ k. take k (drop i xs)) n ∙ take_more (j - i) (drop i xs) more x (drop-drop (j - i) i xs ∙ ap (λ k. drop k xs) m ∙ e)

range_none : {A : Type 0} (xs : List A) (i : ℕ) → slice_range xs i i ≡ []
range_none xs i = let none : i - i ≡ 0 = omega arith in ap (λ k. take k (drop i xs)) none

module _ (leg : Leg) (lines : List Line) (last first : ℕ) where
  -- the lines of the section that is open, before line i and from there on
  abbrev lines_on : ℕ → ℕ → List Line
  lines_on start i = slice_range lines start i ++ first_lines (drop i lines)

  -- after the first i lines: these parts, and one of this group that is open
  pub record Made (i : ℕ) (parts : List Part) (group begin start : ℕ) : Type 0 where
    pub rest : (model : Rules) → sections model leg last first 0 (first_lines lines) (births lines) ≡ map (section_of lines) parts ++ sections model leg last group begin (lines_on start i) (births (drop i lines))
    pub times : (more : List Part) → FollowOn (length lines) last begin more → FollowOn (length lines) last 0 (parts ++ more)
    pub order : AreInOrder leg last begin (births (drop i lines))
    pub started : start ≤ i

  pub none_made : AreInOrder leg last 0 (births lines) → Made 0 [] first 0 0
  none_made order = record { rest = λ model. refl; times = λ more h. h; order = order; started = omega arith }

  -- a line of the section
  passes : (i : ℕ) (parts : List Part) (group begin start : ℕ) (line : Line) → drop i lines ≡ line ∷ drop (suc i) lines → births (line ∷ drop (suc i) lines) ≡ births (drop (suc i) lines) → first_lines (line ∷ drop (suc i) lines) ≡ line ∷ first_lines (drop (suc i) lines) → Made i parts group begin start → Made (suc i) parts group begin start
  passes i parts group begin start line here same_births longer made =
      let births_on = ap births here ∙ same_births in
      let on : lines_on start i ≡ lines_on start (suc i) =
      ap (λ ls. slice_range lines start i ++ ls) (ap first_lines here ∙ longer)
      ∙ sym (append_assoc (slice_range lines start i) (line ∷ []) (first_lines (drop (suc i) lines)))
      ∙ ap (λ ls. ls ++ first_lines (drop (suc i) lines)) (sym (range_more lines (drop (suc i) lines) start i line made.started here)) in
      record {
        rest = λ model. made.rest model ∙ ap₂ (λ ls bs. map (section_of lines) parts ++ sections model leg last group begin ls bs) on births_on;
        times = made.times;
        order = subst (AreInOrder leg last begin) births_on made.order;
        started = let le = made.started in omega (arith, le);
      }

  pub passes_other : (i : ℕ) (parts : List Part) (group begin start : ℕ) (line : Line) → drop i lines ≡ line ∷ drop (suc i) lines → ((g : GroupId) (p : TaskId) (at : ℕ) → line ≡ Born g p at → ⊥) → Made i parts group begin start → Made (suc i) parts group begin start
  passes_other i parts group begin start (Hold g t serial from to) here other made = passes i parts group begin start (Hold g t serial from to) here refl refl made
  passes_other i parts group begin start (OnCpu g t at) here other made = passes i parts group begin start (OnCpu g t at) here refl refl made
  passes_other i parts group begin start (Born g p at) here other made = absurd (other g p at refl)

  -- a birth
  pub begins : (i : ℕ) (parts : List Part) (group begin start : ℕ) (born : GroupId) (parent : TaskId) (at : ℕ) (part : Part) → drop i lines ≡ Born born parent at ∷ drop (suc i) lines → i < length lines
      → part.group.0 ≡ group → part.begin ≡ begin → part.until ≡ at - leg.number → part.start ≡ start → part.end ≡ i
      → Made i parts group begin start → Made (suc i) (parts ++ part ∷ []) born.0 (at - leg.number) (suc i)
  begins i parts group begin start born parent at part here within same_group same_begin same_until same_start same_end made =
      let m : ℕ = at - leg.number in
      let after_it = births (drop (suc i) lines) in
      let kept : List Section = map (section_of lines) parts in
      let order : AreInOrder leg last begin (births (Born born parent at ∷ drop (suc i) lines)) = subst (λ ls. AreInOrder leg last begin (births ls)) here made.order in
      let ended : Section = record { group = group; begin = begin; until = m; lines = slice_range lines start i } in
      let is_part : ended ≡ section_of lines part = rw (same_group, same_begin, same_until, same_start, same_end) refl in
      record {
        rest = λ model.
            made.rest model
            ∙ ap (λ (ls : List Line). kept ++ sections model leg last group begin (slice_range lines start i ++ first_lines ls) (births ls)) here
            ∙ ap (λ (ls : List Line). let s : Section = record { group = group; begin = begin; until = m; lines = ls } in kept ++ s ∷ sections model leg last born.0 m (first_lines (drop (suc i) lines)) after_it) (append-nil (slice_range lines start i))
            ∙ ap (λ (s : Section). kept ++ s ∷ sections model leg last born.0 m (first_lines (drop (suc i) lines)) after_it) is_part
            ∙ ap (λ (ls : List Line). kept ++ section_of lines part ∷ sections model leg last born.0 m (ls ++ first_lines (drop (suc i) lines)) after_it) (sym (range_none lines (suc i)))
            ∙ sym (append_assoc kept (section_of lines part ∷ []) (sections model leg last born.0 m (lines_on (suc i) (suc i)) after_it))
            ∙ ap (λ (ss : List Section). ss ++ sections model leg last born.0 m (lines_on (suc i) (suc i)) after_it) (sym (map-append (section_of lines) parts (part ∷ [])));
        times = λ more h.
            let in_time = ends_in_time leg last m after_it order.1 in
            let le = made.started in
            subst (FollowOn (length lines) last 0) (sym (append_assoc parts (part ∷ []) more)) (made.times (part ∷ more) (same_begin, omega (arith, order.0, same_until), omega (arith, in_time, same_until), omega (arith, le, same_start, same_end), omega (arith, within, same_end), subst (λ n. FollowOn (length lines) last n more) (sym same_until) h));
        order = order.1;
        started = omega arith;
      }

  module _ (i : ℕ) (parts : List Part) (group begin start : ℕ) (part : Part) (end : drop i lines ≡ []) (all : i ≡ length lines) (made : Made i parts group begin start)
      (same_group : part.group.0 ≡ group) (same_begin : part.begin ≡ begin) (same_until : part.until ≡ last) (same_start : part.start ≡ start) (same_end : part.end ≡ i) where
    -- all lines are gone through
    pub all_made : (model : Rules) → map (section_of lines) (parts ++ part ∷ []) ≡ sections model leg last first 0 (first_lines lines) (births lines)
    all_made model =
        let kept : List Section = map (section_of lines) parts in
        let ended : Section = record { group = group; begin = begin; until = last; lines = slice_range lines start i } in
        let is_part : ended ≡ section_of lines part = rw (same_group, same_begin, same_until, same_start, same_end) refl in
        sym (
        made.rest model
        ∙ ap (λ (ls : List Line). kept ++ sections model leg last group begin (slice_range lines start i ++ first_lines ls) (births ls)) end
        ∙ ap (λ (ls : List Line). let s : Section = record { group = group; begin = begin; until = last; lines = ls } in kept ++ s ∷ []) (append-nil (slice_range lines start i))
        ∙ ap (λ (s : Section). kept ++ s ∷ []) is_part
        ∙ sym (map-append (section_of lines) parts (part ∷ [])))

    pub all_follow : FollowOn (length lines) last 0 (parts ++ part ∷ [])
    all_follow =
        let in_time = ends_in_time leg last begin (births (drop i lines)) made.order in
        let le = made.started in
        made.times (part ∷ []) (same_begin, omega (arith, in_time, same_until), omega (arith, same_until), omega (arith, le, same_start, same_end), omega (arith, all, same_end), omega (arith, same_until))
