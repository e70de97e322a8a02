-- Parts of one kind, one after another.
use Rattle.std.proofs.Common.{Bor, ◌≡◌, ◌<◌, ◌≤◌, ◌+◌, ◌-◌, ℕ, true, false, List, [], ◌∷◌, ◌++◌, length, map, take, drop, get_or, Result, Ok, Err, add-one, refl, sym, ap, ◌∙◌, arith, subst, append_assoc}
use Rattle.std.proofs.lemmas.List.{append-nil, length-map, length-take-le, map-append, take_all}
use Rattle.std.proofs.Math.ListN.{drop_of_length-le}
use Rattle.std.proofs.Math.Seq.{drop-cons, take-suc}
use Rattle.lp_stack.specs.declared.number.TaskId.{TaskId}
use Rattle.lp_stack.specs.declared.view.Class.{Class}
use Rattle.lp_definitions.specs.declared.event.Event.{Event}
use Rattle.lp_text.specs.declared.form.TraceForm.{TraceForm}
use Rattle.lp_text.specs.declared.of.OfFault.{OfFault}
use Rattle.lp_text.specs.declared.of.OfFault.TheVariants.{Unwritable, NoMemory}
use Rattle.lp_text.specs.Traces.{TraceValue, most_patches, name, patch_lines, patch_words}
use Rattle.lp_text.specs.Reading.{with_line}
use Rattle.std.specs.Prelude.{IsErr, IsErrAnd, slice_index_or, ◌==◌}
use Rattle.std.proofs.lemmas.Bool.{eqb-true}
use Rattle.lp_symbols.specs.declared.sym_id.SymId.{SymId}
use Rattle.lp_text.specs.Build.{spelling_from, asked_patch, asked_patches, IsOfFault, GivesPart}
use Rattle.lp_text.specs.inside.Builders.{IsBuilt}
use Rattle.lp_text.proofs.Folds.{patches_so_far, prefix_of, more_so_far, last_so_far}
use Rattle.lp_text.proofs.Builders.{built_append, built_limits, line_refused, spelling_stops}
use Rattle.lp_text.proofs.Steps.{most_sixteen}
use Rattle.lp_text.proofs.Parts.{before_boots, no_function_line}

pub take_next : {X : Type 0} (xs : List X) (i : ℕ) (d : X) → i < length xs → take (i + 1) xs ≡ take i xs ++ get_or xs i d ∷ []
take_next xs i d below = rw add-one (take-suc xs i d below)

pub append_next : {X : Type 0} (had xs : List X) (i : ℕ) (d : X) → i < length xs → (had ++ take i xs) ++ get_or xs i d ∷ [] ≡ had ++ take (i + 1) xs
append_next had xs i d below = append_assoc had (take i xs) (get_or xs i d ∷ []) ∙ ap (λ l. had ++ l) (sym (take_next xs i d below))

-- what holds where a line before others is at fault
pub fault_stops : (e : OfFault) (place : ℕ) (t : TraceValue) (xs ys : List (List (List ℕ))) → IsOfFault e (spelling_from place t xs) → IsOfFault e (spelling_from place t (xs ++ ys))
fault_stops NoMemory place t xs ys h = tt
fault_stops (Unwritable at) place t xs ys h = spelling_stops place at t xs ys h

-- a fault that is passed on
pub passed_on : {X : Type 0} (view : X → TraceValue) (result : Result X OfFault) (e : OfFault) (says : Result TraceValue ℕ) → IsErrAnd result (λ f. f ≡ e) → IsOfFault e says → GivesPart view result says
passed_on view (Ok x) e says h k = absurd h
passed_on view (Err f) e says h k = let P : OfFault → Type 0 = λ g. IsOfFault g says in subst P (sym h) k

module _ {X : Type 0} (line : X → List (List ℕ)) (start : ℕ) (from : TraceValue) (xs : List X) where
  -- where a loop over parts is
  pub record Goes (place size : ℕ) (now : TraceValue) (i : ℕ) : Type 0 where
    pub built : IsBuilt now place size
    pub same : spelling_from start from (map line xs) ≡ spelling_from place now (map line (drop i xs))

  at : (i : ℕ) (d : X) → i < length xs → map line (drop i xs) ≡ line (get_or xs i d) ∷ map line (drop (i + 1) xs)
  at i d below = rw (drop-cons xs i d, add-one) refl

  module _ (place size : ℕ) (now : TraceValue) (i : ℕ) (goes : Goes place size now i) where
    pub goes_on : (after bytes : ℕ) (u : TraceValue) (d : X) → i < length xs → IsBuilt u after bytes → spelling_from place now (line (get_or xs i d) ∷ []) ≡ Ok u → Goes after bytes u (i + 1)
    goes_on after bytes u d below built_u h = record {
      built = built_u;
      same = goes.same ∙ ap (spelling_from place now) (at i d below) ∙ built_append now place size goes.built u after bytes (line (get_or xs i d) ∷ []) (map line (drop (i + 1) xs)) built_u h;
    }

    pub goes_err : (e : OfFault) (d : X) → i < length xs → IsOfFault e (spelling_from place now (line (get_or xs i d) ∷ [])) → IsOfFault e (spelling_from start from (map line xs))
    goes_err e d below h =
        let P : Result TraceValue ℕ → Type 0 = λ r. IsOfFault e r in
        subst P (sym (goes.same ∙ ap (spelling_from place now) (at i d below))) (fault_stops e place now (line (get_or xs i d) ∷ []) (map line (drop (i + 1) xs)) h)

    pub goes_end : length xs ≤ i → spelling_from start from (map line xs) ≡ Ok now
    unfolding spelling_from
    goes_end all = goes.same ∙ ap (λ l. spelling_from place now (map line l)) (drop_of_length-le xs all)

  pub goes_first : (size : ℕ) → IsBuilt from start size → Goes start size from 0
  goes_first size built = record { built = built; same = refl }

-- what a part more adds to the others of its kind
module _ (from now u : TraceValue) where
  pub symbols_next : (xs : List (List ℕ)) (i : ℕ) (x d : (List ℕ)) → i < length xs → x ≡ get_or xs i d → now ≡ record from { symbols = from.symbols ++ take i xs } → u ≡ record now { symbols = now.symbols ++ x ∷ [] } → u ≡ record from { symbols = from.symbols ++ take (i + 1) xs }
  symbols_next xs i x d below is h k =
      let add : TraceValue → TraceValue = λ t. record t { symbols = t.symbols ++ x ∷ [] } in
      let put : List (List ℕ) → TraceValue = λ l. record from { symbols = l } in
      k ∙ ap add h ∙ ap (λ y. put ((from.symbols ++ take i xs) ++ y ∷ [])) is ∙ ap put (append_next from.symbols xs i d below)

  pub boots_next : (xs : List (TaskId × Class)) (i : ℕ) (x d : (TaskId × Class)) → i < length xs → x ≡ get_or xs i d → now ≡ record from { boots = from.boots ++ take i xs } → u ≡ record now { boots = now.boots ++ x ∷ [] } → u ≡ record from { boots = from.boots ++ take (i + 1) xs }
  boots_next xs i x d below is h k =
      let add : TraceValue → TraceValue = λ t. record t { boots = t.boots ++ x ∷ [] } in
      let put : List (TaskId × Class) → TraceValue = λ l. record from { boots = l } in
      k ∙ ap add h ∙ ap (λ y. put ((from.boots ++ take i xs) ++ y ∷ [])) is ∙ ap put (append_next from.boots xs i d below)

  pub events_next : (xs : List Event) (i : ℕ) (x d : Event) → i < length xs → x ≡ get_or xs i d → now ≡ record from { events = from.events ++ take i xs } → u ≡ record now { events = now.events ++ x ∷ [] } → u ≡ record from { events = from.events ++ take (i + 1) xs }
  events_next xs i x d below is h k =
      let add : TraceValue → TraceValue = λ t. record t { events = t.events ++ x ∷ [] } in
      let put : List Event → TraceValue = λ l. record from { events = l } in
      k ∙ ap add h ∙ ap (λ y. put ((from.events ++ take i xs) ++ y ∷ [])) is ∙ ap put (append_next from.events xs i d below)

-- a function more of the patch of a number, which is the next one
pub functions_next : (from now u : TraceValue) (number : ℕ) (ids : List SymId) (i : ℕ) (d : SymId) → number ≡ length from.patches + 1 → i < length ids → now ≡ record from { patches = patches_so_far from.patches (take i ids) } → u ≡ record now { patches = take (number - 1) now.patches ++ (slice_index_or now.patches (number - 1) [] ++ get_or ids i d ∷ []) ∷ [] } → u ≡ record from { patches = patches_so_far from.patches (take (i + 1) ids) }
functions_next from now u number ids i d next below h k =
    let prefix : List (List SymId) = from.patches in
    let had : List SymId = take i ids in
    let func : SymId = get_or ids i d in
    let put : List (List SymId) → TraceValue = λ p. record from { patches = p } in
    let add : ℕ → TraceValue → TraceValue = λ n t. record t { patches = take n t.patches ++ (slice_index_or t.patches n [] ++ func ∷ []) ∷ [] } in
    let at : number - 1 ≡ length prefix = omega arith in
    k
    ∙ ap (add (number - 1)) h
    ∙ ap (λ n. add n (put (patches_so_far prefix had))) at
    ∙ ap (λ p. put (p ++ (slice_index_or (patches_so_far prefix had) (length prefix) [] ++ func ∷ []) ∷ [])) (prefix_of prefix had)
    ∙ ap (λ l. put (prefix ++ (l ++ func ∷ []) ∷ [])) (last_so_far prefix had)
    ∙ ap put (more_so_far prefix had func)
    ∙ ap (λ l. put (patches_so_far prefix l)) (sym (take_next ids i d below))

-- a patch with functions asks for these
pub some_there : {X : Type 0} (xs : List X) → (length xs == 0) ≡ false → 0 < length xs
some_there [] h = absurd (cc h)
some_there (x ∷ xs) h = omega arith

pub asked_some : (symbols : ℕ) (patch : List SymId) → (length patch == 0) ≡ false → asked_patch symbols patch ≡ patch
asked_some symbols [] h = absurd (cc h)
asked_some symbols (id ∷ ids) h = refl

nothing : {X : Type 0} (xs : List X) → (length xs == 0) ≡ true → xs ≡ []
nothing [] h = refl
nothing (x ∷ xs) h = absurd (omega (arith, eqb-true (length (x ∷ xs)) 0 h))

-- a patch without functions asks for one that is no symbol
pub none_asked : (t : TraceValue) (place size number : ℕ) (symbols : List (List ℕ)) (patch : List SymId) → IsBuilt t place size → t.boots ≡ [] → t.events ≡ [] → number < 100000 → symbols ≡ t.symbols → (length patch == 0) ≡ true → spelling_from place t (map (λ func. patch_words t.form number (name symbols func)) (asked_patch (length symbols) patch)) ≡ Err place
none_asked t place size number symbols patch built bs es small same none =
    let func : SymId = record { 0 = length t.symbols } in
    let line : List (List ℕ) = patch_words t.form number (name t.symbols func) in
    let refused : IsErr (with_line t line) = rw (no_function_line t number (before_boots t bs es) small func (omega arith)) refl in
    rw (nothing patch none, same) (line_refused t place size built line refused)

-- a function's line in the form that stays the same
module _ (place number : ℕ) (t : TraceValue) (func : List ℕ) (now form : TraceForm) (same : now ≡ form) where
  pub err_in_form : (e : OfFault) → IsOfFault e (spelling_from place t (patch_words now number func ∷ [])) → IsOfFault e (spelling_from place t (patch_words form number func ∷ []))
  err_in_form e h = let P : TraceForm → Type 0 = λ f. IsOfFault e (spelling_from place t (patch_words f number func ∷ [])) in subst P same h

  pub ok_in_form : (u : TraceValue) → spelling_from place t (patch_words now number func ∷ []) ≡ Ok u → spelling_from place t (patch_words form number func ∷ []) ≡ Ok u
  ok_in_form u h = let P : TraceForm → Type 0 = λ f. spelling_from place t (patch_words f number func ∷ []) ≡ Ok u in subst P same h

-- ---- Patches, one after another

-- no patch asks as one without functions does
pub no_patch_asked : (t : TraceValue) (place size : ℕ) (symbols : List (List ℕ)) (patches : List (Bor (List SymId))) → IsBuilt t place size → t.boots ≡ [] → t.events ≡ [] → symbols ≡ t.symbols → (length patches == 0) ≡ true → spelling_from place t (patch_lines t.form symbols 1 (asked_patches (length symbols) (map (λ patch. patch.now) patches))) ≡ Err place
unfolding patch_lines
no_patch_asked t place size symbols patches built bs es same none =
    rw (nothing patches none, append-nil (map (λ func. patch_words t.form 1 (name symbols func)) (asked_patch (length symbols) []))) (none_asked t place size 1 symbols [] built bs es (omega arith) same refl)

pub asked_each : (symbols : ℕ) (patches : List (Bor (List SymId))) → (length patches == 0) ≡ false → asked_patches symbols (map (λ patch. patch.now) patches) ≡ map (asked_patch symbols) (map (λ patch. patch.now) patches)
asked_each symbols [] h = absurd (cc h)
asked_each symbols (p ∷ ps) h = refl

module _ (symbols : List (List ℕ)) (start : ℕ) (from : TraceValue) (patches : List (Bor (List SymId))) where
  -- the lines of the patches from an index on
  abbrev pub lines_on : ℕ → List (List (List ℕ))
  lines_on i = patch_lines from.form symbols (i + 1) (map (asked_patch (length symbols)) (map (λ patch. patch.now) (drop i patches)))

  -- where the loop over patches is
  pub record PatchesGo (place size : ℕ) (now : TraceValue) (i : ℕ) : Type 0 where
    pub built : IsBuilt now place size
    pub same : spelling_from start from (lines_on 0) ≡ spelling_from place now (lines_on i)
    pub shape : now ≡ record from { patches = map (λ patch. patch.now) (take i patches) }

  lines_at_patch : (i : ℕ) (d : Bor (List SymId)) → i < length patches → lines_on i ≡ map (λ func. patch_words from.form (i + 1) (name symbols func)) (asked_patch (length symbols) (get_or patches i d).now) ++ lines_on (i + 1)
  unfolding patch_lines
  lines_at_patch i d below = rw (drop-cons patches i d, add-one) refl

  pub patches_first : (size : ℕ) → IsBuilt from start size → from.patches ≡ [] → PatchesGo start size from 0
  patches_first size built none = record { built = built; same = refl; shape = ap (λ p. record from { patches = p }) none }

  module _ (place size : ℕ) (now : TraceValue) (i : ℕ) (goes : PatchesGo place size now i) where
    -- the patches so far are those of the trace, so they are few
    pub patches_count : i ≤ length patches → length now.patches ≡ i
    patches_count within = ap (λ t. length t.patches) goes.shape ∙ length-map (take i patches) (λ patch. patch.now) ∙ length-take-le i patches within

    pub patches_few : length now.patches ≤ 16
    patches_few =
        let limits = built_limits now place size goes.built in
        let few : length now.patches ≤ most_patches now.form = limits.patches_few in
        omega (arith, most_sixteen now.form)

    module _ (number : ℕ) (patch : List SymId) (d : Bor (List SymId)) (below : i < length patches) (at : number ≡ i + 1) (is : patch ≡ (get_or patches i d).now) where
      asked : map (λ func. patch_words now.form number (name symbols func)) (asked_patch (length symbols) patch) ≡ map (λ func. patch_words from.form (i + 1) (name symbols func)) (asked_patch (length symbols) (get_or patches i d).now)
      asked =
          ap (λ f. map (λ func. patch_words f number (name symbols func)) (asked_patch (length symbols) patch)) (ap (λ t. t.form) goes.shape)
          ∙ ap (λ n. map (λ func. patch_words from.form n (name symbols func)) (asked_patch (length symbols) patch)) at
          ∙ ap (λ p. map (λ func. patch_words from.form (i + 1) (name symbols func)) (asked_patch (length symbols) p)) is

      whole : spelling_from start from (lines_on 0) ≡ spelling_from place now (map (λ func. patch_words now.form number (name symbols func)) (asked_patch (length symbols) patch) ++ lines_on (i + 1))
      whole = goes.same ∙ ap (spelling_from place now) (lines_at_patch i d below ∙ ap (λ l. l ++ lines_on (i + 1)) (sym asked))

      pub patches_on : (after bytes : ℕ) (u : TraceValue) → IsBuilt u after bytes → spelling_from place now (map (λ func. patch_words now.form number (name symbols func)) (asked_patch (length symbols) patch)) ≡ Ok u → u ≡ record now { patches = now.patches ++ patch ∷ [] } → PatchesGo after bytes u (i + 1)
      patches_on after bytes u built_u h added =
          let put : List (List SymId) → TraceValue = λ p. record from { patches = p } in
          let add : TraceValue → TraceValue = λ t. record t { patches = t.patches ++ patch ∷ [] } in
          record {
            built = built_u;
            same = whole ∙ built_append now place size goes.built u after bytes _ (lines_on (i + 1)) built_u h;
            shape = added ∙ ap add goes.shape ∙ ap (λ p. put (map (λ patch. patch.now) (take i patches) ++ p ∷ [])) is ∙ ap put (sym (ap (map (λ patch. patch.now)) (take_next patches i d below) ∙ map-append (λ patch. patch.now) (take i patches) (get_or patches i d ∷ [])));
          }

      pub patches_err : (e : OfFault) → IsOfFault e (spelling_from place now (map (λ func. patch_words now.form number (name symbols func)) (asked_patch (length symbols) patch))) → IsOfFault e (spelling_from start from (lines_on 0))
      patches_err e h =
          let P : Result TraceValue ℕ → Type 0 = λ r. IsOfFault e r in
          subst P (sym whole) (fault_stops e place now _ (lines_on (i + 1)) h)

    pub patches_end : length patches ≤ i → spelling_from start from (lines_on 0) ≡ Ok now
    unfolding spelling_from patch_lines
    patches_end all = goes.same ∙ ap (λ l. spelling_from place now (patch_lines from.form symbols (i + 1) (map (asked_patch (length symbols)) (map (λ patch. patch.now) l)))) (drop_of_length-le patches all)

    pub patches_all : length patches ≤ i → now ≡ record from { patches = map (λ patch. patch.now) patches }
    patches_all all = goes.shape ∙ ap (λ l. record from { patches = map (λ patch. patch.now) l }) (take_all i patches all)
