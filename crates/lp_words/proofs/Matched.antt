-- What a matched subcommand says of the words, and what becomes of words that clap refuses.
use Rattle.std.proofs.Common.{◌≡◌, ◌≢◌, ◌⊎◌, ◌∙◌, ap, sym, subst, arith, true, refl, Option, Some, None, List, [], codes, inl, inr}
use Rattle.std.proofs.lemmas.Option.{none-some}
use Rattle.std.specs.Prelude.{option_and_then, option_map, slice_index}
use Rattle.std.specs.Option.{option_map_or}
use Rattle.clap.specs.Words.{App, HasMatchesOf, IsAmong, Row, Text, fault_of, first_of, first_value, found_of, is_simple, is_simple_and_free, rows_of, subcommand_name_of, subcommand_of, subcommand_rows_of}
use Rattle.clap.proofs.WalkLemmas.{first_value-rows}
use Rattle.clap.specs.declared.ArgMatches.{ArgMatches}
use Rattle.clap.specs.declared.error.ErrorKind.{ErrorKind}
use Rattle.clap.specs.declared.error.ErrorKind.TheVariants.{OutOfMemory}
use Rattle.lp_models.specs.Models.{name_of}
use Rattle.lp_words.specs.declared.words.Job.{Job}
use Rattle.lp_words.specs.declared.words.Job.TheVariants.{Run, Check, Compare, Threads}
use Rattle.lp_words.specs.declared.words.WordsFault.{WordsFault}
use Rattle.lp_words.specs.declared.words.WordsFault.TheVariants.{Usage, UnknownModel, NoMemory}
use Rattle.lp_words.specs.Asked.{Asked, AsksNothing, IsUnknown, TakesModel, argument_of, asked, asked_in, flag_word, lpt, words_of}
use Rattle.lp_words.specs.inside.WordsFaults.{IsNoFlag, IsRefusal, NamesNoModel, NamesNoJob}

named : {X : Type 0} (o : Option X) (f : X → Text) (g : X → List Row) (name : Text) (rows : List Row)
    → option_map f o ≡ Some name → option_map (λ (p : Text × List Row). p.1) (option_map (λ x. (f x, g x)) o) ≡ Some rows
    → asked_in (option_map (λ x. (f x, g x)) o) ≡ Some (name, first_of (argument_of name) rows)
named None f g name rows e h = cc
named (Some x) f g name rows e h =
    let n : f x ≡ name = cc in
    let r : g x ≡ rows = cc in
    rw (n, r) refl

-- the subcommand by its name, with its argument
pub asked_of : (m sub : ArgMatches) (name id : Text) → argument_of name ≡ id → subcommand_name_of m ≡ Some name
    → option_map (λ p. p.1) (subcommand_rows_of m) ≡ Some (rows_of (found_of sub))
    → asked_in (subcommand_rows_of m) ≡ Some (name, first_value (found_of sub) id)
asked_of m sub name id is e h =
    named _ _ _ name (rows_of (found_of sub)) e h
    ∙ (ap (λ i. Some (name, first_of i (rows_of (found_of sub)))) is ∙ ap (λ v. Some (name, v)) (sym (first_value-rows (found_of sub) id)))

abbrev given_model : Asked → Option Text
given_model words = option_and_then (λ (p : Text × Option Text). p.1) words

-- where the model has a fault, there is no job
pub no_job_of : (found : Option Text) (words : Asked) (name : Text) (fault : WordsFault)
    → TakesModel name → words ≡ Some (name, found) → NamesNoModel found fault → NamesNoJob words fault
no_job_of found words name Usage takes e h = (go, known)
  where
    known : IsUnknown words → ⊥
    known (other, text, is, also, none) = none-some text (sym h ∙ ap given_model (sym e ∙ is))

    go : (job : Job) → words ≢ Some (words_of job)
    go (Run model) is = none-some (name_of model) (sym h ∙ ap given_model (sym e ∙ is))
    go (Check model) is = none-some (name_of model) (sym h ∙ ap given_model (sym e ∙ is))
    go (Compare json) is = none-some (flag_word json) (sym h ∙ ap given_model (sym e ∙ is))
    go (Threads model) is = none-some (name_of model) (sym h ∙ ap given_model (sym e ∙ is))
no_job_of found words name UnknownModel takes e h = (name, h.0, e ∙ ap (λ v. Some (name, v)) h.1, takes, h.2)
no_job_of found words name NoMemory takes e h = absurd h

abbrev given_name : Asked → Text
given_name words = option_map_or (λ (p : Text × Option Text). p.0) words []

-- the same where a flag has one
pub no_flag_of : (found : Option Text) (words : Asked) (name : Text) (fault : WordsFault)
    → name ≡ codes "compare" → words ≡ Some (name, found) → IsNoFlag found fault → NamesNoJob words fault
no_flag_of found words name Usage compares e h = (go, known)
  where
    taken_name : (other : Text) (text : Text) → words ≡ Some (other, Some text) → other ≡ codes "compare"
    taken_name other text is = sym (ap given_name (sym e ∙ is)) ∙ compares

    no_model : (other : Text) → other ≡ codes "compare" → TakesModel other → ⊥
    no_model other is (inl run) = let letter : 117 ≡ 111 = ap (λ n. slice_index n 1) (sym run ∙ is) in absurd (omega (arith, letter))
    no_model other is (inr (inl check)) = let letter : 104 ≡ 111 = ap (λ n. slice_index n 1) (sym check ∙ is) in absurd (omega (arith, letter))
    no_model other is (inr (inr threads)) = let letter : 104 ≡ 111 = ap (λ n. slice_index n 1) (sym threads ∙ is) in absurd (omega (arith, letter))

    known : IsUnknown words → ⊥
    known (other, text, is, takes, rest) = no_model other (taken_name other text is) takes

    same_name : (job : Job) → words ≡ Some (words_of job) → (words_of job).0 ≡ codes "compare"
    same_name job is = sym (ap given_name (sym e ∙ is)) ∙ compares

    go : (job : Job) → words ≢ Some (words_of job)
    go (Run model) is = let letter : 117 ≡ 111 = ap (λ n. slice_index n 1) (same_name (Run model) is) in absurd (omega (arith, letter))
    go (Check model) is = let letter : 104 ≡ 111 = ap (λ n. slice_index n 1) (same_name (Check model) is) in absurd (omega (arith, letter))
    go (Compare json) is = h json (ap given_model (sym e ∙ is))
    go (Threads model) is = let letter : 104 ≡ 111 = ap (λ n. slice_index n 1) (same_name (Threads model) is) in absurd (omega (arith, letter))
no_flag_of found words name UnknownModel compares e h = absurd h
no_flag_of found words name NoMemory compares e h = absurd h

-- words that clap takes, and that name no job
pub asks_nothing : (given : List Text) (fault : WordsFault) → fault_of lpt given ≡ [] → NamesNoJob (asked given) fault
    → AsksNothing given fault
asks_nothing given Usage none h = (λ job asks. h.0 job asks.1, λ unknown. h.1 unknown.1)
asks_nothing given UnknownModel none h = (none, h)
asks_nothing given NoMemory none h = absurd h

-- words that clap refuses
pub refused_asks_nothing : (given : List Text) (cause : ErrorKind) (fault : WordsFault)
    → (cause ≡ OutOfMemory) ⊎ IsAmong cause (fault_of lpt given) → IsRefusal cause fault → AsksNothing given fault
refused_asks_nothing given cause Usage (inl e) h = absurd (h e)
refused_asks_nothing given cause Usage (inr e) h = (
  λ job asks. subst (λ kinds. IsAmong cause kinds) asks.0 e,
  λ unknown. subst (λ kinds. IsAmong cause kinds) unknown.0 e,
)
refused_asks_nothing given cause UnknownModel e h = absurd h
refused_asks_nothing given cause NoMemory e h = tt

-- clap takes the words, and what it matched is what the definition says
pub taken : (app : App) (given : List Text) (m : ArgMatches) → app ≡ lpt
    → (is_simple_and_free app ≡ true → fault_of app given ≡ []) → HasMatchesOf app given m
    → (fault_of lpt given ≡ []) × (subcommand_rows_of m ≡ subcommand_of lpt given)
taken app given m e kinds rows = (
  ap (λ (a : App). fault_of a given) (sym e) ∙ kinds (ap is_simple_and_free e ∙ refl),
  (rows (ap is_simple e ∙ refl)).1 ∙ ap (λ (a : App). subcommand_of a given) e,
)

-- the kind of a refusal is one that the definition lists
pub refused : (app : App) (given : List Text) (cause : ErrorKind) → app ≡ lpt
    → (is_simple_and_free app ≡ true → (cause ≡ OutOfMemory) ⊎ IsAmong cause (fault_of app given))
    → (cause ≡ OutOfMemory) ⊎ IsAmong cause (fault_of lpt given)
refused app given cause e kinds =
    subst (λ (a : App). (cause ≡ OutOfMemory) ⊎ IsAmong cause (fault_of a given)) e (kinds (ap is_simple_and_free e ∙ refl))
