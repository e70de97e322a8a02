-- What is read from words is what they spell.
use Rattle.std.proofs.Common.{◌≡◌, ◌<◌, ◌≤◌, ℕ, Bool, true, false, not, List, [], ◌∷◌, length, Option, None, Some, Ok, cond, refl, sym, ap, ◌∙◌, arith, subst}
use Rattle.std.specs.Prelude.{nat_le, nat_lt, ◌==◌, ◌&&◌, ◌||◌, position, slice_index, slice_index_or, decimal}
use Rattle.std.specs.Char.{is_ascii_digit}
use Rattle.std.specs.List.{list_all}
use Rattle.std.specs.Str.{bytes_eq}
use Rattle.std.specs.Str.Parse.{digits_value}
use Rattle.std.proofs.lemmas.Bool.{and_parts, leb-true}
use Rattle.std.proofs.lemmas.Bool.Decides.{Decides-ltb, Decides-eqb}
use Rattle.std.proofs.lemmas.Fmt.{decimal-digits_value}
use Rattle.std.proofs.lemmas.List.Quantifiers.{position-Some}
use Rattle.std.proofs.lemmas.Slice.Eq.{bytes_eq-Decides}
use Rattle.lp_symbols.specs.declared.sym_id.SymId.{SymId}
use Rattle.lp_stack.specs.declared.number.TaskId.{TaskId}
use Rattle.lp_stack.specs.declared.view.Class.{Class}
use Rattle.lp_stack.specs.declared.view.Class.TheVariants as class
use Rattle.lp_model.specs.declared.check.ForkKind.{ForkKind}
use Rattle.lp_model.specs.declared.check.ForkKind.TheVariants as fork
use Rattle.lp_definitions.specs.declared.event.Event.{Event}
use Rattle.lp_definitions.specs.declared.event.Event.TheVariants.{Ret, Sleep, Wake, Enter, Exit, Idle, Resched, Die, Walk, Stop, Enable, Disable, Reverse}
use Rattle.lp_text.specs.declared.form.TraceForm.{TraceForm}
use Rattle.lp_text.specs.declared.form.TraceForm.TheVariants.{Single, Stacked, WithResched}
use Rattle.lp_text.specs.declared.keyword.EventKeyword.{EventKeyword}
use Rattle.lp_text.specs.declared.keyword.EventKeyword.TheVariants as event
use Rattle.lp_text.specs.declared.keyword.LineKeyword.{LineKeyword}
use Rattle.lp_text.specs.declared.keyword.LineKeyword.TheVariants as line
use Rattle.lp_text.specs.declared.fault.Cause.{Cause}
use Rattle.lp_text.specs.declared.fault.Cause.TheVariants as cause
use Rattle.lp_text.specs.Words.{header, event_word, line_word, class_word, fork_word, form_of, event_word_of, as_event, line_word_of, class_of, fork_kind_of, is_numeral, number_of}
use Rattle.lp_text.specs.Traces.{name, event_words, patch_words, IsTask, IsEvent}
use Rattle.lp_text.specs.Reading.{◌>>=◌, needs, next_word, last_word, no_word, next_number, last_number, symbol_of, task_of, call_line, fork_line, task_line, event_line, patch_line, boot_line}
use Rattle.lp_text.proofs.Choices.{guard_ok, pass_ok, bind_ok, ok_is}
use Rattle.lp_text.proofs.Numbers.{own, value_small}

-- ---- Tables of words

some_is : {A : Type 0} {x y : A} → ◌≡◌ {A = Option A} (Some x) (Some y) → x ≡ y
some_is h = cc h

pub pick : {A : Type 0} (P : A → Type 0) (b : Bool) (x y : A) (rest : Option A) → (b ≡ true → P x) → (rest ≡ Some y → P y) → cond b (Some x) rest ≡ Some y → P y
pick P true x y rest f g h = subst P (some_is h) (f refl)
pick P false x y rest f g h = g h

pub is : (word text : List ℕ) → bytes_eq word text ≡ true → word ≡ text
is word text = (bytes_eq-Decides word text).0

pub nothing : {A : Type 0} (P : A → Type 0) (y : A) → ◌≡◌ {A = Option A} None (Some y) → P y
nothing P y h = absurd (cc h)

pub form_spelled : (line : List ℕ) (form : TraceForm) → form_of line ≡ Some form → line ≡ header form
form_spelled line form =
    let P : TraceForm → Type 0 = λ f. line ≡ header f in
    pick P (bytes_eq line (header Single)) Single form _ (is line (header Single))
    (pick P (bytes_eq line (header Stacked)) Stacked form _ (is line (header Stacked))
    (pick P (bytes_eq line (header WithResched)) WithResched form _ (is line (header WithResched)) (nothing P form)))

pub event_word_spelled : (word : List ℕ) (e : EventKeyword) → event_word_of word ≡ Some e → word ≡ event_word e
unfolding event_word_of
event_word_spelled word e =
    let P : EventKeyword → Type 0 = λ f. word ≡ event_word f in
    let test : EventKeyword → Bool = λ f. bytes_eq word (event_word f) in
    let got : (f : EventKeyword) → test f ≡ true → P f = λ f. is word (event_word f) in
    pick P (test event.Call) event.Call e _ (got event.Call)
    (pick P (test event.Ret) event.Ret e _ (got event.Ret)
    (pick P (test event.Sleep) event.Sleep e _ (got event.Sleep)
    (pick P (test event.Wake) event.Wake e _ (got event.Wake)
    (pick P (test event.Enter) event.Enter e _ (got event.Enter)
    (pick P (test event.Exit) event.Exit e _ (got event.Exit)
    (pick P (test event.Idle) event.Idle e _ (got event.Idle)
    (pick P (test event.Resched) event.Resched e _ (got event.Resched)
    (pick P (test event.Fork) event.Fork e _ (got event.Fork)
    (pick P (test event.Die) event.Die e _ (got event.Die)
    (pick P (test event.Walk) event.Walk e _ (got event.Walk)
    (pick P (test event.Stop) event.Stop e _ (got event.Stop)
    (pick P (test event.Enable) event.Enable e _ (got event.Enable)
    (pick P (test event.Disable) event.Disable e _ (got event.Disable)
    (pick P (test event.Reverse) event.Reverse e _ (got event.Reverse) (nothing P e)))))))))))))))

as_event_spelled : (word : List ℕ) (o : Option EventKeyword) (l : LineKeyword) → event_word_of word ≡ o → as_event o ≡ Some l → word ≡ line_word l
as_event_spelled word None l e h = absurd (cc h)
as_event_spelled word (Some f) l e h =
    let P : LineKeyword → Type 0 = λ m. word ≡ line_word m in
    subst P (some_is h) (event_word_spelled word f e)

pub line_word_spelled : (word : List ℕ) (l : LineKeyword) → line_word_of word ≡ Some l → word ≡ line_word l
unfolding line_word_of
line_word_spelled word l =
    let P : LineKeyword → Type 0 = λ m. word ≡ line_word m in
    pick P (bytes_eq word (line_word line.Sym)) line.Sym l _ (is word (line_word line.Sym))
    (pick P (bytes_eq word (line_word line.Patch)) line.Patch l _ (is word (line_word line.Patch))
    (pick P (bytes_eq word (line_word line.Boot)) line.Boot l _ (is word (line_word line.Boot)) (as_event_spelled word (event_word_of word) l refl)))

pub class_spelled : (word : List ℕ) (c : Class) → class_of word ≡ Some c → word ≡ class_word c
class_spelled word c =
    let P : Class → Type 0 = λ d. word ≡ class_word d in
    pick P (bytes_eq word (class_word class.Normal)) class.Normal c _ (is word (class_word class.Normal))
    (pick P (bytes_eq word (class_word class.Idle)) class.Idle c _ (is word (class_word class.Idle)) (nothing P c))

pub fork_spelled : (word : List ℕ) (k : ForkKind) → fork_kind_of word ≡ Some k → word ≡ fork_word k
fork_spelled word k =
    let P : ForkKind → Type 0 = λ j. word ≡ fork_word j in
    pick P (bytes_eq word (fork_word fork.Own)) fork.Own k _ (is word (fork_word fork.Own))
    (pick P (bytes_eq word (fork_word fork.Share)) fork.Share k _ (is word (fork_word fork.Share)) (nothing P k))

-- ---- Numbers

some_if : {A : Type 0} (b : Bool) (x y : A) → cond b (Some x) None ≡ Some y → (b ≡ true) × (x ≡ y)
some_if true x y h = (refl, some_is h)
some_if false x y h = absurd (cc h)

first_digit : (word : List ℕ) (one zero_first : Bool) → (length word == 1) ≡ one → (slice_index word 0 == 48) ≡ zero_first → (one || not zero_first) ≡ true → slice_index word 0 ≡ 48 → length word ≡ 1
first_digit word true b e f h z = (Decides-eqb (length word) 1).0 e
first_digit word false true e f h z = absurd (cc h)
first_digit word false false e f h z = absurd (cc (sym f ∙ (Decides-eqb (slice_index word 0) 48).1 z))

-- a numeral of at most seven digits
pub numeral_spelled : (most : ℕ) (word : List ℕ) (n : ℕ) → most ≤ 7 → cond (is_numeral most word) (Some (digits_value 10 word)) None ≡ Some n → (word ≡ decimal n) × (n < 10000000)
numeral_spelled most word n short h =
    let numeral = some_if (is_numeral most word) (digits_value 10 word) n h in
    let a = and_parts (nat_le 1 (length word) && nat_le (length word) most && list_all is_ascii_digit word) (length word == 1 || not (slice_index word 0 == 48)) numeral.0 in
    let b = and_parts (nat_le 1 (length word) && nat_le (length word) most) (list_all is_ascii_digit word) a.0 in
    let d = and_parts (nat_le 1 (length word)) (nat_le (length word) most) b.0 in
    let some : 1 ≤ length word = leb-true 1 (length word) d.0 in
    let few : length word ≤ most = leb-true (length word) most d.1 in
    let small : digits_value 10 word < 10000000 = value_small word b.1 (omega arith) in (
      sym (decimal-digits_value own word b.1 (omega arith) (first_digit word (length word == 1) (slice_index word 0 == 48) refl refl a.1) (omega arith)) ∙ ap decimal numeral.1,
      omega (arith, numeral.1),
    )

pub number_spelled : (word : List ℕ) (n : ℕ) → number_of word ≡ Some n → word ≡ decimal n
unfolding number_of
number_spelled word n h = (numeral_spelled 5 word n (omega arith) h).0

-- ---- Words after the first

pub needs_ok : {A : Type 0} (why : Cause) (o : Option A) (x : A) → needs why o ≡ Ok x → o ≡ Some x
needs_ok why None x h = absurd (cc h)
needs_ok why (Some y) x h = cc h

pub next_word_spelled : (given : List (List ℕ)) (x : List ℕ × List (List ℕ)) → next_word given ≡ Ok x → given ≡ x.0 ∷ x.1
unfolding next_word
next_word_spelled [] x h = absurd (cc h)
next_word_spelled (word ∷ rest) x h =
    let there = guard_ok (length word == 0) cause.Shape _ x h in
    ap (λ y. y.0 ∷ y.1) (ok_is there.1)

pub last_word_spelled : (given : List (List ℕ)) (word : List ℕ) → last_word given ≡ Ok word → given ≡ word ∷ []
unfolding last_word
last_word_spelled [] x h = absurd (cc h)
last_word_spelled (word ∷ []) x h = ap (λ y. y ∷ []) (ok_is (guard_ok (length word == 0) cause.Shape _ x h).1)
last_word_spelled (word ∷ more ∷ rest) x h = absurd (cc h)

pub next_number_spelled : (given : List (List ℕ)) (x : ℕ × List (List ℕ)) → next_number given ≡ Ok x → given ≡ decimal x.0 ∷ x.1
unfolding next_number
next_number_spelled given x h =
    let a = bind_ok (next_word given) _ x h in
    let b = bind_ok (needs cause.Shape (number_of a.0.0)) _ x a.2 in
    let n : number_of a.0.0 ≡ Some b.0 = needs_ok cause.Shape (number_of a.0.0) b.0 b.1 in
    next_word_spelled given a.0 a.1 ∙ ap (λ w. w ∷ a.0.1) (number_spelled a.0.0 b.0 n) ∙ ap (λ y. decimal y.0 ∷ y.1) (ok_is b.2)

pub last_number_spelled : (given : List (List ℕ)) (n : ℕ) → last_number given ≡ Ok n → given ≡ decimal n ∷ []
unfolding last_number
last_number_spelled given n h =
    let a = bind_ok (last_word given) _ n h in
    last_word_spelled given a.0 a.1 ∙ ap (λ w. w ∷ []) (number_spelled a.0 n (needs_ok cause.Shape (number_of a.0) n a.2))

pub no_word_spelled : (e f : Event) (given : List (List ℕ)) → no_word e given ≡ Ok f → (given ≡ []) × (e ≡ f)
unfolding no_word
no_word_spelled e f [] h = (refl, ok_is h)
no_word_spelled e f (word ∷ rest) h = absurd (cc h)

-- ---- What the words mean

pub symbol_spelled : (symbols : List (List ℕ)) (word : List ℕ) (id : SymId) → symbol_of symbols word ≡ Ok id → (word ≡ name symbols id) × (id.0 < length symbols)
unfolding symbol_of
symbol_spelled symbols word id h =
    let a = bind_ok (needs cause.Unknown (position (bytes_eq word) symbols)) _ id h in
    let at = position-Some (bytes_eq word) symbols a.0 [] (needs_ok cause.Unknown (position (bytes_eq word) symbols) a.0 a.1) in
    let same : a.0 ≡ id.0 = ap (λ i. i.0) (ok_is a.2) in
    (is word (slice_index_or symbols a.0 []) at.1 ∙ ap (λ i. slice_index_or symbols i []) same, omega (arith, at.0))

pub task_spelled : (n : ℕ) (task : TaskId) → task_of n ≡ Ok task → (n ≡ task.0) × IsTask task
unfolding task_of
task_spelled n task h =
    let a = pass_ok (nat_le 1 n && nat_lt n 65536) cause.Task _ task h in
    let b = and_parts (nat_le 1 n) (nat_lt n 65536) a.0 in
    let low : 1 ≤ n = leb-true 1 n b.0 in
    let high : n < 65536 = (Decides-ltb n 65536).0 b.1 in
    let same : n ≡ task.0 = ap (λ t. t.0) (ok_is a.1) in
    (same, (omega arith, omega arith))

-- ---- Lines

task_line_spelled : (given : List (List ℕ)) (task : TaskId) → task_line given ≡ Ok task → (given ≡ decimal task.0 ∷ []) × IsTask task
unfolding task_line
task_line_spelled given task h =
    let a = bind_ok (last_number given) _ task h in
    let b = task_spelled a.0 task a.2 in
    (last_number_spelled given a.0 a.1 ∙ ap (λ n. decimal n ∷ []) b.0, b.1)

-- a line spells an event
abbrev pub Spells : List (List ℕ) → EventKeyword → List (List ℕ) → Event → Type 0
Spells symbols word given e = (event_word word ∷ given ≡ event_words symbols e) × IsEvent (length symbols) e

module _ (symbols : List (List ℕ)) (given : List (List ℕ)) (e : Event) where
  of_task : (word : EventKeyword) (make : TaskId → Event) → ((task : TaskId) → event_words symbols (make task) ≡ event_word word ∷ decimal task.0 ∷ []) → ((task : TaskId) → IsTask task → IsEvent (length symbols) (make task)) → (task_line given >>= λ task. Ok (make task)) ≡ Ok e → Spells symbols word given e
  of_task word make spelled fits h =
      let a = bind_ok (task_line given) (λ task. Ok (make task)) e h in
      let b = task_line_spelled given a.0 a.1 in
      let P : Event → Type 0 = λ f. Spells symbols word given f in
      subst P (ok_is a.2) (ap (λ g. event_word word ∷ g) b.0 ∙ sym (spelled a.0), fits a.0 b.1)

  of_bare : (word : EventKeyword) (made : Event) → event_words symbols made ≡ event_word word ∷ [] → IsEvent (length symbols) made → no_word made given ≡ Ok e → Spells symbols word given e
  of_bare word made spelled fits h =
      let a = no_word_spelled made e given h in
      let P : Event → Type 0 = λ f. Spells symbols word given f in
      subst P a.1 (ap (λ g. event_word word ∷ g) a.0 ∙ sym spelled, fits)

  of_call : call_line symbols given ≡ Ok e → Spells symbols event.Call given e
  unfolding call_line
  of_call h =
      let a = bind_ok (next_number given) _ e h in
      let b = bind_ok (last_word a.0.1) _ e a.2 in
      let d = bind_ok (symbol_of symbols b.0) _ e b.2 in
      let f = bind_ok (task_of a.0.0) _ e d.2 in
      let func = symbol_spelled symbols b.0 d.0 d.1 in
      let task = task_spelled a.0.0 f.0 f.1 in
      let P : Event → Type 0 = λ f. Spells symbols event.Call given f in
      let words : given ≡ decimal f.0.0 ∷ name symbols d.0 ∷ [] =
      next_number_spelled given a.0 a.1 ∙ ap (λ r. decimal a.0.0 ∷ r) (last_word_spelled a.0.1 b.0 b.1 ∙ ap (λ w. w ∷ []) func.0) ∙ ap (λ n. decimal n ∷ name symbols d.0 ∷ []) task.0
      in
      subst P (ok_is f.2) (ap (λ g. event_word event.Call ∷ g) words, (task.1, func.1))

  of_fork : fork_line given ≡ Ok e → Spells symbols event.Fork given e
  unfolding fork_line
  of_fork h =
      let a = bind_ok (next_number given) _ e h in
      let b = bind_ok (next_number a.0.1) _ e a.2 in
      let d = bind_ok (last_word b.0.1) _ e b.2 in
      let k = bind_ok (needs cause.Shape (fork_kind_of d.0)) _ e d.2 in
      let f = bind_ok (task_of a.0.0) _ e k.2 in
      let g = bind_ok (task_of b.0.0) _ e f.2 in
      let parent = task_spelled a.0.0 f.0 f.1 in
      let child = task_spelled b.0.0 g.0 g.1 in
      let how : d.0 ≡ fork_word k.0 = fork_spelled d.0 k.0 (needs_ok cause.Shape (fork_kind_of d.0) k.0 k.1) in
      let P : Event → Type 0 = λ f. Spells symbols event.Fork given f in
      let last : b.0.1 ≡ fork_word k.0 ∷ [] = last_word_spelled b.0.1 d.0 d.1 ∙ ap (λ w. w ∷ []) how in
      let second : a.0.1 ≡ decimal g.0.0 ∷ fork_word k.0 ∷ [] = next_number_spelled a.0.1 b.0 b.1 ∙ ap (λ r. decimal b.0.0 ∷ r) last ∙ ap (λ n. decimal n ∷ fork_word k.0 ∷ []) child.0 in
      let words : given ≡ decimal f.0.0 ∷ decimal g.0.0 ∷ fork_word k.0 ∷ [] = next_number_spelled given a.0 a.1 ∙ ap (λ r. decimal a.0.0 ∷ r) second ∙ ap (λ n. decimal n ∷ decimal g.0.0 ∷ fork_word k.0 ∷ []) parent.0 in
      subst P (ok_is g.2) (ap (λ g. event_word event.Fork ∷ g) words, (parent.1, child.1))

pub event_line_spelled : (symbols : List (List ℕ)) (word : EventKeyword) (given : List (List ℕ)) (e : Event) → event_line symbols word given ≡ Ok e → Spells symbols word given e
unfolding event_line
event_line_spelled symbols event.Call given e h = of_call symbols given e h
event_line_spelled symbols event.Ret given e h = of_task symbols given e event.Ret (λ task. Ret task) (λ _. refl) (λ _ fits. fits) h
event_line_spelled symbols event.Sleep given e h = of_task symbols given e event.Sleep (λ task. Sleep task) (λ _. refl) (λ _ fits. fits) h
event_line_spelled symbols event.Wake given e h = of_task symbols given e event.Wake (λ task. Wake task) (λ _. refl) (λ _ fits. fits) h
event_line_spelled symbols event.Enter given e h = of_task symbols given e event.Enter (λ task. Enter task) (λ _. refl) (λ _ fits. fits) h
event_line_spelled symbols event.Exit given e h = of_task symbols given e event.Exit (λ task. Exit task) (λ _. refl) (λ _ fits. fits) h
event_line_spelled symbols event.Idle given e h = of_task symbols given e event.Idle (λ task. Idle task) (λ _. refl) (λ _ fits. fits) h
event_line_spelled symbols event.Resched given e h = of_task symbols given e event.Resched (λ task. Resched task) (λ _. refl) (λ _ fits. fits) h
event_line_spelled symbols event.Fork given e h = of_fork symbols given e h
event_line_spelled symbols event.Die given e h = of_task symbols given e event.Die (λ task. Die task) (λ _. refl) (λ _ fits. fits) h
event_line_spelled symbols event.Walk given e h = of_bare symbols given e event.Walk Walk refl tt h
event_line_spelled symbols event.Stop given e h = of_bare symbols given e event.Stop Stop refl tt h
event_line_spelled symbols event.Enable given e h = of_bare symbols given e event.Enable Enable refl tt h
event_line_spelled symbols event.Disable given e h = of_bare symbols given e event.Disable Disable refl tt h
event_line_spelled symbols event.Reverse given e h = of_bare symbols given e event.Reverse Reverse refl tt h

-- a patch line's words, and the number that the first text leaves out
pub patch_line_spelled : (form : TraceForm) (given : List (List ℕ)) (x : ℕ × List ℕ) → patch_line form given ≡ Ok x → line_word line.Patch ∷ given ≡ patch_words form x.0 x.1
unfolding patch_line
patch_line_spelled Single given x h =
    let a = bind_ok (last_word given) _ x h in
    ap (λ g. line_word line.Patch ∷ g) (last_word_spelled given a.0 a.1) ∙ ap (λ y. line_word line.Patch ∷ y.1 ∷ []) (ok_is a.2)
patch_line_spelled Stacked given x h =
    let a = bind_ok (next_number given) _ x h in
    let b = bind_ok (last_word a.0.1) _ x a.2 in
    ap (λ g. line_word line.Patch ∷ g) (next_number_spelled given a.0 a.1 ∙ ap (λ r. decimal a.0.0 ∷ r) (last_word_spelled a.0.1 b.0 b.1)) ∙ ap (λ y. line_word line.Patch ∷ decimal y.0 ∷ y.1 ∷ []) (ok_is b.2)
patch_line_spelled WithResched given x h =
    let a = bind_ok (next_number given) _ x h in
    let b = bind_ok (last_word a.0.1) _ x a.2 in
    ap (λ g. line_word line.Patch ∷ g) (next_number_spelled given a.0 a.1 ∙ ap (λ r. decimal a.0.0 ∷ r) (last_word_spelled a.0.1 b.0 b.1)) ∙ ap (λ y. line_word line.Patch ∷ decimal y.0 ∷ y.1 ∷ []) (ok_is b.2)

pub boot_line_spelled : (given : List (List ℕ)) (x : ℕ × Class) → boot_line given ≡ Ok x → given ≡ decimal x.0 ∷ class_word x.1 ∷ []
unfolding boot_line
boot_line_spelled given x h =
    let a = bind_ok (next_number given) _ x h in
    let b = bind_ok (last_word a.0.1) _ x a.2 in
    let d = bind_ok (needs cause.Shape (class_of b.0)) _ x b.2 in
    let word : b.0 ≡ class_word d.0 = class_spelled b.0 d.0 (needs_ok cause.Shape (class_of b.0) d.0 d.1) in
    next_number_spelled given a.0 a.1 ∙ ap (λ r. decimal a.0.0 ∷ r) (last_word_spelled a.0.1 b.0 b.1 ∙ ap (λ w. w ∷ []) word) ∙ ap (λ y. decimal y.0 ∷ class_word y.1 ∷ []) (ok_is d.2)
