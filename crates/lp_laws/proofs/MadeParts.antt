-- The lines that are made of one group, from its birth or the opening on: each is right, and each check is told of.
use Rattle.std.proofs.Common.{◌≡◌, ℕ, suc, ◌+◌, ◌-◌, ◌<◌, ◌≤◌, Bool, true, false, not, ◌&&◌, ◌||◌, List, [], ◌∷◌, ◌++◌, map, reverse, All, Option, Some, None, is_none, nat_eq, nat_le, refl, sym, ap, ◌∙◌, subst, ⊎_elim, arith}
use Rattle.std.specs.List.{list_any}
use Rattle.std.specs.Option.{option_map}
use Rattle.std.proofs.lemmas.Bool.{and_from, and_parts, or_cases, or_left, or_right, cases_eq, eq-eqb, le-leb, lt-ltb, not_from_true}
use Rattle.std.proofs.lemmas.List.{reverse-append}
use Rattle.std.proofs.lemmas.List.Elements.{All-head, All-tail, All-nil, All-cons, All-push, All-weaker}
use Rattle.std.proofs.lemmas.List.Folds.{list_any_none}
use Rattle.std.proofs.lemmas.List.Sorted.{list_any-IsPermutation, IsPermutation-reverse}
use Rattle.lp_stack.specs.declared.number.GroupId.{GroupId}
use Rattle.lp_stack.specs.declared.number.TaskId.{TaskId}
use Rattle.lp_model.specs.declared.check.CheckKind.{CheckKind}
use Rattle.lp_model.specs.declared.check.Blame.TheVariants.{Frame as Held, Busy}
use Rattle.lp_model.specs.Rules.{Rules, IsLawful}
use Rattle.lp_definitions.specs.Leg.{Leg, check}
use Rattle.lp_definitions.specs.Sound.{IsSound}
use Rattle.lp_definitions.specs.Tasks.{first_of}
use Rattle.lp_definitions.specs.declared.line.Line.{Line}
use Rattle.lp_definitions.specs.declared.line.Line.TheVariants.{Hold, Busy as OnCpu, Born}
use Rattle.lp_definitions.specs.declared.cert_fault.CertFault.TheVariants.{NoBlame, Gap}
use Rattle.lp_definitions.specs.Judgement.{Section, group_of, is_held_by, is_busy, lies_in, moment_of, blame_at, is_on_stack, line_test, covers, is_covered}
use Rattle.lp_laws.proofs.FirstBad.{all_good, first_none, fit_none}
use Rattle.lp_laws.proofs.Held.{sound_hold}
use Rattle.lp_laws.proofs.LeadingTo.{IsPlain, IsFaultless}

reverse_more : {A : Type 0} (x : A) (xs : List A) → reverse (x ∷ xs) ≡ reverse xs ++ x ∷ []
reverse_more x xs = reverse-append (x ∷ []) xs

pub All_reverse : {A : Type 0} (P : A → Type 0) (xs : List A) → All P xs → All P (reverse xs)
All_reverse P [] h = All-nil P
All_reverse P (x ∷ xs) h = subst (All P) (sym (reverse_more x xs)) (All-push P (reverse xs) x (All_reverse P xs (All-tail P x xs h)) (All-head P x xs h))

none_of : {A B : Type 0} (f : A → Option B) (xs : List A) → All (λ x. f x ≡ None) xs → first_of (map f xs) ≡ None
none_of f [] h = refl
none_of f (x ∷ xs) h = first_none (f x) (map f xs) (All-head (λ x. f x ≡ None) x xs h) ∙ none_of f xs (All-tail (λ x. f x ≡ None) x xs h)

covered_if : (o : Option CheckKind) (b : Bool) → ((kind : CheckKind) → o ≡ Some kind → b ≡ true) → (is_none o || b) ≡ true
covered_if None b h = refl
covered_if (Some kind) b h = h kind refl

module _ (model : Rules) (leg : Leg) where
  -- a member was blamed by a frame at the first moment, and the frame is there at the last
  pub record IsHold (group begin until g t serial from to : ℕ) : Type 0 where
    pub named : g ≡ group
    pub first : ℕ
    pub last : ℕ
    pub from_is : from ≡ leg.number + first
    pub to_is : to ≡ leg.number + last
    pub early : begin < first
    pub order : first ≤ last
    pub late : last ≤ until
    pub blamed : blame_at model leg group first t ≡ Some (Held serial)
    pub stays : is_on_stack model leg t serial last ≡ true

  -- a member was busy at the moment
  pub record IsOnCpu (group begin until g t at : ℕ) : Type 0 where
    pub named : g ≡ group
    pub moment : ℕ
    pub at_is : at ≡ leg.number + moment
    pub early : begin < moment
    pub late : moment ≤ until
    pub blamed : blame_at model leg group moment t ≡ Some Busy

  -- a line that is right of a group in its time
  abbrev pub IsRight : (group begin until : ℕ) → Line → Type 0
  IsRight group begin until (Hold g t serial from to) = IsHold group begin until g.0 t.0 serial from to
  IsRight group begin until (OnCpu g t at) = IsOnCpu group begin until g.0 t.0 at
  IsRight group begin until (Born g parent at) = ⊥

  -- the lines of a group after its first `begin` events up to event `until`
  pub record IsPart (group begin until : ℕ) (own : List Line) : Type 0 where
    pub right : All (IsRight group begin until) own
    pub covered :
        (place : ℕ) (kind : CheckKind) → begin ≤ place → place < until → check model leg place group ≡ Some kind →
        list_any (covers model leg (suc place)) own ≡ true

  plain_if : (group begin until : ℕ) (line : Line) → IsRight group begin until line → IsPlain line
  plain_if group begin until (Hold g t serial from to) h = tt
  plain_if group begin until (OnCpu g t at) h = tt
  plain_if group begin until (Born g parent at) h = absurd h

  pub part_plain : (group begin until : ℕ) (own : List Line) → IsPart group begin until own → All IsPlain (reverse own)
  part_plain group begin until own h = All_reverse IsPlain own (All-weaker (IsRight group begin until) IsPlain (plain_if group begin until) own h.right)

  no_stray : (group begin until : ℕ) (line : Line) → IsRight group begin until line → not (nat_eq (group_of line) group) ≡ false
  no_stray group begin until (Hold g t serial from to) h = ap not (eq-eqb g.0 group h.named)
  no_stray group begin until (OnCpu g t at) h = ap not (eq-eqb g.0 group h.named)
  no_stray group begin until (Born g parent at) h = absurd h

  module _ (lawful : IsLawful model) (sound : IsSound leg.opening) where
    hold_well : (section : Section) (g : GroupId) (t : TaskId) (serial from to : ℕ) → IsHold section.group section.begin section.until g.0 t.0 serial from to → line_test model leg section (Hold g t serial from to) ≡ None
    hold_well section g t serial from to h =
        let a : moment_of model leg from ≡ h.first = let e = h.from_is in omega (arith, e) in
        let b : moment_of model leg to ≡ h.last = let e = h.to_is in omega (arith, e) in
        let from_is = h.from_is in
        let to_is = h.to_is in
        let early = h.early in
        let order = h.order in
        let late = h.late in
        let held : is_held_by serial (blame_at model leg section.group (moment_of model leg from) t.0) ≡ true =
        ap (λ m. is_held_by serial (blame_at model leg section.group m t.0)) a ∙ (ap (is_held_by serial) h.blamed ∙ eq-eqb serial serial refl) in
        let begins : lies_in section (moment_of model leg from) ≡ true = ap (lies_in section) a ∙ and_from _ _ (lt-ltb section.begin h.first early) (le-leb h.first section.until (omega (arith, order, late))) in
        let ends : lies_in section (moment_of model leg to) ≡ true = ap (lies_in section) b ∙ and_from _ _ (lt-ltb section.begin h.last (omega (arith, early, order))) (le-leb h.last section.until late) in
        let span : nat_le from to ≡ true = le-leb from to (omega (arith, from_is, to_is, order)) in
        sound_hold model leg lawful sound section g t serial from to (and_from _ _ (and_from _ _ span (and_from _ _ begins ends)) held) (ap (is_on_stack model leg t.0 serial) b ∙ h.stays)

    cpu_well : (section : Section) (g : GroupId) (t : TaskId) (at : ℕ) → IsOnCpu section.group section.begin section.until g.0 t.0 at → line_test model leg section (OnCpu g t at) ≡ None
    cpu_well section g t at h =
        let a : moment_of model leg at ≡ h.moment = let e = h.at_is in omega (arith, e) in
        let inside : lies_in section (moment_of model leg at) ≡ true = ap (lies_in section) a ∙ and_from _ _ (lt-ltb section.begin h.moment h.early) (le-leb h.moment section.until h.late) in
        let busy : is_busy (blame_at model leg section.group (moment_of model leg at) t.0) ≡ true = ap (λ m. is_busy (blame_at model leg section.group m t.0)) a ∙ ap is_busy h.blamed in
        let good : Bool = lies_in section (moment_of model leg at) && is_busy (blame_at model leg section.group (moment_of model leg at) t.0) in
        fit_none (not good) (NoBlame at) (not_from_true good (and_from _ _ inside busy))

    line_well : (section : Section) (line : Line) → IsRight section.group section.begin section.until line → line_test model leg section line ≡ None
    line_well section (Hold g t serial from to) h = hold_well section g t serial from to h
    line_well section (OnCpu g t at) h = cpu_well section g t at h
    line_well section (Born g parent at) h = absurd h

    -- a section of such lines, the oldest in front, has no fault
    pub part_well : (group begin until : ℕ) (own : List Line) → IsPart group begin until own → IsFaultless model leg (record { group = group; begin = begin; until = until; lines = reverse own })
    part_well group begin until own h =
        let section : Section = record { group = group; begin = begin; until = until; lines = reverse own } in
        let right = All_reverse (IsRight group begin until) own h.right in
        let each : (place : ℕ) → begin ≤ place → place < begin + (until - begin) → is_covered model leg section place ≡ true =
        λ place low high.
        covered_if (check model leg place group) (list_any (covers model leg (suc place)) (reverse own)) (λ kind e.
        sym (list_any-IsPermutation (covers model leg (suc place)) own (reverse own) (IsPermutation-reverse own)) ∙ h.covered place kind low (omega (arith, low, high)) e) in
        record {
          own = list_any_none (λ line. not (nat_eq (group_of line) group)) (reverse own) (All-weaker (IsRight group begin until) (λ line. not (nat_eq (group_of line) group) ≡ false) (no_stray group begin until) (reverse own) right);
          lines = none_of (line_test model leg section) (reverse own) (All-weaker (IsRight group begin until) (λ line. line_test model leg section line ≡ None) (line_well section) (reverse own) right);
          gap = ap (option_map (λ (place : ℕ). Gap (leg.number + suc place))) (all_good (until - begin) begin (is_covered model leg section) each);
        }

  -- ---- One event more

  right_later : (group begin k : ℕ) (line : Line) → IsRight group begin k line → IsRight group begin (suc k) line
  right_later group begin k (Hold g t serial from to) h =
      let late = h.late in
      record { named = h.named; first = h.first; last = h.last; from_is = h.from_is; to_is = h.to_is; early = h.early; order = h.order; late = omega (arith, late); blamed = h.blamed; stays = h.stays }
  right_later group begin k (OnCpu g t at) h =
      let late = h.late in
      record { named = h.named; moment = h.moment; at_is = h.at_is; early = h.early; late = omega (arith, late); blamed = h.blamed }
  right_later group begin k (Born g parent at) h = absurd h

  -- an event that is no check of the group
  pub part_later : (group begin k : ℕ) (own : List Line) → check model leg k group ≡ None → IsPart group begin k own → IsPart group begin (suc k) own
  part_later group begin k own none h =
      record {
        right = All-weaker (IsRight group begin k) (IsRight group begin (suc k)) (right_later group begin k) own h.right;
        covered = λ place kind low high e.
            ⊎_elim
            (λ (same : place ≡ k). let bad : None ≡ Some kind = sym none ∙ subst (λ n. check model leg n group ≡ Some kind) same e in absurd (cc))
            (λ (ne : place ≡ k → ⊥). h.covered place kind low (omega (arith, high, ne)) e)
            (cases_eq place k);
      }

  -- a new line that tells of the check
  pub part_more : (group begin k : ℕ) (line : Line) (own : List Line) → IsRight group begin (suc k) line → covers model leg (suc k) line ≡ true → IsPart group begin k own → IsPart group begin (suc k) (line ∷ own)
  part_more group begin k line own right tells h =
      record {
        right = All-cons (IsRight group begin (suc k)) line own right (All-weaker (IsRight group begin k) (IsRight group begin (suc k)) (right_later group begin k) own h.right);
        covered = λ place kind low high e.
            ⊎_elim
            (λ (same : place ≡ k). or_left _ _ (subst (λ n. covers model leg (suc n) line ≡ true) (sym same) tells))
            (λ (ne : place ≡ k → ⊥). or_right (covers model leg (suc place) line) _ (h.covered place kind low (omega (arith, high, ne)) e))
            (cases_eq place k);
      }

  -- a hold that continues up to the check
  pub part_on : (group begin k : ℕ) (g : GroupId) (t : TaskId) (serial from to : ℕ) (own : List Line) → is_on_stack model leg t.0 serial (suc k) ≡ true
      → IsPart group begin k (Hold g t serial from to ∷ own) → IsPart group begin (suc k) (Hold g t serial from (leg.number + suc k) ∷ own)
  part_on group begin k g t serial from to own there h =
      let before : Line = Hold g t serial from to in
      let now : Line = Hold g t serial from (leg.number + suc k) in
      let one = All-head (IsRight group begin k) before own h.right in
      let rest = All-tail (IsRight group begin k) before own h.right in
      let from_is = one.from_is in
      let to_is = one.to_is in
      let order = one.order in
      let late = one.late in
      let longer : (m : ℕ) → m ≤ suc k → nat_le (moment_of model leg from) m ≡ true → covers model leg m now ≡ true =
      λ m le begun. and_from _ _ begun (le-leb m (moment_of model leg (leg.number + suc k)) (omega (arith, le))) in
      record {
        right = All-cons (IsRight group begin (suc k)) now own
            (record { named = one.named; first = one.first; last = suc k; from_is = from_is; to_is = refl; early = one.early; order = omega (arith, order, late); late = omega arith; blamed = one.blamed; stays = there })
            (All-weaker (IsRight group begin k) (IsRight group begin (suc k)) (right_later group begin k) own rest);
        covered = λ place kind low high e.
            ⊎_elim
            (λ (same : place ≡ k). or_left _ _ (longer (suc place) (omega (arith, high)) (le-leb (moment_of model leg from) (suc place) (omega (arith, same, from_is, order, late)))))
            (λ (ne : place ≡ k → ⊥).
            ⊎_elim
            (λ (by : covers model leg (suc place) before ≡ true). or_left _ _ (longer (suc place) (omega (arith, high)) (and_parts _ _ by).0))
            (λ (by : list_any (covers model leg (suc place)) own ≡ true). or_right (covers model leg (suc place) now) _ by)
            (or_cases _ _ (h.covered place kind low (omega (arith, high, ne)) e)))
            (cases_eq place k);
      }
