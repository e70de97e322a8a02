-- How the lines of a waiting group came about: by births, from a group that waited at the opening.
use Rattle.std.proofs.Common.{◌≡◌, ℕ, zero, suc, pred, ◌+◌, ◌-◌, ◌≤◌, Bool, true, false, ◌&&◌, List, [], ◌∷◌, ◌++◌, reverse, Option, Some, None, nat_eq, slice_get, append_assoc, append-nil, refl, sym, ap, ap₂, ◌∙◌, subst, arith}
use Rattle.std.proofs.lemmas.Bool.{and_from, cond-true, cond-false, eq-eqb, ne_eqb}
use Rattle.std.proofs.lemmas.List.{reverse-append}
use Rattle.std.proofs.lemmas.List.Elements.{All-nil}
use Rattle.lp_model.specs.declared.check.CheckKind.{CheckKind}
use Rattle.lp_model.specs.declared.check.ForkKind.{ForkKind}
use Rattle.lp_model.specs.declared.check.Blame.{Blame}
use Rattle.lp_model.specs.Rules.{Rules, IsLawful}
use Rattle.lp_definitions.specs.declared.event.Event.{Event}
use Rattle.lp_definitions.specs.declared.event.Event.TheVariants.{Fork}
use Rattle.lp_definitions.specs.Chain.{nobody, IsBirth}
use Rattle.lp_definitions.specs.Events.{fork}
use Rattle.lp_definitions.specs.Leg.{Leg, accepted, after, check}
use Rattle.lp_definitions.specs.Schedule.{Schedule, waits, first_check}
use Rattle.lp_definitions.specs.Sound.{IsSound}
use Rattle.lp_definitions.specs.Tasks.{Life, on_live}
use Rattle.lp_laws.proofs.Checks.{accepted-is, fork_no_check}
use Rattle.lp_laws.proofs.First.{first_check_is}
use Rattle.lp_laws.proofs.NoEarlier.{waits_too}
use Rattle.lp_laws.proofs.NextTasks.{forks, no_member}
use Rattle.lp_laws.proofs.Waiting.{Waiter, waits-from, Waited, InGroup, InParent, waited}
use Rattle.lp_definitions.specs.declared.line.Line.{Line}
use Rattle.lp_definitions.specs.Certificates.{group_id, task_id, birth_line, refusal_line, after_refusal, after_check, has_frame, first_blamed, with_birth, lines}
use Rattle.lp_definitions.specs.Judgement.{Birth, births, first_lines, first_group, is_birth, forks_group, moment_of}
use Rattle.lp_laws.proofs.LeadingTo.{IsFaultless, plain_lines, plain_births, first_before, one_birth_more, Leads, leads_first, leads_on}
use Rattle.lp_laws.proofs.MadeParts.{IsRight, IsPart, part_plain, part_well, part_later}
use Rattle.lp_laws.proofs.MadeSteps.{none_goes, someone, blamed_well, next}

module _ (model : Rules) (leg : Leg) where
  -- these lines, the newest in front, lead to the group after k events, and its own begin after so many
  pub data Tale : (k group begin : ℕ) → List Line → Type 0 where
    Opened : (k group : ℕ) (ls : List Line) → waits model leg nobody zero group ≡ true → IsPart model leg group zero k ls → Tale k group zero ls
    Branched :
        (k group place parent_group begin : ℕ) (ls own older : List Line) (birth : IsBirth model leg nobody place parent_group group) →
        ls ≡ own ++ birth_line group (task_id birth.parent) (leg.number + suc place) ∷ older → Tale (suc place) parent_group begin older →
        begin ≤ place → suc place ≤ k → IsPart model leg group (suc place) k own → Tale k group (suc place) ls

  -- the group's own lines, in front of older ones
  pub record OwnFirst (k group begin : ℕ) (ls : List Line) : Type 0 where
    pub own : List Line
    pub older : List Line
    pub is : ls ≡ own ++ older
    pub part : IsPart model leg group begin k own
    pub begun : begin ≤ k
    pub bare : (has : ℕ → ℕ → Bool) (at t : ℕ) (why : Blame) → after_refusal has group at (t, why) older ≡ refusal_line group at (t, why) ++ older
    pub again : (more : List Line) → IsPart model leg group begin (suc k) more → Tale (suc k) group begin (more ++ older)

  own_first : (k group begin : ℕ) (ls : List Line) → Tale k group begin ls → OwnFirst k group begin ls
  own_first k group begin ls (Opened n g l opens part) =
      record {
        own = ls;
        older = [];
        is = sym (append-nil ls);
        part = part;
        begun = omega arith;
        bare = λ has at t why. refl;
        again = λ more h. subst (Tale (suc k) group zero) (sym (append-nil more)) (Opened (suc k) group more opens h);
      }
  own_first k group begin ls (Branched n g place parent_group start l own older birth is tale low high part) =
      let born = birth_line group (task_id birth.parent) (leg.number + suc place) in
      record {
        own = own;
        older = born ∷ older;
        is = is;
        part = part;
        begun = high;
        bare = λ has at t why. refl;
        again = λ more h. Branched (suc k) group place parent_group start (more ++ born ∷ older) more older birth refl tale low (omega (arith, high)) h;
      }

  -- an event that is no check of the group
  unchecked : (k group begin : ℕ) (ls : List Line) → check model leg k group ≡ None → Tale k group begin ls → Tale (suc k) group begin ls
  unchecked k group begin ls none tale =
      let f = own_first k group begin ls tale in
      subst (Tale (suc k) group begin) (sym f.is) (f.again f.own (part_later model leg group begin k f.own none f.part))

  -- ---- What the judgement reads

  module _ (lawful : IsLawful model) (sound : IsSound leg.opening) where
    opened : (k group : ℕ) (ls : List Line) → waits model leg nobody zero group ≡ true → IsPart model leg group zero k ls → Leads model leg k group zero (first_lines (reverse ls)) (births (reverse ls))
    opened k group ls opens part =
        let plain = part_plain model leg group zero k ls part in
        subst (λ own. Leads model leg k group zero own (births (reverse ls))) (sym (plain_lines (reverse ls) plain))
        (subst (Leads model leg k group zero (reverse ls)) (sym (plain_births (reverse ls) plain))
        (leads_first model leg k group (reverse ls) opens (part_well model leg lawful sound group zero k ls part)))

    -- a birth, as the judgement reads it
    abbrev birth_of : (group place parent : ℕ) (own : List Line) → Birth
    birth_of group place parent own = record { group = group; parent = parent; at = leg.number + suc place; lines = reverse own }

    place_of : (place : ℕ) → pred (moment_of model leg (leg.number + suc place)) ≡ place
    place_of place = let m : leg.number + suc place - leg.number ≡ suc place = omega arith in ap pred m

    is_forked : (group place parent_group : ℕ) (own : List Line) (birth : IsBirth model leg nobody place parent_group group) → is_birth model leg parent_group (birth_of group place birth.parent own) ≡ true
    is_forked group place parent_group own birth =
        let b = birth_of group place birth.parent own in
        let tests : (nat_eq birth.parent birth.parent && nat_eq group group) && (nat_eq birth.life.group parent_group && nat_eq (model.child_group birth.life.group group birth.how) group) ≡ true =
        and_from _ _ (and_from _ _ (eq-eqb birth.parent birth.parent refl) (eq-eqb group group refl))
        (and_from _ _ (eq-eqb birth.life.group parent_group birth.member) (eq-eqb (model.child_group birth.life.group group birth.how) group (ap (λ g. model.child_group g group birth.how) birth.member ∙ birth.own))) in
        ap (λ n. forks_group model leg (accepted model leg n) (after model leg n birth.parent) parent_group b) (place_of place)
        ∙ (ap₂ (λ o fate. forks_group model leg o fate parent_group b) birth.event birth.live ∙ tests)

    forked_from : (group place parent_group : ℕ) (own : List Line) (birth : IsBirth model leg nobody place parent_group group) → first_group model leg group (birth_of group place birth.parent own ∷ []) ≡ parent_group
    forked_from group place parent_group own birth =
        ap (λ n. on_live 0 (λ x. x.group) (after model leg n birth.parent)) (place_of place) ∙ (ap (on_live 0 (λ x. x.group)) birth.live ∙ birth.member)

    abbrev IsGood : (k group : ℕ) → List Line → ℕ → Type 0
    IsGood k group own begin = IsFaultless model leg (record { group = group; begin = begin; until = k; lines = reverse own })

    branched : (k group place parent_group begin : ℕ) (own older : List Line) (birth : IsBirth model leg nobody place parent_group group)
        → Leads model leg (suc place) parent_group begin (first_lines (reverse older)) (births (reverse older)) → begin ≤ place → suc place ≤ k → IsPart model leg group (suc place) k own
        → Leads model leg k group (suc place) (first_lines (reverse older)) (births (reverse older) ++ birth_of group place birth.parent own ∷ [])
    branched k group place parent_group begin own older birth before low high part =
        let b = birth_of group place birth.parent own in
        let m : moment_of model leg b.at ≡ suc place = omega arith in
        let good = subst (IsGood k group own) (sym m) (part_well model leg lawful sound group (suc place) k own part) in
        subst (λ n. Leads model leg k group n (first_lines (reverse older)) (births (reverse older) ++ b ∷ [])) m
        (leads_on model leg k parent_group begin (first_lines (reverse older)) (births (reverse older)) b
        (subst (λ n. Leads model leg n parent_group begin (first_lines (reverse older)) (births (reverse older))) (sym m) before)
        (omega (arith, m, low)) (omega (arith, m, high)) (is_forked group place parent_group own birth) (forked_from group place parent_group own birth) good)

    turned : (own older : List Line) (born : Line) → reverse (own ++ born ∷ older) ≡ reverse older ++ born ∷ reverse own
    turned own older born =
        reverse-append own (born ∷ older)
        ∙ (ap (λ ls. ls ++ reverse own) (reverse-append (born ∷ []) older) ∙ append_assoc (reverse older) (born ∷ []) (reverse own))

    pub leads : (k group begin : ℕ) (ls : List Line) → Tale k group begin ls → Leads model leg k group begin (first_lines (reverse ls)) (births (reverse ls))
    leads k group begin ls (Opened n g l opens part) = opened k group ls opens part
    leads k group begin ls (Branched n g place parent_group start l own older birth is tale low high part) =
        let born = birth_line group (task_id birth.parent) (leg.number + suc place) in
        let back = ap reverse is ∙ turned own older born in
        let first_is = ap first_lines back ∙ first_before (reverse older) (reverse own) (group_id group) (task_id birth.parent) (leg.number + suc place) in
        let births_are = ap births back ∙ one_birth_more (reverse older) (reverse own) (group_id group) (task_id birth.parent) (leg.number + suc place) (part_plain model leg group (suc place) k own part) in
        subst (λ own_lines. Leads model leg k group (suc place) own_lines (births (reverse ls))) (sym first_is)
        (subst (Leads model leg k group (suc place) (first_lines (reverse older))) (sym births_are)
        (branched k group place parent_group start own older birth (leads (suc place) parent_group start older tale) low high part))

-- ---- The lines that are made

module _ (model : Rules) (leg : Leg) (lawful : IsLawful model) (sound : IsSound leg.opening) where
  abbrev first : Schedule
  first = first_check model leg

  -- a check of a group that still waits
  by_blame : (k group begin : ℕ) (w : Waiter model leg first (suc k) group) (kind : CheckKind) (checked : check model leg k group ≡ Some kind) (ls : List Line) → Tale model leg k group begin ls
      → (o : Option (ℕ × Blame)) → first_blamed model leg (Some kind) (suc k) group ≡ o → Tale model leg (suc k) group begin (after_check (has_frame model leg (suc k)) group (leg.number + suc k) o ls)
  by_blame k group begin w kind checked ls tale None e = absurd (someone model leg lawful sound k group w kind checked e)
  by_blame k group begin w kind checked ls tale (Some (t, why)) e =
      let f = own_first model leg k group begin ls tale in
      let at = leg.number + suc k in
      let n = next model leg lawful sound k group w kind checked begin t why f.own f.older f.begun (blamed_well model leg lawful sound k group w kind checked t why e) f.part (f.bare (has_frame model leg (suc k)) at t why) in
      subst (Tale model leg (suc k) group begin) (sym (ap (after_refusal (has_frame model leg (suc k)) group at (t, why)) f.is ∙ n.is)) (f.again n.lines n.part)

  lines_next : (k group : ℕ) → lines model leg (suc k) group ≡ after_check (has_frame model leg (suc k)) group (leg.number + suc k) (first_blamed model leg (check model leg k group) (suc k) group) (with_birth model leg k group (accepted model leg k) (lines model leg k))
  unfolding lines
  lines_next k group = refl

  lines_zero : (group : ℕ) → lines model leg zero group ≡ []
  unfolding lines
  lines_zero group = refl

  lines_by : (k group : ℕ) (o : Option CheckKind) (ls : List Line) → check model leg k group ≡ o → with_birth model leg k group (accepted model leg k) (lines model leg k) ≡ ls
      → lines model leg (suc k) group ≡ after_check (has_frame model leg (suc k)) group (leg.number + suc k) (first_blamed model leg o (suc k) group) ls
  lines_by k group o ls e is =
      lines_next k group
      ∙ ap₂ (λ c older. after_check (has_frame model leg (suc k)) group (leg.number + suc k) (first_blamed model leg c (suc k) group) older) e is

  by_check : (k group begin : ℕ) → Waiter model leg first (suc k) group → with_birth model leg k group (accepted model leg k) (lines model leg k) ≡ lines model leg k group → Tale model leg k group begin (lines model leg k group)
      → (o : Option CheckKind) → check model leg k group ≡ o → Tale model leg (suc k) group begin (lines model leg (suc k) group)
  by_check k group begin w is tale None e = subst (Tale model leg (suc k) group begin) (sym (lines_by k group None (lines model leg k group) e is)) (unchecked model leg k group begin (lines model leg k group) e tale)
  by_check k group begin w is tale (Some kind) e =
      subst (Tale model leg (suc k) group begin) (sym (lines_by k group (Some kind) (lines model leg k group) e is))
      (by_blame k group begin w kind e (lines model leg k group) tale (first_blamed model leg (Some kind) (suc k) group) refl)

  -- no task is forked into a group of its own that waits already
  no_birth : (k group : ℕ) → Waiter model leg first k group → (o : Option Event) → accepted model leg k ≡ o → with_birth model leg k group o (lines model leg k) ≡ lines model leg k group
  no_birth k group w (Some (Fork p c how)) e =
      let f = forks leg.bounds (after model leg k) p.0 c.0 how (accepted-is leg.bounds (after model leg k) (slice_get leg.events k) (Fork p c how) e) in
      let parents = on_live 0 (λ x. x.group) (after model leg k p.0) in
      let other : nat_eq group c.0 ≡ false = ne_eqb group c.0 (λ same. no_member model.child_group leg sound lawful.child k k c.0 w.task w.life (omega arith) f.unused f.positive w.live (w.member ∙ same)) in
      cond-false (nat_eq group c.0 && nat_eq group (model.child_group parents c.0 how)) (birth_line group p (leg.number + suc k) ∷ lines model leg k parents) (lines model leg k group)
      (ap (λ b. b && nat_eq group (model.child_group parents c.0 how)) other)
  no_birth k group w (Some _) e = refl
  no_birth k group w None e = refl

  -- how a waiting group's lines are
  pub record IsTold (k group : ℕ) : Type 0 where
    pub begin : ℕ
    pub tale : Tale model leg k group begin (lines model leg k group)

  begun : (k group begin : ℕ) (ls : List Line) → Tale model leg k group begin ls → begin ≤ k
  begun k group begin ls tale = (own_first model leg k group begin ls tale).begun

  -- a group that was just born
  told_child : (k group parent_group : ℕ) (how : ForkKind) (v : Waiter model leg first k parent_group) → accepted model leg k ≡ Some (fork v.task group how) → model.child_group parent_group group how ≡ group → IsTold k parent_group → IsTold (suc k) group
  told_child k group parent_group how v event own before =
      let none : (g : ℕ) → check model leg k g ≡ None = λ g. no_check g (check model leg k g) refl in
      let birth : IsBirth model leg nobody k parent_group group = record { parent = v.task; how = how; event = event; own = own; life = v.life; live = v.live; member = v.member } in
      let parents = on_live 0 (λ (x : Life). x.group) (after model leg k v.task) in
      let parent_is : parents ≡ parent_group = ap (on_live 0 (λ x. x.group)) v.live ∙ v.member in
      let line = birth_line group (task_id v.task) (leg.number + suc k) in
      let chosen : nat_eq group group && nat_eq group (model.child_group parents group how) ≡ true =
      and_from _ _ (eq-eqb group group refl) (eq-eqb group (model.child_group parents group how) (sym (ap (λ g. model.child_group g group how) parent_is ∙ own))) in
      let made : with_birth model leg k group (accepted model leg k) (lines model leg k) ≡ line ∷ lines model leg k parent_group =
      ap (λ o. with_birth model leg k group o (lines model leg k)) event
      ∙ (cond-true (nat_eq group group && nat_eq group (model.child_group parents group how)) (line ∷ lines model leg k parents) (lines model leg k group) chosen
      ∙ ap (λ g. line ∷ lines model leg k g) parent_is) in
      let older = lines model leg k parent_group in
      let low = begun k parent_group before.begin older before.tale in
      record {
        begin = suc k;
        tale = subst (Tale model leg (suc k) group (suc k)) (sym (lines_by k group None (line ∷ older) (none group) made))
            (Branched (suc k) group k parent_group before.begin (line ∷ older) [] older birth refl (unchecked model leg k parent_group before.begin older (none parent_group) before.tale) low (omega arith) (record {
              right = All-nil (IsRight model leg group (suc k) (suc k));
              covered = λ place kind least most e. absurd (omega (arith, least, most));
            }));
      }
    where
      no_check : (g : ℕ) (o : Option CheckKind) → check model leg k g ≡ o → check model leg k g ≡ None
      no_check g None e = e
      no_check g (Some kind) e = absurd (fork_no_check model leg k g v.task group how kind event e)

  told_next : (k group : ℕ) (w : Waiter model leg first (suc k) group) → ((g : ℕ) → Waiter model leg first k g → IsTold k g) → Waited model leg first k group w.task w.life → IsTold (suc k) group
  told_next k group w before (InGroup v) =
      let h = before group v in
      record { begin = h.begin; tale = by_check k group h.begin w (no_birth k group v (accepted model leg k) refl) h.tale (check model leg k group) refl }
  told_next k group w before (InParent g how v event origin own is unused positive) =
      told_child k group g how v (subst (λ n. accepted model leg k ≡ Some (fork v.task n how)) is event) (subst (λ n. model.child_group g n how ≡ n) is own) (before g v)

  pub told : (k group : ℕ) → Waiter model leg first k group → IsTold k group
  told zero group w =
      let opens = waits_too model leg lawful sound first nobody (first_check_is model leg) (none_goes model leg lawful sound) zero group (waits-from model leg first zero group w) in
      record {
        begin = zero;
        tale = subst (Tale model leg zero group zero) (sym (lines_zero group))
            (Opened zero group [] opens (record { right = All-nil (IsRight model leg group zero zero); covered = λ place kind least most e. absurd (omega (arith, most)) }));
      }
  told (suc k) group w = told_next k group w (λ g v. told k g v) (waited model leg lawful sound first k group w)
