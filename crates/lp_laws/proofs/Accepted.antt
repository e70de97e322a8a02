-- A certificate without a fault tells a chain of refusals and births to its group.
use Rattle.std.proofs.Common.{◌≡◌, ℕ, zero, suc, pred, ◌+◌, ◌-◌, ◌<◌, ◌≤◌, Bool, true, false, not, ◌&&◌, ◌||◌, List, [], ◌∷◌, ◌++◌, length, map, Contains, Option, Some, None, is_none, IsFalse, nat_eq, nat_le, nat_lt, refl, sym, ap, ap₂, ◌∙◌, subst, ⊎_elim, arith}
use Rattle.std.specs.List.{list_any, flat_map}
use Rattle.std.specs.Option.{option_map}
use Rattle.std.proofs.lemmas.Bool.{cases_Bool, cases_eq, and_parts, or_cases, or_parts, eqb-true, leb-true, ltb-true, ltb-false, not-false, false_from_ne_true, cond-true, cond-false}
use Rattle.lp_model.specs.declared.check.CheckKind.{CheckKind}
use Rattle.lp_model.specs.declared.check.Blame.{Blame}
use Rattle.lp_model.specs.declared.check.Blame.TheVariants.{Frame as Held, Busy}
use Rattle.lp_model.specs.Rules.{Rules, IsLawful}
use Rattle.lp_definitions.specs.declared.event.Event.{Event}
use Rattle.lp_definitions.specs.declared.event.Event.TheVariants.{Fork}
use Rattle.lp_definitions.specs.Events.{fork}
use Rattle.lp_definitions.specs.Tasks.{Life, Fate, Unused, Live, Dead, fits, first_of, outlines}
use Rattle.lp_definitions.specs.Leg.{Leg, has_member, accepted, after, check}
use Rattle.lp_definitions.specs.Schedule.{view, waits}
use Rattle.lp_definitions.specs.Sound.{IsSound}
use Rattle.lp_definitions.specs.Chain.{nobody, IsRefused, IsRefusedBetween, IsBirth, Chain, FromOpening, FromBirth}
use Rattle.lp_laws.proofs.NextTasks.{none_first, unfit, Came, Stayed, Born as BornNow, changed_group, came, unused_before}
use Rattle.lp_laws.proofs.Waiting.{live_same}
use Rattle.lp_laws.proofs.Checks.{Member, one_there}
use Rattle.lp_definitions.specs.declared.cert.Cert.{Cert}
use Rattle.lp_definitions.specs.declared.cert.Claim.{Claim}
use Rattle.lp_definitions.specs.declared.line.Line.{Line}
use Rattle.lp_definitions.specs.declared.line.Line.TheVariants.{Hold, Busy as OnCpu, Born}
use Rattle.lp_definitions.specs.declared.cert_fault.CertFault.TheVariants.{NoSuchGroup, NotOnStack, NoBlame, Gap, BadBirth, NoLeg}
use Rattle.lp_definitions.specs.Judgement.{Birth, first_lines, births, Section, last_group, first_bad, same_claim, is_held_by, is_busy, lies_in, moment_of, no_leg, forks_group, is_birth, birth_tests, first_group, sections, has_stray, no_such_group, blame_by, blame_at, is_on_stack, line_test, line_tests, covers, is_covered, gap_test, cert_fault}
use Rattle.lp_laws.proofs.Stacks.{rising, Stands, stands-is, same_frame}

-- ---- Tests that fit nowhere

none_append : {A : Type 0} (xs ys : List (Option A)) → first_of (xs ++ ys) ≡ None → (first_of xs ≡ None) × (first_of ys ≡ None)
none_append [] ys e = (refl, e)
none_append (None ∷ xs) ys e = none_append xs ys e
none_append (Some x ∷ xs) ys e = absurd (cc)

first_bad_none : (n start : ℕ) (ok : ℕ → Bool) → first_bad n start ok ≡ None → (i : ℕ) → start ≤ i → i < start + n → ok i ≡ true
unfolding first_bad
first_bad_none zero start ok e i low high = absurd (omega arith)
first_bad_none (suc n) start ok e i low high =
    ⊎_elim
    (λ (h : ok start ≡ true). ⊎_elim (λ (same : i ≡ start). ap ok same ∙ h) (λ (ne : i ≡ start → ⊥). first_bad_none n (suc start) ok (sym (cond-true _ _ _ h) ∙ e) i (omega (arith, ne)) (omega arith)) (cases_eq i start))
    (λ (h : ok start ≡ false). let bad : Some start ≡ None = sym (cond-false _ _ _ h) ∙ e in absurd (cc))
    (cases_Bool (ok start))

map_none : {A B : Type 0} (f : A → B) (o : Option A) → option_map f o ≡ None → o ≡ None
map_none f None e = refl
map_none f (Some x) e = absurd (cc)

pub held-is : (serial : ℕ) (o : Option Blame) → is_held_by serial o ≡ true → o ≡ Some (Held serial)
held-is serial (Some (Held by)) e = ap (λ n. Some (Held n)) (eqb-true _ _ e)
held-is serial _ e = absurd (cc)

busy-is : (o : Option Blame) → is_busy o ≡ true → o ≡ Some Busy
busy-is (Some Busy) e = refl
busy-is _ e = absurd (cc)

suc_pred : (m : ℕ) → 0 < m → suc (pred m) ≡ m
suc_pred zero lt = absurd (omega arith)
suc_pred (suc m) lt = refl

module _ (model : Rules) (leg : Leg) where
  -- a live task stays in its group
  group_on : (j k t : ℕ) (y x : Life) → j ≤ k → after model leg j t ≡ Live y → ((z : Life) → after model leg k t ≡ Live z → z.group ≡ y.group) → Came model.child_group leg.bounds k (after model leg k) (accepted model leg k) t x → x.group ≡ y.group
  group_on j k t y x le live before (Stayed z c was is) = ap (λ v. v.group) is ∙ (changed_group k c z ∙ before z was)
  group_on j k t y x le live before (BornNow p how z event was unused positive within is) = let none = unused_before model.child_group leg j k t le unused in absurd (cc)

  pub group_stays : (j k t : ℕ) (y x : Life) → j ≤ k → after model leg j t ≡ Live y → after model leg k t ≡ Live x → x.group ≡ y.group
  group_stays j zero t y x le live_y live_x =
      let same : j ≡ zero = omega arith in
      ap (λ v. v.group) (live_same x y (after model leg zero t) live_x (subst (λ n. after model leg n t ≡ Live y) same live_y))
  group_stays j (suc k) t y x le live_y live_x =
      ⊎_elim
      (λ (same : j ≡ suc k). ap (λ v. v.group) (live_same x y (after model leg (suc k) t) live_x (subst (λ n. after model leg n t ≡ Live y) same live_y)))
      (λ (ne : j ≡ suc k → ⊥). group_on j k t y x (omega (arith, ne)) live_y (λ z was. group_stays j k t y z (omega (arith, ne)) live_y was) (came model.child_group leg k t x live_x))
      (cases_eq j (suc k))

  -- at this event of the leg, a check of the group, a live member has this blame
  pub record BlamedAt (moment group t : ℕ) (blame : Blame) : Type 0 where
    pub kind : CheckKind
    pub is_check : check model leg (pred moment) group ≡ Some kind
    pub life : Life
    pub live : after model leg moment t ≡ Live life
    pub member : life.group ≡ group
    pub blamed : model.blame kind (view leg nobody t life) leg.aim ≡ Some blame

  blamed_by : (moment group t : ℕ) (blame : Blame) (o : Option CheckKind) (fate : Fate Life) → check model leg (pred moment) group ≡ o → after model leg moment t ≡ fate → blame_by model leg o group t fate ≡ Some blame → BlamedAt moment group t blame
  blamed_by moment group t blame (Some kind) (Live x) c live e =
      ⊎_elim
      (λ (h : nat_eq x.group group ≡ true). record { kind = kind; is_check = c; life = x; live = live; member = eqb-true _ _ h; blamed = sym (cond-true _ _ _ h) ∙ e })
      (λ (h : nat_eq x.group group ≡ false). let bad : None ≡ Some blame = sym (cond-false _ _ _ h) ∙ e in absurd (cc))
      (cases_Bool (nat_eq x.group group))
  blamed_by moment group t blame (Some kind) Unused c live e = absurd (cc)
  blamed_by moment group t blame (Some kind) Dead c live e = absurd (cc)
  blamed_by moment group t blame None fate c live e = absurd (cc)

  pub blamed-is : (moment group t : ℕ) (blame : Blame) → blame_at model leg group moment t ≡ Some blame → BlamedAt moment group t blame
  blamed-is moment group t blame e = blamed_by moment group t blame (check model leg (pred moment) group) (after model leg moment t) refl refl e

module _ (model : Rules) (leg : Leg) (lawful : IsLawful model) (sound : IsSound leg.opening) where
  -- whose blame at a check is Busy isn't admitted there
  refused_busy : (j group t : ℕ) (kind : CheckKind) → check model leg j group ≡ Some kind → BlamedAt model leg (suc j) group t Busy → IsRefused model leg nobody kind (suc j) group
  refused_busy j group t kind e b =
      let same : b.kind ≡ kind = cc (e, b.is_check) in
      record {
        task = t;
        life = b.life;
        live = b.live;
        member = b.member;
        refused = subst (λ c. IsFalse (model.admits c (view leg nobody t b.life) leg.aim)) same (false_from_ne_true _ (λ admitted.
            let none = lawful.blames_none b.kind (view leg nobody t b.life) leg.aim admitted in
            let busy = b.blamed in
            absurd (cc)));
      }

  -- who was blamed by a frame isn't admitted as long as the frame stands on the stack
  refused_held : (f j group t serial : ℕ) (kind : CheckKind) → f ≤ suc j → BlamedAt model leg f group t (Held serial) → Stands model leg t serial f → Stands model leg t serial (suc j) → IsRefused model leg nobody kind (suc j) group
  refused_held f j group t serial kind le b here there =
      let same : here.frame ≡ there.frame = same_frame model leg lawful sound f (suc j) t serial le here there in
      let one : here.life ≡ b.life = live_same here.life b.life (after model leg f t) here.live b.live in
      let then_there = subst (λ z. Contains (view leg nobody t z).frames here.frame) one here.there in
      let still_there = subst (λ v. Contains (view leg nobody t there.life).frames v) (sym same) there.there in
      record {
        task = t;
        life = there.life;
        live = there.live;
        member = group_stays model leg f (suc j) t b.life there.life le b.live there.live ∙ b.member;
        refused = lawful.holds b.kind kind (view leg nobody t b.life) (view leg nobody t there.life) leg.aim here.frame (rising model leg lawful sound f t b.life b.live) (rising model leg lawful sound (suc j) t there.life there.live) refl (b.blamed ∙ ap (λ n. Some (Held n)) (sym here.is)) then_there still_there;
      }

  -- a line that covers a check says why it refused
  refused_line : (section : Section) (line : Line) (j : ℕ) (kind : CheckKind) → check model leg j section.group ≡ Some kind → line_test model leg section line ≡ None → covers model leg (suc j) line ≡ true → IsRefused model leg nobody kind (suc j) section.group
  refused_line section (Hold g t serial from to) j kind e ok c =
      let f = moment_of model leg from in
      let l = moment_of model leg to in
      let span = and_parts (nat_le f (suc j)) (nat_le (suc j) l) c in
      let low : f ≤ suc j = leb-true f (suc j) span.0 in
      let high : suc j ≤ l = leb-true (suc j) l span.1 in
      let placed = nat_le from to && (lies_in section f && lies_in section l) in
      let is_held = is_held_by serial (blame_at model leg section.group f t.0) in
      let stands = is_on_stack model leg t.0 serial in
      let off = first_bad (suc l - f) f stands in
      let off_fault = option_map (λ (moment : ℕ). NotOnStack (leg.number + moment)) off in
      let tests = none_first (fits (not (placed && is_held)) (NoBlame from)) (off_fault ∷ []) ok in
      let held = and_parts placed is_held (not-false (placed && is_held) (unfit (not (placed && is_held)) (NoBlame from) tests.0)) in
      let b = blamed-is model leg f section.group t.0 (Held serial) (held-is serial (blame_at model leg section.group f t.0) held.1) in
      let each = first_bad_none (suc l - f) f stands (map_none (λ (moment : ℕ). NotOnStack (leg.number + moment)) off (none_first off_fault [] tests.1).0) in
      let here = stands-is model leg t.0 serial f (each f (omega arith) (omega (arith, low, high))) in
      let there = stands-is model leg t.0 serial (suc j) (each (suc j) low (omega (arith, low, high))) in
      refused_held f j section.group t.0 serial kind low b here there
  refused_line section (OnCpu g t at) j kind e ok c =
      let busy = and_parts _ _ (not-false _ (unfit _ (NoBlame at) ok)) in
      let b = blamed-is model leg (moment_of model leg at) section.group t.0 Busy (busy-is _ busy.1) in
      refused_busy j section.group t.0 kind e (subst (λ m. BlamedAt model leg m section.group t.0 Busy) (eqb-true _ _ c) b)
  refused_line section (Born g p at) j kind e ok c = absurd (cc)

  refused_lines : (section : Section) (lines : List Line) (j : ℕ) (kind : CheckKind) → check model leg j section.group ≡ Some kind → first_of (map (line_test model leg section) lines) ≡ None → list_any (covers model leg (suc j)) lines ≡ true → IsRefused model leg nobody kind (suc j) section.group
  refused_lines section [] j kind e ok c = absurd (cc)
  refused_lines section (line ∷ lines) j kind e ok c =
      let tests = none_first (line_test model leg section line) (map (line_test model leg section) lines) ok in
      ⊎_elim
      (λ (h : covers model leg (suc j) line ≡ true). refused_line section line j kind e tests.0 h)
      (λ (h : list_any (covers model leg (suc j)) lines ≡ true). refused_lines section lines j kind e tests.1 h)
      (or_cases _ _ c)

  some_check : (o : Option CheckKind) (kind : CheckKind) → o ≡ Some kind → is_none o ≡ true → ⊥
  some_check None kind e n = cc
  some_check (Some k) kind e n = cc

  refused_in : (section : Section) → first_of (line_tests model leg section) ≡ None → gap_test model leg section ≡ None → IsRefusedBetween model leg nobody section.begin section.until section.group
  refused_in section lines gap j kind low high e =
      let covered = is_covered model leg section in
      let each = first_bad_none (section.until - section.begin) section.begin covered (map_none (λ place. Gap (leg.number + suc place)) _ gap) j low (omega (arith, low, high)) in
      ⊎_elim
      (λ (h : is_none (check model leg j section.group) ≡ true). absurd (some_check (check model leg j section.group) kind e h))
      (λ (h : list_any (covers model leg (suc j)) section.lines ≡ true). refused_lines section section.lines j kind e lines h)
      (or_cases _ _ each)

  -- ---- The chain

  -- a birth line's fork
  birth_by : (place from : ℕ) (birth : Birth) (o : Option Event) (fate : Fate Life) → accepted model leg place ≡ o → after model leg place birth.parent ≡ fate → forks_group model leg o fate from birth ≡ true → IsBirth model leg nobody place from birth.group
  birth_by place from birth (Some (Fork p c how)) (Live x) event live e =
      let one = and_parts (nat_eq p.0 birth.parent && nat_eq c.0 birth.group) (nat_eq x.group from && nat_eq (model.child_group x.group c.0 how) birth.group) e in
      let two = and_parts (nat_eq p.0 birth.parent) (nat_eq c.0 birth.group) one.0 in
      let three = and_parts (nat_eq x.group from) (nat_eq (model.child_group x.group c.0 how) birth.group) one.1 in
      let p_is : p.0 ≡ birth.parent = eqb-true _ _ two.0 in
      let c_is : c.0 ≡ birth.group = eqb-true _ _ two.1 in
      let from_is : x.group ≡ from = eqb-true _ _ three.0 in
      let own_is : model.child_group x.group c.0 how ≡ birth.group = eqb-true _ _ three.1 in
      record {
        parent = birth.parent;
        how = how;
        event = event ∙ ap₂ (λ a b. Some (fork a b how)) p_is c_is;
        own = ap₂ (λ a b. model.child_group a b how) (sym from_is) (sym c_is) ∙ own_is;
        life = x;
        live = live;
        member = from_is;
      }
  birth_by place from birth (Some (Fork p c how)) Unused event live e = absurd (cc)
  birth_by place from birth (Some (Fork p c how)) Dead event live e = absurd (cc)
  birth_by place from birth (Some _) fate event live e = absurd (cc)
  birth_by place from birth None fate event live e = absurd (cc)

  birth-is : (from : ℕ) (birth : Birth) → is_birth model leg from birth ≡ true → IsBirth model leg nobody (pred (moment_of model leg birth.at)) from birth.group
  birth-is from birth e =
      let place = pred (moment_of model leg birth.at) in
      birth_by place from birth (accepted model leg place) (after model leg place birth.parent) refl refl e

  -- what leads to a section: with its refusals it is a chain
  abbrev LeadsTo : ℕ → ℕ → Type 0
  LeadsTo begin group = (k : ℕ) → begin ≤ k → IsRefusedBetween model leg nobody begin k group → Chain model leg nobody group k

  chain_of : (last group begin : ℕ) (lines : List Line) (rest : List Birth) → LeadsTo begin group → begin ≤ last → first_of (birth_tests model leg last group begin rest) ≡ None → first_of (flat_map (line_tests model leg) (sections model leg last group begin lines rest)) ≡ None → first_of (map (gap_test model leg) (sections model leg last group begin lines rest)) ≡ None → Chain model leg nobody (last_group group rest) last
  chain_of last group begin lines [] leads le born lined gapped =
      let section : Section = record { group = group; begin = begin; until = last; lines = lines } in
      leads last le (refused_in section (none_append (line_tests model leg section) [] lined).0 (none_first (gap_test model leg section) [] gapped).0)
  chain_of last group begin lines (birth ∷ more) leads le born lined gapped =
      let m = moment_of model leg birth.at in
      let place = pred m in
      let section : Section = record { group = group; begin = begin; until = m; lines = lines } in
      let after_it = sections model leg last birth.group m birth.lines more in
      let in_time = nat_lt begin m && nat_le m last in
      let births_ok = none_first (fits (not (in_time && is_birth model leg group birth)) (BadBirth birth.at)) (birth_tests model leg last birth.group m more) born in
      let both = and_parts in_time (is_birth model leg group birth) (not-false (in_time && is_birth model leg group birth) (unfit (not (in_time && is_birth model leg group birth)) (BadBirth birth.at) births_ok.0)) in
      let times = and_parts (nat_lt begin m) (nat_le m last) both.0 in
      let low : begin < m = ltb-true begin m times.0 in
      let high : m ≤ last = leb-true m last times.1 in
      let next : suc place ≡ m = suc_pred m (omega (arith, low)) in
      let lines_ok = none_append (line_tests model leg section) (flat_map (line_tests model leg) after_it) lined in
      let gaps_ok = none_first (gap_test model leg section) (map (gap_test model leg) after_it) gapped in
      let refused = refused_in section lines_ok.0 gaps_ok.0 in
      let before : Chain model leg nobody group place = leads place (omega (arith, low, next)) (λ j kind a b e. refused j kind a (omega (arith, b, next)) e) in
      let is = birth-is group birth both.1 in
      chain_of last birth.group m birth.lines more (λ k at_least r. FromBirth birth.group k group place before is (omega (arith, at_least, next)) (subst (λ n. IsRefusedBetween model leg nobody n k birth.group) (sym next) r)) high births_ok.1 lines_ok.1 gaps_ok.1

  -- ---- The whole certificate

  -- what a certificate without a fault tells
  pub record Told (cert : Cert) : Type 0 where
    pub begun : leg.number ≤ cert.upto
    pub there : cert.upto ≤ leg.number + length leg.events
    pub chain : Chain model leg nobody cert.group.0 (moment_of model leg cert.upto)
    pub someone : Member (after model leg (moment_of model leg cert.upto)) cert.group.0

  pub told : (claim : Claim) (cert : Cert) → cert_fault model leg claim cert ≡ None → Told cert
  unfolding cert_fault
  told claim cert e =
      let last = moment_of model leg cert.upto in
      let rest = births cert.lines in
      let first = first_group model leg cert.group.0 rest in
      let parts = sections model leg last first zero (first_lines cert.lines) rest in
      let lined = flat_map (line_tests model leg) parts in
      let gapped = map (gap_test model leg) parts in
      let group_fault = fits (no_such_group model leg last cert.group.0 first rest parts) NoSuchGroup in
      let one = none_first (fits (no_leg model leg claim cert) NoLeg) (birth_tests model leg last first zero rest ++ (group_fault ∷ lined ++ gapped)) e in
      let two = none_append (birth_tests model leg last first zero rest) (group_fault ∷ lined ++ gapped) one.1 in
      let three = none_first group_fault (lined ++ gapped) two.1 in
      let four = none_append lined gapped three.1 in
      let early = nat_lt cert.upto leg.number in
      let late = nat_lt (leg.number + length leg.events) cert.upto in
      let over = nat_lt 1000000 cert.upto in
      let other = not (nat_eq cert.leg leg.number) in
      let ends = or_parts early (late || over) (or_parts other (early || (late || over)) (or_parts (not (same_claim cert.claim claim)) (other || (early || (late || over))) (unfit (no_leg model leg claim cert) NoLeg one.0)).1).1 in
      let strays = list_any (has_stray model leg) parts in
      let peopled = has_member leg.bounds (outlines (after model leg last)) cert.group.0 in
      let claimed = nat_eq (last_group first rest) cert.group.0 in
      let opens = waits model leg nobody zero first in
      let a = or_parts (not claimed) (not opens || (strays || not peopled)) (unfit (no_such_group model leg last cert.group.0 first rest parts) NoSuchGroup three.0) in
      let b = or_parts (not opens) (strays || not peopled) a.1 in
      let c = or_parts strays (not peopled) b.1 in
      let same : last_group first rest ≡ cert.group.0 = eqb-true _ _ (not-false claimed a.0) in
      let chain = chain_of last first zero (first_lines cert.lines) rest (λ k le r. FromOpening first k (not-false opens b.0) r) (omega arith) two.0 four.0 four.1 in
      record {
        begun = ltb-false _ _ ends.0;
        there = ltb-false _ _ (or_parts late over ends.1).0;
        chain = subst (λ g. Chain model leg nobody g last) same chain;
        someone = one_there leg.bounds (after model leg last) cert.group.0 (not-false peopled c.1);
      }
