-- The numbers of a leg's certificates are written whole.
use Rattle.std.proofs.Common.{◌≡◌, ℕ, zero, suc, ◌+◌, ◌-◌, ◌<◌, ◌≤◌, Bool, true, false, not, ◌&&◌, List, [], ◌∷◌, ◌++◌, length, map, take, reverse, All, Option, None, Some, if◌then◌else◌, nat_eq, refl, sym, subst, arith}
use Rattle.std.specs.Prelude.{IfSome, slice_get}
use Rattle.std.specs.List.{range_with_len}
use Rattle.std.specs.Option.{option_map}
use Rattle.std.proofs.lemmas.Bool.{cond_both}
use Rattle.std.proofs.lemmas.List.{get_or-reverse, length-reverse}
use Rattle.std.proofs.lemmas.List.Elements.{All-append, All-cons, All-contains, All-filter, All-head, All-map, All-nil, All-tail, All-take, All-weaker}
use Rattle.lp_stack.specs.declared.number.TaskId.{TaskId}
use Rattle.lp_model.specs.declared.check.ForkKind.{ForkKind}
use Rattle.lp_model.specs.declared.check.Blame.{Blame}
use Rattle.lp_model.specs.declared.check.Blame.TheVariants as blame
use Rattle.lp_model.specs.declared.check.CheckKind.{CheckKind}
use Rattle.lp_model.specs.Rules.{Rules, IsLawful}
use Rattle.lp_definitions.specs.declared.event.Event.{Event}
use Rattle.lp_definitions.specs.declared.event.Event.TheVariants.{Fork}
use Rattle.lp_definitions.specs.declared.refusal.Refusal.TheVariants.{UnknownTask}
use Rattle.lp_stack.specs.declared.view.Class.TheVariants.{Normal}
use Rattle.lp_stack.specs.declared.view.Mode.TheVariants.{Kernel}
use Rattle.lp_definitions.specs.Tasks.{Fate, Unused, Live, Dead, Life, first_of, map_live, not_in, not_of, on_live, out_of_range, outline, outlines, refusal, unknown_task, used}
use Rattle.lp_definitions.specs.Leg.{Leg, accepted, after, check}
use Rattle.lp_definitions.specs.Schedule.{first_check, view, waits}
use Rattle.lp_definitions.specs.Sound.{IsSound}
use Rattle.lp_laws.proofs.Checks.{accepted-is}
use Rattle.lp_laws.proofs.First.{first_check_is}
use Rattle.lp_laws.proofs.NextTasks.{none_first, numbered, unfit}
use Rattle.lp_laws.proofs.SoundAfter.{serials}
use Rattle.lp_definitions.specs.declared.cert.Claim.{Claim}
use Rattle.lp_definitions.specs.declared.cert.Claim.TheVariants.{Waiting, Floor}
use Rattle.lp_definitions.specs.declared.line.Line.{Line}
use Rattle.lp_definitions.specs.declared.line.Line.TheVariants.{Hold, Busy, Born}
use Rattle.lp_definitions.specs.Certificates.{after_check, after_refusal, birth_line, cert, certs_by, certs_of, completion, first_blamed, has_frame, lines, member_blame, refusal_line, waiting_groups, with_birth}
use Rattle.lp_laws.proofs.Completions.{completion_below}
use Rattle.lp_laws.proofs.GroupsInRange.{GroupsAreInRange, group_in_range}
use Rattle.lp_trace.specs.Laws.{IsWhole, IsWholeCert, IsWholeEvent, IsWholeReason}

-- ---- Lists

pub range_below : (a n m : ℕ) → a + n ≤ m → All (λ x. x < m) (range_with_len a n)
range_below a zero m h = All-nil (λ x. x < m)
range_below a (suc n) m h = All-cons (λ x. x < m) a (range_with_len (a + 1) n) (omega arith) (range_below (a + 1) n m (omega arith))

All-reverse : {A : Type 0} (P : A → Type 0) (xs : List A) → All P xs → All P (reverse xs)
All-reverse P xs h k d below =
    let long : length (reverse xs) ≡ length xs = length-reverse xs in
    let inside : k < length xs = omega arith in
    subst P (sym (get_or-reverse xs k d inside)) (h (length xs - 1 - k) d (omega arith))

first_of_some : {A : Type 0} (P : A → Type 0) (os : List (Option A)) → All (λ o. IfSome o P) os → IfSome (first_of os) P
first_of_some P [] h = tt
first_of_some P (None ∷ os) h = first_of_some P os (All-tail (λ o. IfSome o P) None os h)
first_of_some P (Some x ∷ os) h = All-head (λ o. IfSome o P) (Some x) os h

-- ---- One refusal

abbrev IsWholeBlame : ℕ × Blame → Type 0
IsWholeBlame (t, blame.Frame serial) = IsWhole t × IsWhole serial
IsWholeBlame (t, blame.Busy) = IsWhole t
IsWholeBlame (t, blame.Unused) = Unit {0}

one_line : (line : Line) → IsWholeReason line → All IsWholeReason (line ∷ [])
one_line line h = All-cons IsWholeReason line [] h (All-nil IsWholeReason)

refusal_whole : (group at : ℕ) (b : ℕ × Blame) → IsWhole group → IsWhole at → IsWholeBlame b → All IsWholeReason (refusal_line group at b)
refusal_whole group at (t, blame.Frame serial) g a h = one_line (Hold (record { 0 = group }) (record { 0 = t }) serial at at) (g, h.0, h.1, a, a)
refusal_whole group at (t, blame.Busy) g a h = one_line (Busy (record { 0 = group }) (record { 0 = t }) at) (g, h, a)
refusal_whole group at (t, blame.Unused) g a h = All-nil IsWholeReason

module _ (has : (task serial : ℕ) → Bool) (group at : ℕ) (g : IsWhole group) (a : IsWhole at) where
  in_front : (b : ℕ × Blame) (ls : List Line) → IsWholeBlame b → All IsWholeReason ls → All IsWholeReason (refusal_line group at b ++ ls)
  in_front b ls w h = All-append IsWholeReason (refusal_line group at b) ls (refusal_whole group at b g a w) h

  after_refusal_whole : (b : ℕ × Blame) (ls : List Line) → IsWholeBlame b → All IsWholeReason ls → All IsWholeReason (after_refusal has group at b ls)
  after_refusal_whole b [] w h = in_front b [] w h
  after_refusal_whole b (Hold hg task serial from to ∷ older) w h =
      cond_both (has task.0 serial) (Hold hg task serial from at ∷ older) (refusal_line group at b ++ Hold hg task serial from to ∷ older) (All IsWholeReason)
      (λ _. let front = All-head IsWholeReason (Hold hg task serial from to) older h in All-cons IsWholeReason (Hold hg task serial from at) older (front.0, front.1, front.2, front.3, a) (All-tail IsWholeReason (Hold hg task serial from to) older h))
      (λ _. in_front b (Hold hg task serial from to ∷ older) w h)
  after_refusal_whole b (Busy hg task to ∷ older) w h = in_front b (Busy hg task to ∷ older) w h
  after_refusal_whole b (Born hg parent to ∷ older) w h = in_front b (Born hg parent to ∷ older) w h

  after_check_whole : (b : Option (ℕ × Blame)) (ls : List Line) → IfSome b IsWholeBlame → All IsWholeReason ls → All IsWholeReason (after_check has group at b ls)
  after_check_whole None ls w h = h
  after_check_whole (Some b) ls w h = after_refusal_whole b ls w h

-- ---- The lines of a leg

live_known : (f : Fate Life) → not (on_live false (λ x. true) (map_live outline f)) ≡ false → (y : Life) × (f ≡ Live y)
live_known Unused e = absurd (cc e)
live_known (Live y) e = (y, refl)
live_known Dead e = absurd (cc e)

module _ (model : Rules) (lawful : IsLawful model) (leg : Leg) (sound : IsSound leg.opening) (in_range : GroupsAreInRange leg.opening) (few : leg.bounds.tasks ≤ 65535) (short : leg.number + length leg.events ≤ 1000000) where
  blame_whole : (kind : CheckKind) (k t : ℕ) (x : Life) → k ≤ length leg.events → IsWhole t → after model leg k t ≡ Live x → (o : Option Blame) → model.blame kind (view leg (first_check model leg) t x) leg.aim ≡ o → IfSome (option_map {U = ℕ × Blame} (λ why. (t, why)) o) IsWholeBlame
  blame_whole kind k t x le w live None e = tt
  blame_whole kind k t x le w live (Some (blame.Frame serial)) e =
      let held = lawful.blames_there kind (view leg (first_check model leg) t x) leg.aim serial e in
      let past = (serials model leg lawful sound (first_check model leg) (first_check_is model leg).legal k t x live).1 in
      let small = All-contains (λ frame. frame.serial ≤ leg.number + k) (view leg (first_check model leg) t x).frames held.0 past held.1 in
      (w, omega (arith, small, held.2))
  blame_whole kind k t x le w live (Some blame.Busy) e = w
  blame_whole kind k t x le w live (Some blame.Unused) e = tt

  member_whole : (kind : CheckKind) (k group t : ℕ) → k ≤ length leg.events → IsWhole t → (f : Fate Life) → after model leg k t ≡ f → IfSome (option_map {U = ℕ × Blame} (λ why. (t, why)) (on_live None (λ x. if nat_eq x.group group then model.blame kind (view leg (first_check model leg) t x) leg.aim else None) f)) IsWholeBlame
  member_whole kind k group t le w Unused e = tt
  member_whole kind k group t le w (Live x) e =
      cond_both (nat_eq x.group group) (model.blame kind (view leg (first_check model leg) t x) leg.aim) None (λ o. IfSome (option_map {U = ℕ × Blame} (λ why. (t, why)) o) IsWholeBlame) (λ _. blame_whole kind k t x le w e (model.blame kind (view leg (first_check model leg) t x) leg.aim) refl) (λ _. tt)
  member_whole kind k group t le w Dead e = tt

  blamed_whole : (kind : Option CheckKind) (k group : ℕ) → k ≤ length leg.events → IfSome (first_blamed model leg kind k group) IsWholeBlame
  blamed_whole None k group le = tt
  blamed_whole (Some kind) k group le =
      first_of_some IsWholeBlame (map (λ t. option_map {U = ℕ × Blame} (λ why. (t, why)) (member_blame model leg kind k group t)) (range_with_len 1 leg.bounds.tasks))
      (All-map (λ o. IfSome o IsWholeBlame) (λ t. option_map {U = ℕ × Blame} (λ why. (t, why)) (member_blame model leg kind k group t)) (range_with_len 1 leg.bounds.tasks)
      (All-weaker (λ x. x < 65537) (λ t. IfSome (option_map {U = ℕ × Blame} (λ why. (t, why)) (member_blame model leg kind k group t)) IsWholeBlame) (λ t small. member_whole kind k group t le (omega arith) (after model leg k t) refl) (range_with_len 1 leg.bounds.tasks) (range_below 1 leg.bounds.tasks 65537 (omega arith))))

  -- the parent of a birth, and its group
  parent_whole : (k : ℕ) (p c : TaskId) (how : ForkKind) → accepted model leg k ≡ Some (Fork p c how) → IsWhole p.0
  unfolding refusal
  parent_whole k p c how e =
      let now = after model leg k in
      let seen = outlines now in
      let free = accepted-is leg.bounds now (slice_get leg.events k) (Fork p c how) e in
      let a = none_first (unknown_task seen p.0) (out_of_range leg.bounds c.0 ∷ used seen c.0 ∷ not_of Normal seen p.0 ∷ not_in Kernel seen p.0 ∷ []) free in
      let live = live_known (now p.0) (unfit (not (on_live false (λ x. true) (seen p.0))) UnknownTask a.0) in
      let within = (numbered model.child_group leg sound k p.0 live.0 live.1).1 in
      omega (arith, within, few)

  group_small : (k t : ℕ) (f : Fate Life) → after model leg k t ≡ f → on_live 0 (λ (x : Life). x.group) f ≤ 65535
  group_small k t Unused e = omega arith
  group_small k t (Live x) e = let within = group_in_range model lawful leg in_range k t x e in omega (arith, within, few)
  group_small k t Dead e = omega arith

  birth_whole : (k group : ℕ) → k < length leg.events → IsWhole group → (event : Option Event) → accepted model leg k ≡ event → ((g : ℕ) → g ≤ 65535 → All IsWholeReason (lines model leg k g)) → All IsWholeReason (lines model leg k group) → All IsWholeReason (with_birth model leg k group event (lines model leg k))
  birth_whole k group lt w (Some (Fork p c how)) e each own =
      let parents = on_live 0 (λ (x : Life). x.group) (after model leg k p.0) in
      cond_both (nat_eq group c.0 && nat_eq group (model.child_group parents c.0 how)) (birth_line group p (leg.number + suc k) ∷ lines model leg k parents) (lines model leg k group) (All IsWholeReason)
      (λ _. All-cons IsWholeReason (birth_line group p (leg.number + suc k)) (lines model leg k parents) (w, parent_whole k p c how e, omega (arith, short)) (each parents (group_small k p.0 (after model leg k p.0) refl)))
      (λ _. own)
  birth_whole k group lt w None e each own = own
  birth_whole k group lt w (Some event) e each own = own

  lines_whole : (k : ℕ) → k ≤ length leg.events → (group : ℕ) → group ≤ 65535 → All IsWholeReason (lines model leg k group)
  unfolding lines
  lines_whole zero le group small = All-nil IsWholeReason
  lines_whole (suc k) le group small =
      let w : IsWhole group = omega arith in
      after_check_whole (has_frame model leg (suc k)) group (leg.number + suc k) w (omega (arith, short)) (first_blamed model leg (check model leg k group) (suc k) group) (with_birth model leg k group (accepted model leg k) (lines model leg k)) (blamed_whole (check model leg k group) (suc k) group le)
      (birth_whole k group le w (accepted model leg k) refl (lines_whole k (omega arith)) (lines_whole k (omega arith) group small))

  -- ---- Its certificates

  cert_whole : (claim : Claim) (k group : ℕ) → k ≤ length leg.events → group < 65536 → IsWholeCert (cert model leg claim k group)
  cert_whole claim k group le small =
      record {
        leg = omega (arith, short);
        group = omega arith;
        upto = omega (arith, short);
        lines = All-reverse IsWholeReason (lines model leg k group) (lines_whole k le group (omega arith));
      }

  waiting_small : (k : ℕ) → All (λ group. group < 65536) (waiting_groups model leg k)
  waiting_small k = All-filter (waits model leg (first_check model leg) k) (λ group. group < 65536) (range_with_len 0 (suc leg.bounds.tasks)) (range_below 0 (suc leg.bounds.tasks) 65536 (omega arith))

  certs_at : (claim : Claim) (k : ℕ) (groups : List ℕ) → k ≤ length leg.events → All (λ group. group < 65536) groups → All IsWholeCert (map (cert model leg claim k) groups)
  certs_at claim k groups le small =
      All-map IsWholeCert (cert model leg claim k) groups (All-weaker (λ group. group < 65536) (λ group. IsWholeCert (cert model leg claim k group)) (λ group h. cert_whole claim k group le h) groups small)

  certs_by_whole : (o : Option ℕ) → completion model leg ≡ o → All IsWholeCert (certs_by model leg o)
  certs_by_whole (Some zero) e = All-nil IsWholeCert
  certs_by_whole (Some (suc k)) e =
      let below = completion_below model leg (suc k) e in
      certs_at Floor k (take 1 (waiting_groups model leg k)) (omega (arith, below)) (All-take (λ group. group < 65536) 1 (waiting_groups model leg k) (waiting_small k))
  certs_by_whole None e = certs_at Waiting (length leg.events) (waiting_groups model leg (length leg.events)) (omega arith) (waiting_small (length leg.events))

  pub certs_whole : All IsWholeCert (certs_of model leg)
  certs_whole = certs_by_whole (completion model leg) refl

  completed_by : (o : Option ℕ) → completion model leg ≡ o → IsWholeEvent (option_map (λ k. leg.number + k) o)
  completed_by None e = tt
  completed_by (Some k) e = let below = completion_below model leg k e in omega (arith, below, short)

  pub completed_whole : IsWholeEvent (option_map (λ k. leg.number + k) (completion model leg))
  completed_whole = completed_by (completion model leg) refl
