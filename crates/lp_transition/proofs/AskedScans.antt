-- A scan that passes over tasks of whose groups it would refuse a member answers as one that asks all.
use Rattle.std.proofs.Common.{◌≡◌, ℕ, zero, suc, ◌<◌, ◌≤◌, Bool, true, false, not, ◌&&◌, ◌||◌, List, [], ◌∷◌, ◌++◌, length, take, get_or, map, Option, Some, None, is_some, is_none, if◌then◌else◌, nat_eq, refl, sym, ap, ap₂, subst, ◌∙◌, ◌↔◌, ⊎_elim, arith}
use Rattle.std.proofs.lemmas.Bool.{false≢true, cond-true, cond-false, cases_Bool, and_parts, and_from, eqb-true, eq-eqb, not-true, not_from_false, false_from_ne_true}
use Rattle.std.specs.Option.{option_map}
use Rattle.std.specs.List.{filter, filter_map, cons_option, list_any, range_with_len}
use Rattle.lp_stack.specs.TaskView.{TaskView}
use Rattle.lp_numbers.specs.Numbers.{Numbers, has}
use Rattle.lp_model.specs.Rules.{Rules, IsLawful}
use Rattle.lp_model.specs.declared.check.Blame.{Blame}
use Rattle.lp_model.specs.declared.check.CheckKind.{CheckKind}
use Rattle.lp_model.specs.declared.verdict.Verdict.{Verdict}
use Rattle.lp_definitions.specs.Tasks.{Fate, Unused, Live, Dead, on_live, first_of}
use Rattle.lp_definitions.specs.Leg.{LegTask, State}
use Rattle.lp_definitions.specs.Sound.{IsSound}
use Rattle.lp_machine.specs.Machine.{view_of}
use Rattle.lp_machine.specs.Table.{Table, Engine, slot, state_in}
use Rattle.lp_tasks.specs.inside.Table.{is_in}
use Rattle.lp_transition.specs.inside.Invariant.{IsEngine}
use Rattle.lp_transition.specs.Scan.{waiting_view, views_of, verdict_of, verdicts_of, RefusesMember, MayLeaveOut, MayPassOver, is_of, member_verdict, first_refused, is_asked, verdicts_at, verdicts_among, AreEnough}
use Rattle.lp_tasks.specs.Passing.{passing}
use Rattle.lp_transition.specs.inside.ScanSteps.{tasks_of, is_judged, is_found, switches_by, all_admit}
use Rattle.lp_transition.proofs.ScanLists.{any-map, verdict-is, verdict-from}
use Rattle.lp_definitions.proofs.Quantifiers.{same_bool}
use Rattle.lp_transition.proofs.ScanGroups.{found-from, found-is}
use Rattle.lp_transition.proofs.ScanLemmas.{tasks-waiting}

-- ---- Lists with some left out

any_kept : {X : Type 0} (q p : X → Bool) (x : X) (kept rest : List X) (b : Bool) → q x ≡ b → list_any p kept ≡ list_any (λ y. q y && p y) rest → list_any p (if b then x ∷ kept else kept) ≡ ((b && p x) || list_any (λ y. q y && p y) rest)
any_kept q p x kept rest true e same = ap (λ b. p x || b) same
any_kept q p x kept rest false e same = same

-- one that was kept passes a test
pub any-filter : {X : Type 0} (q p : X → Bool) (xs : List X) → list_any p (filter q xs) ≡ list_any (λ x. q x && p x) xs
any-filter q p [] = refl
any-filter q p (x ∷ xs) = any_kept q p x (filter q xs) xs (q x) refl (any-filter q p xs)

-- where none is left out
all-kept : {X : Type 0} (q : X → Bool) (xs : List X) → list_any (λ x. not (q x)) xs ≡ false → filter q xs ≡ xs
all-kept q [] none = refl
all-kept q (x ∷ xs) none = kept_cons (q x) none (all-kept q xs)
  where
    kept_cons : (b : Bool) → (not b || list_any (λ y. not (q y)) xs) ≡ false → (list_any (λ y. not (q y)) xs ≡ false → filter q xs ≡ xs) → (if b then x ∷ filter q xs else filter q xs) ≡ x ∷ xs
    kept_cons true h more = ap (λ ys. x ∷ ys) (more h)
    kept_cons false h more = absurd (cc)

filter_short : {X : Type 0} (q : X → Bool) (xs : List X) → length (filter q xs) ≤ length xs
filter_short q [] = omega arith
filter_short q (x ∷ xs) = kept_cons (q x) (filter_short q xs)
  where
    kept_cons : (b : Bool) → length (filter q xs) ≤ length xs → length (if b then x ∷ filter q xs else filter q xs) ≤ suc (length xs)
    kept_cons true h = omega arith
    kept_cons false h = omega arith

-- where as many are there as before
long-kept : {X : Type 0} (q : X → Bool) (xs : List X) → length (filter q xs) ≡ length xs → filter q xs ≡ xs
long-kept q [] long = refl
long-kept q (x ∷ xs) long = kept_cons (q x) long (filter_short q xs) (long-kept q xs)
  where
    kept_cons : (b : Bool) → length (if b then x ∷ filter q xs else filter q xs) ≡ suc (length xs) → length (filter q xs) ≤ length xs → (length (filter q xs) ≡ length xs → filter q xs ≡ xs) → (if b then x ∷ filter q xs else filter q xs) ≡ x ∷ xs
    kept_cons true h short more = ap (λ ys. x ∷ ys) (more (omega arith))
    kept_cons false h short more = absurd (omega arith)

filter-map : {X Y : Type 0} (q : Y → Bool) (f : X → Y) (xs : List X) → filter q (map f xs) ≡ map f (filter (λ x. q (f x)) xs)
filter-map q f [] = refl
filter-map q f (x ∷ xs) = kept_cons (q (f x)) (filter-map q f xs)
  where
    kept_cons : (b : Bool) → filter q (map f xs) ≡ map f (filter (λ y. q (f y)) xs) → (if b then f x ∷ filter q (map f xs) else filter q (map f xs)) ≡ map f (if b then x ∷ filter (λ y. q (f y)) xs else filter (λ y. q (f y)) xs)
    kept_cons true h = ap (λ ys. f x ∷ ys) h
    kept_cons false h = h

pub map-map : {X Y Z : Type 0} (g : Y → Z) (f : X → Y) (xs : List X) → map g (map f xs) ≡ map (λ x. g (f x)) xs
map-map g f [] = refl
map-map g f (x ∷ xs) = ap (λ ys. g (f x) ∷ ys) (map-map g f xs)

length-tasks : (vs : List Verdict) → length (tasks_of vs) ≡ length vs
length-tasks [] = refl
length-tasks (v ∷ vs) = ap suc (length-tasks vs)

-- a verdict's task stands after those before it
pub task-at : (vs : List Verdict) (i : ℕ) (d : Verdict) → i < length vs → (rest : List ℕ) × (tasks_of vs ≡ tasks_of (take i vs) ++ (get_or vs i d).task.0 ∷ rest)
task-at [] i d h = absurd (omega arith)
task-at (v ∷ vs) zero d h = (tasks_of vs, refl)
task-at (v ∷ vs) (suc i) d h =
    let more = task-at vs i d (omega arith) in
    (more.0, ap (λ ts. v.task.0 ∷ ts) more.1)

-- ---- Tests that agree on who waits

module _ (s : State) (p q : ℕ → Bool) (agree : (t : ℕ) (x : LegTask) → s.tasks t ≡ Live x → nat_eq x.level s.target ≡ false → p t ≡ q t) where
  view_kept : (o : Option TaskView) (rest : List TaskView) → ((y : TaskView) → o ≡ Some y → p y.task ≡ q y.task) → filter (λ (v : TaskView). p v.task) rest ≡ filter (λ (v : TaskView). q v.task) rest
      → filter (λ (v : TaskView). p v.task) (cons_option o rest) ≡ filter (λ (v : TaskView). q v.task) (cons_option o rest)
  view_kept None rest same more = more
  view_kept (Some y) rest same more = ap₂ (λ b ys. if b then y ∷ ys else ys) (same y refl) more

  view_agrees : (t : ℕ) (fate : Fate LegTask) → s.tasks t ≡ fate → (y : TaskView) → waiting_view s.target t fate ≡ Some y → p y.task ≡ q y.task
  view_agrees t Unused e y given = absurd (cc)
  view_agrees t Dead e y given = absurd (cc)
  view_agrees t (Live x) e y given =
      ⊎_elim
      (λ (on : nat_eq x.level s.target ≡ true). let none = cond-true (nat_eq x.level s.target) None (Some (view_of t x)) on in absurd (cc))
      (λ (off : nat_eq x.level s.target ≡ false).
      let some = cond-false (nat_eq x.level s.target) None (Some (view_of t x)) off in
      let same : view_of t x ≡ y = cc in
      subst (λ (v : TaskView). p v.task ≡ q v.task) same (agree t x e off))
      (cases_Bool (nat_eq x.level s.target))

  views_agree : (ts : List ℕ) → filter (λ (v : TaskView). p v.task) (filter_map (λ t. waiting_view s.target t (s.tasks t)) ts) ≡ filter (λ (v : TaskView). q v.task) (filter_map (λ t. waiting_view s.target t (s.tasks t)) ts)
  views_agree [] = refl
  views_agree (t ∷ ts) = view_kept (waiting_view s.target t (s.tasks t)) (filter_map (λ u. waiting_view s.target u (s.tasks u)) ts) (view_agrees t (s.tasks t) refl) (views_agree ts)

  -- of the waiting tasks they keep the same
  pub views-agree : filter (λ (v : TaskView). p v.task) (views_of s) ≡ filter (λ (v : TaskView). q v.task) (views_of s)
  unfolding views_of
  views-agree = views_agree (range_with_len 1 s.bounds.tasks)

-- the verdicts of some of the waiting tasks
pub among_views : (model : Rules) (kind : CheckKind) (s : State) (p : ℕ → Bool) → filter (λ (v : Verdict). p v.task.0) (verdicts_of model kind s) ≡ map (verdict_of model kind s.aim) (filter (λ (v : TaskView). p v.task) (views_of s))
among_views model kind s p = filter-map (λ (v : Verdict). p v.task.0) (verdict_of model kind s.aim) (views_of s)

pub verdicts-agree : (model : Rules) (kind : CheckKind) (s : State) (p q : ℕ → Bool) → ((t : ℕ) (x : LegTask) → s.tasks t ≡ Live x → nat_eq x.level s.target ≡ false → p t ≡ q t)
    → filter (λ (v : Verdict). p v.task.0) (verdicts_of model kind s) ≡ filter (λ (v : Verdict). q v.task.0) (verdicts_of model kind s)
verdicts-agree model kind s p q agree = among_views model kind s p ∙ ap (map (verdict_of model kind s.aim)) (views-agree s p q agree) ∙ sym (among_views model kind s q)

-- ---- Scans that pass tasks over

module _ (model : Rules) (kind : CheckKind) (s : State) (sound : IsSound s) (looked : ℕ → Bool) where
  -- a waiting member of a group that is looked at, and refused or admitted
  pub record Found (refused : Bool) (group : ℕ) : Type 0 where
    pub number : ℕ
    pub task : LegTask
    pub live : s.tasks number ≡ Live task
    pub off : nat_eq task.level s.target ≡ false
    pub grouped : task.group ≡ group
    pub taken : looked number ≡ true
    pub told : (if refused then is_some (model.blame kind (view_of number task) s.aim) else is_none (model.blame kind (view_of number task) s.aim)) ≡ true

  module _ (table : Table) (there : (t : ℕ) (x : LegTask) → s.tasks t ≡ Live x → slot table t ≡ Some x) where
    pub among-is : (refused : Bool) (group : ℕ) → list_any (is_found table refused group) (verdicts_at model kind s looked) ≡ true → Found refused group
    among-is refused group h =
        let j = verdict-is model kind s (λ v. looked v.task.0 && is_found table refused group v) (sym (any-filter (λ (v : Verdict). looked v.task.0) (is_found table refused group) (verdicts_of model kind s)) ∙ h) in
        let told = if refused then is_some (model.blame kind (view_of j.number j.task) s.aim) else is_none (model.blame kind (view_of j.number j.task) s.aim) in
        let both = and_parts (looked j.number) (told && is_in group (slot table j.number)) j.passed in
        let parts = and_parts told (is_in group (slot table j.number)) both.1 in
        record {
          number = j.number;
          task = j.task;
          live = j.live;
          off = j.off;
          grouped = eqb-true j.task.group group (sym (ap (is_in group) (there j.number j.task j.live)) ∙ parts.1);
          taken = both.0;
          told = parts.0;
        }

    pub among-from : (refused : Bool) (group t : ℕ) (x : LegTask) → s.tasks t ≡ Live x → nat_eq x.level s.target ≡ false → x.group ≡ group → looked t ≡ true → (if refused then is_some (model.blame kind (view_of t x) s.aim) else is_none (model.blame kind (view_of t x) s.aim)) ≡ true
        → list_any (is_found table refused group) (verdicts_at model kind s looked) ≡ true
    among-from refused group t x live off grouped taken told =
        let bounds = sound.numbered t x live in
        let tells = if refused then is_some (model.blame kind (view_of t x) s.aim) else is_none (model.blame kind (view_of t x) s.aim) in
        any-filter (λ (v : Verdict). looked v.task.0) (is_found table refused group) (verdicts_of model kind s)
        ∙ verdict-from model kind s (λ v. looked v.task.0 && is_found table refused group v) (record {
          number = t;
          task = x;
          live = live;
          off = off;
          passed = and_from (looked t) (tells && is_in group (slot table t)) taken (and_from tells (is_in group (slot table t)) told (ap (is_in group) (there t x live) ∙ eq-eqb x.group group grouped));
        }) bounds.0 bounds.1

module _ (model : Rules) (lawful : IsLawful model) (kind : CheckKind) (s : State) (sound : IsSound s) (looked : ℕ → Bool) (others : MayPassOver model kind s looked) where
  module _ (table : Table) (there : (t : ℕ) (x : LegTask) → s.tasks t ≡ Live x → slot table t ≡ Some x) where
    -- a member whom a check refuses is one of those refused
    refuses_member : (group : ℕ) → RefusesMember model kind s group → list_any (is_found table true group) (verdicts_of model kind s) ≡ true
    refuses_member group h = found-from model lawful kind s sound table there true group h.member h.life h.live h.off h.grouped h.refused

    -- who waits and switches is looked at
    pub switches-looked : (t : ℕ) (x : LegTask) → s.tasks t ≡ Live x → nat_eq x.level s.target ≡ false → switches_by table (verdicts_of model kind s) x.group ≡ true → looked t ≡ true
    switches-looked t x live off switches =
        let whole = verdicts_of model kind s in
        let parts = and_parts (list_any (is_found table false x.group) whole) (not (list_any (is_found table true x.group) whole)) switches in
        ⊎_elim
        (λ (yes : looked t ≡ true). yes)
        (λ (out : looked t ≡ false). let refusal = refuses_member x.group (others t x live off out).refusal in let free = not-true (list_any (is_found table true x.group) whole) parts.1 in absurd (cc))
        (cases_Bool (looked t))

    -- where a member is looked at, and the group is refused, a refused one is looked at
    refusal-looked : (group : ℕ) → Found model kind s sound looked false group → list_any (is_found table true group) (verdicts_of model kind s) ≡ true → list_any (is_found table true group) (verdicts_at model kind s looked) ≡ true
    refusal-looked group f refused =
        let r = found-is model lawful kind s sound table there true group refused in
        ⊎_elim
        (λ (yes : looked r.number ≡ true). among-from model kind s sound looked table there true group r.number r.task r.live r.off r.grouped yes r.told)
        (λ (out : looked r.number ≡ false).
        let h = others r.number r.task r.live r.off out in
        let m = h.refusal in
        among-from model kind s sound looked table there true group m.member m.life m.live m.off (m.grouped ∙ r.grouped) (h.seen f.number f.task f.live f.off (f.grouped ∙ sym r.grouped) f.taken) m.refused)
        (cases_Bool (looked r.number))

    -- the groups that switch are told by those that are looked at
    pub switches-among : (group : ℕ) → switches_by table (verdicts_at model kind s looked) group ≡ switches_by table (verdicts_of model kind s) group
    switches-among group =
        let part = verdicts_at model kind s looked in
        let whole = verdicts_of model kind s in
        same_bool (switches_by table part group) (switches_by table whole group)
        (λ h.
        let parts = and_parts (list_any (is_found table false group) part) (not (list_any (is_found table true group) part)) h in
        let f = among-is model kind s sound looked table there false group parts.0 in
        and_from (list_any (is_found table false group) whole) (not (list_any (is_found table true group) whole))
        (found-from model lawful kind s sound table there false group f.number f.task f.live f.off f.grouped f.told)
        (not_from_false (list_any (is_found table true group) whole) (false_from_ne_true (list_any (is_found table true group) whole) (λ refused.
        let blocked = refusal-looked group f refused in
        let unblocked = not-true (list_any (is_found table true group) part) parts.1 in
        absurd (cc)))))
        (λ h.
        let parts = and_parts (list_any (is_found table false group) whole) (not (list_any (is_found table true group) whole)) h in
        let f = found-is model lawful kind s sound table there false group parts.0 in
        let taken = switches-looked f.number f.task f.live f.off (ap (switches_by table whole) f.grouped ∙ h) in
        and_from (list_any (is_found table false group) part) (not (list_any (is_found table true group) part))
        (among-from model kind s sound looked table there false group f.number f.task f.live f.off f.grouped taken f.told)
        (not_from_false (list_any (is_found table true group) part) (false_from_ne_true (list_any (is_found table true group) part) (λ refused.
        let r = among-is model kind s sound looked table there true group refused in
        let blocked = found-from model lawful kind s sound table there true group r.number r.task r.live r.off r.grouped r.told in
        let unblocked = not-true (list_any (is_found table true group) whole) parts.1 in
        absurd (cc)))))

  -- where nobody is refused, all are looked at
  all_looked : list_any (λ v. is_some v.blame) (verdicts_of model kind s) ≡ false → verdicts_at model kind s looked ≡ verdicts_of model kind s
  all_looked admitted =
      all-kept (λ (v : Verdict). looked v.task.0) (verdicts_of model kind s)
      (false_from_ne_true (list_any (λ v. not (looked v.task.0)) (verdicts_of model kind s)) (λ left.
      let j = verdict-is model kind s (λ v. not (looked v.task.0)) left in
      let h = (others j.number j.task j.live j.off (not-true (looked j.number) j.passed)).refusal in
      let bounds = sound.numbered h.member h.life h.live in
      let refusal = verdict-from model kind s (λ v. is_some v.blame) (record {
        number = h.member;
        task = h.life;
        live = h.live;
        off = h.off;
        passed = h.refused;
      }) bounds.0 bounds.1 in
      absurd (cc)))

  -- a scan completes the transition where each at whom it looks is admitted, and it looks at all who wait
  pub completes-among : (completed : Bool) → (completed ≡ true) ↔ ((all_admit (verdicts_at model kind s looked) ≡ true) × (tasks_of (verdicts_at model kind s looked) ≡ tasks_of (verdicts_of model kind s))) → completed ≡ all_admit (verdicts_of model kind s)
  completes-among completed tells =
      let part = verdicts_at model kind s looked in
      let whole = verdicts_of model kind s in
      same_bool completed (all_admit whole)
      (λ h.
      let both = tells.0 h in
      let long = sym (length-tasks part) ∙ ap length both.1 ∙ length-tasks whole in
      let same = long-kept (λ (v : Verdict). looked v.task.0) whole long in
      ap all_admit (sym same) ∙ both.0)
      (λ h.
      let parts = and_parts (not (nat_eq (length whole) 0)) (not (list_any (λ v. is_some v.blame) whole)) h in
      let same = all_looked (not-true (list_any (λ v. is_some v.blame) whole) parts.1) in
      tells.1 (ap all_admit same ∙ h, ap tasks_of same))

-- ---- The first refusal of a group

first_next : {X : Type 0} (o : Option X) (os ps : List (Option X)) → first_of os ≡ first_of ps → first_of (o ∷ os) ≡ first_of (o ∷ ps)
first_next None os ps same = same
first_next (Some x) os ps same = refl

-- it is kept where each verdict of a member is
first-filter : (s : State) (group : ℕ) (p : Verdict → Bool) → ((v : Verdict) → is_of s group v ≡ true → p v ≡ true) → (vs : List Verdict) → first_refused s group (filter p vs) ≡ first_refused s group vs
first-filter s group p keeps [] = refl
first-filter s group p keeps (v ∷ vs) = by (p v) refl (first-filter s group p keeps vs)
  where
    by : (b : Bool) → p v ≡ b → first_refused s group (filter p vs) ≡ first_refused s group vs → first_refused s group (if b then v ∷ filter p vs else filter p vs) ≡ first_refused s group (v ∷ vs)
    by true kept rest = first_next (member_verdict s group v) (map (member_verdict s group) (filter p vs)) (map (member_verdict s group) vs) rest
    by false out rest =
        let stranger : is_of s group v ≡ false = false_from_ne_true (is_of s group v) (λ mine. false≢true (sym out ∙ keeps v mine)) in
        rest ∙ sym (ap (λ (o : Option (ℕ × Blame)). first_of (o ∷ map (member_verdict s group) vs)) (cond-false (is_of s group v) (option_map {U = ℕ × Blame} (λ why. (v.task.0, why)) v.blame) None stranger))

-- a group is asked of whom a verdict is
pub asked-from : (model : Rules) (kind : CheckKind) (s : State) (looked asked : ℕ → Bool) (group : ℕ) (vs : List Verdict) → vs ≡ verdicts_at model kind s looked
    → ((t : ℕ) (x : LegTask) → s.tasks t ≡ Live x → looked t ≡ true → asked x.group ≡ true) → list_any (is_of s group) vs ≡ true → asked group ≡ true
asked-from model kind s looked asked group vs found only some =
    let seen = sym (any-filter (λ (v : Verdict). looked v.task.0) (is_of s group) (verdicts_of model kind s)) ∙ (ap (list_any (is_of s group)) (sym found) ∙ some) in
    let j = verdict-is model kind s (λ v. looked v.task.0 && is_of s group v) seen in
    let parts = and_parts (looked j.number) (on_live false (λ (x : LegTask). nat_eq x.group group) (s.tasks j.number)) j.passed in
    let mine : nat_eq j.task.group group ≡ true = sym (ap (on_live false (λ (x : LegTask). nat_eq x.group group)) j.live) ∙ parts.1 in
    ap asked (sym (eqb-true j.task.group group mine)) ∙ only j.number j.task j.live parts.0

-- ---- Verdicts that are enough

-- a scan that looks at all
pub all-looked : (model : Rules) (kind : CheckKind) (s : State) → verdicts_at model kind s (λ t. true) ≡ verdicts_of model kind s
all-looked model kind s = kept_all (verdicts_of model kind s)
  where
    kept_all : (ws : List Verdict) → filter (λ v. true) ws ≡ ws
    kept_all [] = refl
    kept_all (w ∷ ws) = ap (λ us. w ∷ us) (kept_all ws)

-- a scan may leave out nobody
pub all-enough : (model : Rules) (kind : CheckKind) (s : State) (vs : List Verdict) → vs ≡ verdicts_of model kind s → AreEnough model kind s vs
all-enough model kind s vs found = record {
  looked = λ t. true;
  others = λ t x live off out. absurd (false≢true (sym out));
  found = found ∙ sym (all-looked model kind s);
  first = λ group some. ap (first_refused s group) found;
}

-- groups that are left out are passed over
pub left-out : (model : Rules) (kind : CheckKind) (s : State) (asked : ℕ → Bool) → MayLeaveOut model kind s asked → MayPassOver model kind s (is_asked s asked)
left-out model kind s asked others t x live off out =
    let left : asked x.group ≡ false = sym (group_asked t x live) ∙ out in
    record {
      refusal = others t x live off left;
      seen = λ u y there waits grouped taken. absurd (false≢true (sym left ∙ ap asked (sym grouped) ∙ sym (group_asked u y there) ∙ taken));
    }
  where
    -- a live task's group
    group_asked : (u : ℕ) (y : LegTask) → s.tasks u ≡ Live y → is_asked s asked u ≡ asked y.group
    group_asked u y there = ap (on_live false (λ (z : LegTask). asked z.group)) there

-- the verdicts of the waiting tasks of some groups, where the others may be left out
pub among-enough : (model : Rules) (kind : CheckKind) (s : State) (asked : ℕ → Bool) (vs : List Verdict) → MayLeaveOut model kind s asked → vs ≡ verdicts_among model kind s asked → AreEnough model kind s vs
among-enough model kind s asked vs others found = record {
  looked = is_asked s asked;
  others = left-out model kind s asked others;
  found = found;
  first = λ group some.
      let mine = asked-from model kind s (is_asked s asked) asked group vs found (λ t x live seen. sym (ap (on_live false (λ (y : LegTask). asked y.group)) live) ∙ seen) some in
      ap (first_refused s group) found ∙ first-filter s group (λ v. is_asked s asked v.task.0) (λ v of. member_asked group mine (s.tasks v.task.0) of) (verdicts_of model kind s);
}
  where
    member_asked : (group : ℕ) → asked group ≡ true → (fate : Fate LegTask) → on_live false (λ (x : LegTask). nat_eq x.group group) fate ≡ true → on_live false (λ (x : LegTask). asked x.group) fate ≡ true
    member_asked group mine Unused of = absurd (false≢true of)
    member_asked group mine (Live x) of = ap asked (eqb-true x.group group of) ∙ mine
    member_asked group mine Dead of = absurd (false≢true of)

-- a scan that leaves out all finds nothing
pub asked_none : (model : Rules) (kind : CheckKind) (s : State) → [] ≡ verdicts_among model kind s (λ group. false)
asked_none model kind s = sym (verdicts-agree model kind s (is_asked s (λ group. false)) (λ t. false) (λ t x live off. ap (on_live false (λ (y : LegTask). false)) live) ∙ kept_none (verdicts_of model kind s))
  where
    kept_none : (ws : List Verdict) → filter (λ v. false) ws ≡ []
    kept_none [] = refl
    kept_none (w ∷ ws) = kept_none ws

-- a scan of a kind that the model doesn't use may leave out all
pub none-enough : (model : Rules) → IsLawful model → (kind : CheckKind) (s : State) → model.uses kind ≡ false → AreEnough model kind s []
none-enough model lawful kind s unused =
    among-enough model kind s (λ group. false) []
    (λ t x live off out. record { member = t; life = x; live = live; off = off; grouped = refl; refused = ap is_some (lawful.blames_unused kind (view_of t x) s.aim unused) })
    (asked_none model kind s)

-- what a scan finds of the waiting tasks of some groups
pub asked-among : (model : Rules) (kind : CheckKind) (s : State) (asked : ℕ → Bool) (views : List TaskView) (vs : List Verdict) → views ≡ filter (λ view. is_asked s asked view.task) (views_of s) → vs ≡ map (verdict_of model kind s.aim) views → vs ≡ verdicts_among model kind s asked
asked-among model kind s asked views vs seen found = found ∙ ap (map (verdict_of model kind s.aim)) seen ∙ sym (among_views model kind s (is_asked s asked))

-- the verdicts of all are of the members of the waiting set
pub tasks-judged : (model : Rules) (kind : CheckKind) (e : Engine) (waiting : Numbers) → IsEngine e waiting → tasks_of (verdicts_of model kind (state_in e)) ≡ passing 0 65536 (has waiting)
tasks-judged model kind e waiting kept =
    map-map (λ (v : Verdict). v.task.0) (verdict_of model kind (state_in e).aim) (views_of (state_in e)) ∙ tasks-waiting e waiting kept

-- ---- Who is judged

module _ (model : Rules) (lawful : IsLawful model) (kind : CheckKind) (s : State) (sound : IsSound s) (vs : List Verdict) (enough : AreEnough model kind s vs) where
  judged_by : (t : ℕ) → is_judged vs t ≡ list_any (λ v. enough.looked v.task.0 && nat_eq t v.task.0) (verdicts_of model kind s)
  judged_by t =
      any-map (λ (v : Verdict). v.task.0) (nat_eq t) vs
      ∙ ap (list_any (λ (v : Verdict). nat_eq t v.task.0)) enough.found
      ∙ any-filter (λ (v : Verdict). enough.looked v.task.0) (λ v. nat_eq t v.task.0) (verdicts_of model kind s)

  -- who is judged waits
  pub judged-waits : (t : ℕ) → is_judged vs t ≡ true → (x : LegTask) × (s.tasks t ≡ Live x) × (nat_eq x.level s.target ≡ false)
  judged-waits t h =
      let j = verdict-is model kind s (λ v. enough.looked v.task.0 && nat_eq t v.task.0) (sym (judged_by t) ∙ h) in
      let parts = and_parts (enough.looked j.number) (nat_eq t j.number) j.passed in
      (j.task, ap s.tasks (eqb-true t j.number parts.1) ∙ j.live, j.off)

  -- who waits and switches is judged
  pub switches-judged : (table : Table) → ((u : ℕ) (y : LegTask) → s.tasks u ≡ Live y → slot table u ≡ Some y) → (t : ℕ) (x : LegTask) → s.tasks t ≡ Live x → nat_eq x.level s.target ≡ false → switches_by table (verdicts_of model kind s) x.group ≡ true → is_judged vs t ≡ true
  switches-judged table there t x live off switches =
      let taken = switches-looked model lawful kind s sound enough.looked enough.others table there t x live off switches in
      let bounds = sound.numbered t x live in
      judged_by t
      ∙ verdict-from model kind s (λ v. enough.looked v.task.0 && nat_eq t v.task.0) (record {
        number = t;
        task = x;
        live = live;
        off = off;
        passed = and_from (enough.looked t) (nat_eq t t) taken (eq-eqb t t refl);
      }) bounds.0 bounds.1
