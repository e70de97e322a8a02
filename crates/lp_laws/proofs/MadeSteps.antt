-- What a check that refuses a waiting group makes of the group's lines.
use Rattle.std.proofs.Common.{◌≡◌, ℕ, zero, suc, ◌+◌, ◌<◌, ◌≤◌, true, false, List, [], ◌∷◌, ◌++◌, map, Option, Some, None, if◌then◌else◌, nat_eq, refl, sym, ap, ◌∙◌, ⊎_elim, arith}
use Rattle.std.specs.List.{range_with_len, list_any}
use Rattle.std.specs.Option.{option_map}
use Rattle.std.proofs.lemmas.Bool.{and_from, cases_Bool, cases_eq, cond-true, cond-false, eq-eqb, ne_eqb, le-leb}
use Rattle.std.proofs.lemmas.List.Elements.{All-head}
use Rattle.lp_stack.specs.TaskView.{TaskView}
use Rattle.lp_model.specs.declared.check.CheckKind.{CheckKind}
use Rattle.lp_model.specs.declared.check.Blame.{Blame}
use Rattle.lp_model.specs.declared.check.Blame.TheVariants.{Frame as Held, Busy, Unused as NotUsed}
use Rattle.lp_model.specs.Rules.{Rules, IsLawful}
use Rattle.lp_definitions.specs.Chain.{nobody}
use Rattle.lp_definitions.specs.Leg.{Leg, after, check}
use Rattle.lp_definitions.specs.Schedule.{Schedule, view, IsLegal, first_check}
use Rattle.lp_definitions.specs.Sound.{IsSound}
use Rattle.lp_definitions.specs.Tasks.{Life, Fate, Unused, Live, Dead, on_live, first_of}
use Rattle.lp_laws.proofs.Chains.{refused_so_far}
use Rattle.lp_laws.proofs.Checks.{check-is}
use Rattle.lp_laws.proofs.First.{first_check_is}
use Rattle.lp_laws.proofs.NoEarlier.{views_alike}
use Rattle.lp_laws.proofs.NextTasks.{numbered}
use Rattle.lp_laws.proofs.Waiting.{Waiter, waits-from}
use Rattle.lp_definitions.specs.declared.line.Line.{Line}
use Rattle.lp_definitions.specs.declared.line.Line.TheVariants.{Hold, Busy as OnCpu, Born}
use Rattle.lp_definitions.specs.Certificates.{group_id, task_id, refusal_line, after_refusal, has_frame, member_blame, first_blamed}
use Rattle.lp_definitions.specs.Judgement.{blame_by, blame_at, is_on_stack, covers, moment_of}
use Rattle.lp_laws.proofs.Accepted.{group_stays, blamed-is}
use Rattle.lp_laws.proofs.Held.{between, blamed_stands}
use Rattle.lp_laws.proofs.MadeParts.{IsHold, IsRight, IsPart, part_more, part_on}

-- ---- The first of some

none_there : {A B : Type 0} (f : A → B) (o : Option A) → option_map f o ≡ None → o ≡ None
none_there f None e = refl
none_there f (Some x) e = absurd (cc)

none_later : {A : Type 0} (o : Option A) (os : List (Option A)) → first_of (o ∷ os) ≡ None → (o ≡ None) × (first_of os ≡ None)
none_later None os e = (refl, e)
none_later (Some x) os e = absurd (cc)

none_between : {A : Type 0} (at : ℕ → Option A) (n start : ℕ) → first_of (map at (range_with_len start n)) ≡ None → (t : ℕ) → start ≤ t → t < start + n → at t ≡ None
none_between at zero start e t low high = absurd (omega (arith, low, high))
none_between at (suc n) start e t low high =
    let parts = none_later (at start) (map at (range_with_len (start + 1) n)) e in
    ⊎_elim
    (λ (same : t ≡ start). ap at same ∙ parts.0)
    (λ (ne : t ≡ start → ⊥). none_between at n (start + 1) parts.1 t (omega (arith, low, ne)) (omega (arith, high)))
    (cases_eq t start)

-- a task with its blame
abbrev with_blame : ℕ → Option Blame → Option (ℕ × Blame)
with_blame t o = option_map (λ why. (t, why)) o

abbrev told : (ℕ → Option Blame) → ℕ → Option (ℕ × Blame)
told at t = with_blame t (at t)

found_head : (at : ℕ → Option Blame) (u : ℕ) (more : List (Option (ℕ × Blame))) (o : Option Blame) (t : ℕ) (why : Blame) → at u ≡ o → (first_of more ≡ Some (t, why) → at t ≡ Some why)
    → first_of (with_blame u o ∷ more) ≡ Some (t, why) → at t ≡ Some why
found_head at u more None t why is later e = later e
found_head at u more (Some b) t why is later e =
    let here : ℕ × Blame = (u, b) in
    let wanted : ℕ × Blame = (t, why) in
    let same : here ≡ wanted = cc (e) in
    let task : u ≡ t = ap (λ p. p.0) same in
    let blame : b ≡ why = ap (λ p. p.1) same in
    ap at (sym task) ∙ (is ∙ ap Some blame)

found_in : (at : ℕ → Option Blame) (ts : List ℕ) (t : ℕ) (why : Blame) → first_of (map (told at) ts) ≡ Some (t, why) → at t ≡ Some why
found_in at [] t why e = absurd (cc)
found_in at (u ∷ ts) t why e = found_head at u (map (told at) ts) (at u) t why refl (found_in at ts t why) e

module _ (model : Rules) (leg : Leg) (lawful : IsLawful model) (sound : IsSound leg.opening) where
  abbrev first : Schedule
  first = first_check model leg

  pub none_goes : IsLegal model leg nobody
  none_goes group moment e = absurd (cc)

  module _ (k group : ℕ) (w : Waiter model leg first (suc k) group) (kind : CheckKind) (checked : check model leg k group ≡ Some kind) where
    abbrev at : ℕ
    at = leg.number + suc k

    same_view : (t : ℕ) (x : Life) → after model leg (suc k) t ≡ Live x → x.group ≡ group → view leg first t x ≡ view leg nobody t x
    same_view = views_alike model leg lawful sound first nobody (first_check_is model leg) none_goes (suc k) group (waits-from model leg first (suc k) group w)

    -- ---- Who is blamed

    abbrev blame_of : ℕ → Life → TaskView → Option Blame
    blame_of t x seen = if nat_eq x.group group then model.blame kind seen leg.aim else None

    same_blame_of : (t : ℕ) (fate : Fate Life) → after model leg (suc k) t ≡ fate → on_live None (λ x. blame_of t x (view leg first t x)) fate ≡ blame_by model leg (Some kind) group t fate
    same_blame_of t Unused e = refl
    same_blame_of t Dead e = refl
    same_blame_of t (Live x) e =
        ⊎_elim
        (λ (member : x.group ≡ group). ap (blame_of t x) (same_view t x e member))
        (λ (other : x.group ≡ group → ⊥).
        let no = ne_eqb x.group group other in
        cond-false (nat_eq x.group group) (model.blame kind (view leg first t x) leg.aim) None no ∙ sym (cond-false (nat_eq x.group group) (model.blame kind (view leg nobody t x) leg.aim) None no))
        (cases_eq x.group group)

    same_blame : (t : ℕ) → member_blame model leg kind (suc k) group t ≡ blame_at model leg group (suc k) t
    same_blame t = same_blame_of t (after model leg (suc k) t) refl ∙ ap (λ o. blame_by model leg o group t (after model leg (suc k) t)) (sym checked)

    pub someone : first_blamed model leg (Some kind) (suc k) group ≡ None → ⊥
    someone none =
        let is = first_check_is model leg in
        let r = refused_so_far model leg lawful sound first is first is.legal (suc k) group w k kind (omega arith) (omega arith) checked in
        let number = numbered model.child_group leg sound (suc k) r.task r.life r.live in
        let quiet = none_there (λ why. (r.task, why)) (member_blame model leg kind (suc k) group r.task) (none_between (told (member_blame model leg kind (suc k) group)) leg.bounds.tasks 1 none r.task number.0 (omega (arith, number.1))) in
        let seen = view leg first r.task r.life in
        let blamed : model.blame kind seen leg.aim ≡ None =
        sym (cond-true (nat_eq r.life.group group) (model.blame kind seen leg.aim) None (eq-eqb r.life.group group r.member))
        ∙ (sym (ap (on_live None (λ x. blame_of r.task x (view leg first r.task x))) r.live) ∙ quiet) in
        let admitted = lawful.blames kind seen leg.aim blamed in
        let refused = r.refused in
        absurd (cc (admitted, refused))

    pub blamed_well : (t : ℕ) (why : Blame) → first_blamed model leg (Some kind) (suc k) group ≡ Some (t, why) → blame_at model leg group (suc k) t ≡ Some why
    blamed_well t why e = sym (same_blame t) ∙ found_in (member_blame model leg kind (suc k) group) (range_with_len 1 leg.bounds.tasks) t why e

    -- ---- The line of the refusal

    record NewLine (begin t : ℕ) (why : Blame) : Type 0 where
      line : Line
      is : refusal_line group at (t, why) ≡ line ∷ []
      right : IsRight model leg group begin (suc k) line
      tells : covers model leg (suc k) line ≡ true

    new_line : (begin t : ℕ) (why : Blame) → begin ≤ k → blame_at model leg group (suc k) t ≡ Some why → NewLine begin t why
    new_line begin t (Held serial) le e =
        let stands = blamed_stands model leg lawful sound (suc k) group t serial e in
        record {
          line = Hold (group_id group) (task_id t) serial at at;
          is = refl;
          right = record {
            named = refl;
            first = suc k;
            last = suc k;
            from_is = refl;
            to_is = refl;
            early = omega (arith, le);
            order = omega arith;
            late = omega arith;
            blamed = e;
            stays = between model leg lawful sound (suc k) (suc k) (suc k) t serial (omega arith) (omega arith) stands stands;
          };
          tells = and_from _ _ (le-leb (moment_of model leg at) (suc k) (omega arith)) (le-leb (suc k) (moment_of model leg at) (omega arith));
        }
    new_line begin t Busy le e =
        record {
          line = OnCpu (group_id group) (task_id t) at;
          is = refl;
          right = record { named = refl; moment = suc k; at_is = refl; early = omega (arith, le); late = omega arith; blamed = e };
          tells = eq-eqb (moment_of model leg at) (suc k) (omega arith);
        }
    new_line begin t NotUsed le e =
        let b = blamed-is model leg (suc k) group t NotUsed e in
        let unused = lawful.blames_used b.kind (view leg nobody t b.life) leg.aim b.blamed in
        let used = (check-is model leg k group b.kind b.is_check).1 in
        absurd (cc (unused, used))

    -- ---- A hold that continues

    stack_of : (t serial : ℕ) (fate : Fate Life) → after model leg (suc k) t ≡ fate → ((x : Life) → fate ≡ Live x → x.group ≡ group)
        → on_live false (λ x. list_any (λ frame. nat_eq frame.serial serial) (view leg first t x).frames) fate ≡ on_live false (λ x. list_any (λ frame. nat_eq frame.serial serial) (view leg nobody t x).frames) fate
    stack_of t serial Unused e member = refl
    stack_of t serial Dead e member = refl
    stack_of t serial (Live x) e member = ap (λ (v : TaskView). list_any (λ frame. nat_eq frame.serial serial) v.frames) (same_view t x e (member x refl))

    still_there : (begin g t serial from to : ℕ) → IsHold model leg group begin k g t serial from to → has_frame model leg (suc k) t serial ≡ true → is_on_stack model leg t serial (suc k) ≡ true
    still_there begin g t serial from to h has =
        let b = blamed-is model leg h.first group t (Held serial) h.blamed in
        let order = h.order in
        let late = h.late in
        sym (stack_of t serial (after model leg (suc k) t) refl (λ x live. group_stays model leg h.first (suc k) t b.life x (omega (arith, order, late)) b.live live ∙ b.member)) ∙ has

    -- ---- All the lines of the group

    -- the group's own lines after the check, in front of older ones
    pub record Next (begin t : ℕ) (why : Blame) (own older : List Line) : Type 0 where
      pub lines : List Line
      pub is : after_refusal (has_frame model leg (suc k)) group at (t, why) (own ++ older) ≡ lines ++ older
      pub part : IsPart model leg group begin (suc k) lines

    added : (begin t : ℕ) (why : Blame) (own older : List Line) → NewLine begin t why → IsPart model leg group begin k own
        → after_refusal (has_frame model leg (suc k)) group at (t, why) (own ++ older) ≡ refusal_line group at (t, why) ++ (own ++ older) → Next begin t why own older
    added begin t why own older new h e =
        record { lines = new.line ∷ own; is = e ∙ ap (λ ls. ls ++ (own ++ older)) new.is; part = part_more model leg group begin k new.line own new.right new.tells h }

    pub next : (begin t : ℕ) (why : Blame) (own older : List Line) → begin ≤ k → blame_at model leg group (suc k) t ≡ Some why → IsPart model leg group begin k own
        → after_refusal (has_frame model leg (suc k)) group at (t, why) older ≡ refusal_line group at (t, why) ++ older → Next begin t why own older
    next begin t why [] older le e h bare = added begin t why [] older (new_line begin t why le e) h bare
    next begin t why (OnCpu g u here ∷ own) older le e h bare = added begin t why (OnCpu g u here ∷ own) older (new_line begin t why le e) h refl
    next begin t why (Born g u here ∷ own) older le e h bare = absurd (All-head (IsRight model leg group begin k) (Born g u here) own h.right)
    next begin t why (Hold g u serial from to ∷ own) older le e h bare =
        let hold : Line = Hold g u serial from to in
        let has = has_frame model leg (suc k) u.0 serial in
        let longer : List Line = Hold g u serial from at ∷ (own ++ older) in
        let more : List Line = refusal_line group at (t, why) ++ (hold ∷ (own ++ older)) in
        ⊎_elim
        (λ (yes : has ≡ true).
        let there = still_there begin g.0 u.0 serial from to (All-head (IsRight model leg group begin k) hold own h.right) yes in
        record { lines = Hold g u serial from at ∷ own; is = cond-true has longer more yes; part = part_on model leg group begin k g u serial from to own there h })
        (λ (no : has ≡ false). added begin t why (hold ∷ own) older (new_line begin t why le e) h (cond-false has longer more no))
        (cases_Bool has)
