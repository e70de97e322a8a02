-- A pass over candidates finds of each group the first member that a scan refuses.
use Rattle.std.proofs.Common.{◌≡◌, ◌⊎◌, ◌↔◌, ℕ, ◌<◌, ◌≤◌, Bool, true, false, not, ◌&&◌, ◌||◌, List, [], ◌∷◌, ◌++◌, map, Option, Some, None, is_some, if◌then◌else◌, nat_eq, refl, sym, ap, subst, inl, inr, ◌∙◌, ⊎_elim, arith}
use Rattle.std.proofs.lemmas.Bool.{false≢true, cond-true, cond-false, cases_Bool, cases_eq, cases_lt, and_parts, and_from, or_left, or_cases, eqb-true, eq-eqb, not-true, not_from_false, false_from_ne_true}
use Rattle.std.proofs.lemmas.List.{map-append}
use Rattle.std.proofs.lemmas.List.Elements.{filter_map-append}
use Rattle.std.proofs.lemmas.List.Folds.{list_any-append}
use Rattle.std.specs.List.{filter, filter_map, cons_option, list_any}
use Rattle.std.specs.Option.{option_map}
use Rattle.lp_stack.specs.TaskView.{TaskView}
use Rattle.lp_numbers.specs.Numbers.{Numbers, has}
use Rattle.lp_model.specs.Rules.{Rules}
use Rattle.lp_model.specs.declared.check.Blame.{Blame}
use Rattle.lp_model.specs.declared.check.CheckKind.{CheckKind}
use Rattle.lp_model.specs.declared.verdict.Verdict.{Verdict}
use Rattle.lp_definitions.specs.Tasks.{Live, on_live, first_of}
use Rattle.lp_definitions.specs.Leg.{LegTask, State}
use Rattle.lp_machine.specs.Machine.{view_of}
use Rattle.lp_transition.specs.Blames.{TellOf}
use Rattle.lp_transition.specs.Scan.{verdict_of, verdicts_of, verdicts_at, RefusesMember, MayLeaveOut, is_asked, AreEnough, member_verdict, first_refused}
use Rattle.lp_tasks.specs.Passing.{passing}
use Rattle.lp_machine.specs.Table.{Engine, slot, leg_tasks, state_in}
use Rattle.lp_tasks.specs.inside.Table.{is_off}
use Rattle.lp_transition.specs.inside.Invariant.{IsEngine}
use Rattle.lp_transition.specs.inside.ScanSteps.{waiting_slot, is_found}
use Rattle.lp_transition.specs.inside.FirstRefusals.{AdmitsOthers, SeesRefused, SeesRefusedBefore, HasAsked, AreTold}
use Rattle.lp_transition.proofs.AskedScans.{among_views, any-filter, map-map, all-looked, among-is, asked-from}
use Rattle.lp_transition.proofs.FirstKept.{named, passing-last, first-kept}
use Rattle.lp_tasks.proofs.MemberLemmas.{slot-below}
use Rattle.lp_transition.proofs.ScanLemmas.{views-asked}
use Rattle.lp_transition.proofs.ScanLists.{verdict-from}
use Rattle.lp_tasks.proofs.TableLemmas.{live_from_slot, slot_from_live}

-- ---- Who waits

module _ (e : Engine) (waiting : Numbers) (kept : IsEngine e waiting) where
  -- a task that waits
  record Waits (t : ℕ) (x : LegTask) : Type 0 where
    there : slot e.table t ≡ Some x
    live : leg_tasks e.table t ≡ Live x
    off : nat_eq x.level e.target ≡ false
    member : has waiting t ≡ true

  waiting_from : (t : ℕ) (x : LegTask) → leg_tasks e.table t ≡ Live x → nat_eq x.level e.target ≡ false → Waits t x
  waiting_from t x live off =
      let at = slot_from_live e.table t x live in
      record { there = at; live = live; off = off; member = kept.waits t ∙ ap (is_off e.target) at ∙ not_from_false (nat_eq x.level e.target) off }

  waiting_slot_of : (t : ℕ) (x : LegTask) → Waits t x → waiting_slot e.table waiting t ≡ Some x
  waiting_slot_of t x w = cond-true (has waiting t) (slot e.table t) None w.member ∙ w.there

  waiting_is : (t : ℕ) (x : LegTask) → waiting_slot e.table waiting t ≡ Some x → Waits t x
  waiting_is t x h = by (has waiting t) refl
    where
      by : (b : Bool) → has waiting t ≡ b → Waits t x
      by false out = let none : None ≡ Some x = sym (cond-false (has waiting t) (slot e.table t) None out) ∙ h in absurd (cc)
      by true in_set =
          let at : slot e.table t ≡ Some x = sym (cond-true (has waiting t) (slot e.table t) None in_set) ∙ h in
          record {
            there = at;
            live = live_from_slot e.table t x at;
            off = not-true (nat_eq x.level e.target) (sym (ap (is_off e.target) at) ∙ (sym (kept.waits t) ∙ in_set));
            member = in_set;
          }

  -- ---- Verdicts of those who are looked at

  abbrev view_at : ℕ → Option TaskView
  view_at t = option_map (view_of t) (waiting_slot e.table waiting t)

  module _ (model : Rules) (kind : CheckKind) where
    abbrev told_of : TaskView → Verdict
    told_of view = verdict_of model kind (state_in e).aim view

    listed : (looked : ℕ → Bool) → verdicts_at model kind (state_in e) looked ≡ map told_of (filter_map view_at (passing 0 65536 looked))
    listed looked = among_views model kind (state_in e) looked ∙ ap (map told_of) (sym (views-asked e waiting kept looked))

    -- one more who waits, after the others
    pub found-more : (looked : ℕ → Bool) (n : ℕ) (x : LegTask) → n < 65536 → ((t : ℕ) → looked t ≡ true → t < n) → waiting_slot e.table waiting n ≡ Some x
        → verdicts_at model kind (state_in e) looked ++ told_of (view_of n x) ∷ [] ≡ verdicts_at model kind (state_in e) (λ t. looked t || nat_eq t n)
    found-more looked n x few before waits =
        let done = filter_map view_at (passing 0 65536 looked) in
        ap (λ vs. vs ++ told_of (view_of n x) ∷ []) (listed looked)
        ∙ sym (map-append told_of done (view_of n x ∷ []))
        ∙ ap (λ o. map told_of (done ++ cons_option o [])) (sym (ap (option_map (view_of n)) waits))
        ∙ ap (map told_of) (sym (filter_map-append view_at (passing 0 65536 looked) (n ∷ [])))
        ∙ ap (λ ns. map told_of (filter_map view_at ns)) (sym (passing-last looked n before 65536 few))
        ∙ sym (listed (λ t. looked t || nat_eq t n))

    -- ---- The first refused

    module _ (group : ℕ) where
      -- the member and its blame, where a scan refuses it
      abbrev member_told : TaskView → Option (ℕ × Blame)
      member_told view = member_verdict (state_in e) group (told_of view)

      naming : (t : ℕ) (x : LegTask) → Waits t x → named member_told (view_at t) ≡ (if nat_eq x.group group then option_map {U = ℕ × Blame} (λ why. (t, why)) (model.blame kind (view_of t x) (state_in e).aim) else None)
      naming t x w =
          ap (λ o. named member_told (option_map (view_of t) o)) (waiting_slot_of t x w)
          ∙ ap (λ (b : Bool). if b then option_map {U = ℕ × Blame} (λ why. (t, why)) (model.blame kind (view_of t x) (state_in e).aim) else None) (ap (on_live false (λ (y : LegTask). nat_eq y.group group)) w.live)

      some_blame : (t : ℕ) (b : Bool) (o : Option Blame) → is_some (if b then option_map {U = ℕ × Blame} (λ why. (t, why)) o else None) ≡ true → (b ≡ true) × (is_some o ≡ true)
      some_blame t true (Some why) h = (refl, refl)
      some_blame t true None h = absurd (cc)
      some_blame t false o h = absurd (cc)

      blame_some : (t : ℕ) (b : Bool) (o : Option Blame) → b ≡ true → is_some o ≡ true → is_some (if b then option_map {U = ℕ × Blame} (λ why. (t, why)) o else None) ≡ true
      blame_some t true (Some why) h some = refl
      blame_some t true None h some = absurd (cc)
      blame_some t false o h some = absurd (cc)

      -- who is named is refused
      named_is : (t : ℕ) → is_some (named member_told (view_at t)) ≡ true → (r : RefusesMember model kind (state_in e) group) × (r.member ≡ t)
      named_is t h = by (waiting_slot e.table waiting t) refl
        where
          by : (o : Option LegTask) → waiting_slot e.table waiting t ≡ o → (r : RefusesMember model kind (state_in e) group) × (r.member ≡ t)
          by None none = absurd (false≢true (sym (ap (λ p. is_some (named member_told (option_map (view_of t) p))) none) ∙ h))
          by (Some x) some =
              let w = waiting_is t x some in
              let both = some_blame t (nat_eq x.group group) (model.blame kind (view_of t x) (state_in e).aim) (sym (ap is_some (naming t x w)) ∙ h) in
              (record { member = t; life = x; live = w.live; off = w.off; grouped = eqb-true x.group group both.0; refused = both.1 }, refl)

      named_from : (r : RefusesMember model kind (state_in e) group) → is_some (named member_told (view_at r.member)) ≡ true
      named_from r =
          ap is_some (naming r.member r.life (waiting_from r.member r.life r.live r.off))
          ∙ blame_some r.member (nat_eq r.life.group group) (model.blame kind (view_of r.member r.life) (state_in e).aim) (eq-eqb r.life.group group r.grouped) r.refused

      first_listed : (looked : ℕ → Bool) → first_refused (state_in e) group (verdicts_at model kind (state_in e) looked) ≡ first_of (map member_told (filter_map view_at (passing 0 65536 looked)))
      first_listed looked =
          ap (λ vs. first_refused (state_in e) group vs) (listed looked)
          ∙ ap first_of (map-map (member_verdict (state_in e) group) told_of (filter_map view_at (passing 0 65536 looked)))

      -- it is the same where each refused one that is passed over has one before it that isn't
      pub first-same : (looked : ℕ → Bool) → ((r : RefusesMember model kind (state_in e) group) → looked r.member ≡ false → SeesRefusedBefore model kind (state_in e) looked group r.member)
          → first_refused (state_in e) group (verdicts_at model kind (state_in e) looked) ≡ first_refused (state_in e) group (verdicts_of model kind (state_in e))
      first-same looked it_waits =
          first_listed looked
          ∙ first-kept view_at member_told looked 65536 (λ t low high out some.
          let r = named_is t some in
          let h = it_waits r.0 (ap looked r.1 ∙ out) in
          record { number = h.0.refusal.member; from = omega arith; before = subst (λ u. h.0.refusal.member < u) r.1 h.1; passed = h.0.seen; named_of = named_from h.0.refusal })
          ∙ sym (first_listed (λ t. true))
          ∙ ap (λ vs. first_refused (state_in e) group vs) (all-looked model kind (state_in e))

    -- ---- What such verdicts tell

    pub told-tells : (asked : ℕ → Bool) (vs : List Verdict) → AreTold model kind (state_in e) asked vs → TellOf model kind (state_in e) asked vs
    told-tells asked vs told = record {
      looked = told.looked;
      found = told.found;
      only = told.only;
      each = λ t x live off yes.
          ⊎_elim
          (λ (seen : told.looked t ≡ true). some_seen x.group t x live off refl seen)
          (λ (out : told.looked t ≡ false).
          let h = told.others t x live off yes out in
          some_seen x.group h.refusal.member h.refusal.life h.refusal.live h.refusal.off h.refusal.grouped h.seen)
          (cases_Bool (told.looked t));
      first = λ group yes.
          ap (λ ws. first_refused (state_in e) group ws) told.found
          ∙ first-same group told.looked (λ r out.
          subst (λ g. SeesRefusedBefore model kind (state_in e) told.looked g r.member) r.grouped
          (told.first r.member r.life r.live r.off (ap asked r.grouped ∙ yes) out r.refused));
    }
      where
        some_seen : (group u : ℕ) (y : LegTask) → leg_tasks e.table u ≡ Live y → nat_eq y.level e.target ≡ false → y.group ≡ group → told.looked u ≡ true → list_any (λ v. on_live false (λ z. nat_eq z.group group) (leg_tasks e.table v.task.0)) vs ≡ true
        some_seen group u y there waits grouped seen =
            let p = λ (v : Verdict). on_live false (λ (z : LegTask). nat_eq z.group group) (leg_tasks e.table v.task.0) in
            let bounds = kept.sound.numbered u y there in
            ap (list_any p) told.found
            ∙ any-filter (λ (v : Verdict). told.looked v.task.0) p (verdicts_of model kind (state_in e))
            ∙ verdict-from model kind (state_in e) (λ v. told.looked v.task.0 && p v) (record {
              number = u;
              task = y;
              live = there;
              off = waits;
              passed = and_from (told.looked u) (p (told_of (view_of u y))) seen (ap (on_live false (λ (z : LegTask). nat_eq z.group group)) there ∙ eq-eqb y.group group grouped);
            }) bounds.0 bounds.1

-- they are enough, where the other groups may be left out
pub told-enough : (e : Engine) (waiting : Numbers) → IsEngine e waiting → (model : Rules) (kind : CheckKind) (asked : ℕ → Bool) (vs : List Verdict) → MayLeaveOut model kind (state_in e) asked → AreTold model kind (state_in e) asked vs → AreEnough model kind (state_in e) vs
told-enough e waiting kept model kind asked vs others told = record {
  looked = told.looked;
  others = λ t x live off out.
      ⊎_elim
      (λ (yes : asked x.group ≡ true).
      let h = told.others t x live off yes out in
      record { refusal = h.refusal; seen = λ u y there waits grouped taken. h.seen })
      (λ (no : asked x.group ≡ false). record {
        refusal = others t x live off no;
        seen = λ u y there waits grouped taken. absurd (false≢true (sym no ∙ (ap asked (sym grouped) ∙ told.only u y there taken)));
      })
      (cases_Bool (asked x.group));
  found = told.found;
  first = λ group some. (told-tells e waiting kept model kind asked vs told).first group (asked-from model kind (state_in e) told.looked asked group vs told.found told.only some);
}

-- the verdicts of all who wait of these groups tell it
pub among-told : (model : Rules) (kind : CheckKind) (s : State) (asked : ℕ → Bool) (vs : List Verdict) → vs ≡ verdicts_at model kind s (is_asked s asked) → AreTold model kind s asked vs
among-told model kind s asked vs found = record {
  looked = is_asked s asked;
  found = found;
  only = λ t x live seen. sym (group_asked t x live) ∙ seen;
  others = λ t x live off yes out. absurd (false≢true (sym out ∙ (group_asked t x live ∙ yes)));
  first = λ t x live off yes out refused. absurd (false≢true (sym out ∙ (group_asked t x live ∙ yes)));
}
  where
    group_asked : (t : ℕ) (x : LegTask) → s.tasks t ≡ Live x → is_asked s asked t ≡ asked x.group
    group_asked t x live = ap (on_live false (λ (y : LegTask). asked y.group)) live

-- ---- The pass

module _ (e : Engine) (waiting : Numbers) (kept : IsEngine e waiting) (model : Rules) (kind : CheckKind) (candidates may_refuse asked : ℕ → Bool) where
  abbrev Asked : (place : ℕ) → List Verdict → (ℕ → Bool) → Type 0
  Asked place vs unrefused = HasAsked model kind e candidates may_refuse asked place vs unrefused

  abbrev told_here : ℕ → LegTask → Verdict
  told_here t x = verdict_of model kind (state_in e).aim (view_of t x)

  -- nobody was asked before the first candidate
  pub pass-begins : (place : ℕ) → ((t : ℕ) → t < place → candidates t ≡ false) → Asked place [] asked
  pass-begins place none = record {
    looked = λ t. false;
    found = sym (none_kept (verdicts_of model kind (state_in e)));
    before = λ t h. absurd (false≢true h);
    only = λ t x live h. absurd (false≢true h);
    left = λ group. and_true (asked group);
    passed = λ t x live off h is may yes out. absurd (false≢true (sym (none t h) ∙ is));
  }
    where
      none_kept : (ws : List Verdict) → filter (λ v. false) ws ≡ []
      none_kept [] = refl
      none_kept (w ∷ ws) = none_kept ws

      and_true : (b : Bool) → b ≡ (b && true)
      and_true true = refl
      and_true false = refl

  -- a group that was asked, and isn't among those left, has a refused member that was looked at
  refused_seen : (place : ℕ) (vs : List Verdict) (unrefused : ℕ → Bool) (h : Asked place vs unrefused) (group : ℕ) → asked group ≡ true → unrefused group ≡ false → SeesRefused model kind (state_in e) h.looked group
  refused_seen place vs unrefused h group mine out =
      let told = second (asked group) (list_any (is_found e.table true group) vs) mine (sym (h.left group) ∙ out) in
      let f = among-is model kind (state_in e) kept.sound h.looked e.table (λ t x live. slot_from_live e.table t x live) true group (sym (ap (list_any (is_found e.table true group)) h.found) ∙ told) in
      record { refusal = record { member = f.number; life = f.task; live = f.live; off = f.off; grouped = f.grouped; refused = f.told }; seen = f.taken }
    where
      second : (b c : Bool) → b ≡ true → (b && not c) ≡ false → c ≡ true
      second true true h e = refl
      second true false h e = absurd (cc)
      second false c h e = absurd (cc)

  -- who was looked at comes before the place
  seen_before : (place : ℕ) (vs : List Verdict) (unrefused : ℕ → Bool) (h : Asked place vs unrefused) (group : ℕ) → asked group ≡ true → unrefused group ≡ false → SeesRefusedBefore model kind (state_in e) h.looked group place
  seen_before place vs unrefused h group mine out = let r = refused_seen place vs unrefused h group mine out in (r, h.before r.refusal.member r.seen)

  -- where no group is left, the others need not be asked
  pub pass-ends : (place last : ℕ) (vs : List Verdict) (unrefused : ℕ → Bool) → place ≤ last → ((group : ℕ) → unrefused group ≡ false) → Asked place vs unrefused → Asked last vs unrefused
  pass-ends place last vs unrefused low none h = record {
    looked = h.looked;
    found = h.found;
    before = λ t seen. let early = h.before t seen in omega (arith, low, early);
    only = h.only;
    left = h.left;
    passed = λ t x live off within is may mine out.
        ⊎_elim
        (λ (early : t < place). h.passed t x live off early is may mine out)
        (λ (late : place ≤ t).
        let r = seen_before place vs unrefused h x.group mine (none x.group) in
        let early = r.1 in
        (r.0, omega (arith, early, late)))
        (cases_lt t place);
  }

  module _ (place next : ℕ) (vs : List Verdict) (unrefused : ℕ → Bool) (further : place < next) (none : (t : ℕ) → place < t → t < next → candidates t ≡ false) (h : Asked place vs unrefused) where
    -- the candidate doesn't wait, or isn't to be asked
    pub pass-over : ((x : LegTask) → waiting_slot e.table waiting place ≡ Some x → may_refuse place ≡ true → unrefused x.group ≡ false) → Asked next vs unrefused
    pass-over over = record {
      looked = h.looked;
      found = h.found;
      before = λ t seen. let early = h.before t seen in omega (arith, further, early);
      only = h.only;
      left = h.left;
      passed = λ t x live off within is may mine out.
          ⊎_elim
          (λ (early : t < place). h.passed t x live off early is may mine out)
          (λ (late : place ≤ t).
          ⊎_elim
          (λ (here : t ≡ place).
          let waits = waiting_slot_of e waiting kept t x (waiting_from e waiting kept t x live off) in
          let refused = over x (ap (waiting_slot e.table waiting) (sym here) ∙ waits) (ap may_refuse (sym here) ∙ may) in
          let r = seen_before place vs unrefused h x.group mine refused in
          (r.0, subst (λ u. r.0.refusal.member < u) (sym here) r.1))
          (λ (ne : t ≡ place → ⊥). absurd (false≢true (sym (none t (omega (arith, ne, late)) within) ∙ is)))
          (cases_eq t place))
          (cases_lt t place);
    }

    -- the candidate is asked
    pub pass-asks : (x : LegTask) (after : ℕ → Bool) → place < 65536 → waiting_slot e.table waiting place ≡ Some x → unrefused x.group ≡ true → ((group : ℕ) → after group ≡ (unrefused group && not (is_found e.table true group (told_here place x))))
        → Asked next (vs ++ told_here place x ∷ []) after
    pass-asks x after few waits still closes = record {
      looked = more;
      found = ap (λ ws. ws ++ told_here place x ∷ []) h.found ∙ found-more e waiting kept model kind h.looked place x few h.before waits;
      before = λ t seen.
          ⊎_elim
          (λ (old : h.looked t ≡ true). let early = h.before t old in omega (arith, further, early))
          (λ (new : nat_eq t place ≡ true). let here = eqb-true t place new in omega (arith, further, here))
          (or_cases (h.looked t) (nat_eq t place) seen);
      only = λ t y live seen.
          ⊎_elim
          (λ (old : h.looked t ≡ true). h.only t y live old)
          (λ (new : nat_eq t place ≡ true).
          let w = waiting_is e waiting kept place x waits in
          let one : Live x ≡ Live y = sym w.live ∙ ap (leg_tasks e.table) (sym (eqb-true t place new)) ∙ live in
          let same : x ≡ y = cc in
          ap (λ (z : LegTask). asked z.group) (sym same) ∙ (and_parts (asked x.group) (not (list_any (is_found e.table true x.group) vs)) (sym (h.left x.group) ∙ still)).0)
          (or_cases (h.looked t) (nat_eq t place) seen);
      left = λ group.
          closes group
          ∙ ap (λ b. b && not (is_found e.table true group (told_here place x))) (h.left group)
          ∙ one_more (asked group) (list_any (is_found e.table true group) vs) (is_found e.table true group (told_here place x))
          ∙ ap (λ b. asked group && not b) (sym (list_any-append (is_found e.table true group) vs (told_here place x ∷ [])));
      passed = λ t y live off within is may mine out.
          let apart = neither (h.looked t) (nat_eq t place) out in
          ⊎_elim
          (λ (early : t < place).
          let r = h.passed t y live off early is may mine apart.0 in
          (record { refusal = r.0.refusal; seen = or_left (h.looked r.0.refusal.member) (nat_eq r.0.refusal.member place) r.0.seen }, r.1))
          (λ (late : place ≤ t).
          ⊎_elim
          (λ (here : t ≡ place). absurd (false≢true (sym apart.1 ∙ eq-eqb t place here)))
          (λ (ne : t ≡ place → ⊥). absurd (false≢true (sym (none t (omega (arith, ne, late)) within) ∙ is)))
          (cases_eq t place))
          (cases_lt t place);
    }
      where
        more : ℕ → Bool
        more t = h.looked t || nat_eq t place

        one_more : (a b c : Bool) → ((a && not b) && not c) ≡ (a && not (b || (c || false)))
        one_more false b c = refl
        one_more true true c = refl
        one_more true false true = refl
        one_more true false false = refl

        neither : (b c : Bool) → (b || c) ≡ false → (b ≡ false) × (c ≡ false)
        neither false c h = (refl, h)
        neither true c h = absurd (cc)

  -- ---- Where it ends

  -- with the members of the groups that aren't refused it tells what it has to
  pub pass-told : (vs ws : List Verdict) (unrefused : ℕ → Bool) (h : Asked 65536 vs unrefused)
      → ((t : ℕ) → candidates t ≡ true) → AdmitsOthers model kind (state_in e) may_refuse
      → (taken : ℕ → Bool)
      → ((t : ℕ) (x : LegTask) → leg_tasks e.table t ≡ Live x → nat_eq x.level e.target ≡ false → (taken t ≡ true) ↔ ((h.looked t ≡ true) ⊎ (unrefused x.group ≡ true)))
      → ((t : ℕ) (x : LegTask) → leg_tasks e.table t ≡ Live x → taken t ≡ true → asked x.group ≡ true)
      → ws ≡ verdicts_at model kind (state_in e) taken → AreTold model kind (state_in e) asked ws
  pass-told vs ws unrefused h covers sure taken is only found = record {
    looked = taken;
    found = found;
    only = only;
    others = λ t x live off mine out. kept_seen x.group (refused_seen 65536 vs unrefused h x.group mine (closed t x live off out));
    first = λ t x live off mine out refused.
        let fresh = false_from_ne_true (h.looked t) (λ seen. false≢true (sym out ∙ (is t x live off).1 (inl seen))) in
        let few : t < 65536 = slot-below e.table t x kept.wide (slot_from_live e.table t x live) in
        let may = doubted t x live off refused in
        let r = h.passed t x live off few (covers t) may mine fresh in
        (kept_seen x.group r.0, r.1);
  }
    where
      closed : (t : ℕ) (x : LegTask) → leg_tasks e.table t ≡ Live x → nat_eq x.level e.target ≡ false → taken t ≡ false → unrefused x.group ≡ false
      closed t x live off out = false_from_ne_true (unrefused x.group) (λ still. false≢true (sym out ∙ (is t x live off).1 (inr still)))

      kept_seen : (group : ℕ) → SeesRefused model kind (state_in e) h.looked group → SeesRefused model kind (state_in e) taken group
      kept_seen group r = record { refusal = r.refusal; seen = (is r.refusal.member r.refusal.life r.refusal.live r.refusal.off).1 (inl r.seen) }

      doubted : (t : ℕ) (x : LegTask) → leg_tasks e.table t ≡ Live x → nat_eq x.level e.target ≡ false → is_some (model.blame kind (view_of t x) (state_in e).aim) ≡ true → may_refuse t ≡ true
      doubted t x live off refused =
          ⊎_elim
          (λ (yes : may_refuse t ≡ true). yes)
          (λ (no : may_refuse t ≡ false). absurd (false≢true (sym (ap is_some (sure t x live off no)) ∙ refused)))
          (cases_Bool (may_refuse t))

-- where each who has to be asked is a candidate, all are as good as candidates
pub pass-covers : (e : Engine) (model : Rules) (kind : CheckKind) (candidates may_refuse asked : ℕ → Bool) (place : ℕ) (vs : List Verdict) (unrefused : ℕ → Bool)
    → ((t : ℕ) (x : LegTask) → leg_tasks e.table t ≡ Live x → may_refuse t ≡ true → asked x.group ≡ true → candidates t ≡ true)
    → HasAsked model kind e candidates may_refuse asked place vs unrefused → HasAsked model kind e (λ t. true) may_refuse asked place vs unrefused
pass-covers e model kind candidates may_refuse asked place vs unrefused covers h = record {
  looked = h.looked;
  found = h.found;
  before = h.before;
  only = h.only;
  left = h.left;
  passed = λ t x live off within is may mine out. h.passed t x live off within (covers t x live may mine) may mine out;
}
