-- The groups that a scan switches are told by its verdicts.
use Rattle.std.proofs.Common.{◌≡◌, ℕ, suc, Bool, true, false, not, ◌&&◌, ◌||◌, List, [], ◌∷◌, length, Option, Some, None, is_some, is_none, if◌then◌else◌, nat_eq, refl, sym, ap, ◌∙◌, subst, ⊎_elim, arith}
use Rattle.std.proofs.lemmas.Bool.{cond-true, cond-false, cases_Bool, and_parts, and_from, or_cases, or_left, or_right, eqb-true, eq-eqb, ne_eqb, not-true, not-false, not_from_true, not_from_false, false_from_ne_true}
use Rattle.std.specs.List.{list_any}
use Rattle.lp_model.specs.Rules.{Rules, IsLawful}
use Rattle.lp_model.specs.declared.check.Blame.{Blame}
use Rattle.lp_model.specs.declared.check.CheckKind.{CheckKind}
use Rattle.lp_model.specs.declared.verdict.Verdict.{Verdict}
use Rattle.lp_definitions.specs.declared.event.Event.{Event}
use Rattle.lp_definitions.specs.Tasks.{Live, map_live}
use Rattle.lp_definitions.specs.Leg.{LegTask, State, each_live, has_member, check_by, when, if_used}
use Rattle.lp_definitions.specs.Sound.{IsSound}
use Rattle.lp_machine.specs.Machine.{view_of, outline_of, outlines_of, complete_in, waits_in, admits_all, switches_at}
use Rattle.lp_machine.specs.Table.{Table, slot}
use Rattle.lp_tasks.specs.inside.Table.{is_in}
use Rattle.lp_transition.specs.Scan.{verdict_of, verdicts_of}
use Rattle.lp_transition.specs.inside.ScanSteps.{is_found, switches_by, all_admit}
use Rattle.lp_definitions.proofs.Quantifiers.{same_bool, each_live-at, each_live-from, some_live-is, some_live-from, some_live-map, each_live-map}
use Rattle.lp_machine_laws.proofs.States.{waiting_suffice}
use Rattle.lp_transition.proofs.ScanLists.{verdict-is, verdict-from}

none_is : (o : Option Blame) → is_none o ≡ true → o ≡ None
none_is None h = refl
none_is (Some b) h = absurd (cc)

-- the kind of a scan's check is the scan's
kind_is : (uses : CheckKind → Bool) (b : Bool) (kind other : CheckKind) → if_used uses (when b kind) ≡ Some other → other ≡ kind
kind_is uses false kind other e = absurd (cc)
kind_is uses true kind other e = at (uses kind) e
  where
    at : (used : Bool) → when used kind ≡ Some other → other ≡ kind
    at true h = cc
    at false h = absurd (cc)

-- where the model uses the kind and the group has a member, that is the check
kind_from : (uses : CheckKind → Bool) (b : Bool) (kind : CheckKind) → b ≡ true → uses kind ≡ true → if_used uses (when b kind) ≡ Some kind
kind_from uses b kind has used = ap (λ c. if_used uses (when c kind)) has ∙ ap (λ c. when c kind) used

module _ (model : Rules) (lawful : IsLawful model) (kind : CheckKind) (s : State) (sound : IsSound s) (table : Table) (there : (t : ℕ) (x : LegTask) → s.tasks t ≡ Live x → slot table t ≡ Some x) where
  -- a waiting task's verdict is one of its group's
  pub found-from : (refused : Bool) (group t : ℕ) (x : LegTask) → s.tasks t ≡ Live x → nat_eq x.level s.target ≡ false → x.group ≡ group → (if refused then is_some (model.blame kind (view_of t x) s.aim) else is_none (model.blame kind (view_of t x) s.aim)) ≡ true
      → list_any (is_found table refused group) (verdicts_of model kind s) ≡ true
  found-from refused group t x live off grouped told =
      let bounds = sound.numbered t x live in
      verdict-from model kind s (is_found table refused group) (record {
        number = t;
        task = x;
        live = live;
        off = off;
        passed = and_from (if refused then is_some (model.blame kind (view_of t x) s.aim) else is_none (model.blame kind (view_of t x) s.aim)) (is_in group (slot table t)) told (ap (is_in group) (there t x live) ∙ eq-eqb x.group group grouped);
      }) bounds.0 bounds.1

  -- what a verdict of a group says
  pub record Told (refused : Bool) (group : ℕ) : Type 0 where
    pub number : ℕ
    pub task : LegTask
    pub live : s.tasks number ≡ Live task
    pub off : nat_eq task.level s.target ≡ false
    pub grouped : task.group ≡ group
    pub told : (if refused then is_some (model.blame kind (view_of number task) s.aim) else is_none (model.blame kind (view_of number task) s.aim)) ≡ true

  pub found-is : (refused : Bool) (group : ℕ) → list_any (is_found table refused group) (verdicts_of model kind s) ≡ true → Told refused group
  found-is refused group h =
      let j = verdict-is model kind s (is_found table refused group) h in
      let parts = and_parts (if refused then is_some (model.blame kind (view_of j.number j.task) s.aim) else is_none (model.blame kind (view_of j.number j.task) s.aim)) (is_in group (slot table j.number)) j.passed in
      record {
        number = j.number;
        task = j.task;
        live = j.live;
        off = j.off;
        grouped = eqb-true j.task.group group (sym (ap (is_in group) (there j.number j.task j.live)) ∙ parts.1);
        told = parts.0;
      }

  -- ---- Who switches is admitted

  each_of : (group : ℕ) (check : Option CheckKind) → ((other : CheckKind) → check ≡ Some other → other ≡ kind) → admits_all model s check group ≡ true → (t : ℕ) (x : LegTask) → s.tasks t ≡ Live x → x.group ≡ group → model.admits kind (view_of t x) s.aim ≡ true
  each_of group None same h t x live grouped = absurd (cc)
  each_of group (Some other) same h t x live grouped =
      let bounds = sound.numbered t x live in
      let passed = each_live-at s.bounds s.tasks (λ u y. not (nat_eq y.group group) || model.admits other (view_of u y) s.aim) h t x bounds.0 bounds.1 live in
      ⊎_elim
      (λ (out : not (nat_eq x.group group) ≡ true). let no_member = not-true (nat_eq x.group group) out in let member = eq-eqb x.group group grouped in absurd (cc))
      (λ (admitted : model.admits other (view_of t x) s.aim ≡ true). subst (λ k. model.admits k (view_of t x) s.aim ≡ true) (same other refl) admitted)
      (or_cases (not (nat_eq x.group group)) (model.admits other (view_of t x) s.aim) passed)

  module _ (event : Event) (checks : (group : ℕ) → check_by s.bounds (outlines_of s.tasks) (Some event) group ≡ when (has_member s.bounds (outlines_of s.tasks) group) kind) where
    check_is : (group : ℕ) (other : CheckKind) → if_used model.uses (check_by s.bounds (outlines_of s.tasks) (Some event) group) ≡ Some other → other ≡ kind
    check_is group other e = kind_is model.uses (has_member s.bounds (outlines_of s.tasks) group) kind other (sym (ap (if_used model.uses) (checks group)) ∙ e)

    told-from : (group : ℕ) → switches_at model s event group ≡ true → switches_by table (verdicts_of model kind s) group ≡ true
    unfolding switches_at
    told-from group h =
        let check = if_used model.uses (check_by s.bounds (outlines_of s.tasks) (Some event) group) in
        let parts = and_parts (waits_in s group) (admits_all model s check group) h in
        let each = each_of group check (check_is group) parts.1 in
        let w = some_live-is s.bounds s.tasks (λ t x. nat_eq x.group group && not (nat_eq x.level s.target)) parts.0 in
        let both = and_parts (nat_eq w.life.group group) (not (nat_eq w.life.level s.target)) w.passed in
        let grouped = eqb-true w.life.group group both.0 in
        let free = lawful.blames_none kind (view_of w.task w.life) s.aim (each w.task w.life w.live grouped) in
        and_from (list_any (is_found table false group) (verdicts_of model kind s)) (not (list_any (is_found table true group) (verdicts_of model kind s)))
        (found-from false group w.task w.life w.live (not-true (nat_eq w.life.level s.target) both.1) grouped (ap is_none free))
        (not_from_false (list_any (is_found table true group) (verdicts_of model kind s))
        (false_from_ne_true (list_any (is_found table true group) (verdicts_of model kind s)) (λ refused.
        let j = found-is true group refused in
        let none = ap is_some (lawful.blames_none kind (view_of j.number j.task) s.aim (each j.number j.task j.live j.grouped)) in
        let some = j.told in
        absurd (cc))))

    -- ---- Who is admitted switches

    none_refused : (group : ℕ) → list_any (is_found table true group) (verdicts_of model kind s) ≡ false → (t : ℕ) (x : LegTask) → s.tasks t ≡ Live x → x.group ≡ group → nat_eq x.level s.target ≡ false → model.admits kind (view_of t x) s.aim ≡ true
    none_refused group no_refusal t x live grouped off =
        lawful.blames kind (view_of t x) s.aim
        (⊎_elim
        (λ (blame : is_some (model.blame kind (view_of t x) s.aim) ≡ true). let refusal = found-from true group t x live off grouped blame in absurd (cc))
        (λ (free : is_some (model.blame kind (view_of t x) s.aim) ≡ false). none_is (model.blame kind (view_of t x) s.aim) (not_from_false (is_some (model.blame kind (view_of t x) s.aim)) free))
        (cases_Bool (is_some (model.blame kind (view_of t x) s.aim))))

    member_passes : (group : ℕ) → list_any (is_found table true group) (verdicts_of model kind s) ≡ false → (t : ℕ) (x : LegTask) → s.tasks t ≡ Live x → (not (nat_eq x.group group) || (nat_eq x.level s.target || model.admits kind (view_of t x) s.aim)) ≡ true
    member_passes group no_refusal t x live =
        let admits = model.admits kind (view_of t x) s.aim in
        ⊎_elim
        (λ (member : nat_eq x.group group ≡ true).
        or_right (not (nat_eq x.group group)) (nat_eq x.level s.target || admits)
        (⊎_elim
        (λ (on : nat_eq x.level s.target ≡ true). or_left (nat_eq x.level s.target) admits on)
        (λ (off : nat_eq x.level s.target ≡ false). or_right (nat_eq x.level s.target) admits (none_refused group no_refusal t x live (eqb-true x.group group member) off))
        (cases_Bool (nat_eq x.level s.target))))
        (λ (out : nat_eq x.group group ≡ false). or_left (not (nat_eq x.group group)) (nat_eq x.level s.target || admits) (not_from_false (nat_eq x.group group) out))
        (cases_Bool (nat_eq x.group group))

    told-is : (group : ℕ) → switches_by table (verdicts_of model kind s) group ≡ true → switches_at model s event group ≡ true
    unfolding switches_at
    told-is group h =
        let parts = and_parts (list_any (is_found table false group) (verdicts_of model kind s)) (not (list_any (is_found table true group) (verdicts_of model kind s))) h in
        let j = found-is false group parts.0 in
        let bounds = sound.numbered j.number j.task j.live in
        let no_refusal = not-true (list_any (is_found table true group) (verdicts_of model kind s)) parts.1 in
        let admitted = none_refused group no_refusal j.number j.task j.live j.grouped j.off in
        let used = lawful.unused kind (view_of j.number j.task) s.aim admitted in
        let it_waits = some_live-from s.bounds s.tasks (λ t x. nat_eq x.group group && not (nat_eq x.level s.target)) (record {
          task = j.number;
          life = j.task;
          positive = bounds.0;
          within = bounds.1;
          live = j.live;
          passed = and_from (nat_eq j.task.group group) (not (nat_eq j.task.level s.target)) (eq-eqb j.task.group group j.grouped) (not_from_false (nat_eq j.task.level s.target) j.off);
        }) in
        let member = some_live-map s.bounds outline_of s.tasks (λ t x. nat_eq x.group group) ∙ some_live-from s.bounds s.tasks (λ t x. nat_eq x.group group) (record {
          task = j.number;
          life = j.task;
          positive = bounds.0;
          within = bounds.1;
          live = j.live;
          passed = eq-eqb j.task.group group j.grouped;
        }) in
        let check = ap (if_used model.uses) (checks group) ∙ kind_from model.uses (has_member s.bounds (outlines_of s.tasks) group) kind member used in
        and_from (waits_in s group) (admits_all model s (if_used model.uses (check_by s.bounds (outlines_of s.tasks) (Some event) group)) group) it_waits
        (ap (λ k. admits_all model s k group) check
        ∙ waiting_suffice s sound group it_waits (λ t x. model.admits kind (view_of t x) s.aim)
        ∙ each_live-from s.bounds s.tasks (λ t x. not (nat_eq x.group group) || (nat_eq x.level s.target || model.admits kind (view_of t x) s.aim)) (λ t x positive within live. member_passes group no_refusal t x live))

    -- the groups that switch are those that the verdicts tell
    pub told : (group : ℕ) → switches_at model s event group ≡ switches_by table (verdicts_of model kind s) group
    told group = same_bool (switches_at model s event group) (switches_by table (verdicts_of model kind s) group) (told-from group) (told-is group)

  -- ---- When a scan completes the transition

  waiting_judged : (p : Verdict → Bool) (t : ℕ) (x : LegTask) → s.tasks t ≡ Live x → nat_eq x.level s.target ≡ false → p (verdict_of model kind s.aim (view_of t x)) ≡ true → list_any p (verdicts_of model kind s) ≡ true
  waiting_judged p t x live off passed =
      let bounds = sound.numbered t x live in
      verdict-from model kind s p (record { number = t; task = x; live = live; off = off; passed = passed }) bounds.0 bounds.1

  any_long : (p : Verdict → Bool) (vs : List Verdict) → list_any p vs ≡ true → nat_eq (length vs) 0 ≡ false
  any_long p [] h = absurd (cc)
  any_long p (v ∷ vs) h = ne_eqb (length (v ∷ vs)) 0 (λ (e : suc (length vs) ≡ 0). absurd (omega arith))

  long_any : (vs : List Verdict) → nat_eq (length vs) 0 ≡ false → list_any (λ v. true) vs ≡ true
  long_any [] h = absurd (cc)
  long_any (v ∷ vs) h = refl

  -- where the transition is complete no task is looked at
  complete-is : complete_in s ≡ true → nat_eq (length (verdicts_of model kind s)) 0 ≡ true
  complete-is all_on =
      not-false (nat_eq (length (verdicts_of model kind s)) 0)
      (not_from_true (nat_eq (length (verdicts_of model kind s)) 0)
      (⊎_elim
      (λ (none : nat_eq (length (verdicts_of model kind s)) 0 ≡ true). none)
      (λ (some : nat_eq (length (verdicts_of model kind s)) 0 ≡ false).
      let j = verdict-is model kind s (λ v. true) (long_any (verdicts_of model kind s) some) in
      let bounds = sound.numbered j.number j.task j.live in
      let on = each_live-at s.bounds s.tasks (λ t x. nat_eq x.level s.target) all_on j.number j.task bounds.0 bounds.1 j.live in
      let off = j.off in
      absurd (cc))
      (cases_Bool (nat_eq (length (verdicts_of model kind s)) 0))))

  -- where some task waits, it is looked at
  complete-from : complete_in s ≡ false → nat_eq (length (verdicts_of model kind s)) 0 ≡ false
  complete-from busy =
      ⊎_elim
      (λ (none : nat_eq (length (verdicts_of model kind s)) 0 ≡ true).
      let all_on = each_live-from s.bounds s.tasks (λ t x. nat_eq x.level s.target) (λ t x positive within live.
      ⊎_elim
      (λ (on : nat_eq x.level s.target ≡ true). on)
      (λ (off : nat_eq x.level s.target ≡ false). let some = any_long (λ v. true) (verdicts_of model kind s) (waiting_judged (λ v. true) t x live off refl) in absurd (cc))
      (cases_Bool (nat_eq x.level s.target))) in
      absurd (cc))
      (λ (some : nat_eq (length (verdicts_of model kind s)) 0 ≡ false). some)
      (cases_Bool (nat_eq (length (verdicts_of model kind s)) 0))

  module _ (switches : ℕ → Bool) (by : (group : ℕ) → switches group ≡ switches_by table (verdicts_of model kind s) group) where
    -- a task after the groups that switch did so
    abbrev pub after_switch : LegTask → LegTask
    after_switch x = if switches x.group then record x { level = s.target } else x

    after_switch_off : (x : LegTask) → switches x.group ≡ false → (after_switch x).level ≡ x.level
    after_switch_off x stays = ap (λ (y : LegTask). y.level) (cond-false (switches x.group) (record x { level = s.target }) x stays)

    after_switch_on : (x : LegTask) → switches x.group ≡ true → (after_switch x).level ≡ s.target
    after_switch_on x went = ap (λ (y : LegTask). y.level) (cond-true (switches x.group) (record x { level = s.target }) x went)

    on_after : (x : LegTask) → nat_eq x.level s.target ≡ true → nat_eq (after_switch x).level s.target ≡ true
    on_after x on =
        ⊎_elim
        (λ (went : switches x.group ≡ true). eq-eqb (after_switch x).level s.target (after_switch_on x went))
        (λ (stays : switches x.group ≡ false). ap (λ l. nat_eq l s.target) (after_switch_off x stays) ∙ on)
        (cases_Bool (switches x.group))

    -- where each looked at was admitted, each task is on the target after
    admitted_completes : list_any (λ v. is_some v.blame) (verdicts_of model kind s) ≡ false → each_live s.bounds s.tasks (λ t x. nat_eq (after_switch x).level s.target) ≡ true
    admitted_completes no_refusal =
        each_live-from s.bounds s.tasks (λ t x. nat_eq (after_switch x).level s.target) (λ t x positive within live.
        ⊎_elim
        (λ (on : nat_eq x.level s.target ≡ true). on_after x on)
        (λ (off : nat_eq x.level s.target ≡ false).
        let admitted = found-from false x.group t x live off refl (⊎_elim
        (λ (blame : is_some (model.blame kind (view_of t x) s.aim) ≡ true). let refusal = waiting_judged (λ v. is_some v.blame) t x live off blame in absurd (cc))
        (λ (free : is_some (model.blame kind (view_of t x) s.aim) ≡ false). not_from_false (is_some (model.blame kind (view_of t x) s.aim)) free)
        (cases_Bool (is_some (model.blame kind (view_of t x) s.aim)))) in
        let unblocked = not_from_false (list_any (is_found table true x.group) (verdicts_of model kind s)) (false_from_ne_true (list_any (is_found table true x.group) (verdicts_of model kind s)) (λ refused.
        let j = found-is true x.group refused in
        let refusal = waiting_judged (λ v. is_some v.blame) j.number j.task j.live j.off j.told in
        absurd (cc))) in
        let went = by x.group ∙ and_from (list_any (is_found table false x.group) (verdicts_of model kind s)) (not (list_any (is_found table true x.group) (verdicts_of model kind s))) admitted unblocked in
        eq-eqb (after_switch x).level s.target (after_switch_on x went))
        (cases_Bool (nat_eq x.level s.target)))

    -- where each task is on the target after, nobody was refused
    completes_admitted : each_live s.bounds s.tasks (λ t x. nat_eq (after_switch x).level s.target) ≡ true → list_any (λ v. is_some v.blame) (verdicts_of model kind s) ≡ false
    completes_admitted all_on =
        false_from_ne_true (list_any (λ v. is_some v.blame) (verdicts_of model kind s)) (λ refused.
        let j = verdict-is model kind s (λ v. is_some v.blame) refused in
        let bounds = sound.numbered j.number j.task j.live in
        let on = each_live-at s.bounds s.tasks (λ t x. nat_eq (after_switch x).level s.target) all_on j.number j.task bounds.0 bounds.1 j.live in
        ⊎_elim
        (λ (went : switches j.task.group ≡ true).
        let parts = and_parts (list_any (is_found table false j.task.group) (verdicts_of model kind s)) (not (list_any (is_found table true j.task.group) (verdicts_of model kind s))) (sym (by j.task.group) ∙ went) in
        let unblocked = not-true (list_any (is_found table true j.task.group) (verdicts_of model kind s)) parts.1 in
        let blocked = found-from true j.task.group j.number j.task j.live j.off refl j.passed in
        absurd (cc))
        (λ (stays : switches j.task.group ≡ false).
        let off = ap (λ l. nat_eq l s.target) (after_switch_off j.task stays) ∙ j.off in
        absurd (cc))
        (cases_Bool (switches j.task.group)))

    -- a scan completes the transition where some task waits and each is admitted
    pub completes : (each_live s.bounds (λ t. map_live after_switch (s.tasks t)) (λ t x. nat_eq x.level s.target) && not (complete_in s)) ≡ all_admit (verdicts_of model kind s)
    completes =
        let all_on = each_live-map s.bounds after_switch s.tasks (λ t x. nat_eq x.level s.target) in
        same_bool (each_live s.bounds (λ t. map_live after_switch (s.tasks t)) (λ t x. nat_eq x.level s.target) && not (complete_in s)) (all_admit (verdicts_of model kind s))
        (λ h.
        let parts = and_parts (each_live s.bounds (λ t. map_live after_switch (s.tasks t)) (λ t x. nat_eq x.level s.target)) (not (complete_in s)) h in
        and_from (not (nat_eq (length (verdicts_of model kind s)) 0)) (not (list_any (λ v. is_some v.blame) (verdicts_of model kind s)))
        (not_from_false (nat_eq (length (verdicts_of model kind s)) 0) (complete-from (not-true (complete_in s) parts.1)))
        (not_from_false (list_any (λ v. is_some v.blame) (verdicts_of model kind s)) (completes_admitted (sym all_on ∙ parts.0))))
        (λ h.
        let parts = and_parts (not (nat_eq (length (verdicts_of model kind s)) 0)) (not (list_any (λ v. is_some v.blame) (verdicts_of model kind s))) h in
        and_from (each_live s.bounds (λ t. map_live after_switch (s.tasks t)) (λ t x. nat_eq x.level s.target)) (not (complete_in s))
        (all_on ∙ admitted_completes (not-true (list_any (λ v. is_some v.blame) (verdicts_of model kind s)) parts.1))
        (not_from_false (complete_in s) (false_from_ne_true (complete_in s) (λ all_on.
        let none = complete-is all_on in
        let some = not-true (nat_eq (length (verdicts_of model kind s)) 0) parts.0 in
        absurd (cc)))))
