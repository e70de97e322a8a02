-- The engine after a scan.
use Rattle.std.proofs.Common.{◌≡◌, ℕ, suc, ◌<◌, ◌≤◌, Bool, true, false, not, ◌&&◌, List, [], ◌∷◌, Option, Some, None, is_some, is_none, if◌then◌else◌, nat_eq, refl, sym, ap, ap₂, ◌∙◌, subst, ⊎_elim, arith}
use Rattle.std.proofs.lemmas.Bool.{false≢true, cond-true, cond-false, cases_Bool, cases_lt, and_from, and_parts, eqb-true, eq-eqb, not-true, not_from_true, not_from_false, false_from_ne_true}
use Rattle.std.proofs.lemmas.List.{get_or_past}
use Rattle.std.proofs.lemmas.List.Folds.{Any-from_list_any, list_any-from_Any}
use Rattle.std.specs.List.{list_any}
use Rattle.std.specs.Option.{option_map}
use mathlib.Core.Path.{fun_ext}
use Rattle.lp_numbers.specs.Numbers.{Numbers, has}
use Rattle.lp_model.specs.Rules.{Rules, IsLawful}
use Rattle.lp_model.specs.declared.check.Blame.{Blame}
use Rattle.lp_model.specs.declared.check.CheckKind.{CheckKind}
use Rattle.lp_model.specs.declared.check.CheckKind.TheVariants as Check
use Rattle.lp_model.specs.declared.verdict.Verdict.{Verdict}
use Rattle.lp_definitions.specs.declared.event.Event.{Event}
use Rattle.lp_definitions.specs.declared.event.Event.TheVariants.{Walk, Stop}
use Rattle.lp_definitions.specs.declared.reply.Reply.{Reply}
use Rattle.lp_definitions.specs.Run.{switched}
use Rattle.lp_definitions.specs.Tasks.{Unused, Live, map_live}
use Rattle.lp_definitions.specs.Leg.{LegTask, State}
use Rattle.lp_definitions.specs.Sound.{IsSound}
use Rattle.lp_machine.specs.Machine.{switches_at, affected, refusal_of, next, answer}
use Rattle.lp_machine.specs.Table.{Table, Engine, IsWide, slot, fate_at, leg_tasks, state_in}
use Rattle.lp_tasks.specs.inside.Table.{is_in, is_off}
use Rattle.lp_transition.specs.inside.Invariant.{IsBetween, IsEngine}
use Rattle.lp_transition.specs.Weigh.{Weighed, IsWeighed, AreVerdictsFor, is_switched}
use Rattle.lp_transition.specs.Scan.{is_scan_kind, scan_event, verdicts_of, AreEnough}
use Rattle.lp_transition.specs.inside.ScanSteps.{is_found, is_judged, is_unrefused, switches_by, switched_if, task_switches, AreSwitched}
use Rattle.lp_machine.proofs.EngineLemmas.{next-accepted}
use Rattle.lp_transition.proofs.Effects.{HasTaken, with_table, state-with_table, sound_next}
use Rattle.lp_tasks.proofs.TableLemmas.{live_from_slot, slot_from_live}
use Rattle.lp_transition.proofs.ScanSwitches.{same_switched}
use Rattle.lp_definitions.proofs.Quantifiers.{same_bool}
use Rattle.lp_transition.proofs.AskedScans.{judged-waits, switches-among, switches-judged}
use Rattle.lp_tasks.specs.Passing.{passing}
use Rattle.lp_tasks.proofs.Passing.{passing-any}
use Rattle.lp_transition.proofs.ScanLists.{any-map}
use Rattle.lp_transition.proofs.ScanAnswers.{answer-scan, switches-walk, switches-stop}

-- ---- The tasks

fate-map : (f : LegTask → LegTask) (o : Option LegTask) (used : Bool) → fate_at (option_map f o) used ≡ map_live f (fate_at o used)
fate-map f None true = refl
fate-map f None false = refl
fate-map f (Some x) used = refl

-- a task on the target is as it was, whether its group switches or not
switched_on : (switches : ℕ → Bool) (target : ℕ) (x : LegTask) → x.level ≡ target → x ≡ switched_if switches target x
switched_on switches target x e =
    ⊎_elim
    (λ (went : switches x.group ≡ true). ap (λ (l : ℕ). let y : LegTask = record x { level = l } in y) e ∙ sym (cond-true (switches x.group) (record x { level = target }) x went))
    (λ (stays : switches x.group ≡ false). sym (cond-false (switches x.group) (record x { level = target }) x stays))
    (cases_Bool (switches x.group))

-- who doesn't wait is on the target
slot_switched : (switches : ℕ → Bool) (target : ℕ) (b : Bool) (o : Option LegTask) → b ≡ is_off target o → (if b then option_map (switched_if switches target) o else o) ≡ option_map (switched_if switches target) o
slot_switched switches target true o e = refl
slot_switched switches target false None e = refl
slot_switched switches target false (Some x) e =
    ap Some (switched_on switches target x (⊎_elim
    (λ (on : nat_eq x.level target ≡ true). eqb-true x.level target on)
    (λ (off : nat_eq x.level target ≡ false). let out = not_from_false (nat_eq x.level target) off in absurd (cc))
    (cases_Bool (nat_eq x.level target))))

-- who switched waits no longer
waits_switched : (switches : ℕ → Bool) (target : ℕ) (b : Bool) (o : Option LegTask) → b ≡ is_off target o → (b && not (b && task_switches switches o)) ≡ is_off target (if b then option_map (switched_if switches target) o else o)
waits_switched switches target true None e = absurd (cc)
waits_switched switches target false None e = refl
waits_switched switches target false (Some x) e = e
waits_switched switches target true (Some x) e =
    ⊎_elim
    (λ (went : switches x.group ≡ true).
    ap not went ∙ sym (ap (λ (y : LegTask). not (nat_eq y.level target)) (cond-true (switches x.group) (record x { level = target }) x went) ∙ not_from_true (nat_eq target target) (eq-eqb target target refl)))
    (λ (stays : switches x.group ≡ false).
    ap not stays ∙ e ∙ sym (ap (λ (y : LegTask). not (nat_eq y.level target)) (cond-false (switches x.group) (record x { level = target }) x stays)))
    (cases_Bool (switches x.group))

-- who switched is on the target, and who didn't stays where it was
between_switched : (switches : ℕ → Bool) (from target : ℕ) (b : Bool) (o : Option LegTask) → IsBetween from target o → IsBetween from target (if b then option_map (switched_if switches target) o else o)
between_switched switches from target false o between off = between off
between_switched switches from target true None between off = between off
between_switched switches from target true (Some x) between off =
    ⊎_elim
    (λ (went : switches x.group ≡ true).
    let there : switched_if switches target x ≡ record x { level = target } = cond-true (switches x.group) (record x { level = target }) x went in
    absurd (false≢true (sym (not_from_true (nat_eq target target) (eq-eqb target target refl)) ∙ sym (ap (λ (y : LegTask). not (nat_eq y.level target)) there) ∙ off)))
    (λ (stays : switches x.group ≡ false).
    let same : switched_if switches target x ≡ x = cond-false (switches x.group) (record x { level = target }) x stays in
    ap (λ (y : LegTask). not (nat_eq y.level from)) same ∙ between (sym (ap (λ (y : LegTask). not (nat_eq y.level target)) same) ∙ off))
    (cases_Bool (switches x.group))

-- ---- The groups

unused_past : (table : Table) (g : ℕ) → IsWide table → 65536 ≤ g → leg_tasks table g ≡ Unused
unused_past table g wide h =
    ap₂ fate_at (get_or_past table.slots g None (omega (arith, wide.slots))) (get_or_past table.used g false (omega (arith, wide.used)))

-- a live task's group is a 16-bit number
pub group_fits : (e : Engine) (t : ℕ) (x : LegTask) → IsSound (state_in e) → IsWide e.table → slot e.table t ≡ Some x → x.group < 65536
group_fits e t x sound wide there =
    ⊎_elim
    (λ (zero_is : x.group ≡ 0). omega arith)
    (λ (known : leg_tasks e.table x.group ≡ Unused → ⊥). ⊎_elim (λ (h : x.group < 65536). h) (λ (h : 65536 ≤ x.group). absurd (known (unused_past e.table x.group wide h))) (cases_lt x.group 65536))
    (sound.grouped t x (live_from_slot e.table t x there))

-- ---- Who goes

none_of : (o : Option Blame) → is_some o ≡ false → is_none o ≡ true
none_of None h = refl
none_of (Some why) h = absurd (cc)

-- where a task was looked at and no verdict refuses its group, one admits it
admitted : (table : Table) (t : ℕ) (x : LegTask) (vs : List Verdict) → slot table t ≡ Some x → is_judged vs t ≡ true → list_any (is_found table true x.group) vs ≡ false → list_any (is_found table false x.group) vs ≡ true
admitted table t x vs at judged free =
    let v = Any-from_list_any (λ (w : Verdict). nat_eq t w.task.0) vs (sym (any-map (λ (w : Verdict). w.task.0) (nat_eq t) vs) ∙ judged) in
    let mine : is_in x.group (slot table v.1.task.0) ≡ true = ap (λ n. is_in x.group (slot table n)) (sym (eqb-true t v.1.task.0 v.4)) ∙ ap (is_in x.group) at ∙ eq-eqb x.group x.group refl in
    let unrefused = false_from_ne_true (is_some v.1.blame) (λ yes. false≢true (sym free ∙ list_any-from_Any (is_found table true x.group) vs (v.0, v.1, v.2, v.3, ap₂ (λ a b. a && b) yes mine))) in
    list_any-from_Any (is_found table false x.group) vs (v.0, v.1, v.2, v.3, ap₂ (λ a b. a && b) (none_of v.1.blame unrefused) mine)

and-false : (b : Bool) → (b && false) ≡ false
and-false true = refl
and-false false = refl

module _ (model : Rules) (lawful : IsLawful model) (e : Engine) (waiting : Numbers) (kept : IsEngine e waiting) where
  there : (t : ℕ) (x : LegTask) → leg_tasks e.table t ≡ Live x → slot e.table t ≡ Some x
  there t x live = slot_from_live e.table t x live

  module _ (kind : CheckKind) (vs : List Verdict) (enough : AreEnough model kind (state_in e) vs) (refused : Numbers) (told : (group : ℕ) → group < 65536 → has refused group ≡ list_any (is_found e.table true group) vs) (switches : ℕ → Bool)
      (tells : (group : ℕ) → switches group ≡ switches_by e.table (verdicts_of model kind (state_in e)) group) where
    -- the verdicts tell the groups that switch
    by_verdicts : (group : ℕ) → switches_by e.table vs group ≡ switches group
    by_verdicts group =
        ap (λ (ws : List Verdict). switches_by e.table ws group) enough.found
        ∙ switches-among model lawful kind (state_in e) kept.sound enough.looked enough.others e.table there group
        ∙ sym (tells group)

    -- who was looked at and is of no refused group, is who waits and whose group switches
    who_goes : (t : ℕ) (o : Option LegTask) → slot e.table t ≡ o → (is_judged vs t && task_switches (is_unrefused refused) o) ≡ (has waiting t && task_switches switches o)
    who_goes t None at = and-false (is_judged vs t) ∙ sym (and-false (has waiting t))
    who_goes t (Some x) at =
        let g = x.group in
        let refuses = told g (group_fits e t x kept.sound kept.wide at) in
        same_bool (is_judged vs t && not (has refused g)) (has waiting t && switches g)
        (λ h.
        let parts = and_parts (is_judged vs t) (not (has refused g)) h in
        let free = sym refuses ∙ not-true (has refused g) parts.1 in
        let j = judged-waits model lawful kind (state_in e) kept.sound vs enough t parts.0 in
        let waits = kept.waits t ∙ ap (is_off e.target) (there t j.0 j.1) ∙ not_from_false (nat_eq j.0.level e.target) j.2 in
        and_from (has waiting t) (switches g) waits (sym (by_verdicts g) ∙ ap₂ (λ a b. a && not b) (admitted e.table t x vs at parts.0 free) free))
        (λ h.
        let parts = and_parts (has waiting t) (switches g) h in
        let off = not-true (nat_eq x.level e.target) (sym (kept.waits t ∙ ap (is_off e.target) at) ∙ parts.0) in
        let free = (and_parts (list_any (is_found e.table false g) vs) (not (list_any (is_found e.table true g) vs)) (by_verdicts g ∙ parts.1)).1 in
        and_from (is_judged vs t) (not (has refused g))
        (switches-judged model lawful kind (state_in e) kept.sound vs enough e.table there t x (live_from_slot e.table t x at) off (sym (tells g) ∙ parts.1))
        (ap not refuses ∙ free))

    -- where no group switches, nobody goes
    pub nobody-goes : ((group : ℕ) → group < 65536 → switches group ≡ false) → (t : ℕ) → is_judged vs t ≡ true → task_switches (is_unrefused refused) (slot e.table t) ≡ false
    nobody-goes none t judged =
        ap (λ b. b && task_switches (is_unrefused refused) (slot e.table t)) (sym judged)
        ∙ who_goes t (slot e.table t) refl
        ∙ ap (λ b. has waiting t && b) (stays (slot e.table t) refl)
        ∙ and-false (has waiting t)
      where
        stays : (o : Option LegTask) → slot e.table t ≡ o → task_switches switches o ≡ false
        stays None at = refl
        stays (Some x) at = none x.group (group_fits e t x kept.sound kept.wide at)

    module _ (event : Event) (table : Table) (left : Numbers) (room : e.number < 1000000) (went : AreSwitched (is_judged vs) (is_unrefused refused) e.target e.table table waiting left)
        (next_is : (let s = state_in e in record s { number = suc s.number; tasks = (λ t. map_live (switched_if switches e.target) (leg_tasks e.table t)) }) ≡ next model (state_in e) event) where
      all_went : AreSwitched (has waiting) switches e.target e.table table waiting left
      all_went = same_switched (is_judged vs) (has waiting) (is_unrefused refused) switches e.target e.table table waiting left (λ t. who_goes t (slot e.table t) refl) went

      -- the tasks after the groups switched
      tasks_after : leg_tasks table ≡ (λ t. map_live (switched_if switches e.target) (leg_tasks e.table t))
      tasks_after =
          fun_ext (λ t.
          ap₂ fate_at
          (all_went.tasks t ∙ slot_switched switches e.target (has waiting t) (slot e.table t) (kept.waits t))
          (ap (λ set. has set t) all_went.used)
          ∙ fate-map (switched_if switches e.target) (slot e.table t) (has e.table.used t))

      takes_by : HasTaken model e event (with_table table e) left
      takes_by =
          let after = state-with_table e table (λ t. map_live (switched_if switches e.target) (leg_tasks e.table t)) tasks_after ∙ next_is in
          record {
            kept = record {
              sound = sound_next model lawful e (with_table table e) event kept.sound after;
              wide = all_went.wide kept.wide;
              waiting_wide = all_went.numbers ∙ kept.waiting_wide;
              waits = λ t. all_went.waits t ∙ waits_switched switches e.target (has waiting t) (slot e.table t) (kept.waits t) ∙ ap (is_off e.target) (sym (all_went.tasks t));
              between = λ t. subst (IsBetween e.from e.target) (sym (all_went.tasks t)) (between_switched switches e.from e.target (has waiting t) (slot e.table t) (kept.between t));
              from_fits = kept.from_fits;
              target_fits = kept.target_fits;
              number_fits = omega arith;
            };
            state = after;
          }

  module _ (table : Table) (left : Numbers) (vs : List Verdict) (refused : Numbers) (room : e.number < 1000000) (told : (group : ℕ) → group < 65536 → has refused group ≡ list_any (is_found e.table true group) vs)
      (went : AreSwitched (is_judged vs) (is_unrefused refused) e.target e.table table waiting left) where
    accepted_walk : refusal_of model (state_in e) Walk ≡ None
    unfolding refusal_of
    accepted_walk = refl

    accepted_stop : refusal_of model (state_in e) Stop ≡ None
    unfolding refusal_of
    accepted_stop = refl

    takes_kind : (kind : CheckKind) → is_scan_kind kind ≡ true → AreEnough model kind (state_in e) vs → HasTaken model e (scan_event kind) (with_table table e) left
    takes_kind Check.Walk scan enough =
        let s = state_in e in
        takes_by Check.Walk vs enough refused told (switches_at model (affected model s Walk) Walk) (switches-walk model lawful 65536 s (omega arith) kept.sound e.table there) Walk table left room went (sym (next-accepted model s Walk accepted_walk refl))
    takes_kind Check.Stop scan enough =
        let s = state_in e in
        takes_by Check.Stop vs enough refused told (switches_at model (affected model s Stop) Stop) (switches-stop model lawful 65536 s (omega arith) kept.sound e.table there) Stop table left room went (sym (next-accepted model s Stop accepted_stop refl))
    takes_kind _ scan enough = absurd (cc)

-- the groups of a reply that says that nothing switched
no_group : (groups : List ℕ) → is_switched (switched groups) ≡ false → (group : ℕ) → list_any (nat_eq group) groups ≡ false
no_group [] is group = refl
no_group (g ∷ groups) is group = absurd (cc)

enough_by : (model : Rules) (s : State) (kind : CheckKind) (vs : List Verdict) → is_scan_kind kind ≡ true → AreVerdictsFor model s (scan_event kind) vs → AreEnough model kind s vs
enough_by model s Check.Walk vs h enough = enough
enough_by model s Check.Stop vs h enough = enough
enough_by model s _ vs h enough = absurd (cc)

-- a scan that was weighed on the engine that code holds, which is a check of a kind
module _ (model : Rules) (lawful : IsLawful model) (e old : Engine) (waiting : Numbers) (step : Weighed) (kind : CheckKind) (was : e ≡ old) (kept : IsEngine e waiting) (weighed : IsWeighed model old step) (scan : is_scan_kind kind ≡ true) (event : scan_event kind ≡ step.event)
    (refused : Numbers) (told : (group : ℕ) → group < 65536 → has refused group ≡ list_any (is_found e.table true group) step.verdicts) where
  here : IsWeighed model e step
  here = subst (λ (o : Engine). IsWeighed model o step) (sym was) weighed

  enough : AreEnough model kind (state_in e) step.verdicts
  enough = enough_by model (state_in e) kind step.verdicts scan (subst (λ given. AreVerdictsFor model (state_in e) given step.verdicts) (sym event) here.verdicts)

  -- nobody goes where it switched nothing
  pub still-scan : is_switched step.reply.what ≡ false → (t : ℕ) → is_judged step.verdicts t ≡ true → task_switches (is_unrefused refused) (slot e.table t) ≡ false
  still-scan still =
      let s = state_in e in
      let switches = switches_by e.table (verdicts_of model kind s) in
      let answered = here.reply ∙ ap (answer model s) (sym event) ∙ answer-scan model lawful 65536 s (omega arith) kept.sound e.table (there model lawful e waiting kept) kind scan in
      nobody-goes model lawful e waiting kept kind step.verdicts enough refused told switches (λ group. refl)
      (λ group few. sym (passing-any 65536 switches group few) ∙ no_group (passing 0 65536 switches) (sym (ap (λ (r : Reply). is_switched r.what) answered) ∙ still) group)

  pub takes_scan : (table : Table) (left : Numbers) → AreSwitched (is_judged step.verdicts) (is_unrefused refused) e.target e.table table waiting left → HasTaken model old step.event (with_table table e) left
  takes_scan table left went =
      subst (λ (o : Engine). HasTaken model o step.event (with_table table e) left) was
      (subst (λ given. HasTaken model e given (with_table table e) left) event
      (takes_kind model lawful e waiting kept table left step.verdicts refused here.room told went kind scan enough))
