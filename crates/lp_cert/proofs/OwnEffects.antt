-- An accepted event makes of the lines what is told of it before, and a scan what it finds.
use Rattle.std.proofs.Common.{◌≡◌, ◌<◌, ℕ, suc, Bool, true, false, ◌&&◌, List, Option, Some, None, is_none, is_some, if◌then◌else◌, nat_eq, refl, sym, ap, subst, ◌∙◌}
use Rattle.std.specs.List.{AllByRecursion, list_any}
use Rattle.std.proofs.lemmas.Bool.{cond-true, cond-false}
use Rattle.lp_model.specs.Rules.{Rules, IsLawful}
use Rattle.lp_model.specs.declared.check.CheckKind.{CheckKind}
use Rattle.lp_model.specs.declared.check.CheckKind.TheVariants as check
use Rattle.lp_model.specs.declared.verdict.Verdict.{Verdict}
use Rattle.lp_definitions.specs.declared.event.Event.{Event}
use Rattle.lp_definitions.specs.declared.event.Event.TheVariants.{Fork, Resched, Walk, Stop, Die}
use Rattle.lp_definitions.specs.declared.line.Line.{Line}
use Rattle.lp_definitions.specs.declared.reply.Reply.{Reply}
use Rattle.lp_definitions.specs.Events.{is_control, is_scan}
use Rattle.lp_definitions.specs.Leg.{State}
use Rattle.lp_machine.specs.Table.{Engine, state_in}
use Rattle.lp_transition.specs.LastScan.{used_scan}
use Rattle.lp_transition.specs.Scan.{AreEnough, is_scan_kind, scan_event}
use Rattle.lp_transition.specs.Weigh.{AreVerdictsFor, IsWeighed, Weighed, refusal_in}
use Rattle.lp_transition.specs.inside.ScanSteps.{groups_of}
use Rattle.lp_transition.proofs.Weighing.{refused-as, scan_accepted}
use Rattle.lp_cert.specs.Ends.{is_opening}
use Rattle.lp_cert.specs.Waiters.{WaitingGroups}
use Rattle.lp_cert.specs.inside.OwnEffects.{HasOwnRoom}
use Rattle.lp_cert.specs.inside.StepLines.{noted_by, noted_lines, stepped_lines}
use Rattle.lp_cert.specs.inside.Waiters.{HasFewGroups, IsUsedVerdict, lines_at, own_lines, scanned_lines}
use Rattle.lp_cert.proofs.MoreWaiters.{used_enough}
use Rattle.lp_cert.proofs.UnchangedSteps.{scan_is}

some_none : {A : Type 0} (o : Option A) → is_some o ≡ true → is_none o ≡ false
some_none None some = cc
some_none (Some x) some = refl

none_some : {A : Type 0} (o : Option A) → is_some o ≡ false → is_none o ≡ true
none_some None none = refl
none_some (Some x) none = cc

-- there is room for what an event does by itself
pub own_room : (event : Event) (waiters : WaitingGroups) → 1 < waiters.reasons.room → HasOwnRoom event waiters
own_room (Fork p c how) waiters room = room
own_room (Resched t) waiters room = room
own_room _ waiters room = tt

-- an event that is told by itself
abbrev pub is_told : Event → Bool
is_told (Fork p c how) = true
is_told (Resched t) = true
is_told (Die t) = true
is_told _ = false

unused : (b : Bool) (kind : CheckKind) → (if b then Some kind else None) ≡ None → b ≡ false
unused true kind is = cc
unused false kind is = refl

-- any other that is no scan which the model uses does nothing
pub does_nothing : (model : Rules) (e : Engine) (event : Event) → used_scan model event ≡ None → is_told event ≡ false → (verdicts : List Verdict) (lines : ℕ → Option (List Line)) (group : ℕ) → own_lines model e event verdicts lines group ≡ lines group
does_nothing model e Walk none other verdicts lines group = cond-false (model.uses check.Walk) _ (lines group) (unused (model.uses check.Walk) check.Walk none)
does_nothing model e Stop none other verdicts lines group = cond-false (model.uses check.Stop) _ (lines group) (unused (model.uses check.Stop) check.Stop none)
does_nothing model e (Fork p c how) none other verdicts lines group = cc
does_nothing model e (Resched t) none other verdicts lines group = cc
does_nothing model e (Die t) none other verdicts lines group = cc
does_nothing model e _ none other verdicts lines group = refl

pub few_others : (e : Engine) (event : Event) → is_told event ≡ false → HasFewGroups e event
few_others e (Fork p c how) other = cc
few_others e _ other = tt

module _ (model : Rules) (e : Engine) (step : Weighed) where
  -- ---- Events that are no scans which the model uses

  noted : used_scan model step.event ≡ None → (waiters : WaitingGroups) (group : ℕ) → noted_lines model e step.event step.verdicts waiters group ≡ own_lines model e step.event step.verdicts (lines_at waiters) group
  noted none waiters group = ap (λ (o : Option CheckKind). noted_by model e o step.event step.verdicts waiters group) none

  -- a refused one leaves the lines
  pub left_refused : (before : WaitingGroups) (group : ℕ) → is_some (refusal_in step.reply.what) ≡ true → lines_at before group ≡ stepped_lines model e step before group
  left_refused before group refused = sym (cond-false _ _ _ (some_none _ refused))

  -- whom the answer to an accepted one switches has none
  pub left_accepted : used_scan model step.event ≡ None → (before : WaitingGroups) (group : ℕ) (left : Option (List Line)) → own_lines model e step.event step.verdicts (lines_at before) group ≡ left → is_some (refusal_in step.reply.what) ≡ false
      → (if list_any (nat_eq group) (groups_of step.reply.what) then None else left) ≡ stepped_lines model e step before group
  left_accepted none before group left is accepted =
      ap (λ ls. if list_any (nat_eq group) (groups_of step.reply.what) then None else ls) (sym is ∙ sym (noted none before group))
      ∙ sym (cond-true _ _ _ (none_some _ accepted))

  -- ---- Scans

  accepts : IsWeighed model e step → is_scan step.event ≡ true → is_none (refusal_in step.reply.what) ≡ true
  accepts weighed scan =
      ap is_none (ap (λ (r : Reply). refusal_in r.what) weighed.reply ∙ (refused-as model (state_in e) step.event ∙ scan_accepted model (state_in e) step.event scan))

  stepped_from : IsWeighed model e step → is_scan step.event ≡ true → (before : WaitingGroups) (group : ℕ) (left : Option (List Line)) → left ≡ noted_lines model e step.event step.verdicts before group
      → (if list_any (nat_eq group) (groups_of step.reply.what) then None else left) ≡ stepped_lines model e step before group
  stepped_from weighed scan before group left is =
      ap (λ ls. if list_any (nat_eq group) (groups_of step.reply.what) then None else ls) is
      ∙ sym (cond-true _ _ _ (accepts weighed scan))

  -- of a kind that the model uses
  pub scanned_so : IsWeighed model e step → is_scan step.event ≡ true → (on : CheckKind) → used_scan model step.event ≡ Some on → (before : WaitingGroups) (at group : ℕ) (left : Option (List Line)) → at ≡ suc e.number → left ≡ scanned_lines (state_in e) at step.verdicts before group
      → (if list_any (nat_eq group) (groups_of step.reply.what) then None else left) ≡ stepped_lines model e step before group
  scanned_so weighed scan on used before at group left numbered is =
      stepped_from weighed scan before group left
      (is ∙ (ap (λ n. scanned_lines (state_in e) n step.verdicts before group) numbered ∙ sym (ap (λ (o : Option CheckKind). noted_by model e o step.event step.verdicts before group) used)))

-- a scan that the model uses is one
pub is_used : (model : Rules) (event : Event) (on : CheckKind) → used_scan model event ≡ Some on → is_scan event ≡ true
is_used model Walk on used = refl
is_used model Stop on used = refl
is_used model _ on used = cc

-- its verdicts are of members that are blamed for it
pub used_verdicts_of : (model : Rules) → IsLawful model → (s : State) (event : Event) (on : CheckKind) → used_scan model event ≡ Some on → (verdicts : List Verdict) → AreVerdictsFor model s event verdicts → AllByRecursion IsUsedVerdict verdicts
used_verdicts_of model lawful s event on used verdicts enough =
    let scan = scan_is model event on used in
    used_enough model lawful on s verdicts (scan_enough model s on verdicts scan.scan (subst (λ (ev : Event). AreVerdictsFor model s ev verdicts) scan.is enough)) scan.used
  where
    scan_enough : (model : Rules) (s : State) (kind : CheckKind) (verdicts : List Verdict) → is_scan_kind kind ≡ true → AreVerdictsFor model s (scan_event kind) verdicts → AreEnough model kind s verdicts
    scan_enough model s check.Walk verdicts scan enough = enough
    scan_enough model s check.Stop verdicts scan enough = enough
    scan_enough model s _ verdicts scan enough = cc

-- a scan is no birth
pub few_scanned : (e : Engine) (event : Event) → is_scan event ≡ true → HasFewGroups e event
few_scanned e (Fork p c how) scan = cc
few_scanned e _ scan = tt

-- and opens no leg
pub scan_stays : (step : Weighed) → is_scan step.event ≡ true → is_opening step ≡ false
scan_stays step scan = ap (λ b. b && is_none (refusal_in step.reply.what)) (uncontrolled step.event scan)
  where
    uncontrolled : (event : Event) → is_scan event ≡ true → is_control event ≡ false
    uncontrolled Walk scan = refl
    uncontrolled Stop scan = refl
    uncontrolled _ scan = cc
