-- Verdicts that tell of each group that waits, but for those of which it is known what a scan finds.
use Rattle.std.proofs.Common.{◌≡◌, ◌⊎◌, ℕ, Bool, true, false, ◌&&◌, List, [], Some, None, IsTrue, nat_eq, refl, sym, ap, subst, inl, inr, ◌∙◌, ⊎_elim}
use Rattle.std.proofs.lemmas.Bool.{cond-true, cond-false, cases_Bool, and_from, eq-eqb}
use Rattle.std.specs.List.{list_any}
use Rattle.lp_numbers.specs.Numbers.{has, IsEmpty}
use Rattle.lp_model.specs.Rules.{Rules}
use Rattle.lp_model.specs.declared.check.CheckKind.{CheckKind}
use Rattle.lp_model.specs.declared.verdict.Verdict.{Verdict}
use Rattle.lp_definitions.specs.declared.event.Event.{Event}
use Rattle.lp_definitions.specs.declared.event.Event.TheVariants.{Call, Ret, Sleep, Wake, Enter, Exit, Idle, Resched, Fork, Die, Walk, Stop, Enable, Disable, Reverse}
use Rattle.lp_definitions.specs.Events.{is_scan}
use Rattle.lp_definitions.specs.Tasks.{Live, on_live}
use Rattle.lp_definitions.specs.Leg.{LegTask, State}
use Rattle.lp_definitions.specs.Sound.{IsSound}
use Rattle.lp_machine.specs.Machine.{view_of}
use Rattle.lp_machine.specs.Table.{Engine, state_in}
use Rattle.lp_transition.specs.Blames.{is_open}
use Rattle.lp_transition.specs.LastScan.{TellOfChanges, used_kind, used_scan}
use Rattle.lp_transition.specs.Scan.{is_scan_kind, scan_event, is_of, is_asked, verdict_of, verdicts_of, verdicts_at, verdicts_among}
use Rattle.lp_transition.specs.Weigh.{IsKnown, Tells}
use Rattle.lp_transition.proofs.AskedScans.{all-looked, any-filter}
use Rattle.lp_transition.proofs.LastScans.{scan_used}
use Rattle.lp_transition.proofs.ScanLists.{verdict-from}
use Rattle.lp_transition.proofs.Unchanged.{none_some}

-- a group of which a waiting member is looked at has a verdict
pub seen_in : (model : Rules) (on : CheckKind) (s : State) → IsSound s → (looked : ℕ → Bool) (t : ℕ) (x : LegTask) → s.tasks t ≡ Live x → nat_eq x.level s.target ≡ false → looked t ≡ true
    → list_any (is_of s x.group) (verdicts_at model on s looked) ≡ true
seen_in model on s sound looked t x live off seen =
    let range = sound.numbered t x live in
    any-filter (λ (v : Verdict). looked v.task.0) (is_of s x.group) (verdicts_of model on s)
    ∙ verdict-from model on s (λ v. looked v.task.0 && is_of s x.group v) (record {
      number = t;
      task = x;
      live = live;
      off = off;
      passed = and_from (looked t) (is_of s x.group (verdict_of model on s.aim (view_of t x))) seen (ap (on_live false (λ (y : LegTask). nat_eq y.group x.group)) live ∙ eq-eqb x.group x.group refl);
    }) range.0 range.1

-- ---- Which events tell nothing

pub plain_unused : (model : Rules) (event : Event) → is_scan event ≡ false → used_scan model event ≡ None
plain_unused model Walk plain = absurd (cc)
plain_unused model Stop plain = absurd (cc)
plain_unused model (Call t f) plain = refl
plain_unused model (Ret t) plain = refl
plain_unused model (Sleep t) plain = refl
plain_unused model (Wake t) plain = refl
plain_unused model (Enter t) plain = refl
plain_unused model (Exit t) plain = refl
plain_unused model (Idle t) plain = refl
plain_unused model (Resched t) plain = refl
plain_unused model (Fork p c how) plain = refl
plain_unused model (Die t) plain = refl
plain_unused model Enable plain = refl
plain_unused model Disable plain = refl
plain_unused model Reverse plain = refl

pub plain_tells : (model : Rules) (e : Engine) (event : Event) (vs : List Verdict) → is_scan event ≡ false → Tells model e event vs
plain_tells model e event vs plain on used = absurd (none_some on (sym (plain_unused model event plain) ∙ used))

-- ---- Scans

module _ (model : Rules) (e : Engine) (on : CheckKind) (scan : is_scan_kind on ≡ true) where
  -- the scan is of this kind, which the model uses
  used_is : (k : CheckKind) → used_scan model (scan_event on) ≡ Some k → (on ≡ k) × IsTrue (model.uses on)
  used_is k some = by (model.uses on) refl
    where
      kind : used_kind model on ≡ Some k
      kind = sym (scan_used model on scan) ∙ some

      by : (b : Bool) → model.uses on ≡ b → (on ≡ k) × IsTrue (model.uses on)
      by true uses = let same : Some on ≡ Some k = sym (cond-true (model.uses on) (Some on) None uses) ∙ kind in (cc, uses)
      by false uses = absurd (none_some k (sym (cond-false (model.uses on) (Some on) None uses) ∙ kind))

  pub scan_tells : (vs : List Verdict) → (IsTrue (model.uses on) → (t : ℕ) (x : LegTask) → (state_in e).tasks t ≡ Live x → nat_eq x.level (state_in e).target ≡ false → (list_any (is_of (state_in e) x.group) vs ≡ true) ⊎ IsKnown e on x.group)
      → Tells model e (scan_event on) vs
  scan_tells vs each k some t x live off =
      let is = used_is k some in
      subst (λ j. (list_any (is_of (state_in e) x.group) vs ≡ true) ⊎ IsKnown e j x.group) is.0 (each is.1 t x live off)

  -- a scan of all who wait
  pub all_tells : IsSound (state_in e) → (vs : List Verdict) → vs ≡ verdicts_of model on (state_in e) → Tells model e (scan_event on) vs
  all_tells sound vs found =
      scan_tells vs (λ used t x live off.
      inl (ap (list_any (is_of (state_in e) x.group)) (found ∙ sym (all-looked model on (state_in e))) ∙ seen_in model on (state_in e) sound (λ u. true) t x live off refl))

  -- and of those that no frame holds back
  pub open_tells : IsSound (state_in e) → (vs : List Verdict) → vs ≡ verdicts_among model on (state_in e) (is_open e) → Tells model e (scan_event on) vs
  open_tells sound vs found =
      scan_tells vs (λ used t x live off.
      ⊎_elim
      (λ (free : is_open e x.group ≡ true).
      inl (ap (list_any (is_of (state_in e) x.group)) found
      ∙ seen_in model on (state_in e) sound (is_asked (state_in e) (is_open e)) t x live off (ap (on_live false (λ (y : LegTask). is_open e y.group)) live ∙ free)))
      (λ (held : is_open e x.group ≡ false). inr (inl held))
      (cases_Bool (is_open e x.group)))

  -- of those that changed since the last one
  pub changes_tell : IsSound (state_in e) → (vs : List Verdict) → (IsTrue (model.uses on) → TellOfChanges model e on vs) → Tells model e (scan_event on) vs
  changes_tell sound vs told =
      scan_tells vs (λ used t x live off.
      ⊎_elim
      (λ found. inl (ap (list_any (is_of (state_in e) x.group)) (found ∙ sym (all-looked model on (state_in e))) ∙ seen_in model on (state_in e) sound (λ u. true) t x live off refl))
      (λ some.
      ⊎_elim
      (λ (changed : has e.last_scan.changed x.group ≡ true). inl (some.1.each t x live off changed))
      (λ (out : has e.last_scan.changed x.group ≡ false). inr (inr (some.0, out)))
      (cases_Bool (has e.last_scan.changed x.group)))
      (told used))

  -- and of nobody, where none did
  pub none_tells : e.last_scan.kind ≡ Some on → IsEmpty e.last_scan.changed → Tells model e (scan_event on) []
  none_tells last none = scan_tells [] (λ used t x live off. inr (inr (last, none x.group)))
