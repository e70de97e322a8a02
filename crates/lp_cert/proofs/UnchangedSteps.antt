-- Which groups are unchanged after an event that opens no leg, by what the engine knows of the last scan.
use Rattle.std.proofs.Common.{◌≡◌, ℕ, suc, Bool, true, false, not, ◌||◌, List, length, Option, Some, None, IsTrue, IsFalse, nat_eq, refl, sym, ap, ap₂, subst, ◌∙◌}
use Rattle.std.proofs.lemmas.Bool.{false≢true, cond-true, cond-false}
use Rattle.lp_numbers.specs.Numbers.{has}
use Rattle.lp_model.specs.Rules.{Rules, IsLawful}
use Rattle.lp_model.specs.declared.check.CheckKind.{CheckKind}
use Rattle.lp_model.specs.declared.check.CheckKind.TheVariants as kind
use Rattle.lp_definitions.specs.declared.event.Event.{Event}
use Rattle.lp_definitions.specs.declared.event.Event.TheVariants.{Walk, Stop}
use Rattle.lp_transition.specs.LastScan.{IsLastScanAfter, AreSameMembers, used_kind, used_scan}
use Rattle.lp_definitions.specs.Leg.{State, Leg}
use Rattle.lp_definitions.specs.Run.{and_then, opens}
use Rattle.lp_definitions.specs.Sound.{IsSound}
use Rattle.lp_machine.specs.Machine.{state_of}
use Rattle.lp_transition.specs.Scan.{is_scan_kind, scan_event}
use Rattle.lp_machine.specs.Table.{Engine, LastScan, state_in}
use Rattle.lp_definitions.specs.declared.line.Line.{Line}
use Rattle.lp_definitions.specs.Certificates.{lines}
use Rattle.lp_transition.specs.Blames.{blame_of, is_open}
use Rattle.lp_cert.specs.Unchanged.{AreHeld, AreUnchanged, AreUnchangedBy, AreUnchangedSince, IsUnchanged}
use Rattle.lp_cert.proofs.UnchangedEvents.{IsNoUsedScan, unchanged_by}
use Rattle.lp_cert.proofs.UnchangedLines.{held_goes_on}
use Rattle.lp_cert.proofs.UnchangedScans.{scan_leaves_unchanged}

some_none : {A : Type 0} (a : A) → Some a ≡ None → ⊥
some_none a e = absurd (cc)

-- no group is said to be unchanged where there was no scan
pub none_unchanged : (model : Rules) (s : State) (ls : ℕ → List Line) (last_scan : LastScan) → last_scan.kind ≡ None → AreUnchangedBy model s ls last_scan
none_unchanged model s ls last_scan none = subst (λ (o : Option CheckKind). AreUnchangedSince model s ls o (has last_scan.changed)) (sym none) tt

-- ---- Which events are scans that the model uses

pub used_none : (model : Rules) (k : CheckKind) → used_kind model k ≡ None → IsFalse (model.uses k)
used_none model k none = by (model.uses k) refl
  where
    by : (b : Bool) → model.uses k ≡ b → model.uses k ≡ false
    by false e = e
    by true e = absurd (some_none k (sym (cond-true (model.uses k) (Some k) None e) ∙ none))

used_some : (model : Rules) (k on : CheckKind) → used_kind model k ≡ Some on → (k ≡ on) × IsTrue (model.uses k)
used_some model k on some = by (model.uses k) refl
  where
    by : (b : Bool) → model.uses k ≡ b → (k ≡ on) × IsTrue (model.uses k)
    by false e = absurd (some_none on (sym some ∙ cond-false (model.uses k) (Some k) None e))
    by true e = let told : Some k ≡ Some on = sym (cond-true (model.uses k) (Some k) None e) ∙ some in (cc, e)

pub no_scan : (model : Rules) (event : Event) → used_scan model event ≡ None → IsNoUsedScan model event
no_scan model event none kind.Walk scan is = used_none model kind.Walk (sym (ap (used_scan model) is) ∙ none)
no_scan model event none kind.Stop scan is = used_none model kind.Stop (sym (ap (used_scan model) is) ∙ none)
no_scan model event none kind.KernelExit scan is = absurd (false≢true scan)
no_scan model event none kind.IdlePoint scan is = absurd (false≢true scan)
no_scan model event none kind.Resched scan is = absurd (false≢true scan)

-- a scan of a kind that the model uses
pub record IsUsedScan (model : Rules) (event : Event) (on : CheckKind) : Type 0 where
  pub is : event ≡ scan_event on
  pub scan : is_scan_kind on ≡ true
  pub used : IsTrue (model.uses on)

pub scan_is : (model : Rules) (event : Event) (on : CheckKind) → used_scan model event ≡ Some on → IsUsedScan model event on
scan_is model Walk on some =
    let told = used_some model kind.Walk on some in
    subst (IsUsedScan model Walk) told.0 (record { is = refl; scan = refl; used = told.1 })
scan_is model Stop on some =
    let told = used_some model kind.Stop on some in
    subst (IsUsedScan model Stop) told.0 (record { is = refl; scan = refl; used = told.1 })
scan_is model _ on some = absurd (some_none on (sym some))

-- ---- An event that opens no leg

module _ (model : Rules) (lawful : IsLawful model) (e : Engine) (sound : IsSound (state_in e)) (leg : Leg) (leg_sound : IsSound leg.opening) (there : state_in e ≡ state_of model leg) (event : Event)
    (stays : opens model leg event ≡ false) (after : Engine) (there_after : state_in after ≡ state_of model (and_then leg event)) (known : IsLastScanAfter model e event after)
    (was : AreUnchangedBy model (state_of model leg) (lines model leg (length leg.events)) e.last_scan) (held : AreHeld (state_in after) (lines model (and_then leg event) (suc (length leg.events))) after) where
  abbrev longer : Leg
  longer = and_then leg event

  abbrev n : ℕ
  n = length leg.events

  -- an event that is no scan that the model uses
  others_unchanged : used_scan model event ≡ None → (on : CheckKind) → after.last_scan.kind ≡ Some on → AreUnchanged model (state_of model longer) (lines model longer (suc n)) on (has after.last_scan.changed)
  others_unchanged none on is t x live off out = by (is_open after x.group) refl
    where
      before : AreUnchanged model (state_of model leg) (lines model leg n) on (has e.last_scan.changed)
      before = subst (λ (o : Option CheckKind). AreUnchangedSince model (state_of model leg) (lines model leg n) o (has e.last_scan.changed)) (known.kind none on is) was

      -- the groups to which something happened, or that a frame holds back
      touched : ℕ → Bool
      touched g = has after.last_scan.changed g || not (is_open after g)

      either : (a b : Bool) → (a || not b) ≡ false → (a ≡ false) × (b ≡ true)
      either true b h = absurd (false≢true (sym h))
      either false true h = (refl, refl)
      either false false h = absurd (false≢true (sym h))

      rest : AreUnchanged model (state_of model longer) (lines model longer (suc n)) on touched
      rest =
          unchanged_by model lawful leg leg_sound event stays (no_scan model event none) on (has e.last_scan.changed) touched before
          (λ u y lives waiting quiet.
          let parts = either (has after.last_scan.changed y.group) (is_open after y.group) quiet in
          let told = known.others none on is u y (ap (λ (s : State). s.tasks u) there_after ∙ lives) (ap (λ (s : State). nat_eq y.level s.target) there_after ∙ waiting) parts.1 parts.0 in
          (told.0, subst (λ (s : State). AreSameMembers s (state_of model longer) y.group) there (subst (λ (s : State). AreSameMembers (state_in e) s y.group) there_after told.1)))

      by : (free : Bool) → is_open after x.group ≡ free → IsUnchanged model on (state_of model longer) x.group (lines model longer (suc n) x.group)
      by true free = rest t x live off (ap₂ (λ a b. a || not b) out free)
      by false stuck =
          subst (λ (s : State). IsUnchanged model on s x.group (lines model longer (suc n) x.group)) there_after
          (held_goes_on model (state_in after) on x.group (lines model longer (suc n) x.group) (blame_of after x.group)
          (held t x (ap (λ (s : State). s.tasks t) there_after ∙ live) (ap (λ (s : State). nat_eq x.level s.target) there_after ∙ off)) stuck)

  -- and one that it uses, which is the last one from then on
  scan_unchanged : (used : CheckKind) → used_scan model event ≡ Some used → (on : CheckKind) → after.last_scan.kind ≡ Some on → AreUnchanged model (state_of model longer) (lines model longer (suc n)) on (has after.last_scan.changed)
  scan_unchanged used some on is =
      let scan = scan_is model event used some in
      subst (λ (k : CheckKind). AreUnchanged model (state_of model longer) (lines model longer (suc n)) k (has after.last_scan.changed)) (sym (known.scan used on some is))
      (subst (λ (ev : Event). AreUnchanged model (state_of model (and_then leg ev)) (lines model (and_then leg ev) (suc n)) used (has after.last_scan.changed)) (sym scan.is)
      (scan_leaves_unchanged model lawful e sound leg leg_sound there used scan.scan scan.used (has after.last_scan.changed)))

  -- the groups are unchanged to which nothing happened since the last scan, as the engine knows it after the event
  pub unchanged_on : AreUnchangedBy model (state_of model longer) (lines model longer (suc n)) after.last_scan
  unchanged_on = by after.last_scan.kind refl
    where
      Since : Option CheckKind → Type 0
      Since o = AreUnchangedSince model (state_of model longer) (lines model longer (suc n)) o (has after.last_scan.changed)

      by_scan : (on : CheckKind) → after.last_scan.kind ≡ Some on → (o : Option CheckKind) → used_scan model event ≡ o → Since (Some on)
      by_scan on is None none = others_unchanged none on is
      by_scan on is (Some used) some = scan_unchanged used some on is

      by : (o : Option CheckKind) → after.last_scan.kind ≡ o → AreUnchangedBy model (state_of model longer) (lines model longer (suc n)) after.last_scan
      by None is = subst Since (sym is) tt
      by (Some on) is = subst Since (sym is) (by_scan on is (used_scan model event) refl)
