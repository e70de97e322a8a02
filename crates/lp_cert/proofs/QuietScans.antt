-- Scans that find all as the last one of their kind left it.
use Rattle.std.proofs.Common.{◌≡◌, ℕ, ◌+◌, ◌<◌, true, false, [], Option, Some, None, refl, sym, ap, ◌∙◌, add-one}
use Rattle.std.proofs.lemmas.Bool.{false≢true, cond-true}
use Rattle.lp_model.specs.Rules.{Rules, IsLawful}
use Rattle.lp_model.specs.declared.check.CheckKind.{CheckKind}
use Rattle.lp_model.specs.declared.check.CheckKind.TheVariants as kind
use Rattle.lp_definitions.specs.Leg.{State}
use Rattle.lp_definitions.specs.Run.{Run, plus}
use Rattle.lp_transition.specs.Blames.{AreOfWaiting}
use Rattle.lp_transition.specs.Scan.{is_scan_kind, scan_event}
use Rattle.lp_machine.specs.Steps.{StandsIn}
use Rattle.lp_machine.specs.Table.{Engine, IsWide, state_in}
use Rattle.lp_transition.specs.Weigh.{HasToldBlamesAfter, IsWeighed}
use Rattle.lp_transition.proofs.QuietScans.{quiet_step, quiet_weighed}
use Rattle.lp_cert.specs.declared.open_leg.OpenLeg.{OpenLeg}
use Rattle.lp_cert.specs.Ends.{Made, IsMadeWith, is_opening}
use Rattle.lp_cert.specs.Invariant.{open_end}
use Rattle.lp_transition.specs.LastScan.{IsLastScanAfter, IsQuietScan, used_scan}
use Rattle.lp_cert.specs.Waiters.{WaitingGroups}
use Rattle.lp_cert.specs.inside.Invariant.{IsStepped}
use Rattle.lp_cert.specs.inside.StepLines.{noted_by}
use Rattle.lp_cert.specs.inside.Waiters.{AreStanding, HasFewGroups, lines_at, scanned_lines}
use Rattle.lp_cert.proofs.Noted.{engine_sound, still_made}

-- ---- What a scan is

used_is : (model : Rules) (on : CheckKind) → is_scan_kind on ≡ true → model.uses on ≡ true → used_scan model (scan_event on) ≡ Some on
used_is model kind.Walk scan used = cond-true (model.uses kind.Walk) (Some kind.Walk) None used
used_is model kind.Stop scan used = cond-true (model.uses kind.Stop) (Some kind.Stop) None used
used_is model kind.KernelExit scan used = absurd (false≢true scan)
used_is model kind.IdlePoint scan used = absurd (false≢true scan)
used_is model kind.Resched scan used = absurd (false≢true scan)

opens_none : (on : CheckKind) → is_opening (quiet_step on) ≡ false
opens_none kind.Walk = refl
opens_none kind.Stop = refl
opens_none kind.KernelExit = refl
opens_none kind.IdlePoint = refl
opens_none kind.Resched = refl

few : (e : Engine) (on : CheckKind) → HasFewGroups e (scan_event on)
few e kind.Walk = tt
few e kind.Stop = tt
few e kind.KernelExit = tt
few e kind.IdlePoint = tt
few e kind.Resched = tt

none_some : {A : Type 0} (a : A) → None ≡ Some a → ⊥
none_some a e = absurd (cc)

-- ---- One event more

module _ (model : Rules) (lawful : IsLawful model) (run : Run) (e : Engine) (stands : StandsIn model run (state_in e)) (on : CheckKind) (made : Made) (is : IsMadeWith model run e made) (wide : IsWide e.table) (of_waiting : AreOfWaiting e)
    (after : Engine) (stands_after : StandsIn model (plus run (scan_event on)) (state_in after)) (blamed : HasToldBlamesAfter model e (scan_event on) after) (known : IsLastScanAfter model e (scan_event on) after) (quiet : IsQuietScan model e on)
    (scan : is_scan_kind on ≡ true) (room : e.number < 1000000) (new : Made) (ended : new.ended ≡ made.ended)
    (noted number : ℕ) (leg : OpenLeg) (before later : WaitingGroups) (old : made.current ≡ Some (open_end noted before leg)) (numbered : number ≡ e.number + 1) (unended : leg.completed ≡ None) (stood : AreStanding before)
    (lines_are : (s : State) (group : ℕ) → lines_at later group ≡ scanned_lines s number [] before group) where
  weighed : IsWeighed model e (quiet_step on)
  weighed = quiet_weighed model lawful on e (engine_sound model lawful run e stands) scan room quiet

  is_used : used_scan model (scan_event on) ≡ Some on
  is_used = used_is model on scan quiet.used

  gone : IsStepped model e (quiet_step on) number leg leg before later
  gone = record {
    complete = λ done ends. absurd (none_some done (sym unended ∙ ends));
    completes = λ unfinished completed. absurd (false≢true completed);
    continues = λ unfinished incomplete. (
      refl,
      λ group.
          lines_are (state_in e) group
          ∙ (ap (λ at. scanned_lines (state_in e) at [] before group) (numbered ∙ add-one e.number)
          ∙ ap (λ (o : Option CheckKind). noted_by model e o (scan_event on) [] before group) (sym is_used)),
      λ accepted. few e on,
      λ some accepted. stood,
    );
  }

  -- what is made of the run with the scan more
  pub quiet_made : new.current ≡ Some (open_end number later leg) → IsMadeWith model (plus run (scan_event on)) after new
  quiet_made now =
      still_made model lawful run e stands (quiet_step on) weighed made new is wide of_waiting after stands_after blamed known (opens_none on) ended noted number leg leg before later numbered gone old now
