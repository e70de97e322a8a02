-- The engine after an own check, by what it was answered.
use Rattle.std.proofs.Common.{◌≡◌, ℕ, ◌<◌, ◌≤◌, Bool, true, false, List, [], length, set, Option, None, is_none, if◌then◌else◌, sym, ap, subst, ◌∙◌}
use Rattle.lp_stack.specs.declared.number.TaskId.{TaskId}
use Rattle.lp_numbers.specs.Numbers.{Numbers}
use Rattle.lp_model.specs.Rules.{Rules, IsLawful}
use Rattle.lp_model.specs.declared.check.CheckKind.{CheckKind}
use Rattle.lp_machine.specs.declared.standing_blame.StandingBlame.{StandingBlame}
use Rattle.lp_machine.specs.Machine.{affected, switches_at, refusal_of, answer}
use Rattle.lp_machine.specs.Table.{Table, Engine, LastScan, slot, state_in}
use Rattle.lp_machine.proofs.Accept.{IsLive}
use Rattle.lp_tasks.specs.inside.Table.{changed, is_in}
use Rattle.lp_tasks.specs.inside.OwnChecks.{is_own_kind, own_check_event, at_own_check}
use Rattle.lp_transition.specs.Blames.{frame_blame, refused_first, or_blame}
use Rattle.lp_transition.specs.LastScan.{IsLastScanAfter}
use Rattle.lp_transition.specs.Weigh.{is_switched}
use Rattle.lp_transition.specs.inside.Blames.{blame_at}
use Rattle.lp_transition.specs.inside.Invariant.{KeptScan, IsCore, IsWhole, told_scan}
use Rattle.lp_transition.proofs.Blames.{Leaves, with_blames, blamed_out}
use Rattle.lp_transition.proofs.Effects.{HasTaken, takes_change_still, with_scan, with_table}
use Rattle.lp_transition.proofs.LastScans.{last_changes, own_check_unused}
use Rattle.lp_transition.proofs.LoneChecks.{none-switches_now, put_on, takes_switch}
use Rattle.lp_transition.proofs.OwnBlames.{leaves_own}
use Rattle.lp_transition.proofs.OwnChecks.{own_check-level, own_check-group, own_check-plain, own_check-checks, own_check-own, own_check-live, own_check-told}
use Rattle.lp_transition.proofs.Unchanged.{Notes, core_changes, own_check_touches}
use Rattle.lp_transition.proofs.Weighing.{switches-reported, group-below}

module _ (model : Rules) (lawful : IsLawful model) (e old : Engine) (waiting : Numbers) (last : KeptScan) (on : CheckKind) (t : TaskId) (was : e ≡ old) (whole : IsWhole model e waiting last) (small : t.0 < 65536) (own_kind : is_own_kind on ≡ true) (room : old.number < 1000000)
    (accepted : refusal_of model (state_in old) (own_check_event on t) ≡ None) (switching : Bool) (is : switching ≡ is_switched (answer model (state_in old) (own_check_event on t)).what) where
  live : IsLive e t.0
  live = own_check-live model e on t (ap (λ (o : Engine). refusal_of model (state_in o) (own_check_event on t)) was ∙ accepted)

  switches : switches_at model (affected model (state_in old) (own_check_event on t)) (own_check_event on t) live.task.group ≡ switching
  switches =
      ap (λ (o : Engine). switches_at model (affected model (state_in o) (own_check_event on t)) (own_check_event on t) live.task.group) (sym was)
      ∙ switches-reported model lawful e waiting whole.engine (subst (λ (o : Engine). o.number < 1000000) (sym was) room) (own_check_event on t) on t.0 small (at_own_check on) (own_check-level on) (own_check-group on) live.task live.there
      (own_check-checks _ _ on t own_kind) (own_check-plain on t) (ap (λ (o : Engine). refusal_of model (state_in o) (own_check_event on t)) was ∙ accepted) (own_check-own _ _ on t _) (own_check-told model _ on t) switching
      (group-below e waiting t.0 live.task whole.engine live.there) (is ∙ ap (λ (o : Engine). is_switched (answer model (state_in o) (own_check_event on t)).what) (sym was))

  -- the group stays
  pub own_stays : switching ≡ false → (table : Table) → table ≡ changed t.0 (at_own_check on) e.table → HasTaken model old (own_check_event on t) (with_table table e) waiting
  own_stays stays table changed_to =
      takes_change_still model lawful e old table waiting (own_check_event on t) t.0 (at_own_check on) was changed_to whole.engine small room (own_check-plain on t)
      (none-switches_now model lawful e waiting whole.engine (own_check_event on t) on t.0 small (at_own_check on) (own_check-level on) (own_check-group on) live.task live.there (own_check-checks _ _ on t own_kind) old was (own_check-own _ _ on t _) (switches ∙ stays))
      accepted (own_check-own _ _ on t _) (own_check-level on) (own_check-group on)

  -- or it switches
  pub own_goes : switching ≡ true → (table reached : Table) (now : Numbers) → table ≡ changed t.0 (put_on e.target) reached → reached ≡ changed t.0 (at_own_check on) e.table → now ≡ set waiting t.0 false → length now ≡ 65536
      → HasTaken model old (own_check_event on t) (with_table table e) now
  own_goes goes table reached now put changed_to left long =
      takes_switch model lawful e waiting whole.engine (own_check_event on t) on t.0 small (at_own_check on) (own_check-level on) (own_check-group on) live.task live.there (own_check-checks _ _ on t own_kind) old table now was (put ∙ ap (changed t.0 (put_on e.target)) changed_to)
      left long room (own_check-plain on t) accepted (own_check-own _ _ on t _) (switches ∙ goes)

  -- ---- What it notes

  module _ (table : Table) (now : Numbers) (taken : HasTaken model old (own_check_event on t) (with_table table e) now) (blames : List (Option StandingBlame)) (found : Option StandingBlame) (few : length blames ≤ 65536)
      (told : (g : ℕ) → frame_blame (refused_first model (state_in old) (own_check_event on t) [] g) ≡ (if is_in g (slot old.table t.0) then found else None))
      (noted : (g : ℕ) → g < 65536 → blame_at blames g ≡ (if is_in g (slot e.table t.0) then or_blame (blame_at e.blames g) found else blame_at e.blames g)) (scan : LastScan) where
    abbrev pub new : Engine
    new = record (with_table table e) { blames = blames; last_scan = scan }

    took : HasTaken model old (own_check_event on t) new now
    took = with_scan model old (record (with_table table e) { blames = blames }) (own_check_event on t) now scan (with_blames model old (with_table table e) (own_check_event on t) now blames taken)

    pub own_leaves : Leaves model old (own_check_event on t) [] new
    own_leaves =
        leaves_own model lawful e old new waiting now on t was whole.engine whole.blamed took accepted found few
        (subst (λ (o : Engine). (g : ℕ) → frame_blame (refused_first model (state_in o) (own_check_event on t) [] g) ≡ (if is_in g (slot o.table t.0) then found else None)) (sym was) told) noted

    module _ (after : KeptScan) (kind : after.kind ≡ last.kind) (notes : Notes (λ g. is_none (blame_at blames g)) e.table t.0 last after) where
      pub own_core : IsCore model new now after
      own_core =
          core_changes model e old new waiting now (own_check_event on t) last after was whole.core took accepted kind (λ g. is_none (blame_at blames g)) (λ k. blamed_out model lawful new k took.kept.sound own_leaves.blamed)
          t.0 (at_own_check on) (own_check-plain on t) notes (own_check_touches on t) (own_check-own _ _ on t _) (own_check-group on)

      pub own_last : e.last_scan ≡ told_scan last → scan ≡ told_scan after → IsLastScanAfter model old (own_check_event on t) new
      own_last same tells =
          last_changes model e old new now (own_check_event on t) last after was same tells took t.0 (at_own_check on) accepted (own_check-plain on t) (own_check_unused model on t) kind notes (own_check_touches on t)
          (own_check-own _ _ on t _) (own_check-group on)
