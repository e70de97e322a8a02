-- Scans that may leave out every group that waits.
use Rattle.std.proofs.Common.{◌≡◌, ◌↔◌, ℕ, ◌<◌, Bool, true, false, not, ◌&&◌, List, [], Option, Some, None, refl, sym, ap, ap₂, subst, inl, inr, ◌∙◌, arith}
use Rattle.std.proofs.lemmas.Bool.{false≢true}
use mathlib.Core.Path.{fun_ext}
use Rattle.lp_numbers.specs.Numbers.{Numbers, has, IsEmpty}
use Rattle.lp_model.specs.Rules.{Rules, IsLawful}
use Rattle.lp_model.specs.declared.check.CheckKind.{CheckKind}
use Rattle.lp_model.specs.declared.check.CheckKind.TheVariants as kind
use Rattle.lp_model.specs.declared.verdict.Verdict.{Verdict}
use Rattle.lp_definitions.specs.declared.reply.What.TheVariants.{Done}
use Rattle.lp_definitions.specs.declared.reply.Reply.{Reply}
use Rattle.lp_machine.specs.declared.standing_blame.StandingBlame.{StandingBlame}
use Rattle.lp_definitions.specs.Events.{is_scan}
use Rattle.lp_definitions.specs.Run.{switched}
use Rattle.lp_definitions.specs.Sound.{IsSound}
use Rattle.lp_machine.specs.Steps.{IsStep}
use Rattle.lp_transition.specs.Blames.{or_blame}
use Rattle.lp_transition.specs.Scan.{is_scan_kind, scan_event, verdicts_of, is_asked, verdicts_among}
use Rattle.lp_tasks.specs.Passing.{passing}
use Rattle.lp_transition.specs.LastScan.{IsLastScanAfter, IsQuietScan}
use Rattle.lp_machine.specs.Table.{Engine, LastScan, state_in}
use Rattle.lp_transition.specs.Weigh.{Weighed, IsWeighed, HasToldBlamesAfter}
use Rattle.lp_transition.specs.inside.Blames.{blame_at}
use Rattle.lp_transition.specs.inside.Invariant.{KeptScan, IsNoted, IsWhole, told_scan}
use Rattle.lp_transition.specs.inside.ScanSteps.{is_judged, is_unrefused, switches_by, all_admit, tasks_of}
use Rattle.lp_transition.proofs.AskedScans.{asked_none, among-enough, left-out, switches-among, completes-among}
use Rattle.lp_transition.proofs.Blames.{Leaves}
use Rattle.lp_transition.proofs.Told.{none_tells}
use Rattle.lp_transition.proofs.BlamedScans.{leaves_scanned, blame_within}
use Rattle.lp_transition.proofs.Effects.{HasTaken, with_table, with_scan}
use Rattle.lp_machine_laws.proofs.Runs.{is_step}
use Rattle.lp_transition.proofs.ScanAnswers.{answer-scan, still, verdicts-scan}
use Rattle.lp_transition.proofs.ScanSwitches.{none_switched}
use Rattle.lp_transition.proofs.ScanTakes.{takes_scan}
use Rattle.lp_tasks.proofs.TableLemmas.{slot_from_live}
use Rattle.lp_transition.proofs.Unchanged.{core_scanned}
use Rattle.lp_transition.proofs.LastScans.{last_scanned}

-- the scan, answered by no verdict
abbrev pub quiet_step : CheckKind → Weighed
quiet_step on = record { event = scan_event on; reply = record { what = Done; completed = false }; verdicts = [] }

-- ---- Its answer

module _ (model : Rules) (lawful : IsLawful model) (on : CheckKind) (e : Engine) (sound : IsSound (state_in e)) (scan : is_scan_kind on ≡ true) (room : e.number < 1000000) (quiet : IsQuietScan model e on) where
  -- nobody switches, and nothing completes
  quiet_reply : (record { what = Done; completed = false }) ≡ (let reply : Reply = record { what = switched (passing 0 65536 (switches_by e.table (verdicts_of model on (state_in e)))); completed = all_admit (verdicts_of model on (state_in e)) } in reply)
  quiet_reply =
      let s = state_in e in
      let none = asked_none model on s in
      let looked = is_asked s (λ group. false) in
      let others = left-out model on s (λ group. false) quiet.left_out in
      let switches = fun_ext (λ (group : ℕ). ap (λ (vs : List Verdict). switches_by e.table vs group) none ∙ switches-among model lawful on s sound looked others e.table (λ t x live. slot_from_live e.table t x live) group) in
      let tells : (false ≡ true) ↔ ((all_admit (verdicts_among model on s (λ group. false)) ≡ true) × (tasks_of (verdicts_among model on s (λ group. false)) ≡ tasks_of (verdicts_of model on s))) =
      ((λ no. absurd (false≢true no)), (λ both. absurd (false≢true (ap all_admit none ∙ both.0)))) in
      ap (λ what. let reply : Reply = record { what = what; completed = false } in reply) (still e.table 65536 [] refl)
      ∙ ap₂ (λ (goes : ℕ → Bool) (completed : Bool). let reply : Reply = record { what = switched (passing 0 65536 goes); completed = completed } in reply)
      switches (completes-among model lawful on s sound looked others false tells)

  pub quiet_weighed : IsWeighed model e (quiet_step on)
  quiet_weighed = record {
    room = room;
    reply = quiet_reply ∙ sym (answer-scan model lawful 65536 (state_in e) (omega arith) sound e.table (λ t x live. slot_from_live e.table t x live) on scan);
    verdicts = verdicts-scan model (state_in e) on [] scan (among-enough model on (state_in e) (λ group. false) [] quiet.left_out (asked_none model on (state_in e)));
    told = none_tells model e on scan quiet.last quiet.unchanged;
  }

-- ---- The engine after it

event_scans : (on : CheckKind) → is_scan (scan_event on) ≡ true
event_scans kind.Walk = refl
event_scans kind.Stop = refl
event_scans kind.KernelExit = refl
event_scans kind.IdlePoint = refl
event_scans kind.Resched = refl

kept_and : (b : Bool) → b ≡ (b && not false)
kept_and true = refl
kept_and false = refl

or_none : (o : Option StandingBlame) → o ≡ or_blame o None
or_none None = refl
or_none (Some b) = refl

-- what is known after the scan where it was of the last one's kind, and so admitted nobody whom that one might refuse
noted_none : (on : CheckKind) (waiting : Numbers) (last left : KeptScan) → last.kind ≡ Some on → left.kind ≡ last.kind → left.may_refuse ≡ last.may_refuse → IsEmpty left.changed → IsNoted on waiting [] last left
noted_none on waiting last left before kind may_refuse fresh = record {
  noted = kind ∙ before;
  fresh = fresh;
  doubted = last.may_refuse;
  begun = inl (before, refl);
  left = λ t. ap (λ (set : Numbers). has set t) may_refuse ∙ kept_and (has last.may_refuse t);
}

module _ (model : Rules) (lawful : IsLawful model) (e old : Engine) (waiting : Numbers) (last left : KeptScan) (on : CheckKind) (was : e ≡ old) (whole : IsWhole model e waiting last) (scan : is_scan_kind on ≡ true) (room : old.number < 1000000) (quiet : IsQuietScan model old on) where
  weighed : IsWeighed model old (quiet_step on)
  weighed = quiet_weighed model lawful on old (subst (λ (o : Engine). IsSound (state_in o)) was whole.engine.sound) scan room quiet

  taken : HasTaken model old (scan_event on) (record (with_table e.table e) { last_scan = told_scan left }) waiting
  taken =
      with_scan model old (with_table e.table e) (scan_event on) waiting (told_scan left)
      (takes_scan model lawful e old waiting (quiet_step on) on was whole.engine weighed scan refl [] (λ group few. refl) e.table waiting
      (none_switched (is_judged []) (is_unrefused []) e.target e.table waiting (λ t judged. absurd (false≢true judged))))

  leaves_blames : Leaves model old (scan_event on) [] (record (with_table e.table e) { last_scan = told_scan left })
  leaves_blames =
      leaves_scanned model lawful e old (record (with_table e.table e) { last_scan = told_scan left }) waiting waiting (quiet_step on) was whole.engine whole.blamed taken weighed (event_scans on)
      (λ g h. or_none (blame_at e.blames g))
      (λ g b there. blame_within e.blames g b whole.groups there)

  -- the step is that of every run that stands here
  pub quiet_steps : IsStep model (state_in old) (scan_event on) (record { what = Done; completed = false }) (state_in (record (with_table e.table e) { last_scan = told_scan left }))
  quiet_steps = is_step model lawful (state_in old) (state_in (record (with_table e.table e) { last_scan = told_scan left })) (scan_event on) (record { what = Done; completed = false }) weighed.reply taken.state

  pub quiet_blames : HasToldBlamesAfter model old (scan_event on) (record (with_table e.table e) { last_scan = told_scan left })
  quiet_blames = record { by = record { verdicts = []; enough = weighed.verdicts; blames = leaves_blames.after }; told = weighed.told }

  module _ (told : e.last_scan ≡ told_scan last) (kind : left.kind ≡ last.kind) (may_refuse : left.may_refuse ≡ last.may_refuse) (fresh : IsEmpty left.changed) where
    noted : IsNoted on waiting [] last left
    noted = noted_none on waiting last left (sym (ap (λ (l : LastScan). l.kind) told) ∙ (ap (λ (o : Engine). o.last_scan.kind) was ∙ quiet.last)) kind may_refuse fresh

    -- the engine keeps what it has to: each group that waits is refused
    pub quiet_whole : IsWhole model (record (with_table e.table e) { last_scan = told_scan left }) waiting left
    quiet_whole = record {
      core = core_scanned model lawful e old (record (with_table e.table e) { last_scan = told_scan left }) waiting waiting (scan_event on) last left was whole.core taken on scan refl [] weighed.verdicts (inr noted);
      groups = whole.groups;
      blamed = leaves_blames.blamed;
    }

    -- and it tells of this scan
    pub quiet_last : IsLastScanAfter model old (scan_event on) (record (with_table e.table e) { last_scan = told_scan left })
    quiet_last =
        last_scanned model e old (record (with_table e.table e) { last_scan = told_scan left }) waiting (scan_event on) last left was told refl taken on true scan refl (sym quiet.used)
        (λ yes. (noted.noted, noted.fresh))
        (λ no. absurd (false≢true (sym no)))
