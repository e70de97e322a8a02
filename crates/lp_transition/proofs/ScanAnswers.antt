-- The answer to a scan, by its verdicts.
use Rattle.std.proofs.Common.{◌≡◌, ℕ, suc, ◌-◌, ◌<◌, Bool, true, false, not, ◌&&◌, ◌||◌, List, [], ◌∷◌, Some, is_none, refl, sym, ap, ap₂, subst, ◌∙◌, ◌↔◌, arith}
use Rattle.std.proofs.lemmas.Bool.{false≢true, or_left, or_right, false_from_ne_true}
use Rattle.std.specs.List.{filter, list_any, range_with_len}
use mathlib.Core.Path.{fun_ext}
use Rattle.lp_numbers.specs.Numbers.{Numbers, has}
use Rattle.lp_model.specs.Rules.{Rules, IsLawful}
use Rattle.lp_model.specs.declared.check.CheckKind.{CheckKind}
use Rattle.lp_model.specs.declared.check.CheckKind.TheVariants.{KernelExit, IdlePoint, Resched, Walk, Stop}
use Rattle.lp_model.specs.declared.verdict.Verdict.{Verdict}
use Rattle.lp_definitions.specs.declared.event.Event.{Event}
use Rattle.lp_definitions.specs.declared.event.Event.TheVariants.{Walk, Stop}
use Rattle.lp_definitions.specs.declared.reply.What.TheVariants.{Done}
use Rattle.lp_definitions.specs.declared.reply.Reply.{Reply}
use Rattle.lp_definitions.specs.Tasks.{Live}
use Rattle.lp_definitions.specs.Leg.{LegTask, State}
use Rattle.lp_definitions.specs.Run.{switched}
use Rattle.lp_definitions.specs.Sound.{IsSound}
use Rattle.lp_machine.specs.Machine.{switches_at, switched_groups, affected, refusal_of, answer}
use Rattle.lp_machine.specs.Table.{Table, Engine, slot, state_in}
use Rattle.lp_tasks.specs.inside.Table.{is_in}
use Rattle.lp_transition.specs.inside.Invariant.{IsEngine}
use Rattle.lp_transition.specs.Weigh.{Weighed, IsWeighed, AreVerdictsFor, Tells}
use Rattle.lp_transition.specs.Scan.{is_scan_kind, scan_event, verdicts_of, AreEnough}
use Rattle.lp_tasks.specs.Passing.{passing}
use Rattle.lp_transition.specs.inside.ScanSteps.{tasks_of, is_found, switches_by, all_admit, groups_of}
use Rattle.lp_tasks.proofs.TableLemmas.{slot_from_live}
use Rattle.lp_tasks.proofs.Passing.{passing-none}
use Rattle.lp_transition.proofs.ScanGroups.{told, completes}
use Rattle.lp_transition.proofs.AskedScans.{switches-among, completes-among, tasks-judged}

-- ---- The reply by verdicts

none_found : (table : Table) (group : ℕ) (vs : List Verdict) → list_any (λ v. is_none v.blame) vs ≡ false → list_any (is_found table false group) vs ≡ false
none_found table group [] h = refl
none_found table group (v ∷ vs) h =
    let first = false_from_ne_true (is_none v.blame) (λ (yes : is_none v.blame ≡ true). let some = or_left (is_none v.blame) (list_any (λ w. is_none w.blame) vs) yes in absurd (cc)) in
    let later = false_from_ne_true (list_any (λ w. is_none w.blame) vs) (λ (yes : list_any (λ w. is_none w.blame) vs ≡ true). let some = or_right (is_none v.blame) (list_any (λ w. is_none w.blame) vs) yes in absurd (cc)) in
    ap₂ (λ a b. (a && is_in group (slot table v.task.0)) || b) first (none_found table group vs later)

-- where no verdict admits, no group switches
pub still : (table : Table) (limit : ℕ) (vs : List Verdict) → list_any (λ v. is_none v.blame) vs ≡ false → Done ≡ switched (passing 0 limit (switches_by table vs))
still table limit vs none =
    sym (ap switched (passing-none 0 limit (switches_by table vs) (λ n low high. ap (λ b. b && not (list_any (is_found table true n) vs)) (none_found table n vs none))))

-- what an event did lists the groups that it switched
pub groups_of-switched : (groups : List ℕ) → groups_of (switched groups) ≡ groups
groups_of-switched [] = refl
groups_of-switched (group ∷ groups) = refl

-- ---- The machine's answer

-- the groups that switch, by a test that says which
pub switching_by : (model : Rules) (limit : ℕ) (now : State) (event : Event) (switches : ℕ → Bool) → suc now.bounds.tasks ≡ limit → ((group : ℕ) → switches_at model now event group ≡ switches group) → switched_groups model now event ≡ passing 0 limit switches
unfolding switched_groups passing
switching_by model limit now event switches e same =
    let count : suc now.bounds.tasks ≡ limit - 0 = omega arith in
    ap₂ (λ (test : ℕ → Bool) (n : ℕ). filter test (range_with_len 0 n)) (fun_ext same) count

module _ (model : Rules) (lawful : IsLawful model) (limit : ℕ) (s : State) (wide : suc s.bounds.tasks ≡ limit) (sound : IsSound s) (table : Table) (there : (t : ℕ) (x : LegTask) → s.tasks t ≡ Live x → slot table t ≡ Some x) where
  -- the groups that switch are those that the verdicts tell
  pub switches-walk : (group : ℕ) → switches_at model (affected model s Walk) Walk group ≡ switches_by table (verdicts_of model Walk s) group
  unfolding switches_at
  switches-walk group = told model lawful Walk s sound table there Walk (λ g. refl) group

  pub switches-stop : (group : ℕ) → switches_at model (affected model s Stop) Stop group ≡ switches_by table (verdicts_of model Stop s) group
  unfolding switches_at
  switches-stop group = told model lawful Stop s sound table there Stop (λ g. refl) group

  answer-walk : answer model s Walk ≡ record { what = switched (passing 0 limit (switches_by table (verdicts_of model Walk s))); completed = all_admit (verdicts_of model Walk s) }
  unfolding answer refusal_of
  answer-walk =
      let now = affected model s Walk in
      ap₂ (λ (groups : List ℕ) (b : Bool). let r : Reply = record { what = switched groups; completed = b } in r)
      (switching_by model limit now Walk (switches_by table (verdicts_of model Walk s)) wide switches-walk)
      (completes model lawful Walk s sound table there (switches_at model now Walk) switches-walk)

  answer-stop : answer model s Stop ≡ record { what = switched (passing 0 limit (switches_by table (verdicts_of model Stop s))); completed = all_admit (verdicts_of model Stop s) }
  unfolding answer refusal_of
  answer-stop =
      let now = affected model s Stop in
      ap₂ (λ (groups : List ℕ) (b : Bool). let r : Reply = record { what = switched groups; completed = b } in r)
      (switching_by model limit now Stop (switches_by table (verdicts_of model Stop s)) wide switches-stop)
      (completes model lawful Stop s sound table there (switches_at model now Stop) switches-stop)

  -- the answer to a scan
  pub answer-scan : (kind : CheckKind) → is_scan_kind kind ≡ true → answer model s (scan_event kind) ≡ record { what = switched (passing 0 limit (switches_by table (verdicts_of model kind s))); completed = all_admit (verdicts_of model kind s) }
  answer-scan KernelExit scan = absurd (cc)
  answer-scan IdlePoint scan = absurd (cc)
  answer-scan Resched scan = absurd (cc)
  answer-scan Walk scan = answer-walk
  answer-scan Stop scan = answer-stop

-- what the verdicts tell
abbrev pub reply_by : Table → List Verdict → Bool → Reply
reply_by table vs completed = record { what = switched (passing 0 65536 (switches_by table vs)); completed = completed }

abbrev pub step_by : CheckKind → Table → List Verdict → Bool → Weighed
step_by kind table vs completed = record { event = scan_event kind; reply = reply_by table vs completed; verdicts = vs }

-- some task waits, each was looked at, and each was admitted
abbrev pub Completes : Numbers → List Verdict → Bool → Type 0
Completes waiting vs completed = (completed ≡ true) ↔ ((all_admit vs ≡ true) × (tasks_of vs ≡ passing 0 65536 (has waiting)))

-- a scan is answered by verdicts that are enough
pub verdicts-scan : (model : Rules) (s : State) (kind : CheckKind) (vs : List Verdict) → is_scan_kind kind ≡ true → AreEnough model kind s vs → AreVerdictsFor model s (scan_event kind) vs
verdicts-scan model s KernelExit vs h enough = absurd (false≢true h)
verdicts-scan model s IdlePoint vs h enough = absurd (false≢true h)
verdicts-scan model s Resched vs h enough = absurd (false≢true h)
verdicts-scan model s Walk vs h enough = enough
verdicts-scan model s Stop vs h enough = enough

-- the reply by verdicts that are enough is that by all
reply-enough : (model : Rules) → IsLawful model → (e : Engine) (waiting : Numbers) (kind : CheckKind) (vs : List Verdict) (completed : Bool) → IsEngine e waiting → AreEnough model kind (state_in e) vs → Completes waiting vs completed
    → reply_by e.table vs completed ≡ reply_by e.table (verdicts_of model kind (state_in e)) (all_admit (verdicts_of model kind (state_in e)))
reply-enough model lawful e waiting kind vs completed kept enough tells =
    let s = state_in e in
    let among = subst (λ (ws : List Verdict). (completed ≡ true) ↔ ((all_admit ws ≡ true) × (tasks_of ws ≡ tasks_of (verdicts_of model kind s)))) enough.found
    (subst (λ (ts : List ℕ). (completed ≡ true) ↔ ((all_admit vs ≡ true) × (tasks_of vs ≡ ts))) (sym (tasks-judged model kind e waiting kept)) tells) in
    ap₂ (λ (switches : ℕ → Bool) (b : Bool). let r : Reply = record { what = switched (passing 0 65536 switches); completed = b } in r)
    (fun_ext (λ (group : ℕ). ap (λ (ws : List Verdict). switches_by e.table ws group) enough.found ∙ switches-among model lawful kind s kept.sound enough.looked enough.others e.table (λ t x live. slot_from_live e.table t x live) group))
    (completes-among model lawful kind s kept.sound enough.looked enough.others completed among)

weighs_here : (model : Rules) → IsLawful model → (e : Engine) (waiting : Numbers) (kind : CheckKind) (vs : List Verdict) (completed : Bool) → IsEngine e waiting → is_scan_kind kind ≡ true → AreEnough model kind (state_in e) vs → Tells model e (scan_event kind) vs → e.number < 1000000 → Completes waiting vs completed
    → IsWeighed model e (step_by kind e.table vs completed)
weighs_here model lawful e waiting kind vs completed kept scan enough told room tells =
    let there = answer-scan model lawful 65536 (state_in e) (omega arith) kept.sound e.table (λ t x live. slot_from_live e.table t x live) kind scan in
    record {
      room = room;
      reply = reply-enough model lawful e waiting kind vs completed kept enough tells ∙ sym there;
      verdicts = verdicts-scan model (state_in e) kind vs scan enough;
      told = told;
    }

-- a scan is weighed by what its verdicts tell
pub weighs : (model : Rules) → IsLawful model → (e old : Engine) (waiting : Numbers) (kind : CheckKind) (vs : List Verdict) (completed : Bool) (step : Weighed) → e ≡ old → IsEngine e waiting → is_scan_kind kind ≡ true → AreEnough model kind (state_in old) vs → Tells model old (scan_event kind) vs → e.number < 1000000
    → Completes waiting vs completed → step ≡ step_by kind e.table vs completed → IsWeighed model old step
weighs model lawful e old waiting kind vs completed step was kept scan enough told room tells is =
    subst (λ (o : Engine). IsWeighed model o step) was
    (subst (λ (st : Weighed). IsWeighed model e st) (sym is)
    (weighs_here model lawful e waiting kind vs completed kept scan (subst (λ (o : Engine). AreEnough model kind (state_in o) vs) (sym was) enough)
    (subst (λ (o : Engine). Tells model o (scan_event kind) vs) (sym was) told) room tells))
