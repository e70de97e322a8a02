-- Who waits after an event of a leg, and with which lines.
use Rattle.std.proofs.Common.{◌≡◌, ℕ, suc, ◌<◌, Bool, true, false, not, ◌&&◌, List, [], ◌∷◌, length, Option, Some, None, IsSome, is_none, if◌then◌else◌, nat_eq, refl, sym, ap, ap₂, subst, ◌∙◌, ⊎_elim}
use Rattle.std.specs.List.{list_any}
use Rattle.std.specs.Option.{option_map}
use Rattle.lp_numbers.specs.Numbers.{has}
use Rattle.std.proofs.lemmas.Bool.{false≢true, cond-true, cond-false, and_parts, eq-eqb, eqb-true, cases_Bool}
use Rattle.lp_stack.specs.declared.number.TaskId.{TaskId}
use Rattle.lp_model.specs.Rules.{Rules, IsLawful}
use Rattle.lp_model.specs.declared.check.CheckKind.{CheckKind}
use Rattle.lp_model.specs.declared.check.CheckKind.TheVariants as kind
use Rattle.lp_model.specs.declared.check.Blame.{Blame}
use Rattle.lp_model.specs.declared.check.ForkKind.{ForkKind}
use Rattle.lp_model.specs.declared.verdict.Verdict.{Verdict}
use Rattle.lp_definitions.specs.declared.event.Event.{Event}
use Rattle.lp_definitions.specs.declared.event.Event.TheVariants.{Call, Ret, Sleep, Wake, Enter, Exit, Idle, Resched, Fork, Die, Walk, Stop, Enable, Disable, Reverse}
use Rattle.lp_definitions.specs.declared.refusal.Refusal.{Refusal}
use Rattle.lp_definitions.specs.declared.reply.What.{What}
use Rattle.lp_definitions.specs.declared.reply.Reply.{Reply}
use Rattle.lp_definitions.specs.Events.{is_control, is_scan}
use Rattle.lp_definitions.specs.Tasks.{Fate, Unused, Live, on_live, map_live, change}
use Rattle.lp_definitions.specs.Leg.{LegTask, State, Leg, some_live, is_alone}
use Rattle.lp_definitions.specs.Run.{and_then}
use Rattle.lp_definitions.specs.Sound.{IsSound}
use Rattle.lp_transition.specs.Scan.{verdicts_of, first_refused, AreEnough}
use Rattle.lp_transition.specs.inside.ScanSteps.{switches_by, groups_of}
use Rattle.lp_machine.specs.Machine.{outline_of, outlines_of, view_of, waits_in, switches_at, affected, next, told, state_of, refusal_of, calling, returning, put_in}
use Rattle.lp_machine.specs.Table.{Engine, slot, fate_at, state_in}
use Rattle.lp_transition.specs.Weigh.{Weighed, IsWeighed, AreVerdictsFor, refusal_in}
use Rattle.lp_stack.specs.declared.view.Mode.TheVariants.{User, Kernel, Asleep}
use Rattle.lp_machine.proofs.Accept.{fork-live, fork-new, fork-positive, fork-within, resched-live, die-live}
use Rattle.lp_machine.proofs.EngineLemmas.{and-false, answer-accepted, next-accepted, next-refused}
use Rattle.lp_transition.proofs.ScanAnswers.{switches-walk, switches-stop}
use Rattle.lp_laws.proofs.OneMore.{plain_refusal}
use Rattle.lp_machine_laws.proofs.Steps.{refusal_is}
use Rattle.lp_tasks.proofs.TableLemmas.{live_from_slot, slot_from_live}
use Rattle.lp_transition.proofs.Weighing.{refused-as, scan_accepted}
use Rattle.lp_definitions.specs.declared.line.Line.{Line}
use Rattle.lp_definitions.specs.Certificates.{lines, birth_line, after_refusal, after_check}
use Rattle.lp_cert.specs.EventLines.{lines_after_scan, lines_after_own_check, is_resched, lines_after_fork, is_fork}
use Rattle.lp_cert.specs.inside.StepLines.{stepped_lines, noted_by, noted_lines}
use Rattle.lp_transition.specs.LastScan.{used_kind, used_scan}
use Rattle.lp_transition.specs.Blames.{has_frame_in, own_blame}
use Rattle.lp_cert.specs.Waiters.{WaitingGroups}
use Rattle.lp_cert.specs.inside.Waiters.{AreStanding, own_lines, after_own_check, after_scan, after_scan_of, after_switch, after_verdict, after_fork, after_death, is_lone, lines_at, lines_in, scanned_lines}
use Rattle.lp_cert.proofs.NextLines.{lines_at_fork, lines_at_own_check}
use Rattle.lp_cert.proofs.OwnChecks.{lone_blamed}
use Rattle.lp_cert.proofs.OtherEvents.{lines_at_refused, lines_at_others}
use Rattle.lp_cert.proofs.Waits.{and_true, waits_after, none_refused, told_switched, same_own, others, changed_own, scan_own}
use Rattle.lp_cert.proofs.ScanTold.{ToldOrUnchanged, TellsOrUnchanged, scan_told}
use Rattle.lp_cert.proofs.TasksThatWait.{fork_lines, die_lines}

-- what a scan finds of all waiting tasks
abbrev all_for : Rules → State → Event → List Verdict
all_for model s Walk = verdicts_of model kind.Walk s
all_for model s Stop = verdicts_of model kind.Stop s
all_for model s _ = []

module _ (model : Rules) (lawful : IsLawful model) (e : Engine) (sound : IsSound (state_in e)) (leg : Leg) (leg_sound : IsSound leg.opening) (there : state_in e ≡ state_of model leg)
    (waiters : WaitingGroups) (is : (g : ℕ) → g < 65536 → lines_at waiters g ≡ (if waits_in (state_in e) g then Some (lines model leg (length leg.events) g) else None)) where
  abbrev s : State
  s = state_in e

  abbrev old : ℕ → Option (List Line)
  old = lines_at waiters

  abbrev n : ℕ
  n = length leg.events

  -- a parent's group is a number below 65,536
  abbrev pub IsFew : Event → Type 0
  IsFew event = (p c : TaskId) (how : ForkKind) → event ≡ Fork p c how → (x : LegTask) → slot e.table p.0 ≡ Some x → x.group < 65536

  -- ---- The event's own effect

  -- the lines that a group has after the event's own effect, if it waits then
  abbrev IsOwn : Event → ℕ → Option (List Line) → Type 0
  IsOwn event g new = new ≡ (if waits_in (affected model s event) g then Some (lines model (and_then leg event) (suc n) g) else None)

  fork_own : (p c : TaskId) (how : ForkKind) (vs : List Verdict) (g : ℕ) → g < 65536 → IsFew (Fork p c how) → refusal_of model s (Fork p c how) ≡ None → IsOwn (Fork p c how) g (own_lines model e (Fork p c how) vs old g)
  fork_own p c how vs g below few ok =
      let live = fork-live model e p c how ok in
      let x = live.task in
      let new = fork-new model e p c how ok in
      let parent : s.tasks p.0 ≡ Live x = live_from_slot e.table p.0 x live.there in
      let fresh : s.tasks c.0 ≡ Unused = ap₂ fate_at new.0 new.1 in
      let told = sym (refusal_is model leg (Fork p c how)) ∙ (ap (λ (st : State). refusal_of model st (Fork p c how)) (sym there) ∙ ok) in
      let law : lines model (and_then leg (Fork p c how)) (suc n) g ≡ (if nat_eq g c.0 && nat_eq g (model.child_group x.group c.0 how) then birth_line g p (suc e.number) ∷ lines model leg n x.group else lines model leg n g) =
      lines_at_fork model leg p c how g told
      ∙ (ap (λ (st : State). lines_after_fork model st p c how (lines model leg n) g) (sym there)
      ∙ ap (λ (fate : Fate LegTask). let parents = on_live 0 (λ y. y.group) fate in if nat_eq g c.0 && nat_eq g (model.child_group parents c.0 how) then birth_line g p (suc e.number) ∷ lines model leg n parents else lines model leg n g) parent) in
      ap (on_live (old g) (λ y. after_fork model p c how (suc e.number) y.group old g)) parent
      ∙ fork_lines model s sound p c how x parent (fork-positive model e p c how ok) (fork-within model e p c how ok) fresh lawful (suc e.number) g (lines model leg n) (lines model (and_then leg (Fork p c how)) (suc n)) old (is g below) (is x.group (few p c how refl x live.there)) law

  die_own : (t : TaskId) (vs : List Verdict) (g : ℕ) → g < 65536 → refusal_of model s (Die t) ≡ None → IsOwn (Die t) g (own_lines model e (Die t) vs old g)
  die_own t vs g below ok =
      let live = die-live model e t ok in
      let x = live.task in
      let dying : s.tasks t.0 ≡ Live x = live_from_slot e.table t.0 x live.there in
      ap (on_live (old g) (λ y. after_death y.group (is_lone e t.0 y.group) old g)) dying
      ∙ die_lines model s sound t x dying g (lines model leg n) (lines model (and_then leg (Die t)) (suc n)) old (is g below) (others model lawful e sound leg leg_sound there g (old g) (is g below) (Die t) refl refl refl)

  change_own : (event : Event) (t : ℕ) (f : LegTask → LegTask) (g : ℕ) → g < 65536 → ((x : LegTask) → (f x).level ≡ x.level) → ((x : LegTask) → (f x).group ≡ x.group)
      → waits_in (affected model s event) g ≡ some_live s.bounds (change t f s.tasks) (λ u x. nat_eq x.group g && not (nat_eq x.level s.target))
      → is_scan event ≡ false → is_fork event ≡ false → is_resched event ≡ false → IsOwn event g (old g)
  change_own event t f g below levels groups changed scan fork own = changed_own model lawful e sound leg leg_sound there g (old g) (is g below) event t f levels groups changed scan fork own

  -- an own check in the kernel leaves who waits, and adds a reason where it refuses the only member of its group
  resched_own : (t : TaskId) (vs : List Verdict) (g : ℕ) → g < 65536 → refusal_of model s (Resched t) ≡ None → IsOwn (Resched t) g (own_lines model e (Resched t) vs old g)
  resched_own t vs g below ok =
      ap (on_live (old g) (λ y. after_own_check s t.0 y.group (is_lone e t.0 y.group) (own_blame model (state_in e) t.0) old g)) there_is
      ∙ by (model.uses kind.Resched) refl (is_alone s.bounds (outlines_of s.tasks) g t.0) refl
    where
      x : LegTask
      x = (resched-live model e t ok).task

      there_is : s.tasks t.0 ≡ Live x
      there_is = live_from_slot e.table t.0 x (resched-live model e t ok).there

      lone : Bool
      lone = is_lone e t.0 x.group

      before : List Line
      before = lines model leg n g

      new : List Line
      new = lines model (and_then leg (Resched t)) (suc n) g

      after_lines : Bool → List Line
      after_lines b = if b then lines_after_scan model s kind.Resched g before else before

      law : new ≡ after_lines (model.uses kind.Resched && is_alone s.bounds (outlines_of s.tasks) g t.0)
      law =
          lines_at_own_check model leg t g (sym (refusal_is model leg (Resched t)) ∙ (ap (λ (st : State). refusal_of model st (Resched t)) (sym there) ∙ ok))
          ∙ ap (λ (st : State). lines_after_own_check model st t g before) (sym there)

      blame_is : own_blame model (state_in e) t.0 ≡ (if model.uses kind.Resched then model.blame kind.Resched (view_of t.0 x) s.aim else None)
      blame_is = ap (λ (fate : Fate LegTask). if model.uses kind.Resched then on_live None (λ y. model.blame kind.Resched (view_of t.0 y) s.aim) fate else None) there_is

      remain : new ≡ before → old g ≡ (if waits_in s g then Some new else None)
      remain h = same_own model lawful e sound leg leg_sound there g (old g) (is g below) (Resched t) refl h

      untouched : (nat_eq g x.group && lone) ≡ false → (o : Option Blame) → after_own_check s t.0 x.group lone o old g ≡ old g
      untouched out None = refl
      untouched out (Some b) = cond-false (nat_eq g x.group && lone) _ (old g) out

      -- where the check is of another group, or of one with other members, it isn't this group's
      other_group : is_alone s.bounds (outlines_of s.tasks) g t.0 ≡ false → (b : Bool) → nat_eq g x.group ≡ b → (nat_eq g x.group && lone) ≡ false
      other_group out false e2 = ap (λ b. b && lone) e2
      other_group out true e2 =
          ap (λ b. b && lone) e2 ∙ subst (λ k. is_alone s.bounds (outlines_of s.tasks) k t.0 ≡ false) (eqb-true g x.group e2) out

      own_group : is_alone s.bounds (outlines_of s.tasks) g t.0 ≡ true → x.group ≡ g
      own_group a =
          eqb-true x.group g (sym (ap (λ (fate : Fate LegTask). on_live false (λ y. nat_eq y.group g) (map_live outline_of fate)) there_is) ∙ (and_parts _ _ a).0)

      taken : (b : Blame) → is_alone s.bounds (outlines_of s.tasks) g t.0 ≡ true → (nat_eq g x.group && lone) ≡ true
      taken b a = ap₂ (λ c d. c && d) (eq-eqb g x.group (sym (own_group a))) (subst (λ k. is_alone s.bounds (outlines_of s.tasks) k t.0 ≡ true) (sym (own_group a)) a)

      lifted : (f : List Line → List Line) → new ≡ f before → (w : Bool) → option_map f (if w then Some before else None) ≡ (if w then Some new else None)
      lifted f h true = ap {A = List Line} {B = Option (List Line)} Some (sym h)
      lifted f h false = refl

      found : is_alone s.bounds (outlines_of s.tasks) g t.0 ≡ true → (o : Option Blame) → model.blame kind.Resched (view_of t.0 x) s.aim ≡ o → new ≡ lines_after_scan model s kind.Resched g before
          → after_own_check s t.0 x.group lone o old g ≡ (if waits_in s g then Some new else None)
      found a None e2 h = remain (h ∙ ap (λ first. after_check (has_frame_in s) g (suc s.number) first before) (lone_blamed model s sound kind.Resched t.0 x there_is g (own_group a) a ∙ ap (option_map (λ why. (t.0, why))) e2))
      found a (Some b) e2 h =
          let first = lone_blamed model s sound kind.Resched t.0 x there_is g (own_group a) a ∙ ap (option_map (λ why. (t.0, why))) e2 in
          cond-true (nat_eq g x.group && lone) _ (old g) (taken b a)
          ∙ (ap (option_map (after_refusal (has_frame_in s) g (suc s.number) (t.0, b))) (is g below)
          ∙ lifted (after_refusal (has_frame_in s) g (suc s.number) (t.0, b)) (h ∙ ap (λ o. after_check (has_frame_in s) g (suc s.number) o before) first) (waits_in s g))

      by : (u : Bool) → model.uses kind.Resched ≡ u → (a : Bool) → is_alone s.bounds (outlines_of s.tasks) g t.0 ≡ a
          → after_own_check s t.0 x.group lone (own_blame model (state_in e) t.0) old g ≡ (if waits_in s g then Some new else None)
      by false unused a is_a =
          ap (λ o. after_own_check s t.0 x.group lone o old g) (blame_is ∙ cond-false (model.uses kind.Resched) _ None unused)
          ∙ remain (law ∙ ap (λ b. after_lines (b && is_alone s.bounds (outlines_of s.tasks) g t.0)) unused)
      by true used false out =
          untouched (other_group out (nat_eq g x.group) refl) (own_blame model (state_in e) t.0)
          ∙ remain (law ∙ ap₂ (λ b c. after_lines (b && c)) used out)
      by true used true a =
          ap (λ o. after_own_check s t.0 x.group lone o old g) (blame_is ∙ cond-true (model.uses kind.Resched) _ None used)
          ∙ found a (model.blame kind.Resched (view_of t.0 x) s.aim) refl (law ∙ ap₂ (λ b c. after_lines (b && c)) used a)

  own_step : (event : Event) (g : ℕ) → g < 65536 → IsFew event → refusal_of model s event ≡ None → is_control event ≡ false → switches_at model (affected model s event) event g ≡ false
      → IsOwn event g (own_lines model e event (all_for model s event) old g)
  own_step (Call t f) g below few ok plain stays = change_own (Call t f) t.0 (calling (suc e.number) f) g below (λ x. refl) (λ x. refl) refl refl refl refl
  own_step (Ret t) g below few ok plain stays = change_own (Ret t) t.0 returning g below (λ x. refl) (λ x. refl) refl refl refl refl
  own_step (Sleep t) g below few ok plain stays = change_own (Sleep t) t.0 (put_in Asleep) g below (λ x. refl) (λ x. refl) refl refl refl refl
  own_step (Wake t) g below few ok plain stays = change_own (Wake t) t.0 (put_in Kernel) g below (λ x. refl) (λ x. refl) refl refl refl refl
  own_step (Enter t) g below few ok plain stays = change_own (Enter t) t.0 (put_in Kernel) g below (λ x. refl) (λ x. refl) refl refl refl refl
  own_step (Exit t) g below few ok plain stays = change_own (Exit t) t.0 (put_in User) g below (λ x. refl) (λ x. refl) refl refl refl refl
  own_step (Idle t) g below few ok plain stays =
      same_own model lawful e sound leg leg_sound there g (old g) (is g below) (Idle t) refl (others model lawful e sound leg leg_sound there g (old g) (is g below) (Idle t) refl refl refl)
  own_step (Resched t) g below few ok plain stays = resched_own t [] g below ok
  own_step (Fork p c how) g below few ok plain stays = fork_own p c how [] g below few ok
  own_step (Die t) g below few ok plain stays = die_own t [] g below ok
  own_step Walk g below few ok plain stays =
      scan_own model lawful e sound leg leg_sound there g (old g) (is g below) kind.Walk refl stays (switches-walk model lawful 65536 s refl sound e.table (λ t x live. slot_from_live e.table t x live) g) refl (model.uses kind.Walk) refl
  own_step Stop g below few ok plain stays =
      scan_own model lawful e sound leg leg_sound there g (old g) (is g below) kind.Stop refl stays (switches-stop model lawful 65536 s refl sound e.table (λ t x live. slot_from_live e.table t x live) g) refl (model.uses kind.Stop) refl
  own_step Enable g below few ok plain stays = absurd (false≢true (sym plain))
  own_step Disable g below few ok plain stays = absurd (false≢true (sym plain))
  own_step Reverse g below few ok plain stays = absurd (false≢true (sym plain))

  -- ---- The event

  is_fork-control : (event : Event) → is_fork event ≡ true → is_control event ≡ false
  is_fork-control (Fork p c how) fork = refl
  is_fork-control (Call t f) fork = absurd (false≢true fork)
  is_fork-control (Ret t) fork = absurd (false≢true fork)
  is_fork-control (Sleep t) fork = absurd (false≢true fork)
  is_fork-control (Wake t) fork = absurd (false≢true fork)
  is_fork-control (Enter t) fork = absurd (false≢true fork)
  is_fork-control (Exit t) fork = absurd (false≢true fork)
  is_fork-control (Idle t) fork = absurd (false≢true fork)
  is_fork-control (Resched t) fork = absurd (false≢true fork)
  is_fork-control (Die t) fork = absurd (false≢true fork)
  is_fork-control Walk fork = absurd (false≢true fork)
  is_fork-control Stop fork = absurd (false≢true fork)
  is_fork-control Enable fork = absurd (false≢true fork)
  is_fork-control Disable fork = absurd (false≢true fork)
  is_fork-control Reverse fork = absurd (false≢true fork)

  is_resched-control : (event : Event) → is_resched event ≡ true → is_control event ≡ false
  is_resched-control (Resched t) own = refl
  is_resched-control _ own = absurd (false≢true own)

  refused_same : (event : Event) (g : ℕ) (why : Refusal) → refusal_of model s event ≡ Some why → lines model (and_then leg event) (suc n) g ≡ lines model leg n g
  refused_same event g why turned_down =
      ⊎_elim
      (λ (scan : is_scan event ≡ true). absurd (some_none why (sym turned_down ∙ scan_accepted model s event scan)))
      (λ (plain : is_scan event ≡ false).
      ⊎_elim
      (λ (fork : is_fork event ≡ true). by_tests (is_fork-control event fork))
      (λ (other : is_fork event ≡ false).
      ⊎_elim
      (λ (own : is_resched event ≡ true). by_tests (is_resched-control event own))
      (λ (rest : is_resched event ≡ false). lines_at_others model lawful leg leg_sound event g plain other rest)
      (cases_Bool (is_resched event)))
      (cases_Bool (is_fork event)))
      (cases_Bool (is_scan event))
    where
      by_tests : is_control event ≡ false → lines model (and_then leg event) (suc n) g ≡ lines model leg n g
      by_tests plain =
          let told = sym (refusal_is model leg event) ∙ (ap (λ (st : State). refusal_of model st event) (sym there) ∙ turned_down) in
          lines_at_refused model lawful leg leg_sound event g why (sym (plain_refusal model leg event plain) ∙ told)

      some_none : {A : Type 0} (a : A) → Some a ≡ None → ⊥
      some_none a e = absurd (cc)

  -- ---- A scan that may leave out what is unchanged

  some_none : {A : Type 0} (a : A) → Some a ≡ None → ⊥
  some_none a e2 = absurd (cc)

  -- where it is no scan that the model uses, the verdicts say nothing
  own_any : (event : Event) (vs ws : List Verdict) (g : ℕ) → used_scan model event ≡ None → own_lines model e event vs old g ≡ own_lines model e event ws old g
  own_any (Call t f) vs ws g none = refl
  own_any (Ret t) vs ws g none = refl
  own_any (Sleep t) vs ws g none = refl
  own_any (Wake t) vs ws g none = refl
  own_any (Enter t) vs ws g none = refl
  own_any (Exit t) vs ws g none = refl
  own_any (Idle t) vs ws g none = refl
  own_any (Resched t) vs ws g none = refl
  own_any (Fork p c how) vs ws g none = refl
  own_any (Die t) vs ws g none = refl
  own_any Enable vs ws g none = refl
  own_any Disable vs ws g none = refl
  own_any Reverse vs ws g none = refl
  own_any Walk vs ws g none = by (model.uses kind.Walk) refl
    where
      by : (b : Bool) → model.uses kind.Walk ≡ b → own_lines model e Walk vs old g ≡ own_lines model e Walk ws old g
      by false unused = cond-false (model.uses kind.Walk) _ (old g) unused ∙ sym (cond-false (model.uses kind.Walk) _ (old g) unused)
      by true used = absurd (some_none kind.Walk (sym (cond-true (model.uses kind.Walk) (Some kind.Walk) None used) ∙ none))
  own_any Stop vs ws g none = by (model.uses kind.Stop) refl
    where
      by : (b : Bool) → model.uses kind.Stop ≡ b → own_lines model e Stop vs old g ≡ own_lines model e Stop ws old g
      by false unused = cond-false (model.uses kind.Stop) _ (old g) unused ∙ sym (cond-false (model.uses kind.Stop) _ (old g) unused)
      by true used = absurd (some_none kind.Stop (sym (cond-true (model.uses kind.Stop) (Some kind.Stop) None used) ∙ none))

  module _ (on : CheckKind) (vs : List Verdict) (enough : AreEnough model on s vs) (told : ToldOrUnchanged model s (lines model leg n) on vs)
      (stand : AreStanding waiters) (g : ℕ) (below : g < 65536) (not_switched : switches_by e.table (verdicts_of model on s) g ≡ false) where
    -- the group is refused
    refused_case : has waiters.groups g ≡ true → waits_in s g ≡ true → lines_in waiters.reasons g ≡ lines model leg n g → (blamed : ℕ × Blame) → first_refused s g (verdicts_of model on s) ≡ Some blamed
        → after_verdict s (suc e.number) (first_refused s g vs) waiters.reasons g ≡ after_refusal (has_frame_in s) g (suc e.number) blamed (lines_in waiters.reasons g)
    refused_case there it_waits same blamed first =
        scan_told model s sound on (lines model leg n) vs enough told waiters stand (suc e.number) g there same it_waits blamed first

    scan_noted : scanned_lines s (suc e.number) vs waiters g ≡ after_scan (has_frame_in s) g (suc e.number) (first_refused s g (verdicts_of model on s)) (old g)
    scan_noted = by (has waiters.groups g) refl (waits_in s g) refl (first_refused s g (verdicts_of model on s)) refl
      where
        nothing : (o : Option (ℕ × Blame)) → after_scan (has_frame_in s) g (suc e.number) o None ≡ None
        nothing None = refl
        nothing (Some b) = refl

        by : (w : Bool) → has waiters.groups g ≡ w → (b : Bool) → waits_in s g ≡ b → (o : Option (ℕ × Blame)) → first_refused s g (verdicts_of model on s) ≡ o
            → scanned_lines s (suc e.number) vs waiters g ≡ after_scan (has_frame_in s) g (suc e.number) (first_refused s g (verdicts_of model on s)) (old g)
        by false out b it_waits o first =
            cond-false (has waiters.groups g) _ None out
            ∙ (sym (nothing (first_refused s g (verdicts_of model on s)))
            ∙ ap (after_scan (has_frame_in s) g (suc e.number) (first_refused s g (verdicts_of model on s))) (sym (cond-false (has waiters.groups g) (Some (lines_in waiters.reasons g)) None out)))
        by true there false it_waits o first =
            absurd (some_none (lines_in waiters.reasons g) (sym (cond-true (has waiters.groups g) (Some (lines_in waiters.reasons g)) None there) ∙ (is g below ∙ cond-false (waits_in s g) _ None it_waits)))
        by true there true it_waits None first = absurd (false≢true (sym not_switched ∙ none_refused model lawful e sound on g it_waits first))
        by true there true it_waits (Some blamed) first =
            let frame_stands : Some (lines_in waiters.reasons g) ≡ Some (lines model leg n g) = sym (cond-true (has waiters.groups g) (Some (lines_in waiters.reasons g)) None there) ∙ (is g below ∙ cond-true (waits_in s g) _ None it_waits) in
            let same : lines_in waiters.reasons g ≡ lines model leg n g = cc in
            cond-true (has waiters.groups g) _ None there
            ∙ (ap {A = List Line} {B = Option (List Line)} Some (refused_case there it_waits same blamed first)
            ∙ ap₂ (after_scan (has_frame_in s) g (suc e.number)) (sym first) (sym (cond-true (has waiters.groups g) (Some (lines_in waiters.reasons g)) None there)))

  -- the lines that a scan leaves by what it found of those that it looked at are those that it leaves by what it finds of all
  module _ (g : ℕ) (below : g < 65536) where
    noted_scan : (on : CheckKind) (vs : List Verdict) → AreEnough model on s vs → TellsOrUnchanged model s (lines model leg n) (used_kind model on) vs → (IsSome (used_kind model on) → AreStanding waiters) → switches_by e.table (verdicts_of model on s) g ≡ false → (event : Event)
        → ((ws : List Verdict) → own_lines model e event ws old g ≡ after_scan_of model s on ws old g) → used_scan model event ≡ used_kind model on
        → noted_by model e (used_kind model on) event vs waiters g ≡ own_lines model e event (verdicts_of model on s) old g
    noted_scan on vs enough told stand not_switched event own is_used = by (model.uses on) refl
      where
        by : (b : Bool) → model.uses on ≡ b → noted_by model e (used_kind model on) event vs waiters g ≡ own_lines model e event (verdicts_of model on s) old g
        by true used =
            let kind_is : used_kind model on ≡ Some on = cond-true (model.uses on) (Some on) None used in
            ap (λ o. noted_by model e o event vs waiters g) kind_is
            ∙ (scan_noted on vs enough (subst (λ (o : Option CheckKind). TellsOrUnchanged model s (lines model leg n) o vs) kind_is told) (stand (subst IsSome (sym kind_is) refl)) g below not_switched
            ∙ (sym (cond-true (model.uses on) (after_scan (has_frame_in s) g (suc e.number) (first_refused s g (verdicts_of model on s)) (old g)) (old g) used) ∙ sym (own (verdicts_of model on s))))
        by false unused =
            let kind_is : used_kind model on ≡ None = cond-false (model.uses on) (Some on) None unused in
            ap (λ o. noted_by model e o event vs waiters g) kind_is ∙ own_any event vs (verdicts_of model on s) g (is_used ∙ kind_is)

    noted_is : (event : Event) (vs : List Verdict) → AreVerdictsFor model s event vs → TellsOrUnchanged model s (lines model leg n) (used_scan model event) vs → (IsSome (used_scan model event) → AreStanding waiters) → switches_at model (affected model s event) event g ≡ false
        → noted_lines model e event vs waiters g ≡ own_lines model e event (all_for model s event) old g
    noted_is Walk vs enough told stand stays =
        noted_scan kind.Walk vs enough told stand (sym (switches-walk model lawful 65536 s refl sound e.table (λ t x live. slot_from_live e.table t x live) g) ∙ stays) Walk (λ ws. refl) refl
    noted_is Stop vs enough told stand stays =
        noted_scan kind.Stop vs enough told stand (sym (switches-stop model lawful 65536 s refl sound e.table (λ t x live. slot_from_live e.table t x live) g) ∙ stays) Stop (λ ws. refl) refl
    noted_is (Call t f) vs enough told stand stays = refl
    noted_is (Ret t) vs enough told stand stays = refl
    noted_is (Sleep t) vs enough told stand stays = refl
    noted_is (Wake t) vs enough told stand stays = refl
    noted_is (Enter t) vs enough told stand stays = refl
    noted_is (Exit t) vs enough told stand stays = refl
    noted_is (Idle t) vs enough told stand stays = refl
    noted_is (Resched t) vs enough told stand stays = refl
    noted_is (Fork p c how) vs enough told stand stays = refl
    noted_is (Die t) vs enough told stand stays = refl
    noted_is Enable vs enough told stand stays = refl
    noted_is Disable vs enough told stand stays = refl
    noted_is Reverse vs enough told stand stays = refl

  -- the lines that a group has after the event, if it waits then
  pub step_lines : (step : Weighed) → IsWeighed model e step → TellsOrUnchanged model s (lines model leg n) (used_scan model step.event) step.verdicts
      → (IsSome (used_scan model step.event) → refusal_in step.reply.what ≡ None → AreStanding waiters)
      → (refusal_of model s step.event ≡ None → is_control step.event ≡ false) → (refusal_of model s step.event ≡ None → IsFew step.event) → (g : ℕ) → g < 65536
      → stepped_lines model e step waiters g ≡ (if waits_in (next model s step.event) g then Some (lines model (and_then leg step.event) (suc n) g) else None)
  step_lines step weighed enough stand plain few g below = by (refusal_of model s step.event) refl
    where
      event : Event
      event = step.event

      new : ℕ → List Line
      new k = lines model (and_then leg event) (suc n) k

      refused_is : refusal_in step.reply.what ≡ refusal_of model s event
      refused_is = ap (λ (r : Reply). refusal_in r.what) weighed.reply ∙ refused-as model s event

      gone : (ok : refusal_of model s event ≡ None) → (b : Bool) → switches_at model (affected model s event) event g ≡ b → list_any (nat_eq g) (groups_of step.reply.what) ≡ b
          → after_switch (groups_of step.reply.what) (noted_lines model e event step.verdicts waiters) g ≡ (if waits_in (next model s event) g then Some (new g) else None)
      gone ok true goes told =
          cond-true (list_any (nat_eq g) (groups_of step.reply.what)) None (noted_lines model e event step.verdicts waiters g) told
          ∙ sym (cond-false (waits_in (next model s event) g) (Some (new g)) None (ap (λ (st : State). waits_in st g) (next-accepted model s event ok (plain ok)) ∙ (waits_after model s event g ∙ (ap (λ b. waits_in (affected model s event) g && not b) goes ∙ and-false (waits_in (affected model s event) g)))))
      gone ok false goes told =
          cond-false (list_any (nat_eq g) (groups_of step.reply.what)) None (noted_lines model e event step.verdicts waiters g) told
          ∙ (noted_is g below event step.verdicts weighed.verdicts enough (λ used. stand used (refused_is ∙ ok)) goes
          ∙ (own_step event g below (few ok) ok (plain ok) goes
          ∙ ap (λ b. if b then Some (new g) else None) (sym (ap (λ (st : State). waits_in st g) (next-accepted model s event ok (plain ok)) ∙ (waits_after model s event g ∙ (ap (λ b. waits_in (affected model s event) g && not b) goes ∙ and_true (waits_in (affected model s event) g)))))))

      by : (why : Option Refusal) → refusal_of model s event ≡ why → stepped_lines model e step waiters g ≡ (if waits_in (next model s event) g then Some (new g) else None)
      by (Some why) turned_down =
          cond-false (is_none (refusal_in step.reply.what)) (after_switch (groups_of step.reply.what) (noted_lines model e event step.verdicts waiters) g) (old g) (ap is_none (refused_is ∙ turned_down))
          ∙ (is g below ∙ ap₂ (λ (b : Bool) (ls : List Line). if b then Some ls else None) (sym (ap (λ (st : State). waits_in st g) (next-refused model s event why turned_down))) (sym (refused_same event g why turned_down)))
      by None ok =
          let what : step.reply.what ≡ told model s event =
          ap (λ (r : Reply). r.what) (weighed.reply ∙ answer-accepted model s event ok)
          ∙ ap (λ (r : Reply). r.what) (cond-false (is_control event) _ _ (plain ok)) in
          cond-true (is_none (refusal_in step.reply.what)) (after_switch (groups_of step.reply.what) (noted_lines model e event step.verdicts waiters) g) (old g) (ap is_none (refused_is ∙ ok))
          ∙ gone ok (switches_at model (affected model s event) event g) refl (ap (λ (w : What). list_any (nat_eq g) (groups_of w)) what ∙ told_switched model s event g below refl (plain ok))
