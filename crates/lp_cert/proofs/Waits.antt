-- Who waits after an event, and with which lines.
use Rattle.std.proofs.Common.{◌≡◌, ℕ, suc, ◌<◌, Bool, true, false, not, ◌&&◌, ◌||◌, List, [], ◌∷◌, length, map, Option, Some, None, is_some, is_none, IsTrue, IsFalse, if◌then◌else◌, nat_eq, refl, sym, ap, ap₂, ◌∙◌, get_or}
use mathlib.Core.Path.{fun_ext}
use Rattle.std.specs.List.{list_any}
use Rattle.std.specs.Option.{option_map}
use Rattle.std.proofs.lemmas.Bool.{false≢true, false_from_ne_true, cond-true, cond-false, and_parts, not-true, eqb-true, eq-eqb}
use Rattle.lp_model.specs.Rules.{Rules, IsLawful}
use Rattle.lp_model.specs.declared.check.CheckKind.{CheckKind}
use Rattle.lp_model.specs.declared.check.Blame.{Blame}
use Rattle.lp_model.specs.declared.verdict.Verdict.{Verdict}
use Rattle.lp_definitions.specs.declared.event.Event.{Event}
use Rattle.lp_definitions.specs.declared.event.Event.TheVariants.{Call, Ret, Sleep, Wake, Enter, Exit, Idle, Resched, Fork, Die, Walk, Stop, Enable, Disable, Reverse}
use Rattle.lp_definitions.specs.Events.{is_control, is_scan}
use Rattle.lp_definitions.specs.Tasks.{Fate, on_live, first_of, change}
use Rattle.lp_definitions.specs.Leg.{LegTask, State, Leg, some_live}
use Rattle.lp_definitions.specs.Run.{and_then, switched}
use Rattle.lp_transition.specs.Scan.{is_scan_kind, scan_event, verdicts_of, member_verdict, first_refused}
use Rattle.lp_transition.specs.inside.ScanSteps.{groups_of, is_found, switches_by}
use Rattle.lp_definitions.specs.Sound.{IsSound}
use Rattle.lp_machine.specs.Machine.{waits_in, switches_at, switched_groups, switched_task, affected, with_switches, told, state_of, view_of}
use Rattle.lp_machine.specs.Table.{Table, Engine, slot, fate_at, leg_tasks, state_in}
use Rattle.lp_tasks.specs.inside.Table.{is_in}
use Rattle.lp_machine.proofs.Alone.{waits-same}
use Rattle.lp_machine.proofs.EngineLemmas.{and-false, unchecked-stays}
use Rattle.lp_tasks.proofs.Passing.{passing-any}
use Rattle.lp_definitions.proofs.Quantifiers.{some_live-is, some_live-map}
use Rattle.lp_transition.proofs.ScanAnswers.{groups_of-switched, switching_by}
use Rattle.lp_transition.proofs.ScanLists.{verdict-from}
use Rattle.lp_tasks.proofs.TableLemmas.{slot_from_live}
use Rattle.lp_definitions.specs.declared.line.Line.{Line}
use Rattle.lp_definitions.specs.Certificates.{lines, after_check, after_refusal}
use Rattle.lp_transition.specs.Blames.{has_frame_in, first_blamed_in}
use Rattle.lp_cert.specs.EventLines.{lines_after_scan, is_resched, is_fork}
use Rattle.lp_cert.specs.inside.Waiters.{after_scan}
use Rattle.lp_cert.proofs.NextLines.{lines_at_scan, lines_at_unused_scan}
use Rattle.lp_cert.proofs.OtherEvents.{lines_at_others}
use Rattle.lp_cert.proofs.VerdictLines.{verdicts_tell}

pub and_true : (b : Bool) → (b && true) ≡ b
and_true true = refl
and_true false = refl

-- ---- Who waits once groups switched

module _ (model : Rules) (s : State) (event : Event) where
  abbrev now : State
  now = affected model s event

  abbrev off : ℕ → ℕ → LegTask → Bool
  off g t x = nat_eq x.group g && not (nat_eq x.level s.target)

  switched_off : (g t : ℕ) (x : LegTask) (goes : Bool) → switches_at model now event x.group ≡ goes → (mine : Bool) → nat_eq x.group g ≡ mine
      → off g t (switched_task model now event x) ≡ (off g t x && not (switches_at model now event g))
  switched_off g t x true e true mine =
      let same : switches_at model now event g ≡ true = ap (switches_at model now event) (sym (eqb-true x.group g mine)) ∙ e in
      ap (off g t) (cond-true (switches_at model now event x.group) (record x { level = s.target }) x e)
      ∙ (ap (λ b. nat_eq x.group g && not b) (eq-eqb s.target s.target refl)
      ∙ (and-false (nat_eq x.group g)
      ∙ (sym (and-false (off g t x)) ∙ ap (λ b. off g t x && not b) (sym same))))
  switched_off g t x true e false mine =
      ap (off g t) (cond-true (switches_at model now event x.group) (record x { level = s.target }) x e)
      ∙ (ap (λ b. b && not (nat_eq s.target s.target)) mine ∙ ap (λ b. (b && not (nat_eq x.level s.target)) && not (switches_at model now event g)) (sym mine))
  switched_off g t x false e true mine =
      let same : switches_at model now event g ≡ false = ap (switches_at model now event) (sym (eqb-true x.group g mine)) ∙ e in
      ap (off g t) (cond-false (switches_at model now event x.group) (record x { level = s.target }) x e)
      ∙ (sym (and_true (off g t x)) ∙ ap (λ b. off g t x && not b) (sym same))
  switched_off g t x false e false mine =
      ap (off g t) (cond-false (switches_at model now event x.group) (record x { level = s.target }) x e)
      ∙ (ap (λ b. b && not (nat_eq x.level s.target)) mine ∙ ap (λ b. (b && not (nat_eq x.level s.target)) && not (switches_at model now event g)) (sym mine))

  off_and : (g : ℕ) (c : Bool) → some_live now.bounds now.tasks (λ t x. off g t x && c) ≡ (some_live now.bounds now.tasks (off g) && c)
  off_and g true =
      ap (some_live now.bounds now.tasks) (fun_ext (λ t. fun_ext (λ x. and_true (off g t x)))) ∙ sym (and_true (some_live now.bounds now.tasks (off g)))
  off_and g false =
      false_from_ne_true (some_live now.bounds now.tasks (λ t x. off g t x && false)) (λ yes.
      let w = some_live-is now.bounds now.tasks (λ t x. off g t x && false) yes in
      false≢true (sym (and-false (off g w.task w.life)) ∙ w.passed))
      ∙ sym (and-false (some_live now.bounds now.tasks (off g)))

  -- who waits after the event's own effect, and doesn't switch
  pub waits_after : (g : ℕ) → waits_in (with_switches model s event) g ≡ (waits_in now g && not (switches_at model now event g))
  waits_after g =
      some_live-map now.bounds (switched_task model now event) now.tasks (off g)
      ∙ (ap (some_live now.bounds now.tasks) (fun_ext (λ t. fun_ext (λ x. switched_off g t x (switches_at model now event x.group) refl (nat_eq x.group g) refl)))
      ∙ off_and g (not (switches_at model now event g)))

  module _ (g : ℕ) (below : g < 65536) (wide : suc now.bounds.tasks ≡ 65536) where
    in_switched : list_any (nat_eq g) (groups_of (switched (switched_groups model now event))) ≡ switches_at model now event g
    in_switched =
        ap (list_any (nat_eq g)) (groups_of-switched (switched_groups model now event) ∙ switching_by model 65536 now event (switches_at model now event) wide (λ k. refl))
        ∙ passing-any 65536 (switches_at model now event) g below

-- the groups that an event's answer tells are those that switch
pub told_switched : (model : Rules) (s : State) (event : Event) (g : ℕ) → g < 65536 → suc s.bounds.tasks ≡ 65536 → is_control event ≡ false → list_any (nat_eq g) (groups_of (told model s event)) ≡ switches_at model (affected model s event) event g
told_switched model s (Call t f) g below wide plain = sym (unchecked-stays model (affected model s (Call t f)) (Call t f) g refl)
told_switched model s (Ret t) g below wide plain = in_switched model s (Ret t) g below wide
told_switched model s (Sleep t) g below wide plain = in_switched model s (Sleep t) g below wide
told_switched model s (Wake t) g below wide plain = in_switched model s (Wake t) g below wide
told_switched model s (Enter t) g below wide plain = in_switched model s (Enter t) g below wide
told_switched model s (Exit t) g below wide plain = in_switched model s (Exit t) g below wide
told_switched model s (Idle t) g below wide plain = in_switched model s (Idle t) g below wide
told_switched model s (Resched t) g below wide plain = in_switched model s (Resched t) g below wide
told_switched model s (Fork p c how) g below wide plain = in_switched model s (Fork p c how) g below wide
told_switched model s (Die t) g below wide plain = in_switched model s (Die t) g below wide
told_switched model s Walk g below wide plain = in_switched model s Walk g below wide
told_switched model s Stop g below wide plain = in_switched model s Stop g below wide
told_switched model s Enable g below wide plain = absurd (false≢true (sym plain))
told_switched model s Disable g below wide plain = absurd (false≢true (sym plain))
told_switched model s Reverse g below wide plain = absurd (false≢true (sym plain))

-- ---- Whom a scan refuses

abbrev told_of : ℕ → Blame → ℕ × Blame
told_of t why = (t, why)

is_some-map : (t : ℕ) (o : Option Blame) → is_some (option_map (told_of t) o) ≡ is_some o
is_some-map t None = refl
is_some-map t (Some b) = refl

-- a verdict that refuses a member
found_member : (s : State) (table : Table) (there : s.tasks ≡ leg_tasks table) (g : ℕ) (v : Verdict) → is_found table true g v ≡ is_some (member_verdict s g v)
found_member s table there g v =
    by (slot table v.task.0) (get_or table.used v.task.0 false)
    ∙ ap (λ (ts : ℕ → Fate LegTask). is_some (if on_live false (λ x. nat_eq x.group g) (ts v.task.0) then option_map (told_of v.task.0) v.blame else None)) (sym there)
  where
    pick : (c : Bool) → (is_some v.blame && c) ≡ is_some (if c then option_map (told_of v.task.0) v.blame else None)
    pick true = and_true (is_some v.blame) ∙ sym (is_some-map v.task.0 v.blame)
    pick false = and-false (is_some v.blame)

    by : (o : Option LegTask) (used : Bool) → (is_some v.blame && is_in g o) ≡ is_some (if on_live false (λ (x : LegTask). nat_eq x.group g) (fate_at o used) then option_map (told_of v.task.0) v.blame else None)
    by None true = and-false (is_some v.blame)
    by None false = and-false (is_some v.blame)
    by (Some x) used = pick (nat_eq x.group g)

first_some-any : {A : Type 0} (o : Option A) (rest : List (Option A)) (b : Bool) → is_some (first_of rest) ≡ b → is_some (first_of (o ∷ rest)) ≡ (is_some o || b)
first_some-any None rest b e = e
first_some-any (Some a) rest b e = refl

pub found_first : (s : State) (table : Table) (there : s.tasks ≡ leg_tasks table) (g : ℕ) (vs : List Verdict) → list_any (is_found table true g) vs ≡ is_some (first_refused s g vs)
found_first s table there g [] = refl
found_first s table there g (v ∷ vs) =
    ap₂ (λ a b. a || b) (found_member s table there g v) (found_first s table there g vs)
    ∙ sym (first_some-any (member_verdict s g v) (map (member_verdict s g) vs) (is_some (first_refused s g vs)) refl)

module _ (model : Rules) (lawful : IsLawful model) (e : Engine) (sound : IsSound (state_in e)) (on : CheckKind) (g : ℕ) (it_waits : waits_in (state_in e) g ≡ true) where
  -- where nobody is refused, a waiting member is admitted
  pub none_refused : first_refused (state_in e) g (verdicts_of model on (state_in e)) ≡ None → switches_by e.table (verdicts_of model on (state_in e)) g ≡ true
  none_refused none =
      let s = state_in e in
      let vs = verdicts_of model on s in
      let unrefused : list_any (is_found e.table true g) vs ≡ false = found_first s e.table refl g vs ∙ ap is_some none in
      let w = some_live-is s.bounds s.tasks (λ t x. nat_eq x.group g && not (nat_eq x.level s.target)) it_waits in
      let both = and_parts (nat_eq w.life.group g) (not (nat_eq w.life.level s.target)) w.passed in
      let at : is_in g (slot e.table w.task) ≡ true = ap (is_in g) (slot_from_live e.table w.task w.life w.live) ∙ both.0 in
      let found : (refused : Bool) → (if refused then is_some (model.blame on (view_of w.task w.life) s.aim) else is_none (model.blame on (view_of w.task w.life) s.aim)) ≡ true → list_any (is_found e.table refused g) vs ≡ true =
      λ refused is.
      verdict-from model on s (is_found e.table refused g) (record {
        number = w.task;
        task = w.life;
        live = w.live;
        off = not-true (nat_eq w.life.level s.target) both.1;
        passed = ap₂ (λ a b. a && b) is at;
      }) w.positive w.within in
      let admitted : list_any (is_found e.table false g) vs ≡ true = by unrefused w.task w.life found (model.blame on (view_of w.task w.life) s.aim) refl in
      ap₂ (λ a b. a && not b) admitted unrefused
    where
      by : list_any (is_found e.table true g) (verdicts_of model on (state_in e)) ≡ false
          → (t : ℕ) (x : LegTask) → ((refused : Bool) → (if refused then is_some (model.blame on (view_of t x) (state_in e).aim) else is_none (model.blame on (view_of t x) (state_in e).aim)) ≡ true → list_any (is_found e.table refused g) (verdicts_of model on (state_in e)) ≡ true)
          → (o : Option Blame) → model.blame on (view_of t x) (state_in e).aim ≡ o → list_any (is_found e.table false g) (verdicts_of model on (state_in e)) ≡ true
      by unrefused t x found None is = found false (ap is_none is)
      by unrefused t x found (Some b) is = absurd (false≢true (sym unrefused ∙ found true (ap is_some is)))

-- ---- The lines of who waits

module _ (model : Rules) (lawful : IsLawful model) (e : Engine) (sound : IsSound (state_in e)) (leg : Leg) (leg_sound : IsSound leg.opening) (there : state_in e ≡ state_of model leg)
    (g : ℕ) (old : Option (List Line)) (is : old ≡ (if waits_in (state_in e) g then Some (lines model leg (length leg.events) g) else None)) where
  abbrev n : ℕ
  n = length leg.events

  -- those of the longer leg, if the group waits after the event's own effect
  abbrev pub Own : Event → Option (List Line) → Type 0
  Own event new = new ≡ (if waits_in (affected model (state_in e) event) g then Some (lines model (and_then leg event) (suc n) g) else None)

  pub same_own : (event : Event) → waits_in (affected model (state_in e) event) g ≡ waits_in (state_in e) g → lines model (and_then leg event) (suc n) g ≡ lines model leg n g → Own event old
  same_own event waits same =
      is ∙ ap₂ (λ (b : Bool) (ls : List Line). if b then Some ls else None) (sym waits) (sym same)

  pub others : (event : Event) → is_scan event ≡ false → is_fork event ≡ false → is_resched event ≡ false → lines model (and_then leg event) (suc n) g ≡ lines model leg n g
  others event scan fork own = lines_at_others model lawful leg leg_sound event g scan fork own

  pub changed_own : (event : Event) (t : ℕ) (f : LegTask → LegTask) → ((x : LegTask) → (f x).level ≡ x.level) → ((x : LegTask) → (f x).group ≡ x.group)
      → waits_in (affected model (state_in e) event) g ≡ some_live (state_in e).bounds (change t f (state_in e).tasks) (λ u x. nat_eq x.group g && not (nat_eq x.level (state_in e).target))
      → is_scan event ≡ false → is_fork event ≡ false → is_resched event ≡ false → Own event old
  changed_own event t f levels groups change_is scan fork own =
      same_own event (change_is ∙ waits-same t f levels groups (state_in e).bounds (state_in e).target g (state_in e).tasks) (others event scan fork own)

  -- ---- Scans

  scan_lines : (on : CheckKind) → is_scan_kind on ≡ true → IsTrue (model.uses on) → waits_in (state_in e) g ≡ true
      → lines model (and_then leg (scan_event on)) (suc n) g ≡ lines_after_scan model (state_in e) on g (lines model leg n g)
  scan_lines on scan used waits =
      lines_at_scan model leg on g scan used (ap (λ s. waits_in s g) (sym there) ∙ waits) ∙ ap (λ s. lines_after_scan model s on g (lines model leg n g)) (sym there)

  scan_used : (on : CheckKind) → is_scan_kind on ≡ true → IsTrue (model.uses on) → switches_at model (affected model (state_in e) (scan_event on)) (scan_event on) g ≡ false
      → switches_at model (affected model (state_in e) (scan_event on)) (scan_event on) g ≡ switches_by e.table (verdicts_of model on (state_in e)) g
      → waits_in (affected model (state_in e) (scan_event on)) g ≡ waits_in (state_in e) g
      → Own (scan_event on) (after_scan (has_frame_in (state_in e)) g (suc e.number) (first_refused (state_in e) g (verdicts_of model on (state_in e))) old)
  scan_used on scan used stays by_verdicts waits = by (waits_in (state_in e) g) refl (first_refused (state_in e) g (verdicts_of model on (state_in e))) refl
    where
      s : State
      s = state_in e

      after : Option (ℕ × Blame) → Option (List Line) → Option (List Line)
      after o ls = after_scan (has_frame_in (state_in e)) g (suc e.number) o ls

      none : (o : Option (ℕ × Blame)) → after_scan (has_frame_in (state_in e)) g (suc e.number) o None ≡ None
      none None = refl
      none (Some b) = refl

      by : (b : Bool) → waits_in (state_in e) g ≡ b → (o : Option (ℕ × Blame)) → first_refused (state_in e) g (verdicts_of model on (state_in e)) ≡ o
          → Own (scan_event on) (after_scan (has_frame_in (state_in e)) g (suc e.number) (first_refused (state_in e) g (verdicts_of model on (state_in e))) old)
      by false quiet o first =
          ap (after_scan (has_frame_in (state_in e)) g (suc e.number) (first_refused (state_in e) g (verdicts_of model on (state_in e)))) (is ∙ cond-false (waits_in (state_in e) g) (Some (lines model leg n g)) None quiet)
          ∙ (none (first_refused (state_in e) g (verdicts_of model on (state_in e)))
          ∙ sym (cond-false (waits_in (affected model (state_in e) (scan_event on)) g) (Some (lines model (and_then leg (scan_event on)) (suc n) g)) None (waits ∙ quiet)))
      by true busy None first = absurd (false≢true (sym stays ∙ (by_verdicts ∙ none_refused model lawful e sound on g busy first)))
      by true busy (Some b) first =
          let blamed : first_blamed_in model (state_in e) on g ≡ Some b = sym (verdicts_tell model (state_in e) sound on g busy) ∙ first in
          let line : lines model (and_then leg (scan_event on)) (suc n) g ≡ after_refusal (has_frame_in (state_in e)) g (suc e.number) b (lines model leg n g) =
          scan_lines on scan used busy ∙ ap (λ o. after_check (has_frame_in (state_in e)) g (suc e.number) o (lines model leg n g)) blamed in
          ap₂ (λ o ls. after_scan (has_frame_in (state_in e)) g (suc e.number) o ls) first (is ∙ cond-true (waits_in (state_in e) g) (Some (lines model leg n g)) None busy)
          ∙ (ap {A = List Line} {B = Option (List Line)} Some (sym line)
          ∙ sym (cond-true (waits_in (affected model (state_in e) (scan_event on)) g) (Some (lines model (and_then leg (scan_event on)) (suc n) g)) None (waits ∙ busy)))

  pub scan_own : (on : CheckKind) → is_scan_kind on ≡ true → switches_at model (affected model (state_in e) (scan_event on)) (scan_event on) g ≡ false
      → switches_at model (affected model (state_in e) (scan_event on)) (scan_event on) g ≡ switches_by e.table (verdicts_of model on (state_in e)) g
      → waits_in (affected model (state_in e) (scan_event on)) g ≡ waits_in (state_in e) g
      → (b : Bool) → model.uses on ≡ b
      → Own (scan_event on) (if b then after_scan (has_frame_in (state_in e)) g (suc e.number) (first_refused (state_in e) g (verdicts_of model on (state_in e))) old else old)
  scan_own on scan stays by_verdicts waits true used = scan_used on scan used stays by_verdicts waits
  scan_own on scan stays by_verdicts waits false unused = same_own (scan_event on) waits (lines_at_unused_scan model leg on g scan (false_is unused))
    where
      false_is : model.uses on ≡ false → IsFalse (model.uses on)
      false_is h = h
