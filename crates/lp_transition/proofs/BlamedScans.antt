-- The blame that a scan finds of a group.
use Rattle.std.proofs.lemmas.List.{get_or_past}
use Rattle.std.proofs.Common.{◌≡◌, ◌⊎◌, ⊎_elim, inl, inr, length, ◌≤◌, ℕ, suc, ◌<◌, Bool, true, false, ◌&&◌, List, [], ◌∷◌, map, Option, Some, None, if◌then◌else◌, nat_eq, refl, sym, ap, subst, ◌∙◌, arith}
use mathlib.Core.Path.{fun_ext}
use Rattle.std.proofs.lemmas.Bool.{cond-true, cases_order, and_parts, and_from, or_left, or_right, eqb-true, eq-eqb}
use Rattle.std.specs.List.{list_any}
use Rattle.std.specs.Option.{option_map}
use Rattle.lp_model.specs.Rules.{Rules, IsLawful}
use Rattle.lp_model.specs.declared.check.CheckKind.{CheckKind}
use Rattle.lp_model.specs.declared.check.CheckKind.TheVariants as kind
use Rattle.lp_model.specs.declared.check.Blame.{Blame}
use Rattle.lp_model.specs.declared.check.Blame.TheVariants.{Unused, Frame as Held, Busy}
use Rattle.lp_model.specs.declared.verdict.Verdict.{Verdict}
use Rattle.lp_machine.specs.declared.standing_blame.StandingBlame.{StandingBlame}
use Rattle.lp_numbers.specs.Numbers.{Numbers, has}
use Rattle.lp_definitions.specs.Tasks.{Fate, on_live, first_of}
use Rattle.lp_definitions.specs.Leg.{LegTask, State}
use Rattle.lp_definitions.specs.Sound.{IsSound}
use Rattle.lp_machine.specs.Machine.{view_of, refusal_of, affected, own_effect}
use Rattle.lp_machine.specs.Table.{slot, leg_tasks, fate_at, Engine, state_in}
use Rattle.lp_transition.specs.Scan.{verdicts_of, AreEnough, member_verdict, first_refused}
use Rattle.lp_transition.specs.Blames.{frame_blame, refused_first, while_there, or_blame, has_frame_in}
use Rattle.lp_tasks.specs.inside.Table.{is_in}
use Rattle.lp_transition.specs.inside.Blames.{found_by, IsBlamed, blame_at, AreBlamed}
use Rattle.lp_transition.proofs.ScanLists.{verdict-is}
use Rattle.lp_definitions.specs.declared.event.Event.{Event}
use Rattle.lp_definitions.specs.declared.event.Event.TheVariants as event
use Rattle.lp_definitions.specs.Events.{is_scan, is_control}
use Rattle.lp_transition.specs.Weigh.{Weighed, IsWeighed, AreVerdictsFor}
use Rattle.lp_transition.specs.inside.Invariant.{IsEngine}
use Rattle.lp_transition.proofs.Admitted.{any-filter}
use Rattle.lp_transition.proofs.Effects.{HasTaken}
use Rattle.lp_transition.proofs.Blames.{Leaves, leaves, still, blamed_there}

-- the blame is for this frame
abbrev is_held : ℕ → Option Blame → Bool
is_held serial None = false
is_held serial (Some Unused) = false
is_held serial (Some Busy) = false
is_held serial (Some (Held n)) = nat_eq n serial

held-is : (serial : ℕ) (o : Option Blame) → is_held serial o ≡ true → o ≡ Some (Held serial)
held-is serial None h = absurd (cc)
held-is serial (Some Unused) h = absurd (cc)
held-is serial (Some Busy) h = absurd (cc)
held-is serial (Some (Held n)) h = ap (λ k. Some (Held k)) (eqb-true n serial h)

module _ (s : State) (g t serial : ℕ) where
  abbrev is_member : ℕ → Bool
  is_member u = on_live false (λ (x : LegTask). nat_eq x.group g) (s.tasks u)

  -- the verdict refuses this member of the group for this frame
  abbrev is_this : Verdict → Bool
  is_this v = nat_eq v.task.0 t && (is_held serial v.blame && is_member v.task.0)

  this-by : (b : Bool) (o : Option Blame) (u : ℕ) → (if b then option_map {U = ℕ × Blame} (λ why. (u, why)) o else None) ≡ Some (t, Held serial) → (b ≡ true) × (o ≡ Some (Held serial)) × (u ≡ t)
  this-by true (Some why) u e = let same : (u, why) ≡ (t, Held serial) = cc in (refl, ap (λ (p : ℕ × Blame). Some p.1) same, ap (λ (p : ℕ × Blame). p.0) same)
  this-by true None u e = absurd (cc)
  this-by false o u e = absurd (cc)

  this-is : (v : Verdict) → member_verdict s g v ≡ Some (t, Held serial) → is_this v ≡ true
  this-is v e =
      let w = this-by (is_member v.task.0) v.blame v.task.0 e in
      and_from (nat_eq v.task.0 t) (is_held serial v.blame && is_member v.task.0) (eq-eqb v.task.0 t w.2)
      (and_from (is_held serial v.blame) (is_member v.task.0) (ap (is_held serial) w.1 ∙ eq-eqb serial serial refl) w.0)

  first-step : (v : Verdict) (vs : List Verdict) → (first_refused s g vs ≡ Some (t, Held serial) → list_any is_this vs ≡ true) → first_refused s g (v ∷ vs) ≡ Some (t, Held serial) → list_any is_this (v ∷ vs) ≡ true
  first-step v vs more e = by (member_verdict s g v) refl
    where
      by : (o : Option (ℕ × Blame)) → member_verdict s g v ≡ o → list_any is_this (v ∷ vs) ≡ true
      by None m = or_right (is_this v) (list_any is_this vs) (more (sym (ap (λ o. first_of (o ∷ map (member_verdict s g) vs)) m) ∙ e))
      by (Some told) m = or_left (is_this v) (list_any is_this vs) (this-is v (m ∙ (sym (ap (λ o. first_of (o ∷ map (member_verdict s g) vs)) m) ∙ e)))

  first-told : (vs : List Verdict) → first_refused s g vs ≡ Some (t, Held serial) → list_any is_this vs ≡ true
  first-told [] e = absurd (cc)
  first-told (v ∷ vs) e = first-step v vs (λ later. first-told vs later) e

module _ (model : Rules) (lawful : IsLawful model) (on : CheckKind) (s : State) (sound : IsSound s) where
  made : (g t serial : ℕ) → list_any (is_this s g t serial) (verdicts_of model on s) ≡ true → IsBlamed model s g (record { task = record { 0 = t }; serial = serial })
  made g t serial h =
      let j = verdict-is model on s (is_this s g t serial) h in
      let why = model.blame on (view_of j.number j.task) s.aim in
      let a = and_parts (nat_eq j.number t) (is_held serial why && is_member s g t serial j.number) j.passed in
      let b = and_parts (is_held serial why) (is_member s g t serial j.number) a.1 in
      let same : j.number ≡ t = eqb-true j.number t a.0 in
      let blamed = held-is serial why b.0 in
      let grouped : nat_eq j.task.group g ≡ true = sym (ap (on_live false (λ (x : LegTask). nat_eq x.group g)) j.live) ∙ b.1 in
      let holds = lawful.blames_there on (view_of j.number j.task) s.aim serial blamed in
      record {
        life = j.task;
        live = ap s.tasks (sym same) ∙ j.live;
        off = j.off;
        grouped = eqb-true j.task.group g grouped;
        frame = holds.0;
        serial = holds.2;
        there = holds.1;
        kind = on;
        seen = view_of j.number j.task;
        task = same;
        rises = sound.serials_rise j.number j.task j.live;
        held = holds.1;
        blame = blamed;
      }

  -- a blame that enough verdicts find is right
  pub found_blamed : (vs : List Verdict) → AreEnough model on s vs → (g : ℕ) (b : StandingBlame) → frame_blame (first_refused s g vs) ≡ Some b → IsBlamed model s g b
  found_blamed vs enough g b e = by (first_refused s g vs) refl
    where
      by : (o : Option (ℕ × Blame)) → first_refused s g vs ≡ o → IsBlamed model s g b
      by None is = let none : None ≡ Some b = sym (ap frame_blame is) ∙ e in absurd (cc)
      by (Some (t, Unused)) is = let none : None ≡ Some b = sym (ap frame_blame is) ∙ e in absurd (cc)
      by (Some (t, Busy)) is = let none : None ≡ Some b = sym (ap frame_blame is) ∙ e in absurd (cc)
      by (Some (t, Held serial)) is =
          let here : StandingBlame = record { task = record { 0 = t }; serial = serial } in
          let some : Some here ≡ Some b = sym (ap frame_blame is) ∙ e in
          let same : here ≡ b = cc in
          let told = subst (λ ws. list_any (is_this s g t serial) ws ≡ true) enough.found (first-told s g t serial vs is) in
          subst (IsBlamed model s g) same (made g t serial (any-filter (is_this s g t serial) (λ v. enough.looked v.task.0) (verdicts_of model on s) told))

-- ---- In the words of the table

member-same : (o : Option LegTask) (used : Bool) (g : ℕ) → is_in g o ≡ on_live false (λ (x : LegTask). nat_eq x.group g) (fate_at o used)
member-same None true g = refl
member-same None false g = refl
member-same (Some x) used g = refl

pub found-same : (e : Engine) (g : ℕ) (vs : List Verdict) → found_by e.table g vs ≡ frame_blame (first_refused (state_in e) g vs)
found-same e g vs =
    ap {A = Verdict → Option (ℕ × Blame)} {B = Option StandingBlame} (λ told. frame_blame (first_of (map told vs)))
    (fun_ext (λ (v : Verdict). ap (λ (b : Bool). if b then option_map {U = ℕ × Blame} (λ why. (v.task.0, why)) v.blame else None) (member-same (slot e.table v.task.0) (has e.table.used v.task.0) g)))

-- ---- The blames after a scan

module _ (model : Rules) (lawful : IsLawful model) (e : Engine) where
  -- a scan is accepted, and nothing happens to anybody
  accepts : (event : Event) → is_scan event ≡ true → refusal_of model (state_in e) event ≡ None
  unfolding refusal_of
  accepts event.Walk scan = refl
  accepts event.Stop scan = refl
  accepts (event.Call t f) scan = absurd (cc)
  accepts (event.Ret t) scan = absurd (cc)
  accepts (event.Sleep t) scan = absurd (cc)
  accepts (event.Wake t) scan = absurd (cc)
  accepts (event.Enter t) scan = absurd (cc)
  accepts (event.Exit t) scan = absurd (cc)
  accepts (event.Idle t) scan = absurd (cc)
  accepts (event.Resched t) scan = absurd (cc)
  accepts (event.Fork p c how) scan = absurd (cc)
  accepts (event.Die t) scan = absurd (cc)
  accepts event.Enable scan = absurd (cc)
  accepts event.Disable scan = absurd (cc)
  accepts event.Reverse scan = absurd (cc)

  -- whom it refuses first its verdicts tell
  first_of_scan : (event : Event) → is_scan event ≡ true → (vs : List Verdict) (g : ℕ) → refused_first model (state_in e) event vs g ≡ first_refused (state_in e) g vs
  first_of_scan (event.Resched t) scan vs g = absurd (cc)
  first_of_scan event.Walk scan vs g = refl
  first_of_scan event.Stop scan vs g = refl
  first_of_scan _ scan vs g = absurd (cc)

  scan-plain : (event : Event) → is_scan event ≡ true → is_control event ≡ false
  scan-plain event.Walk scan = refl
  scan-plain event.Stop scan = refl
  scan-plain (event.Call t f) scan = refl
  scan-plain (event.Ret t) scan = refl
  scan-plain (event.Sleep t) scan = refl
  scan-plain (event.Wake t) scan = refl
  scan-plain (event.Enter t) scan = refl
  scan-plain (event.Exit t) scan = refl
  scan-plain (event.Idle t) scan = refl
  scan-plain (event.Resched t) scan = refl
  scan-plain (event.Fork p c how) scan = refl
  scan-plain (event.Die t) scan = refl
  scan-plain event.Enable scan = absurd (cc)
  scan-plain event.Disable scan = absurd (cc)
  scan-plain event.Reverse scan = absurd (cc)

  own : (event : Event) → is_scan event ≡ true → own_effect model.child_group (suc e.number) event (leg_tasks e.table) ≡ leg_tasks e.table
  own event.Walk scan = refl
  own event.Stop scan = refl
  own (event.Call t f) scan = absurd (cc)
  own (event.Ret t) scan = absurd (cc)
  own (event.Sleep t) scan = absurd (cc)
  own (event.Wake t) scan = absurd (cc)
  own (event.Enter t) scan = absurd (cc)
  own (event.Exit t) scan = absurd (cc)
  own (event.Idle t) scan = absurd (cc)
  own (event.Resched t) scan = absurd (cc)
  own (event.Fork p c how) scan = absurd (cc)
  own (event.Die t) scan = absurd (cc)
  own event.Enable scan = absurd (cc)
  own event.Disable scan = absurd (cc)
  own event.Reverse scan = absurd (cc)

  -- what its verdicts find is right
  finds : (event : Event) → is_scan event ≡ true → IsSound (state_in e) → (vs : List Verdict) → AreVerdictsFor model (state_in e) event vs → (g : ℕ) (b : StandingBlame) → frame_blame (first_refused (state_in e) g vs) ≡ Some b → IsBlamed model (state_in e) g b
  finds event.Walk scan sound vs enough g b e' = found_blamed model lawful kind.Walk (state_in e) sound vs enough g b e'
  finds event.Stop scan sound vs enough g b e' = found_blamed model lawful kind.Stop (state_in e) sound vs enough g b e'
  finds (event.Call t f) scan sound vs enough g b e' = absurd (cc)
  finds (event.Ret t) scan sound vs enough g b e' = absurd (cc)
  finds (event.Sleep t) scan sound vs enough g b e' = absurd (cc)
  finds (event.Wake t) scan sound vs enough g b e' = absurd (cc)
  finds (event.Enter t) scan sound vs enough g b e' = absurd (cc)
  finds (event.Exit t) scan sound vs enough g b e' = absurd (cc)
  finds (event.Idle t) scan sound vs enough g b e' = absurd (cc)
  finds (event.Resched t) scan sound vs enough g b e' = absurd (cc)
  finds (event.Fork p c how) scan sound vs enough g b e' = absurd (cc)
  finds (event.Die t) scan sound vs enough g b e' = absurd (cc)
  finds event.Enable scan sound vs enough g b e' = absurd (cc)
  finds event.Disable scan sound vs enough g b e' = absurd (cc)
  finds event.Reverse scan sound vs enough g b e' = absurd (cc)

pub leaves_scanned : (model : Rules) (lawful : IsLawful model) (e old new : Engine) (waiting left_waiting : Numbers) (step : Weighed) → e ≡ old → IsEngine e waiting → AreBlamed model (state_in e) e.blames → HasTaken model old step.event new left_waiting → IsWeighed model old step → is_scan step.event ≡ true
    → ((g : ℕ) → g < 65536 → blame_at new.blames g ≡ or_blame (blame_at e.blames g) (found_by e.table g step.verdicts)) → ((g : ℕ) (b : StandingBlame) → blame_at new.blames g ≡ Some b → g < 65536)
    → Leaves model old step.event step.verdicts new
leaves_scanned model lawful e old new waiting left_waiting step was kept blamed taken weighed scan noted small =
    leaves model lawful e old new step.event was taken.kept.sound taken.state accepted (scan-plain model lawful e step.event scan) step.verdicts
    (λ g b at. right g b (blame_at e.blames g) refl (sym (now g (small g b at)) ∙ at))
    (λ g within.
    now g within
    ∙ ap (λ o. or_blame o (found g)) (all_there g (blame_at e.blames g) refl)
    ∙ ap (λ o. or_blame (while_there (affected model (state_in e) step.event) (blame_at e.blames g)) (frame_blame o)) (sym (first_of_scan model lawful e step.event scan step.verdicts g)))
  where
    here : IsWeighed model e step
    here = subst (λ (o : Engine). IsWeighed model o step) (sym was) weighed

    accepted : refusal_of model (state_in old) step.event ≡ None
    accepted = ap (λ (o : Engine). refusal_of model (state_in o) step.event) (sym was) ∙ accepts model lawful e step.event scan

    found : ℕ → Option StandingBlame
    found g = frame_blame (first_refused (state_in e) g step.verdicts)

    now : (g : ℕ) → g < 65536 → blame_at new.blames g ≡ or_blame (blame_at e.blames g) (found g)
    now g within = noted g within ∙ ap (or_blame (blame_at e.blames g)) (found-same e g step.verdicts)

    after : (g : ℕ) (b : StandingBlame) → IsBlamed model (state_in e) g b → IsBlamed model (affected model (state_in e) step.event) g b
    after g b w = still model lawful (state_in e) g b w step.event (ap (λ (tasks : ℕ → Fate LegTask). tasks b.task.0) (own model lawful e step.event scan))

    all_there : (g : ℕ) (o : Option StandingBlame) → blame_at e.blames g ≡ o → o ≡ while_there (affected model (state_in e) step.event) o
    all_there g None is = refl
    all_there g (Some b) is = sym (cond-true (has_frame_in (affected model (state_in e) step.event) b.task.0 b.serial) (Some b) None (blamed_there model (affected model (state_in e) step.event) g b (after g b (blamed g b is))))

    right : (g : ℕ) (c : StandingBlame) (o : Option StandingBlame) → blame_at e.blames g ≡ o → or_blame (blame_at e.blames g) (found g) ≡ Some c → IsBlamed model (affected model (state_in e) step.event) g c
    right g c None is at = after g c (finds model lawful e step.event scan kept.sound step.verdicts here.verdicts g c (sym (ap (λ o. or_blame o (found g)) is) ∙ at))
    right g c (Some b) is at =
        let some : Some b ≡ Some c = sym (ap (λ o. or_blame o (found g)) is) ∙ at in
        let same : b ≡ c = cc in
        subst (IsBlamed model (affected model (state_in e) step.event) g) same (after g b (blamed g b is))

-- a group with a blame has a place
pub blame_within : (blames : List (Option StandingBlame)) (g : ℕ) (b : StandingBlame) → length blames ≤ 65536 → blame_at blames g ≡ Some b → g < 65536
blame_within blames g b long is =
    ⊎_elim
    (λ (within : g < 65536). within)
    (λ (past : 65536 ≤ g). let none : None ≡ Some b = sym (get_or_past blames g None (omega (arith, long, past))) ∙ is in absurd (cc))
    (cases_le g)
  where
    cases_le : (n : ℕ) → (n < 65536) ⊎ (65536 ≤ n)
    cases_le n = ⊎_elim (λ (same : n ≡ 65536). inr (omega arith)) (λ (apart : (n < 65536) ⊎ (65536 < n)). ⊎_elim (λ (below : n < 65536). inl below) (λ (above : 65536 < n). inr (omega arith)) apart) (cases_order n 65536)

-- no other event is answered by verdicts
pub no_verdicts : (model : Rules) (s : State) (event : Event) (vs : List Verdict) → is_scan event ≡ false → AreVerdictsFor model s event vs → vs ≡ []
no_verdicts model s event.Walk vs plain right = absurd (cc)
no_verdicts model s event.Stop vs plain right = absurd (cc)
no_verdicts model s (event.Call t f) vs plain right = right
no_verdicts model s (event.Ret t) vs plain right = right
no_verdicts model s (event.Sleep t) vs plain right = right
no_verdicts model s (event.Wake t) vs plain right = right
no_verdicts model s (event.Enter t) vs plain right = right
no_verdicts model s (event.Exit t) vs plain right = right
no_verdicts model s (event.Idle t) vs plain right = right
no_verdicts model s (event.Resched t) vs plain right = right
no_verdicts model s (event.Fork p c how) vs plain right = right
no_verdicts model s (event.Die t) vs plain right = right
no_verdicts model s event.Enable vs plain right = right
no_verdicts model s event.Disable vs plain right = right
no_verdicts model s event.Reverse vs plain right = right
