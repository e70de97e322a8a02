-- A group to which nothing happens stays unchanged.
use Rattle.std.proofs.Common.{◌≡◌, ◌≢◌, ◌↔◌, ℕ, suc, Bool, true, false, not, ◌&&◌, ◌||◌, List, [], ◌∷◌, length, map, Option, Some, None, is_none, IsFalse, if◌then◌else◌, nat_eq, nat_lt, refl, sym, ap, ap₂, subst, ◌∙◌, ⊎_elim}
use mathlib.Core.Path.{fun_ext}
use Rattle.std.specs.List.{list_any, range_with_len}
use Rattle.std.specs.Option.{option_map}
use Rattle.std.proofs.lemmas.Bool.{false≢true, cond-false, eqb-true, eqb-false, ne_eqb, or_parts}
use Rattle.lp_stack.specs.declared.number.TaskId.{TaskId}
use Rattle.lp_stack.specs.declared.view.Class.TheVariants.{Normal}
use Rattle.lp_stack.specs.declared.view.Mode.TheVariants.{Kernel}
use Rattle.lp_model.specs.declared.check.CheckKind.{CheckKind}
use Rattle.lp_model.specs.declared.check.CheckKind.TheVariants as kind
use Rattle.lp_model.specs.declared.check.ForkKind.{ForkKind}
use Rattle.lp_model.specs.declared.check.Blame.{Blame}
use Rattle.lp_model.specs.Rules.{Rules, IsLawful}
use Rattle.lp_patch.specs.Patches.{Aim}
use Rattle.lp_definitions.specs.declared.event.Event.{Event}
use Rattle.lp_definitions.specs.declared.event.Event.TheVariants.{Call, Ret, Sleep, Wake, Enter, Exit, Idle, Resched, Fork, Die, Walk, Stop, Enable, Disable, Reverse}
use Rattle.lp_definitions.specs.declared.refusal.Refusal.{Refusal}
use Rattle.lp_definitions.specs.declared.refusal.Refusal.TheVariants.{TaskRange, TaskUsed}
use Rattle.lp_definitions.specs.Events.{is_control}
use Rattle.lp_transition.specs.LastScan.{AreSameMembers}
use Rattle.lp_definitions.specs.Tasks.{Fate, Unused, Live, Dead, on_live, map_live, is_unused, unknown_task, out_of_range, used, not_of, not_in, first_of}
use Rattle.lp_definitions.specs.Leg.{LegTask, State, Leg}
use Rattle.lp_definitions.specs.Run.{and_then, opened, opens, next_leg}
use Rattle.lp_transition.specs.Scan.{is_scan_kind, scan_event}
use Rattle.lp_definitions.specs.Sound.{IsSound}
use Rattle.lp_machine.specs.Machine.{outline_of, outlines_of, view_of, refusal_of, with_switches, next, state_of}
use Rattle.lp_machine.proofs.EngineLemmas.{next-accepted}
use Rattle.lp_laws.proofs.NextTasks.{none_first, unfit}
use Rattle.lp_machine_laws.proofs.States.{state_sound}
use Rattle.lp_laws.proofs.OneMore.{plain_refusal}
use Rattle.lp_machine_laws.proofs.Steps.{refusal_is, does}
use Rattle.lp_transition.specs.Blames.{has_frame_in, first_blamed_in}
use Rattle.lp_definitions.specs.declared.line.Line.{Line}
use Rattle.lp_definitions.specs.declared.line.Line.TheVariants as line
use Rattle.lp_definitions.specs.Certificates.{lines, birth_line}
use Rattle.lp_cert.specs.Unchanged.{IsUnchanged, AreUnchanged}
use Rattle.lp_cert.proofs.HoldNames.{NamesMember, lines_name}
use Rattle.lp_cert.specs.EventLines.{is_resched}
use Rattle.lp_cert.proofs.UnchangedChecks.{GoesOnStill, goes_on_still}
use Rattle.lp_cert.proofs.NextLines.{lines_at_fork, lines_at_unused_scan}
use Rattle.lp_cert.proofs.OtherEvents.{lines_at_others, lines_at_refused}

-- ---- Members that stand as they stood

-- what is asked of the members of a group alone is the same of two fates, if whichever is a live member's is the other too
fate_as : (g : ℕ) (f : LegTask → Option Blame) (a b : Fate LegTask) → ((x : LegTask) → x.group ≡ g → (a ≡ Live x) ↔ (b ≡ Live x))
    → on_live None (λ x. if nat_eq x.group g then f x else None) a ≡ on_live None (λ x. if nat_eq x.group g then f x else None) b
fate_as g f a b same = by a refl
  where
    asked : Fate LegTask → Option Blame
    asked fate = on_live None (λ x. if nat_eq x.group g then f x else None) fate

    -- of a fate that is no live member's nothing is asked
    nothing : (fate : Fate LegTask) → ((y : LegTask) → fate ≡ Live y → y.group ≡ g → ⊥) → asked fate ≡ None
    nothing Unused never = refl
    nothing Dead never = refl
    nothing (Live y) never = cond-false (nat_eq y.group g) (f y) None (ne_eqb y.group g (λ mine. never y refl mine))

    live_live : (x y : LegTask) → Live x ≡ Live y → x ≡ y
    live_live x y e = cc

    unused_live : (y : LegTask) → Unused ≡ Live y → ⊥
    unused_live y e = absurd (cc)

    dead_live : (y : LegTask) → Dead ≡ Live y → ⊥
    dead_live y e = absurd (cc)

    by_group : (x : LegTask) → a ≡ Live x → (mine : Bool) → nat_eq x.group g ≡ mine → asked (Live x) ≡ asked b
    by_group x is true mine = ap asked (sym ((same x (eqb-true x.group g mine)).0 is))
    by_group x is false mine =
        cond-false (nat_eq x.group g) (f x) None mine
        ∙ sym (nothing b (λ y there its. eqb-false x.group g mine (ap (λ z. z.group) (live_live x y (sym is ∙ (same y its).1 there)) ∙ its)))

    by : (fate : Fate LegTask) → a ≡ fate → asked a ≡ asked b
    by Unused is = ap asked is ∙ sym (nothing b (λ y there its. unused_live y (sym is ∙ (same y its).1 there)))
    by Dead is = ap asked is ∙ sym (nothing b (λ y there its. dead_live y (sym is ∙ (same y its).1 there)))
    by (Live x) is = ap asked is ∙ by_group x is (nat_eq x.group g) refl

module _ (model : Rules) (s after : State) (bounds : after.bounds.tasks ≡ s.bounds.tasks) (aim : after.aim ≡ s.aim) (on : CheckKind) (g : ℕ) (same : AreSameMembers s after g) where
  -- a scan refuses the same member first
  pub first_blamed_as : first_blamed_in model after on g ≡ first_blamed_in model s on g
  first_blamed_as =
      ap₂ (λ (n : ℕ) (aim : Aim). first_of (map (λ t. option_map (λ why. (t, why)) (on_live None (λ (x : LegTask). if nat_eq x.group g then model.blame on (view_of t x) aim else None) (after.tasks t))) (range_with_len 1 n))) bounds aim
      ∙ ap {A = ℕ → Option Blame} (λ at. first_of (map (λ t. option_map (λ why. (t, why)) (at t)) (range_with_len 1 s.bounds.tasks)))
      (fun_ext (λ t. sym (fate_as g (λ x. model.blame on (view_of t x) s.aim) (s.tasks t) (after.tasks t) (same t))))

  -- a frame of a member is still on its stack
  frame_as : (t serial : ℕ) → ((x : LegTask) → s.tasks t ≡ Live x → x.group ≡ g) → has_frame_in s t serial ≡ true → has_frame_in after t serial ≡ true
  frame_as t serial named there = by (s.tasks t) refl
    where
      holds : Fate LegTask → Bool
      holds fate = on_live false (λ x. list_any (λ frame. nat_eq frame.serial serial) x.frames) fate

      by : (fate : Fate LegTask) → s.tasks t ≡ fate → has_frame_in after t serial ≡ true
      by Unused is = absurd (false≢true (sym (ap holds is) ∙ there))
      by Dead is = absurd (false≢true (sym (ap holds is) ∙ there))
      by (Live x) is = ap holds ((same t x (named x is)).0 is) ∙ (sym (ap holds is) ∙ there)

  -- so the group is unchanged still
  pub unchanged_as : (ls : List Line) → NamesMember s g ls → IsUnchanged model on s g ls → IsUnchanged model on after g ls
  unchanged_as [] named h = h
  unchanged_as (line.Hold h2 task serial from to ∷ older) named h = frame_as task.0 serial named h
  unchanged_as (line.Busy h2 task at ∷ older) named h = first_blamed_as ∙ h
  unchanged_as (line.Born h2 p at ∷ older) named h = h

-- ---- The lines of who is unchanged

module _ (model : Rules) (s : State) where
  unused_is : (f : Fate LegTask) → not (is_unused (map_live outline_of f)) ≡ false → f ≡ Unused
  unused_is Unused e = refl
  unused_is (Live x) e = absurd (cc)
  unused_is Dead e = absurd (cc)

  -- a child's number is new, not 0, and in range
  pub fork_new : (p c : TaskId) (how : ForkKind) → refusal_of model s (Fork p c how) ≡ None → (c.0 ≢ 0) × (s.tasks c.0 ≡ Unused) × (nat_lt s.bounds.tasks c.0 ≡ false)
  unfolding refusal_of
  fork_new p c how ok =
      let seen = outlines_of s.tasks in
      let last = not_of Normal seen p.0 ∷ not_in Kernel seen p.0 ∷ [] in
      let a = none_first (unknown_task seen p.0) (out_of_range s.bounds c.0 ∷ used seen c.0 ∷ last) ok in
      let b = none_first (out_of_range s.bounds c.0) (used seen c.0 ∷ last) a.1 in
      let d = none_first (used seen c.0) last b.1 in
      let range = or_parts (nat_eq c.0 0) (nat_lt s.bounds.tasks c.0) (unfit (nat_eq c.0 0 || nat_lt s.bounds.tasks c.0) TaskRange b.0) in
      (eqb-false c.0 0 range.0, unused_is (s.tasks c.0) (unfit (not (is_unused (seen c.0))) TaskUsed d.0), range.1)

  -- nobody is in the group of a child that isn't born yet
  pub not_the_childs : IsSound s → (t : ℕ) (x : LegTask) → s.tasks t ≡ Live x → (p c : TaskId) (how : ForkKind) → refusal_of model s (Fork p c how) ≡ None → x.group ≢ c.0
  not_the_childs sound t x live p c how ok same =
      let new = fork_new p c how ok in
      ⊎_elim
      (λ (zero : x.group ≡ 0). new.0 (sym same ∙ zero))
      (λ (taken : s.tasks x.group ≢ Unused). taken (ap s.tasks same ∙ new.1))
      (sound.grouped t x live)

-- it is no scan of a kind that the model uses
abbrev pub IsNoUsedScan : Rules → Event → Type 0
IsNoUsedScan model event = (kind : CheckKind) → is_scan_kind kind ≡ true → event ≡ scan_event kind → IsFalse (model.uses kind)

module _ (model : Rules) (lawful : IsLawful model) (leg : Leg) (leg_sound : IsSound leg.opening) where
  abbrev s : State
  s = state_of model leg

  abbrev n : ℕ
  n = length leg.events

  fork_lines_same : (p c : TaskId) (how : ForkKind) (t : ℕ) (x : LegTask) → s.tasks t ≡ Live x → (why : Option Refusal) → refusal_of model s (Fork p c how) ≡ why → lines model (and_then leg (Fork p c how)) (suc n) x.group ≡ lines model leg n x.group
  fork_lines_same p c how t x live None ok =
      let other = not_the_childs model s (state_sound model lawful leg leg_sound) t x live p c how ok in
      let parents = on_live 0 (λ (y : LegTask). y.group) (s.tasks p.0) in
      lines_at_fork model leg p c how x.group (sym (refusal_is model leg (Fork p c how)) ∙ ok)
      ∙ cond-false (nat_eq x.group c.0 && nat_eq x.group (model.child_group parents c.0 how)) (birth_line x.group p (suc s.number) ∷ lines model leg n parents) (lines model leg n x.group)
      (ap (λ b. b && nat_eq x.group (model.child_group parents c.0 how)) (ne_eqb x.group c.0 other))
  fork_lines_same p c how t x live (Some why) turned_down =
      lines_at_refused model lawful leg leg_sound (Fork p c how) x.group why
      (sym (plain_refusal model leg (Fork p c how) refl) ∙ (sym (refusal_is model leg (Fork p c how)) ∙ turned_down))

  pub lines_same : (event : Event) → IsNoUsedScan model event → is_resched event ≡ false → (t : ℕ) (x : LegTask) → s.tasks t ≡ Live x → lines model (and_then leg event) (suc n) x.group ≡ lines model leg n x.group
  lines_same Walk quiet own t x live = lines_at_unused_scan model leg kind.Walk x.group refl (quiet kind.Walk refl refl)
  lines_same Stop quiet own t x live = lines_at_unused_scan model leg kind.Stop x.group refl (quiet kind.Stop refl refl)
  lines_same (Fork p c how) quiet own t x live = fork_lines_same p c how t x live (refusal_of model s (Fork p c how)) refl
  lines_same (Call a f) quiet own t x live = lines_at_others model lawful leg leg_sound (Call a f) x.group refl refl refl
  lines_same (Ret a) quiet own t x live = lines_at_others model lawful leg leg_sound (Ret a) x.group refl refl refl
  lines_same (Sleep a) quiet own t x live = lines_at_others model lawful leg leg_sound (Sleep a) x.group refl refl refl
  lines_same (Wake a) quiet own t x live = lines_at_others model lawful leg leg_sound (Wake a) x.group refl refl refl
  lines_same (Enter a) quiet own t x live = lines_at_others model lawful leg leg_sound (Enter a) x.group refl refl refl
  lines_same (Exit a) quiet own t x live = lines_at_others model lawful leg leg_sound (Exit a) x.group refl refl refl
  lines_same (Idle a) quiet own t x live = lines_at_others model lawful leg leg_sound (Idle a) x.group refl refl refl
  lines_same (Resched a) quiet own t x live = absurd (cc)
  lines_same (Die a) quiet own t x live = lines_at_others model lawful leg leg_sound (Die a) x.group refl refl refl
  lines_same Enable quiet own t x live = lines_at_others model lawful leg leg_sound Enable x.group refl refl refl
  lines_same Disable quiet own t x live = lines_at_others model lawful leg leg_sound Disable x.group refl refl refl
  lines_same Reverse quiet own t x live = lines_at_others model lawful leg leg_sound Reverse x.group refl refl refl

  -- the newest line of a waiting group goes on after an event
  goes_on : (event : Event) → IsNoUsedScan model event → (on : CheckKind) (g : ℕ) → NamesMember s g (lines model leg n g) → IsUnchanged model on s g (lines model leg n g)
      → (t : ℕ) (x : LegTask) → x.group ≡ g → s.tasks t ≡ Live x → GoesOnStill model s on g (lines model (and_then leg event) (suc n) g)
  goes_on event quiet on g named h t x mine live = by event quiet (is_resched event) refl
    where
      same : (e : Event) → IsNoUsedScan model e → is_resched e ≡ false → GoesOnStill model s on g (lines model (and_then leg e) (suc n) g)
      same e quiet2 own =
          subst (λ k. GoesOnStill model s on k (lines model (and_then leg e) (suc n) k)) mine
          (subst (GoesOnStill model s on x.group) (sym (lines_same e quiet2 own t x live))
          (subst (λ k. GoesOnStill model s on k (lines model leg n k)) (sym mine) (record { names = named; unchanged = h })))

      by : (e : Event) → IsNoUsedScan model e → (b : Bool) → is_resched e ≡ b → GoesOnStill model s on g (lines model (and_then leg e) (suc n) g)
      by (Resched a) quiet2 b own = goes_on_still model lawful leg leg_sound on a g named h
      by e quiet2 false own = same e quiet2 own
      by e quiet2 true own = absurd (cc)

  -- ---- The event

  module _ (event : Event) (stays : opens model leg event ≡ false) where
    -- the state after an event that opens no leg
    pub next_is : next model s event ≡ state_of model (and_then leg event)
    unfolding next_leg
    next_is = (does model leg event lawful leg_sound).next_state ∙ ap (state_of model) (cond-false (opens model leg event) (opened model leg event) (and_then leg event) stays)

    pub no_control : refusal_of model s event ≡ None → is_control event ≡ false
    no_control ok =
        and_true (is_control event) (ap (λ r. is_control event && is_none r) (sym (sym (refusal_is model leg event) ∙ ok)) ∙ stays)
      where
        and_true : (b : Bool) → (b && true) ≡ false → b ≡ false
        and_true true e = e
        and_true false e = refl

    pub after_is : refusal_of model s event ≡ None → state_of model (and_then leg event) ≡ with_switches model s event
    after_is ok = sym next_is ∙ next-accepted model s event ok (no_control ok)

    -- who waits afterwards outside a set is unchanged, where it was so and where nothing happened to it
    pub unchanged_by : IsNoUsedScan model event → (on : CheckKind) (old new : ℕ → Bool) → AreUnchanged model s (lines model leg n) on old
        → ((t : ℕ) (x : LegTask) → (state_of model (and_then leg event)).tasks t ≡ Live x → nat_eq x.level (state_of model (and_then leg event)).target ≡ false → new x.group ≡ false
        → (old x.group ≡ false) × AreSameMembers s (state_of model (and_then leg event)) x.group)
        → AreUnchanged model (state_of model (and_then leg event)) (lines model (and_then leg event) (suc n)) on new
    unchanged_by quiet on old new before apart t x live off out =
        let told = apart t x live off out in
        let stood : s.tasks t ≡ Live x = (told.1 t x refl).1 live in
        let still = goes_on event quiet on x.group (lines_name model leg x.group) (before t x stood off told.0) t x refl stood in
        unchanged_as model s (state_of model (and_then leg event)) refl refl on x.group told.1 (lines model (and_then leg event) (suc n) x.group) still.names still.unchanged
