-- What an event leaves of the tasks of a state: whom it finds waiting waited before, but for a child; and a frame that is there and isn't
-- new was there before.
use Rattle.std.proofs.Common.{◌≡◌, ◌≤◌, ℕ, zero, suc, Bool, true, false, ◌||◌, List, [], ◌∷◌, ◌++◌, length, pred, take, nat_eq, refl, sym, ap, ◌∙◌, ⊎_elim, arith}
use Rattle.std.specs.List.{list_any}
use Rattle.std.proofs.lemmas.Bool.{false≢true, cond-true, cond-false, cases_Bool, eqb-true, or_cases}
use Rattle.std.proofs.lemmas.List.Folds.{list_any-append}
use Rattle.lp_stack.specs.declared.frame.Frame.{Frame}
use Rattle.lp_definitions.specs.declared.event.Event.{Event}
use Rattle.lp_definitions.specs.declared.event.Event.TheVariants.{Call, Ret, Sleep, Wake, Enter, Exit, Idle, Resched, Fork, Die, Walk, Stop, Enable, Disable, Reverse}
use Rattle.lp_definitions.specs.Tasks.{Fate, Unused, Live, Dead, Grouping, on_live, map_live, change}
use Rattle.lp_definitions.specs.Leg.{LegTask}
use Rattle.lp_stack.specs.declared.view.Mode.TheVariants.{User, Kernel, Asleep}
use Rattle.lp_machine.specs.Machine.{LegTasks, put_in, calling, returning, bearing, own_effect}
use Rattle.lp_transition.proofs.Unchanged.{live_from}
use Rattle.lp_cert.specs.EventLines.{is_fork}

-- ---- Members

-- a live task in the group and on the level of another
pub record IsFrom (now : LegTasks) (x : LegTask) : Type 0 where
  pub task : ℕ
  pub life : LegTask
  pub live : now task ≡ Live life
  pub group : life.group ≡ x.group
  pub level : life.level ≡ x.level

module _ (grouping : Grouping) (number : ℕ) (now : LegTasks) (t : ℕ) (x : LegTask) where
  self_from : now t ≡ Live x → IsFrom now x
  self_from live = record { task = t; life = x; live = live; group = refl; level = refl }

  change_from : (a : ℕ) (f : LegTask → LegTask) → ((y : LegTask) → (f y).group ≡ y.group) → ((y : LegTask) → (f y).level ≡ y.level) → change a f now t ≡ Live x → IsFrom now x
  change_from a f groups levels live =
      ⊎_elim
      (λ (this : nat_eq t a ≡ true).
      let w = live_from f (now t) x (sym (cond-true (nat_eq t a) (map_live f (now t)) (now t) this) ∙ live) in
      record { task = t; life = w.0; live = w.1; group = sym (groups w.0) ∙ ap (λ (y : LegTask). y.group) w.2; level = sym (levels w.0) ∙ ap (λ (y : LegTask). y.level) w.2 })
      (λ (other : nat_eq t a ≡ false). self_from (sym (cond-false (nat_eq t a) (map_live f (now t)) (now t) other) ∙ live))
      (cases_Bool (nat_eq t a))

  pub own_from : (event : Event) → is_fork event ≡ false → own_effect grouping number event now t ≡ Live x → IsFrom now x
  own_from (Call a f) plain live = change_from a.0 (calling number f) (λ y. refl) (λ y. refl) live
  own_from (Ret a) plain live = change_from a.0 returning (λ y. refl) (λ y. refl) live
  own_from (Sleep a) plain live = change_from a.0 (put_in Asleep) (λ y. refl) (λ y. refl) live
  own_from (Wake a) plain live = change_from a.0 (put_in Kernel) (λ y. refl) (λ y. refl) live
  own_from (Enter a) plain live = change_from a.0 (put_in Kernel) (λ y. refl) (λ y. refl) live
  own_from (Exit a) plain live = change_from a.0 (put_in User) (λ y. refl) (λ y. refl) live
  own_from (Idle a) plain live = self_from live
  own_from (Resched a) plain live = self_from live
  own_from (Fork p c how) plain live = absurd (false≢true (sym plain))
  own_from (Die a) plain live =
      ⊎_elim
      (λ (this : nat_eq t a.0 ≡ true). let dead : Dead ≡ Live x = sym (cond-true (nat_eq t a.0) Dead (now t) this) ∙ live in absurd (cc))
      (λ (other : nat_eq t a.0 ≡ false). self_from (sym (cond-false (nat_eq t a.0) Dead (now t) other) ∙ live))
      (cases_Bool (nat_eq t a.0))
  own_from Walk plain live = self_from live
  own_from Stop plain live = self_from live
  own_from Enable plain live = self_from live
  own_from Disable plain live = self_from live
  own_from Reverse plain live = self_from live

-- ---- Frames

-- a frame with this serial is on the task's stack
abbrev pub has_serial : (serial : ℕ) → Fate LegTask → Bool
has_serial serial fate = on_live false (λ (x : LegTask). list_any (λ frame. nat_eq frame.serial serial) x.frames) fate

any_take : {A : Type 0} (p : A → Bool) (n : ℕ) (xs : List A) → list_any p (take n xs) ≡ true → list_any p xs ≡ true
any_take p zero xs h = absurd (false≢true h)
any_take p (suc n) [] h = absurd (false≢true h)
any_take p (suc n) (x ∷ xs) h = by (any_take p n xs) (p x) refl
  where
    by : (list_any p (take n xs) ≡ true → list_any p xs ≡ true) → (b : Bool) → p x ≡ b → (p x || list_any p xs) ≡ true
    by more true is = ap (λ b. b || list_any p xs) is
    by more false is = ap (λ b. b || list_any p xs) is ∙ more (sym (ap (λ b. b || list_any p (take n xs)) is) ∙ h)

module _ (grouping : Grouping) (number : ℕ) (now : LegTasks) (serial : ℕ) (old : serial ≤ number) (t : ℕ) where
  change_before : (a : ℕ) (f : LegTask → LegTask) → ((y : LegTask) → has_serial serial (Live (f y)) ≡ true → has_serial serial (Live y) ≡ true) → has_serial serial (change a f now t) ≡ true → has_serial serial (now t) ≡ true
  change_before a f fewer there =
      ⊎_elim
      (λ (this : nat_eq t a ≡ true). by (now t) refl (sym (ap (has_serial serial) (cond-true (nat_eq t a) (map_live f (now t)) (now t) this)) ∙ there))
      (λ (other : nat_eq t a ≡ false). sym (ap (has_serial serial) (cond-false (nat_eq t a) (map_live f (now t)) (now t) other)) ∙ there)
      (cases_Bool (nat_eq t a))
    where
      by : (fate : Fate LegTask) → now t ≡ fate → has_serial serial (map_live f (now t)) ≡ true → has_serial serial (now t) ≡ true
      by Unused is h = absurd (false≢true (sym (ap (λ w. has_serial serial (map_live f w)) is) ∙ h))
      by Dead is h = absurd (false≢true (sym (ap (λ w. has_serial serial (map_live f w)) is) ∙ h))
      by (Live y) is h = ap (has_serial serial) is ∙ fewer y (sym (ap (λ w. has_serial serial (map_live f w)) is) ∙ h)

  -- the frame of a call is new
  pushed_before : (frames : List Frame) (frame : Frame) → frame.serial ≡ suc number → list_any (λ (f : Frame). nat_eq f.serial serial) (frames ++ frame ∷ []) ≡ true → list_any (λ (f : Frame). nat_eq f.serial serial) frames ≡ true
  pushed_before frames frame is h =
      ⊎_elim
      (λ (before : list_any (λ (f : Frame). nat_eq f.serial serial) frames ≡ true). before)
      (λ (last : (nat_eq frame.serial serial || false) ≡ true).
      ⊎_elim
      (λ (same : nat_eq frame.serial serial ≡ true). let equal = eqb-true frame.serial serial same in absurd (omega (arith, equal, is, old)))
      (λ (none : false ≡ true). absurd (false≢true none))
      (or_cases (nat_eq frame.serial serial) false last))
      (or_cases (list_any (λ (f : Frame). nat_eq f.serial serial) frames) (nat_eq frame.serial serial || false) (sym (list_any-append (λ (f : Frame). nat_eq f.serial serial) frames (frame ∷ [])) ∙ h))

  -- a frame that isn't new was there before the event's own effect
  pub frame_before : (event : Event) → has_serial serial (own_effect grouping (suc number) event now t) ≡ true → has_serial serial (now t) ≡ true
  frame_before (Call a f) h = change_before a.0 (calling (suc number) f) (λ y. pushed_before y.frames _ refl) h
  frame_before (Ret a) h = change_before a.0 returning (λ y. any_take (λ (f : Frame). nat_eq f.serial serial) (pred (length y.frames)) y.frames) h
  frame_before (Sleep a) h = change_before a.0 (put_in Asleep) (λ y there. there) h
  frame_before (Wake a) h = change_before a.0 (put_in Kernel) (λ y there. there) h
  frame_before (Enter a) h = change_before a.0 (put_in Kernel) (λ y there. there) h
  frame_before (Exit a) h = change_before a.0 (put_in User) (λ y there. there) h
  frame_before (Idle a) h = h
  frame_before (Resched a) h = h
  frame_before (Fork p c how) h =
      ⊎_elim
      (λ (this : nat_eq t c.0 ≡ true). absurd (childless (now p.0) (sym (ap (has_serial serial) (cond-true (nat_eq t c.0) (map_live (bearing grouping c.0 how) (now p.0)) (now t) this)) ∙ h)))
      (λ (other : nat_eq t c.0 ≡ false). sym (ap (has_serial serial) (cond-false (nat_eq t c.0) (map_live (bearing grouping c.0 how) (now p.0)) (now t) other)) ∙ h)
      (cases_Bool (nat_eq t c.0))
    where
      childless : (fate : Fate LegTask) → has_serial serial (map_live (bearing grouping c.0 how) fate) ≡ true → ⊥
      childless Unused e = false≢true e
      childless Dead e = false≢true e
      childless (Live y) e = false≢true e
  frame_before (Die a) h =
      ⊎_elim
      (λ (this : nat_eq t a.0 ≡ true). absurd (false≢true (sym (ap (has_serial serial) (cond-true (nat_eq t a.0) Dead (now t) this)) ∙ h)))
      (λ (other : nat_eq t a.0 ≡ false). sym (ap (has_serial serial) (cond-false (nat_eq t a.0) Dead (now t) other)) ∙ h)
      (cases_Bool (nat_eq t a.0))
  frame_before Walk h = h
  frame_before Stop h = h
  frame_before Enable h = h
  frame_before Disable h = h
  frame_before Reverse h = h
