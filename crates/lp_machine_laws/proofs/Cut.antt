-- What one more event leaves of the tasks with their levels.
use Rattle.std.proofs.Common.{◌≡◌, ℕ, suc, pred, ◌+◌, ◌<◌, Bool, true, false, ◌&&◌, ◌++◌, ◌∷◌, [], length, take, map, Option, Some, None, if◌then◌else◌, nat_eq, refl, sym, ap, ◌∙◌, subst, ⊎_elim, arith}
use Rattle.std.specs.List.{take-map}
use Rattle.std.proofs.lemmas.Bool.{cases_Bool}
use Rattle.std.proofs.lemmas.List.{map-append, length-map}
use mathlib.Core.Path.{fun_ext}
use Rattle.lp_stack.specs.declared.view.Mode.{Mode}
use Rattle.lp_stack.specs.declared.view.Mode.TheVariants.{User, Kernel, Asleep}
use Rattle.lp_model.specs.declared.check.ForkKind.{ForkKind}
use Rattle.lp_model.specs.declared.check.CheckKind.{CheckKind}
use Rattle.lp_model.specs.Rules.{Rules, IsLawful}
use Rattle.lp_definitions.specs.declared.event.Event.{Event}
use Rattle.lp_definitions.specs.declared.event.Event.TheVariants.{Call, Ret, Sleep, Wake, Enter, Exit, Idle, Resched, Fork, Die, Walk, Stop, Enable, Disable, Reverse}
use Rattle.lp_definitions.specs.Tasks.{Forked, Made, Life, Fate, Unused, Live, Dead, Tasks, on_live, map_live, outline, Outlines, outlines, Bounds, refusal, in_mode, push, pop, Grouping, child, effect}
use Rattle.lp_definitions.specs.Leg.{LegTask, Leg, after, some_task, some_live, check_by, if_used}
use Rattle.lp_definitions.specs.Schedule.{Schedule, has_come, level, frame_of, leg_task, IsLegal}
use Rattle.lp_definitions.specs.Sound.{IsSound}
use Rattle.lp_machine.specs.Machine.{outline_of, outlines_of, put_in, calling, returning, bearing, own_effect}
use Rattle.lp_laws.proofs.NextTasks.{forks}
use Rattle.lp_laws.proofs.Waiting.{level_gone, level_still, still_before, fresh_still}
use Rattle.lp_symbols.specs.declared.sym_id.SymId.{SymId}

-- ---- Outlines

outline_same : (leg : Leg) (s : Schedule) (k : ℕ) (fate : Fate Life) → map_live outline_of (map_live (leg_task leg s k) fate) ≡ map_live outline fate
outline_same leg s k Unused = refl
outline_same leg s k (Live x) = ap (λ n. Live (record { class = x.class; mode = x.mode; group = x.group; depth = n })) (length-map x.calls (frame_of leg s x))
outline_same leg s k Dead = refl

pub outlines_same : (leg : Leg) (s : Schedule) (k : ℕ) (now : Tasks) → outlines_of (λ t. map_live (leg_task leg s k) (now t)) ≡ outlines now
outlines_same leg s k now = fun_ext (λ t. outline_same leg s k (now t))

-- ---- An event's own effect

module _ (leg : Leg) (s : Schedule) (k : ℕ) where
  abbrev stand : Life → LegTask
  stand x = leg_task leg s k x

  change_fate : (g : Life → Life) (h : LegTask → LegTask) → ((y : Life) → stand (g y) ≡ h (stand y)) → (b : Bool) (fate : Fate Life) → map_live stand (if b then map_live g fate else fate) ≡ (if b then map_live h (map_live stand fate) else map_live stand fate)
  change_fate g h same true Unused = refl
  change_fate g h same true (Live y) = ap Live (same y)
  change_fate g h same true Dead = refl
  change_fate g h same false fate = refl

  die_fate : (b : Bool) (fate : Fate Life) → map_live stand (if b then Dead else fate) ≡ (if b then Dead else map_live stand fate)
  die_fate true fate = refl
  die_fate false fate = refl

  called : (number : ℕ) (func : SymId) → number ≡ leg.number + suc k → (y : Life) → stand (push (Made func k) y) ≡ calling number func (stand y)
  called number func e y =
      ap (λ frames. record { class = y.class; mode = y.mode; group = y.group; level = level leg s k y; frames = frames })
      (map-append (frame_of leg s y) y.calls (Made func k ∷ []) ∙ ap (λ n. map (frame_of leg s y) y.calls ++ (record { func = func; level = record { 0 = level leg s k y }; serial = n }) ∷ []) (sym e))

  returned : (y : Life) → stand (pop y) ≡ returning (stand y)
  returned y =
      ap (λ frames. record { class = y.class; mode = y.mode; group = y.group; level = level leg s k y; frames = frames })
      (sym (take-map (frame_of leg s y) (pred (length y.calls)) y.calls) ∙ ap (λ n. take (pred n) (map (frame_of leg s y) y.calls)) (sym (length-map y.calls (frame_of leg s y))))

  fork_fate : (grouping : Grouping) (c : ℕ) (how : ForkKind) (parent : Fate Life) → ((y : Life) → parent ≡ Live y → stand (child grouping k c how y) ≡ bearing grouping c how (stand y)) → (b : Bool) (fate : Fate Life) → map_live stand (if b then map_live (child grouping k c how) parent else fate) ≡ (if b then map_live (bearing grouping c how) (map_live stand parent) else map_live stand fate)
  fork_fate grouping c how Unused same true fate = refl
  fork_fate grouping c how (Live y) same true fate = ap Live (same y refl)
  fork_fate grouping c how Dead same true fate = refl
  fork_fate grouping c how parent same false fate = refl

module _ (model : Rules) (leg : Leg) (lawful : IsLawful model) (sound : IsSound leg.opening) (s : Schedule) (is_legal : IsLegal model leg s) (k : ℕ) where
  -- a child is on its parent's level
  born_level : (c : ℕ) (how : ForkKind) (y : Life) → after model leg k c ≡ Unused → 0 < c → level leg s k (child model.child_group k c how y) ≡ level leg s k y
  born_level c how y unused positive =
      let g = model.child_group y.group c how in
      ⊎_elim
      (λ (gone : has_come (s g) k ≡ true).
      level_gone leg.target s k g (Forked y.group y.origin k) gone ∙ sym (⊎_elim
      (λ (e : g ≡ y.group). level_gone leg.target s k y.group y.origin (subst (λ h. has_come (s h) k ≡ true) e gone))
      (λ (e : g ≡ c).
      let still = still_before (s c) k (suc k) (omega arith) (fresh_still model leg lawful sound s is_legal k c unused positive (s c) refl) in
      let gone_too = subst (λ h. has_come (s h) k ≡ true) e gone in
      absurd (cc))
      (lawful.child y.group c how)))
      (λ (still : has_come (s g) k ≡ false). level_still leg.target s k g (Forked y.group y.origin k) still)
      (cases_Bool (has_come (s g) k))

  born_same : (c : ℕ) (how : ForkKind) (y : Life) → after model leg k c ≡ Unused → 0 < c → leg_task leg s k (child model.child_group k c how y) ≡ bearing model.child_group c how (leg_task leg s k y)
  born_same c how y unused positive =
      ap (λ l. bearing model.child_group c how (record { class = y.class; mode = y.mode; group = y.group; level = l; frames = map (frame_of leg s y) y.calls })) (born_level c how y unused positive)

  -- an accepted event's own effect is the same on tasks with levels
  pub effect_same : (number : ℕ) → number ≡ leg.number + suc k → (event : Event) → refusal leg.bounds (after model leg k) event ≡ None → (t : ℕ) → map_live (leg_task leg s k) (effect model.child_group k event (after model leg k) t) ≡ own_effect model.child_group number event (λ u. map_live (leg_task leg s k) (after model leg k u)) t
  unfolding effect
  effect_same number e (Call a f) ok t = change_fate leg s k (push (Made f k)) (calling number f) (called leg s k number f e) (nat_eq t a.0) (after model leg k t)
  effect_same number e (Ret a) ok t = change_fate leg s k pop returning (returned leg s k) (nat_eq t a.0) (after model leg k t)
  effect_same number e (Sleep a) ok t = change_fate leg s k (in_mode Asleep) (put_in Asleep) (λ y. refl) (nat_eq t a.0) (after model leg k t)
  effect_same number e (Wake a) ok t = change_fate leg s k (in_mode Kernel) (put_in Kernel) (λ y. refl) (nat_eq t a.0) (after model leg k t)
  effect_same number e (Enter a) ok t = change_fate leg s k (in_mode Kernel) (put_in Kernel) (λ y. refl) (nat_eq t a.0) (after model leg k t)
  effect_same number e (Exit a) ok t = change_fate leg s k (in_mode User) (put_in User) (λ y. refl) (nat_eq t a.0) (after model leg k t)
  effect_same number e (Idle a) ok t = refl
  effect_same number e (Resched a) ok t = refl
  effect_same number e (Fork p c how) ok t =
      let is = forks leg.bounds (after model leg k) p.0 c.0 how ok in
      fork_fate leg s k model.child_group c.0 how (after model leg k p.0) (λ y live. born_same c.0 how y is.unused is.positive) (nat_eq t c.0) (after model leg k t)
  effect_same number e (Die a) ok t = die_fate leg s k (nat_eq t a.0) (after model leg k t)
  effect_same number e Walk ok t = refl
  effect_same number e Stop ok t = refl
  effect_same number e Enable ok t = refl
  effect_same number e Disable ok t = refl
  effect_same number e Reverse ok t = refl

-- ---- A check changes no group and no level

and_none : (x y a : Bool) → a ≡ false → (x && a) ≡ (y && a)
and_none true true a e = refl
and_none true false a e = e
and_none false true a e = sym e
and_none false false a e = refl

module _ (grouping : Grouping) (k : ℕ) (bounds : Bounds) (now : Tasks) (test : ℕ → Life → Bool) (same : (t : ℕ) (mode : Mode) (x : Life) → test t (in_mode mode x) ≡ test t x) where
  mode_fate : (mode : Mode) (t : ℕ) (b : Bool) (fate : Fate Life) → on_live false (test t) (if b then map_live (in_mode mode) fate else fate) ≡ on_live false (test t) fate
  mode_fate mode t true Unused = refl
  mode_fate mode t true (Live x) = same t mode x
  mode_fate mode t true Dead = refl
  mode_fate mode t false fate = refl

  -- who passes such a test before a check passes it after its own effect
  pub checked_same : (rule : Option CheckKind → Bool) → rule None ≡ false → (uses : CheckKind → Bool) (seen : Outlines) (group : ℕ) (event : Event) → (some_live bounds (effect grouping k event now) test && rule (if_used uses (check_by bounds seen (Some event) group))) ≡ (some_live bounds now test && rule (if_used uses (check_by bounds seen (Some event) group)))
  unfolding effect some_live
  checked_same rule none uses seen group (Exit a) =
      ap (λ w. w && rule (if_used uses (check_by bounds seen (Some (Exit a)) group))) (ap (some_task bounds.tasks) (fun_ext (λ t. mode_fate User t (nat_eq t a.0) (now t))))
  checked_same rule none uses seen group (Idle a) = refl
  checked_same rule none uses seen group (Resched a) = refl
  checked_same rule none uses seen group Walk = refl
  checked_same rule none uses seen group Stop = refl
  checked_same rule none uses seen group _ = and_none _ _ _ none
