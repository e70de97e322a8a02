-- The machine does what the definitions say.
use Rattle.std.proofs.Common.{◌≡◌, ℕ, zero, suc, pred, ◌+◌, Bool, true, false, not, ◌&&◌, ◌||◌, List, [], ◌∷◌, ◌++◌, length, filter, map, Option, Some, None, is_none, if◌then◌else◌, nat_eq, refl, sym, ap, ap₂, ◌∙◌, subst, ⊎_elim, arith, length-append}
use Rattle.std.specs.List.{range_with_len}
use Rattle.std.proofs.lemmas.Bool.{cases_Bool, eq-eqb, ne_eqb, false_from_ne_true, cond-true, cond-false}
use Rattle.std.proofs.Math.Bool.{and-false, and-not_self}
use mathlib.Core.Path.{fun_ext}
use Rattle.lp_model.specs.declared.check.CheckKind.{CheckKind}
use Rattle.lp_model.specs.Rules.{Rules, IsLawful}
use Rattle.lp_definitions.specs.declared.event.Event.{Event}
use Rattle.lp_definitions.specs.declared.event.Event.TheVariants.{Call, Enable, Disable, Reverse}
use Rattle.lp_definitions.specs.declared.refusal.Refusal.{Refusal}
use Rattle.lp_definitions.specs.Tasks.{Origin, Stood, Forked, Life, Fate, Unused, Live, Dead, Tasks, map_live, Outlines, outlines, first_of, tests, Bounds, refusal, effect}
use Rattle.lp_definitions.specs.Leg.{LegTask, State, Leg, begin, unless_refused, accept, take_effect, tasks_after, after, some_live, check_by, if_used, check}
use Rattle.lp_definitions.specs.Schedule.{Schedule, has_come, level_by, level, frame_of, leg_task, waits, admits_each, allowed, complete, first_checks, first_check}
use Rattle.lp_definitions.specs.Sound.{IsSound}
use Rattle.lp_definitions.specs.declared.reply.What.TheVariants.{Done, Refused}
use Rattle.lp_definitions.specs.Run.{and_then, is_at, switched_at, switched, control_tests, new_target, is_complete_now, refused_by, shown, opened, opens, next_leg, done, reply, unless_why}
use Rattle.lp_machine.specs.Machine.{LegTasks, view_of, own_effect, complete_in, admits_all, switches_at, switched_groups, switched_task, refusal_of, counted, affected, with_switches, turned, next_by, next, told, answer_by, answer, state_of}
use Rattle.lp_definitions.proofs.Quantifiers.{some_live-map, each_live-map}
use Rattle.lp_laws.proofs.NextTasks.{IsFrom, from_later, come_from, made_before}
use Rattle.lp_laws.proofs.Waiting.{level_before, level_gone, level_still, come_later, comes_now, come_at}
use Rattle.lp_laws.proofs.First.{Agree, agree_back, level_agrees, view_agrees, so_far, switches, switches_now, switches_not, agree_next, has_switched, first_check_is}
use Rattle.lp_laws.proofs.Prefix.{waits_same, first_checks_same}
use Rattle.lp_laws.proofs.OneVersion.{frames_kept}
use Rattle.lp_laws.proofs.OneMore.{after_is, check_is, plain_refusal}
use Rattle.lp_machine_laws.proofs.Cut.{outlines_same, effect_same, checked_same}
use Rattle.lp_definitions.specs.Events.{is_control}

-- ---- One more event of the first-check schedule

-- a task that switches, or doesn't
abbrev lifted : ℕ → Bool → LegTask → LegTask
lifted target b x = if b then record x { level = target } else x

module _ (model : Rules) (leg : Leg) (n : ℕ) where
  before_agrees : (s r : Schedule) → Agree n s r → (o : Origin) → IsFrom (suc n) o → level_before leg.target s o ≡ level_before leg.target r o
  before_agrees s r h (Stood l) from = refl
  before_agrees s r h (Forked g p i) from = level_agrees leg.target n i g s r h (omega (arith, from.0)) p (from_later i (suc n) (omega (arith, from.0)) p from.1)

  not_yet : (group : ℕ) → has_come (so_far model leg n group) n ≡ false → has_come (so_far model leg n group) (suc n) ≡ false
  not_yet group still =
      false_from_ne_true _ (λ come.
      let m = has_switched model leg n group (suc n) (comes_now (so_far model leg n group) n still come) in
      absurd (omega (arith, m.is, m.early)))

  level_next : (x : Life) → IsFrom (suc n) x.origin → level leg (so_far model leg (suc n)) (suc n) x ≡ (if switches model leg n x.group then leg.target else level leg (so_far model leg n) n x)
  level_next x from =
      let g = x.group in
      let s = so_far model leg n in
      let r = so_far model leg (suc n) in
      ⊎_elim
      (λ (now : switches model leg n g ≡ true).
      level_gone leg.target r (suc n) g x.origin (ap (λ m. has_come m (suc n)) (switches_now model leg n g now) ∙ come_at (suc n)) ∙ sym (cond-true _ _ _ now))
      (λ (stays : switches model leg n g ≡ false).
      let same = switches_not model leg n g stays in
      ⊎_elim
      (λ (gone : has_come (s g) n ≡ true).
      level_gone leg.target r (suc n) g x.origin (ap (λ m. has_come m (suc n)) same ∙ come_later (s g) n (suc n) (omega arith) gone) ∙ sym (level_gone leg.target s n g x.origin gone))
      (λ (still : has_come (s g) n ≡ false).
      level_still leg.target r (suc n) g x.origin (ap (λ m. has_come m (suc n)) same ∙ not_yet g still) ∙ (before_agrees r s (agree_back n s r (agree_next model leg n)) x.origin from ∙ sym (level_still leg.target s n g x.origin still)))
      (cases_Bool (has_come (s g) n)) ∙ sym (cond-false _ _ _ stays))
      (cases_Bool (switches model leg n g))

  frames_next : (t : ℕ) (x : Life) → after model leg (suc n) t ≡ Live x → map (frame_of leg (so_far model leg (suc n)) x) x.calls ≡ map (frame_of leg (so_far model leg n) x) x.calls
  frames_next t x live =
      let s = so_far model leg n in
      let r = so_far model leg (suc n) in
      ap (λ v. v.frames) (view_agrees leg n t r s x (agree_back n s r (agree_next model leg n)) (come_from model.child_group leg (suc n) t x live) (made_before model.child_group leg (suc n) t x live))

  lifted_is : (b : Bool) (x : LegTask) → record x { level = if b then leg.target else x.level } ≡ lifted leg.target b x
  lifted_is true x = refl
  lifted_is false x = refl

  leg_task_next : (t : ℕ) (x : Life) → after model leg (suc n) t ≡ Live x → leg_task leg (so_far model leg (suc n)) (suc n) x ≡ lifted leg.target (switches model leg n x.group) (leg_task leg (so_far model leg n) n x)
  leg_task_next t x live =
      ap₂ (λ l frames. record { class = x.class; mode = x.mode; group = x.group; level = l; frames = frames }) (level_next x (come_from model.child_group leg (suc n) t x live)) (frames_next t x live) ∙ lifted_is (switches model leg n x.group) (leg_task leg (so_far model leg n) n x)

  fate_next : (t : ℕ) (fate : Fate Life) → after model leg (suc n) t ≡ fate → map_live (leg_task leg (so_far model leg (suc n)) (suc n)) fate ≡ map_live (λ y. lifted leg.target (switches model leg n y.group) y) (map_live (leg_task leg (so_far model leg n) n) fate)
  fate_next t Unused e = refl
  fate_next t (Live x) e = ap Live (leg_task_next t x e)
  fate_next t Dead e = refl

  -- a group's moment is the present one if it switches now
  is_at_next : (group : ℕ) → is_at (suc n) (so_far model leg (suc n) group) ≡ switches model leg n group
  is_at_next group =
      ⊎_elim
      (λ (now : switches model leg n group ≡ true). ap (is_at (suc n)) (switches_now model leg n group now) ∙ (eq-eqb (suc n) (suc n) refl ∙ sym now))
      (λ (stays : switches model leg n group ≡ false). ap (is_at (suc n)) (switches_not model leg n group stays) ∙ (not_at (so_far model leg n group) refl ∙ sym stays))
      (cases_Bool (switches model leg n group))
    where
      not_at : (m : Option ℕ) → so_far model leg n group ≡ m → is_at (suc n) m ≡ false
      not_at None e = refl
      not_at (Some i) e = let m = has_switched model leg n group i e in ne_eqb i (suc n) (λ same. omega (arith, m.is, m.early))

  no_check_no_switch : (group : ℕ) → check model leg n group ≡ None → switches model leg n group ≡ false
  unfolding allowed
  no_check_no_switch group e =
      ap (λ o. waits model leg (so_far model leg n) n group && admits_each model leg (so_far model leg n) o (after model leg (suc n)) group) e ∙ and-false (waits model leg (so_far model leg n) n group)

-- ---- Small facts

filter_none : (test : ℕ → Bool) (xs : List ℕ) → ((n : ℕ) → test n ≡ false) → filter test xs ≡ []
filter_none test [] h = refl
filter_none test (x ∷ xs) h = cond-false _ _ _ (h x) ∙ filter_none test xs h

control_tests_same : (a b : State) (settled : Bool) (event : Event) → a.aim ≡ b.aim → control_tests a settled event ≡ control_tests b settled event
control_tests_same a b settled Enable e = ap (λ aim. control_tests (record a { aim = aim }) settled Enable) e
control_tests_same a b settled Disable e = ap (λ aim. control_tests (record a { aim = aim }) settled Disable) e
control_tests_same a b settled Reverse e = refl
control_tests_same a b settled _ e = refl

-- a control event does nothing to the tasks, and checks nobody
record IsQuiet (model : Rules) (k : ℕ) (now : Tasks) (seen : Outlines) (event : Option Event) (group : ℕ) (bounds : Bounds) : Type 0 where
  quiet : take_effect model.child_group k event now ≡ now
  unchecked : if_used model.uses (check_by bounds seen event group) ≡ None

control_quiet : (model : Rules) (k : ℕ) (now : Tasks) (seen : Outlines) (event : Event) (group : ℕ) (bounds : Bounds) → is_control event ≡ true → IsQuiet model k now seen (accept bounds now (Some event)) group bounds
unfolding refusal effect
control_quiet model k now seen Enable group bounds e = record { quiet = refl; unchecked = refl }
control_quiet model k now seen Disable group bounds e = record { quiet = refl; unchecked = refl }
control_quiet model k now seen Reverse group bounds e = record { quiet = refl; unchecked = refl }
control_quiet model k now seen _ group bounds e = absurd (cc)

-- a state is complete where the leg is that stands there
pub complete_is : (model : Rules) (leg : Leg) → complete_in (state_of model leg) ≡ is_complete_now model leg
unfolding is_complete_now shown complete
complete_is model leg =
    let k = length leg.events in
    each_live-map leg.bounds (leg_task leg (first_check model leg) k) (after model leg k) (λ t y. nat_eq y.level leg.target)

module _ (model : Rules) (leg : Leg) (event : Event) where
  abbrev k : ℕ
  k = length leg.events

  abbrev longer : Leg
  longer = and_then leg event

  abbrev now : Tasks
  now = after model leg k

  abbrev s : Schedule
  s = first_checks model leg k

  abbrev told_event : Option Event
  told_event = accept leg.bounds now (Some event)

  long : length longer.events ≡ suc k
  long = omega (arith, length-append leg.events (event ∷ []))

  switches_is : (group : ℕ) → switches model longer k group ≡ (waits model leg s k group && admits_each model longer s (check model longer k group) (after model longer (suc k)) group)
  unfolding allowed
  switches_is group =
      ap (λ r. waits model longer r k group && allowed model longer r k group) (first_checks_same model leg event k (omega arith)) ∙ ap (λ w. w && allowed model longer s k group) (waits_same model leg event s k group (omega arith))

  -- the tasks after the event's own effect, with the levels before it
  abbrev mid : LegTasks
  mid t = map_live (leg_task leg s k) (after model longer (suc k) t)

  shown_longer : shown model longer ≡ (λ t. map_live (λ y. lifted leg.target (switches model longer k y.group) y) (mid t))
  unfolding shown
  shown_longer =
      fun_ext (λ t.
      ap (λ n. map_live (leg_task longer (first_checks model longer n) n) (after model longer n t)) long ∙ (fate_next model longer k t (after model longer (suc k) t) refl ∙ ap (λ r. map_live (λ y. lifted leg.target (switches model longer k y.group) y) (map_live (leg_task longer r k) (after model longer (suc k) t))) (first_checks_same model leg event k (omega arith))))

  switched_is : switched_at longer (first_check model longer) (suc k) ≡ filter (switches model longer k) (range_with_len 0 (suc leg.bounds.tasks))
  switched_is =
      ap (λ test. filter test (range_with_len 0 (suc leg.bounds.tasks))) (fun_ext (λ group. ap (λ n. is_at (suc k) (first_checks model longer n group)) long ∙ is_at_next model longer k group))

  -- ---- Refused

  pub refusal_is : refusal_of model (state_of model leg) event ≡ refused_by model leg event
  unfolding refusal_of refused_by shown
  refusal_is =
      ap₂ (λ seen tests_of_control. first_of (tests leg.bounds seen event ++ tests_of_control)) (outlines_same leg s k now) (ap (λ b. control_tests (state_of model leg) b event) (complete_is model leg) ∙ control_tests_same (state_of model leg) leg.opening (is_complete_now model leg) event refl)

  -- ---- Nobody switches at a refused event and at a control event

  refused_quiet : (why : Refusal) (group : ℕ) → refused_by model leg event ≡ Some why → IsQuiet model k now (outlines (after model longer (suc k))) told_event group leg.bounds
  refused_quiet why group e =
      ⊎_elim
      (λ (control : is_control event ≡ true). control_quiet model k now (outlines (after model longer (suc k))) event group leg.bounds control)
      (λ (plain : is_control event ≡ false).
      let none : told_event ≡ None = ap (λ r. unless_refused r event) (sym (plain_refusal model leg event plain) ∙ e) in
      subst (λ o. IsQuiet model k now (outlines (after model longer (suc k))) o group leg.bounds) (sym none) (record { quiet = refl; unchecked = refl }))
      (cases_Bool (is_control event))

  module _ (quiet : (group : ℕ) → IsQuiet model k now (outlines (after model longer (suc k))) told_event group leg.bounds) where
    quiet_switches : (group : ℕ) → switches model longer k group ≡ false
    quiet_switches group = no_check_no_switch model longer k group (check_is model leg event group ∙ (quiet group).unchecked)

    quiet_switched : switched_at longer (first_check model longer) (suc k) ≡ []
    quiet_switched = switched_is ∙ filter_none (switches model longer k) (range_with_len 0 (suc leg.bounds.tasks)) quiet_switches

    map_same_live : (f : LegTask → LegTask) → ((y : LegTask) → f y ≡ y) → (fate : Fate LegTask) → map_live f fate ≡ fate
    map_same_live f same Unused = refl
    map_same_live f same (Live y) = ap Live (same y)
    map_same_live f same Dead = refl

    quiet_shown : shown model longer ≡ shown model leg
    unfolding shown
    quiet_shown =
        shown_longer ∙ fun_ext (λ t.
        map_same_live (λ y. lifted leg.target (switches model longer k y.group) y) (λ y. ap (λ b. lifted leg.target b y) (quiet_switches y.group)) (mid t) ∙ ap (λ ts. map_live (leg_task leg s k) (ts t)) (after_is model leg event ∙ (quiet zero).quiet))

    quiet_state : counted model (state_of model leg) ≡ state_of model longer
    quiet_state =
        ap₂ (λ n ts. record { number = n; bounds = leg.bounds; from = leg.from; aim = leg.aim; tasks = ts }) (omega (arith, long)) (sym quiet_shown)

  -- ---- An accepted event of a task, or a scan

  module _ (lawful : IsLawful model) (sound : IsSound leg.opening) (ok : refusal leg.bounds now event ≡ None) where
    told_ok : told_event ≡ Some event
    told_ok = ap (λ r. unless_refused r event) ok

    abbrev later : Tasks
    later = after model longer (suc k)

    after_ok : later ≡ effect model.child_group k event now
    after_ok = after_is model leg event ∙ ap (λ o. take_effect model.child_group k o now) told_ok

    abbrev with_tasks : LegTasks → State
    with_tasks ts = record { number = suc (leg.number + k); bounds = leg.bounds; from = leg.from; aim = leg.aim; tasks = ts }

    admits_same : (o : Option CheckKind) (group : ℕ) → admits_all model (with_tasks mid) o group ≡ admits_each model longer s o later group
    admits_same None group = refl
    admits_same (Some kind) group = each_live-map leg.bounds (leg_task leg s k) later (λ t y. not (nat_eq y.group group) || model.admits kind (view_of t y) leg.aim)

    abbrev it_waits : ℕ → ℕ → Life → Bool
    it_waits group t x = nat_eq x.group group && not (nat_eq (level leg s k x) leg.target)

    abbrev kind_of : Outlines → ℕ → Option CheckKind
    kind_of seen group = if_used model.uses (check_by leg.bounds seen (Some event) group)

    check_ok : (group : ℕ) → check model longer k group ≡ kind_of (outlines later) group
    check_ok group = check_is model leg event group ∙ ap (λ o. if_used model.uses (check_by leg.bounds (outlines later) o group)) told_ok

    switches_mid : (group : ℕ) → switches_at model (with_tasks mid) event group ≡ switches model longer k group
    unfolding switches_at waits
    switches_mid group =
        ap₂ (λ w seen. w && admits_all model (with_tasks mid) (kind_of seen group) group) (some_live-map leg.bounds (leg_task leg s k) later (λ t y. nat_eq y.group group && not (nat_eq y.level leg.target))) (outlines_same leg s k later) ∙ (ap (λ ts. some_live leg.bounds ts (it_waits group) && admits_all model (with_tasks mid) (kind_of (outlines later) group) group) after_ok ∙ (checked_same model.child_group k leg.bounds now (it_waits group) (λ t mode x. refl) (λ o. admits_all model (with_tasks mid) o group) refl model.uses (outlines later) group event ∙ (ap (λ b. some_live leg.bounds now (it_waits group) && b) (admits_same (kind_of (outlines later) group) group ∙ ap (λ o. admits_each model longer s o later group) (sym (check_ok group))) ∙ sym (switches_is group))))

    tasks_mid : own_effect model.child_group (suc (leg.number + k)) event (shown model leg) ≡ mid
    unfolding shown
    tasks_mid =
        fun_ext (λ t. sym (effect_same model leg lawful sound s (first_check_is model leg).legal k (suc (leg.number + k)) (omega arith) event ok t) ∙ ap (λ ts. map_live (leg_task leg s k) (ts t)) (sym after_ok))

    affected_is : affected model (state_of model leg) event ≡ with_tasks mid
    affected_is = ap with_tasks tasks_mid

    groups_is : switched_groups model (affected model (state_of model leg) event) event ≡ switched_at longer (first_check model longer) (suc k)
    unfolding switched_groups
    groups_is =
        ap (λ st. switched_groups model st event) affected_is ∙ (ap (λ test. filter test (range_with_len 0 (suc leg.bounds.tasks))) (fun_ext switches_mid) ∙ sym switched_is)

    switched_state : with_switches model (state_of model leg) event ≡ state_of model longer
    switched_state =
        ap {A = State} {B = State} (λ st. record st { tasks = λ t. map_live (switched_task model st event) (st.tasks t) }) affected_is ∙ ap₂ (λ n ts. record { number = n; bounds = leg.bounds; from = leg.from; aim = leg.aim; tasks = ts }) (omega (arith, long)) (ap {B = LegTasks} (λ (g : ℕ → Bool). λ t. map_live (λ y. lifted leg.target (g y.group) y) (mid t)) (fun_ext switches_mid) ∙ sym shown_longer)

-- ---- A leg that opens

module _ (model : Rules) where
  open_fate : (o : State) (fate : Fate LegTask) → map_live (leg_task (record { opening = o; events = [] }) (λ group. None) zero) (map_live begin fate) ≡ fate
  unfolding level_by
  open_fate o Unused = refl
  open_fate o (Live y) =
      ap (λ frames. Live (record { class = y.class; mode = y.mode; group = y.group; level = y.level; frames = frames })) (frames_kept (record { opening = o; events = [] }) y.frames (λ group. None) (begin y))
  open_fate o Dead = refl

  pub open_shown : (o : State) → shown model (record { opening = o; events = [] }) ≡ o.tasks
  unfolding shown tasks_after first_checks
  open_shown o = fun_ext (λ t. open_fate o (o.tasks t))

  pub new_target_same : (a b : State) (event : Event) → a.aim ≡ b.aim → a.from ≡ b.from → new_target a event ≡ new_target b event
  new_target_same a b Enable aims froms = ap (λ aim. suc aim.target) aims
  new_target_same a b Disable aims froms = ap (λ aim. pred aim.target) aims
  new_target_same a b Reverse aims froms = froms
  new_target_same a b _ aims froms = ap (λ aim. aim.target) aims

  pub turned_state : (leg : Leg) (event : Event) → turned model (state_of model leg) event ≡ state_of model (opened model leg event)
  turned_state leg event =
      let ts : shown model leg ≡ shown model (opened model leg event) = sym (open_shown (opened model leg event).opening) in
      ap (λ target. record { number = suc (leg.number + length leg.events); bounds = leg.bounds; from = leg.target; aim = record { patches = leg.patches; target = target }; tasks = shown model leg }) (new_target_same (state_of model leg) leg.opening event refl refl) ∙ ap₂ (λ n tasks. record { number = n; bounds = leg.bounds; from = leg.target; aim = record { patches = leg.patches; target = new_target leg.opening event }; tasks = tasks }) (omega arith) ts

-- ---- One event

-- the machine answers as the definitions do, and goes to the state that they give
pub record Does (model : Rules) (leg : Leg) (event : Event) : Type 0 where
  pub answers : answer model (state_of model leg) event ≡ reply model leg event
  pub next_state : next model (state_of model leg) event ≡ state_of model (next_leg model leg event)

and_true : (b : Bool) → (b && true) ≡ b
and_true true = refl
and_true false = refl

control_done : (model : Rules) (leg : Leg) (event : Event) → is_control event ≡ true → switched_at (and_then leg event) (first_check model (and_then leg event)) (suc (length leg.events)) ≡ [] → done model leg event ≡ Done
control_done model leg Enable e none = ap switched none
control_done model leg Disable e none = ap switched none
control_done model leg Reverse e none = ap switched none
control_done model leg _ e none = absurd (cc)

module _ (model : Rules) (leg : Leg) where
  told_same : (event : Event) → switched_groups model (affected model (state_of model leg) event) event ≡ switched_at (and_then leg event) (first_check model (and_then leg event)) (suc (length leg.events)) → told model (state_of model leg) event ≡ done model leg event
  told_same (Call t f) e = refl
  told_same _ e = ap switched e

module _ (model : Rules) (leg : Leg) (event : Event) where
  abbrev st : State
  st = state_of model leg

  reply_is : (why : Option Refusal) (b : Bool) → refused_by model leg event ≡ why → opens model leg event ≡ b → reply model leg event ≡ record { what = unless_why model why (done model leg event); completed = is_complete_now model (if b then opened model leg event else and_then leg event) && (b || not (is_complete_now model leg)) }
  unfolding reply next_leg
  reply_is why b e o =
      ap₂ (λ r c. record { what = unless_why model r (done model leg event); completed = is_complete_now model (if c then opened model leg event else and_then leg event) && (c || not (is_complete_now model leg)) }) e o

  next_leg_is : (b : Bool) → opens model leg event ≡ b → next_leg model leg event ≡ (if b then opened model leg event else and_then leg event)
  unfolding next_leg
  next_leg_is b o = ap (λ c. if c then opened model leg event else and_then leg event) o

  answer_is : (why : Option Refusal) → refused_by model leg event ≡ why → answer model st event ≡ answer_by model st event why
  unfolding answer
  answer_is why e = ap (answer_by model st event) (refusal_is model leg event ∙ e)

  next_is : (why : Option Refusal) → refused_by model leg event ≡ why → next model st event ≡ next_by model st event why
  unfolding next
  next_is why e = ap (next_by model st event) (refusal_is model leg event ∙ e)

  refused_does : (why : Refusal) → refused_by model leg event ≡ Some why → Does model leg event
  refused_does why e =
      let quiet = λ (group : ℕ). refused_quiet model leg event why group e in
      let o : opens model leg event ≡ false = ap (λ r. is_control event && is_none r) e ∙ and-false (is_control event) in
      let same = quiet_state model leg event quiet in
      let same_complete : is_complete_now model (and_then leg event) ≡ is_complete_now model leg = sym (complete_is model (and_then leg event)) ∙ (ap complete_in (sym same) ∙ complete_is model leg) in
      record {
        answers = answer_is (Some why) e ∙ (ap (λ b. record { what = Refused why; completed = b }) (sym (ap (λ b. b && not (is_complete_now model leg)) same_complete ∙ and-not_self (is_complete_now model leg))) ∙ sym (reply_is (Some why) false e o));
        next_state = next_is (Some why) e ∙ (same ∙ ap (state_of model) (sym (next_leg_is false o)));
      }

  control_does : refused_by model leg event ≡ None → is_control event ≡ true → Does model leg event
  control_does e control =
      let quiet = λ (group : ℕ). control_quiet model (length leg.events) (after model leg (length leg.events)) (outlines (after model (and_then leg event) (suc (length leg.events)))) event group leg.bounds control in
      let o : opens model leg event ≡ true = ap₂ (λ c r. c && is_none r) control e in
      let same = turned_state model leg event in
      let same_complete : complete_in (turned model st event) ≡ is_complete_now model (opened model leg event) = ap complete_in same ∙ complete_is model (opened model leg event) in
      record {
        answers = answer_is None e ∙ (cond-true _ _ _ control ∙ (ap₂ (λ w b. record { what = w; completed = b }) (sym (control_done model leg event control (quiet_switched model leg event quiet))) (same_complete ∙ sym (and_true (is_complete_now model (opened model leg event)))) ∙ sym (reply_is None true e o)));
        next_state = next_is None e ∙ (cond-true _ _ _ control ∙ (same ∙ ap (state_of model) (sym (next_leg_is true o))));
      }

  plain_does : IsLawful model → IsSound leg.opening → refused_by model leg event ≡ None → is_control event ≡ false → Does model leg event
  plain_does lawful sound e plain =
      let ok = sym (plain_refusal model leg event plain) ∙ e in
      let o : opens model leg event ≡ false = ap (λ c. c && is_none (refused_by model leg event)) plain in
      let same = switched_state model leg event lawful sound ok in
      let same_complete : complete_in (with_switches model st event) ≡ is_complete_now model (and_then leg event) = ap complete_in same ∙ complete_is model (and_then leg event) in
      record {
        answers = answer_is None e ∙ (cond-false _ _ _ plain ∙ (ap₂ (λ w b. record { what = w; completed = b }) (told_same model leg event (groups_is model leg event lawful sound ok)) (ap₂ (λ a b. a && not b) same_complete (complete_is model leg)) ∙ sym (reply_is None false e o)));
        next_state = next_is None e ∙ (cond-false _ _ _ plain ∙ (same ∙ ap (state_of model) (sym (next_leg_is false o))));
      }

  pub does : IsLawful model → IsSound leg.opening → Does model leg event
  does lawful sound = by_refusal (refused_by model leg event) refl
    where
      by_refusal : (why : Option Refusal) → refused_by model leg event ≡ why → Does model leg event
      by_refusal (Some why) e = refused_does why e
      by_refusal None e =
          ⊎_elim (λ (control : is_control event ≡ true). control_does e control) (λ (plain : is_control event ≡ false). plain_does lawful sound e plain) (cases_Bool (is_control event))
