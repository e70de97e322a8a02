-- A standing blame stays right at each event, and refuses its group at each check.
use Rattle.std.proofs.Common.{◌≡◌, ◌⊎◌, ℕ, suc, ◌<◌, ◌≤◌, Bool, true, false, not, ◌&&◌, ◌||◌, List, [], length, pred, take, get_or, Contains, Option, Some, None, is_some, is_none, if◌then◌else◌, nat_eq, refl, sym, ap, subst, ◌∙◌, ⊎_elim, inl, inr, arith}
use Rattle.std.proofs.lemmas.Bool.{false≢true, cond-true, cond-false, cases_Bool, cases_order, and_parts, and_from, not_from_false, or_cases, eqb-true, eq-eqb, not-true, false_from_ne_true}
use Rattle.std.proofs.lemmas.List.{get_or_default}
use Rattle.std.proofs.lemmas.List.Folds.{Any-from_list_any, list_any_at}
use Rattle.std.specs.List.{list_any}
use Rattle.lp_stack.specs.declared.frame.Frame.{Frame}
use Rattle.lp_numbers.specs.Numbers.{Numbers, has}
use Rattle.lp_model.specs.Rules.{Rules, IsLawful, SerialsRise}
use Rattle.lp_model.specs.declared.check.CheckKind.{CheckKind}
use Rattle.lp_model.specs.declared.check.Blame.{Blame}
use Rattle.lp_model.specs.declared.check.Blame.TheVariants.{Frame as Held}
use Rattle.lp_machine.specs.declared.standing_blame.StandingBlame.{StandingBlame}
use Rattle.lp_definitions.specs.declared.event.Event.{Event}
use Rattle.lp_definitions.specs.declared.refusal.Refusal.{Refusal}
use Rattle.lp_model.specs.declared.verdict.Verdict.{Verdict}
use Rattle.lp_definitions.specs.Events.{is_control}
use Rattle.lp_definitions.specs.declared.event.Event.TheVariants.{Ret, Fork, Die}
use Rattle.lp_stack.specs.declared.number.TaskId.{TaskId}
use Rattle.lp_model.specs.declared.check.ForkKind.{ForkKind}
use Rattle.std.specs.Option.{option_map}
use Rattle.lp_definitions.specs.Tasks.{Fate, Live, on_live, map_live, change}
use Rattle.lp_definitions.specs.Leg.{LegTask, State, check_by, if_used}
use Rattle.lp_definitions.specs.Sound.{IsSound}
use Rattle.lp_machine.specs.Machine.{view_of, outlines_of, waits_in, admits_all, switches_at, own_effect, affected, returning, switched_task, with_switches, counted, refusal_of, next}
use Rattle.lp_machine.specs.Table.{Table, Engine, slot, leg_tasks, state_in}
use Rattle.lp_transition.specs.Scan.{RefusesMember, MayLeaveOut}
use Rattle.lp_transition.specs.Blames.{blame_of, is_open, has_frame_in, while_there, or_blame, frame_blame, refused_first, blame_by, AreBlamesAfter, AreOfWaiting}
use Rattle.lp_transition.specs.inside.Blames.{blame_at, frame_there, looked_at, IsBlamed, AreBlamed}
use Rattle.lp_tasks.specs.inside.Table.{is_in, is_off, changed}
use Rattle.lp_transition.specs.inside.Invariant.{IsEngine}
use Rattle.lp_machine.proofs.Accept.{fork-new, die-empty}
use Rattle.std.proofs.lemmas.List.Elements.{All-take, All-contains, All-contains_itself}
use Rattle.lp_machine.proofs.EngineLemmas.{next-refused, next-accepted}
use Rattle.lp_definitions.proofs.Quantifiers.{each_live-at, some_live-from}
use Rattle.lp_transition.proofs.Unchanged.{switched_not, touches, own_same}
use Rattle.lp_transition.proofs.Effects.{HasTaken}
use Rattle.lp_tasks.proofs.TableLemmas.{slot_from_live, slot-changed}

-- ---- Frames

-- the serials of a stack rise, so no two of its frames share one
pub one_serial : (frames : List Frame) (a b : Frame) → SerialsRise frames → Contains frames a → Contains frames b → a.serial ≡ b.serial → a ≡ b
one_serial frames a b rise in_a in_b same = by_order (cases_order in_a.0 in_b.0)
  where
    is_b : (d : Frame) → get_or frames in_b.0 d ≡ b
    is_b d = get_or_default frames in_b.0 d b in_b.1 ∙ in_b.2

    is_a : (d : Frame) → get_or frames in_a.0 d ≡ a
    is_a d = get_or_default frames in_a.0 d a in_a.1 ∙ in_a.2

    by_order : (in_a.0 ≡ in_b.0) ⊎ ((in_a.0 < in_b.0) ⊎ (in_b.0 < in_a.0)) → a ≡ b
    by_order (inl e) = sym (is_a a) ∙ (ap (λ i. get_or frames i a) e ∙ is_b a)
    by_order (inr (inl lt)) =
        let rising = rise in_a.0 in_b.0 a lt in_b.1 in
        let below : a.serial < b.serial = subst (λ f. a.serial < f.serial) (is_b a) (subst (λ f. f.serial < (get_or frames in_b.0 a).serial) (is_a a) rising) in
        absurd (omega (arith, below, same))
    by_order (inr (inr lt)) =
        let rising = rise in_b.0 in_a.0 a lt in_a.1 in
        let below : b.serial < a.serial = subst (λ f. b.serial < f.serial) (is_a a) (subst (λ f. f.serial < (get_or frames in_a.0 a).serial) (is_b a) rising) in
        absurd (omega (arith, below, same))

none_told : (o : Option Blame) → is_some o ≡ false → o ≡ None
none_told None e = refl
none_told (Some why) e = absurd (cc)

-- the frame of a blame is on its task's stack
pub blamed_there : (model : Rules) (s : State) (g : ℕ) (b : StandingBlame) → IsBlamed model s g b → has_frame_in s b.task.0 b.serial ≡ true
blamed_there model s g b w =
    let has_serial = λ (frame : Frame). nat_eq frame.serial b.serial in
    ap (on_live false (λ (x : LegTask). list_any has_serial x.frames)) w.live
    ∙ list_any_at has_serial w.life.frames w.there.0 w.frame w.there.1 (ap has_serial w.there.2 ∙ eq-eqb w.frame.serial b.serial w.serial)

module _ (model : Rules) (lawful : IsLawful model) (s : State) (g : ℕ) (b : StandingBlame) (w : IsBlamed model s g b) where
  -- ---- Its group is refused

  not_admitted : SerialsRise w.life.frames → (on : CheckKind) → model.admits on (view_of b.task.0 w.life) s.aim ≡ false
  not_admitted rise on = lawful.holds w.kind on w.seen (view_of b.task.0 w.life) s.aim w.frame w.rises rise (sym w.task) (w.blame ∙ ap (λ n. Some (Held n)) (sym w.serial)) w.held w.there

  -- at every kind of check
  pub blamed_refused : SerialsRise w.life.frames → (on : CheckKind) → RefusesMember model on s g
  blamed_refused rise on = record {
    member = b.task.0;
    life = w.life;
    live = w.live;
    off = w.off;
    grouped = w.grouped;
    refused =
        ⊎_elim
        (λ (some : is_some (model.blame on (view_of b.task.0 w.life) s.aim) ≡ true). some)
        (λ (none : is_some (model.blame on (view_of b.task.0 w.life) s.aim) ≡ false).
        let free = lawful.blames on (view_of b.task.0 w.life) s.aim (none_told (model.blame on (view_of b.task.0 w.life) s.aim) none) in
        absurd (false≢true (sym (not_admitted rise on) ∙ free)))
        (cases_Bool (is_some (model.blame on (view_of b.task.0 w.life) s.aim)));
  }

  no_check : SerialsRise w.life.frames → 0 < b.task.0 → b.task.0 ≤ s.bounds.tasks → (check : Option CheckKind) → admits_all model s check g ≡ true → ⊥
  no_check rise positive within None h = absurd (cc)
  no_check rise positive within (Some on) h =
      let passed = each_live-at s.bounds s.tasks (λ t x. not (nat_eq x.group g) || model.admits on (view_of t x) s.aim) h b.task.0 w.life positive within w.live in
      ⊎_elim
      (λ (out : not (nat_eq w.life.group g) ≡ true). absurd (false≢true (sym (not-true (nat_eq w.life.group g) out) ∙ eq-eqb w.life.group g w.grouped)))
      (λ (admitted : model.admits on (view_of b.task.0 w.life) s.aim ≡ true). absurd (false≢true (sym (not_admitted rise on) ∙ admitted)))
      (or_cases (not (nat_eq w.life.group g)) (model.admits on (view_of b.task.0 w.life) s.aim) passed)

  -- so it doesn't switch
  pub blamed_stays : SerialsRise w.life.frames → 0 < b.task.0 → b.task.0 ≤ s.bounds.tasks → (event : Event) → switches_at model s event g ≡ false
  unfolding switches_at
  blamed_stays rise positive within event =
      let check = if_used model.uses (check_by s.bounds (outlines_of s.tasks) (Some event) g) in
      false_from_ne_true (waits_in s g && admits_all model s check g) (λ h. no_check rise positive within check (and_parts (waits_in s g) (admits_all model s check g) h).1)

  -- ---- It moves on with its task

  module _ (event : Event) where
    after : State
    after = affected model s event

    pub moved : (life : LegTask) → (affected model s event).tasks b.task.0 ≡ Live life → life.level ≡ w.life.level → life.group ≡ w.life.group → Contains life.frames w.frame → IsBlamed model (affected model s event) g b
    moved life live level group there = record {
      life = life;
      live = live;
      off = ap (λ l. nat_eq l s.target) level ∙ w.off;
      grouped = group ∙ w.grouped;
      frame = w.frame;
      serial = w.serial;
      there = there;
      kind = w.kind;
      seen = w.seen;
      task = w.task;
      rises = w.rises;
      held = w.held;
      blame = w.blame;
    }

    -- where nothing happens to the task
    pub still : own_effect model.child_group (suc s.number) event s.tasks b.task.0 ≡ s.tasks b.task.0 → IsBlamed model (affected model s event) g b
    still same = moved w.life (same ∙ w.live) refl refl w.there

    -- where a task is changed that keeps its level and its group, and the frame if it is this one's
    pub moves : (a : ℕ) (f : LegTask → LegTask) → own_effect model.child_group (suc s.number) event s.tasks ≡ change a f s.tasks → ((x : LegTask) → (f x).level ≡ x.level) → ((x : LegTask) → (f x).group ≡ x.group)
        → (b.task.0 ≡ a → Contains (f w.life).frames w.frame) → IsBlamed model (affected model s event) g b
    moves a f own levels groups frames =
        let at = ap (λ (tasks : ℕ → Fate LegTask). tasks b.task.0) own in
        ⊎_elim
        (λ (this : nat_eq b.task.0 a ≡ true).
        moved (f w.life) (at ∙ (cond-true (nat_eq b.task.0 a) (map_live f (s.tasks b.task.0)) (s.tasks b.task.0) this ∙ ap (map_live f) w.live)) (levels w.life) (groups w.life) (frames (eqb-true b.task.0 a this)))
        (λ (other : nat_eq b.task.0 a ≡ false). still (at ∙ cond-false (nat_eq b.task.0 a) (map_live f (s.tasks b.task.0)) (s.tasks b.task.0) other))
        (cases_Bool (nat_eq b.task.0 a))

-- who isn't switched keeps the blame
module _ (model : Rules) (lawful : IsLawful model) (s : State) (event : Event) where
  same_frames : (x : LegTask) (level : ℕ) (goes : Bool) → (if goes then record x { level = level } else x).frames ≡ x.frames
  same_frames x level true = refl
  same_frames x level false = refl

  pub through : (g : ℕ) (b : StandingBlame) → IsSound (with_switches model s event) → IsBlamed model (affected model s event) g b → IsBlamed model (with_switches model s event) g b
  through g b sound w =
      let now = affected model s event in
      let moved_live : (with_switches model s event).tasks b.task.0 ≡ Live (switched_task model now event w.life) = ap (map_live (switched_task model now event)) w.live in
      let bounds = sound.numbered b.task.0 (switched_task model now event w.life) moved_live in
      let rise = subst SerialsRise (same_frames w.life s.target (switches_at model now event w.life.group)) (sound.serials_rise b.task.0 (switched_task model now event w.life) moved_live) in
      let stays = blamed_stays model lawful now g b w rise bounds.0 bounds.1 event in
      record {
        life = w.life;
        live = moved_live ∙ ap Live (switched_not model s event w.life (ap (switches_at model now event) w.grouped ∙ stays));
        off = w.off;
        grouped = w.grouped;
        frame = w.frame;
        serial = w.serial;
        there = w.there;
        kind = w.kind;
        seen = w.seen;
        task = w.task;
        rises = w.rises;
        held = w.held;
        blame = w.blame;
      }

-- ---- What an event leaves

-- the blames are right after an event, and those that they have to be
pub record Leaves (model : Rules) (old : Engine) (event : Event) (verdicts : List Verdict) (new : Engine) : Type 0 where
  pub blamed : AreBlamed model (state_in new) new.blames
  pub after : AreBlamesAfter model old event verdicts new

module _ (model : Rules) (lawful : IsLawful model) (e old new : Engine) (event : Event) (was : e ≡ old) (sound : IsSound (state_in new)) (went : state_in new ≡ next model (state_in old) event) where
  came : state_in new ≡ next model (state_in e) event
  came = went ∙ ap (λ (o : Engine). next model (state_in o) event) (sym was)

  -- a refused event
  pub leaves_all : AreBlamed model (state_in e) e.blames → (why : Refusal) → refusal_of model (state_in old) event ≡ Some why → new.blames ≡ e.blames → Leaves model old event [] new
  leaves_all blamed why refused same =
      let refused_here : refusal_of model (state_in e) event ≡ Some why = ap (λ (o : Engine). refusal_of model (state_in o) event) was ∙ refused in
      let there : state_in new ≡ counted model (state_in e) = came ∙ next-refused model (state_in e) event why refused_here in
      record {
        blamed = λ g b at.
            let w = blamed g b (ap (λ (bs : List (Option StandingBlame)). blame_at bs g) (sym same) ∙ at) in
            subst (λ (st : State). IsBlamed model st g b) (sym there) (record {
              life = w.life;
              live = w.live;
              off = w.off;
              grouped = w.grouped;
              frame = w.frame;
              serial = w.serial;
              there = w.there;
              kind = w.kind;
              seen = w.seen;
              task = w.task;
              rises = w.rises;
              held = w.held;
              blame = w.blame;
            });
        after = λ g within.
            ap (λ (bs : List (Option StandingBlame)). blame_at bs g) same
            ∙ (ap (λ (o : Engine). blame_of o g) was ∙ ap (blame_by model old event [] g) (sym refused));
      }

  module _ (accepted : refusal_of model (state_in old) event ≡ None) where
    -- a control event
    pub leaves_none : is_control event ≡ true → ((g : ℕ) → blame_of new g ≡ None) → Leaves model old event [] new
    leaves_none control none = record {
      blamed = λ g b at. absurd (none_some b (sym (none g) ∙ at));
      after = λ g within.
          none g
          ∙ (sym (cond-true (is_control event) None (or_blame (while_there (affected model (state_in old) event) (blame_of old g)) (frame_blame (refused_first model (state_in old) event [] g))) control)
          ∙ ap (blame_by model old event [] g) (sym accepted));
    }
      where
        none_some : (b : StandingBlame) → None ≡ Some b → ⊥
        none_some b e = absurd (cc)

    module _ (plain : is_control event ≡ false) where
      switched : state_in new ≡ with_switches model (state_in e) event
      switched = came ∙ next-accepted model (state_in e) event (ap (λ (o : Engine). refusal_of model (state_in o) event) was ∙ accepted) plain

      -- each blame that is kept or found is right after the event's own effect, and so afterwards
      pub leaves : (verdicts : List Verdict) → ((g : ℕ) (b : StandingBlame) → blame_at new.blames g ≡ Some b → IsBlamed model (affected model (state_in e) event) g b)
          → ((g : ℕ) → g < 65536 → blame_of new g ≡ or_blame (while_there (affected model (state_in e) event) (blame_of e g)) (frame_blame (refused_first model (state_in e) event verdicts g)))
          → Leaves model old event verdicts new
      leaves verdicts right is = record {
        blamed = λ g b at. subst (λ (st : State). IsBlamed model st g b) (sym switched) (through model lawful (state_in e) event g b (subst IsSound switched sound) (right g b at));
        after = λ g within.
            is g within
            ∙ (ap (λ (o : Engine). or_blame (while_there (affected model (state_in o) event) (blame_of o g)) (frame_blame (refused_first model (state_in o) event verdicts g))) was
            ∙ (sym (cond-false (is_control event) None (or_blame (while_there (affected model (state_in old) event) (blame_of old g)) (frame_blame (refused_first model (state_in old) event verdicts g))) plain)
            ∙ ap (blame_by model old event verdicts g) (sym accepted)));
      }

      -- where all are kept, and some may be found
      pub leaves_found : ((g : ℕ) (b : StandingBlame) → blame_at new.blames g ≡ Some b → g < 65536) → ((g : ℕ) → g < 65536 → blame_at new.blames g ≡ or_blame (blame_at e.blames g) (frame_blame (refused_first model (state_in e) event [] g)))
          → ((g : ℕ) (b : StandingBlame) → frame_blame (refused_first model (state_in e) event [] g) ≡ Some b → IsBlamed model (affected model (state_in e) event) g b)
          → ((g : ℕ) (b : StandingBlame) → blame_at e.blames g ≡ Some b → IsBlamed model (affected model (state_in e) event) g b) → Leaves model old event [] new
      leaves_found small is finds right =
          leaves [] (λ g b at. either g b (blame_at e.blames g) refl (sym (is g (small g b at)) ∙ at))
          (λ g within. is g within ∙ ap (λ o. or_blame o (frame_blame (refused_first model (state_in e) event [] g))) (all_there g (blame_at e.blames g) refl))
        where
          all_there : (g : ℕ) (o : Option StandingBlame) → blame_of e g ≡ o → o ≡ while_there (affected model (state_in e) event) o
          all_there g None is = refl
          all_there g (Some b) is = sym (cond-true (has_frame_in (affected model (state_in e) event) b.task.0 b.serial) (Some b) None (blamed_there model (affected model (state_in e) event) g b (right g b is)))

          either : (g : ℕ) (b : StandingBlame) (o : Option StandingBlame) → blame_at e.blames g ≡ o → or_blame o (frame_blame (refused_first model (state_in e) event [] g)) ≡ Some b → IsBlamed model (affected model (state_in e) event) g b
          either g b None was at = finds g b at
          either g b (Some c) was at = right g b (was ∙ at)

      -- where all are kept, and none is found
      pub leaves_same : new.blames ≡ e.blames → ((g : ℕ) → frame_blame (refused_first model (state_in e) event [] g) ≡ None) → ((g : ℕ) (b : StandingBlame) → blame_at e.blames g ≡ Some b → IsBlamed model (affected model (state_in e) event) g b) → Leaves model old event [] new
      leaves_same same none right =
          leaves [] (λ g b at. right g b (ap (λ (bs : List (Option StandingBlame)). blame_at bs g) (sym same) ∙ at))
          (λ g within. ap (λ (bs : List (Option StandingBlame)). blame_at bs g) same ∙ all_there g (blame_of e g) refl ∙ sym (ap (or_blame (while_there (affected model (state_in e) event) (blame_of e g))) (none g)))
        where
          all_there : (g : ℕ) (o : Option StandingBlame) → blame_of e g ≡ o → o ≡ or_blame (while_there (affected model (state_in e) event) o) None
          all_there g None is = refl
          all_there g (Some b) is =
              sym (ap (λ (o : Option StandingBlame). or_blame o None) (cond-true (has_frame_in (affected model (state_in e) event) b.task.0 b.serial) (Some b) None (blamed_there model (affected model (state_in e) event) g b (right g b is))))

-- ---- What code does

-- the same engine with other blames
pub with_blames : (model : Rules) (old new : Engine) (event : Event) (waiting : Numbers) (blames : List (Option StandingBlame)) → HasTaken model old event new waiting → HasTaken model old event (record new { blames = blames }) waiting
with_blames model old new event waiting blames taken =
    let kept = taken.kept in
    record {
      kept = record {
        sound = kept.sound;
        wide = kept.wide;
        waiting_wide = kept.waiting_wide;
        waits = kept.waits;
        between = kept.between;
        from_fits = kept.from_fits;
        target_fits = kept.target_fits;
        number_fits = kept.number_fits;
      };
      state = taken.state;
    }

module _ (model : Rules) (lawful : IsLawful model) (e old new : Engine) (waiting left_waiting : Numbers) (event : Event) (was : e ≡ old) (kept : IsEngine e waiting) (blamed : AreBlamed model (state_in e) e.blames) (taken : HasTaken model old event new left_waiting) where
  -- a refused event
  pub leaves_refused : (why : Refusal) → refusal_of model (state_in old) event ≡ Some why → new.blames ≡ e.blames → Leaves model old event [] new
  leaves_refused why refused same = leaves_all model lawful e old new event was taken.kept.sound taken.state blamed why refused same

  module _ (accepted : refusal_of model (state_in old) event ≡ None) where
    -- a control event
    pub leaves_clear : is_control event ≡ true → ((g : ℕ) → blame_of new g ≡ None) → Leaves model old event [] new
    leaves_clear control none = leaves_none model lawful e old new event was taken.kept.sound taken.state accepted control none

    module _ (plain : is_control event ≡ false) where
      -- an event whose own effect is a change of a task, which keeps its level, its group and its frames
      pub leaves_changed : new.blames ≡ e.blames → ((g : ℕ) → frame_blame (refused_first model (state_in e) event [] g) ≡ None) → (a : ℕ) (f : LegTask → LegTask) → own_effect model.child_group (suc e.number) event (leg_tasks e.table) ≡ change a f (leg_tasks e.table) → ((x : LegTask) → (f x).level ≡ x.level) → ((x : LegTask) → (f x).group ≡ x.group)
          → ((x : LegTask) (frame : Frame) → Contains x.frames frame → Contains (f x).frames frame) → Leaves model old event [] new
      leaves_changed same none a f own levels groups frames =
          leaves_same model lawful e old new event was taken.kept.sound taken.state accepted plain same none
          (λ g b at. let w = blamed g b at in moves model lawful (state_in e) g b w event a f own levels groups (λ _. frames w.life w.frame w.there))

      -- an event at which nothing happens to those who have a frame
      pub leaves_apart : new.blames ≡ e.blames → ((g : ℕ) → frame_blame (refused_first model (state_in e) event [] g) ≡ None) → ((t : ℕ) (x : LegTask) (frame : Frame) → slot e.table t ≡ Some x → Contains x.frames frame → touches event t ≡ false) → Leaves model old event [] new
      leaves_apart same none apart =
          leaves_same model lawful e old new event was taken.kept.sound taken.state accepted plain same none
          (λ g b at.
          let w = blamed g b at in
          still model lawful (state_in e) g b w event (own_same model (state_in e) event event b.task.0 (apart b.task.0 w.life w.frame (slot_from_live e.table b.task.0 w.life w.live) w.there)))

-- a birth is none of one who has a frame
pub birth_apart : (model : Rules) (e : Engine) (p c : TaskId) (how : ForkKind) → refusal_of model (state_in e) (Fork p c how) ≡ None → (t : ℕ) (x : LegTask) (frame : Frame) → slot e.table t ≡ Some x → Contains x.frames frame → touches (Fork p c how) t ≡ false
birth_apart model e p c how accepted t x frame at there =
    false_from_ne_true (nat_eq t c.0) (λ (hit : nat_eq t c.0 ≡ true).
    let none : None ≡ Some x = sym (fork-new model e p c how accepted).0 ∙ (ap (slot e.table) (sym (eqb-true t c.0 hit)) ∙ at) in
    absurd (cc))

-- nor is a death
pub death_apart : (model : Rules) (e : Engine) (a : TaskId) → refusal_of model (state_in e) (Die a) ≡ None → (t : ℕ) (x : LegTask) (frame : Frame) → slot e.table t ≡ Some x → Contains x.frames frame → touches (Die a) t ≡ false
death_apart model e a accepted t x frame at there =
    false_from_ne_true (nat_eq t a.0) (λ (hit : nat_eq t a.0 ≡ true).
    let empty = die-empty model e a x accepted (ap (slot e.table) (sym (eqb-true t a.0 hit)) ∙ at) in
    let within : there.0 < length x.frames = there.1 in
    absurd (omega (arith, empty, within)))

-- ---- A return

-- a frame that a stack has without its last one is that of the same serial on the whole stack
pub left_frame : (frames : List Frame) (frame : Frame) (serial : ℕ) → SerialsRise frames → Contains frames frame → frame.serial ≡ serial → list_any (λ (f : Frame). nat_eq f.serial serial) (take (pred (length frames)) frames) ≡ true → Contains (take (pred (length frames)) frames) frame
left_frame frames frame serial rise there is h =
    let n = pred (length frames) in
    let some = Any-from_list_any (λ (f : Frame). nat_eq f.serial serial) (take n frames) h in
    let other : Contains (take n frames) some.1 = (some.0, some.2, some.3) in
    let whole = All-contains (Contains frames) (take n frames) some.1 (All-take (Contains frames) n frames (All-contains_itself frames)) other in
    let same : some.1 ≡ frame = one_serial frames some.1 frame rise whole there (eqb-true some.1.serial serial some.4 ∙ sym is) in
    subst (Contains (take n frames)) same other

module _ (model : Rules) (lawful : IsLawful model) (e : Engine) (a : TaskId) (waiting : Numbers) (kept : IsEngine e waiting) (within : a.0 < 65536) (g : ℕ) where
  s : State
  s = state_in e

  gone : Table
  gone = changed a.0 returning e.table

  -- what is looked at is the blame while its frame is there
  looks : (b : StandingBlame) (w : IsBlamed model (state_in e) g b) → (if has waiting a.0 then looked_at (changed a.0 returning e.table) a.0 g (Some b) else Some b) ≡ while_there (affected model (state_in e) (Ret a)) (Some b)
  looks b w =
      ⊎_elim
      (λ (this : nat_eq b.task.0 a.0 ≡ true).
      let same : b.task.0 ≡ a.0 = eqb-true b.task.0 a.0 this in
      let at : slot e.table a.0 ≡ Some w.life = ap (slot e.table) (sym same) ∙ slot_from_live e.table b.task.0 w.life w.live in
      let now : slot (changed a.0 returning e.table) a.0 ≡ Some (returning w.life) = slot-changed e.table a.0 returning kept.wide within ∙ ap (option_map returning) at in
      let waits : has waiting a.0 ≡ true = kept.waits a.0 ∙ (ap (is_off e.target) at ∙ ap not w.off) in
      let member : is_in g (slot (changed a.0 returning e.table) a.0) ≡ true = ap (is_in g) now ∙ eq-eqb w.life.group g w.grouped in
      let there = list_any (λ (f : Frame). nat_eq f.serial b.serial) (returning w.life).frames in
      let held : frame_there (slot (changed a.0 returning e.table) a.0) b.serial ≡ there = ap (λ o. frame_there o b.serial) now in
      let has_now : has_frame_in (affected model (state_in e) (Ret a)) b.task.0 b.serial ≡ there =
      ap (on_live false (λ (x : LegTask). list_any (λ (f : Frame). nat_eq f.serial b.serial) x.frames))
      (cond-true (nat_eq b.task.0 a.0) (map_live returning (leg_tasks e.table b.task.0)) (leg_tasks e.table b.task.0) this ∙ ap (map_live returning) w.live) in
      cond-true (has waiting a.0) (looked_at (changed a.0 returning e.table) a.0 g (Some b)) (Some b) waits
      ∙ (ap (λ p. if p && (nat_eq b.task.0 a.0 && not (frame_there (slot (changed a.0 returning e.table) a.0) b.serial)) then None else Some b) member
      ∙ (ap (λ p. if p && not (frame_there (slot (changed a.0 returning e.table) a.0) b.serial) then None else Some b) this
      ∙ (ap (λ p. if not p then None else Some b) held
      ∙ (turned there ∙ ap (λ p. if p then Some b else None) (sym has_now))))))
      (λ (other : nat_eq b.task.0 a.0 ≡ false).
      let after = still model lawful (state_in e) g b w (Ret a) (cond-false (nat_eq b.task.0 a.0) (map_live returning (leg_tasks e.table b.task.0)) (leg_tasks e.table b.task.0) other) in
      let there = blamed_there model (affected model (state_in e) (Ret a)) g b after in
      either (has waiting a.0) (looked_at (changed a.0 returning e.table) a.0 g (Some b))
      (ap (λ p. if is_in g (slot (changed a.0 returning e.table) a.0) && (p && not (frame_there (slot (changed a.0 returning e.table) a.0) b.serial)) then None else Some b) other
      ∙ and_no (is_in g (slot (changed a.0 returning e.table) a.0)))
      ∙ sym (cond-true (has_frame_in (affected model (state_in e) (Ret a)) b.task.0 b.serial) (Some b) None there))
      (cases_Bool (nat_eq b.task.0 a.0))
    where
      turned : (p : Bool) → (if not p then None else Some b) ≡ (if p then Some b else None)
      turned true = refl
      turned false = refl

      and_no : (p : Bool) → (if p && false then None else Some b) ≡ Some b
      and_no true = refl
      and_no false = refl

      either : (p : Bool) (o : Option StandingBlame) → o ≡ Some b → (if p then o else Some b) ≡ Some b
      either true o h = h
      either false o h = refl

  -- and it is right, where it still stands
  right_after : (b c : StandingBlame) (w : IsBlamed model (state_in e) g b) → while_there (affected model (state_in e) (Ret a)) (Some b) ≡ Some c → IsBlamed model (affected model (state_in e) (Ret a)) g c
  right_after b c w is = by (has_frame_in (affected model (state_in e) (Ret a)) b.task.0 b.serial) refl
    where
      by : (p : Bool) → has_frame_in (affected model (state_in e) (Ret a)) b.task.0 b.serial ≡ p → IsBlamed model (affected model (state_in e) (Ret a)) g c
      by false h = let none : None ≡ Some c = sym (cond-false (has_frame_in (affected model (state_in e) (Ret a)) b.task.0 b.serial) (Some b) None h) ∙ is in absurd (cc)
      by true h =
          let some : Some b ≡ Some c = sym (cond-true (has_frame_in (affected model (state_in e) (Ret a)) b.task.0 b.serial) (Some b) None h) ∙ is in
          let same : b ≡ c = cc in
          subst (IsBlamed model (affected model (state_in e) (Ret a)) g) same
          (moves model lawful (state_in e) g b w (Ret a) a.0 returning refl (λ x. refl) (λ x. refl)
          (λ here.
          let there : list_any (λ (f : Frame). nat_eq f.serial b.serial) (returning w.life).frames ≡ true =
          sym (ap (on_live false (λ (x : LegTask). list_any (λ (f : Frame). nat_eq f.serial b.serial) x.frames))
          (cond-true (nat_eq b.task.0 a.0) (map_live returning (leg_tasks e.table b.task.0)) (leg_tasks e.table b.task.0) (eq-eqb b.task.0 a.0 here) ∙ ap (map_live returning) w.live)) ∙ h in
          left_frame w.life.frames w.frame b.serial (kept.sound.serials_rise b.task.0 w.life w.live) w.there w.serial there))

-- the blames after a return
pub leaves_returned : (model : Rules) (lawful : IsLawful model) (e old new : Engine) (table : Table) (waiting left_waiting : Numbers) (a : TaskId) → e ≡ old → IsEngine e waiting → AreBlamed model (state_in e) e.blames → HasTaken model old (Ret a) new left_waiting → refusal_of model (state_in old) (Ret a) ≡ None → a.0 < 65536
    → table ≡ changed a.0 returning e.table → ((g : ℕ) → blame_at new.blames g ≡ (if has waiting a.0 then looked_at table a.0 g (blame_at e.blames g) else blame_at e.blames g)) → Leaves model old (Ret a) [] new
leaves_returned model lawful e old new table waiting left_waiting a was kept blamed taken accepted within is looked =
    leaves model lawful e old new (Ret a) was taken.kept.sound taken.state accepted refl []
    (λ g b at. right g b (blame_at e.blames g) refl (sym (now g) ∙ at))
    (λ g small. now g ∙ or_none (while_there (affected model (state_in e) (Ret a)) (blame_at e.blames g)))
  where
    or_none : (o : Option StandingBlame) → o ≡ or_blame o None
    or_none None = refl
    or_none (Some b) = refl

    none_both : (p : Bool) (n : Option StandingBlame) → (if p then n else n) ≡ n
    none_both true n = refl
    none_both false n = refl

    at_option : (g : ℕ) (o : Option StandingBlame) → blame_at e.blames g ≡ o → (if has waiting a.0 then looked_at (changed a.0 returning e.table) a.0 g o else o) ≡ while_there (affected model (state_in e) (Ret a)) o
    at_option g None h = none_both (has waiting a.0) None
    at_option g (Some b) h = looks model lawful e a waiting kept within g b (blamed g b h)

    now : (g : ℕ) → blame_at new.blames g ≡ while_there (affected model (state_in e) (Ret a)) (blame_at e.blames g)
    now g =
        looked g
        ∙ (ap (λ (t : Table). if has waiting a.0 then looked_at t a.0 g (blame_at e.blames g) else blame_at e.blames g) is
        ∙ at_option g (blame_at e.blames g) refl)

    right : (g : ℕ) (c : StandingBlame) (o : Option StandingBlame) → blame_at e.blames g ≡ o → while_there (affected model (state_in e) (Ret a)) (blame_at e.blames g) ≡ Some c → IsBlamed model (affected model (state_in e) (Ret a)) g c
    right g c None h at = let none : None ≡ Some c = sym (ap (while_there (affected model (state_in e) (Ret a))) h) ∙ at in absurd (cc)
    right g c (Some b) h at = right_after model lawful e a waiting kept within g b c (blamed g b h) (sym (ap (while_there (affected model (state_in e) (Ret a))) h) ∙ at)

-- ---- Who may be left out

-- a group with a standing blame waits
pub blamed_waits : (model : Rules) (e : Engine) → IsSound (state_in e) → AreBlamed model (state_in e) e.blames → AreOfWaiting e
blamed_waits model e sound blamed g held = by (blame_of e g) refl
  where
    by : (o : Option StandingBlame) → blame_of e g ≡ o → waits_in (state_in e) g ≡ true
    by None is = absurd (false≢true (sym held ∙ ap is_none is))
    by (Some b) is =
        let w = blamed g b is in
        let range = sound.numbered b.task.0 w.life w.live in
        some_live-from (state_in e).bounds (state_in e).tasks (λ t x. nat_eq x.group g && not (nat_eq x.level e.target)) (record {
          task = b.task.0;
          life = w.life;
          positive = range.0;
          within = range.1;
          live = w.live;
          passed = and_from (nat_eq w.life.group g) (not (nat_eq w.life.level e.target)) (eq-eqb w.life.group g w.grouped) (not_from_false (nat_eq w.life.level e.target) w.off);
        })

-- of each group with a standing blame a scan refuses a member
pub blamed_out : (model : Rules) → IsLawful model → (e : Engine) (on : CheckKind) → IsSound (state_in e) → AreBlamed model (state_in e) e.blames → MayLeaveOut model on (state_in e) (is_open e)
blamed_out model lawful e on sound blamed t x live off out = by (blame_of e x.group) refl
  where
    by : (o : Option StandingBlame) → blame_of e x.group ≡ o → RefusesMember model on (state_in e) x.group
    by None is = absurd (false≢true (sym out ∙ ap is_none is))
    by (Some b) is =
        let w = blamed x.group b is in
        blamed_refused model lawful (state_in e) x.group b w (sound.serials_rise b.task.0 w.life w.live) on
