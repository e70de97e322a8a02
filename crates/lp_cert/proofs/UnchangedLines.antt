-- What a further refusal of an unchanged group makes of its lines.
use Rattle.std.proofs.Common.{◌≡◌, ℕ, ◌<◌, ⊎_elim, Bool, true, false, nat_lt, List, [], ◌∷◌, ◌++◌, length, map, reverse, take, drop, Option, Some, None, is_none, get_or, refl, sym, ap, subst, ◌∙◌, arith}
use Rattle.std.proofs.lemmas.Bool.{false≢true, ltb-true, cond-true, cond-false, eq-eqb}
use Rattle.lp_stack.specs.declared.number.GroupId.{GroupId}
use Rattle.lp_stack.specs.declared.number.TaskId.{TaskId}
use Rattle.lp_model.specs.declared.check.CheckKind.{CheckKind}
use Rattle.lp_model.specs.declared.check.Blame.{Blame}
use Rattle.lp_model.specs.declared.check.Blame.TheVariants as blame
use Rattle.lp_model.specs.Rules.{Rules}
use Rattle.lp_definitions.specs.Leg.{State}
use Rattle.lp_transition.specs.Blames.{has_frame_in, first_blamed_in}
use Rattle.lp_definitions.specs.declared.line.Line.{Line}
use Rattle.lp_definitions.specs.declared.line.Line.TheVariants as line
use Rattle.lp_cert.specs.declared.reason.Reason.{Reason}
use Rattle.lp_cert.specs.declared.reason.Reason.TheVariants as reason
use Rattle.lp_cert.specs.declared.ongoing.Ongoing.{Ongoing}
use Rattle.lp_cert.specs.declared.ongoing.Ongoing.TheVariants.{Nothing, Hold, Busy}
use Rattle.lp_cert.specs.declared.head.Head.{Head}
use Rattle.lp_cert.specs.declared.head.Refused.{Refused}
use Rattle.lp_definitions.specs.Certificates.{after_refusal, task_id}
use Rattle.lp_cert.specs.Heads.{lines_of, ongoing_reasons, head_lines}
use Rattle.lp_cert.specs.Unchanged.{IsHeldBy, IsUnchanged}
use Rattle.lp_machine.specs.declared.standing_blame.StandingBlame.{StandingBlame}
use Rattle.lp_cert.specs.inside.Heads.{IsUnchecked, IsBusyInFront, FitsOlder, IsHead, IsRefusedBy, HasFrameAs, continues_after}
use Rattle.lp_cert.proofs.HeadLemmas.{busy_some, busy_run, no_run, refused_on}

-- ---- A line that continues

-- the newest line continues if the group is refused again, blaming this task so: a hold of its frame, which is still there, or
-- the task is busy
abbrev Continues : (has_frame : (task serial : ℕ) → Bool) → (task : ℕ) → Blame → List Line → Type 0
Continues has_frame t why (line.Hold group task serial from to ∷ older) = (task.0 ≡ t) × (has_frame t serial ≡ true)
Continues has_frame t why (line.Busy group task at ∷ older) = (task.0 ≡ t) × (why ≡ blame.Busy)
Continues has_frame t why _ = ⊥

-- with a refusal of whom the newest line continues, and that further refusal leaves the lines that this one leaves
record GoesOn (has_frame : (task serial : ℕ) → Bool) (group : ℕ) (blamed : ℕ × Blame) (lines : List Line) : Type 0 where
  task : ℕ
  why : Blame
  continues : Continues has_frame task why lines
  alike : (at : ℕ) → after_refusal has_frame group at blamed lines ≡ after_refusal has_frame group at (task, why) lines

goes_on : (model : Rules) (s : State) (on : CheckKind) (g : ℕ) (blamed : ℕ × Blame) (lines : List Line) → first_blamed_in model s on g ≡ Some blamed → IsUnchanged model on s g lines → GoesOn (has_frame_in s) g blamed lines
goes_on model s on g blamed [] first h = absurd h
goes_on model s on g blamed (line.Hold h2 task serial from to ∷ older) first h = record {
  task = task.0;
  why = blame.Busy;
  continues = (refl, h);
  alike = λ at.
      cond-true (has_frame_in s task.0 serial) (line.Hold h2 task serial from at ∷ older) _ h
      ∙ sym (cond-true (has_frame_in s task.0 serial) (line.Hold h2 task serial from at ∷ older) _ h);
}
goes_on model s on g blamed (line.Busy h2 task on_at ∷ older) first h = record {
  task = task.0;
  why = blame.Busy;
  continues = (refl, refl);
  alike = λ at. ap (λ b. after_refusal (has_frame_in s) g at b (line.Busy h2 task on_at ∷ older)) same;
}
  where
    same : blamed ≡ (task.0, blame.Busy)
    same = let told : Some blamed ≡ Some (task.0, blame.Busy) = sym first ∙ h in cc
goes_on model s on g blamed (line.Born h2 p on_at ∷ older) first h = absurd h

-- what continues of a head continues with this refusal of the task
abbrev OngoingContinues : (has_frame : (task serial : ℕ) → Bool) → (task : ℕ) → Blame → Ongoing → Type 0
OngoingContinues has_frame t why Nothing = ⊥
OngoingContinues has_frame t why (Hold task serial from last) = (task.0 ≡ t) × (has_frame t serial ≡ true)
OngoingContinues has_frame t why (Busy task first) = (task.0 ≡ t) × (why ≡ blame.Busy)

module _ (has_frame : (task serial : ℕ) → Bool) (t : ℕ) (why : Blame) where
  -- lines of a busy task in front
  busy_first : (g : GroupId) (task : TaskId) (ys : List ℕ) (rest : List Line) → 0 < length ys → Continues has_frame t why (map (λ on. line.Busy g task on) ys ++ rest) → (task.0 ≡ t) × (why ≡ blame.Busy)
  busy_first g task [] rest some h = absurd (omega arith)
  busy_first g task (y ∷ ys) rest some h = h

  unchecked_first : (scans : List ℕ) (rs : List Reason) → IsUnchecked rs → Continues has_frame t why (lines_of scans rs) → ⊥
  unfolding lines_of
  unchecked_first scans [] quiet h = h
  unchecked_first scans (reason.One (line.Born g p on) ∷ rs) quiet h = h
  unchecked_first scans (reason.One (line.Hold g task serial from to) ∷ rs) quiet h = quiet
  unchecked_first scans (reason.One (line.Busy g task on) ∷ rs) quiet h = quiet
  unchecked_first scans (reason.Busy g task first end ∷ rs) quiet h = quiet

  -- so does the line of a busy task that is no scan's
  busy_front : (scans : List ℕ) (task : TaskId) (rs : List Reason) → IsBusyInFront task rs → Continues has_frame t why (lines_of scans rs) → (task.0 ≡ t) × (why ≡ blame.Busy)
  unfolding lines_of
  busy_front scans task [] front h = absurd front
  busy_front scans task (reason.One (line.Born g p on) ∷ rs) front h = absurd front
  busy_front scans task (reason.One (line.Hold g u serial from to) ∷ rs) front h = absurd front
  busy_front scans task (reason.One (line.Busy g u on) ∷ rs) front h = (sym (ap (λ (k : TaskId). k.0) front) ∙ h.0, h.1)
  busy_front scans task (reason.Busy g u first end ∷ rs) front h = absurd front

  -- the newest line tells what continues
  ongoing_of : (scans : List ℕ) (g : GroupId) (o : Ongoing) (rs : List Reason) → FitsOlder (length scans) o rs
      → Continues has_frame t why (lines_of scans (ongoing_reasons scans g o ++ rs)) → OngoingContinues has_frame t why o
  unfolding lines_of
  ongoing_of scans g Nothing rs older h = unchecked_first scans rs older h
  ongoing_of scans g (Hold task serial from last) rs older h = h
  ongoing_of scans g (Busy task first) rs older h = by (nat_lt first (length scans)) refl
    where
      ran : first < length scans → (task.0 ≡ t) × (why ≡ blame.Busy)
      ran low =
          busy_first g task (reverse (drop first (take (length scans) scans))) (lines_of scans rs) (busy_some scans first low)
          (subst (λ os. Continues has_frame t why (lines_of scans (os ++ rs))) (busy_run scans g task first low) h)

      by : (b : Bool) → nat_lt first (length scans) ≡ b → (task.0 ≡ t) × (why ≡ blame.Busy)
      by true is = ran (ltb-true first (length scans) is)
      by false is = ⊎_elim ran (λ front. busy_front scans task rs front (subst (λ os. Continues has_frame t why (lines_of scans (os ++ rs))) (no_run scans g task first is) h)) older

  -- a refusal of the task with the frame still there
  abbrev pub again : ℕ → Refused
  again at = record { at = at; task = task_id t; blame = why; frame_stands = true }

  ongoing_held : (o : Ongoing) → OngoingContinues has_frame t why o → HasFrameAs has_frame o true
  ongoing_held Nothing h = absurd h
  ongoing_held (Hold task serial from last) h = ap (λ n. has_frame n serial) h.0 ∙ h.1
  ongoing_held (Busy task first) h = tt

  ongoing_stays : (o : Ongoing) (at : ℕ) → OngoingContinues has_frame t why o → continues_after o (again at) ≡ true
  ongoing_stays Nothing at h = absurd h
  ongoing_stays (Hold task serial from last) at h = refl
  ongoing_stays (Busy task first) at h = subst (λ b. continues_after (Busy task first) (record { at = at; task = task_id t; blame = b; frame_stands = true }) ≡ true) (sym h.1) (eq-eqb t task.0 (sym h.0))

  module _ (lists : List (List Reason)) (scans : List ℕ) (group : GroupId) (head : Head) (is_head : IsHead lists (length scans) head) where
    -- the lines of a head continue as what continues of it does
    head_ongoing : Continues has_frame t why (head_lines lists scans group head) → OngoingContinues has_frame t why head.ongoing
    head_ongoing h = ongoing_of scans group head.ongoing (get_or lists head.older.0 []) is_head.fits_older h

    -- a scan that refuses the task again leaves the head as it is
    refused_again : (at : ℕ) → Continues has_frame t why (head_lines lists scans group head) → IsRefusedBy (again at) group scans head head lists lists
    refused_again at h = refused_on scans group (again at) head lists is_head (ongoing_stays head.ongoing at (head_ongoing h))

    lines_again : (at : ℕ) → Continues has_frame t why (head_lines lists scans group head)
        → head_lines lists (scans ++ at ∷ []) group head ≡ after_refusal has_frame group.0 at (t, why) (head_lines lists scans group head)
    lines_again at h = (refused_again at h).lines has_frame (ongoing_held head.ongoing (head_ongoing h))

-- a scan that refuses an unchanged group leaves its head as it is
pub unchanged_refused : (model : Rules) (s : State) (on : CheckKind) (blamed : ℕ × Blame) (lists : List (List Reason)) (scans : List ℕ) (group : GroupId) (head : Head) → IsHead lists (length scans) head
    → first_blamed_in model s on group.0 ≡ Some blamed → IsUnchanged model on s group.0 (head_lines lists scans group head) → (at : ℕ)
    → head_lines lists (scans ++ at ∷ []) group head ≡ after_refusal (has_frame_in s) group.0 at blamed (head_lines lists scans group head)
unchanged_refused model s on blamed lists scans group head is_head first unchanged at =
    let goes = goes_on model s on group.0 blamed (head_lines lists scans group head) first unchanged in
    lines_again (has_frame_in s) goes.task goes.why lists scans group head is_head at goes.continues ∙ sym (goes.alike at)

-- a group is unchanged that has a standing blame: its newest line is the hold of that frame
pub held_goes_on : (model : Rules) (s : State) (on : CheckKind) (g : ℕ) (ls : List Line) (b : Option StandingBlame) → IsHeldBy s ls b → is_none b ≡ false → IsUnchanged model on s g ls
held_goes_on model s on g [] b held out = absurd (false≢true (sym out ∙ ap is_none held.blamed))
held_goes_on model s on g (line.Busy h2 task at ∷ older) b held out = absurd (false≢true (sym out ∙ ap is_none held.blamed))
held_goes_on model s on g (line.Born h2 p at ∷ older) b held out = absurd (false≢true (sym out ∙ ap is_none held.blamed))
held_goes_on model s on g (line.Hold h2 task serial from to ∷ older) b held out = by (has_frame_in s task.0 serial) refl
  where
    by : (p : Bool) → has_frame_in s task.0 serial ≡ p → has_frame_in s task.0 serial ≡ true
    by true there = there
    by false gone = absurd (false≢true (sym out ∙ ap is_none (held.blamed ∙ cond-false (has_frame_in s task.0 serial) (Some (record { task = task; serial = serial })) None gone)))
