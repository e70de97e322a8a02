-- What a scan tells of each group, though it leaves out those that are unchanged.
use Rattle.std.proofs.Common.{◌≡◌, ℕ, Bool, true, false, not, ◌&&◌, ◌||◌, ◌⊎◌, List, [], ◌∷◌, map, Option, Some, None, IsTrue, nat_eq, refl, sym, ap, subst, inl, inr, ◌∙◌, ⊎_elim}
use Rattle.std.specs.List.{list_any}
use Rattle.std.specs.Option.{option_map}
use Rattle.std.proofs.lemmas.Bool.{cond-false, cases_Bool, and_parts, eqb-true, not-true}
use Rattle.lp_numbers.specs.Numbers.{has}
use Rattle.lp_model.specs.Rules.{Rules}
use Rattle.lp_model.specs.declared.check.Blame.{Blame}
use Rattle.lp_model.specs.declared.check.CheckKind.{CheckKind}
use Rattle.lp_model.specs.declared.verdict.Verdict.{Verdict}
use Rattle.lp_definitions.specs.Leg.{LegTask, State}
use Rattle.lp_machine.specs.Machine.{waits_in}
use Rattle.lp_transition.specs.Scan.{verdicts_of, is_of, member_verdict, first_refused, AreEnough}
use Rattle.lp_definitions.specs.Sound.{IsSound}
use Rattle.lp_definitions.specs.Tasks.{Live, first_of}
use Rattle.lp_definitions.proofs.Quantifiers.{some_live-is}
use Rattle.lp_definitions.specs.declared.line.Line.{Line}
use Rattle.lp_definitions.specs.Certificates.{group_id, after_refusal}
use Rattle.lp_cert.specs.Unchanged.{AreHeld, IsUnchanged, AreUnchangedBy, AreUnchangedSince}
use Rattle.lp_transition.specs.Blames.{blame_of, has_frame_in, is_open}
use Rattle.lp_machine.specs.Table.{Engine, state_in}
use Rattle.lp_definitions.specs.declared.event.Event.{Event}
use Rattle.lp_transition.specs.LastScan.{used_scan}
use Rattle.lp_transition.specs.Weigh.{IsKnown, Tells}
use Rattle.lp_cert.specs.Waiters.{WaitingGroups, head_of}
use Rattle.lp_cert.specs.inside.Waiters.{AreStanding, after_verdict, lines_in}
use Rattle.lp_cert.proofs.UnchangedLines.{held_goes_on, unchanged_refused}
use Rattle.lp_cert.proofs.VerdictLines.{verdicts_tell}

-- ---- Verdicts of other groups

or_parts : (a b : Bool) → (a || b) ≡ false → (a ≡ false) × (b ≡ false)
or_parts true b h = absurd (cc)
or_parts false b h = (refl, h)

-- where no verdict is of a member of the group, none refuses one
pub none_refused_of : (s : State) (g : ℕ) (vs : List Verdict) → list_any (is_of s g) vs ≡ false → first_refused s g vs ≡ None
none_refused_of s g [] none = refl
none_refused_of s g (v ∷ vs) none =
    let parts = or_parts (is_of s g v) (list_any (is_of s g) vs) none in
    ap (λ (o : Option (ℕ × Blame)). first_of (o ∷ map (member_verdict s g) vs)) (cond-false (is_of s g v) (option_map {U = ℕ × Blame} (λ why. (v.task.0, why)) v.blame) None parts.0)
    ∙ none_refused_of s g vs parts.1

-- ---- A scan that leaves out groups that are unchanged

-- of the group of each waiting task a verdict is of a member, or it is unchanged
abbrev pub ToldOrUnchanged : Rules → State → (lines : ℕ → List Line) → CheckKind → List Verdict → Type 0
ToldOrUnchanged model s lines on vs =
    (t : ℕ) (x : LegTask) → s.tasks t ≡ Live x → nat_eq x.level s.target ≡ false → (list_any (is_of s x.group) vs ≡ true) ⊎ IsUnchanged model on s x.group (lines x.group)

-- if it is a scan that the model uses
abbrev pub TellsOrUnchanged : Rules → State → (lines : ℕ → List Line) → Option CheckKind → List Verdict → Type 0
TellsOrUnchanged model s lines None vs = Unit {0}
TellsOrUnchanged model s lines (Some on) vs = ToldOrUnchanged model s lines on vs

-- what isn't told of goes on: a frame holds it back, or nothing happened to it since the last scan
pub tells_unchanged : (model : Rules) (e : Engine) (lines : ℕ → List Line) → AreUnchangedBy model (state_in e) lines e.last_scan → AreHeld (state_in e) lines e → (event : Event) (vs : List Verdict) → Tells model e event vs → TellsOrUnchanged model (state_in e) lines (used_scan model event) vs
tells_unchanged model e lines quiet held event vs told = by (used_scan model event) refl
  where
    by : (o : Option CheckKind) → used_scan model event ≡ o → TellsOrUnchanged model (state_in e) lines o vs
    by None none = tt
    by (Some on) some = λ t x live off.
        ⊎_elim
        (λ (here : list_any (is_of (state_in e) x.group) vs ≡ true). inl here)
        (λ (known : IsKnown e on x.group).
        ⊎_elim
        (λ (stuck : is_open e x.group ≡ false). inr (held_goes_on model (state_in e) on x.group (lines x.group) (blame_of e x.group) (held t x live off) stuck))
        (λ (left : (e.last_scan.kind ≡ Some on) × (has e.last_scan.changed x.group ≡ false)).
        inr (subst (λ (k : Option CheckKind). AreUnchangedSince model (state_in e) lines k (has e.last_scan.changed)) left.0 quiet t x live off left.1))
        known)
        (told on some t x live off)

module _ (model : Rules) (s : State) (sound : IsSound s) (on : CheckKind) (lines : ℕ → List Line) (vs : List Verdict) (enough : AreEnough model on s vs)
    (told : ToldOrUnchanged model s lines on vs) (waiters : WaitingGroups) (stand : AreStanding waiters) (at g : ℕ) (there : has waiters.groups g ≡ true) (same : lines_in waiters.reasons g ≡ lines g) (it_waits : IsTrue (waits_in s g))
    (blamed : ℕ × Blame) (first : first_refused s g (verdicts_of model on s) ≡ Some blamed) where
  abbrev Told : Type 0
  Told = after_verdict s at (first_refused s g vs) waiters.reasons g ≡ after_refusal (has_frame_in s) g at blamed (lines_in waiters.reasons g)

  told_here : (list_any (is_of s g) vs ≡ true) ⊎ IsUnchanged model on s g (lines g)
  told_here =
      let w = some_live-is s.bounds s.tasks (λ u y. nat_eq y.group g && not (nat_eq y.level s.target)) it_waits in
      let both = and_parts (nat_eq w.life.group g) (not (nat_eq w.life.level s.target)) w.passed in
      subst (λ k. (list_any (is_of s k) vs ≡ true) ⊎ IsUnchanged model on s k (lines k)) (eqb-true w.life.group g both.0)
      (told w.task w.life w.live (not-true (nat_eq w.life.level s.target) both.1))

  -- a verdict is of a member
  by_verdict : list_any (is_of s g) vs ≡ true → Told
  by_verdict some = ap (λ o. after_verdict s at o waiters.reasons g) (enough.first g some ∙ first)

  -- none is, and the group is unchanged
  by_itself : list_any (is_of s g) vs ≡ false → IsUnchanged model on s g (lines g) → Told
  by_itself none kept =
      ap (λ o. after_verdict s at o waiters.reasons g) (none_refused_of s g vs none)
      ∙ unchanged_refused model s on blamed waiters.reasons.lists waiters.reasons.scans (group_id g) (head_of waiters.reasons g) (stand g there)
      (sym (verdicts_tell model s sound on g it_waits) ∙ first) (subst (IsUnchanged model on s g) (sym same) kept) at

  -- the lines of the group are those after a scan of all
  pub scan_told : Told
  scan_told =
      ⊎_elim by_verdict
      (λ (kept : IsUnchanged model on s g (lines g)). ⊎_elim by_verdict (λ (none : list_any (is_of s g) vs ≡ false). by_itself none kept) (cases_Bool (list_any (is_of s g) vs)))
      told_here
