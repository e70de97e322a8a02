-- A further event changes no line of what came before.
use Rattle.std.proofs.Common.{◌≡◌, ℕ, zero, suc, ◌+◌, ◌≤◌, false, ◌&&◌, List, ◌∷◌, length, map, Option, Some, None, if◌then◌else◌, nat_eq, refl, ap, ap₂, ◌∙◌, arith}
use mathlib.Core.Path.{fun_ext}
use Rattle.std.specs.List.{range_with_len, list_any}
use Rattle.std.specs.Option.{option_map}
use Rattle.std.proofs.lemmas.List.Elements.{All-weaker}
use Rattle.lp_stack.specs.TaskView.{TaskView}
use Rattle.lp_model.specs.declared.check.CheckKind.{CheckKind}
use Rattle.lp_model.specs.declared.check.Blame.{Blame}
use Rattle.lp_model.specs.Rules.{Rules}
use Rattle.lp_definitions.specs.declared.event.Event.{Event}
use Rattle.lp_definitions.specs.declared.event.Event.TheVariants.{Fork}
use Rattle.lp_definitions.specs.Tasks.{Life, Fate, Unused, Live, Dead, Tasks, on_live, first_of}
use Rattle.lp_definitions.specs.Leg.{Leg, after, accepted, check}
use Rattle.lp_definitions.specs.Schedule.{view, first_check}
use Rattle.lp_definitions.specs.Run.{and_then}
use Rattle.lp_laws.proofs.First.{Agree, view_agrees}
use Rattle.lp_laws.proofs.NextTasks.{IsMadeBefore, made_later, from_later, made_before, come_from}
use Rattle.lp_laws.proofs.Prefix.{after_same, accepted_same, check_same, past_same}
use Rattle.lp_definitions.specs.declared.line.Line.{Line}
use Rattle.lp_definitions.specs.Certificates.{after_check, birth_line, has_frame, member_blame, first_blamed, with_birth, lines}

-- what is the same of each live task is the same of a fate
pub on_live_same : {A B : Type 0} (other : B) (f g : A → B) (fate : Fate A) → ((x : A) → fate ≡ Live x → f x ≡ g x) → on_live other f fate ≡ on_live other g fate
on_live_same other f g Unused same = refl
on_live_same other f g (Live x) same = same x refl
on_live_same other f g Dead same = refl

module _ (model : Rules) (leg : Leg) (event : Event) where
  abbrev pub longer : Leg
  longer = and_then leg event

  pub agree : Agree (length leg.events) (first_check model longer) (first_check model leg)
  unfolding Agree
  agree group j le = past_same model leg event group j le

  -- what a check saw of a task stays
  pub seen_same : (j t : ℕ) (x : Life) → j ≤ length leg.events → after model leg j t ≡ Live x
      → view longer (first_check model longer) t x ≡ view leg (first_check model leg) t x
  seen_same j t x le live =
      let n = length leg.events in
      view_agrees leg n t (first_check model longer) (first_check model leg) x agree
      (from_later j (suc n) (omega arith) x.origin (come_from model.child_group leg j t x live))
      (All-weaker (IsMadeBefore j) (IsMadeBefore (suc n)) (λ call m. made_later j (suc n) (omega arith) call m) x.calls (made_before model.child_group leg j t x live))

  frame_same : (j : ℕ) → j ≤ length leg.events → has_frame model longer j ≡ has_frame model leg j
  frame_same j le =
      fun_ext (λ t. fun_ext (λ serial.
      let has = λ (v : TaskView). list_any (λ frame. nat_eq frame.serial serial) v.frames in
      ap (λ ts. on_live false (λ x. has (view longer (first_check model longer) t x)) (ts t)) (after_same model leg event j le)
      ∙ on_live_same false (λ x. has (view longer (first_check model longer) t x)) (λ x. has (view leg (first_check model leg) t x)) (after model leg j t) (λ x live. ap has (seen_same j t x le live))))

  blame_same : (kind : CheckKind) (j group t : ℕ) → j ≤ length leg.events → member_blame model longer kind j group t ≡ member_blame model leg kind j group t
  blame_same kind j group t le =
      let blamed = λ (x : Life) (v : TaskView). if nat_eq x.group group then model.blame kind v leg.aim else None in
      ap (λ ts. on_live None (λ x. blamed x (view longer (first_check model longer) t x)) (ts t)) (after_same model leg event j le)
      ∙ on_live_same None (λ x. blamed x (view longer (first_check model longer) t x)) (λ x. blamed x (view leg (first_check model leg) t x)) (after model leg j t) (λ x live. ap (blamed x) (seen_same j t x le live))

  first_same : (o : Option CheckKind) (j group : ℕ) → j ≤ length leg.events → first_blamed model longer o j group ≡ first_blamed model leg o j group
  first_same None j group le = refl
  first_same (Some kind) j group le =
      ap {A = ℕ → Option (ℕ × Blame)} (λ at. first_of (map at (range_with_len 1 leg.bounds.tasks))) (fun_ext (λ t. ap (option_map (λ why. (t, why))) (blame_same kind j group t le)))

  birth_same : (j group : ℕ) (o : Option Event) (before : ℕ → List Line) → j ≤ length leg.events → with_birth model longer j group o before ≡ with_birth model leg j group o before
  birth_same j group (Some (Fork p c how)) before le =
      ap (λ (ts : Tasks).
      let parents = on_live 0 (λ x. x.group) (ts p.0) in
      if nat_eq group c.0 && nat_eq group (model.child_group parents c.0 how)
      then birth_line group p (leg.number + suc j) ∷ before parents
      else before group) (after_same model leg event j le)
  birth_same j group _ before le = refl

  pub lines_past : (j group : ℕ) → j ≤ length leg.events → lines model longer j group ≡ lines model leg j group
  unfolding lines
  lines_past zero group le = refl
  lines_past (suc j) group le =
      let at = leg.number + suc j in
      let blamed : first_blamed model longer (check model longer j group) (suc j) group ≡ first_blamed model leg (check model leg j group) (suc j) group =
      first_same (check model longer j group) (suc j) group le ∙ ap (λ o. first_blamed model leg o (suc j) group) (check_same model leg event j group (omega arith)) in
      let born : with_birth model longer j group (accepted model longer j) (lines model longer j) ≡ with_birth model leg j group (accepted model leg j) (lines model leg j) =
      birth_same j group (accepted model longer j) (lines model longer j) (omega arith)
      ∙ ap₂ (λ o ls. with_birth model leg j group o ls) (accepted_same model leg event j (omega arith)) (fun_ext (λ g. lines_past j g (omega arith))) in
      ap (λ frames. after_check frames group at (first_blamed model longer (check model longer j group) (suc j) group) (with_birth model longer j group (accepted model longer j) (lines model longer j))) (frame_same (suc j) le)
      ∙ ap₂ (λ b ls. after_check (has_frame model leg (suc j)) group at b ls) blamed born
