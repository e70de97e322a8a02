-- The heading after an event.
use Rattle.std.proofs.Common.{◌≡◌, ℕ, suc, pred, min, Bool, true, false, not, ◌&&◌, List, [], ◌∷◌, Option, Some, None, IsTrue, nat_eq, if◌then◌else◌, refl, sym, ap, ap₂, subst, ◌∙◌, arith}
use Rattle.std.proofs.lemmas.Bool.{eq-eqb, eqb-true, cond-true, cond-false}
use Rattle.std.specs.List.{filter_map, list_any, cons_option}
use Rattle.lp_stack.specs.declared.number.Level.{Level}
use Rattle.lp_stack.specs.declared.number.TaskId.{TaskId}
use Rattle.lp_model.specs.Rules.{Rules, IsLawful}
use Rattle.lp_model.specs.declared.verdict.Verdict.{Verdict}
use Rattle.lp_definitions.specs.declared.event.Event.{Event}
use Rattle.lp_definitions.specs.declared.event.Event.TheVariants.{Call, Ret, Sleep, Wake, Enter, Exit, Idle, Resched, Fork, Die, Walk, Stop, Enable, Disable, Reverse}
use Rattle.lp_definitions.specs.declared.refusal.Refusal.{Refusal}
use Rattle.lp_definitions.specs.declared.reply.What.{What}
use Rattle.lp_definitions.specs.declared.reply.What.TheVariants.{Ran, Done, Switched, Refused}
use Rattle.lp_definitions.specs.Events.{is_control}
use Rattle.lp_definitions.specs.Tasks.{Fate, Unused, Live, Dead}
use Rattle.lp_definitions.specs.Leg.{LegTask, State}
use Rattle.lp_definitions.specs.Sound.{IsSound}
use Rattle.lp_definitions.specs.Run.{switched}
use Rattle.lp_machine.specs.Machine.{complete_in, affected, switched_groups, with_switches, refusal_of, next, answer, next_by, answer_by}
use Rattle.lp_machine.specs.Table.{Engine, IsWide, slot, leg_tasks, state_in}
use Rattle.lp_transition.specs.Weigh.{Weighed, IsWeighed, AreVerdictsFor}
use Rattle.lp_transition.specs.inside.ScanSteps.{task_switches}
use Rattle.lp_definitions.proofs.Quantifiers.{each_live-at, each_live-from}
use Rattle.lp_board.specs.declared.sheet.Heading.{Heading}
use Rattle.lp_board.specs.declared.sheet.Update.{Update}
use Rattle.lp_board.specs.Pages.{level_of, level_by, IsHeading, Leads}
use Rattle.lp_board.specs.inside.Changes.{target_if, levels_switched, levels_done, levels_by, heading_on, heading_unless, heading_by}
use Rattle.lp_board.proofs.NewLevels.{levels-lead}

-- ---- Levels that are on the target, where there are any

abbrev IsOn : ℕ → Option Level → Type 0
IsOn target None = Unit {0}
IsOn target (Some level) = level.0 ≡ target

abbrev AllOn : ℕ → List (TaskId × Option Level) → Type 0
AllOn target [] = Unit {0}
AllOn target (m ∷ ms) = IsOn target m.1 × AllOn target ms

on_if : (target : ℕ) (b : Bool) (x y : Option Level) → IsOn target x → IsOn target y → IsOn target (if b then x else y)
on_if target true x y hx hy = hx
on_if target false x y hx hy = hy

by-on : (target : ℕ) (ms : List (TaskId × Option Level)) (u : ℕ) (old : Option Level) → AllOn target ms → IsOn target old → IsOn target (level_by ms u old)
by-on target [] u old all h = h
by-on target (m ∷ ms) u old all h = by-on target ms u (if nat_eq m.0.0 u then m.1 else old) all.1 (on_if target (nat_eq m.0.0 u) m.1 old all.0 h)

level-on : (e : Engine) (switches : ℕ → Bool) (vs : List Verdict) → AllOn e.target (filter_map (target_if e switches) vs)
level-on e switches [] = tt
level-on e switches (v ∷ vs) = by (level-on e switches vs) (task_switches switches (slot e.table v.task.0)) refl
  where
    by : AllOn e.target (filter_map (target_if e switches) vs) → (b : Bool) → task_switches switches (slot e.table v.task.0) ≡ b → AllOn e.target (filter_map (target_if e switches) (v ∷ vs))
    by rest true is = subst (AllOn e.target) (ap (λ o. cons_option o (filter_map (target_if e switches) vs)) (sym (cond-true _ _ _ is))) (refl, rest)
    by rest false is = subst (AllOn e.target) (ap (λ o. cons_option o (filter_map (target_if e switches) vs)) (sym (cond-false _ _ _ is))) rest

done-on : (e : Engine) (event : Event) → ((u : ℕ) → IsOn e.target (level_of (leg_tasks e.table u))) → AllOn e.target (levels_done e event)
done-on e (Call t f) on = tt
done-on e (Ret t) on = tt
done-on e (Sleep t) on = tt
done-on e (Wake t) on = tt
done-on e (Enter t) on = tt
done-on e (Exit t) on = tt
done-on e (Idle t) on = tt
done-on e (Resched t) on = tt
done-on e (Fork p c how) on = (on p.0, tt)
done-on e (Die t) on = (tt, tt)
done-on e Walk on = tt
done-on e Stop on = tt
done-on e Enable on = tt
done-on e Disable on = tt
done-on e Reverse on = tt

switched-on : (e : Engine) (event : Event) (groups : List ℕ) (vs : List Verdict) → AllOn e.target (levels_switched e event groups vs)
switched-on e (Call t f) groups vs = level-on e (λ n. list_any (nat_eq n) groups) vs
switched-on e (Ret t) groups vs = level-on e (λ n. list_any (nat_eq n) groups) vs
switched-on e (Sleep t) groups vs = level-on e (λ n. list_any (nat_eq n) groups) vs
switched-on e (Wake t) groups vs = level-on e (λ n. list_any (nat_eq n) groups) vs
switched-on e (Enter t) groups vs = level-on e (λ n. list_any (nat_eq n) groups) vs
switched-on e (Exit t) groups vs = (refl, tt)
switched-on e (Idle t) groups vs = (refl, tt)
switched-on e (Resched t) groups vs = (refl, tt)
switched-on e (Fork p c how) groups vs = level-on e (λ n. list_any (nat_eq n) groups) vs
switched-on e (Die t) groups vs = level-on e (λ n. list_any (nat_eq n) groups) vs
switched-on e Walk groups vs = level-on e (λ n. list_any (nat_eq n) groups) vs
switched-on e Stop groups vs = level-on e (λ n. list_any (nat_eq n) groups) vs
switched-on e Enable groups vs = level-on e (λ n. list_any (nat_eq n) groups) vs
switched-on e Disable groups vs = level-on e (λ n. list_any (nat_eq n) groups) vs
switched-on e Reverse groups vs = level-on e (λ n. list_any (nat_eq n) groups) vs

levels-on : (e : Engine) (event : Event) (what : What) (vs : List Verdict) → ((u : ℕ) → IsOn e.target (level_of (leg_tasks e.table u))) → AllOn e.target (levels_by e event what vs)
levels-on e event (Ran l) vs on = tt
levels-on e event Done vs on = done-on e event on
levels-on e event (Switched groups) vs on = switched-on e event groups vs
levels-on e event (Refused why) vs on = tt

on_fate : (target u : ℕ) (fate : Fate LegTask) → ((x : LegTask) → fate ≡ Live x → x.level ≡ target) → IsOn target (level_of fate)
on_fate target u Unused h = tt
on_fate target u (Live x) h = h x refl
on_fate target u Dead h = tt

fate_on : (target : ℕ) (fate : Fate LegTask) (x : LegTask) → fate ≡ Live x → IsOn target (level_of fate) → x.level ≡ target
fate_on target fate x is on = let h : IsOn target (level_of (Live x)) = subst (λ f. IsOn target (level_of f)) is on in h

-- ---- What is complete stays complete

module _ (model : Rules) (lawful : IsLawful model) (e : Engine) (sound : IsSound (state_in e)) (wide : IsWide e.table) (vs : List Verdict) where
  abbrev s : State
  s = state_in e

  all_on : IsTrue (complete_in s) → (u : ℕ) → IsOn e.target (level_of (leg_tasks e.table u))
  all_on rest u = on_fate e.target u (leg_tasks e.table u) (λ x live. let b = sound.numbered u x live in eqb-true x.level e.target (each_live-at s.bounds s.tasks (λ t y. nat_eq y.level s.target) rest u x b.0 b.1 live))

  complete-stays : (event : Event) → AreVerdictsFor model s event vs → refusal_of model s event ≡ None → is_control event ≡ false → IsTrue (complete_in s) → IsTrue (complete_in (with_switches model s event))
  complete-stays event given accepted plain rest =
      let after = with_switches model s event in
      let is : next_by model s event None ≡ after = cond-false _ _ _ plain in
      each_live-from after.bounds after.tasks (λ t y. nat_eq y.level after.target) (λ u x positive within live.
      let moved = levels-lead model lawful e sound wide vs event given None u in
      let on : IsOn e.target (level_by (levels_by e event (answer_by model s event None).what vs) u (level_of (leg_tasks e.table u))) = by-on e.target (levels_by e event (answer_by model s event None).what vs) u (level_of (leg_tasks e.table u)) (levels-on e event (answer_by model s event None).what vs (all_on rest)) (all_on rest u) in
      let there : IsOn e.target (level_of (after.tasks u)) = subst (IsOn e.target) (moved ∙ ap (λ (n : State). level_of (n.tasks u)) is) on in
      eq-eqb x.level e.target (fate_on e.target (after.tasks u) x live there))

  -- ---- The heading

  flag : (r a : Bool) (in_transition : Bool) → in_transition ≡ not r → (r ≡ true → a ≡ true) → (in_transition && not (a && not r)) ≡ not a
  flag true true in_transition is stays = ap (λ m. m && not (true && not true)) is
  flag true false in_transition is stays = absurd (let h : false ≡ true = stays refl in cc)
  flag false true in_transition is stays = ap (λ m. m && not (true && not false)) is
  flag false false in_transition is stays = ap (λ m. m && not (false && not false)) is

  plain-heading : (event : Event) (heading : Heading) → AreVerdictsFor model s event vs → refusal_of model s event ≡ None → is_control event ≡ false → IsHeading heading s
      → IsHeading (record { in_transition = heading.in_transition && not (complete_in (with_switches model s event) && not (complete_in s)); lower = heading.lower }) (with_switches model s event)
  plain-heading event heading given accepted plain was = record {
    in_transition = flag (complete_in s) (complete_in (with_switches model s event)) heading.in_transition was.in_transition (λ rest. complete-stays event given accepted plain rest);
    lower = was.lower;
  }

  least_next : (n : ℕ) → n ≡ min n (suc n)
  least_next n = omega arith

  least_last : (n : ℕ) → pred n ≡ min n (pred n)
  least_last n = omega arith

  least_other : (m n : ℕ) → min m n ≡ min n m
  least_other m n = omega arith

  what-heading : (event : Event) (groups : List ℕ) (in_transition : Bool) (heading : Heading) (target : Level) → heading_unless target event (switched groups) in_transition heading ≡ heading_on target event in_transition heading
  what-heading event [] in_transition heading target = refl
  what-heading event (g ∷ gs) in_transition heading target = refl

  told-heading : (event : Event) (heading : Heading) (target : Level) → AreVerdictsFor model s event vs → refusal_of model s event ≡ None → is_control event ≡ false → IsHeading heading s
      → heading_on target event (not (complete_in (with_switches model s event) && not (complete_in s))) heading ≡ record { in_transition = heading.in_transition && not (complete_in (with_switches model s event) && not (complete_in s)); lower = heading.lower }
      → IsHeading (heading_unless target event (switched (switched_groups model (affected model s event) event)) (not (complete_in (with_switches model s event) && not (complete_in s))) heading) (with_switches model s event)
  told-heading event heading target given accepted plain was computes =
      subst (λ h. IsHeading h (with_switches model s event)) (sym (what-heading event (switched_groups model (affected model s event) event) (not (complete_in (with_switches model s event) && not (complete_in s))) heading target ∙ computes)) (plain-heading event heading given accepted plain was)

  heading-leads : (event : Event) (heading : Heading) (target : Level) → target.0 ≡ e.target → AreVerdictsFor model s event vs → IsHeading heading s → (refusal : Option Refusal) → refusal_of model s event ≡ refusal
      → IsHeading (heading_unless target event (answer_by model s event refusal).what (not (answer_by model s event refusal).completed) heading) (next_by model s event refusal)
  heading-leads event heading target aims given was (Some why) is = record { in_transition = was.in_transition; lower = was.lower }
  heading-leads Enable heading target aims given was None is = record { in_transition = refl; lower = aims ∙ least_next e.target }
  heading-leads Disable heading target aims given was None is = record { in_transition = refl; lower = ap pred aims ∙ least_last e.target }
  heading-leads Reverse heading target aims given was None is = record { in_transition = refl; lower = was.lower ∙ least_other e.from e.target }
  heading-leads (Call t f) heading target aims given was None is = plain-heading (Call t f) heading given is refl was
  heading-leads (Ret t) heading target aims given was None is = told-heading (Ret t) heading target given is refl was refl
  heading-leads (Sleep t) heading target aims given was None is = told-heading (Sleep t) heading target given is refl was refl
  heading-leads (Wake t) heading target aims given was None is = told-heading (Wake t) heading target given is refl was refl
  heading-leads (Enter t) heading target aims given was None is = told-heading (Enter t) heading target given is refl was refl
  heading-leads (Exit t) heading target aims given was None is = told-heading (Exit t) heading target given is refl was refl
  heading-leads (Idle t) heading target aims given was None is = told-heading (Idle t) heading target given is refl was refl
  heading-leads (Resched t) heading target aims given was None is = told-heading (Resched t) heading target given is refl was refl
  heading-leads (Fork p c how) heading target aims given was None is = told-heading (Fork p c how) heading target given is refl was refl
  heading-leads (Die t) heading target aims given was None is = told-heading (Die t) heading target given is refl was refl
  heading-leads Walk heading target aims given was None is = told-heading Walk heading target given is refl was refl
  heading-leads Stop heading target aims given was None is = told-heading Stop heading target given is refl was refl

  -- what an event that was weighed changes
  pub update-leads : (step : Weighed) (target : Level) (heading : Heading) → step.verdicts ≡ vs → target.0 ≡ e.target → IsWeighed model e step → IsHeading heading s
      → (levels : List (TaskId × Option Level)) (now : Heading) (update : Update) → levels ≡ levels_by e step.event step.reply.what step.verdicts → now ≡ heading_by target step.event step.reply heading → update.levels.items ≡ levels → update.heading ≡ now
      → Leads s update (next model s step.event)
  unfolding next answer
  update-leads step target heading verdicts aims weighed was levels now update levels_are now_is items head =
      let given : AreVerdictsFor model s step.event vs = subst (AreVerdictsFor model s step.event) verdicts weighed.verdicts in
      record {
        levels = λ t h. ap (λ ms. level_by ms t (level_of (leg_tasks e.table t))) (items ∙ levels_are ∙ ap₂ (λ r v. levels_by e step.event r.what v) weighed.reply verdicts) ∙ levels-lead model lawful e sound wide vs step.event given (refusal_of model s step.event) t;
        heading = subst (λ h. IsHeading h (next model s step.event)) (sym (head ∙ now_is ∙ ap (λ r. heading_by target step.event r heading) weighed.reply)) (heading-leads step.event heading target aims given was (refusal_of model s step.event) refl);
      }
