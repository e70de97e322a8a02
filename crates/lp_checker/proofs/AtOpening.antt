-- Who waits at an opening.
use Rattle.std.proofs.Common.{◌≡◌, ◌≢◌, ℕ, ◌<◌, Bool, true, false, not, List, Option, Some, None, nat_eq, refl, sym, ap, ◌∙◌, arith}
use Rattle.std.proofs.lemmas.Bool.{and_parts, and_from, eqb-true, eq-eqb, ne_eqb, false_from_ne_true}
use Rattle.lp_numbers.specs.Numbers.{has}
use Rattle.lp_model.specs.Rules.{Rules}
use Rattle.lp_definitions.specs.declared.event.Event.{Event}
use Rattle.lp_definitions.specs.Chain.{nobody}
use Rattle.lp_definitions.specs.Leg.{Leg, LegTask, begin, tasks_after}
use Rattle.lp_tasks.specs.Openings.{IsOpening}
use Rattle.lp_definitions.specs.Schedule.{level, level_by, waits}
use Rattle.lp_machine.specs.Table.{Engine, slot, fate_at, leg_tasks}
use Rattle.lp_definitions.specs.Tasks.{Life, Live, map_live}
use Rattle.lp_laws.proofs.Waiting.{Waiter, waits-is, waits-from}
use Rattle.lp_checker.specs.Folds.{leg_with}
use Rattle.lp_checker.specs.inside.Sections.{is_waiting_member}

off_is : (level target : ℕ) → not (nat_eq level target) ≡ true → level ≢ target
off_is level target h e = let same = ap not (eq-eqb level target e) in absurd (cc)

is_off : (level target : ℕ) → level ≢ target → not (nat_eq level target) ≡ true
is_off level target ne = ap not (ne_eqb level target ne)

module _ (model : Rules) (opening : Engine) (events : List Event) (is : IsOpening opening) where
  abbrev leg : Leg
  leg = leg_with opening events

  begun : (t : ℕ) (x : LegTask) → slot opening.table t ≡ Some x → tasks_after model.child_group leg 0 t ≡ Live (begin x)
  unfolding tasks_after
  begun t x e = ap (λ o. map_live begin (fate_at o (has opening.table.used t))) e

  level_there : (x : LegTask) → level leg nobody 0 (begin x) ≡ x.level
  unfolding level_by
  level_there x = refl

  waits_if : (group t : ℕ) (o : Option LegTask) → slot opening.table t ≡ o → is_waiting_member opening.target group o ≡ true → waits model leg nobody 0 group ≡ true
  waits_if group t None e h = absurd (cc)
  waits_if group t (Some x) e h =
      let live : leg_tasks opening.table t ≡ Live x = ap (λ o. fate_at o (has opening.table.used t)) e in
      let numbered = is.sound.numbered t x live in
      let parts = and_parts (nat_eq x.group group) (not (nat_eq x.level opening.target)) h in
      waits-from model leg nobody 0 group (record {
        task = t;
        life = begin x;
        positive = numbered.0;
        within = numbered.1;
        live = begun t x e;
        member = eqb-true _ _ parts.0;
        off = λ same. off_is x.level opening.target parts.1 (sym (level_there x) ∙ same);
      })

  -- a task that is off the target at the opening
  pub waits_by : (group t : ℕ) → is_waiting_member opening.target group (slot opening.table t) ≡ true → waits model leg nobody 0 group ≡ true
  waits_by group t h = waits_if group t (slot opening.table t) refl h

  member_if : (group t : ℕ) (life : Life) (o : Option LegTask) (used : Bool) → map_live begin (fate_at o used) ≡ Live life → life.group ≡ group → level leg nobody 0 life ≢ opening.target → is_waiting_member opening.target group o ≡ true
  member_if group t life (Some x) used e member off =
      let same : begin x ≡ life = cc in
      let own : x.group ≡ group = ap (λ v. v.group) same ∙ member in
      and_from _ _ (eq-eqb x.group group own) (is_off x.level opening.target (λ on. off (ap (level leg nobody 0) (sym same) ∙ level_there x ∙ on)))
  member_if group t life None true e member off = absurd (cc)
  member_if group t life None false e member off = absurd (cc)

  member_by : (group : ℕ) (w : Waiter model leg nobody 0 group) → is_waiting_member opening.target group (slot opening.table w.task) ≡ true
  unfolding tasks_after
  member_by group w = member_if group w.task w.life (slot opening.table w.task) (has opening.table.used w.task) w.live w.member w.off

  -- nobody is
  pub waits_not : (group : ℕ) → ((t : ℕ) → t < 65536 → is_waiting_member opening.target group (slot opening.table t) ≡ false) → waits model leg nobody 0 group ≡ false
  waits_not group none =
      false_from_ne_true _ (λ h.
      let w = waits-is model leg nobody 0 group h in
      let yes = member_by group w in
      let no = none w.task (let within = w.within in omega (arith, within)) in
      absurd (cc))
