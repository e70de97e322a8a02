-- Who waits after a fork and after a task's end, and with which lines.
use Rattle.std.proofs.Common.{◌≡◌, ◌≢◌, ℕ, ◌<◌, ◌≤◌, Bool, true, false, not, ◌&&◌, ◌||◌, List, ◌∷◌, Option, Some, None, is_some, if◌then◌else◌, nat_eq, refl, sym, ap, ap₂, ◌∙◌, ⊎_elim, arith}
use Rattle.std.specs.Option.{option_map}
use Rattle.std.proofs.lemmas.Bool.{false≢true, false_from_ne_true, cond-true, cond-false, and_parts, eqb-true, eq-eqb, ne_eqb, or_left, or_right, cases_eq}
use Rattle.lp_stack.specs.declared.number.TaskId.{TaskId}
use Rattle.lp_model.specs.Rules.{Rules, IsLawful}
use Rattle.lp_model.specs.declared.check.ForkKind.{ForkKind}
use Rattle.lp_definitions.specs.declared.event.Event.TheVariants.{Fork, Die}
use Rattle.lp_definitions.specs.Tasks.{Unused, Live, Dead, on_live, map_live}
use Rattle.lp_definitions.specs.Leg.{LegTask, State, is_alone}
use Rattle.lp_definitions.specs.Sound.{IsSound}
use Rattle.lp_machine.specs.Machine.{waits_in, affected, bearing, outlines_of, outline_of}
use Rattle.lp_machine.proofs.Alone.{alone-other}
use Rattle.lp_machine.proofs.EngineLemmas.{and-false}
use Rattle.lp_definitions.proofs.Quantifiers.{some_live-is, some_live-from, each_live-from, each_live-map, same_bool}
use Rattle.lp_definitions.specs.declared.line.Line.{Line}
use Rattle.lp_definitions.specs.Certificates.{birth_line}
use Rattle.lp_cert.specs.inside.Waiters.{after_fork, after_death}

-- ---- A fork

module _ (model : Rules) (s : State) (sound : IsSound s) (p c : TaskId) (how : ForkKind) (x : LegTask) (parent : s.tasks p.0 ≡ Live x) (positive : 0 < c.0) (within : c.0 ≤ s.bounds.tasks) (fresh : s.tasks c.0 ≡ Unused) where
  abbrev own : ℕ
  own = model.child_group x.group c.0 how

  abbrev off : ℕ → ℕ → LegTask → Bool
  off g t y = nat_eq y.group g && not (nat_eq y.level s.target)

  abbrev born : LegTask
  born = bearing model.child_group c.0 how x

  abbrev after : State
  after = affected model s (Fork p c how)

  child_there : after.tasks c.0 ≡ Live born
  child_there = cond-true (nat_eq c.0 c.0) (map_live (bearing model.child_group c.0 how) (s.tasks p.0)) (s.tasks c.0) (eq-eqb c.0 c.0 refl) ∙ ap (map_live (bearing model.child_group c.0 how)) parent

  other_there : (t : ℕ) → t ≢ c.0 → after.tasks t ≡ s.tasks t
  other_there t ne = cond-false (nat_eq t c.0) (map_live (bearing model.child_group c.0 how) (s.tasks p.0)) (s.tasks t) (ne_eqb t c.0 ne)

  fork-from : (g : ℕ) → waits_in after g ≡ true → (waits_in s g || (nat_eq own g && not (nat_eq x.level s.target))) ≡ true
  fork-from g holds =
      let w = some_live-is after.bounds after.tasks (off g) holds in
      ⊎_elim
      (λ (same : w.task ≡ c.0).
      let both : Live w.life ≡ Live born = sym w.live ∙ (ap after.tasks same ∙ child_there) in
      let is : w.life ≡ born = cc in
      or_right (waits_in s g) (nat_eq own g && not (nat_eq x.level s.target)) (ap (off g c.0) (sym is) ∙ w.passed))
      (λ (ne : w.task ≡ c.0 → ⊥).
      or_left (waits_in s g) (nat_eq own g && not (nat_eq x.level s.target))
      (some_live-from s.bounds s.tasks (off g) (record { task = w.task; life = w.life; positive = w.positive; within = w.within; live = sym (other_there w.task ne) ∙ w.live; passed = w.passed })))
      (cases_eq w.task c.0)

  fork-left : (g : ℕ) → waits_in s g ≡ true → waits_in after g ≡ true
  fork-left g holds =
      let w = some_live-is s.bounds s.tasks (off g) holds in
      let ne : w.task ≢ c.0 = λ same. absurd (unused_live w.life (sym fresh ∙ (ap s.tasks (sym same) ∙ w.live))) in
      some_live-from after.bounds after.tasks (off g) (record { task = w.task; life = w.life; positive = w.positive; within = w.within; live = other_there w.task ne ∙ w.live; passed = w.passed })
    where
      unused_live : (y : LegTask) → Unused ≡ Live y → ⊥
      unused_live y e = absurd (cc)

  fork-right : (g : ℕ) → (nat_eq own g && not (nat_eq x.level s.target)) ≡ true → waits_in after g ≡ true
  fork-right g holds = some_live-from after.bounds after.tasks (off g) (record { task = c.0; life = born; positive = positive; within = within; live = child_there; passed = holds })

  fork-waits : (g : ℕ) → waits_in after g ≡ (waits_in s g || (nat_eq own g && not (nat_eq x.level s.target)))
  fork-waits g =
      same_bool (waits_in after g) (waits_in s g || (nat_eq own g && not (nat_eq x.level s.target))) (fork-from g)
      (λ either. by (waits_in s g) refl either)
    where
      by : (b : Bool) → waits_in s g ≡ b → (waits_in s g || (nat_eq own g && not (nat_eq x.level s.target))) ≡ true → waits_in after g ≡ true
      by true e either = fork-left g e
      by false e either = fork-right g (ap (λ b. b || (nat_eq own g && not (nat_eq x.level s.target))) (sym e) ∙ either)

  -- nobody is in a group of the child's number yet
  none_before : waits_in s c.0 ≡ false
  none_before =
      false_from_ne_true (waits_in s c.0) (λ holds.
      let w = some_live-is s.bounds s.tasks (off c.0) holds in
      let both = and_parts (nat_eq w.life.group c.0) (not (nat_eq w.life.level s.target)) w.passed in
      let mine : w.life.group ≡ c.0 = eqb-true w.life.group c.0 both.0 in
      ⊎_elim
      (λ (zero : w.life.group ≡ 0). absurd (omega (arith, zero, mine)))
      (λ (used : s.tasks w.life.group ≢ Unused). used (ap s.tasks mine ∙ fresh))
      (sound.grouped w.task w.life w.live))

  -- the parent's group waits where the parent is off the target
  parent_waits : waits_in s x.group ≡ not (nat_eq x.level s.target)
  parent_waits =
      let numbers = sound.numbered p.0 x parent in
      same_bool (waits_in s x.group) (not (nat_eq x.level s.target))
      (λ holds.
      let w = some_live-is s.bounds s.tasks (off x.group) holds in
      let both = and_parts (nat_eq w.life.group x.group) (not (nat_eq w.life.level s.target)) w.passed in
      ap (λ l. not (nat_eq l s.target)) (sound.one_side p.0 w.task x w.life parent w.live (sym (eqb-true w.life.group x.group both.0))) ∙ both.1)
      (λ away.
      some_live-from s.bounds s.tasks (off x.group) (record { task = p.0; life = x; positive = numbers.0; within = numbers.1; live = parent; passed = ap₂ (λ a b. a && b) (eq-eqb x.group x.group refl) away }))

  -- a group that isn't the child's own waits as before
  other_waits : IsLawful model → (g : ℕ) → (nat_eq g c.0 && nat_eq g own) ≡ false → waits_in after g ≡ waits_in s g
  other_waits lawful g apart = fork-waits g ∙ by (nat_eq own g) refl
    where
      joined : (a b : Bool) → (b ≡ true → a ≡ true) → (a || b) ≡ a
      joined true b h = refl
      joined false true h = absurd (false≢true (h refl))
      joined false false h = refl

      by : (mine : Bool) → nat_eq own g ≡ mine → (waits_in s g || (nat_eq own g && not (nat_eq x.level s.target))) ≡ waits_in s g
      by false e = joined (waits_in s g) (nat_eq own g && not (nat_eq x.level s.target)) (λ h. absurd (false≢true (sym (ap (λ b. b && not (nat_eq x.level s.target)) e) ∙ h)))
      by true e =
          let is : own ≡ g = eqb-true own g e in
          joined (waits_in s g) (nat_eq own g && not (nat_eq x.level s.target)) (λ h.
          let both = and_parts (nat_eq own g) (not (nat_eq x.level s.target)) h in
          ⊎_elim
          (λ (stays : own ≡ x.group). ap (waits_in s) (sym is ∙ stays) ∙ (parent_waits ∙ both.1))
          (λ (parts : own ≡ c.0).
          let holds : (nat_eq g c.0 && nat_eq g own) ≡ true = ap₂ (λ a b. a && b) (eq-eqb g c.0 (sym is ∙ parts)) (eq-eqb g own (sym is)) in
          absurd (false≢true (sym apart ∙ holds)))
          (lawful.child x.group c.0 how))

  -- ---- Lines

  module _ (lawful : IsLawful model) (at g : ℕ) (before after_lines : ℕ → List Line) (old : ℕ → Option (List Line))
      (mine : old g ≡ (if waits_in s g then Some (before g) else None))
      (parents : old x.group ≡ (if waits_in s x.group then Some (before x.group) else None))
      (law : after_lines g ≡ (if nat_eq g c.0 && nat_eq g own then birth_line g p at ∷ before x.group else before g)) where
    apart_lines : (nat_eq g c.0 && nat_eq g own) ≡ false → after_fork model p c how at x.group old g ≡ (if waits_in after g then Some (after_lines g) else None)
    apart_lines apart =
        cond-false (is_some (old x.group) && (nat_eq g c.0 && nat_eq g own)) (option_map (λ ls. birth_line g p at ∷ ls) (old x.group)) (old g) (ap (λ b. is_some (old x.group) && b) apart ∙ and-false (is_some (old x.group)))
        ∙ (mine ∙ ap₂ (λ (b : Bool) (ls : List Line). if b then Some ls else None) (sym (other_waits lawful g apart)) (sym (law ∙ cond-false (nat_eq g c.0 && nat_eq g own) (birth_line g p at ∷ before x.group) (before g) apart)))

    born_lines : (nat_eq g c.0 && nat_eq g own) ≡ true → (b : Bool) → waits_in s x.group ≡ b → after_fork model p c how at x.group old g ≡ (if waits_in after g then Some (after_lines g) else None)
    born_lines born_here b waits = by b waits
      where
        same : g ≡ c.0
        same = eqb-true g c.0 (and_parts (nat_eq g c.0) (nat_eq g own) born_here).0

        is_own : own ≡ g
        is_own = sym (eqb-true g own (and_parts (nat_eq g c.0) (nat_eq g own) born_here).1)

        child_waits : waits_in after g ≡ waits_in s x.group
        child_waits =
            fork-waits g
            ∙ (ap₂ (λ a b. a || (b && not (nat_eq x.level s.target))) (ap (waits_in s) same ∙ none_before) (eq-eqb own g is_own)
            ∙ sym parent_waits)

        by : (b : Bool) → waits_in s x.group ≡ b → after_fork model p c how at x.group old g ≡ (if waits_in after g then Some (after_lines g) else None)
        by true w =
            let there : old x.group ≡ Some (before x.group) = parents ∙ cond-true (waits_in s x.group) (Some (before x.group)) None w in
            ap₂ (λ (o : Option (List Line)) (b : Bool). if is_some o && b then option_map (λ ls. birth_line g p at ∷ ls) o else old g) there born_here
            ∙ (ap {A = List Line} {B = Option (List Line)} Some (sym (law ∙ cond-true (nat_eq g c.0 && nat_eq g own) (birth_line g p at ∷ before x.group) (before g) born_here))
            ∙ sym (cond-true (waits_in after g) (Some (after_lines g)) None (child_waits ∙ w)))
        by false w =
            let there : old x.group ≡ None = parents ∙ cond-false (waits_in s x.group) (Some (before x.group)) None w in
            ap (λ (o : Option (List Line)). if is_some o && (nat_eq g c.0 && nat_eq g own) then option_map (λ ls. birth_line g p at ∷ ls) o else old g) there
            ∙ (mine
            ∙ (cond-false (waits_in s g) (Some (before g)) None (ap (waits_in s) same ∙ none_before)
            ∙ sym (cond-false (waits_in after g) (Some (after_lines g)) None (child_waits ∙ w))))

    pub fork_lines : after_fork model p c how at x.group old g ≡ (if waits_in after g then Some (after_lines g) else None)
    fork_lines = by (nat_eq g c.0 && nat_eq g own) refl
      where
        by : (b : Bool) → (nat_eq g c.0 && nat_eq g own) ≡ b → after_fork model p c how at x.group old g ≡ (if waits_in after g then Some (after_lines g) else None)
        by true e = born_lines e (waits_in s x.group) refl
        by false e = apart_lines e

-- ---- A task's end

module _ (model : Rules) (s : State) (sound : IsSound s) (t : TaskId) (x : LegTask) (dying : s.tasks t.0 ≡ Live x) where
  abbrev off_of : ℕ → ℕ → LegTask → Bool
  off_of g u y = nat_eq y.group g && not (nat_eq y.level s.target)

  abbrev left : State
  left = affected model s (Die t)

  abbrev alone : Bool
  alone = is_alone s.bounds (outlines_of s.tasks) x.group t.0

  dead_there : left.tasks t.0 ≡ Dead
  dead_there = cond-true (nat_eq t.0 t.0) Dead (s.tasks t.0) (eq-eqb t.0 t.0 refl)

  rest_there : (u : ℕ) → u ≢ t.0 → left.tasks u ≡ s.tasks u
  rest_there u ne = cond-false (nat_eq u t.0) Dead (s.tasks u) (ne_eqb u t.0 ne)

  dead_live : (y : LegTask) → Dead ≡ Live y → ⊥
  dead_live y e = absurd (cc)

  -- who waits afterwards is another task, which waited before
  survivor : (g : ℕ) → waits_in left g ≡ true → (u : ℕ) × (y : LegTask) × (u ≢ t.0) × (0 < u) × (u ≤ s.bounds.tasks) × (s.tasks u ≡ Live y) × (off_of g u y ≡ true)
  survivor g holds =
      let w = some_live-is left.bounds left.tasks (off_of g) holds in
      let ne : w.task ≢ t.0 = λ same. dead_live w.life (sym dead_there ∙ (ap left.tasks (sym same) ∙ w.live)) in
      (w.task, w.life, ne, w.positive, w.within, sym (rest_there w.task ne) ∙ w.live, w.passed)

  still_waits : (g u : ℕ) (y : LegTask) → u ≢ t.0 → 0 < u → u ≤ s.bounds.tasks → s.tasks u ≡ Live y → off_of g u y ≡ true → waits_in left g ≡ true
  still_waits g u y ne positive within live passed =
      some_live-from left.bounds left.tasks (off_of g) (record { task = u; life = y; positive = positive; within = within; live = rest_there u ne ∙ live; passed = passed })

  -- where the task was alone in the group, nobody waits in it
  none_left : (g : ℕ) → g ≡ x.group → alone ≡ true → waits_in left g ≡ false
  none_left g same lone =
      false_from_ne_true (waits_in left g) (λ holds.
      let w = survivor g holds in
      let both = and_parts (nat_eq w.1.group g) (not (nat_eq w.1.level s.target)) w.6 in
      w.2 (alone-other s.bounds s.tasks x.group t.0 x dying refl lone w.0 w.1 w.3 w.4 w.5 (eqb-true w.1.group g both.0 ∙ same)))

  -- where another member is left, it waits if the group did
  lone_if : (g : ℕ) → waits_in s g ≡ true → waits_in left g ≡ false → g ≡ x.group → alone ≡ true
  lone_if g before quiet same =
      let w = some_live-is s.bounds s.tasks (off_of g) before in
      let both = and_parts (nat_eq w.life.group g) (not (nat_eq w.life.level s.target)) w.passed in
      let away : not (nat_eq x.level s.target) ≡ true = ap (λ l. not (nat_eq l s.target)) (sound.one_side t.0 w.task x w.life dying w.live (sym same ∙ sym (eqb-true w.life.group g both.0))) ∙ both.1 in
      ap₂ (λ a b. a && b)
      (ap (λ f. on_live false (λ y. nat_eq y.group x.group) (map_live outline_of f)) dying ∙ eq-eqb x.group x.group refl)
      (each_live-map s.bounds outline_of s.tasks (λ other y. not (nat_eq y.group x.group) || nat_eq other t.0)
      ∙ each_live-from s.bounds s.tasks (λ other y. not (nat_eq y.group x.group) || nat_eq other t.0) (λ u y positive within live. by u y positive within live away (nat_eq y.group x.group) refl))
    where
      by : (u : ℕ) (y : LegTask) → 0 < u → u ≤ s.bounds.tasks → s.tasks u ≡ Live y → not (nat_eq x.level s.target) ≡ true → (mine : Bool) → nat_eq y.group x.group ≡ mine → (not (nat_eq y.group x.group) || nat_eq u t.0) ≡ true
      by u y positive within live away false e = or_left (not (nat_eq y.group x.group)) (nat_eq u t.0) (ap not e)
      by u y positive within live away true e =
          ⊎_elim
          (λ (is : u ≡ t.0). or_right (not (nat_eq y.group x.group)) (nat_eq u t.0) (eq-eqb u t.0 is))
          (λ (ne : u ≡ t.0 → ⊥).
          let mine : y.group ≡ x.group = eqb-true y.group x.group e in
          let far : not (nat_eq y.level s.target) ≡ true = ap (λ l. not (nat_eq l s.target)) (sound.one_side u t.0 y x live dying mine) ∙ away in
          let passed : off_of g u y ≡ true = ap₂ (λ a b. a && b) (eq-eqb y.group g (mine ∙ sym same)) far in
          absurd (false≢true (sym quiet ∙ still_waits g u y ne positive within live passed)))
          (cases_eq u t.0)

  die-waits : (g : ℕ) → (nat_eq g x.group && alone) ≡ false → waits_in left g ≡ waits_in s g
  die-waits g apart =
      same_bool (waits_in left g) (waits_in s g)
      (λ holds.
      let w = survivor g holds in
      some_live-from s.bounds s.tasks (off_of g) (record { task = w.0; life = w.1; positive = w.3; within = w.4; live = w.5; passed = w.6 }))
      (λ before. by before (waits_in left g) refl)
    where
      by : waits_in s g ≡ true → (b : Bool) → waits_in left g ≡ b → waits_in left g ≡ true
      by before true e = e
      by before false quiet =
          let w = some_live-is s.bounds s.tasks (off_of g) before in
          ⊎_elim
          (λ (same : w.task ≡ t.0).
          let both : Live w.life ≡ Live x = sym w.live ∙ (ap s.tasks same ∙ dying) in
          let is : w.life ≡ x = cc in
          let mine : g ≡ x.group = sym (eqb-true w.life.group g (and_parts (nat_eq w.life.group g) (not (nat_eq w.life.level s.target)) w.passed).0) ∙ ap (λ (y : LegTask). y.group) is in
          absurd (false≢true (sym apart ∙ ap₂ (λ a b. a && b) (eq-eqb g x.group mine) (lone_if g before quiet mine))))
          (λ (ne : w.task ≡ t.0 → ⊥). still_waits g w.task w.life ne w.positive w.within w.live w.passed)
          (cases_eq w.task t.0)

  pub die_lines : (g : ℕ) (before after_lines : ℕ → List Line) (old : ℕ → Option (List Line)) → old g ≡ (if waits_in s g then Some (before g) else None) → after_lines g ≡ before g
      → after_death x.group alone old g ≡ (if waits_in left g then Some (after_lines g) else None)
  die_lines g before after_lines old mine law = by (nat_eq g x.group && alone) refl
    where
      by : (b : Bool) → (nat_eq g x.group && alone) ≡ b → after_death x.group alone old g ≡ (if waits_in left g then Some (after_lines g) else None)
      by true e =
          let both = and_parts (nat_eq g x.group) alone e in
          cond-true (nat_eq g x.group && alone) None (old g) e
          ∙ sym (cond-false (waits_in left g) (Some (after_lines g)) None (none_left g (eqb-true g x.group both.0) both.1))
      by false e =
          cond-false (nat_eq g x.group && alone) None (old g) e
          ∙ (mine ∙ ap₂ (λ (b : Bool) (ls : List Line). if b then Some ls else None) (sym (die-waits g e)) (sym law))
