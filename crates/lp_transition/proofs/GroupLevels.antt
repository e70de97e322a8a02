-- The members of a group are on one level.
use Rattle.std.proofs.Common.{◌≡◌, ℕ, true, Option, Some, None, IfSome, refl, sym, ap, ◌∙◌}
use Rattle.std.specs.Option.{option_map}
use Rattle.std.proofs.lemmas.Bool.{false≢true, eqb-true}
use Rattle.lp_stack.specs.declared.number.Level.{Level}
use Rattle.lp_definitions.specs.Leg.{LegTask}
use Rattle.lp_definitions.specs.Sound.{IsSound}
use Rattle.lp_machine.specs.Table.{Engine, slot, state_in}
use Rattle.lp_tasks.specs.inside.Table.{is_in}
use Rattle.lp_tasks.proofs.TableLemmas.{live_from_slot}

same_level : (e : Engine) → IsSound (state_in e) → (group task t : ℕ) (a b : Option LegTask) → slot e.table task ≡ a → slot e.table t ≡ b → is_in group a ≡ true → is_in group b ≡ true → option_map (λ x. x.level) b ≡ option_map (λ x. x.level) a
same_level e sound group task t None b here there mine its = absurd (false≢true mine)
same_level e sound group task t (Some x) None here there mine its = absurd (false≢true its)
same_level e sound group task t (Some x) (Some y) here there mine its =
    ap Some (sound.one_side t task y x (live_from_slot e.table t y there) (live_from_slot e.table task x here) (eqb-true y.group group its ∙ sym (eqb-true x.group group mine)))

-- the level of one member is that of each
pub one_level : (e : Engine) → IsSound (state_in e) → (group task : ℕ) → is_in group (slot e.table task) ≡ true → (level : Option Level) → option_map (λ l. l.0) level ≡ option_map (λ x. x.level) (slot e.table task)
    → IfSome level (λ l. (t : ℕ) → is_in group (slot e.table t) ≡ true → option_map (λ x. x.level) (slot e.table t) ≡ Some l.0)
one_level e sound group task mine None is = tt
one_level e sound group task mine (Some level) is = λ t its. same_level e sound group task t (slot e.table task) (slot e.table t) refl refl mine its ∙ sym is

-- a fact that needs no level
pub if_some : {A : Type 0} (level : Option Level) → A → IfSome level (λ l. A)
if_some None a = tt
if_some (Some level) a = a
