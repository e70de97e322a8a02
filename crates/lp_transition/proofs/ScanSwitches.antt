-- Waiting tasks switch with their groups, one after another.
use Rattle.std.proofs.Common.{◌≡◌, ◌≢◌, ℕ, Bool, true, false, not, ◌&&◌, ◌||◌, Option, Some, None, if◌then◌else◌, nat_eq, refl, sym, ap, ap₂, ◌∙◌, subst, ⊎_elim}
use Rattle.std.proofs.lemmas.Bool.{cond-true, cond-false, cases_Bool, cases_eq, eq-eqb, ne_eqb}
use Rattle.std.specs.Option.{option_map}
use Rattle.lp_numbers.specs.Numbers.{Numbers, has}
use Rattle.lp_definitions.specs.Leg.{LegTask}
use Rattle.lp_machine.specs.Table.{Table, slot}
use Rattle.lp_transition.specs.inside.ScanSteps.{switched_if, task_switches, IsTaskSwitched, AreSwitched}

-- ---- One task

switched-group : (switches : ℕ → Bool) (target : ℕ) (x : LegTask) → (switched_if switches target x).group ≡ x.group
switched-group switches target x =
    ⊎_elim
    (λ (went : switches x.group ≡ true). ap (λ (y : LegTask). y.group) (cond-true (switches x.group) (record x { level = target }) x went))
    (λ (stays : switches x.group ≡ false). ap (λ (y : LegTask). y.group) (cond-false (switches x.group) (record x { level = target }) x stays))
    (cases_Bool (switches x.group))

-- ---- One task after another

switched-again : (switches : ℕ → Bool) (target : ℕ) (x : LegTask) → switched_if switches target (switched_if switches target x) ≡ switched_if switches target x
switched-again switches target x =
    ⊎_elim
    (λ (went : switches x.group ≡ true).
    let one = cond-true (switches x.group) (record x { level = target }) x went in
    ap (switched_if switches target) one ∙ cond-true (switches x.group) (record x { level = target }) (record x { level = target }) went ∙ sym one)
    (λ (stays : switches x.group ≡ false). ap (switched_if switches target) (cond-false (switches x.group) (record x { level = target }) x stays))
    (cases_Bool (switches x.group))

-- who switched already stays where it is
slot_again : (switches : ℕ → Bool) (target : ℕ) (b : Bool) (o : Option LegTask) → option_map (switched_if switches target) (if b then option_map (switched_if switches target) o else o) ≡ option_map (switched_if switches target) o
slot_again switches target false o = refl
slot_again switches target true None = refl
slot_again switches target true (Some x) = ap Some (switched-again switches target x)

-- who switched is still of its group
switches_again : (switches : ℕ → Bool) (target : ℕ) (b : Bool) (o : Option LegTask) → task_switches switches (if b then option_map (switched_if switches target) o else o) ≡ task_switches switches o
switches_again switches target false o = refl
switches_again switches target true None = refl
switches_again switches target true (Some x) = ap switches (switched-group switches target x)

waits_again : (waits b g : Bool) → ((waits && not (b && g)) && not g) ≡ (waits && not (true && g))
waits_again false b g = refl
waits_again true false false = refl
waits_again true false true = refl
waits_again true true false = refl
waits_again true true true = refl

or_here : (b : Bool) → (b || (true || false)) ≡ true
or_here true = refl
or_here false = refl

or_elsewhere : (b : Bool) → (b || (false || false)) ≡ b
or_elsewhere true = refl
or_elsewhere false = refl

-- one more is taken
pub moving_more : (taken more switches : ℕ → Bool) (target n : ℕ) (old now new : Table) (waiting mid left : Numbers) → AreSwitched taken switches target old now waiting mid → IsTaskSwitched switches target n now new mid left → ((t : ℕ) → more t ≡ (taken t || (nat_eq t n || false))) → AreSwitched more switches target old new waiting left
moving_more taken more switches target n old now new waiting mid left so_far step also = record {
  tasks = λ t. ⊎_elim (λ (e : t ≡ n). subst (λ u. slot new u ≡ (if more u then option_map (switched_if switches target) (slot old u) else slot old u)) (sym e) task_here) (λ (ne : t ≡ n → ⊥). step.others t ne ∙ so_far.tasks t ∙ ap (λ b. if b then option_map (switched_if switches target) (slot old t) else slot old t) (elsewhere t ne)) (cases_eq t n);
  waits = λ t. ⊎_elim (λ (e : t ≡ n). subst (λ u. has left u ≡ (has waiting u && not (more u && task_switches switches (slot old u)))) (sym e) waits_here) (λ (ne : t ≡ n → ⊥). step.others_wait t ne ∙ so_far.waits t ∙ ap (λ b. has waiting t && not (b && task_switches switches (slot old t))) (elsewhere t ne)) (cases_eq t n);
  numbers = step.numbers ∙ so_far.numbers;
  used = step.used ∙ so_far.used;
  wide = λ wide. step.wide (so_far.wide wide);
}
  where
    here : more n ≡ true
    here = also n ∙ ap (λ b. taken n || (b || false)) (eq-eqb n n refl) ∙ or_here (taken n)

    elsewhere : (t : ℕ) → t ≢ n → taken t ≡ more t
    elsewhere t ne = sym (also t ∙ ap (λ b. taken t || (b || false)) (ne_eqb t n ne) ∙ or_elsewhere (taken t))

    task_here : slot new n ≡ (if more n then option_map (switched_if switches target) (slot old n) else slot old n)
    task_here = step.task ∙ ap (option_map (switched_if switches target)) (so_far.tasks n) ∙ slot_again switches target (taken n) (slot old n) ∙ sym (cond-true (more n) (option_map (switched_if switches target) (slot old n)) (slot old n) here)

    waits_here : has left n ≡ (has waiting n && not (more n && task_switches switches (slot old n)))
    waits_here =
        step.waits
        ∙ ap₂ (λ w g. w && not g) (so_far.waits n) (ap (task_switches switches) (so_far.tasks n) ∙ switches_again switches target (taken n) (slot old n))
        ∙ waits_again (has waiting n) (taken n) (task_switches switches (slot old n))
        ∙ ap (λ b. has waiting n && not (b && task_switches switches (slot old n))) (sym here)

-- ---- The same who go

goes : (switches : ℕ → Bool) (target : ℕ) (taken : Bool) (o : Option LegTask) → (if taken then option_map (switched_if switches target) o else o) ≡ (if taken && task_switches switches o then option_map (λ (x : LegTask). record x { level = target }) o else o)
goes switches target false o = refl
goes switches target true None = refl
goes switches target true (Some x) = by (switches x.group)
  where
    by : (b : Bool) → Some (if b then record x { level = target } else x) ≡ (if b then Some (record x { level = target }) else Some x)
    by true = refl
    by false = refl

-- where others are taken and other groups switch, and the same tasks go
pub same_switched : (taken others some all : ℕ → Bool) (target : ℕ) (old new : Table) (waiting left : Numbers) → ((t : ℕ) → (taken t && task_switches some (slot old t)) ≡ (others t && task_switches all (slot old t))) → AreSwitched taken some target old new waiting left → AreSwitched others all target old new waiting left
same_switched taken others some all target old new waiting left same are = record {
  tasks = λ t. are.tasks t ∙ goes some target (taken t) (slot old t) ∙ ap (λ b. if b then option_map (λ (x : LegTask). record x { level = target }) (slot old t) else slot old t) (same t) ∙ sym (goes all target (others t) (slot old t));
  waits = λ t. are.waits t ∙ ap (λ b. has waiting t && not b) (same t);
  numbers = are.numbers;
  used = are.used;
  wide = are.wide;
}

-- ---- Nobody

still_there : (switches : ℕ → Bool) (target : ℕ) (taken : Bool) (o : Option LegTask) → (taken ≡ true → task_switches switches o ≡ false) → o ≡ (if taken then option_map (switched_if switches target) o else o)
still_there switches target true None stays = refl
still_there switches target true (Some x) stays = ap Some (sym (cond-false (switches x.group) (record x { level = target }) x (stays refl)))
still_there switches target false o stays = refl

still_waits : (waits taken went : Bool) → (taken ≡ true → went ≡ false) → waits ≡ (waits && not (taken && went))
still_waits true true went stays = sym (ap not (stays refl))
still_waits true false went stays = refl
still_waits false taken went stays = refl

-- where no group of those who are taken switches all is as it was
pub none_switched : (taken switches : ℕ → Bool) (target : ℕ) (table : Table) (waiting : Numbers) → ((t : ℕ) → taken t ≡ true → task_switches switches (slot table t) ≡ false) → AreSwitched taken switches target table table waiting waiting
none_switched taken switches target table waiting stays = record {
  tasks = λ t. still_there switches target (taken t) (slot table t) (stays t);
  waits = λ t. still_waits (has waiting t) (taken t) (task_switches switches (slot table t)) (stays t);
  numbers = refl;
  used = refl;
  wide = λ wide. wide;
}
