-- Entries that come in turn, and the tasks of a start.
use Rattle.std.proofs.Common.{◌≡◌, ℕ, Bool, true, false, ◌||◌, List, [], ◌∷◌, ◌++◌, map, Some, None, nat_eq, if◌then◌else◌, refl, sym, ap, ◌∙◌}
use Rattle.std.specs.List.{list_any}
use Rattle.std.proofs.lemmas.List.Folds.{list_any-append}
use Rattle.lp_stack.specs.declared.number.TaskId.{TaskId}
use Rattle.lp_stack.specs.declared.view.Class.{Class}
use Rattle.lp_model.specs.Rules.{Rules}
use Rattle.lp_definitions.specs.Tasks.{Live, is_unused}
use Rattle.lp_definitions.specs.Leg.{State}
use Rattle.lp_definitions.specs.Run.{at_boot, booted, leg_after}
use Rattle.lp_transition.specs.Boot.{boot_fault, boot_refusal}
use Rattle.lp_transition.specs.declared.engine.boot.BootFault.TheVariants.{TaskRange, TaskDoubled}
use Rattle.lp_machine_laws.proofs.Runs.{started}
use Rattle.lp_board.specs.Names.{Name, run_of, state_after}
use Rattle.lp_log.specs.Audits.{brought_by, is_number}
use Rattle.lp_log.specs.Entries.{Entry}
use Rattle.lp_log.specs.Seats.{Seated, new_seat}
use Rattle.lp_owned.specs.Owned.{EachNew, InTurn, IsOfUsed, is_boot}

pub or_none : (b : Bool) → (b || false) ≡ b
or_none true = refl
or_none false = refl

pub or_again : (a b c : Bool) → ((a || b) || c) ≡ (a || (b || c))
or_again true b c = refl
or_again false b c = refl

-- ---- Entries in turn

of_used_as : (used other : ℕ → Bool) (entry : Entry) → ((t : ℕ) → used t ≡ other t) → IsOfUsed used entry → IsOfUsed other entry
of_used_as used other entry same is = record { sender = λ t o. sym (same t) ∙ is.sender t o; child = λ c b. sym (same c) ∙ is.child c b }

-- one entry more, of a task that there was by then
pub in_turn_more : (used : ℕ → Bool) (entries : List Entry) (entry : Entry) → InTurn used entries
    → IsOfUsed (λ (t : ℕ). used t || list_any (λ (e : Entry). is_number t (brought_by e)) entries) entry → InTurn used (entries ++ entry ∷ [])
in_turn_more used [] entry all last = (of_used_as _ used entry (λ t. or_none (used t)) last, tt)
in_turn_more used (e ∷ es) entry all last = (
  all.0,
  in_turn_more (λ (t : ℕ). used t || is_number t (brought_by e)) es entry all.1
      (of_used_as _ _ entry (λ t. sym (or_again (used t) (is_number t (brought_by e)) (list_any (λ (x : Entry). is_number t (brought_by x)) es))) last),
)

-- ---- The tasks of a start

booted_used : (model : Rules) (boots : List (TaskId × Class)) (t : ℕ) → is_boot boots t ≡ true → is_unused (booted model boots t) ≡ false
booted_used model [] t is = absurd (cc)
booted_used model (boot ∷ boots) t is = at (nat_eq t boot.0.0) is (λ i. booted_used model boots t i)
  where
    at : (b : Bool) → (b || is_boot boots t) ≡ true → (is_boot boots t ≡ true → is_unused (booted model boots t) ≡ false) → is_unused (if b then Live (at_boot model t boot.1) else booted model boots t) ≡ false
    at true i rest = refl
    at false i rest = rest i

-- each is used from the start on
pub starts_used : (name : Name) (t : ℕ) → is_boot name.boots t ≡ true → is_unused ((state_after name []).tasks t) ≡ false
unfolding state_after leg_after
starts_used name t is =
    ap (λ (s : State). is_unused (s.tasks t)) (started name.model (run_of name [])) ∙ booted_used name.model name.boots t is

-- what holds of the first task of a list without faults, and of the others
pub fit : (before : List (TaskId × Class)) (boot : TaskId × Class) (boots : List (TaskId × Class)) → boot_fault before (boot ∷ boots) ≡ None
    → (is_boot before boot.0.0 ≡ false) × (boot_fault (before ++ boot ∷ []) boots ≡ None)
fit before boot boots free = by (nat_eq boot.0.0 0) refl (is_boot before boot.0.0) refl free
  where
    by : (z : Bool) → nat_eq boot.0.0 0 ≡ z → (d : Bool) → is_boot before boot.0.0 ≡ d
        → (if z then Some TaskRange else if d then Some TaskDoubled else boot_fault (before ++ boot ∷ []) boots) ≡ None
        → (is_boot before boot.0.0 ≡ false) × (boot_fault (before ++ boot ∷ []) boots ≡ None)
    by true e d f h = absurd (cc)
    by false e true f h = absurd (cc)
    by false e false f h = (f, h)

or_false : (a b : Bool) → (a || b) ≡ false → (a ≡ false) × (b ≡ false)
or_false true b e = absurd (cc)
or_false false b e = (refl, e)

abbrev has_seat : ℕ → List Seated → Bool
has_seat task seats = list_any (λ (other : Seated). nat_eq task other.task) seats

abbrev seats_for : List (TaskId × Class) → List Seated
seats_for boots = map (λ (boot : TaskId × Class). new_seat boot.0.0) boots

nothing : {A : Type 0} (before after : List A) (x : A) → before ++ x ∷ after ≡ [] → ⊥
nothing [] after x is = cc
nothing (y ∷ before) after x is = cc

new_after : (before boots : List (TaskId × Class)) → boot_fault before boots ≡ None → (front back : List Seated) (seat : Seated) → front ++ seat ∷ back ≡ seats_for boots
    → (seat.entries ≡ []) × (is_boot before seat.task ≡ false) × (has_seat seat.task front ≡ false)
new_after before [] free front back seat is = absurd (nothing front back seat is)
new_after before (boot ∷ boots) free [] back seat is =
    let same : seat ≡ new_seat boot.0.0 = cc in (
      ap (λ (s : Seated). s.entries) same,
      ap (λ (s : Seated). is_boot before s.task) same ∙ (fit before boot boots free).0,
      refl,
    )
new_after before (boot ∷ boots) free (first ∷ front) back seat is =
    let same : first ≡ new_seat boot.0.0 = cc in
    let rest : front ++ seat ∷ back ≡ seats_for boots = cc in
    let more = new_after (before ++ boot ∷ []) boots (fit before boot boots free).1 front back seat rest in
    let parts = or_false (is_boot before seat.task) (nat_eq seat.task boot.0.0 || false) (sym (list_any-append (λ (other : TaskId × Class). nat_eq seat.task other.0.0) before (boot ∷ [])) ∙ more.1) in
    let other : nat_eq seat.task boot.0.0 ≡ false = sym (or_none (nat_eq seat.task boot.0.0)) ∙ parts.1 in (
      more.0,
      parts.0,
      ap (λ (s : Seated). nat_eq seat.task s.task || has_seat seat.task front) same ∙ ap (λ (b : Bool). b || has_seat seat.task front) other ∙ more.2,
    )

-- the seats of a start are new
pub each_new : (boots : List (TaskId × Class)) → boot_refusal boots ≡ None → EachNew (seats_for boots)
each_new boots free before after seat is = let all = new_after [] boots free before after seat is in (all.0, all.2)
