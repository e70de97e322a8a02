-- The boot tasks, one after another.
use Rattle.std.proofs.Common.{◌≡◌, ℕ, zero, suc, ◌+◌, ◌<◌, ◌≤◌, Bool, true, false, ◌||◌, List, [], ◌∷◌, ◌++◌, length, get_or, set, take, drop, replicate, All, if◌then◌else◌, nat_eq, Option, None, Some, refl, sym, ap, subst, ◌∙◌, append_assoc, append-nil, add-one, drop-cons, arith}
use Rattle.std.proofs.Math.Seq.{take-suc}
use Rattle.std.specs.List.{list_any}
use Rattle.std.proofs.lemmas.Grind.{common_steps, elements}
use Rattle.std.proofs.lemmas.Bool.{false≢true, eqb-true, eq-eqb, cond-false}
use Rattle.std.proofs.lemmas.List.Elements.{All-nil, All-more}
use Rattle.std.proofs.lemmas.Bool.Decides.{nat_tests}
use Rattle.std.proofs.lemmas.List.Folds.{list_any_more}
use mathlib.Core.Path.{fun_ext}
use Rattle.lp_numbers.specs.Numbers.{Numbers, has, IsEmpty}
use Rattle.lp_stack.specs.declared.number.TaskId.{TaskId}
use Rattle.lp_stack.specs.declared.view.Class.{Class}
use Rattle.lp_patch.specs.Patches.{Patches}
use Rattle.lp_model.specs.Rules.{Rules, IsLawful}
use Rattle.lp_transition.specs.declared.engine.boot.BootFault.TheVariants.{TaskRange, TaskDoubled}
use Rattle.lp_definitions.specs.Tasks.{Fate, Unused, Live, on_live}
use Rattle.lp_definitions.specs.Leg.{LegTask, State}
use Rattle.lp_definitions.specs.Run.{Run, at_boot, booted, AreInRange, start, leg_after}
use Rattle.lp_definitions.specs.Sound.{IsSound}
use Rattle.lp_machine.specs.Steps.{StandsIn}
use Rattle.lp_transition.specs.inside.Invariant.{IsEngine}
use Rattle.lp_transition.specs.Boot.{boot_fault, boot_refusal}
use Rattle.lp_machine.specs.declared.standing_blame.StandingBlame.{StandingBlame}
use Rattle.lp_machine.specs.Table.{Table, Engine, state_in, bounds_of, slot, fate_at, leg_tasks, IsWide, LastScan}
use Rattle.lp_tasks.specs.inside.Table.{IsBlank, with_task, is_off}
use Rattle.lp_machine_laws.proofs.Runs.{started}
use Rattle.lp_laws.proofs.WholeRun.{start_sound}
use Rattle.lp_tasks.proofs.TableLemmas.{leg_tasks-blank, leg_tasks-with_task, IsWide-with_task}

-- a boot task has the number
abbrev pub has_number : ℕ → List (TaskId × Class) → Bool
has_number t boots = list_any (λ (boot : TaskId × Class). nat_eq t boot.0.0) boots

-- ---- Faults

-- the task at a place, after those in front of it
pub boot_fault_at : (boots : List (TaskId × Class)) (i : ℕ) (d : TaskId × Class) → i < length boots → boot_fault (take i boots) (drop i boots) ≡ (if nat_eq (get_or boots i d).0.0 0 then Some TaskRange else if has_number (get_or boots i d).0.0 (take i boots) then Some TaskDoubled else boot_fault (take (i + 1) boots) (drop (i + 1) boots))
boot_fault_at boots i d h = rw (add-one, drop-cons boots i d h, take-suc boots i d h) refl

-- a mark more
marked-set : (seen : Numbers) (n q : ℕ) → n < length seen → has (set seen n true) q ≡ (has seen q || nat_eq q n)
marked-set seen n q h = grind (arith, common_steps, elements)

-- the numbers so far, and one more
pub marked-more : (seen : Numbers) (boots : List (TaskId × Class)) (i : ℕ) (d : TaskId × Class) (q : ℕ) → i < length boots → (get_or boots i d).0.0 < length seen → has seen q ≡ has_number q (take i boots) → has (set seen (get_or boots i d).0.0 true) q ≡ has_number q (take (i + 1) boots)
marked-more seen boots i d q h l same =
    marked-set seen (get_or boots i d).0.0 q l ∙ ap (λ b. b || nat_eq q (get_or boots i d).0.0) same
    ∙ sym (list_any_more (λ (boot : TaskId × Class). nat_eq q boot.0.0) boots i d h)

-- nothing is marked
pub none_marked : (n q : ℕ) → get_or {A = Bool} (replicate n false) q false ≡ false
none_marked zero q = refl
none_marked (suc n) zero = refl
none_marked (suc n) (suc q) = none_marked n q

-- what holds of a boot task in a list without faults
pub record IsFit (before : List (TaskId × Class)) (boot : TaskId × Class) : Type 0 where
  pub positive : 0 < boot.0.0
  pub fresh : has_number boot.0.0 before ≡ false

-- the first task is at no fault, nor are the others
fit_first : (before : List (TaskId × Class)) (boot : TaskId × Class) (boots : List (TaskId × Class)) → boot_fault before (boot ∷ boots) ≡ None → IsFit before boot × (boot_fault (before ++ boot ∷ []) boots ≡ None)
fit_first before boot boots free = by (nat_eq boot.0.0 0) refl (has_number boot.0.0 before) refl free
  where
    by : (z : Bool) → nat_eq boot.0.0 0 ≡ z → (d : Bool) → has_number boot.0.0 before ≡ d → (if z then Some TaskRange else if d then Some TaskDoubled else boot_fault (before ++ boot ∷ []) boots) ≡ None → IsFit before boot × (boot_fault (before ++ boot ∷ []) boots ≡ None)
    by true e d f free = absurd (cc)
    by false e true f free = absurd (cc)
    by false e false f free = (record { positive = grind (arith, nat_tests, e); fresh = f }, free)

fit_after : (before boots : List (TaskId × Class)) (i : ℕ) (d : TaskId × Class) → boot_fault before boots ≡ None → i < length boots → IsFit (before ++ take i boots) (get_or boots i d)
fit_after before [] i d free h = absurd (omega arith)
fit_after before (boot ∷ boots) zero d free h = rw (append-nil before) (fit_first before boot boots free).0
fit_after before (boot ∷ boots) (suc i) d free h =
    let rest = fit_after (before ++ boot ∷ []) boots i d (fit_first before boot boots free).1 (omega arith) in
    rw append_assoc at rest

-- the task at a place of a list without faults
pub fit_at : (boots : List (TaskId × Class)) (i : ℕ) (d : TaskId × Class) → boot_refusal boots ≡ None → i < length boots → IsFit (take i boots) (get_or boots i d)
fit_at boots i d free h = fit_after [] boots i d free h

-- ---- The tasks that the list puts

or_false : (a b : Bool) → (a || b) ≡ false → (a ≡ false) × (b ≡ false)
or_false true b h = absurd (cc)
or_false false b h = (refl, h)

module _ (model : Rules) where
  -- who isn't in the list isn't put
  pub booted-none : (boots : List (TaskId × Class)) (t : ℕ) → has_number t boots ≡ false → booted model boots t ≡ Unused
  booted-none [] t none = refl
  booted-none (boot ∷ boots) t none = let parts = or_false (nat_eq t boot.0.0) (has_number t boots) none in cond-false _ _ _ parts.0 ∙ booted-none boots t parts.1

  -- one task more at the end
  booted-append : (boots : List (TaskId × Class)) (boot : TaskId × Class) (t : ℕ) → has_number boot.0.0 boots ≡ false → booted model (boots ++ boot ∷ []) t ≡ (if nat_eq t boot.0.0 then Live (at_boot model boot.0.0 boot.1) else booted model boots t)
  booted-append [] boot t none = by (nat_eq t boot.0.0) refl
    where
      by : (b : Bool) → nat_eq t boot.0.0 ≡ b → (if b then Live (at_boot model t boot.1) else Unused) ≡ (if b then Live (at_boot model boot.0.0 boot.1) else Unused)
      by true e = ap (λ n. Live (at_boot model n boot.1)) (eqb-true t boot.0.0 e)
      by false e = refl
  booted-append (first ∷ boots) boot t none =
      let parts = or_false (nat_eq boot.0.0 first.0.0) (has_number boot.0.0 boots) none in
      by (nat_eq t first.0.0) refl (nat_eq t boot.0.0) refl parts.0 (booted-append boots boot t parts.1)
    where
      by : (b : Bool) → nat_eq t first.0.0 ≡ b → (d : Bool) → nat_eq t boot.0.0 ≡ d → nat_eq boot.0.0 first.0.0 ≡ false → booted model (boots ++ boot ∷ []) t ≡ (if d then Live (at_boot model boot.0.0 boot.1) else booted model boots t)
          → (if b then Live (at_boot model t first.1) else booted model (boots ++ boot ∷ []) t) ≡ (if d then Live (at_boot model boot.0.0 boot.1) else if b then Live (at_boot model t first.1) else booted model boots t)
      by false e d f ne rest = rest
      by true e false f ne rest = refl
      by true e true f ne rest = let same = eq-eqb boot.0.0 first.0.0 (sym (eqb-true t boot.0.0 f) ∙ eqb-true t first.0.0 e) in absurd (cc)

  -- the tasks after one more place of the list
  pub booted-more : (boots : List (TaskId × Class)) (i : ℕ) (d : TaskId × Class) → boot_refusal boots ≡ None → i < length boots → booted model (take (i + 1) boots) ≡ (λ t. if nat_eq t (get_or boots i d).0.0 then Live (at_boot model (get_or boots i d).0.0 (get_or boots i d).1) else booted model (take i boots) t)
  booted-more boots i d free h =
      rw (add-one, take-suc boots i d h) (fun_ext (λ t. booted-append (take i boots) (get_or boots i d) t (fit_at boots i d free h).fresh))

  -- a task of the start is on level 0
  booted_low : (boots : List (TaskId × Class)) (t : ℕ) → on_live 0 (λ x. x.level) (booted model boots t) ≡ 0
  booted_low [] t = refl
  booted_low (boot ∷ boots) t = by (nat_eq t boot.0.0) (booted_low boots t)
    where
      by : (b : Bool) → on_live 0 (λ x. x.level) (booted model boots t) ≡ 0 → on_live 0 (λ x. x.level) (if b then Live (at_boot model t boot.1) else booted model boots t) ≡ 0
      by true rest = refl
      by false rest = rest

  -- so no task of the start waits
  pub none_off : (table : Table) (boots : List (TaskId × Class)) (t : ℕ) → leg_tasks table ≡ booted model boots → is_off 0 (slot table t) ≡ false
  none_off table boots t is = by (slot table t) (ap (λ tasks. on_live 0 (λ x. x.level) (tasks t)) is ∙ booted_low boots t)
    where
      by : (o : Option LegTask) → on_live 0 (λ x. x.level) (fate_at o (has table.used t)) ≡ 0 → is_off 0 o ≡ false
      by None low = refl
      by (Some x) low = rw low refl

  -- who isn't in the list has no slot
  pub no_slot : (table : Table) (boots : List (TaskId × Class)) (t : ℕ) → leg_tasks table ≡ booted model boots → has_number t boots ≡ false → slot table t ≡ None
  no_slot table boots t is none = by (slot table t) (has table.used t) (ap (λ tasks. tasks t) is ∙ booted-none boots t none)
    where
      by : (o : Option LegTask) (used : Bool) → fate_at o used ≡ Unused → o ≡ None
      by None used e = refl
      by (Some x) used e = absurd (cc)

-- ---- The tasks that are put, one after another

-- the tasks of the list are live
pub record ArePut (model : Rules) (boots : List (TaskId × Class)) (table : Table) : Type 0 where
  pub wide : IsWide table
  pub live : leg_tasks table ≡ booted model boots
  pub in_range : All (λ (boot : TaskId × Class). (0 < boot.0.0) × (boot.0.0 ≤ 65535)) boots

-- no task is put yet
pub none_put : (model : Rules) (table : Table) → IsBlank table → ArePut model [] table
none_put model table blank = record {
  wide = blank.wide;
  live = leg_tasks-blank table blank;
  in_range = All-nil (λ (boot : TaskId × Class). (0 < boot.0.0) × (boot.0.0 ≤ 65535));
}

-- the number of the task at the next place is from 1, and no live task has it
pub next_free : (model : Rules) (boots : List (TaskId × Class)) (i : ℕ) (boot : TaskId × Class) (table : Table) → boot_refusal boots ≡ None → i < length boots → get_or boots i boot ≡ boot → ArePut model (take i boots) table → (0 < boot.0.0) × (slot table boot.0.0 ≡ None)
next_free model boots i boot table free h at put =
    let fit = subst (λ b. IsFit (take i boots) b) at (fit_at boots i boot free h) in
    (fit.positive, no_slot model table (take i boots) boot.0.0 put.live fit.fresh)

-- the task at one more place is put
pub one_put : (model : Rules) (boots : List (TaskId × Class)) (i : ℕ) (boot : TaskId × Class) (table new : Table) (x : LegTask) → boot_refusal boots ≡ None → i < length boots → get_or boots i boot ≡ boot → boot.0.0 < 65536 → x ≡ at_boot model boot.0.0 boot.1
    → new ≡ with_task boot.0.0 x table → ArePut model (take i boots) table → ArePut model (take (i + 1) boots) new
one_put model boots i boot table new x free h at small is made put =
    let fit = subst (λ b. IsFit (take i boots) b) at (fit_at boots i boot free h) in
    let more = subst (λ b. booted model (take (i + 1) boots) ≡ (λ t. if nat_eq t b.0.0 then Live (at_boot model b.0.0 b.1) else booted model (take i boots) t)) at (booted-more model boots i boot free h) in
    subst (λ now. ArePut model (take (i + 1) boots) now) (sym made)
    (record {
      wide = IsWide-with_task table boot.0.0 x put.wide;
      live = leg_tasks-with_task table boot.0.0 x put.wide small ∙ ap (λ y. λ t. if nat_eq t boot.0.0 then Live y else leg_tasks table t) is ∙ ap (λ (old : ℕ → Fate LegTask). λ t. if nat_eq t boot.0.0 then Live (at_boot model boot.0.0 boot.1) else old t) put.live ∙ sym more;
      in_range = All-more (λ (b : TaskId × Class). (0 < b.0.0) × (b.0.0 ≤ 65535)) boots i boot h put.in_range (subst (λ b. (0 < b.0.0) × (b.0.0 ≤ 65535)) (sym at) (fit.positive, omega arith));
    })

-- ---- The engine that starts

-- an engine at its start
abbrev pub at_start : Patches → Table → List (Option StandingBlame) → LastScan → Engine
at_start patches table blames last = record { number = 0; from = 0; target = 0; patches = patches; table = table; blames = blames; last_scan = last }

-- a run with no event so far
abbrev pub new_run : Patches → List (TaskId × Class) → Run
new_run patches boots = record { bounds = bounds_of patches; patches = patches; boots = boots; events = [] }

-- an engine keeps what it has to, and stands at the start of a run over these patches
pub record HasStarted (model : Rules) (patches : Patches) (boots : List (TaskId × Class)) (engine : Engine) (waiting : Numbers) : Type 0 where
  pub kept : IsEngine engine waiting
  pub state : state_in engine ≡ (start model (bounds_of patches) patches boots).opening
  pub stands : StandsIn model (new_run patches boots) (state_in engine)

at_start-stands : (model : Rules) (patches : Patches) (boots : List (TaskId × Class)) (now : State) → AreInRange (bounds_of patches) boots → now ≡ (start model (bounds_of patches) patches boots).opening → StandsIn model (new_run patches boots) now
unfolding leg_after
at_start-stands model patches boots now in_range is = record { in_range = in_range; there = is ∙ sym (started model (new_run patches boots)) }

-- where the tasks of the list are put, and nobody waits
pub starts : (model : Rules) → IsLawful model → (patches : Patches) (boots : List (TaskId × Class)) (table : Table) (blames : List (Option StandingBlame)) (last : LastScan) (waiting : Numbers) → ArePut model boots table → IsEmpty waiting → length waiting ≡ 65536 → HasStarted model patches boots (at_start patches table blames last) waiting
starts model lawful patches boots table blames last waiting put none long =
    let first = start model (bounds_of patches) patches boots in
    let state : state_in (at_start patches table blames last) ≡ first.opening = ap {A = ℕ → Fate LegTask} {B = State} (λ tasks. record { number = 0; bounds = bounds_of patches; from = 0; aim = record { patches = patches; target = 0 }; tasks = tasks }) put.live in
    record {
      kept = record {
        sound = subst IsSound (sym state) (start_sound model lawful (bounds_of patches) patches boots put.in_range);
        wide = put.wide;
        waiting_wide = long;
        waits = λ t. none t ∙ sym (none_off model table boots t put.live);
        between = λ t off. absurd (false≢true (sym (none_off model table boots t put.live) ∙ off));
        from_fits = omega arith;
        target_fits = omega arith;
        number_fits = omega arith;
      };
      state = state;
      stands = at_start-stands model patches boots (state_in (at_start patches table blames last)) put.in_range state;
    }
