-- What a trace starts with.
use Rattle.std.proofs.Common.{◌≡◌, ◌+◌, ◌<◌, ◌≤◌, ℕ, false, List, [], ◌∷◌, ◌++◌, length, map, get_or, take, None, refl, sym, ap, ap₂, ◌∙◌, arith, subst, All}
use Rattle.std.specs.Prelude.{Vec, nat_eq, nat_lt, ◌==◌}
use Rattle.std.specs.List.{AllByRecursion, IsDistinct, list_any}
use Rattle.std.proofs.lemmas.Bool.{ne_eqb}
use Rattle.std.proofs.lemmas.List.{map-append, take_more}
use Rattle.std.proofs.lemmas.List.Elements.{All-nil, All-cons}
use Rattle.std.proofs.lemmas.List.FromFn.{fill_by_all, length-map-range_with_len}
use Rattle.lp_symbols.specs.declared.sym_id.SymId.{SymId}
use Rattle.lp_stack.specs.declared.number.TaskId.{TaskId}
use Rattle.lp_stack.specs.declared.view.Class.{Class}
use Rattle.lp_patch.specs.Patches.{Patch, ShareSymbols, has, stack_refusal, symbols_of}
use Rattle.lp_transition.specs.Boot.{boot_fault, boot_refusal}
use Rattle.lp_text.specs.Traces.{functions, TraceValue, IsTask, IsTrace}
use Rattle.lp_definitions.specs.declared.event.Event.{Event}
use Rattle.lp_definitions.specs.Run.{Run, plus, task_numbers}
use Rattle.lp_machine.specs.Table.{bounds_of}
use Rattle.lp_definitions.specs.Tasks.{Bounds}
use Rattle.lp_replay.specs.Outcome.{patch_of, run_of}
use Rattle.lp_text.proofs.Pushes.{differ, not_less, not_same, or_false, or_parts}

-- ---- Patches

-- a patch of these functions is the one that says so of each symbol
pub built : (patch : Patch) (symbols : ℕ) (ids : List SymId) → ((func : ℕ) → has patch func ≡ list_any (λ id. id.0 == func) ids) → length patch ≡ symbols → patch ≡ patch_of symbols ids
built patch symbols ids members long = fill_by_all (λ func. list_any (λ id. id.0 == func) ids) patch symbols false long (λ func below. members func)

-- one patch more
pub sets_more : {A : Type 0} (symbols : ℕ) (patches : List (Vec SymId A)) (i : ℕ) (d : Vec SymId A) → i < length patches → map (patch_of symbols) (functions (take (i + 1) patches)) ≡ map (patch_of symbols) (functions (take i patches)) ++ patch_of symbols (get_or patches i d).items ∷ []
sets_more symbols patches i d h = rw (take_more patches i d h, map-append, map-append) refl

one_length : (symbols : ℕ) (patches : List (List SymId)) → All (λ patch. length patch ≡ symbols) (map (patch_of symbols) patches)
one_length symbols [] = All-nil (λ patch. length patch ≡ symbols)
one_length symbols (ids ∷ patches) = All-cons (λ patch. length patch ≡ symbols) (patch_of symbols ids) (map (patch_of symbols) patches) (length-map-range_with_len (λ func. list_any (λ id. id.0 == func) ids) 0 symbols) (one_length symbols patches)

-- the patches of a trace are over the same symbols
pub share : (symbols : ℕ) (patches : List (List SymId)) (sets : List Patch) → sets ≡ map (patch_of symbols) patches → ShareSymbols sets
share symbols patches sets e = (symbols, subst (All (λ patch. length patch ≡ symbols)) (sym e) (one_length symbols patches))

-- and speak of all of them
pub all_symbols : (symbols : ℕ) (patches : List (List SymId)) → 1 ≤ length patches → symbols_of (map (patch_of symbols) patches) ≡ symbols
all_symbols symbols [] some = absurd (omega arith)
all_symbols symbols (ids ∷ patches) some = length-map-range_with_len (λ func. list_any (λ id. id.0 == func) ids) 0 symbols

-- 1 to 16 patches make a stack
pub stacked : (patches : List Patch) → 1 ≤ length patches → length patches ≤ 16 → stack_refusal patches ≡ None
stacked patches some few = rw (not_same (length patches) 0 (length patches == 0) refl (λ e. omega arith), not_less 16 (length patches) (nat_lt 16 (length patches)) refl few) refl

-- ---- Boot tasks

-- a task is not among these
abbrev IsFresh : List (TaskId × Class) → TaskId × Class → Type 0
IsFresh before boot = list_any (λ (other : TaskId × Class). nat_eq boot.0.0 other.0.0) before ≡ false

any_more : (before : List (TaskId × Class)) (last boot : TaskId × Class) → IsFresh before boot → (last.0.0 == boot.0.0) ≡ false → IsFresh (before ++ last ∷ []) boot
any_more [] last boot fresh other = or_false (nat_eq boot.0.0 last.0.0) false (ne_eqb _ _ (λ e. differ last.0.0 boot.0.0 other (sym e))) refl
any_more (b ∷ before) last boot fresh other =
    let parts = or_parts (nat_eq boot.0.0 b.0.0) (list_any (λ (other : TaskId × Class). nat_eq boot.0.0 other.0.0) before) fresh in
    or_false (nat_eq boot.0.0 b.0.0) (list_any (λ (other : TaskId × Class). nat_eq boot.0.0 other.0.0) (before ++ last ∷ [])) parts.0 (any_more before last boot parts.1 other)

all_more : (before boots : List (TaskId × Class)) (last : TaskId × Class) → AllByRecursion (IsFresh before) boots → AllByRecursion (λ (other : TaskId × Class). (last.0.0 == other.0.0) ≡ false) boots → AllByRecursion (IsFresh (before ++ last ∷ [])) boots
all_more before [] last fresh other = tt
all_more before (boot ∷ boots) last fresh other = (any_more before last boot fresh.0 other.0, all_more before boots last fresh.1 other.1)

no_fault : (before boots : List (TaskId × Class)) → AllByRecursion (λ (boot : TaskId × Class). IsTask boot.0) boots → AllByRecursion (IsFresh before) boots → IsDistinct (λ (boot other : TaskId × Class). boot.0.0 == other.0.0) boots → boot_fault before boots ≡ None
unfolding IsDistinct
no_fault before [] tasks fresh distinct = refl
no_fault before (boot ∷ boots) tasks fresh distinct =
    let one : 1 ≤ boot.0.0 = tasks.0.0 in
    rw (not_same boot.0.0 0 (nat_eq boot.0.0 0) refl (λ e. omega arith), fresh.0) (no_fault (before ++ boot ∷ []) boots tasks.1 (all_more before boots boot fresh.1 distinct.0) distinct.1)

none_before : (boots : List (TaskId × Class)) → AllByRecursion (IsFresh []) boots
none_before [] = tt
none_before (boot ∷ boots) = (refl, none_before boots)

-- tasks that have numbers, each its own, start an engine
pub boots_well : (boots : List (TaskId × Class)) → AllByRecursion (λ (boot : TaskId × Class). IsTask boot.0) boots → IsDistinct (λ (boot other : TaskId × Class). boot.0.0 == other.0.0) boots → boot_refusal boots ≡ None
boots_well boots tasks distinct = no_fault [] boots tasks (none_before boots) distinct

-- ---- The run

-- a run of a trace's patches and boot tasks, before its first event
pub starts : (trace : TraceValue) (patches : List Patch) (boots : List (TaskId × Class)) → IsTrace trace → patches ≡ (run_of trace).patches → boots ≡ trace.boots → ◌≡◌ {A = Run} (record { bounds = bounds_of patches; patches = patches; boots = boots; events = [] }) (run_of trace)
starts trace patches boots is e f =
    let bounds : bounds_of patches ≡ task_numbers (length trace.symbols) = ap bounds_of e ∙ ap task_numbers (all_symbols (length trace.symbols) trace.patches is.patches_some) in
    ap₂ (λ (b : Bounds) (p : List Patch). record { bounds = b; patches = p; boots = boots; events = [] }) bounds e ∙ ap (λ (bs : List (TaskId × Class)). record { bounds = task_numbers (length trace.symbols); patches = (run_of trace).patches; boots = bs; events = [] }) f

-- a run of a trace's first events, and one more
pub run_more : (trace : TraceValue) (events : List Event) (i : ℕ) (d : Event) → i < length events → plus (record (run_of trace) { events = take i events }) (get_or events i d) ≡ record (run_of trace) { events = take (i + 1) events }
run_more trace events i d h = ap {A = List Event} {B = Run} (λ es. record (run_of trace) { events = es }) (sym (take_more events i d h))
