-- A model that is a row of the table is lawful, where the row is sound.
-- These are proofs, which nobody has to believe: the laws are `IsLawful` in Rules
use Rattle.std.proofs.Common.{◌≡◌, ◌⊎◌, ℕ, suc, ◌<◌, Bool, true, false, not, ◌&&◌, ◌||◌, cond, List, [], ◌∷◌, length, get_or, Option, None, Some, is_none, is_some, if◌then◌else◌, IsTrue, IsFalse, All, Contains, find, refl, sym, ap, ◌∙◌, subst, ⊎_elim, arith}
use Rattle.std.specs.List.{list_any}
use Rattle.std.specs.Option.{option_map, option_or}
use Rattle.std.proofs.lemmas.Bool.{and_parts, both_ways, cases_order, not-true, false_from_ne_true}
use Rattle.std.proofs.lemmas.List.{get_or_default}
use Rattle.std.proofs.lemmas.List.Folds.{list_any_at}
use Rattle.lp_stack.specs.declared.frame.Frame.{Frame}
use Rattle.lp_stack.specs.declared.view.Mode.{Mode}
use Rattle.lp_stack.specs.TaskView.{TaskView}
use Rattle.lp_patch.specs.Patches.{Aim, is_stale}
use Rattle.lp_model.specs.declared.check.CheckKind.{CheckKind}
use Rattle.lp_model.specs.declared.check.CheckKind.TheVariants.{KernelExit, IdlePoint, Walk, Stop}
use Rattle.lp_model.specs.declared.check.ForkKind.{ForkKind}
use Rattle.lp_model.specs.declared.check.Blame.{Blame}
use Rattle.lp_model.specs.declared.check.Blame.TheVariants.{Unused, Frame as Held, Busy}
use Rattle.lp_model.specs.Rules.{SerialsRise, AdmitsEmptyIn, IsLawful}
use Rattle.lp_model.specs.Row.{ModelRow, admits_of, blame_of, rules_of}

-- what a row has to keep, for its model to be lawful
pub record IsSound (table : ModelRow) : Type 0 where
  -- the kinds used can reach every task
  pub reaches : IsTrue (table.uses Walk) ⊎ IsTrue (table.uses Stop) ⊎ (IsTrue (table.uses KernelExit) × IsTrue (table.uses IdlePoint))
  -- at a kind used, no mode keeps a free task back
  pub free : (kind : CheckKind) (mode : Mode) → IsTrue (table.uses kind) → AdmitsEmptyIn kind mode → IsFalse (table.busy kind mode)
  -- under a whole-call model a stale frame keeps its task back
  pub stale : IsTrue table.whole_call → (aim : Aim) (frame : Frame) → IsTrue (is_stale aim frame) → IsTrue (table.keeps aim frame)
  -- groups
  pub first : (task : ℕ) → table.first_group task ≡ task ⊎ table.first_group task ≡ 0
  pub child : (group task : ℕ) (how : ForkKind) → table.child_group group task how ≡ group ⊎ table.child_group group task how ≡ task

-- ---- Frames

-- none is found exactly where there is none
is_none-find : (test : Frame → Bool) (frames : List Frame) → is_none (find test frames) ≡ not (list_any test frames)
is_none-find test [] = refl
is_none-find test (frame ∷ above) = at (test frame) (is_none-find test above)
  where
    at : (b : Bool) → is_none (find test above) ≡ not (list_any test above) → is_none (cond b (Some frame) (find test above)) ≡ not (b || list_any test above)
    at true rest = refl
    at false rest = rest

-- a frame that is found is there, and passes the test
record IsFound (test : Frame → Bool) (frames : List Frame) (frame : Frame) : Type 0 where
  there : Contains frames frame
  is : test frame ≡ true

found : (test : Frame → Bool) (frames : List Frame) (frame : Frame) → find test frames ≡ Some frame → IsFound test frames frame
found test [] frame e = absurd (cc)
found test (first ∷ above) frame e = at (test first) refl e (found test above frame)
  where
    at : (b : Bool) → test first ≡ b → cond b (Some first) (find test above) ≡ Some frame → (find test above ≡ Some frame → IsFound test above frame) → IsFound test (first ∷ above) frame
    at true h e rest = let same : first ≡ frame = cc in record { there = (0, omega arith, same); is = subst (λ f. test f ≡ true) same h }
    at false h e rest = let r = rest e in record { there = (suc r.there.0, omega (arith, r.there.1), r.there.2); is = r.is }

-- serials tell the frames of a stack apart
same_frame : (frames : List Frame) (f g : Frame) → SerialsRise frames → Contains frames f → Contains frames g → f.serial ≡ g.serial → f ≡ g
same_frame frames f g rise a b same =
    let at_b : get_or frames b.0 f ≡ g = get_or_default frames b.0 f g b.1 ∙ b.2 in
    ⊎_elim
    (λ (e : a.0 ≡ b.0). sym a.2 ∙ (ap (λ i. get_or frames i f) e ∙ at_b))
    (λ (rest : (a.0 < b.0) ⊎ (b.0 < a.0)).
    ⊎_elim
    (λ (lt : a.0 < b.0). let r = rise a.0 b.0 f lt b.1 in let u = ap (λ x. x.serial) a.2 in let v = ap (λ x. x.serial) at_b in absurd (omega arith))
    (λ (lt : b.0 < a.0). let r = rise b.0 a.0 f lt a.1 in let u = ap (λ x. x.serial) a.2 in let v = ap (λ x. x.serial) at_b in absurd (omega arith)) rest)
    (cases_order a.0 b.0)

-- ---- Blame and admission

-- a blame from its three parts
abbrev parts : Bool → Option Frame → Bool → Option Blame
parts uses frame busy =
    if not uses then Some Unused
    else option_or (option_map Held (option_map (λ f. f.serial) frame)) (if busy then Some Busy else None)

none_parts : (uses : Bool) (frame : Option Frame) (busy : Bool) → is_none (parts uses frame busy) ≡ (uses && is_none frame && not busy)
none_parts false frame busy = refl
none_parts true None true = refl
none_parts true None false = refl
none_parts true (Some f) busy = refl

unused_parts : (uses : Bool) (frame : Option Frame) (busy : Bool) → parts uses frame busy ≡ Some Unused → uses ≡ false
unused_parts false frame busy e = refl
unused_parts true None true e = absurd (cc)
unused_parts true None false e = absurd (cc)
unused_parts true (Some f) busy e = absurd (cc)

held_parts : (uses : Bool) (frame : Option Frame) (busy : Bool) (serial : ℕ) → parts uses frame busy ≡ Some (Held serial) → (f : Frame) × (frame ≡ Some f) × (f.serial ≡ serial)
held_parts false frame busy serial e = absurd (cc)
held_parts true None true serial e = absurd (cc)
held_parts true None false serial e = absurd (cc)
held_parts true (Some f) busy serial e = (f, refl, cc)

none_is : {A : Type 0} (o : Option A) → is_none o ≡ true → o ≡ None
none_is None e = refl
none_is (Some x) e = absurd (cc)

is_none_answer : {A : Type 0} (o : Option A) (answer : Bool) → is_some o ≡ not answer → answer ≡ is_none o
is_none_answer None true e = refl
is_none_answer None false e = absurd (cc)
is_none_answer (Some x) true e = absurd (cc)
is_none_answer (Some x) false e = refl

module _ (table : ModelRow) (kind : CheckKind) (view : TaskView) (aim : Aim) where
  -- a task is admitted exactly where nothing is blamed
  pub none_blamed : is_none (blame_of table kind view aim) ≡ admits_of table kind view aim
  none_blamed = none_parts (table.uses kind) (find (table.keeps aim) view.frames) (table.busy kind view.mode) ∙ ap (λ b. table.uses kind && b && not (table.busy kind view.mode)) (is_none-find (table.keeps aim) view.frames)

  -- so a body may ask for a blame, and admit where there is none
  pub admits_unblamed : (blame : Option Blame) (answer : Bool) → blame ≡ blame_of table kind view aim → is_some blame ≡ not answer → answer ≡ admits_of table kind view aim
  admits_unblamed blame answer e is = is_none_answer blame answer is ∙ ap is_none e ∙ none_blamed

  -- and a body that admits everybody blames nobody
  pub blames_nobody : admits_of table kind view aim ≡ true → None ≡ blame_of table kind view aim
  blames_nobody h = sym (none_is _ (none_blamed ∙ h))

  -- whoever is admitted is so at a kind used, and no frame keeps it back
  admitted : admits_of table kind view aim ≡ true → (table.uses kind ≡ true) × (list_any (table.keeps aim) view.frames ≡ false)
  admitted h =
      let p = and_parts (table.uses kind && not (list_any (table.keeps aim) view.frames)) (not (table.busy kind view.mode)) h in
      let q = and_parts (table.uses kind) (not (list_any (table.keeps aim) view.frames)) p.0 in
      (q.0, not-true (list_any (table.keeps aim) view.frames) q.1)

  -- a frame that keeps its task back refuses it
  refused : (i : ℕ) (d : Frame) → i < length view.frames → table.keeps aim (get_or view.frames i d) ≡ true → admits_of table kind view aim ≡ false
  refused i d lt h = false_from_ne_true _ (λ yes. both_ways (list_any (table.keeps aim) view.frames) (admitted yes).1 (list_any_at (table.keeps aim) view.frames i d lt h))

  -- a frame that is blamed is there, and keeps its task back
  record IsBlamed (serial : ℕ) : Type 0 where
    frame : Frame
    there : Contains view.frames frame
    keeps : table.keeps aim frame ≡ true
    same : frame.serial ≡ serial

  blamed : (serial : ℕ) → blame_of table kind view aim ≡ Some (Held serial) → IsBlamed serial
  blamed serial e =
      let h = held_parts (table.uses kind) (find (table.keeps aim) view.frames) (table.busy kind view.mode) serial e in
      let f = found (table.keeps aim) view.frames h.0 h.1 in
      record { frame = h.0; there = f.there; keeps = f.is; same = h.2 }

-- ---- The laws

module _ (table : ModelRow) (sound : IsSound table) where
  holds : (kind kind' : CheckKind) (view view' : TaskView) (aim : Aim) (frame : Frame) → SerialsRise view.frames → blame_of table kind view aim ≡ Some (Held frame.serial) → Contains view.frames frame → Contains view'.frames frame → admits_of table kind' view' aim ≡ false
  holds kind kind' view view' aim frame rise e here there =
      let b = blamed table kind view aim frame.serial e in
      let same : b.frame ≡ frame = same_frame view.frames b.frame frame rise b.there here b.same in
      let keeps : table.keeps aim (get_or view'.frames there.0 frame) ≡ true = ap (table.keeps aim) (there.2 ∙ sym same) ∙ b.keeps in
      refused table kind' view' aim there.0 frame there.1 keeps

  empties : (kind : CheckKind) (view : TaskView) (aim : Aim) → IsTrue (table.uses kind) → AdmitsEmptyIn kind view.mode → view.frames ≡ [] → admits_of table kind view aim ≡ true
  empties kind view aim used free empty = let still = sound.free kind view.mode used free in rw (used, empty, still) refl

  whole : (kind : CheckKind) (view : TaskView) (aim : Aim) → IsTrue table.whole_call → admits_of table kind view aim ≡ true → All (λ frame. IsFalse (is_stale aim frame)) view.frames
  whole kind view aim w h i d lt = false_from_ne_true _ (λ stale. both_ways _ (refused table kind view aim i d lt (sound.stale w aim (get_or view.frames i d) stale)) h)

  -- the model of a sound row is lawful
  pub lawful_row : IsLawful (rules_of table)
  lawful_row =
      record {
        unused = λ kind view aim h. (admitted table kind view aim h).0;
        reaches = sound.reaches;
        blames = λ kind view aim h. sym (none_blamed table kind view aim) ∙ ap is_none h;
        blames_none = λ kind view aim h. none_is _ (none_blamed table kind view aim ∙ h);
        blames_there = λ kind view aim serial h. let b = blamed table kind view aim serial h in (b.frame, b.there, b.same);
        blames_unused = λ kind view aim h. rw h refl;
        blames_used = λ kind view aim h. unused_parts (table.uses kind) (find (table.keeps aim) view.frames) (table.busy kind view.mode) h;
        holds = λ kind kind' view view' aim frame rise rise' same h here there. holds kind kind' view view' aim frame rise h here there;
        empties = empties;
        whole = λ kind view aim w h. whole kind view aim w h;
        first = sound.first;
        child = sound.child;
      }
