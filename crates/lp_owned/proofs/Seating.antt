-- Parts that are given out at the start.
use Rattle.std.proofs.Common.{◌≡◌, ℕ, ◌+◌, ◌<◌, Bool, true, false, cond, ◌||◌, List, [], ◌∷◌, ◌++◌, map, nat_eq, Option, Some, None, Result, Ok, Err, refl, sym, ap, subst, ◌∙◌, ⊎_elim, arith}
use Rattle.std.specs.Prelude.{◌↔◌, IfSome}
use Rattle.std.specs.List.{list_any}
use Rattle.std.proofs.lemmas.Bool.{eq-eqb}
use Rattle.std.proofs.lemmas.List.Folds.{list_any-append}
use Rattle.lp_stack.specs.declared.number.TaskId.{TaskId}
use Rattle.lp_stack.specs.declared.view.Class.{Class}
use Rattle.lp_transition.specs.declared.engine.boot.BootFault.{BootFault}
use Rattle.lp_board.specs.declared.launch.LaunchFault.{LaunchFault}
use Rattle.lp_board.specs.declared.launch.LaunchFault.TheVariants.{BadCrew, Boot}
use Rattle.lp_log.specs.Audits.{seats_of}
use Rattle.lp_log.specs.Entries.{Entry}
use Rattle.lp_log.specs.Seats.{Seated, new_seat}
use Rattle.lp_log.proofs.Places.{seats_first}
use Rattle.lp_parts.specs.Parts.{Among, Whole}
use Rattle.lp_owned.specs.Owned.{EachNew, is_boot}

-- a blank that was made has boot tasks in order
pub free_of : {X : Type 0} (refusal : Option BootFault) (crew : Type 0) (r : Result X LaunchFault) (x : X) → r ≡ Ok x
    → ((r ≡ Err BadCrew) ↔ (crew → ⊥)) → (crew → IfSome refusal (λ (fault : BootFault). r ≡ Err (Boot fault))) → refusal ≡ None
free_of None crew r x is both refused = refl
free_of (Some fault) crew r x is both refused = absurd (let no : r ≡ Err BadCrew = both.1 (λ k. let e = refused k in cc) in cc)

-- one of these seats is the task's
abbrev pub has_seat : ℕ → List Seated → Bool
has_seat task seats = list_any (λ (other : Seated). nat_eq task other.task) seats

pub counts : (seats : List Seated) (t : ℕ) → has_seat t seats ≡ true → 0 < seats_of seats t
counts [] t is = absurd (cc)
counts (seat ∷ seats) t is = at (nat_eq t seat.task) refl is (λ h. counts seats t h)
  where
    at : (b : Bool) → nat_eq t seat.task ≡ b → (b || has_seat t seats) ≡ true → (has_seat t seats ≡ true → 0 < seats_of seats t) → 0 < seats_of (seat ∷ seats) t
    at true e h rest =
        let n : seats_of (seat ∷ seats) t ≡ 1 + seats_of seats t = seats_first t seat seats ∙ ap (λ (b : Bool). cond b 1 0 + seats_of seats t) e in
        omega arith
    at false e h rest = let more = rest h in let n = seats_first t seat seats in omega arith

-- a seat of the start is of a task of the start
pub boot_of : (boots : List (TaskId × Class)) (t : ℕ) → 0 < seats_of (map (λ (boot : TaskId × Class). new_seat boot.0.0) boots) t → is_boot boots t ≡ true
boot_of [] t some = absurd (let n : seats_of [] t ≡ 0 = refl in omega arith)
boot_of (boot ∷ boots) t some = at (nat_eq t boot.0.0) refl (λ h. boot_of boots t h)
  where
    at : (b : Bool) → nat_eq t boot.0.0 ≡ b → (0 < seats_of (map (λ (b : TaskId × Class). new_seat b.0.0) boots) t → is_boot boots t ≡ true) → (nat_eq t boot.0.0 || is_boot boots t) ≡ true
    at true e rest = ap (λ (b : Bool). b || is_boot boots t) e
    at false e rest =
        let seats : List Seated = map (λ (b : TaskId × Class). new_seat b.0.0) boots in
        let n : seats_of (new_seat boot.0.0 ∷ seats) t ≡ 0 + seats_of seats t = seats_first t (new_seat boot.0.0) seats ∙ ap (λ (b : Bool). cond b 1 0 + seats_of seats t) e in
        ap (λ (b : Bool). b || is_boot boots t) e ∙ rest (omega arith)

-- the control's part is nobody's task
pub of_control : (t : ℕ) (out : List (Option ℕ)) → Among (Some t) (None ∷ out) → Among (Some t) out
of_control t out at = ⊎_elim (λ (here : None ≡ Some t). absurd (cc)) (λ (there : Among (Some t) out). there) at

-- these seats have their parts so far, and nobody else has one
pub record AreSeated (done owned : List Seated) (whole : Whole Entry) : Type 0 where
  pub same : owned ≡ done
  pub all : whole.all ≡ []
  pub out : (t : ℕ) → Among (Some t) whole.out → has_seat t done ≡ true
  pub control : Among None whole.out → ⊥

pub none_seated : (whole : Whole Entry) → whole.all ≡ [] → whole.out ≡ [] → AreSeated [] [] whole
none_seated whole all out = record {
  same = refl;
  all = all;
  out = λ t at. absurd (subst (Among (Some t)) out at);
  control = λ at. subst (Among None) out at;
}

pub is_free : (seats done left owned : List Seated) (whole : Whole Entry) (seat : Seated) → EachNew seats → done ++ seat ∷ left ≡ seats → AreSeated done owned whole → Among (Some seat.task) whole.out → ⊥
is_free seats done left owned whole seat new parts so at = clash (has_seat seat.task done) (so.out seat.task at) (new done left seat parts).1
  where
    clash : (b : Bool) → b ≡ true → b ≡ false → ⊥
    clash true e f = cc
    clash false e f = cc

pub one_seated : (done owned : List Seated) (whole after : Whole Entry) (seat : Seated) → AreSeated done owned whole → after.all ≡ whole.all → after.out ≡ Some seat.task ∷ whole.out → AreSeated (done ++ seat ∷ []) (owned ++ seat ∷ []) after
one_seated done owned whole after seat so all out = record {
  same = ap (λ (l : List Seated). l ++ seat ∷ []) so.same;
  all = all ∙ so.all;
  out = λ t at. list_any-append (λ (other : Seated). nat_eq t other.task) done (seat ∷ []) ∙ ⊎_elim
      (λ (here : Some seat.task ≡ Some t). or_last (has_seat t done) (nat_eq t seat.task) (eq-eqb t seat.task (sym (same_number here))))
      (λ (there : Among (Some t) whole.out). or_front (has_seat t done) _ (so.out t there))
      (subst (Among (Some t)) out at);
  control = λ at. ⊎_elim
      (λ (here : Some seat.task ≡ None). absurd (cc))
      (λ (there : Among None whole.out). so.control there)
      (subst (Among None) out at);
}
  where
    same_number : {t u : ℕ} → Some t ≡ Some u → t ≡ u
    same_number e = cc

    or_front : (a b : Bool) → a ≡ true → (a || b) ≡ true
    or_front true b e = refl
    or_front false b e = absurd (cc)

    or_last : (a b : Bool) → b ≡ true → (a || (b || false)) ≡ true
    or_last true b e = refl
    or_last false true e = refl
    or_last false false e = absurd (cc)
