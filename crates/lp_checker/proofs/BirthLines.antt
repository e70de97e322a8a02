-- The births are gone through line by line.
use Rattle.std.proofs.Common.{◌≡◌, ℕ, zero, suc, pred, ◌-◌, ◌<◌, ◌≤◌, Bool, true, false, not, ◌&&◌, List, [], ◌∷◌, drop, Option, Some, None, nat_lt, nat_le, refl, sym, ap, ◌∙◌, arith}
use Rattle.std.specs.Option.{option_map}
use Rattle.std.proofs.lemmas.Bool.{and_parts, ltb-true, leb-true}
use Rattle.lp_stack.specs.declared.number.GroupId.{GroupId}
use Rattle.lp_stack.specs.declared.number.TaskId.{TaskId}
use Rattle.lp_model.specs.Rules.{Rules}
use Rattle.lp_definitions.specs.declared.event.Event.{Event}
use Rattle.lp_definitions.specs.declared.event.Event.TheVariants.{Fork}
use Rattle.lp_definitions.specs.Tasks.{Life, Fate, Unused, Live, Dead, fits, first_of}
use Rattle.lp_definitions.specs.Leg.{Leg, accepted, after}
use Rattle.lp_definitions.specs.declared.line.Line.{Line}
use Rattle.lp_definitions.specs.declared.line.Line.TheVariants.{Born}
use Rattle.lp_definitions.specs.declared.cert_fault.CertFault.{CertFault}
use Rattle.lp_definitions.specs.declared.cert_fault.CertFault.TheVariants.{BadBirth}
use Rattle.lp_checker.specs.inside.Births.{group_in, group_or_0, is_own_fork, group_now}
use Rattle.lp_definitions.specs.Judgement.{Birth, births, first_lines, moment_of, forks_group, is_birth, birth_tests, first_group}

-- a group as code has it, or 0
pub own_as : (own : Option GroupId) (fate : Fate Life) → option_map (λ g. g.0) own ≡ group_in fate → group_now own 0 ≡ group_or_0 fate
own_as None Unused e = refl
own_as None (Live x) e = absurd (cc)
own_as None Dead e = refl
own_as (Some g) Unused e = absurd (cc)
own_as (Some g) (Live x) e = cc
own_as (Some g) Dead e = absurd (cc)

pub pred_is : (n : ℕ) → n - 1 ≡ pred n
pred_is zero = refl
pred_is (suc n) = omega arith

pub suc_pred : (n : ℕ) → 0 < n → suc (pred n) ≡ n
suc_pred zero lt = absurd (omega (arith, lt))
suc_pred (suc n) lt = refl

module _ (model : Rules) (leg : Leg) where
  -- a birth's event is asked by the parent's group alone
  pub fork_same : (o : Option Event) (fate : Fate Life) (from : ℕ) (birth : Birth) → forks_group model leg o fate from birth ≡ is_own_fork model o (group_in fate) from birth.group birth.parent
  fork_same (Some (Fork p c how)) (Live x) from birth = refl
  fork_same (Some (Fork p c how)) Unused from birth = refl
  fork_same (Some (Fork p c how)) Dead from birth = refl
  fork_same (Some _) fate from birth = refl
  fork_same None fate from birth = refl

  module _ (lines : List Line) (last : ℕ) where
    abbrev pub first : ℕ → ℕ
    first claimed = first_group model leg claimed (births lines)

    -- the fault among all births
    abbrev pub fault_of_all : ℕ → Option CertFault
    fault_of_all claimed = first_of (birth_tests model leg last (first claimed) 0 (births lines))

    -- the births of the first i lines have no fault, and the last of them is this one
    pub record Passed (i begin : ℕ) (from : Option GroupId) : Type 0 where
      pub rest : (claimed : ℕ) → fault_of_all claimed ≡ first_of (birth_tests model leg last (group_now from (first claimed)) begin (births (drop i lines)))
      pub start : from ≡ None → births lines ≡ births (drop i lines)

    pub none_yet : Passed 0 0 None
    none_yet = record { rest = λ claimed. refl; start = λ e. refl }

    -- a line that is no birth
    pub skip_line : (i begin : ℕ) (from : Option GroupId) → births (drop i lines) ≡ births (drop (suc i) lines) → Passed i begin from → Passed (suc i) begin from
    skip_line i begin from same passed = record {
      rest = λ claimed. passed.rest claimed ∙ ap (λ b. first_of (birth_tests model leg last (group_now from (first claimed)) begin b)) same;
      start = λ e. passed.start e ∙ same;
    }

    module _ (i begin : ℕ) (from : Option GroupId) (group : GroupId) (parent : TaskId) (at : ℕ) (passed : Passed i begin from) (here : drop i lines ≡ Born group parent at ∷ drop (suc i) lines) where
      abbrev pub birth : Birth
      birth = record { group = group.0; parent = parent.0; at = at; lines = first_lines (drop (suc i) lines) }

      abbrev pub moment : ℕ
      moment = moment_of model leg at

      abbrev in_time : Bool
      in_time = nat_lt begin moment && nat_le moment last

      group_then : (claimed : ℕ) (o : Option GroupId) → (o ≡ None → births lines ≡ births (drop i lines)) → group_now o (first claimed) ≡ group_now o (group_or_0 (after model leg (pred moment) parent.0))
      group_then claimed None start = ap (first_group model leg claimed) (start refl ∙ ap births here)
      group_then claimed (Some g) start = refl

      -- whether it is a birth, as the fold asks it
      abbrev pub asked : Bool
      asked = is_own_fork model (accepted model leg (pred moment)) (group_in (after model leg (pred moment) parent.0)) (group_now from (group_or_0 (after model leg (pred moment) parent.0))) group.0 parent.0

      same_test : (claimed : ℕ) → is_birth model leg (group_now from (first claimed)) birth ≡ asked
      same_test claimed =
          fork_same (accepted model leg (pred moment)) (after model leg (pred moment) parent.0) (group_now from (first claimed)) birth
          ∙ ap (λ g. is_own_fork model (accepted model leg (pred moment)) (group_in (after model leg (pred moment) parent.0)) g group.0 parent.0) (group_then claimed from passed.start)

      split : (claimed : ℕ) → fault_of_all claimed ≡ first_of (fits (not (in_time && asked)) (BadBirth at) ∷ birth_tests model leg last group.0 moment (births (drop (suc i) lines)))
      split claimed =
          passed.rest claimed
          ∙ ap (λ (ls : List Line). first_of (birth_tests model leg last (group_now from (first claimed)) begin (births ls))) here
          ∙ ap (λ b. first_of (fits (not (in_time && b)) (BadBirth at) ∷ birth_tests model leg last group.0 moment (births (drop (suc i) lines)))) (same_test claimed)

      -- where it is one
      pub pass_birth : in_time ≡ true → asked ≡ true → Passed (suc i) moment (Some group)
      pass_birth timely is = record {
        rest = λ claimed. split claimed ∙ (rw (timely, is) refl);
        start = λ e. absurd (cc);
      }

      -- where it comes at a wrong time, or is none
      pub late_birth : in_time ≡ false → (claimed : ℕ) → Some (BadBirth at) ≡ fault_of_all claimed
      late_birth late claimed = sym (split claimed ∙ (rw late refl))

      pub no_birth : in_time ≡ true → asked ≡ false → (claimed : ℕ) → Some (BadBirth at) ≡ fault_of_all claimed
      no_birth timely none claimed = sym (split claimed ∙ (rw (timely, none) refl))

    -- where all lines are gone through
    pub all_passed : (i begin : ℕ) (from : Option GroupId) → drop i lines ≡ [] → Passed i begin from → (claimed : ℕ) → None ≡ fault_of_all claimed
    all_passed i begin from end passed claimed =
        sym (passed.rest claimed ∙ ap (λ (ls : List Line). first_of (birth_tests model leg last (group_now from (first claimed)) begin (births ls))) end)

-- what fits, and what doesn't
pub fits_some : {A : Type 0} (b : Bool) (x m : A) → Some m ≡ fits b x → (b ≡ true) × (m ≡ x)
fits_some true x m e = (refl, cc)
fits_some false x m e = absurd (cc)

pub fits_none : {A : Type 0} (b : Bool) (x : A) → None ≡ fits b x → b ≡ false
fits_none true x e = absurd (cc)
fits_none false x e = refl

-- a moment that fits lies between the two places
pub moment_between : (begin last moment m : ℕ) → Some m ≡ fits (nat_lt begin moment && nat_le moment last) moment → (begin < m) × (m ≤ last)
moment_between begin last moment m e =
    let timely = fits_some (nat_lt begin moment && nat_le moment last) moment m e in
    let both = and_parts (nat_lt begin moment) (nat_le moment last) timely.0 in
    let low = ltb-true begin moment both.0 in
    let high = leb-true moment last both.1 in
    (omega (arith, low, timely.1), omega (arith, high, timely.1))
