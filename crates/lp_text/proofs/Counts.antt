-- Calls that were counted.
use Rattle.std.proofs.Common.{◌≡◌, ◌≤◌, ◌<◌, ◌+◌, ℕ, zero, suc, refl, sym, ap, ◌∙◌, arith}
use Rattle.lp_text.specs.Counts.{AtMost, Counts, after, next}
use Rattle.lp_text.specs.declared.input.InputFault.{InputFault}
use Rattle.lp_text.specs.declared.input.InputFault.TheVariants as input
use Rattle.lp_text.specs.inside.Streams.{Ended, Gave, Going, InputFails}

-- ---- How many

after_after : (more most count : ℕ) → after more (after most count) ≡ after (more + most) count
unfolding after
after_after zero most count =
    let none_more : 0 + most ≡ most = omega arith in
    sym (ap (λ n. after n count) none_more)
after_after (suc more) most count =
    let one_more : suc more + most ≡ suc (more + most) = omega arith in
    ap next (after_after more most count) ∙ sym (ap (λ n. after n count) one_more)

pub none_called : (most count : ℕ) → AtMost most count count
unfolding after
none_called most count = record { more = 0; few = omega arith; counted = refl }

pub one_called : (most before then : ℕ) → 1 ≤ most → then ≡ next before → AtMost most before then
unfolding after
one_called most before then some is = record { more = 1; few = some; counted = is }

module _ (a b c m n k : ℕ) where
  pub called_more : AtMost m a b → AtMost n b c → m + n ≤ k → AtMost k a c
  called_more h more within =
      record {
        more = more.more + h.more;
        few = omega (arith, h.few, more.few, within);
        counted = more.counted ∙ ap (after more.more) h.counted ∙ after_after more.more h.more a;
      }

-- one call more
pub one_more_called : (a b c m k : ℕ) → AtMost m a b → c ≡ next b → m + 1 ≤ k → AtMost k a c
one_more_called a b c m k h is within = called_more a b c m 1 k h (one_called 1 b c (omega arith) is) within

-- ---- How they ended

module _ {S : Type 0} (a b c : Counts S) where
  pub going_on : (count : ℕ) → Going a b → Gave b c count → 0 < count → Going a c
  going_on count h gave some = ((gave.0 some).0 ∙ h.0, (gave.0 some).1 ∙ h.1)

  pub going_to_end : Going a b → Ended b c → Ended a c
  going_to_end h ended = (ended.0 ∙ h.0, ended.1 ∙ ap next h.1)

  pub going_to_fault : (fault : InputFault) → Going a b → InputFails b c fault → InputFails a c fault
  going_to_fault (input.Failed error) h fails = (fails.0 ∙ ap next h.0, fails.1 ∙ h.1)
  going_to_fault input.Long h fails = fails ∙ h.0
  going_to_fault input.NoMemory h fails = fails ∙ h.0
