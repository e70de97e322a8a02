-- The laws, from the proofs of their parts.
use Rattle.std.proofs.Common.{◌≡◌, ℕ, zero, suc, ◌<◌, ◌≤◌, Bool, true, false, ◌⊎◌, IsTrue, ap, ◌∙◌, ⊎_elim, inl, inr, arith}
use Rattle.std.proofs.lemmas.Bool.{false_from_ne_true, cases_Bool, cases_eq, cases_lt}
use Rattle.lp_model.specs.Rules.{Rules, IsLawful}
use Rattle.lp_definitions.specs.Leg.{Leg}
use Rattle.lp_definitions.specs.Schedule.{Schedule, complete, CompletesAt}
use Rattle.lp_laws.specs.Laws.{KeepsThePast, HasOneFirstCheck, SwitchesNoneLater, CompletesNoneLater, NeverLoses, WaitsForAReason, OpensSoundly, KeepsOneVersion, MixesNoStay, TrustsChains}
use Rattle.lp_definitions.specs.Sound.{IsSound, RunsOneVersion}
use Rattle.lp_definitions.specs.Run.{Run, AreInRange, first_leg}
use Rattle.lp_laws.proofs.Waiting.{waits-is, complete_later}
use Rattle.lp_laws.proofs.Chains.{chain, refused_so_far}
use Rattle.lp_laws.proofs.WholeRun.{run_sound, run_one_version, start_sound, start_one_version, always_one_version}
use Rattle.lp_laws.proofs.Stays.{none_mixed}
use Rattle.lp_laws.proofs.StayCounts.{no_mixed_stay}
use Rattle.lp_laws.proofs.Certified.{certified}
use Rattle.lp_laws.proofs.Prefix.{past_same}
use Rattle.lp_laws.proofs.NoEarlier.{waits_too, views_alike, completes_too, one_first_check}
use Rattle.lp_laws.proofs.First.{first_check_is}
use Rattle.lp_laws.proofs.Permissive.{never_loses}

-- the least number below n that passes a test, or none
least_below : (test : ℕ → Bool) (n : ℕ) → ((j : ℕ) × (j < n) × IsTrue (test j) × ((i : ℕ) → IsTrue (test i) → j ≤ i)) ⊎ ((i : ℕ) → i < n → test i ≡ false)
least_below test zero = inr (λ i lt. absurd (omega arith))
least_below test (suc n) =
    ⊎_elim
    (λ (found : (j : ℕ) × (j < n) × IsTrue (test j) × ((i : ℕ) → IsTrue (test i) → j ≤ i)). inl (found.0, omega (arith, found.1), found.2, found.3))
    (λ (none : (i : ℕ) → i < n → test i ≡ false).
    ⊎_elim
    (λ (here : test n ≡ true). inl (n, omega arith, here, λ i e. at_least none i e))
    (λ (not_here : test n ≡ false). inr (λ i lt. ⊎_elim (λ (is : i ≡ n). ap test is ∙ not_here) (λ (ne : i ≡ n → ⊥). none i (omega (arith, ne))) (cases_eq i n)))
    (cases_Bool (test n)))
    (least_below test n)
  where
    at_least : ((i : ℕ) → i < n → test i ≡ false) → (i : ℕ) → IsTrue (test i) → n ≤ i
    at_least none i e = ⊎_elim (λ (lt : i < n). let no = none i lt in absurd (cc)) (λ (le : n ≤ i). le) (cases_lt i n)

module _ (model : Rules) (leg : Leg) (schedule : Schedule) where
  pub completes_by : (k : ℕ) → IsTrue (complete model leg schedule k) → (j : ℕ) × (j ≤ k) × CompletesAt model leg schedule j
  completes_by k done =
      ⊎_elim
      (λ (found : (j : ℕ) × (j < suc k) × IsTrue (complete model leg schedule j) × ((i : ℕ) → IsTrue (complete model leg schedule i) → j ≤ i)). (found.0, omega (arith, found.1), record { now = found.2; least = found.3 }))
      (λ (none : (i : ℕ) → i < suc k → complete model leg schedule i ≡ false). let e = none k (omega arith) in absurd (cc))
      (least_below (complete model leg schedule) (suc k))

pub has_one_first_check : (model : Rules) → IsLawful model → HasOneFirstCheck model
has_one_first_check model lawful =
    record {
      one = λ leg. first_check_is model leg;
      only = λ leg sound s r is_s is_r group. one_first_check model leg lawful sound s r is_s is_r group;
    }

pub switches_none_later : (model : Rules) → IsLawful model → SwitchesNoneLater model
switches_none_later model lawful =
    record {
      waits_too = λ leg sound first other is_first is_legal k group w. waits_too model leg lawful sound first other is_first is_legal k group w;
      same_views = λ leg sound first other is_first is_legal k group w t x live member. views_alike model leg lawful sound first other is_first is_legal k group w t x live member;
    }

pub completes_none_later : (model : Rules) → IsLawful model → CompletesNoneLater model
completes_none_later model lawful =
    record {
      stays_complete = λ leg sound schedule j k le done. complete_later model leg lawful sound schedule j k le done;
      completes = λ leg sound first other is_first is_legal k done. completes_by model leg first k (completes_too model leg lawful sound first other is_first is_legal k done.now);
      none_before = λ leg sound first other is_first is_legal k not_yet.
          false_from_ne_true (complete model leg other k) (λ done. let both = completes_too model leg lawful sound first other is_first is_legal k done in absurd (cc));
    }

pub permissive_never_loses : (a b : Rules) → IsLawful a → IsLawful b → NeverLoses a b
permissive_never_loses a b lawful_a lawful_b =
    record {
      completes = λ more leg sound s r is_s is_r k done. completes_by a leg s k (never_loses a b leg lawful_a lawful_b sound more s r is_s is_r k done.now);
    }

pub waits_for_a_reason : (model : Rules) → IsLawful model → WaitsForAReason model
waits_for_a_reason model lawful =
    record {
      refused = λ leg sound first other is_first is_legal k group w. refused_so_far model leg lawful sound first is_first other is_legal k group (waits-is model leg first k group w);
      chain = λ leg sound first other is_first is_legal k group w. chain model leg lawful sound first is_first other is_legal k group (waits-is model leg first k group w);
      nobody = λ leg group moment e. absurd (cc);
    }

module _ (model : Rules) (lawful : IsLawful model) (run : Run) (ok : AreInRange run.bounds run.boots) where
  abbrev first : Leg
  first = first_leg model run

  sound_at_first : IsSound first.opening
  sound_at_first = start_sound model lawful run.bounds run.patches run.boots ok

  one_version_at_first : RunsOneVersion first.opening
  one_version_at_first = start_one_version model lawful run.bounds run.patches run.boots ok

pub opens_soundly : (model : Rules) → IsLawful model → OpensSoundly model
opens_soundly model lawful =
    record { sound = λ run ok. run_sound model lawful (first_leg model run) run.events (sound_at_first model lawful run ok) }

pub keeps_one_version : (model : Rules) → IsLawful model → KeepsOneVersion model
keeps_one_version model lawful =
    record {
      opening = λ whole run ok. run_one_version model lawful (first_leg model run) run.events (sound_at_first model lawful run ok) whole (one_version_at_first model lawful run ok);
      now = λ whole run ok t x live. always_one_version model lawful whole run.bounds run.patches run.boots ok run.events t x live;
    }

pub mixes_no_stay : (model : Rules) → IsLawful model → MixesNoStay model
mixes_no_stay model lawful =
    record {
      none_mixed = λ whole run ok patch t. none_mixed model lawful whole patch t (first_leg model run) run.events (sound_at_first model lawful run ok) (one_version_at_first model lawful run ok);
      count_is_0 = λ whole run ok. no_mixed_stay model lawful whole (first_leg model run) run.events (sound_at_first model lawful run ok) (one_version_at_first model lawful run ok);
    }

pub trusts_chains : (model : Rules) → IsLawful model → TrustsChains model
trusts_chains model lawful =
    record { waits = λ leg sound schedule is_legal k group t x chain live member. certified model leg lawful sound schedule is_legal k group t x chain live member }

pub keeps_the_past : (model : Rules) → KeepsThePast model
keeps_the_past model = record { moments = λ leg event group k le. past_same model leg event group k le }
