-- The headline holds of what is answered as the definitions say.
use Rattle.std.proofs.Common.{◌≡◌, ◌+◌, ◌<◌, ◌≤◌, ℕ, zero, suc, Bool, true, false, List, [], ◌∷◌, map, filter, length, take, All, Contains, Option, Some, None, IsTrue, refl, sym, ap, ◌∙◌, subst, ⊎_elim, arith}
use Rattle.std.specs.List.{AllZip, find, range_with_len}
use Rattle.std.specs.Option.{option_map}
use Rattle.std.proofs.lemmas.Bool.{cases_Bool, cases_eq, cases_lt, cond-true, cond-false}
use Rattle.std.proofs.lemmas.List.Elements.{All-head, All-tail}
use Rattle.lp_model.specs.Rules.{Rules, IsLawful}
use Rattle.lp_definitions.specs.declared.reply.Reply.{Reply}
use Rattle.lp_definitions.specs.Leg.{Leg}
use Rattle.lp_definitions.specs.Schedule.{Schedule, waits, complete, first_check, IsLegal, IsFirstCheck, CompletesAt}
use Rattle.lp_definitions.specs.Run.{Run, AreInRange, first_leg, replies}
use Rattle.lp_laws.proofs.Chains.{chain, refused_so_far}
use Rattle.lp_laws.proofs.First.{first_check_is}
use Rattle.lp_laws.proofs.LawProofs.{mixes_no_stay}
use Rattle.lp_laws.proofs.NoEarlier.{completes_too, waits_too}
use Rattle.lp_laws.proofs.Waiting.{waits-is, complete-is, complete_later}
use Rattle.lp_definitions.specs.declared.cert.Cert.{Cert}
use Rattle.lp_definitions.specs.declared.cert.Claim.TheVariants.{Waiting, Floor}
use Rattle.lp_definitions.specs.Ends.{end_of}
use Rattle.lp_definitions.specs.Certificates.{cert, certs_by, completion, opened_legs, waiting_groups}
use Rattle.lp_laws.proofs.Completions.{completion_below}
use Rattle.lp_laws.proofs.Waiters.{waiting_in_range, someone_waits}
use Rattle.lp_laws.proofs.MadeOfRuns.{accepts_what_is_made}
use Rattle.lp_definitions.specs.Outcome.{Outcome, IsOutcome}
use Rattle.lp_definitions.specs.Headline.{HeadlineHolds, NoneIsEarlier, AreCertified, HeadlineOfLeg, Headline}
use Rattle.lp_laws.proofs.LegByLeg.{IsLeg, legs_of}

-- ---- What is found in a range

-- a number that is found passes, and none before it does
record IsFound (p : ℕ → Bool) (a k : ℕ) : Type 0 where
  passes : p k ≡ true
  least : (j : ℕ) → a ≤ j → j < k → p j ≡ false

found : (p : ℕ → Bool) (a n k : ℕ) → find p (range_with_len a n) ≡ Some k → IsFound p a k
found p a zero k e = absurd (cc)
found p a (suc n) k e =
    ⊎_elim
    (λ (is : p a ≡ true).
    let here : Some a ≡ Some k = sym (cond-true (p a) (Some a) (find p (range_with_len (a + 1) n)) is) ∙ e in
    let same : a ≡ k = cc in
    record { passes = subst (λ m. p m ≡ true) same is; least = λ j low high. absurd (omega (arith, same)) })
    (λ (is : p a ≡ false).
    let rest = found p (a + 1) n k (sym (cond-false (p a) (Some a) (find p (range_with_len (a + 1) n)) is) ∙ e) in
    record { passes = rest.passes; least = λ j low high. ⊎_elim (λ (at : j ≡ a). ap p at ∙ is) (λ (ne : j ≡ a → ⊥). rest.least j (omega (arith, ne)) high) (cases_eq j a) })
    (cases_Bool (p a))

-- where a number passes, one is found
one_found : (p : ℕ → Bool) (a n k : ℕ) → a ≤ k → k < a + n → p k ≡ true → (j : ℕ) × (j ≤ k) × (find p (range_with_len a n) ≡ Some j)
one_found p a zero k low high e = absurd (omega arith)
one_found p a (suc n) k low high e =
    ⊎_elim
    (λ (is : p a ≡ true). (a, low, cond-true (p a) (Some a) (find p (range_with_len (a + 1) n)) is))
    (λ (is : p a ≡ false).
    ⊎_elim
    (λ (at : k ≡ a). absurd (cc (ap p at)))
    (λ (ne : k ≡ a → ⊥).
    let rest = one_found p (a + 1) n k (omega (arith, ne)) (omega arith) e in
    (rest.0, rest.1, cond-false (p a) (Some a) (find p (range_with_len (a + 1) n)) is ∙ rest.2))
    (cases_eq k a))
    (cases_Bool (p a))

-- ---- What a list of certificates contains

here : {X : Type 0} (x : X) (xs : List X) → Contains (x ∷ xs) x
here x xs = (0, omega arith, refl)

there : {X : Type 0} (y x : X) (xs : List X) → Contains xs x → Contains (y ∷ xs) x
there y x xs c = (suc c.0, omega (arith, c.1), c.2)

contains_one : {X : Type 0} (f : ℕ → X) (test : ℕ → Bool) (a n k : ℕ) → a ≤ k → k < a + n → test k ≡ true → Contains (map f (filter test (range_with_len a n))) (f k)
contains_one f test a zero k low high e = absurd (omega arith)
contains_one {X} f test a (suc n) k low high e =
    ⊎_elim
    (λ (at : k ≡ a).
    let passes : test a ≡ true = sym (ap test at) ∙ e in
    subst (λ ks. Contains (map f ks) (f k)) (sym (cond-true (test a) (a ∷ rest) rest passes)) (subst (λ m. Contains (f a ∷ map f rest) (f m)) (sym at) (here (f a) (map f rest))))
    (λ (ne : k ≡ a → ⊥).
    let later = contains_one f test (a + 1) n k (omega (arith, ne)) (omega arith) e in
    ⊎_elim
    (λ (is : test a ≡ true). subst (λ ks. Contains (map f ks) (f k)) (sym (cond-true (test a) (a ∷ rest) rest is)) (there (f a) (f k) (map f rest) later))
    (λ (is : test a ≡ false). subst (λ ks. Contains (map f ks) (f k)) (sym (cond-false (test a) (a ∷ rest) rest is)) later)
    (cases_Bool (test a)))
    (cases_eq k a)
  where
    rest : List ℕ
    rest = filter test (range_with_len (a + 1) n)

first_of_some : {X : Type 0} (f : ℕ → X) (ks : List ℕ) (x : X) → Contains (map f ks) x → (k : ℕ) × Contains (map f (take 1 ks)) (f k)
first_of_some f [] x c = absurd (omega (arith, c.1))
first_of_some f (k ∷ ks) x c = (k, here (f k) [])

-- ---- One leg

module _ (model : Rules) (lawful : IsLawful model) (answered : List Reply) (leg : Leg) (is : IsLeg model lawful answered leg) where
  abbrev first : Schedule
  first = first_check model leg

  abbrev last : ℕ
  last = length leg.events

  is_first : IsFirstCheck model leg first
  is_first = first_check_is model leg

  found_complete : (k : ℕ) → completion model leg ≡ Some k → IsFound (complete model leg first) 0 k
  unfolding completion
  found_complete k e = found (complete model leg first) 0 (suc last) k e

  -- ---- Completion

  completes_at : (k : ℕ) → completion model leg ≡ Some k → CompletesAt model leg first k
  completes_at k e =
      let f = found_complete k e in
      record { now = f.passes; least = λ j done. ⊎_elim (λ (lt : j < k). let no = f.least j (omega arith) lt in absurd (cc)) (λ (le : k ≤ j). le) (cases_lt j k) }

  completed : (at : ℕ) (o : Option ℕ) → completion model leg ≡ o → option_map (λ k. leg.number + k) o ≡ Some at → (k : ℕ) × (completion model leg ≡ Some k) × (at ≡ leg.number + k)
  completed at None e h = absurd (cc)
  completed at (Some k) e h = let same : leg.number + k ≡ at = cc in (k, e, sym same)

  none_completes_earlier : (other : Schedule) → IsLegal model leg other → (k : ℕ) → k ≤ last → IsTrue (complete model leg other k) → (j : ℕ) × (j ≤ k) × ((end_of model leg).completed ≡ Some (leg.number + j))
  unfolding completion
  none_completes_earlier other legal k le done =
      let j = one_found (complete model leg first) 0 (suc last) k (omega arith) (omega arith) (completes_too model leg lawful is.sound first other is_first legal k done) in
      (j.0, j.1, ap (option_map (λ i. leg.number + i)) j.2)

  -- ---- Certificates

  contained : (f : ℕ → Cert) (k group : ℕ) → IsTrue (waits model leg first k group) → Contains (map f (waiting_groups model leg k)) (f group)
  contained f k group w =
      let within = waiting_in_range model lawful leg is.in_range k group w in
      contains_one f (waits model leg first k) 0 (suc leg.bounds.tasks) group (omega arith) (omega (arith, within)) w

  certified : (group : ℕ) → IsTrue (waits model leg first last group) → (o : Option ℕ) → completion model leg ≡ o → Contains (certs_by model leg o) (cert model leg Waiting last group)
  certified group w None e = contained (cert model leg Waiting last) last group w
  certified group w (Some k) e =
      let v = waits-is model leg first last group w in
      let done = complete_later model leg lawful is.sound first k last (within k e) (found_complete k e).passes in
      absurd (v.off (complete-is model leg first last done v.task v.life v.positive v.within v.live))
    where
      within : (k : ℕ) → completion model leg ≡ Some k → k ≤ last
      within k e = omega (arith, completion_below model leg k e)

  floor : (k : ℕ) → completion model leg ≡ Some (suc k) → (group : ℕ) × Contains (certs_by model leg (completion model leg)) (cert model leg Floor k group)
  floor k e =
      let waiter = someone_waits model lawful leg is.sound k ((found_complete (suc k) e).least k (omega arith) (omega arith)) in
      let made = cert model leg Floor k in
      let least = first_of_some made (waiting_groups model leg k) (made waiter.0) (contained made k waiter.0 waiter.1) in
      (least.0, subst (λ o. Contains (certs_by model leg o) (made least.0)) (sym e) least.1)

  none_is_earlier : NoneIsEarlier model leg first (end_of model leg)
  none_is_earlier =
      record {
        switches = λ other legal k group w. waits_too model leg lawful is.sound first other is_first legal k group w;
        completes = none_completes_earlier;
        completed = λ at e. let k = completed at (completion model leg) refl e in (k.0, k.2, completes_at k.0 k.1);
      }

  are_certified : AreCertified model leg first (end_of model leg)
  are_certified =
      record {
        waiting = λ group w. (cert model leg Waiting (length leg.events) group, certified group w (completion model leg) refl, refl, refl, refl);
        floor = λ k e.
            let j = completed (leg.number + suc k) (completion model leg) refl e in
            let same : j.0 ≡ suc k = omega (arith, j.2) in
            let made = floor k (j.1 ∙ ap Some same) in
            (made.0, (cert model leg Floor k made.0, made.1, refl, refl, refl));
        accepted = (accepts_what_is_made model lawful).at_the_end leg is.sound is.few;
        refused = λ k group w. refused_so_far model leg lawful is.sound first is_first first is_first.legal k group (waits-is model leg first k group w);
        chain = λ k group w. chain model leg lawful is.sound first is_first first is_first.legal k group (waits-is model leg first k group w);
      }

  pub headline_of_leg : HeadlineOfLeg model answered leg (end_of model leg)
  headline_of_leg =
      record {
        opened = refl;
        target = refl;
        first = first;
        is_first = is_first;
        first_checks = is.named;
        calls = is.calls;
        none_earlier = none_is_earlier;
        certified = are_certified;
      }

-- ---- The run

ends_zip : {A B : Type 0} (P : A → Type 0) (R : A → B → Type 0) (f : A → B) → ((x : A) → P x → R x (f x)) → (xs : List A) → All P xs → AllZip R xs (map f xs)
ends_zip P R f h [] ok = tt
ends_zip P R f h (x ∷ xs) ok = (h x (All-head P x xs ok), ends_zip P R f h xs (All-tail P x xs ok))

module _ (model : Rules) (lawful : IsLawful model) where
  -- what is answered as the definitions say is as the headline says
  pub headline : (run : Run) → AreInRange run.bounds run.boots → length run.events ≤ 1000000 → (found : Outcome) → IsOutcome model run found → Headline model run found
  headline run in_range few found is =
      let legs = opened_legs model (first_leg model run) run.events in
      let told = replies model (first_leg model run) run.events in
      record {
        legs =
            subst (λ rs. AllZip (HeadlineOfLeg model rs) legs found.legs) (sym is.replied)
            (subst (AllZip (HeadlineOfLeg model told) legs) (sym is.legs)
            (ends_zip (IsLeg model lawful told) (HeadlineOfLeg model told) (end_of model) (headline_of_leg model lawful told) legs (legs_of model lawful run in_range few)));
        one_version = λ whole. (λ patch t. (mixes_no_stay model lawful).none_mixed whole run in_range patch t, is.mixed ∙ (mixes_no_stay model lawful).count_is_0 whole run in_range);
      }

  pub headline_holds : HeadlineHolds model
  headline_holds = record { holds = headline }
