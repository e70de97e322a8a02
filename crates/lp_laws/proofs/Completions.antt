-- When a leg is complete, and what its certificates are then, as the events come.
use Rattle.std.proofs.Common.{◌≡◌, ◌+◌, ◌<◌, ◌≤◌, ℕ, zero, suc, Bool, true, false, List, [], ◌∷◌, ◌++◌, length, map, filter, take, reverse, Option, Some, None, IsTrue, cond, if◌then◌else◌, refl, sym, ap, ap₂, ◌∙◌, ⊎_elim, arith, length-append}
use mathlib.Core.Path.{fun_ext}
use Rattle.std.specs.List.{range_with_len, find}
use Rattle.std.specs.Option.{option_or}
use Rattle.std.proofs.lemmas.Bool.{cond-true, cond-false, cases_Bool, false_from_ne_true}
use Rattle.std.proofs.lemmas.List.Folds.{find-append}
use Rattle.lp_model.specs.Rules.{Rules, IsLawful}
use Rattle.lp_definitions.specs.declared.event.Event.{Event}
use Rattle.lp_definitions.specs.Leg.{Leg}
use Rattle.lp_definitions.specs.Schedule.{Schedule, complete, first_check, waits}
use Rattle.lp_definitions.specs.Sound.{IsSound}
use Rattle.lp_definitions.specs.Run.{and_then, is_complete_now, opened}
use Rattle.lp_laws.proofs.First.{Agree, agree_back, level_agrees, waits_agrees}
use Rattle.lp_laws.proofs.NextTasks.{come_from, from_later}
use Rattle.lp_laws.proofs.Prefix.{complete_same, waits_same, past_same}
use Rattle.lp_definitions.proofs.Quantifiers.{same_bool}
use Rattle.lp_laws.proofs.Waiting.{complete-is, complete-from}
use Rattle.lp_definitions.specs.declared.cert.Claim.{Claim}
use Rattle.lp_definitions.specs.declared.cert.Claim.TheVariants.{Floor}
use Rattle.lp_definitions.specs.declared.cert.Cert.{Cert}
use Rattle.lp_definitions.specs.declared.line.Line.{Line}
use Rattle.lp_definitions.specs.Certificates.{group_id, cert, waiting_groups, floor_certs, completion, certs_by}
use Rattle.lp_laws.proofs.Past.{lines_past}

-- ---- The first number that passes

-- one number more at the end
pub range_more : (a n : ℕ) → range_with_len a (suc n) ≡ range_with_len a n ++ (a + n) ∷ []
range_more a zero = ap (λ m. m ∷ []) (omega arith)
range_more a (suc n) = ap (λ rest. a ∷ rest) (range_more (a + 1) n ∙ ap (λ m. range_with_len (a + 1) n ++ m ∷ []) (omega arith))

range_up : (n : ℕ) → range_with_len 0 (suc n) ≡ range_with_len 0 n ++ n ∷ []
range_up n = range_more 0 n ∙ ap (λ m. range_with_len 0 n ++ m ∷ []) (omega arith)

find_same : (p q : ℕ → Bool) (a n : ℕ) → ((k : ℕ) → a ≤ k → k < a + n → p k ≡ q k) → find p (range_with_len a n) ≡ find q (range_with_len a n)
find_same p q a zero h = refl
find_same p q a (suc n) h = ap₂ (λ b rest. cond b (Some a) rest) (h a (omega arith) (omega arith)) (find_same p q (a + 1) n (λ k low high. h k (omega arith) (omega arith)))

find_none : (p : ℕ → Bool) (a n : ℕ) → ((k : ℕ) → a ≤ k → k < a + n → p k ≡ false) → find p (range_with_len a n) ≡ None
find_none p a zero h = refl
find_none p a (suc n) h = cond-false _ _ _ (h a (omega arith) (omega arith)) ∙ find_none p (a + 1) n (λ k low high. h k (omega arith) (omega arith))

find_first : (a k : ℕ) → Some a ≡ Some k → (n : ℕ) → k < a + suc n
find_first a k e n = let same : a ≡ k = cc in omega arith

-- what is found is in the range
pub find_below : (p : ℕ → Bool) (a n k : ℕ) → find p (range_with_len a n) ≡ Some k → k < a + n
find_below p a zero k e = absurd (cc)
find_below p a (suc n) k e =
    ⊎_elim
    (λ (is : p a ≡ true). find_first a k (sym (cond-true (p a) (Some a) (find p (range_with_len (a + 1) n)) is) ∙ e) n)
    (λ (is : p a ≡ false). omega (arith, find_below p (a + 1) n k (sym (cond-false (p a) (Some a) (find p (range_with_len (a + 1) n)) is) ∙ e)))
    (cases_Bool (p a))

or_some : (o : Option ℕ) (n : ℕ) → (k : ℕ) × (option_or o (Some n) ≡ Some k)
or_some None n = (n, refl)
or_some (Some k) n = (k, refl)

module _ (model : Rules) where
  abbrev passes : Leg → ℕ → Bool
  passes leg = complete model leg (first_check model leg)

  -- ---- An event more changes nothing before it

  module _ (leg : Leg) (event : Event) where
    abbrev longer : Leg
    longer = and_then leg event

    agree : (k : ℕ) → k ≤ length leg.events → Agree k (first_check model longer) (first_check model leg)
    unfolding Agree
    agree k le group j less = past_same model leg event group j (omega arith)

    complete_agrees : (k : ℕ) (s r : Schedule) → Agree k s r → IsTrue (complete model leg s k) → IsTrue (complete model leg r k)
    complete_agrees k s r h e =
        complete-from model leg r k (λ t x positive within live.
        let from = from_later k (suc k) (omega arith) x.origin (come_from model.child_group leg k t x live) in
        sym (level_agrees leg.target k k x.group s r h (omega arith) x.origin from) ∙ complete-is model leg s k e t x positive within live)

    past_complete : (k : ℕ) → k ≤ length leg.events → passes longer k ≡ passes leg k
    past_complete k le =
        let s = first_check model longer in
        let r = first_check model leg in
        complete_same model leg event s k le ∙ same_bool (complete model leg s k) (complete model leg r k) (complete_agrees k s r (agree k le)) (complete_agrees k r s (agree_back k s r (agree k le)))

    past_waits : (k group : ℕ) → k ≤ length leg.events → waits model longer (first_check model longer) k group ≡ waits model leg (first_check model leg) k group
    past_waits k group le =
        let s = first_check model longer in
        let r = first_check model leg in
        waits_same model leg event s k group le ∙ same_bool (waits model leg s k group) (waits model leg r k group) (waits_agrees model leg k group s r (agree k le)) (waits_agrees model leg k group r s (agree_back k s r (agree k le)))

    past_groups : (k : ℕ) → k ≤ length leg.events → waiting_groups model longer k ≡ waiting_groups model leg k
    past_groups k le = ap (λ test. filter test (range_with_len 0 (suc leg.bounds.tasks))) (fun_ext (λ group. past_waits k group le))

    past_cert : (claim : Claim) (k group : ℕ) → k ≤ length leg.events → cert model longer claim k group ≡ cert model leg claim k group
    past_cert claim k group le =
        ap (λ (ls : List Line). record { claim = claim; leg = leg.number; group = group_id group; upto = leg.number + k; lines = reverse ls }) (lines_past model leg event k group le)

    pub past_floor : (k : ℕ) → k ≤ length leg.events → floor_certs model longer k ≡ floor_certs model leg k
    past_floor k le =
        ap₂ (λ (f : ℕ → Cert) groups. map f (take 1 groups)) (fun_ext (λ group. past_cert Floor k group le)) (past_groups k le)

  -- ---- The first moment at which a leg is complete

  complete_moment : (leg : Leg) → is_complete_now model leg ≡ true → (k : ℕ) × (completion model leg ≡ Some k)
  unfolding is_complete_now completion
  complete_moment leg e =
      let n = length leg.events in
      let there = or_some (find (passes leg) (range_with_len 0 n)) n in
      (there.0, ap (find (passes leg)) (range_up n) ∙ (find-append (passes leg) (range_with_len 0 n) (n ∷ []) ∙ (ap (option_or (find (passes leg) (range_with_len 0 n))) (cond-true (passes leg n) (Some n) None e) ∙ there.1)))

  pub completion_up : (leg : Leg) (event : Event) → completion model (and_then leg event) ≡ option_or (completion model leg) (if is_complete_now model (and_then leg event) then Some (suc (length leg.events)) else None)
  unfolding is_complete_now completion
  completion_up leg event =
      let n = length leg.events in
      let more = and_then leg event in
      let long : length more.events ≡ suc n = omega (arith, length-append leg.events (event ∷ [])) in
      ap (λ m. find (passes more) (range_with_len 0 (suc m))) long
      ∙ (ap (find (passes more)) (range_up (suc n))
      ∙ (find-append (passes more) (range_with_len 0 (suc n)) (suc n ∷ [])
      ∙ ap₂ option_or (find_same (passes more) (passes leg) 0 (suc n) (λ k low high. past_complete leg event k (omega arith))) (ap (λ m. if passes more m then Some (suc n) else None) (sym long))))

  pub completion_opened : (leg : Leg) (event : Event) → completion model (opened model leg event) ≡ (if is_complete_now model (opened model leg event) then Some 0 else None)
  unfolding completion is_complete_now
  completion_opened leg event = refl

  pub completion_below : (leg : Leg) (k : ℕ) → completion model leg ≡ Some k → k ≤ length leg.events
  unfolding completion
  completion_below leg k e = omega (arith, find_below (passes leg) 0 (suc (length leg.events)) k e)

  -- a completed leg stays as it is
  pub certs_kept : (leg : Leg) (event : Event) (k : ℕ) → k ≤ length leg.events → certs_by model (and_then leg event) (Some k) ≡ certs_by model leg (Some k)
  certs_kept leg event zero le = refl
  certs_kept leg event (suc k) le = past_floor leg event k (omega arith)

  module _ (lawful : IsLawful model) (leg : Leg) (sound : IsSound leg.opening) where
    -- a leg that is complete stays so from the same moment on
    pub completion_stays : (event : Event) (k : ℕ) → completion model leg ≡ Some k → completion model (and_then leg event) ≡ Some k
    completion_stays event k e = completion_up leg event ∙ ap (λ o. option_or o (if is_complete_now model (and_then leg event) then Some (suc (length leg.events)) else None)) e

    pub completion_now : (event : Event) → completion model leg ≡ None → (b : Bool) → is_complete_now model (and_then leg event) ≡ b → completion model (and_then leg event) ≡ (if b then Some (suc (length leg.events)) else None)
    completion_now event e b now =
        completion_up leg event ∙ ap₂ (λ o c. option_or o (if c then Some (suc (length leg.events)) else None)) e now

    -- where no moment came the leg isn't complete
    pub incomplete_if : completion model leg ≡ None → is_complete_now model leg ≡ false
    incomplete_if e =
        false_from_ne_true (is_complete_now model leg) (λ done. let there = complete_moment leg done in some_none there.0 (sym there.1 ∙ e))
      where
        some_none : (k : ℕ) → Some k ≡ None → ⊥
        some_none k h = absurd (cc)
