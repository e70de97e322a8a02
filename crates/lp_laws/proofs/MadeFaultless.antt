-- Certificates that are made of a leg have no fault.
use Rattle.std.proofs.Common.{◌≡◌, ℕ, zero, suc, ◌+◌, ◌≤◌, Bool, true, false, not, ◌||◌, List, ◌∷◌, ◌++◌, length, map, take, All, Option, Some, None, IsTrue, nat_eq, nat_lt, refl, sym, ap, ap₂, ◌∙◌, subst, arith}
use Rattle.std.specs.List.{list_any, flat_map, range_with_len}
use Rattle.std.proofs.lemmas.Bool.{eq-eqb, le-ltb}
use Rattle.std.proofs.lemmas.List.Elements.{All-nil, All-map, All-take, All-weaker, filter_passes}
use Rattle.lp_model.specs.Rules.{Rules, IsLawful}
use Rattle.lp_definitions.specs.Chain.{nobody}
use Rattle.lp_definitions.specs.Leg.{Leg, after, has_member}
use Rattle.lp_definitions.specs.Schedule.{Schedule, waits, complete, first_check}
use Rattle.lp_definitions.specs.Sound.{IsSound}
use Rattle.lp_definitions.specs.Tasks.{map_live, fits, outline, outlines}
use Rattle.lp_definitions.proofs.Quantifiers.{some_live-from}
use Rattle.lp_laws.proofs.Waiting.{Waiter, waits-is}
use Rattle.lp_definitions.specs.declared.cert.Cert.{Cert}
use Rattle.lp_definitions.specs.declared.cert.Claim.{Claim}
use Rattle.lp_definitions.specs.declared.cert.Claim.TheVariants.{Waiting, Floor}
use Rattle.lp_definitions.specs.Certificates.{lines, cert, waiting_groups, completion, certs_by}
use Rattle.lp_laws.proofs.Completions.{find_below}
use Rattle.lp_definitions.specs.declared.cert_fault.CertFault.TheVariants.{NoSuchGroup, NoLeg}
use Rattle.lp_definitions.specs.Judgement.{Section, births, first_lines, last_group, same_claim, moment_of, no_leg, birth_tests, first_group, sections, has_stray, no_such_group, line_tests, gap_test, cert_fault}
use Rattle.lp_laws.proofs.FirstBad.{first_of_append, first_none, fit_none}
use Rattle.lp_laws.proofs.LeadingTo.{Leads, born_well, none_strays, lines_well, gaps_well}
use Rattle.lp_laws.proofs.MadeLines.{told, leads}

same_as_itself : (claim : Claim) → not (same_claim claim claim) ≡ false
same_as_itself Waiting = refl
same_as_itself Floor = refl

or_none : (a b : Bool) → a ≡ false → b ≡ false → (a || b) ≡ false
or_none a b not_a not_b = ap₂ (λ x y. x || y) not_a not_b

module _ (model : Rules) (leg : Leg) (lawful : IsLawful model) (sound : IsSound leg.opening) where
  abbrev first : Schedule
  first = first_check model leg

  module _ (claim : Claim) (k group : ℕ) (within : k ≤ length leg.events) (few : leg.number + k ≤ 1000000) where
    abbrev made : Cert
    made = cert model leg claim k group

    abbrev last : ℕ
    last = moment_of model leg made.upto

    last_is : last ≡ k
    last_is = omega arith

    -- it is of the leg
    of_leg : no_leg model leg claim made ≡ false
    of_leg =
        let early = nat_lt (leg.number + k) leg.number in
        let late = nat_lt (leg.number + length leg.events) (leg.number + k) in
        let over = nat_lt 1000000 (leg.number + k) in
        let other = not (nat_eq leg.number leg.number) in
        or_none (not (same_claim claim claim)) (other || (early || (late || over))) (same_as_itself claim)
        (or_none other (early || (late || over)) (ap not (eq-eqb leg.number leg.number refl))
        (or_none early (late || over) (le-ltb (leg.number + k) leg.number (omega arith))
        (or_none late over (le-ltb (leg.number + length leg.events) (leg.number + k) (omega (arith, within))) (le-ltb 1000000 (leg.number + k) few))))

    -- the group has a live member
    peopled : Waiter model leg first k group → has_member leg.bounds (outlines (after model leg last)) group ≡ true
    peopled w =
        ap (λ n. has_member leg.bounds (outlines (after model leg n)) group) last_is
        ∙ some_live-from leg.bounds (outlines (after model leg k)) (λ t x. nat_eq x.group group) (record {
          task = w.task;
          life = outline w.life;
          positive = w.positive;
          within = w.within;
          live = ap (map_live outline) w.live;
          passed = eq-eqb w.life.group group w.member;
        })

    no_fault : (begin : ℕ) → Waiter model leg first k group → Leads model leg last group begin (first_lines made.lines) (births made.lines) → cert_fault model leg claim made ≡ None
    unfolding cert_fault
    no_fault begin w h =
        let rest = births made.lines in
        let from = first_group model leg group rest in
        let parts : List Section = sections model leg last from zero (first_lines made.lines) rest in
        let lined = flat_map (line_tests model leg) parts in
        let gapped = map (gap_test model leg) parts in
        let grouped = no_such_group model leg last group from rest parts in
        let claimed = nat_eq (last_group from rest) group in
        let opens = waits model leg nobody zero from in
        let strays = list_any (has_stray model leg) parts in
        let someone = has_member leg.bounds (outlines (after model leg last)) group in
        let is_grouped : grouped ≡ false =
        or_none (not claimed) (not opens || (strays || not someone)) (ap not (eq-eqb (last_group from rest) group h.ends))
        (or_none (not opens) (strays || not someone) (ap not h.opens)
        (or_none strays (not someone) (none_strays model leg parts h.parts) (ap not (peopled w)))) in
        let group_fault = fits grouped NoSuchGroup in
        let born = birth_tests model leg last from zero rest in
        first_none (fits (no_leg model leg claim made) NoLeg) (born ++ (group_fault ∷ lined ++ gapped)) (fit_none (no_leg model leg claim made) NoLeg of_leg)
        ∙ (first_of_append born (group_fault ∷ lined ++ gapped) (born_well model leg last from zero rest h.born)
        ∙ (first_none group_fault (lined ++ gapped) (fit_none grouped NoSuchGroup is_grouped)
        ∙ (first_of_append lined gapped (lines_well model leg parts h.parts)
        ∙ gaps_well model leg parts h.parts)))

    pub accepted : IsTrue (waits model leg first k group) → cert_fault model leg claim made ≡ None
    accepted waiting =
        let w = waits-is model leg first k group waiting in
        let h = told model leg lawful sound k group w in
        no_fault h.begin w (subst (λ n. Leads model leg n group h.begin (first_lines made.lines) (births made.lines)) (sym last_is) (leads model leg lawful sound k group h.begin (lines model leg k group) h.tale))

  -- ---- At the end of a leg

  abbrev IsAccepted : Cert → Type 0
  IsAccepted made = cert_fault model leg made.claim made ≡ None

  each : (claim : Claim) (k : ℕ) → k ≤ length leg.events → leg.number + k ≤ 1000000 → All (λ group. IsAccepted (cert model leg claim k group)) (waiting_groups model leg k)
  each claim k within few =
      All-weaker (λ group. waits model leg first k group ≡ true) (λ group. IsAccepted (cert model leg claim k group)) (λ group w. accepted claim k group within few w) (waiting_groups model leg k) (filter_passes (waits model leg first k) (range_with_len 0 (suc leg.bounds.tasks)))

  pub at_end : (o : Option ℕ) → completion model leg ≡ o → leg.number + length leg.events ≤ 1000000 → All IsAccepted (certs_by model leg o)
  unfolding completion
  at_end (Some zero) e few = All-nil IsAccepted
  at_end (Some (suc k)) e few =
      let below = find_below (complete model leg first) 0 (suc (length leg.events)) (suc k) e in
      All-map IsAccepted (cert model leg Floor k) (take 1 (waiting_groups model leg k)) (All-take (λ group. IsAccepted (cert model leg Floor k group)) 1 (waiting_groups model leg k) (each Floor k (omega (arith, below)) (omega (arith, below, few))))
  at_end None e few =
      let n = length leg.events in
      All-map IsAccepted (cert model leg Waiting n) (waiting_groups model leg n) (each Waiting n (omega arith) few)
