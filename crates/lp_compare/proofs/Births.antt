-- How many births a certificate tells at most.
use Rattle.std.proofs.Common.{◌≡◌, ◌+◌, ◌<◌, ◌≤◌, ◌^◌, ℕ, zero, suc, Bool, List, [], ◌∷◌, ◌++◌, map, length, take, All, Option, Some, None, ◌&&◌, nat_eq, cond, max, drop, refl, ap, ◌∙◌, arith}
use Rattle.std.specs.Prelude.{reverse, count_by, slice_get}
use Rattle.std.specs.Option.{option_map}
use Rattle.std.proofs.lemmas.Bool.{cond_both}
use Rattle.std.proofs.lemmas.Grind.{reverse_onto}
use Rattle.std.proofs.lemmas.List.Elements.{All-nil, All-cons}
use Rattle.std.proofs.lemmas.List.Sums.{sum_by-append, sum_by-cons}
use Rattle.lp_model.specs.declared.check.Blame.{Blame}
use Rattle.lp_model.specs.declared.check.Blame.TheVariants as blame
use Rattle.lp_model.specs.Rules.{Rules}
use Rattle.lp_definitions.specs.declared.event.Event.{Event}
use Rattle.lp_definitions.specs.declared.event.Event.TheVariants.{Call, Ret, Sleep, Wake, Enter, Exit, Idle, Resched, Fork, Die, Walk, Stop, Enable, Disable, Reverse}
use Rattle.lp_definitions.specs.Tasks.{on_live}
use Rattle.lp_definitions.specs.Leg.{Leg, after, accepted, check}
use Rattle.lp_definitions.specs.declared.line.Line.{Line}
use Rattle.lp_definitions.specs.declared.line.Line.TheVariants.{Hold, Busy, Born}
use Rattle.lp_definitions.specs.declared.cert.Cert.{Cert}
use Rattle.lp_definitions.specs.declared.cert.Claim.{Claim}
use Rattle.lp_definitions.specs.declared.cert.Claim.TheVariants.{Waiting, Floor}
use Rattle.lp_definitions.specs.Ends.{end_of}
use Rattle.lp_definitions.specs.Certificates.{after_check, after_refusal, refusal_line, birth_line, with_birth, has_frame, first_blamed, lines, cert, certs_by, completion, waiting_groups}
use Rattle.lp_laws.proofs.Completions.{completion_below}
use Rattle.lp_compare.specs.Comparison.{is_born, births_in, greatest}
use Rattle.lp_compare.specs.inside.FirstEnds.{FewBirths}

abbrev births : List Line → ℕ
births = count_by is_born

-- a refusal tells no birth
refusal_births : (group at : ℕ) (blamed : ℕ × Blame) (ls : List Line) → births (refusal_line group at blamed ++ ls) ≡ births ls
refusal_births group at (t, blame.Frame serial) ls = omega arith
refusal_births group at (t, blame.Busy) ls = omega arith
refusal_births group at (t, blame.Unused) ls = refl

module _ (hf : ℕ → ℕ → Bool) (group at : ℕ) where
  refused_births : (blamed : ℕ × Blame) (ls : List Line) → births (after_refusal hf group at blamed ls) ≡ births ls
  refused_births blamed [] = refusal_births group at blamed []
  refused_births blamed (Hold g task serial from to ∷ older) =
      cond_both (hf task.0 serial) (Hold g task serial from at ∷ older) (refusal_line group at blamed ++ Hold g task serial from to ∷ older) (λ ls. births ls ≡ births (Hold g task serial from to ∷ older)) (λ e. refl) (λ e. refusal_births group at blamed (Hold g task serial from to ∷ older))
  refused_births blamed (Busy g task when ∷ older) = refusal_births group at blamed (Busy g task when ∷ older)
  refused_births blamed (Born g parent when ∷ older) = refusal_births group at blamed (Born g parent when ∷ older)

  checked_births : (o : Option (ℕ × Blame)) (ls : List Line) → births (after_check hf group at o ls) ≡ births ls
  checked_births None ls = refl
  checked_births (Some blamed) ls = refused_births blamed ls

module _ (model : Rules) (leg : Leg) where
  -- an event tells one birth at most
  born_births : (k group : ℕ) (o : Option Event) (ls : ℕ → List Line) → ((g : ℕ) → births (ls g) ≤ k) → births (with_birth model leg k group o ls) ≤ suc k
  born_births k group None ls h = omega (arith, h group)
  born_births k group (Some (Fork p c how)) ls h =
      let parents = on_live 0 (λ x. x.group) (after model leg k p.0) in
      cond_both (nat_eq group c.0 && nat_eq group (model.child_group parents c.0 how)) (birth_line group p (leg.number + suc k) ∷ ls parents) (ls group) (λ l. births l ≤ suc k)
      (λ e. omega (arith, h parents, sum_by-cons (λ x. cond (is_born x) 1 0) (birth_line group p (leg.number + suc k)) (ls parents))) (λ e. omega (arith, h group))
  born_births k group (Some (Call t f)) ls h = omega (arith, h group)
  born_births k group (Some (Ret t)) ls h = omega (arith, h group)
  born_births k group (Some (Sleep t)) ls h = omega (arith, h group)
  born_births k group (Some (Wake t)) ls h = omega (arith, h group)
  born_births k group (Some (Enter t)) ls h = omega (arith, h group)
  born_births k group (Some (Exit t)) ls h = omega (arith, h group)
  born_births k group (Some (Idle t)) ls h = omega (arith, h group)
  born_births k group (Some (Resched t)) ls h = omega (arith, h group)
  born_births k group (Some (Die t)) ls h = omega (arith, h group)
  born_births k group (Some Walk) ls h = omega (arith, h group)
  born_births k group (Some Stop) ls h = omega (arith, h group)
  born_births k group (Some Enable) ls h = omega (arith, h group)
  born_births k group (Some Disable) ls h = omega (arith, h group)
  born_births k group (Some Reverse) ls h = omega (arith, h group)

  lines_births : (k group : ℕ) → births (lines model leg k group) ≤ k
  unfolding lines
  lines_births zero group = omega arith
  lines_births (suc k) group =
      omega (arith, checked_births (has_frame model leg (suc k)) group (leg.number + suc k) (first_blamed model leg (check model leg k group) (suc k) group) (with_birth model leg k group (accepted model leg k) (lines model leg k)), born_births k group (accepted model leg k) (lines model leg k) (lines_births k))

-- ---- Certificates

reversed_births : (ls : List Line) → births (reverse ls) ≡ births ls
reversed_births [] = refl
reversed_births (line ∷ ls) =
    ap births (reverse_onto ls line [])
    ∙ omega (arith, sum_by-append (λ x. cond (is_born x) 1 0) (reverse ls) (line ∷ []), sum_by-cons (λ x. cond (is_born x) 1 0) line ls, reversed_births ls)

module _ (model : Rules) (leg : Leg) where
  cert_births : (claim : Claim) (n k group : ℕ) → k ≤ n → births_in (cert model leg claim k group) ≤ n
  cert_births claim n k group le = omega (arith, le, reversed_births (lines model leg k group), lines_births model leg k group)

  few_in : (claim : Claim) (n k : ℕ) → k ≤ n → n < 2 ^ 64 → (groups : List ℕ) → All (λ cert. births_in cert < 2 ^ 64) (map (cert model leg claim k) groups)
  few_in claim n k le few [] = All-nil (λ cert. births_in cert < 2 ^ 64)
  few_in claim n k le few (group ∷ groups) =
      All-cons (λ cert. births_in cert < 2 ^ 64) _ _ (omega (arith, cert_births claim n k group le, few)) (few_in claim n k le few groups)

  few_by : (o : Option ℕ) → completion model leg ≡ o → length leg.events < 2 ^ 64 → All (λ cert. births_in cert < 2 ^ 64) (certs_by model leg o)
  few_by None e few = few_in Waiting (length leg.events) (length leg.events) (omega arith) few (waiting_groups model leg (length leg.events))
  few_by (Some zero) e few = All-nil (λ cert. births_in cert < 2 ^ 64)
  few_by (Some (suc k)) e few =
      few_in Floor (length leg.events) k (omega (arith, completion_below model leg (suc k) e)) few (take 1 (waiting_groups model leg k))

  -- the certificates of a leg's end tell so few births that they can be counted
  pub few_births : length leg.events < 2 ^ 64 → FewBirths (end_of model leg)
  few_births few = few_by (completion model leg) refl few

-- ---- The greatest of them

greatest_at : (certs : List Cert) (place : ℕ) (found : Cert) → slice_get certs place ≡ Some found → greatest (map births_in (drop place certs)) ≡ max (births_in found) (greatest (map births_in (drop (place + 1) certs)))
greatest_at [] place found e = absurd (cc)
greatest_at (first ∷ certs) zero found e =
    let same : first ≡ found = cc in
    ap (λ (c : Cert). max (births_in c) (greatest (map births_in certs))) same
greatest_at (first ∷ certs) (suc place) found e =
    let later : suc (place + 1) ≡ suc place + 1 = omega arith in
    greatest_at certs place found e ∙ ap (λ n. max (births_in found) (greatest (map births_in (drop n (first ∷ certs))))) later

module _ (certs : List Cert) (place : ℕ) (told : List Line) (most counted new all : ℕ) (is : counted ≡ births told) (greater : new ≡ max most counted) (so_far : max most (greatest (map births_in (drop place certs))) ≡ all) where
  next_by : (o : Option Cert) → slice_get certs place ≡ o → option_map (λ (cert : Cert). cert.lines) o ≡ Some told → max new (greatest (map births_in (drop (place + 1) certs))) ≡ all
  next_by None e h = absurd (cc)
  next_by (Some found) e h =
      let lines_are : found.lines ≡ told = cc in
      omega (arith, greatest_at certs place found e, ap births lines_are, is, greater, so_far)

  -- the greatest so far, with that of the certificate at a place
  pub next_most : option_map (λ (cert : Cert). cert.lines) (slice_get certs place) ≡ Some told → max new (greatest (map births_in (drop (place + 1) certs))) ≡ all
  next_most h = next_by (slice_get certs place) refl h
