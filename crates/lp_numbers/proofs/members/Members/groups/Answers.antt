use Rattle.std.proofs.Common.{◌≡◌, ◌≢◌, ◌<◌, ◌≤◌, ◌⊎◌, ℕ, Bool, true, false, inl, inr, arith, refl, sym, ◌∙◌, slice_index}
use Rattle.std.proofs.lemmas.Bool.{cases_lt, eqb-true, not-false, false≢true}
use Rattle.std.proofs.lemmas.List.{get_or_past}
use Rattle.lp_numbers.proofs.Links.{empty-is, first-is}
use Rattle.lp_numbers.proofs.members.Members.groups.Goals as goal

pub returns-clause-some : goal.returns-clause-some
returns-clause-some c = λ group named.
    let i = c.self.inside in
    let some : slice_index i.first group ≢ 0 = λ e. false≢true (sym (c.self.invariant.named group ∙ rw e refl) ∙ named) in
    rw (← c.self.view_is) (slice_index i.first group, first-is i.first i.next i.before group c.self.invariant.linked some)

pub returns-clause-none : goal.returns-clause-none
returns-clause-none c = λ group unnamed.
    let i = c.self.inside in
    let none = eqb-true (slice_index i.first group) 0 (not-false _ (sym (c.self.invariant.named group) ∙ unnamed)) in
    rw (← c.self.view_is) (empty-is i.first i.next i.before group c.self.invariant.linked none)

pub returns-clause-few : goal.returns-clause-few
returns-clause-few c = λ group named.
    let i = c.self.inside in
    by (cases_lt group 65536) named (λ past. c.self.invariant.named group ∙ rw (get_or_past i.first group 0 (omega (arith, past, c.self.invariant.linked.firsts))) refl)
  where
    by : {group : ℕ} {b : Bool} → (group < 65536) ⊎ (65536 ≤ group) → b ≡ true → (65536 ≤ group → b ≡ false) → group < 65536
    by (inl low) named none = low
    by (inr past) named none = absurd (false≢true (sym (none past) ∙ named))
