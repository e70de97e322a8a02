use Rattle.std.proofs.Common.{sym, ◌∙◌, arith}
use Rattle.std.proofs.lemmas.Bool.{eqb-true, eq-eqb, false≢true}
use Rattle.lp_numbers.proofs.Links.{only-is, only-from}
use Rattle.lp_numbers.proofs.members.Members.is_only.Goals as goal

pub returns-then-get-number : goal.returns-then-get-number
returns-then-get-number c =
    let i = c.self.inside in
    rw (← c.self.view_is) (
      λ no. absurd (false≢true no),
      λ told. absurd (c.if-get-number.true (c.get.ensures.link ∙ (only-from i.first i.next i.before c.args.group c.self.invariant.linked c.args.number told).1)),
    )

pub returns-then-number-eq0 : goal.returns-then-number-eq0
returns-then-number-eq0 c =
    let i = c.self.inside in
    rw (← c.self.view_is) (
      λ no. absurd (false≢true no),
      λ told. let some = (only-from i.first i.next i.before c.args.group c.self.invariant.linked c.args.number told).0 in absurd (omega (arith, some, c.if-number-eq0.true)),
    )

pub returns : goal.returns
returns c =
    let i = c.self.inside in
    rw (← c.self.view_is) (
      λ last. only-is i.first i.next i.before c.args.group c.self.invariant.linked c.args.number c.if-number-eq0.false (sym c.get.ensures.link ∙ c.if-get-number.false) (sym c.get-2.ensures.link ∙ eqb-true c.get-2.result 0 last),
      λ told. eq-eqb c.get-2.result 0 (c.get-2.ensures.link ∙ (only-from i.first i.next i.before c.args.group c.self.invariant.linked c.args.number told).2),
    )
