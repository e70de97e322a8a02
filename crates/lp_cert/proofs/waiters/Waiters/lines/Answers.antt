use Rattle.std.proofs.Common.{◌≡◌, ◌∙◌, ℕ, List, Some, true, ap, reverse, subst, sym, arith}
use Rattle.std.proofs.lemmas.Grind.{common_steps}
use Rattle.std.specs.Option.{option_map}
use Rattle.lp_numbers.specs.Numbers.{has}
use Rattle.lp_definitions.specs.declared.line.Line.{Line}
use Rattle.lp_cert.specs.Waiters.{WaitingGroups}
use Rattle.lp_cert.specs.inside.Waiters.{lines_at, lines_in}
use Rattle.lp_cert.proofs.waiters.Waiters.lines.Goals as goal

lines-of_waiter : (waiting : WaitingGroups) (group : ℕ) (lines : List Line) → has waiting.groups group ≡ true → lines ≡ reverse (lines_in waiting.reasons group) → Some lines ≡ option_map reverse (lines_at waiting group)
lines-of_waiter waiting group lines waits is = rw waits (ap Some is)

pub returns : goal.returns
returns c =
    let lines = subst (λ (w : WaitingGroups). c.lines.result ≡ reverse (lines_in w.reasons c.args.group.0)) c.self.view_is c.lines.ensures in
    lines-of_waiter c.args.self.now c.args.group.0 c.lines.result (sym c.waits.ensures ∙ c.if-not-waits.false) lines

pub lines-requires : goal.lines-requires
lines-requires c = grind (arith, common_steps)
