use Rattle.lp_text.specs.Traces.{TraceValue, functions}
use Rattle.std.proofs.Common.{arith, rules}
use Rattle.std.proofs.lemmas.Grind.{common_steps}
use Rattle.lp_text.proofs.Parsers.{boot_taken, boot_free}
use Rattle.lp_text.proofs.parser.Parser.add_boot.Goals as goal

pub returns-then-index : goal.returns-then-index
returns-then-index c =
    rw (← c.self.view_is) (boot_taken _ c.self.inside.booted.items c.args.number c.args.class c.in-Ok.task c.from-place.result c.index.result.now c.self.invariant.1 c.in-Ok.ensures c.from-place.ensures c.index.ensures c.if-index.true)

pub returns : goal.returns
returns c =
    rw (← c.self.view_is, c.in-Ok-push.ensures.items) (boot_free _ c.self.inside.booted.items c.args.number c.args.class c.in-Ok.task c.from-place.result c.index.result.now c.self.invariant.1 c.in-Ok.ensures c.from-place.ensures c.index.ensures c.if-index.false)

pub returns-in_default : goal.returns-in_default
returns-in_default c =
    let d = c.self.inside in
    let so_far : TraceValue = record { form = d.form; symbols = d.symbols; patches = functions d.patches.items; boots = d.boots.items; events = d.events.items } in
    let free = boot_free so_far d.booted.items c.args.number c.args.class c.in-Ok.task c.from-place.result c.index.result.now c.self.invariant.1 c.in-Ok.ensures c.from-place.ensures c.index.ensures c.if-index.false in
    rw (← c.self.view_is, free) (search rules)

pub invariant_of-self-2 : goal.invariant_of-self-2
invariant_of-self-2 c = grind (arith, common_steps)

pub invariant_of-self : goal.invariant_of-self
invariant_of-self c = grind (arith, common_steps)
