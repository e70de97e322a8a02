use Rattle.std.proofs.lemmas.Bool.{false≢true}
use Rattle.std.proofs.Common.{◌+◌, refl, sym, ap, ◌∙◌, arith}
use Rattle.std.proofs.lemmas.Grind.{common_steps}
use Rattle.std.specs.Option.{option_map}
use Rattle.lp_cert.specs.Ends.{Made, IsMadeWith}
use Rattle.lp_cert.specs.Invariant.{open_end, room_of}
use Rattle.lp_cert.proofs.Settled.{open_leg}
use Rattle.lp_cert.proofs.QuietScans.{quiet_made}
use Rattle.lp_cert.proofs.maker.Maker.note_quiet_scan.Goals as goal

pub returns-clause-made : goal.returns-clause-made
returns-clause-made g c = λ yes run after stands is stands_after blamed known.
    let i = c.self.inside in
    let model = g.M.Consistency.rules in
    let number = c.events.result + 1 in
    let old : Made = record { ended = i.ended.ends; current = option_map (open_end i.noted i.waiters) i.current; ready = option_map room_of i.ready } in
    let new : Made = record { ended = i.ended.ends; current = option_map (open_end number c.scan_nobody.new.self) i.current; ready = option_map room_of i.ready } in
    let was : IsMadeWith model run c.args.core.now old = rw (← c.self.view_is) at is in
    let under_way = open_leg i.current (sym c.is_settled.ensures ∙ c.if-is_settled.false) in
    quiet_made model g.met.M.Consistency.lawful run c.args.core.now stands c.args.kind old was c.events.ensures.wide c.events.ensures.blamed after stands_after blamed known (c.is_quiet_scan.ensures c.if-not-is_quiet_scan.false)
    c.requires.scan c.requires.room new refl i.noted number under_way.0 i.waiters c.scan_nobody.new.self (ap (option_map (open_end i.noted i.waiters)) under_way.1) (ap (λ m. m + 1) c.events.ensures.value) under_way.2
    c.scan_nobody.ensures.stood c.scan_nobody.ensures.lines
    (ap (option_map (open_end number c.scan_nobody.new.self)) under_way.1)

pub scan_nobody-requires : goal.scan_nobody-requires
scan_nobody-requires g c = grind (arith, common_steps)

pub invariant_of-self : goal.invariant_of-self
invariant_of-self g c = grind (arith, common_steps)

pub returns-clause-left : goal.returns-clause-left
returns-clause-left g c = grind (arith, common_steps)

pub overflow_add-self : goal.overflow_add-self
overflow_add-self g c = grind (arith, common_steps)

pub overflow_cast-self : goal.overflow_cast-self
overflow_cast-self g c = grind (arith, common_steps)

pub returns-clause-ready : goal.returns-clause-ready
returns-clause-ready g c = grind (arith, common_steps)

pub returns-then-is_settled-clause-quiet : goal.returns-then-is_settled-clause-quiet
returns-then-is_settled-clause-quiet g c = λ yes. absurd (false≢true yes)

pub returns-then-is_settled-clause-made : goal.returns-then-is_settled-clause-made
returns-then-is_settled-clause-made g c = λ yes. absurd (false≢true yes)
