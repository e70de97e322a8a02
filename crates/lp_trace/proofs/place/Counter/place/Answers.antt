use Rattle.std.proofs.Common.{arith, ◌+◌, ◌/◌, refl, ◌∙◌, ap, ◌++◌, take}
use Rattle.lp_trace.proofs.Counting.{counted_put, last_digit}
use Rattle.lp_trace.proofs.place.Counter.place.Goals as goal

pub returns-clause-placed : goal.returns-clause-placed
returns-clause-placed c =
    let is = c.self.invariant in
    let inside = c.self.inside in
    let number = last_digit (inside.tens / 10) inside.ones c.args.self.now (omega (arith, c.self.view_is, is.whole)) is.one_digit (omega (arith, c.self.view_is, is.fits)) in
    counted_put c.args.text.now c.place_bytes.new.text c.place_bytes-2.new.text _ c.args.rest.now _ (48 + inside.ones) c.args.at inside.len c.args.len _ (omega arith) (c.place_bytes.ensures.placed inside.len (omega arith) ∙ ap (λ l. take c.args.at c.args.text.now ++ l) is.digits) number refl (c.place_bytes-2.ensures.placed c.args.len c.requires.short)
