use Rattle.std.proofs.Common.{ap, arith}
use Rattle.lp_trace.specs.inside.Held.{HeldText}
use Rattle.lp_trace.proofs.Rooms.{held_more, still_held}
use Rattle.lp_trace.proofs.held.Held.hold_claim.Goals as goal

pub invariant_of-self : goal.invariant_of-self
invariant_of-self c =
    still_held c.place_claim-end.new.text _ _ c.place_claim-end.result (omega (arith, c.as_mut_slice.ensures.len, c.place_claim-end.ensures.size)) (omega (arith, c.as_mut_slice.ensures.len, c.place_claim-end.ensures.size, c.self.invariant.size)) (omega (arith, c.as_mut_slice.ensures.len, c.place_claim-end.ensures.size, c.self.invariant.size))

pub returns-clause-taken : goal.returns-clause-taken
returns-clause-taken c = λ _.
    held_more c.self.inside.room.items c.as_mut_slice.result.now c.place_claim-end.new.text _ c.args.self.now.items _ c.self.inside.len c.place_claim-end.result _ c.as_mut_slice.ensures.value (ap (λ (held : HeldText). held.items) c.self.view_is) (omega (arith, c.as_mut_slice.ensures.len, c.place_claim-end.ensures.size)) c.place_claim-end.ensures.placed
