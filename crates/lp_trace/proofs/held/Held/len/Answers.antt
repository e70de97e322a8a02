use Rattle.std.proofs.Common.{ap}
use Rattle.lp_trace.specs.inside.Held.{HeldText}
use Rattle.lp_trace.proofs.Rooms.{held_length}
use Rattle.lp_trace.proofs.held.Held.len.Goals as goal

pub returns : goal.returns
returns c = held_length c.self.inside.room.items c.args.self.now.items c.self.inside.len c.self.invariant (ap (λ (held : HeldText). held.items) c.self.view_is)
