use Rattle.std.proofs.Common.{ap, arith, sym, take, ◌∙◌}
use Rattle.std.proofs.lemmas.List.{take-take}
use Rattle.lp_trace.specs.inside.Held.{HeldText}
use Rattle.lp_trace.proofs.held.Held.truncate.Goals as goal

pub returns : goal.returns
returns c =
    sym (take-take c.args.len c.self.inside.len c.self.inside.room.items (omega arith))
    ∙ ap (λ (held : HeldText). take c.args.len held.items) c.self.view_is
