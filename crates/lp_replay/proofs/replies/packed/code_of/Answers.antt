use Rattle.std.proofs.Common.{ℕ, ◌+◌, ◌∙◌, ap, sym}
use Rattle.lp_replay.specs.Replies.{coded_what}
use Rattle.lp_replay.proofs.Codes.{refused_coded}
use Rattle.lp_replay.proofs.replies.packed.code_of.Goals as goal

pub returns-in-Refused-clause-code : goal.returns-in-Refused-clause-code
returns-in-Refused-clause-code c =
    ap (λ (n : ℕ). coded_what (1 + n)) (c.from.ensures ∙ c.number.ensures) ∙ refused_coded c.in-Refused.why ∙ sym c.in-Refused.is
