use Rattle.std.proofs.Common.{◌≤◌, ap, subst, arith, length, List}
use Rattle.std.proofs.lemmas.Bool.Decides.{nat_tests}
use mathlib.Core.List.{IsPrefix}
use Rattle.lp_definitions.specs.declared.event.Event.{Event}
use Rattle.lp_board.proofs.Prefixes.{prefix_length, prefix_shorter}
use Rattle.lp_board.proofs.history.Prefix.begins_with.Goals as goal

pub returns : goal.returns
returns g c =
    let both = c.learn.new.self.log in
    let this : IsPrefix c.self.inside.seen.log both = subst (λ (l : List Event). IsPrefix l both) (ap (λ s. s.log) c.again-both.ensures) c.learn.ensures.2 in (
      (λ yes.
          let fewer : c.other.inside.count ≤ c.self.inside.count = grind (arith, yes, nat_tests) in
          let less : length c.other.inside.seen.log ≤ length c.self.inside.seen.log = omega (arith, fewer, c.self.invariant.0, c.other.invariant.0) in
          rw (← c.self.view_is, ← c.other.view_is) (prefix_shorter c.other.inside.seen.log c.self.inside.seen.log both c.learn.ensures.3 this less)),
      (λ begins.
          let within : IsPrefix c.other.inside.seen.log c.self.inside.seen.log = rw (c.self.view_is, c.other.view_is) begins in
          let less = prefix_length c.other.inside.seen.log c.self.inside.seen.log within in
          let fewer : c.other.inside.count ≤ c.self.inside.count = omega (arith, less, c.self.invariant.0, c.other.invariant.0) in
          grind (arith, fewer, nat_tests)),
    )
