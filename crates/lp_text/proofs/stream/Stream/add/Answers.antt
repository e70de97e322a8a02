use Rattle.std.proofs.Common.{◌≡◌, ◌∷◌, ◌++◌, [], length, sym, ap, subst, ◌∙◌, arith}
use Rattle.std.proofs.lemmas.List.{length-append}
use Rattle.lp_text.specs.contracts.stream.Stream.{the_view}
use Rattle.lp_text.specs.inside.Cut.{IsCut}
use Rattle.lp_text.specs.inside.Streams.{IsUnbroken}
use Rattle.lp_text.specs.Words.{lines}
use Rattle.lp_text.proofs.Choices.{at_some}
use Rattle.lp_text.proofs.Streams.{held_on}
use Rattle.lp_text.proofs.Unbroken.{alone, unbroken_alone, unbroken_both, unbroken_first}
use Rattle.lp_text.proofs.stream.Stream.add.Goals as goal

pub invariant_of-self-in_default-after : goal.invariant_of-self-in_default-after
invariant_of-self-in_default-after c =
    let piece = c.args.piece.now in
    let end = c.cut.result.0.now in
    let whole : lines piece ≡ end ∷ [] = rw c.in_default-after.is at c.cut.ensures.parts in
    rw c.in-Ok.ensures.items (unbroken_both c.self.inside.held.items end c.self.invariant (subst IsUnbroken (alone piece end whole) (unbroken_alone piece end whole)))

pub returns-in_default-after-clause-read : goal.returns-in_default-after-clause-read
returns-in_default-after-clause-read c =
    let piece = c.args.piece.now in
    let end = c.cut.result.0.now in
    let whole : lines piece ≡ end ∷ [] = rw c.in_default-after.is at c.cut.ensures.parts in
    rw (← c.self.view_is) (held_on (the_view c.self.inside) piece c.extend_from_slice.new.self.items (c.in-Ok.ensures.items ∙ ap (λ l. c.self.inside.held.items ++ l) (sym (alone piece end whole))))

pub returns-in_default-after-clause-few : goal.returns-in_default-after-clause-few
returns-in_default-after-clause-few c =
    let piece = c.args.piece.now in
    let end = c.cut.result.0.now in
    let whole : lines piece ≡ end ∷ [] = rw c.in_default-after.is at c.cut.ensures.parts in
    rw (← c.self.view_is) (omega (arith, ap length c.in-Ok.ensures.items, length-append c.self.inside.held.items end, ap length (alone piece end whole)))

pub invariant_of-self-2 : goal.invariant_of-self-2
invariant_of-self-2 c =
    let piece = c.args.piece.now in
    let end = c.cut.result.0.now in
    let cut : IsCut 10 piece end c.in-Some.lines.now = at_some (λ rest. IsCut 10 piece end rest.now) c.cut.result.1 c.in-Some.lines c.cut.ensures.cut c.in-Some.is in
    rw c.in-Ok.ensures.items (unbroken_both c.self.inside.held.items end c.self.invariant (unbroken_first piece end c.in-Some.lines.now cut))
