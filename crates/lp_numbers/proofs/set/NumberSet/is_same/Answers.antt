use Rattle.std.proofs.Common.{sym, ◌∙◌}
use Rattle.lp_numbers.proofs.Sets.{has-numbers_of}
use Rattle.lp_numbers.proofs.ThreeLevels.{tops-few, same-unnamed}
use Rattle.lp_numbers.proofs.set.NumberSet.is_same.Goals as goal

pub are_same_blocks-requires-clause-few : goal.are_same_blocks-requires-clause-few
are_same_blocks-requires-clause-few c = λ place h. tops-few c.other.inside.words.items c.other.inside.summary.items c.other.inside.top c.self.inside.words.items c.self.inside.summary.items c.self.inside.top place c.other.invariant c.self.invariant h

pub are_same_blocks-requires-clause-rest : goal.are_same_blocks-requires-clause-rest
are_same_blocks-requires-clause-rest c = λ i none. rw (c.as_slice.ensures.value, c.as_slice-2.ensures.value) (sym (same-unnamed c.other.inside.words.items c.other.inside.summary.items c.other.inside.top c.self.inside.words.items c.self.inside.summary.items c.self.inside.top i c.other.invariant c.self.invariant none))

pub returns : goal.returns
returns c =
    let bits = rw (c.as_slice.ensures.value, c.as_slice-2.ensures.value) at c.are_same_blocks.ensures in
    rw (← c.self.view_is, ← c.other.view_is) (
      λ yes n. has-numbers_of c.self.inside.words.items n ∙ bits.0 yes n ∙ sym (has-numbers_of c.other.inside.words.items n),
      λ all. bits.1 (λ k. sym (has-numbers_of c.self.inside.words.items k) ∙ all k ∙ has-numbers_of c.other.inside.words.items k),
    )
