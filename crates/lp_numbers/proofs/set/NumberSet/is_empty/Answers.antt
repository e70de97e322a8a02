use Rattle.std.proofs.Common.{sym, ◌∙◌}
use Rattle.lp_numbers.proofs.Sets.{has-numbers_of}
use Rattle.lp_numbers.proofs.set.NumberSet.is_empty.Goals as goal

pub returns : goal.returns
returns c =
    let blank = rw c.as_slice.ensures.value at c.is_blank.ensures in
    rw (← c.self.view_is) (
      λ yes n. has-numbers_of c.self.inside.words.items n ∙ blank.0 yes n,
      λ none. blank.1 (λ k. sym (has-numbers_of c.self.inside.words.items k) ∙ none k),
    )
