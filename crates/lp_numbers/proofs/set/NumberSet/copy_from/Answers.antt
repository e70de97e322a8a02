use Rattle.std.proofs.Common.{arith}
use Rattle.std.proofs.lemmas.Grind.{common_steps}
use Rattle.lp_numbers.proofs.ThreeLevels.{tops-few, same-unnamed}
use Rattle.lp_numbers.proofs.set.NumberSet.copy_from.Goals as goal

pub copy_blocks-requires-clause-few : goal.copy_blocks-requires-clause-few
copy_blocks-requires-clause-few c = λ place h. tops-few c.self.inside.words.items c.self.inside.summary.items c.self.inside.top c.other.inside.words.items c.other.inside.summary.items c.other.inside.top place c.self.invariant c.other.invariant h

pub copy_blocks-requires-clause-rest : goal.copy_blocks-requires-clause-rest
copy_blocks-requires-clause-rest c = λ i none. rw (c.as_mut_slice.ensures.value, c.as_slice.ensures.value) (same-unnamed c.self.inside.words.items c.self.inside.summary.items c.self.inside.top c.other.inside.words.items c.other.inside.summary.items c.other.inside.top i c.self.invariant c.other.invariant none)

pub invariant_of-self : goal.invariant_of-self
invariant_of-self c = grind (arith, common_steps)

pub returns-clause-same : goal.returns-clause-same
returns-clause-same c = grind (arith, common_steps)
