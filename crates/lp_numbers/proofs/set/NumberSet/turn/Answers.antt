use Rattle.std.proofs.Common.{◌≡◌, ◌++◌, length, take, drop, arith}
use Rattle.lp_numbers.proofs.Sets.{written_back, numbers_of-turned}
use Rattle.lp_numbers.proofs.set.NumberSet.turn.Goals as goal

pub returns-clause-turned : goal.returns-clause-turned
returns-clause-turned c = λ n.
    let back : take c.self.inside.words.len (c.turn-top.new.words ++ drop (length c.turn-top.new.words) c.self.inside.words.items) ≡ c.turn-top.new.words = written_back c.self.inside.words.len c.turn-top.new.words (drop (length c.turn-top.new.words) c.self.inside.words.items) (omega (arith, c.self.invariant.count, c.turn-top.ensures.levels.count)) in
    rw (back, ← c.self.view_is, ← c.other.view_is) (numbers_of-turned c.self.inside.words.items c.other.inside.words.items c.turn-top.new.words (simp (c.as_mut_slice.ensures.value, c.as_slice.ensures.value) at c.turn-top.ensures.turned) n)
