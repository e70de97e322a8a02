use Rattle.std.proofs.Common.{◌≡◌, ◌++◌, length, take, drop, arith, ◌<◌, ◌*◌}
use Rattle.std.proofs.lemmas.Grind.{common_steps}
use Rattle.lp_numbers.proofs.Sets.{written_back, numbers_of-put}
use Rattle.lp_numbers.proofs.set.NumberSet.put.Goals as goal

pub returns-clause-after : goal.returns-clause-after
returns-clause-after c =
    let back : take c.self.inside.words.len (c.put-top.new.words ++ drop (length c.put-top.new.words) c.self.inside.words.items) ≡ c.put-top.new.words = written_back c.self.inside.words.len c.put-top.new.words (drop (length c.put-top.new.words) c.self.inside.words.items) (omega arith) in
    let same : length c.put-top.new.words ≡ length c.self.inside.words.items = omega (arith, c.self.invariant.count, c.put-top.ensures.levels.count) in
    let within : c.args.number < 64 * length c.self.inside.words.items = omega (arith, c.self.invariant.count) in
    rw (back, ← c.self.view_is) (numbers_of-put c.self.inside.words.items c.put-top.new.words c.args.number c.args.is_member same within (simp (c.as_mut_slice.ensures.value, c.from.ensures) at c.put-top.ensures.bits))

pub invariant_of-self : goal.invariant_of-self
invariant_of-self c = grind (arith, common_steps)
