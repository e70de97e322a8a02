use Rattle.std.proofs.Common.{◌<◌, ◌-◌, [], get_or, option_to_list, arith}
use Rattle.std.proofs.lemmas.Grind.{common_steps}
use Rattle.lp_cert.proofs.PartLemmas.{taken_off, oldest_found, place_below}
use Rattle.lp_cert.proofs.oldest_first.OldestFirst.next.Goals as goal

pub returns-clause-reasons : goal.returns-clause-reasons
returns-clause-reasons c =
    let i = c.self.inside in
    let lists = i.chains.now.lists in
    let found = c.find.new.found in
    let some : 0 < i.left = omega arith in
    let at = oldest_found lists i.list.0 found.first i.left found.places c.find.ensures.found c.find.ensures.some in
    rw (← c.self.view_is)
    (taken_off (option_to_list i.ongoing) (get_or lists i.list.0 []) (get_or lists (get_or found.places (i.left - 1 - found.first) 0) []) i.left c.newest.result some at.rest c.newest.ensures)

pub offset_bounds-self-inside-self-inside : goal.offset_bounds-self-inside-self-inside
offset_bounds-self-inside-self-inside c =
    let i = c.self.inside in
    let found = c.find.new.found in
    omega (arith, place_below i.chains.now.lists i.list.0 found.first i.left found.places c.find.ensures.found c.find.ensures.some)

pub newest-requires-clause-some : goal.newest-requires-clause-some
newest-requires-clause-some c = grind (arith, common_steps)

pub newest-requires-clause-known : goal.newest-requires-clause-known
newest-requires-clause-known c = grind (arith, common_steps)
