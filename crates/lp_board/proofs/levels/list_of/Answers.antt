use Rattle.std.proofs.Common.{rules, ◌≡◌, ◌∷◌, ◌++◌, [], ◌∙◌, arith}
use Rattle.lp_machine.specs.Table.{leg_tasks}
use Rattle.lp_board.specs.Pages.{level_of}
use Rattle.lp_board.proofs.BlankLemmas.{map-more, all_levels, levels_wide}
use Rattle.lp_board.proofs.levels.list_of.Goals as goal

pub loop-number-preserved : goal.loop-number-preserved
loop-number-preserved g c =
    let items : c.push.new.self.items ≡ c.loop-number.levels.items ++ c.level_now.result ∷ [] = search rules in
    items ∙ map-more (λ t. level_of (leg_tasks c.args.core.now.table t)) c.loop-number.number c.loop-number.levels.items c.level_now.result c.level_now.ensures c.loop-number.invariant

pub returns : goal.returns
returns g c =
    let all = all_levels c.args.core.now c.loop-number.levels.items c.loop-number.number (omega arith) c.loop-number.invariant in
    record { levels = all; wide = levels_wide c.args.core.now c.loop-number.levels.items all }
