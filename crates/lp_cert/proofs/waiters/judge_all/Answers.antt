use Rattle.std.proofs.Common.{◌≡◌, ◌+◌, ◌<◌, List, [], ◌∷◌, ◌++◌, length, take, get_or, None, sym, subst, add-one, arith}
use Rattle.std.proofs.lemmas.Grind.{common_steps}
use Rattle.std.proofs.Math.Seq.{take-suc}
use Rattle.lp_model.specs.declared.verdict.Verdict.{Verdict}
use Rattle.lp_machine.specs.Table.{state_in}
use Rattle.lp_cert.specs.inside.Waiters.{AreJudged, is_left}
use Rattle.lp_cert.proofs.WaiterLemmas.{one_judged, still_standing}
use Rattle.lp_cert.proofs.waiters.judge_all.Goals as goal

pub loop-verdict-preserved : goal.loop-verdict-preserved
loop-verdict-preserved g c =
    let vs = c.args.verdicts.now in
    let i = c.loop-verdict.verdict-index in
    let none : Verdict = record { task = record { 0 = 0 }; blame = None } in
    let within : i < length vs = omega arith in
    let step : take (i + 1) vs ≡ take i vs ++ get_or vs i none ∷ [] = rw add-one (take-suc vs i none within) in
    let s = state_in c.args.core.now in
    let all = one_judged s c.args.at (take i vs) (get_or vs i none) (is_left c.args.waiting.now c.args.refused.now) (is_left c.args.waiting.now c.loop-verdict.refused) (is_left c.args.waiting.now c.judge.new.refused) c.args.reasons.now c.loop-verdict.reasons c.judge.new.reasons c.requires.stand c.loop-verdict.invariant.judged c.judge.ensures in
    record {
      judged = subst (λ (l : List Verdict). AreJudged s c.args.at l (is_left c.args.waiting.now c.args.refused.now) (is_left c.args.waiting.now c.judge.new.refused) c.args.reasons.now c.judge.new.reasons) (sym step) all;
      stand = still_standing s c.args.at (take i vs) (get_or vs i none) (is_left c.args.waiting.now c.args.refused.now) (is_left c.args.waiting.now c.loop-verdict.refused) (is_left c.args.waiting.now c.judge.new.refused) c.args.reasons.now c.loop-verdict.reasons c.judge.new.reasons c.requires.stand c.loop-verdict.invariant.judged c.judge.ensures;
    }

pub returns : goal.returns
returns g c = grind (arith, common_steps)

pub judge-requires-clause-used : goal.judge-requires-clause-used
judge-requires-clause-used g c = grind (arith, common_steps)

pub judge-requires-clause-room : goal.judge-requires-clause-room
judge-requires-clause-room g c = grind (arith, common_steps)

pub loop-verdict-init : goal.loop-verdict-init
loop-verdict-init g c = grind (arith, common_steps)

pub judge-requires-clause-stand : goal.judge-requires-clause-stand
judge-requires-clause-stand g c = c.loop-verdict.invariant.stand
