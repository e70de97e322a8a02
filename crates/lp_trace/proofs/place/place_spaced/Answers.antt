use Rattle.std.proofs.Common.{arith, ◌<◌, length}
use Rattle.std.proofs.lemmas.List.{take_more_set}
use Rattle.lp_trace.proofs.Digits.{spaced_put}
use Rattle.lp_trace.proofs.place.place_spaced.Goals as goal

pub returns-clause-placed : goal.returns-clause-placed
returns-clause-placed c =
    let within : c.args.at < length c.args.text.now = omega (arith, c.requires) in
    spaced_put _ _ _ _ (take_more_set c.args.text.now c.args.at 32 within) c.place_number.ensures.placed
