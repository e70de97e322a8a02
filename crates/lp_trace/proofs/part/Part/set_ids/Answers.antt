use Rattle.std.proofs.Common.{arith, ◌∙◌}
use Rattle.std.proofs.lemmas.List.{take_all}
use Rattle.lp_trace.proofs.Digits.{ids_put}
use Rattle.lp_trace.proofs.part.Part.set_ids.Goals as goal

pub returns : goal.returns
returns c =
    ids_put c.place_bytes.new.text c.place_id-middle.new.text c.place_id-end.new.text c.args.word.now _ _ 4 c.place_id-middle.result c.place_id-end.result (omega arith) (c.place_bytes.ensures.placed 4 (omega arith) ∙ take_all 4 c.args.word.now (omega (arith, c.told-word))) c.place_id-middle.ensures.placed c.place_id-end.ensures.placed
