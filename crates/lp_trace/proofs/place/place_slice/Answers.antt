use Rattle.std.proofs.Common.{arith, ◌≡◌, ◌+◌, ◌-◌, ◌++◌, ◌∙◌, ap, length, take}
use Rattle.std.proofs.lemmas.List.{take_all}
use Rattle.lp_trace.proofs.Digits.{bytes_put}
use Rattle.lp_trace.proofs.place.place_slice.Goals as goal

pub returns-clause-placed : goal.returns-clause-placed
returns-clause-placed c =
    let after = c.copy_from_slice.ensures.after in
    let bytes = c.args.bytes.now in
    let size = length bytes in
    let wide : length c.copy_from_slice.new.self ≡ size = ap length after in
    bytes_put c.args.text.now c.copy_from_slice.new.self c.args.at size (c.args.at + size - c.args.at) (omega arith) (omega (arith, wide))
    ∙ ap (λ l. take c.args.at c.args.text.now ++ l) (ap (take size) after ∙ take_all size bytes (omega arith))
