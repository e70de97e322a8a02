use Rattle.std.proofs.Common.{arith, ◌≡◌, ◌+◌, ◌-◌, ◌++◌, ◌∙◌, ap, length, take}
use Rattle.lp_trace.proofs.Digits.{bytes_put}
use Rattle.lp_trace.proofs.place.place_bytes.Goals as goal

pub returns-clause-placed : goal.returns-clause-placed
returns-clause-placed g c = λ n few.
    let after = c.copy_from_slice.ensures.after in
    let wide : length c.copy_from_slice.new.self ≡ g.row.N = ap length after ∙ c.told-bytes in
    bytes_put c.args.text.now c.copy_from_slice.new.self c.args.at n (c.args.at + g.row.N - c.args.at) (omega arith) (omega (arith, few, wide))
    ∙ ap (λ l. take c.args.at c.args.text.now ++ take n l) after
