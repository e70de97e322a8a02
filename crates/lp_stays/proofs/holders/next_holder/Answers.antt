use Rattle.std.proofs.Common.{ℕ, ◌/◌, ◌^◌, ap, arith}
use Rattle.std.proofs.lemmas.Nat.{shr_le}
use Rattle.lp_stays.proofs.Holding.{none-from, least-from, bit-within}
use Rattle.lp_stays.proofs.holders.next_holder.Goals as goal

pub returns-then-rest-eq0-clause-next : goal.returns-then-rest-eq0-clause-next
returns-then-rest-eq0-clause-next c = none-from c.args.mask c.args.from (rw c.from.ensures at c.if-rest-eq0.true)

pub returns-clause-below : goal.returns-clause-below
returns-clause-below c =
    let le = shr_le c.from.result c.args.from in
    bit-within c.args.mask _ c.ranges.mask.fits (least-from c.args.mask c.args.from _ (ap (λ (m : ℕ). m / 2 ^ c.args.from) c.from.ensures) (omega arith) (omega (arith, c.from.ensures, c.ranges.mask.fits))).passes

pub returns-clause-next : goal.returns-clause-next
returns-clause-next c =
    let le = shr_le c.from.result c.args.from in
    least-from c.args.mask c.args.from _ (ap (λ (m : ℕ). m / 2 ^ c.args.from) c.from.ensures) (omega arith) (omega (arith, c.from.ensures, c.ranges.mask.fits))
