use Rattle.std.proofs.Common.{◌≡◌, ◌-◌, Some, false, length, ap, ◌∙◌, arith}
use Rattle.std.proofs.lemmas.List.{length-append}
use Rattle.lp_cert.specs.declared.leg_rows.LegRow.{LegRow}
use Rattle.lp_cert.specs.inside.LegRows.{KeptEnds, bare_end, is_other, row_after}
use Rattle.lp_cert.proofs.LegRows.{groups_added, own_end, own_row, row_tells}
use Rattle.lp_cert.proofs.leg_rows.LegRows.close_bare.Goals as goal

pub returns-in_err-append_to-clause-ends : goal.returns-in_err-append_to-clause-ends
returns-in_err-append_to-clause-ends c =
    let i = c.self.inside in
    groups_added i.groups.items c.append_to.ensures.more i.others.items i.rows.items c.self.invariant.each _ _ c.append_to.ensures.longer (ap (λ (k : KeptEnds). k.ends) c.self.view_is)

pub returns-then-start-gt-MOST_PLACES-clause-ends : goal.returns-then-start-gt-MOST_PLACES-clause-ends
returns-then-start-gt-MOST_PLACES-clause-ends c =
    let i = c.self.inside in
    groups_added i.groups.items c.append_to.ensures.more i.others.items i.rows.items c.self.invariant.each _ _ c.append_to.ensures.longer (ap (λ (k : KeptEnds). k.ends) c.self.view_is)

pub returns-in_err-reserve-clause-ends : goal.returns-in_err-reserve-clause-ends
returns-in_err-reserve-clause-ends c =
    let i = c.self.inside in
    rw c.reserve.ensures.items
    (groups_added i.groups.items c.append_to.ensures.more i.others.items i.rows.items c.self.invariant.each _ _ c.append_to.ensures.longer (ap (λ (k : KeptEnds). k.ends) c.self.view_is))

pub returns-clause-ends : goal.returns-clause-ends
returns-clause-ends c =
    let i = c.self.inside in
    rw c.reserve.ensures.items
    (groups_added i.groups.items c.append_to.ensures.more i.others.items i.rows.items c.self.invariant.each _ _ c.append_to.ensures.longer (ap (λ (k : KeptEnds). k.ends) c.self.view_is))

pub returns-clause-closing : goal.returns-clause-closing
returns-clause-closing c = λ _.
    let i = c.self.inside in
    let gs = i.groups.items in
    let added = c.in_ok-append_to.ensures in
    let row = c.row.result in
    let start = c.len-start.result in
    let count = c.len.result - c.len-start.result in
    let own : is_other row.kind ≡ false = ap (λ (r : LegRow). is_other r.kind) c.row.ensures ∙ own_row c.args.noted c.args.leg start count in
    let begins : row.start ≡ length gs = omega (arith, ap (λ (r : LegRow). r.start) c.row.ensures, c.len-start.ensures) in
    let many : row.count ≡ length added.more = omega (arith, ap (λ (r : LegRow). r.count) c.row.ensures, c.len.ensures, c.len-start.ensures, ap length added.longer, length-append gs added.more) in
    ap Some
    (own_end gs added.more i.others.items row own begins many _ added.longer
    ∙ (ap (λ (r : LegRow). bare_end r added.more) c.row.ensures ∙ (ap (bare_end (row_after c.args.noted c.args.leg start count)) added.done ∙ row_tells c.args.noted c.args.leg start count c.args.waiters.now c.requires)))
