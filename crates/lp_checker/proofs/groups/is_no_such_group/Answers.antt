use Rattle.std.proofs.Common.{◌≡◌, true, false, not, ◌||◌, nat_eq, Bool, refl, sym, ◌∙◌}
use Rattle.std.specs.List.{list_any}
use Rattle.std.proofs.lemmas.Bool.{eq-eqb}
use Rattle.lp_definitions.specs.Chain.{nobody}
use Rattle.lp_definitions.specs.Leg.{after, has_member}
use Rattle.lp_definitions.specs.Schedule.{waits}
use Rattle.lp_definitions.specs.Tasks.{outlines}
use Rattle.lp_checker.specs.inside.Cursors.{leg_in}
use Rattle.lp_definitions.specs.Judgement.{births, first_lines, has_stray, last_group, sections}
use Rattle.lp_checker.proofs.groups.is_no_such_group.Goals as goal

-- the four tests, where the first ones pass
strays_here : (other stays strays nobody : Bool) → other ≡ true → stays ≡ true → strays ≡ true → true ≡ (not other || (not stays || (strays || nobody)))
strays_here other stays strays nobody a b c = rw (a, b, c) refl

no_strays : (other stays strays some : Bool) (b : Bool) → other ≡ true → stays ≡ true → strays ≡ false → b ≡ some → not b ≡ (not other || (not stays || (strays || not some)))
no_strays other stays strays some b a d c e = rw (a, d, c, e) refl

pub returns-then-has_stray-clause-none : goal.returns-then-has_stray-clause-none
returns-then-has_stray-clause-none g c =
    let model = g.M.Consistency.rules in
    let leg = leg_in c.args.cursor.now.range in
    let lines = c.args.lines.now in
    let parts = sections model leg c.args.cursor.now.range.end c.args.first.0 0 (first_lines lines) (births lines) in
    strays_here
    (nat_eq (last_group c.args.first.0 (births lines)) c.args.claimed.0)
    (waits model leg nobody 0 c.args.first.0)
    (list_any (has_stray model leg) parts)
    (not (has_member leg.bounds (outlines (after model leg c.args.cursor.now.range.end)) c.args.claimed.0))
    (eq-eqb _ _ (sym c.last_group.ensures ∙ c.if-last_group-claimed.false))
    (sym c.if-not-waits_at_opening.ensures)
    (sym (c.if-has_stray.ensures model leg c.args.cursor.now.range.end 0))

pub returns-clause-none : goal.returns-clause-none
returns-clause-none g c =
    let model = g.M.Consistency.rules in
    let leg = leg_in c.args.cursor.now.range in
    let lines = c.args.lines.now in
    let parts = sections model leg c.args.cursor.now.range.end c.args.first.0 0 (first_lines lines) (births lines) in
    no_strays
    (nat_eq (last_group c.args.first.0 (births lines)) c.args.claimed.0)
    (waits model leg nobody 0 c.args.first.0)
    (list_any (has_stray model leg) parts)
    (has_member leg.bounds (outlines (after model leg c.args.cursor.now.range.end)) c.args.claimed.0)
    c.has_member.result
    (eq-eqb _ _ (sym c.last_group.ensures ∙ c.if-last_group-claimed.false))
    (sym c.if-not-waits_at_opening.ensures)
    (sym (c.if-has_stray.ensures model leg c.args.cursor.now.range.end 0))
    (rw (c.go_to.ensures.range, c.in_ok-go_to.ensures.moment, c.end.ensures.value) at c.has_member.ensures)
