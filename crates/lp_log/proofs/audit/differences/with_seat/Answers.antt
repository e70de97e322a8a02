use Rattle.std.proofs.Common.{◌≡◌, ◌<◌, ◌++◌, ◌∷◌, ◌∙◌, ℕ, [], List, subst, sym, true≢false, IfSome}
use Rattle.std.proofs.lemmas.Bool.Decides.{when_true, when_false}
use Rattle.lp_log.specs.Entries.{Entry}
use Rattle.lp_log.specs.Audits.{DifferAt, IsItsPart, SeatDiffers, part_of}
use Rattle.lp_log.specs.inside.Cursors.{Follows}
use Rattle.lp_log.proofs.Differences.{alike_more, later_more, differs_more}
use Rattle.lp_log.proofs.audit.differences.with_seat.Goals as goal

pub returns-then-not-differs : goal.returns-then-not-differs
returns-then-not-differs c = λ entries before follows h.
    let seat = c.args.seat.now in
    let part = part_of seat.task entries in
    let here = subst (λ (es : List Entry). Follows es part c.args.cursor) (sym c.entries.ensures) follows in
    let alike : IsItsPart entries seat = sym c.entries.ensures ∙ when_false (DifferAt c.entries.result.now part c.args.cursor.at) (c.entries.result.now ≡ part) c.if-not-differs.true (c.differs.ensures part here) in
    alike_more entries before seat c.args.least alike h

pub returns-then-not-is_below : goal.returns-then-not-is_below
returns-then-not-is_below c = λ entries before follows h.
    let seat = c.args.seat.now in
    later_more entries before seat c.args.least
    (λ below.
    let there = subst (λ (t : ℕ). IfSome c.args.least (λ found. t < found.0)) (sym c.task-task.ensures) below in
    true≢false (sym (c.is_below.ensures.1 there) ∙ c.if-not-is_below.true)) h

pub returns : goal.returns
returns c = λ entries before follows h.
    let seat = c.args.seat.now in
    let part = part_of seat.task entries in
    let here = subst (λ (es : List Entry). Follows es part c.args.cursor) (sym c.entries.ensures) follows in
    let differs = when_true (DifferAt c.entries.result.now part c.args.cursor.at) (c.entries.result.now ≡ part) c.if-not-differs.false (c.differs.ensures part here) in
    let sent = subst (λ (es : List Entry). DifferAt es part c.args.cursor.at) c.entries.ensures differs in
    let first = subst (λ (t : ℕ). IfSome c.args.least (λ found. t < found.0)) c.task-task.ensures (c.is_below.ensures.0 c.if-not-is_below.false) in
    subst (λ (t : ℕ). SeatDiffers entries (before ++ seat ∷ []) t c.args.cursor.at) (sym c.task-task.ensures) (differs_more entries before seat c.args.least c.args.cursor.at sent first h)
