use Rattle.std.proofs.Common.{◌≡◌, ◌∙◌, ◌<◌, ◌≤◌, length, Some, None, ap, arith, refl, sym, true≢false}
use Rattle.std.specs.List.{slice_get}
use Rattle.std.proofs.lemmas.Bool.Decides.{nat_tests}
use Rattle.std.proofs.lemmas.Option.{none-some, same_Some, slice_get_past, slice_get_read}
use Rattle.lp_log.proofs.cursor.is_next.Goals as goal

pub returns-in-Some : goal.returns-in-Some
returns-in-Some c =
    let sent = c.args.sent.now in
    let mine = c.in-Some.mine.now in
    let within : c.args.at < length sent = grind (arith, nat_tests, c.in-Some.ensures.lookup.0) in
    let there : slice_get sent c.args.at ≡ Some mine = slice_get_read sent (length sent) c.args.at mine refl within c.in-Some.ensures.lookup.1 in (
      λ yes. there ∙ ap Some (c.same_entry.ensures.0 yes),
      λ same. c.same_entry.ensures.1 (same_Some mine c.args.entry.now (sym there ∙ same)),
    )

pub returns-in-None : goal.returns-in-None
returns-in-None c =
    let past : length c.args.sent.now ≤ c.args.at = grind (arith, nat_tests, c.in-None.ensures.lookup.0) in
    let none : slice_get c.args.sent.now c.args.at ≡ None = slice_get_past c.args.sent.now c.args.at past in
    (λ no. absurd (true≢false (sym no)), λ same. absurd (none-some c.args.entry.now (sym none ∙ same)))
