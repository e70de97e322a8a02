use Rattle.std.proofs.Common.{◌≡◌, ◌∙◌, ◌++◌, ◌+◌, ◌∷◌, [], List, ap, arith, length, subst, sym, take, drop}
use Rattle.std.proofs.lemmas.Grind.{common_steps}
use Rattle.std.proofs.lemmas.List.{take_more}
use Rattle.lp_log.specs.Entries.{Entry}
use Rattle.lp_log.specs.declared.cursor.Cursor.{Cursor}
use Rattle.lp_log.specs.inside.Cursors.{AllFollow}
use Rattle.lp_log.proofs.Places.{all_follow_none_yet, wrote_all}
use Rattle.lp_log.proofs.audit.follow.followed.Goals as goal

pub loop-entry-init : goal.loop-entry-init
loop-entry-init c = subst (λ (cursors : List Cursor). AllFollow [] c.args.seats.now cursors) (sym c.in_ok-cursors.ensures) (all_follow_none_yet c.args.seats.now)

pub loop-entry-preserved : goal.loop-entry-preserved
loop-entry-preserved c =
    let entries = c.args.entries.now in
    let i = c.loop-entry.entry-index in
    let cursors = c.loop-entry.cursors.items in
    let wrote : take c.loop-entry.cursors.len (c.follow.new.cursors ++ drop (length c.follow.new.cursors) cursors) ≡ c.follow.new.cursors = wrote_all _ _ _ (omega arith) (omega arith) in
    let more : take (i + 1) entries ≡ take i entries ++ c.entry-item.result ∷ [] = take_more entries i c.entry-item.result c.loop-entry-test.true ∙ ap (λ (e : Entry). take i entries ++ e ∷ []) (sym c.entry-item.is) in
    let now = subst (λ (cs : List Cursor). AllFollow (take i entries) c.args.seats.now cs) (sym c.as_mut_slice.ensures.value) c.loop-entry.invariant in
    subst (λ (cs : List Cursor). AllFollow (take (i + 1) entries) c.args.seats.now cs) (sym wrote)
    (subst (λ (es : List Entry). AllFollow es c.args.seats.now c.follow.new.cursors) (sym more) (c.follow.ensures (take i entries) now))

pub follow-requires-clause-count : goal.follow-requires-clause-count
follow-requires-clause-count c = grind (arith, common_steps)

pub returns : goal.returns
returns c = grind (arith, common_steps)
