use Rattle.std.proofs.Common.{◌++◌, ◌∙◌, ◌∷◌, List, [], ap, ap₂, arith, sym, take_all}
use Rattle.std.proofs.lemmas.List.{map_more, take_more}
use Rattle.lp_definitions.specs.declared.event.Event.{Event}
use Rattle.lp_log.specs.Entries.{Entry}
use Rattle.lp_log.specs.Journals.{events_in}
use Rattle.lp_rows.proofs.in_order.has_events.Goals as goal

pub loop-place-preserved : goal.loop-place-preserved
loop-place-preserved c =
    let i = c.loop-place.place in
    let within = c.loop-place-test.true in
    map_more (λ (e : Entry). e.event) c.entries-entries.result.now i _ within
    ∙ ap₂ (λ (before : List Event) (event : Event). before ++ event ∷ []) c.loop-place.invariant (ap (λ (e : Entry). e.event) (sym c.index-entries-place.is) ∙ c.is_of.ensures.0 c.if-not-is_of.false)
    ∙ sym (take_more c.args.events.now i _ (omega (arith, within, c.if-entries-events.false)))

pub returns : goal.returns
returns c = λ _.
    let i = c.loop-place.place in
    let short = c.loop-place-test.false in
    ap events_in (sym c.entries-entries.ensures ∙ sym (take_all i c.entries-entries.result.now (omega (arith, short))))
    ∙ c.loop-place.invariant ∙ take_all i c.args.events.now (omega (arith, short, c.if-entries-events.false))
