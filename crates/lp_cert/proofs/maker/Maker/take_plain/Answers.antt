use Rattle.std.proofs.Common.{◌+◌, [], Some, None, Result, Ok, Err, OnErr, refl, sym, ap, ◌∙◌}
use Rattle.std.specs.Option.{option_map}
use Rattle.lp_transition.specs.Blames.{has_frame_in}
use Rattle.lp_machine.specs.Table.{state_in}
use Rattle.lp_cert.specs.Ends.{Made, IsMadeWith}
use Rattle.lp_cert.specs.Invariant.{open_end, room_of}
use Rattle.lp_cert.specs.inside.Invariant.{plain_step}
use Rattle.lp_cert.proofs.Making.{open_end_same}
use Rattle.lp_transition.proofs.Told.{plain_unused}
use Rattle.lp_cert.proofs.PlainEvents.{opens_none, plain_blames, plain_made, replied}
use Rattle.lp_cert.proofs.Settled.{rested}
use Rattle.lp_cert.proofs.maker.Maker.take_plain.Goals as goal

pub own_effect-effect-requires : goal.own_effect-effect-requires
own_effect-effect-requires g c = record { unscanned = plain_unused g.M.Consistency.rules c.args.event c.requires.plain }

pub returns-then-is_settled-clause-made : goal.returns-then-is_settled-clause-made
returns-then-is_settled-clause-made g c = λ run stands is.
    let i = c.self.inside in
    let model = g.M.Consistency.rules in
    let event = c.args.event in
    let number = c.events.result + 1 in
    let step = c.in_ok-reply.ensures.step in
    let old : Made = record { ended = i.ended.ends; current = option_map (open_end i.noted i.waiters) i.current; ready = option_map room_of i.ready } in
    let new : Made = record { ended = i.ended.ends; current = option_map (open_end number i.waiters) i.current; ready = None } in
    let was : IsMadeWith model run c.args.core.now old = rw (← c.self.view_is) at is in
    let stays = opens_none model c.args.core.now event c.requires.uncontrolled in
    rested model g.met.M.Consistency.lawful run c.args.core.now stands event c.requires.plain stays c.requires.room c.events.ensures.wide c.events.ensures.blamed old new was c.step_plain.new.self (step.reaches run stands) (plain_blames model c.args.core.now event c.step_plain.new.self c.requires.plain c.in_ok-reply.ensures.blames) c.in_ok-reply.ensures.last_scan refl
    i.noted number i.waiters (ap (λ m. m + 1) c.events.ensures.value) i.current (sym c.is_settled.ensures ∙ c.if-is_settled.true) refl refl

pub returns-in_default-clause-made : goal.returns-in_default-clause-made
returns-in_default-clause-made g c = λ run stands is.
    let i = c.self.inside in
    let model = g.M.Consistency.rules in
    let e = c.args.core.now in
    let event = c.args.event in
    let number = c.events.result + 1 in
    let later = c.reserve_own.new.self in
    let step = c.in_ok-reply-2.ensures.step in
    let old : Made = record { ended = i.ended.ends; current = option_map (open_end i.noted i.waiters) i.current; ready = option_map room_of i.ready } in
    let new : Made = record { ended = i.ended.ends; current = option_map (open_end number later) i.current; ready = None } in
    let was : IsMadeWith model run e old = rw (← c.self.view_is) at is in
    let stays = opens_none model e event c.requires.uncontrolled in
    plain_made model g.met.M.Consistency.lawful run e stands event c.requires.plain stays c.requires.room c.events.ensures.wide c.events.ensures.blamed old new was c.step_plain-2.new.self (step.reaches run stands) (plain_blames model c.args.core.now event c.step_plain-2.new.self c.requires.plain c.in_ok-reply-2.ensures.blames) c.in_ok-reply-2.ensures.last_scan refl
    i.noted number (ap (λ m. m + 1) c.events.ensures.value) i.waiters later None None tt
    (ap (option_map (open_end i.noted i.waiters)) c.in_default.is) (ap (option_map (open_end number later)) c.in_default.is)

pub returns-clause-made : goal.returns-clause-made
returns-clause-made g c = λ run stands is.
    let i = c.self.inside in
    let model = g.M.Consistency.rules in
    let e = c.args.core.now in
    let event = c.args.event in
    let number = c.events.result + 1 in
    let waiters = c.reserve_own.new.self in
    let later = c.affect_leg.new.waiters in
    let same = open_end_same waiters i.waiters c.reserve_own.ensures.groups c.reserve_own.ensures.heads i.noted c.reserve_own.ensures.lists c.reserve_own.ensures.scans i.current in
    let step = c.in_ok-reply-2.ensures.step in
    let old : Made = record { ended = i.ended.ends; current = option_map (open_end i.noted i.waiters) i.current; ready = option_map room_of i.ready } in
    let new : Made = record { ended = i.ended.ends; current = Some (open_end number later c.affect_leg.new.leg); ready = None } in
    let was : IsMadeWith model run e old = rw (← c.self.view_is) at is in
    let answers = replied model g.met.M.Consistency.lawful run e stands event c.in_ok-reply-2.reply step.replies in
    let stays = opens_none model e event c.requires.uncontrolled in
    plain_made model g.met.M.Consistency.lawful run e stands event c.requires.plain stays c.requires.room c.events.ensures.wide c.events.ensures.blamed old new was c.step_plain-2.new.self (step.reaches run stands) (plain_blames model c.args.core.now event c.step_plain-2.new.self c.requires.plain c.in_ok-reply-2.ensures.blames) c.in_ok-reply-2.ensures.last_scan refl
    i.noted number (ap (λ m. m + 1) c.events.ensures.value) waiters later (Some c.in-Some.leg) (Some c.affect_leg.new.leg)
    (c.affect_leg.ensures model e (plain_step model e event) (has_frame_in (state_in e)) (plain_unused model event c.requires.plain) (c.own_effect-effect.ensures.lines []) c.own_effect-effect.ensures.told c.own_effect-effect.ensures.few answers)
    (sym same ∙ ap (option_map (open_end i.noted waiters)) c.in-Some.is) refl

on_err : {A E P : Type 0} (r : Result A E) → P → OnErr r P
on_err (Ok a) same = tt
on_err (Err e) same = same

pub returns-in_err-reserve_own-clause-current : goal.returns-in_err-reserve_own-clause-current
returns-in_err-reserve_own-clause-current g c =
    let i = c.self.inside in
    rw (← c.self.view_is) (on_err _ (open_end_same c.reserve_own.new.self i.waiters c.reserve_own.ensures.groups c.reserve_own.ensures.heads i.noted c.reserve_own.ensures.lists c.reserve_own.ensures.scans i.current))

pub returns-in_err-reply-2-clause-current : goal.returns-in_err-reply-2-clause-current
returns-in_err-reply-2-clause-current g c =
    let i = c.self.inside in
    rw (← c.self.view_is) (on_err _ (open_end_same c.reserve_own.new.self i.waiters c.reserve_own.ensures.groups c.reserve_own.ensures.heads i.noted c.reserve_own.ensures.lists c.reserve_own.ensures.scans i.current))
