use Rattle.std.proofs.Common.{◌≡◌, ◌≤◌, ◌+◌, ◌++◌, [], Option, option_to_list, Some, None, true, false, if◌then◌else◌, refl, sym, ap, subst, ◌∙◌, arith}
use Rattle.std.proofs.lemmas.Grind.{common_steps}
use Rattle.std.specs.Option.{option_map}
use Rattle.lp_machine.specs.Table.{state_in}
use Rattle.lp_cert.specs.declared.open_leg.OpenLeg.{OpenLeg}
use Rattle.lp_cert.specs.Ends.{Made, Room, IsMadeWith, is_opening, room_for}
use Rattle.lp_cert.specs.Invariant.{open_end, room_of}
use Rattle.lp_definitions.specs.Ends.{LegEnd}
use Rattle.lp_cert.specs.inside.Waiters.{has_off}
use Rattle.lp_cert.proofs.Noted.{none_made, still_made, turned_made}
use Rattle.lp_cert.proofs.Readied.{ready_for, room_is, opens_is}
use Rattle.lp_cert.proofs.Asked.{not_so, not_other}
use Rattle.lp_cert.proofs.OwnEffects.{own_room}
use Rattle.lp_cert.proofs.maker.Maker.note.Goals as goal

pub note_leg-requires-clause-own_room : goal.note_leg-requires-clause-own_room
note_leg-requires-clause-own_room g c =
    let i = c.self.inside in
    let kept : i.ready ≡ Some c.in-Some.ready = sym c.take.ensures.value ∙ c.in-Some.is in
    let ready = ready_for i.noted i.current i.waiters _ i.ready c.in-Some.ready c.self.invariant kept in
    own_room c.args.step.now.event i.waiters (ready.room (not_so c.in-Some.ready.opens c.if-not-ready.true)).own

pub note_leg-requires-clause-room : goal.note_leg-requires-clause-room
note_leg-requires-clause-room g c =
    let i = c.self.inside in
    let kept : i.ready ≡ Some c.in-Some.ready = sym c.take.ensures.value ∙ c.in-Some.is in
    let asked = rw (← c.self.view_is) at c.requires.ready in
    let ready = ready_for i.noted i.current i.waiters _ i.ready c.in-Some.ready c.self.invariant kept in
    subst (λ n. n ≤ i.waiters.reasons.room) (ap (λ (r : Room). r.verdicts) (room_is i.ready c.in-Some.ready (room_for c.args.step.now) kept asked)) (ready.room (not_so c.in-Some.ready.opens c.if-not-ready.true)).found

pub returns-in_default-current : goal.returns-in_default-current
returns-in_default-current g c = record {
  made = λ run after stands is stands_after blamed known.
      let i = c.self.inside in
      let number = c.events.result + 1 in
      let old : Made = record { ended = i.ended.ends; current = option_map (open_end i.noted i.waiters) i.current; ready = option_map room_of i.ready } in
      let new : Made = record { ended = i.ended.ends; current = option_map (open_end number i.waiters) i.current; ready = option_map room_of c.take.new.self } in
      let was : IsMadeWith g.M.Consistency.rules run c.args.core.now old = rw (← c.self.view_is) at is in
      let asked = rw (← c.self.view_is) at c.requires.ready in
      let stays : is_opening c.args.step.now ≡ false = sym (opens_is i.ready c.in-Some.ready (room_for c.args.step.now) (sym c.take.ensures.value ∙ c.in-Some.is) asked) ∙ not_so c.in-Some.ready.opens c.if-not-ready.true in
      none_made g.M.Consistency.rules g.met.M.Consistency.lawful run c.args.core.now stands c.args.step.now c.requires.weighed old new was c.events.ensures.wide c.events.ensures.blamed after stands_after blamed known stays refl
      (ap (option_map (open_end i.noted i.waiters)) c.in_default-current.is) (ap (option_map (open_end number i.waiters)) c.in_default-current.is);
}

pub returns-then-not-ready : goal.returns-then-not-ready
returns-then-not-ready g c = record {
  made = λ run after stands is stands_after blamed known.
      let i = c.self.inside in
      let number = c.events.result + 1 in
      let old : Made = record { ended = i.ended.ends; current = option_map (open_end i.noted i.waiters) i.current; ready = option_map room_of i.ready } in
      let new : Made = record { ended = i.ended.ends; current = Some (open_end number c.note_leg.new.waiters c.note_leg.new.leg); ready = option_map room_of c.take.new.self } in
      let was : IsMadeWith g.M.Consistency.rules run c.args.core.now old = rw (← c.self.view_is) at is in
      let asked = rw (← c.self.view_is) at c.requires.ready in
      let stays : is_opening c.args.step.now ≡ false = sym (opens_is i.ready c.in-Some.ready (room_for c.args.step.now) (sym c.take.ensures.value ∙ c.in-Some.is) asked) ∙ not_so c.in-Some.ready.opens c.if-not-ready.true in
      still_made g.M.Consistency.rules g.met.M.Consistency.lawful run c.args.core.now stands c.args.step.now c.requires.weighed old new was c.events.ensures.wide c.events.ensures.blamed after stands_after blamed known stays refl i.noted number c.in-Some-current.leg c.note_leg.new.leg i.waiters c.note_leg.new.waiters
      (ap (λ m. m + 1) c.events.ensures.value) c.note_leg.ensures (ap (option_map (open_end i.noted i.waiters)) c.in-Some-current.is) refl;
}

pub returns : goal.returns
returns g c = record {
  made = λ run after stands is stands_after blamed known.
      let i = c.self.inside in
      let model = g.M.Consistency.rules in
      let s = state_in c.args.core.now in
      let step = c.args.step.now in
      let number = c.events.result + 1 in
      let later = c.open.new.self in
      let old : Made = record { ended = i.ended.ends; current = option_map (open_end i.noted i.waiters) i.current; ready = option_map room_of i.ready } in
      let new : Made = record { ended = c.push_closed.new.self.ends; current = Some (open_end number later c.opened-next.result); ready = option_map room_of c.take.new.self } in
      let was : IsMadeWith model run c.args.core.now old = rw (← c.self.view_is) at is in
      let asked = rw (← c.self.view_is) at c.requires.ready in
      let kept : i.ready ≡ Some c.in-Some.ready = sym c.take.ensures.value ∙ c.in-Some.is in
      let turns : is_opening step ≡ true = sym (opens_is i.ready c.in-Some.ready (room_for step) kept asked) ∙ not_other c.in-Some.ready.opens c.if-not-ready.false in
      let ready = ready_for i.noted i.current i.waiters _ i.ready c.in-Some.ready c.self.invariant kept in
      let closing = ready.left (not_other c.in-Some.ready.opens c.if-not-ready.false) in
      let target = ap (λ (l : OpenLeg). l.target.0) c.opened-next.ensures in
      turned_made model g.met.M.Consistency.lawful run c.args.core.now stands step c.requires.weighed old new was c.events.ensures.wide c.events.ensures.blamed after stands_after blamed known turns
      number later (ap (λ m. m + 1) c.events.ensures.value)
      (λ sound group. c.open.ensures sound group ∙ ap (λ level. if has_off s level group then Some [] else None) target)
      (c.push_closed.ensures ∙ ap (λ (o : Option LegEnd). i.ended.ends ++ option_to_list o) closing)
      (ap (λ (l : OpenLeg). Some (open_end number later l)) c.opened-next.ensures);
}

pub invariant_of-self-2 : goal.invariant_of-self-2
invariant_of-self-2 g c = grind (arith, common_steps)

pub invariant_of-self-then-not-ready : goal.invariant_of-self-then-not-ready
invariant_of-self-then-not-ready g c = grind (arith, common_steps)

pub note_leg-requires-clause-scan_room : goal.note_leg-requires-clause-scan_room
note_leg-requires-clause-scan_room g c =
    let i = c.self.inside in
    let kept : i.ready ≡ Some c.in-Some.ready = sym c.take.ensures.value ∙ c.in-Some.is in
    let ready = ready_for i.noted i.current i.waiters _ i.ready c.in-Some.ready c.self.invariant kept in
    (ready.room (not_so c.in-Some.ready.opens c.if-not-ready.true)).scan

pub note_leg-requires-clause-weighed : goal.note_leg-requires-clause-weighed
note_leg-requires-clause-weighed g c = c.requires.weighed

pub opened-next-requires-clause-weighed : goal.opened-next-requires-clause-weighed
opened-next-requires-clause-weighed g c = c.requires.weighed
