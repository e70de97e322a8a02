-- What the maker needs of the room that it made.
use Rattle.std.proofs.Common.{◌≡◌, ℕ, Option, Some, sym, ap, subst, ◌∙◌}
use Rattle.std.specs.Option.{option_map}
use Rattle.lp_cert.specs.declared.open_leg.OpenLeg.{OpenLeg}
use Rattle.lp_cert.specs.declared.maker.Ready.{Ready}
use Rattle.lp_cert.specs.Ends.{Room}
use Rattle.lp_cert.specs.Invariant.{room_of}
use Rattle.lp_cert.specs.inside.Invariant.{IfReady, IsReady}
use Rattle.lp_cert.specs.Waiters.{WaitingGroups}
use Rattle.lp_cert.specs.inside.LegRows.{KeptEnds}

-- there is room for the event
pub ready_for : (noted : ℕ) (current : Option OpenLeg) (w : WaitingGroups) (ends : KeptEnds) (o : Option Ready) (ready : Ready) → IfReady noted current w ends o → o ≡ Some ready → IsReady noted current w ends ready
ready_for noted current w ends o ready h is = subst (IfReady noted current w ends) is h

-- it is what was asked for, and opens a leg or doesn't
pub room_is : (o : Option Ready) (ready : Ready) (room : Room) → o ≡ Some ready → option_map room_of o ≡ Some room → room_of ready ≡ room
room_is o ready room is told =
    let one : Option Room = Some (room_of ready) in
    let two : Option Room = Some room in
    let both : one ≡ two = sym (ap (option_map room_of) is) ∙ told in
    cc

pub opens_is : (o : Option Ready) (ready : Ready) (room : Room) → o ≡ Some ready → option_map room_of o ≡ Some room → ready.opens ≡ room.opens
opens_is o ready room is told = ap (λ (r : Room). r.opens) (room_is o ready room is told)
