-- The leg under way as it is kept.
use Rattle.std.specs.Prelude.{ℕ, List, map}
use Rattle.lp_definitions.specs.declared.cert.Cert.{Cert}
use Rattle.lp_definitions.specs.Ends.{LegEnd}
use Rattle.lp_cert.specs.declared.open_leg.OpenLeg.{OpenLeg}
use Rattle.lp_cert.specs.declared.maker.Ready.{Ready}
use Rattle.lp_cert.specs.Ends.{Room}
use Rattle.lp_cert.specs.CommonHeads.{head_after}
use Rattle.lp_cert.specs.Waiters.{WaitingGroups, kept_cert, waiters_of}

-- ---- The certificates of a leg as it stands

-- the certificates as they stand after so many events
abbrev pub certs_at : ℕ → WaitingGroups → OpenLeg → List Cert
certs_at noted waiters leg =
    let head = head_after noted leg in
    map (kept_cert head.claim head.leg head.upto waiters.reasons.lists waiters.reasons.scans) (waiters_of waiters)

-- the end of the leg, if it ended then
abbrev pub open_end : ℕ → WaitingGroups → OpenLeg → LegEnd
open_end noted waiters leg =
    record { opened = leg.opened; target = leg.target; completed = leg.completed; certs = certs_at noted waiters leg }

-- ---- What is kept

-- the room that is made
abbrev pub room_of : Ready → Room
room_of ready = record { opens = ready.opens; verdicts = ready.verdicts }
