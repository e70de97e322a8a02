-- The certificates that are made: for each group that waits, the refusals and the births that show why.
-- Throughout, k counts the events of a leg so far; lines and claims carry the numbers that events have in the run.
use Rattle.std.specs.Prelude.{ℕ, zero, suc, ◌+◌, Bool, false, ◌&&◌, List, [], ◌∷◌, ◌++◌, length, map, filter, reverse, take, drop, Option, Some, None, if◌then◌else◌, nat_eq}
use Rattle.std.specs.List.{range_with_len, list_any, find}
use Rattle.std.specs.Option.{option_map}
use Rattle.lp_stack.specs.declared.number.TaskId.{TaskId}
use Rattle.lp_stack.specs.declared.number.GroupId.{GroupId}
use Rattle.lp_model.specs.declared.check.CheckKind.{CheckKind}
use Rattle.lp_model.specs.declared.check.Blame.{Blame}
use Rattle.lp_model.specs.declared.check.Blame.TheVariants as blame
use Rattle.lp_model.specs.Rules.{Rules}
use Rattle.lp_definitions.specs.declared.event.Event.{Event}
use Rattle.lp_definitions.specs.declared.event.Event.TheVariants.{Fork}
use Rattle.lp_definitions.specs.Tasks.{on_live, first_of}
use Rattle.lp_definitions.specs.Leg.{Leg, after, accepted, check}
use Rattle.lp_definitions.specs.Schedule.{view, waits, complete, first_check}
use Rattle.lp_definitions.specs.Run.{opens, next_leg}
use Rattle.lp_definitions.specs.declared.line.Line.{Line}
use Rattle.lp_definitions.specs.declared.line.Line.TheVariants.{Hold, Busy, Born}
use Rattle.lp_definitions.specs.declared.cert.Claim.{Claim}
use Rattle.lp_definitions.specs.declared.cert.Claim.TheVariants.{Waiting, Floor}
use Rattle.lp_definitions.specs.declared.cert.Cert.{Cert}

abbrev pub group_id : ℕ → GroupId
group_id group = record { 0 = group }

abbrev pub task_id : ℕ → TaskId
task_id task = record { 0 = task }

-- the line of a refusal at an event, for this member and its blame
abbrev pub refusal_line : (group at : ℕ) → ℕ × Blame → List Line
refusal_line group at (t, blame.Frame serial) = Hold (group_id group) (task_id t) serial at at ∷ []
refusal_line group at (t, blame.Busy) = Busy (group_id group) (task_id t) at ∷ []
refusal_line group at (t, blame.Unused) = []

-- these lines, the newest in front, after a refusal at an event: a hold in front whose frame is still on its task's stack
-- goes up to there, else there is a new line
abbrev pub after_refusal : (has_frame : (task serial : ℕ) → Bool) → (group at : ℕ) → ℕ × Blame → List Line → List Line
after_refusal has_frame group at blamed (Hold g task serial from to ∷ older) =
    if has_frame task.0 serial
    then Hold g task serial from at ∷ older
    else refusal_line group at blamed ++ Hold g task serial from to ∷ older
after_refusal has_frame group at blamed lines = refusal_line group at blamed ++ lines

-- these lines after a check at an event, where one comes and refuses a member
abbrev pub after_check : (has_frame : (task serial : ℕ) → Bool) → (group at : ℕ) → Option (ℕ × Blame) → List Line → List Line
after_check has_frame group at None lines = lines
after_check has_frame group at (Some blamed) lines = after_refusal has_frame group at blamed lines

-- the line of a birth
abbrev pub birth_line : (group : ℕ) → TaskId → (at : ℕ) → Line
birth_line group parent at = Born (group_id group) parent at

module _ (model : Rules) (leg : Leg) where
  -- ---- Refusals

  -- after the first k events a frame with this serial is on the stack of a live task
  abbrev pub has_frame : (k task serial : ℕ) → Bool
  has_frame k t serial =
      on_live false
      (λ x. list_any (λ frame. nat_eq frame.serial serial) (view leg (first_check model leg) t x).frames)
      (after model leg k t)

  -- the blame of a task after the first k events, if it is a live member of the group that a check of this kind refuses
  abbrev pub member_blame : CheckKind → (k group task : ℕ) → Option Blame
  member_blame kind k group t =
      on_live None
      (λ x. if nat_eq x.group group then model.blame kind (view leg (first_check model leg) t x) leg.aim else None)
      (after model leg k t)

  -- the member of least number that a check of this kind refuses, with its blame
  abbrev pub first_blamed : Option CheckKind → (k group : ℕ) → Option (ℕ × Blame)
  first_blamed None k group = None
  first_blamed (Some kind) k group =
      first_of (map (λ t. option_map (λ why. (t, why)) (member_blame kind k group t)) (range_with_len 1 leg.bounds.tasks))

  -- ---- The lines of each group

  -- after event k + 1, if it is a fork into a group of the child's own: the lines of the parent's group, then the birth
  abbrev pub with_birth : (k group : ℕ) → Option Event → (ℕ → List Line) → List Line
  with_birth k group (Some (Fork p c how)) lines =
      let parents = on_live 0 (λ x. x.group) (after model leg k p.0) in
      if nat_eq group c.0 && nat_eq group (model.child_group parents c.0 how)
      then birth_line group p (leg.number + suc k) ∷ lines parents
      else lines group
  with_birth k group _ lines = lines group

  -- the lines of a group after the first k events, the newest in front
  unfoldable pub lines : (k group : ℕ) → List Line
  lines zero group = []
  lines (suc k) group =
      after_check (has_frame (suc k)) group (leg.number + suc k) (first_blamed (check model leg k group) (suc k) group)
      (with_birth k group (accepted model leg k) (lines k))

  -- ---- Certificates

  -- the groups that wait after the first k events, in increasing order
  abbrev pub waiting_groups : ℕ → List ℕ
  waiting_groups k = filter (waits model leg (first_check model leg) k) (range_with_len 0 (suc leg.bounds.tasks))

  -- the certificate that a group waits after the first k events
  abbrev pub cert : Claim → (k group : ℕ) → Cert
  cert claim k group =
      record {
        claim = claim;
        leg = leg.number;
        group = group_id group;
        upto = leg.number + k;
        lines = reverse (lines k group);
      }

  -- one for each group that waits
  abbrev pub waiting_certs : ℕ → List Cert
  waiting_certs k = map (cert Waiting k) (waiting_groups k)

  -- one for the least of them: the leg isn't complete
  abbrev pub floor_certs : ℕ → List Cert
  floor_certs k = map (cert Floor k) (take 1 (waiting_groups k))

  -- the first moment at which the leg is complete
  unfoldable pub completion : Option ℕ
  completion = find (complete model leg (first_check model leg)) (range_with_len 0 (suc (length leg.events)))

  -- of a leg that completed after its opening that it wasn't complete just before, of one that was complete at once
  -- none, and of any other that each of its groups still waits
  abbrev pub certs_by : Option ℕ → List Cert
  certs_by (Some zero) = []
  certs_by (Some (suc k)) = floor_certs k
  certs_by None = waiting_certs (length leg.events)

  -- the certificates of a leg at its end
  abbrev pub certs_of : List Cert
  certs_of = certs_by completion

module _ (model : Rules) where
  -- this leg and those that the events open, each with all its events
  unfoldable pub legs : Leg → List Event → List Leg
  legs leg [] = leg ∷ []
  legs leg (event ∷ events) =
      (if opens model leg event then leg ∷ [] else []) ++ legs (next_leg model leg event) events

  -- the legs that control events opened: what stands before the first is none of them
  abbrev pub opened_legs : Leg → List Event → List Leg
  opened_legs leg events = drop 1 (legs leg events)
