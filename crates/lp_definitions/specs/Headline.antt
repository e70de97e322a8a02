-- The headline. For every list of events and every lawful model: in each leg every group went over at its first check that
-- the model allows; no legal schedule from that leg's opening moves any group, or completes the leg, earlier; each waiting
-- group has a certificate that the checker accepts, refusing every check so far; and under a whole-call model each stay in
-- the patched set runs one version.
use Rattle.std.specs.Prelude.{◌≡◌, ℕ, zero, suc, pred, ◌+◌, ◌≤◌, List, [], map, length, take, drop, All, Contains, Some, None, IsTrue, IsFalse, slice_get}
use Rattle.std.specs.List.{AllZip, range_with_len}
use Rattle.std.specs.Option.{option_map}
use Rattle.lp_symbols.specs.declared.sym_id.SymId.{SymId}
use Rattle.lp_stack.specs.declared.number.TaskId.{TaskId}
use Rattle.lp_model.specs.Rules.{Rules}
use Rattle.lp_definitions.specs.declared.event.Event.TheVariants.{Call}
use Rattle.lp_definitions.specs.declared.reply.What.{What}
use Rattle.lp_definitions.specs.declared.reply.What.TheVariants.{Ran, Switched}
use Rattle.lp_definitions.specs.declared.reply.Reply.{Reply}
use Rattle.lp_definitions.specs.Tasks.{Life, Live, Made}
use Rattle.lp_definitions.specs.Leg.{Leg, accepted, after}
use Rattle.lp_definitions.specs.Schedule.{Schedule, frame_of, waits, complete, IsLegal, IsFirstCheck, CompletesAt}
use Rattle.lp_definitions.specs.Chain.{Chain, IsRefusedBetween}
use Rattle.lp_definitions.specs.Run.{Run, AreInRange, first_leg, switched_at}
use Rattle.lp_definitions.specs.Stays.{moments, stays, is_mixed}
use Rattle.lp_definitions.specs.declared.cert.Cert.{Cert}
use Rattle.lp_definitions.specs.declared.cert.Claim.{Claim}
use Rattle.lp_definitions.specs.declared.cert.Claim.TheVariants.{Waiting, Floor}
use Rattle.lp_definitions.specs.Ends.{LegEnd}
use Rattle.lp_definitions.specs.Certificates.{opened_legs}
use Rattle.lp_definitions.specs.Judgement.{cert_fault}
use Rattle.lp_definitions.specs.Outcome.{Outcome, IsOutcome}

-- the groups that switched, as a reply names them
abbrev pub switched_groups : What → List ℕ
switched_groups (Switched groups) = groups
switched_groups _ = []

-- the replies to the event that opened a leg and to each event of the leg; the reply to event 1 of the run is the first
abbrev pub replies_in : Leg → List Reply → List Reply
replies_in leg replies = take (suc (length leg.events)) (drop (pred leg.number) replies)

-- ---- One leg, with its first-check schedule. Its events are counted from 1, and 0 is its opening

module _ (model : Rules) (leg : Leg) (first : Schedule) where
  -- every group switched at its first check that the model allows: the replies name those whose moment it is
  abbrev pub SwitchAtFirstChecks : List Reply → Type 0
  SwitchAtFirstChecks replies =
      map (λ reply. switched_groups reply.what) (replies_in leg replies)
      ≡ map (switched_at leg first) (range_with_len 0 (suc (length leg.events)))

  -- the version that was answered to an accepted call is the level of the frame that the call pushes
  abbrev pub CallsRunTheirFrames : List Reply → Type 0
  CallsRunTheirFrames replies =
      (k : ℕ) (t : TaskId) (f : SymId) (x : Life) → accepted model leg k ≡ Some (Call t f) → after model leg k t.0 ≡ Live x →
      option_map (λ reply. reply.what) (slice_get (replies_in leg replies) (suc k)) ≡ Some (Ran (frame_of leg first x (Made f k)).level)

  -- no legal schedule switches any group, or completes the leg, earlier: who waits waits under each of them, and where one of
  -- them has completed the leg, the answer says that it was complete by then
  pub record NoneIsEarlier (end : LegEnd) : Type 0 where
    pub switches :
        (other : Schedule) → IsLegal model leg other →
        (k group : ℕ) → IsTrue (waits model leg first k group) → IsTrue (waits model leg other k group)
    pub completes :
        (other : Schedule) → IsLegal model leg other →
        (k : ℕ) → k ≤ length leg.events → IsTrue (complete model leg other k) →
        (j : ℕ) × (j ≤ k) × (end.completed ≡ Some (leg.number + j))
    -- it did complete where the answer says so
    pub completed :
        (at : ℕ) → end.completed ≡ Some at → (k : ℕ) × (at ≡ leg.number + k) × CompletesAt model leg first k

  -- among the certificates of the end is one with this claim of the group after the first k events
  abbrev pub HasCert : LegEnd → Claim → (k group : ℕ) → Type 0
  HasCert end claim k group =
      (made : Cert) × Contains end.certs made × (made.claim ≡ claim) × (made.group.0 ≡ group) × (made.upto ≡ leg.number + k)

  -- each waiting group has a certificate that the checker accepts, refusing every check so far
  pub record AreCertified (end : LegEnd) : Type 0 where
    pub waiting : (group : ℕ) → IsTrue (waits model leg first (length leg.events) group) → HasCert end Waiting (length leg.events) group
    -- a leg that completed after its opening has one that it wasn't complete just before
    pub floor : (k : ℕ) → end.completed ≡ Some (leg.number + suc k) → (group : ℕ) × HasCert end Floor k group
    pub accepted : All (λ made. cert_fault model leg made.claim made ≡ None) end.certs
    pub refused :
        (k group : ℕ) → IsTrue (waits model leg first k group) → IsRefusedBetween model leg first zero k group
    -- and it waited at the opening, or a chain of births leads to it from a group that did
    pub chain :
        (k group : ℕ) → IsTrue (waits model leg first k group) → Chain model leg first group k

-- ---- The run

-- a leg, and the end that was answered for it, which names the leg and where it took the tasks
pub record HeadlineOfLeg (model : Rules) (replies : List Reply) (leg : Leg) (end : LegEnd) : Type 0 where
  pub opened : end.opened ≡ leg.number
  pub target : end.target.0 ≡ leg.target
  -- a leg has exactly one
  pub first : Schedule
  pub is_first : IsFirstCheck model leg first
  pub first_checks : SwitchAtFirstChecks model leg first replies
  pub calls : CallsRunTheirFrames model leg first replies
  pub none_earlier : NoneIsEarlier model leg first end
  pub certified : AreCertified model leg first end

-- each stay in the patched set runs one version
abbrev pub StaysRunOneVersion : Rules → Run → Type 0
StaysRunOneVersion model run =
    (patch t : ℕ) → All (λ stay. IsFalse (is_mixed stay)) (stays (moments model patch t (first_leg model run) run.events))

-- a run, and what was answered for it
pub record Headline (model : Rules) (run : Run) (found : Outcome) : Type 0 where
  pub legs : AllZip (HeadlineOfLeg model found.replies) (opened_legs model (first_leg model run) run.events) found.legs
  pub one_version : IsTrue model.whole_call → StaysRunOneVersion model run × (found.mixed ≡ 0)

-- the headline of every run, where the answer is the definitions'
pub record HeadlineHolds (model : Rules) : Type 0 where
  pub holds :
      (run : Run) → AreInRange run.bounds run.boots → length run.events ≤ 1000000 →
      (found : Outcome) → IsOutcome model run found → Headline model run found
