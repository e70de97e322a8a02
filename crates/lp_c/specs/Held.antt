-- What C keeps in a slot, and what it is told.
use Rattle.std.specs.Prelude.{◌≡◌, ℕ, not, List, [], length, Option, None, Some, slice_get}
use Rattle.lp_stack.specs.declared.number.TaskId.{TaskId}
use Rattle.lp_stack.specs.declared.view.Class.{Class}
use Rattle.lp_patch.specs.Patches.{Patches}
use Rattle.lp_definitions.specs.declared.event.Event.{Event}
use Rattle.lp_definitions.specs.declared.reply.Reply.{Reply}
use Rattle.lp_definitions.specs.Leg.{LegTask}
use Rattle.lp_machine.specs.Machine.{complete_in}
use Rattle.lp_definitions.specs.Run.{plus}
use Rattle.lp_machine.specs.Table.{state_in}
use Rattle.lp_definitions.specs.declared.cert.Cert.{Cert}
use Rattle.lp_definitions.specs.declared.line.Line.{Line}
use Rattle.livepatch.specs.Named.{NamedRun, reply_in, waiting_cert}
use Rattle.livepatch.specs.Simulated.{run_with}
use Rattle.lp_c.specs.Arrays.{AreSets}
use Rattle.lp_models.specs.Models.{models}
use Rattle.lp_c.specs.Codes.{cert_code, events_of, flag, groups_in, mode_number, told_of}
use Rattle.lp_c.specs.declared.codes.CertCode.{CertCode}
use Rattle.lp_c.specs.declared.codes.EngineState.{EngineState}
use Rattle.lp_c.specs.declared.codes.EventCode.{EventCode}
use Rattle.lp_c.specs.declared.codes.TaskState.{TaskState}
use Rattle.lp_c.specs.declared.codes.Told.{Told}

-- the run under the model that was asked for, the groups that switched at the last event, and the certificate that was asked
-- for since
pub record Held : Type 0 where
  pub named : NamedRun
  pub groups : List ℕ
  pub cert : Option Cert

-- the certificate that a group waits in the leg under way, if it does
abbrev pub cert_of : Held → (group : ℕ) → Option Cert
cert_of held group = waiting_cert held.named group

-- the lines of the certificate that was asked for
abbrev pub lines_in : Option Cert → List Line
lines_in None = []
lines_in (Some cert) = cert.lines

-- the reply that the definitions give to an event that comes now
abbrev pub reply_to : Held → Event → Reply
reply_to held event = reply_in held.named event

-- the event was taken once: the run has it, under the same model, and the groups are those of its reply
pub record IsStepped (event : Event) (old new : Held) : Type 0 where
  pub run : new.named.simulated.run ≡ plus old.named.simulated.run event
  pub model : new.named.model ≡ old.named.model
  pub groups : new.groups ≡ groups_in (reply_to old event).what
  pub cert : new.cert ≡ None

-- the run with these patches and boot tasks, before its first event
pub record IsFirst (symbols : ℕ) (functions lengths : List ℕ) (boots : List (TaskId × Class)) (held : Held) : Type 0 where
  pub patches : Patches
  pub sets : AreSets symbols functions lengths patches
  pub run : held.named.simulated.run ≡ run_with patches boots []
  pub none : held.groups ≡ []
  pub no_cert : held.cert ≡ None

-- what is kept after a call that took an event, and what was told
pub record IsTaken (code : EventCode) (old new : Held) (told : Told) : Type 0 where
  pub event : Event
  pub coded : slice_get (events_of code.task code.other) code.kind ≡ Some event
  pub stepped : IsStepped event old new
  pub tells : told ≡ told_of (reply_to old event)

-- the same of a slot: it had an engine, and has it still
abbrev pub IsStep : EventCode → Option Held → Option Held → Told → Type 0
IsStep code None new told = ⊥
IsStep code (Some old) None told = ⊥
IsStep code (Some old) (Some new) told = IsTaken code old new told

-- a slot with a new engine, under the model of a number
abbrev pub IsCreated : (model symbols : ℕ) → (functions lengths : List ℕ) → List (TaskId × Class) → Option Held → Type 0
IsCreated model symbols functions lengths boots None = ⊥
IsCreated model symbols functions lengths boots (Some held) =
    (slice_get models model ≡ Some held.named.model) × IsFirst symbols functions lengths boots held

-- where the engine stands
pub record TellsState (held : Held) (state : EngineState) : Type 0 where
  pub events : state.events ≡ length held.named.simulated.run.events
  pub target : state.target ≡ held.named.simulated.core.target
  pub in_transition : state.in_transition ≡ flag (not (complete_in (state_in held.named.simulated.core)))

-- a live task as it stands
pub record TellsTask (x : LegTask) (state : TaskState) : Type 0 where
  pub level : state.level ≡ x.level
  pub group : state.group ≡ x.group
  pub mode : state.mode ≡ mode_number x.mode
  pub depth : state.depth ≡ length x.frames

-- the certificate of a group is kept, and told
pub record IsCertified (group : ℕ) (old : Held) (new : Option Held) (told : CertCode) : Type 0 where
  pub cert : Cert
  pub waits : cert_of old group ≡ Some cert
  pub kept : new ≡ Some (record old { cert = Some cert })
  pub tells : told ≡ cert_code cert
