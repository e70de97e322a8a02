-- The numbers by which C names what it cannot see.
use Rattle.std.specs.Prelude.{ℕ, zero, suc, Bool, true, false, List, [], ◌∷◌, length}
use Rattle.lp_symbols.specs.declared.sym_id.SymId.{SymId}
use Rattle.lp_stack.specs.declared.number.TaskId.{TaskId}
use Rattle.lp_stack.specs.declared.view.Class.{Class}
use Rattle.lp_stack.specs.declared.view.Class.TheVariants as class
use Rattle.lp_stack.specs.declared.view.Mode.{Mode}
use Rattle.lp_stack.specs.declared.view.Mode.TheVariants.{User, Kernel, Asleep}
use Rattle.lp_model.specs.declared.check.ForkKind.TheVariants.{Own, Share}
use Rattle.lp_definitions.specs.declared.event.Event.{Event}
use Rattle.lp_definitions.specs.declared.event.Event.TheVariants as event
use Rattle.lp_definitions.specs.declared.reply.What.{What}
use Rattle.lp_definitions.specs.declared.reply.What.TheVariants as what
use Rattle.lp_definitions.specs.declared.reply.Reply.{Reply}
use Rattle.lp_definitions.specs.Events.{refusal_number}
use Rattle.lp_definitions.specs.declared.cert.Cert.{Cert}
use Rattle.lp_definitions.specs.declared.line.Line.{Line}
use Rattle.lp_definitions.specs.declared.line.Line.TheVariants.{Hold, Busy, Born}
use Rattle.lp_c.specs.declared.codes.BootTask.{BootTask}
use Rattle.lp_c.specs.declared.codes.CertCode.{CertCode}
use Rattle.lp_c.specs.declared.codes.LineCode.{LineCode}
use Rattle.lp_c.specs.declared.codes.Told.{Told}

-- the events of a task and another number, by their kinds
abbrev pub events_of : (task other : ℕ) → List Event
events_of t other =
    let task : TaskId = record { 0 = t } in
    let func : SymId = record { 0 = other } in
    let child : TaskId = record { 0 = other } in
    event.Call task func ∷ event.Ret task ∷ event.Sleep task ∷ event.Wake task ∷ event.Enter task ∷ event.Exit task ∷ event.Idle task ∷ event.Fork task child Own ∷ event.Fork task child Share ∷ event.Die task ∷ event.Walk ∷ event.Stop ∷ event.Enable ∷ event.Disable ∷ event.Reverse ∷ event.Resched task ∷ []

-- an idle task has any other number than 0
abbrev pub class_of : ℕ → Class
class_of zero = class.Normal
class_of (suc n) = class.Idle

abbrev pub boot_of : BootTask → TaskId × Class
boot_of boot = (record { 0 = boot.task }, class_of boot.idle)

-- ---- The reply

abbrev pub what_number : What → ℕ
what_number (what.Ran level) = 0
what_number what.Done = 1
what_number (what.Switched groups) = 2
what_number (what.Refused why) = 3

abbrev pub level_in : What → ℕ
level_in (what.Ran level) = level.0
level_in _ = 0

abbrev pub refusal_in : What → ℕ
refusal_in (what.Refused why) = refusal_number why
refusal_in _ = 0

-- the groups that switched
abbrev pub groups_in : What → List ℕ
groups_in (what.Switched groups) = groups
groups_in _ = []

abbrev pub flag : Bool → ℕ
flag true = 1
flag false = 0

-- the reply as C is told of it
abbrev pub told_of : Reply → Told
told_of reply =
    record {
      what = what_number reply.what;
      level = level_in reply.what;
      refusal = refusal_in reply.what;
      complete = flag reply.completed;
      groups = length (groups_in reply.what);
    }

-- ---- A task

abbrev pub mode_number : Mode → ℕ
mode_number User = 0
mode_number Kernel = 1
mode_number Asleep = 2

-- ---- Certificates

-- a certificate without its lines, and how many it has
abbrev pub cert_code : Cert → CertCode
cert_code cert = record { leg = cert.leg; upto = cert.upto; lines = length cert.lines }

abbrev pub line_code : Line → LineCode
line_code (Hold group task serial from to) = record { kind = 0; group = group.0; task = task.0; unused = 0; serial = serial; from = from; to = to }
line_code (Busy group task at) = record { kind = 1; group = group.0; task = task.0; unused = 0; serial = 0; from = at; to = at }
line_code (Born group parent at) = record { kind = 2; group = group.0; task = parent.0; unused = 0; serial = 0; from = at; to = at }
