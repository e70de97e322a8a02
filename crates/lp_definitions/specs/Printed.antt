-- What events, replies, refusals and faults of certificates print as.
use Rattle.std.specs.Prelude.{ℕ, Bool, true, false, List, [], ◌∷◌, ◌++◌, decimal, codes, if◌then◌else◌}
use Rattle.std.specs.List.{flat_map}
use Rattle.lp_model.specs.Printed.{fork_kind_text}
use Rattle.lp_stack.specs.declared.number.GroupId.{GroupId}
use Rattle.lp_definitions.specs.declared.event.Event.{Event}
use Rattle.lp_definitions.specs.declared.event.Event.TheVariants.{Call, Ret, Sleep, Wake, Enter, Exit, Idle, Resched, Fork, Die, Walk, Stop, Enable, Disable, Reverse}
use Rattle.lp_definitions.specs.declared.refusal.Refusal.{Refusal}
use Rattle.lp_definitions.specs.declared.reply.What.{What}
use Rattle.lp_definitions.specs.declared.reply.What.TheVariants.{Ran, Done, Switched, Refused}
use Rattle.lp_definitions.specs.declared.reply.Reply.{Reply}
use Rattle.lp_definitions.specs.declared.cert_fault.CertFault.{CertFault}
use Rattle.lp_definitions.specs.declared.cert_fault.CertFault.TheVariants.{NoSuchGroup, NotOnStack, NoBlame, Gap, BadBirth, NoLeg, NoMemory}
use Rattle.lp_definitions.specs.Events.{refusal_number}

-- ---- Events, as in a trace, but for a function's number in the place of its name

-- a number after a space
abbrev pub spaced : ℕ → List ℕ
spaced number = 32 ∷ decimal number

abbrev pub event_word : Event → List ℕ
event_word (Call t f) = codes "call"
event_word (Ret t) = codes "ret"
event_word (Sleep t) = codes "sleep"
event_word (Wake t) = codes "wake"
event_word (Enter t) = codes "enter"
event_word (Exit t) = codes "exit"
event_word (Idle t) = codes "idle"
event_word (Resched t) = codes "resched"
event_word (Fork p c how) = codes "fork"
event_word (Die t) = codes "die"
event_word Walk = codes "walk"
event_word Stop = codes "stop"
event_word Enable = codes "enable"
event_word Disable = codes "disable"
event_word Reverse = codes "reverse"

-- what follows the word
abbrev pub event_rest : Event → List ℕ
event_rest (Call t f) = spaced t.0 ++ spaced f.0
event_rest (Fork p c how) = spaced p.0 ++ spaced c.0 ++ 32 ∷ fork_kind_text how
event_rest (Ret t) = spaced t.0
event_rest (Sleep t) = spaced t.0
event_rest (Wake t) = spaced t.0
event_rest (Enter t) = spaced t.0
event_rest (Exit t) = spaced t.0
event_rest (Idle t) = spaced t.0
event_rest (Resched t) = spaced t.0
event_rest (Die t) = spaced t.0
event_rest _ = []

abbrev pub event_text : Event → List ℕ
event_text event = event_word event ++ event_rest event

-- ---- Replies, as in the report of a stack of patches

abbrev pub refusal_text : Refusal → List ℕ
refusal_text refusal = 69 ∷ decimal (refusal_number refusal)

-- groups, parted by a space
abbrev pub groups_text : List ℕ → List ℕ
groups_text [] = []
groups_text (group ∷ groups) = decimal group ++ flat_map spaced groups

abbrev pub what_text : What → List ℕ
what_text (Ran level) = codes "ran" ++ spaced level.0
what_text Done = codes "done"
what_text (Switched groups) = codes "over " ++ groups_text groups
what_text (Refused why) = codes "refused " ++ refusal_text why

abbrev pub reply_text : Reply → List ℕ
reply_text reply = what_text reply.what ++ (if reply.completed then codes " complete" else [])

-- ---- Faults of certificates

abbrev pub cert_fault_text : CertFault → List ℕ
cert_fault_text NoSuchGroup = codes "C1: the group waits nowhere"
cert_fault_text (NotOnStack event) = codes "C2: after event " ++ decimal event ++ codes " the frame isn't on the task's stack"
cert_fault_text (NoBlame event) =
    codes "C3: at event " ++ decimal event ++ codes " there is no such blame, or it isn't in the time of its group"
cert_fault_text (Gap event) = codes "C4: no line says why the check of event " ++ decimal event ++ codes " refused"
cert_fault_text (BadBirth event) = codes "C5: event " ++ decimal event ++ codes " is no such birth"
cert_fault_text NoLeg = codes "C6: another claim or another leg, or an end outside of it"
cert_fault_text NoMemory = codes "C7: out of memory"
