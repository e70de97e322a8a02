-- What comes of a trace that threads play, and what is written of it.
use Rattle.std.specs.Prelude.{◌≡◌, ℕ, ◌-◌, not, is_some, List, ◌++◌, filter, length, All, decimal, codes}
use Rattle.lp_model.specs.Rules.{Rules}
use Rattle.lp_definitions.specs.declared.event.Event.{Event}
use Rattle.lp_text.specs.Traces.{TraceValue}
use Rattle.lp_replay.specs.Outcome.{run_of}
use Rattle.lp_log.specs.Entries.{Entry}
use Rattle.lp_log.specs.Audits.{IsClosed, is_number}
use Rattle.lp_log.specs.Journals.{Written, IsReplayed, events_in}
use Rattle.lp_log.specs.Seats.{Seated, owner}
use Rattle.lp_threads.specs.declared.report.Play.{Play}

-- the events of a task, and those of the control, in their order
abbrev pub events_of : ℕ → List Event → List Event
events_of task events = filter (λ event. is_number task (owner event)) events

abbrev pub events_of_control : List Event → List Event
events_of_control events = filter (λ event. not (is_some (owner event))) events

-- each seat sent its task's events of these, and the control sent its own, all of them and in their order
pub record AreSent (events : List Event) (seats : List Seated) (control : List Entry) : Type 0 where
  pub from_seats : All (λ seat. events_in seat.entries ≡ events_of seat.task events) seats
  pub from_control : events_in control ≡ events_of_control events

-- these are the numbers of a desk that began as the trace does, and was closed: there are a journal, each of whose
-- replies is the definitions', and seats and a control that sent the trace's events, and whose lists are its parts
pub record IsPlay (model : Rules) (trace : TraceValue) (play : Play) : Type 0 where
  pub journal : Written
  pub seats : List Seated
  pub control : List Entry
  pub patches : journal.patches ≡ (run_of trace).patches
  pub boots : journal.boots ≡ trace.boots
  pub sent : AreSent trace.events seats control
  pub replayed : IsReplayed model journal
  pub closed : IsClosed journal seats control
  pub given : play.seats ≡ length seats
  pub entries : play.events ≡ length journal.entries
  pub others : play.skipped ≡ length trace.events - length journal.entries

-- a label, its value, and what comes after it
abbrev pub field : List ℕ → List ℕ → List ℕ → List ℕ
field label value rest = label ++ (value ++ rest)

-- the report of a play under a model of this name
abbrev pub play_text : List ℕ → Play → List ℕ
play_text name play =
    field (codes "lpthreads 1\nmodel ") name
    (field (codes "\nseats ") (decimal play.seats)
    (field (codes "\nevents ") (decimal play.events)
    (field (codes "\nskipped ") (decimal play.skipped) (codes "\nclosed\n"))))
