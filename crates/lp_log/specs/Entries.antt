-- Entries: the events of a journal.
use Rattle.std.specs.Prelude.{ℕ}
use Rattle.lp_definitions.specs.declared.event.Event.{Event}
use Rattle.lp_definitions.specs.declared.reply.Reply.{Reply}

-- an event with its number, from 1, and the answer to it
pub record Entry : Type 0 where
  pub number : ℕ
  pub event : Event
  pub reply : Reply
