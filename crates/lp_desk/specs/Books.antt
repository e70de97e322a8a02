-- A book: a log with the board of its events.
use Rattle.std.specs.Prelude.{◌≡◌, ◌<◌, List, [], ◌∷◌, ◌++◌, length}
use Rattle.lp_model.specs.Rules.{Rules}
use Rattle.lp_definitions.specs.declared.event.Event.{Event}
use Rattle.lp_definitions.specs.declared.reply.Reply.{Reply}
use Rattle.lp_board.specs.Names.{Name}
use Rattle.lp_log.specs.Journals.{Written, IsReplayed, events_in, reply_to}

-- the journal begins as the name says, and its model is the name's
pub record IsOf (name : Name) (rules : Rules) (journal : Written) : Type 0 where
  pub model : name.model ≡ rules
  pub patches : name.patches ≡ journal.patches
  pub boots : name.boots ≡ journal.boots

-- and what is published are its events
pub record IsShown (name : Name) (rules : Rules) (journal : Written) (published : List Event) : Type 0 where
  pub named : IsOf name rules journal
  pub events : published ≡ events_in journal.entries

-- the journal in which nothing has happened yet
abbrev pub first_journal : Name → Written
first_journal name = record { patches = name.patches; boots = name.boots; entries = [] }

-- the event came after this journal, which had room for it: its answer is the one that the definitions give there, and what was told of it are
-- the events of the journal and itself
pub record IsSent (name : Name) (rules : Rules) (before : Written) (event : Event) (given : Reply) (published : List Event) : Type 0 where
  pub named : IsOf name rules before
  pub replayed : IsReplayed rules before
  pub left : length before.entries < 1000000
  pub reply : given ≡ reply_to rules before event
  pub told : published ≡ events_in before.entries ++ event ∷ []
