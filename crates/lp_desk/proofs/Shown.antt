-- What is published is the journal: one event longer, both are.
use Rattle.std.proofs.Common.{◌≡◌, ◌<◌, ◌^◌, List, [], ◌∷◌, ◌++◌, length, ap, sym, ◌∙◌, subst, arith}
use Rattle.lp_stack.specs.declared.number.TaskId.{TaskId}
use Rattle.lp_stack.specs.declared.view.Class.{Class}
use Rattle.lp_patch.specs.Patches.{Patches}
use Rattle.lp_model.specs.Rules.{Rules, IsLawful}
use Rattle.lp_definitions.specs.declared.event.Event.{Event}
use Rattle.lp_definitions.specs.declared.reply.Reply.{Reply}
use Rattle.lp_definitions.specs.Leg.{State}
use Rattle.lp_machine.specs.Machine.{next}
use Rattle.lp_definitions.specs.Run.{Run}
use Rattle.lp_machine.specs.Steps.{StandsIn}
use Rattle.lp_machine.specs.Table.{Engine, bounds_of, state_in}
use Rattle.lp_board.specs.Names.{Name, state_after, run_of as named_run}
use Rattle.lp_board.specs.Pages.{IsHeading, Leads}
use Rattle.lp_board.specs.declared.sheet.Heading.{Heading}
use Rattle.lp_board.specs.declared.sheet.Update.{Update}
use Rattle.lp_board.proofs.Runs.{stands-there, after-more}
use Rattle.lp_log.specs.Entries.{Entry}
use Rattle.lp_log.specs.Journals.{Written, and_entry, events_in, next_entry, run_of}
use Rattle.lp_log.proofs.Longer.{length_map, map_append, number_is}
use Rattle.lp_desk.specs.Books.{IsOf, IsShown, first_journal}

abbrev of_parts : Patches → List (TaskId × Class) → List Event → Run
of_parts patches boots events = record { bounds = bounds_of patches; patches = patches; boots = boots; events = events }

module _ (name : Name) (model : Rules) (journal : Written) (shown : List Event) (is : IsShown name model journal shown) where
  -- the journal's run is the one whose events are published
  same_run : run_of journal ≡ named_run name shown
  same_run =
      ap (λ (patches : Patches). of_parts patches journal.boots (events_in journal.entries)) (sym is.named.patches)
      ∙ ap (λ (boots : List (TaskId × Class)). of_parts name.patches boots (events_in journal.entries)) (sym is.named.boots)
      ∙ ap (of_parts name.patches name.boots) (sym is.events)

  stands_shown : (s : State) → StandsIn model (run_of journal) s → StandsIn model (named_run name shown) s
  stands_shown s = subst (λ (run : Run). StandsIn model run s) same_run

  -- where the engine stands is the state that is shown
  pub there_shown : (s : State) → StandsIn model (run_of journal) s → s ≡ state_after name shown
  there_shown s stands = stands-there name model shown s is.named.model (stands_shown s stands)

  -- what leads the engine on leads the board on
  pub leads_shown : IsLawful model → (s : State) → StandsIn model (run_of journal) s → (event : Event) (update : Update) → Leads s update (next model s event)
      → Leads (state_after name shown) update (state_after name (shown ++ event ∷ []))
  leads_shown lawful s stands event update leads =
      subst (λ (before : State). Leads before update (state_after name (shown ++ event ∷ []))) (there_shown s stands)
      (subst (λ (after : State). Leads s update after) (after-more name model lawful shown s event is.named.model (stands_shown s stands)) leads)

  -- as many events are published as are numbered
  pub shown_number : (core : Engine) → StandsIn model (run_of journal) (state_in core) → core.number ≡ length shown
  shown_number core stands = number_is model (run_of journal) core stands ∙ ap length (sym is.events)

  -- with an entry more in the journal and its event published, all of it is published
  pub shown_longer : (event : Event) (given : Reply) (more : List Event) → more ≡ shown ++ event ∷ [] → IsShown name model (and_entry journal event given) more
  shown_longer event given more e = record {
    named = record { model = is.named.model; patches = is.named.patches; boots = is.named.boots };
    events = e ∙ ap (λ (es : List Event). es ++ event ∷ []) is.events ∙ sym (map_append (λ (entry : Entry). entry.event) journal.entries (next_entry journal.entries event given ∷ []));
  }

-- a journal in which nothing has happened, and a board on which nothing is published
pub shown_first : (name : Name) (model : Rules) (journal : Written) (shown : List Event) → name.model ≡ model → journal ≡ first_journal name → shown ≡ [] → IsShown name model journal shown
shown_first name model journal shown same start none = record {
  named = record { model = same; patches = ap (λ (j : Written). j.patches) (sym start); boots = ap (λ (j : Written). j.boots) (sym start) };
  events = none ∙ ap (λ (j : Written). events_in j.entries) (sym start);
}
