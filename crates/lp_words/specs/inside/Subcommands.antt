-- What a subcommand becomes of a command line that it is added to.
use Rattle.std.specs.Prelude.{◌≡◌}
use Rattle.clap.specs.Words.{AddsSubcommand, App, app_of, with_subcommand}
use Rattle.clap.specs.declared.Command.{Command}

-- wherever it is added, this stands there
abbrev pub IsAddedAs : Command → App → Type 0
IsAddedAs sub app = (old new : Command) → AddsSubcommand old sub new → app_of new ≡ with_subcommand (app_of old) app.top
