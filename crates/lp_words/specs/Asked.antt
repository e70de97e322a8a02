-- What words ask the program for, as clap reads them.
use Rattle.std.specs.Prelude.{◌≡◌, ◌≢◌, ◌⊎◌, Bool, List, [], Option, Some, None, option_map, codes, false, true, if◌then◌else◌}
use Rattle.std.specs.Str.{bytes_eq}
use Rattle.clap.specs.Words.{App, Row, Rule, Text, fault_of, new_app, new_rule, subcommand_of, with_rule, with_subcommand, first_of}
use Rattle.clap.specs.declared.builder.ArgAction.TheVariants.{Set, SetTrue}
use Rattle.lp_models.specs.declared.name.ModelName.{ModelName}
use Rattle.lp_models.specs.Models.{name_of}
use Rattle.lp_words.specs.declared.words.Job.{Job}
use Rattle.lp_words.specs.declared.words.Job.TheVariants.{Run, Check, Compare, Threads}
use Rattle.lp_words.specs.declared.words.WordsFault.{WordsFault}
use Rattle.lp_words.specs.declared.words.WordsFault.TheVariants as words

-- ---- The command line

-- the name of a model, which has to be given
abbrev pub model_rule : Rule
model_rule = record (new_rule (codes "MODEL")) { required = true; action = Some Set }

-- the flag that asks for JSON
abbrev pub json_rule : Rule
json_rule = record (new_rule (codes "json")) { long = Some (codes "json"); action = Some SetTrue }

-- a subcommand with a model
abbrev pub subcommand : Text → App
subcommand name = with_rule (new_app name) model_rule

-- the comparison, which has none
abbrev pub comparing : App
comparing = with_rule (new_app (codes "compare")) json_rule

-- the program's command line: one of four subcommands
abbrev pub lpt : App
lpt =
    with_subcommand (with_subcommand (with_subcommand (with_subcommand (new_app (codes "lpt"))
    (subcommand (codes "run")).top) (subcommand (codes "check")).top) (subcommand (codes "threads")).top) comparing.top

-- ---- What words ask for

-- a subcommand and its one argument: the model, or for the comparison the flag
abbrev pub Asked : Type 0
Asked = Option (Text × Option Text)

abbrev pub argument_of : Text → Text
argument_of name = if bytes_eq name (codes "compare") then codes "json" else codes "MODEL"

abbrev pub asked_in : Option (Text × List Row) → Asked
asked_in = option_map (λ p. (p.0, first_of (argument_of p.0) p.1))

-- the subcommand and the argument that clap reads from words, the first of which is the program's name
abbrev pub asked : List Text → Asked
asked words = asked_in (subcommand_of lpt words)

-- what clap reads of a flag: whether it is there
abbrev pub flag_word : Bool → Text
flag_word true = codes "true"
flag_word false = codes "false"

-- the words of a job
abbrev pub words_of : Job → Text × Option Text
words_of (Run model) = (codes "run", Some (name_of model))
words_of (Check model) = (codes "check", Some (name_of model))
words_of (Compare json) = (codes "compare", Some (flag_word json))
words_of (Threads model) = (codes "threads", Some (name_of model))

-- clap takes the words, and they are a job's
abbrev pub Asks : List Text → Job → Type 0
Asks words job = (fault_of lpt words ≡ []) × (asked words ≡ Some (words_of job))

-- ---- Faults

-- the subcommand has a model
abbrev pub TakesModel : Text → Type 0
TakesModel name = (name ≡ codes "run") ⊎ ((name ≡ codes "check") ⊎ (name ≡ codes "threads"))

-- a subcommand with a model is there, and what stands for it is no model's name
abbrev pub IsUnknown : Asked → Type 0
IsUnknown asked =
    (name : Text) × (text : Text) × (asked ≡ Some (name, Some text)) × TakesModel name × ((model : ModelName) → text ≢ name_of model)

-- clap takes the words, and all is right but the model's name
abbrev pub AsksUnknown : List Text → Type 0
AsksUnknown given = (fault_of lpt given ≡ []) × IsUnknown (asked given)

-- why words ask for no job: usage where that isn't so
abbrev pub AsksNothing : List Text → WordsFault → Type 0
AsksNothing given words.Usage = ((job : Job) → Asks given job → ⊥) × (AsksUnknown given → ⊥)
AsksNothing given words.UnknownModel = AsksUnknown given
AsksNothing given words.NoMemory = Unit {0}
