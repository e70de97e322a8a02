-- The faults of words, part by part.
use Rattle.std.specs.Prelude.{◌≡◌, ◌≢◌, Bool, Option, Some, None}
use Rattle.clap.specs.Words.{Text}
use Rattle.clap.specs.declared.error.ErrorKind.{ErrorKind}
use Rattle.clap.specs.declared.error.ErrorKind.TheVariants as kind
use Rattle.lp_models.specs.declared.name.ModelName.{ModelName}
use Rattle.lp_models.specs.Models.{name_of}
use Rattle.lp_words.specs.declared.words.Job.{Job}
use Rattle.lp_words.specs.declared.words.WordsFault.{WordsFault}
use Rattle.lp_words.specs.declared.words.WordsFault.TheVariants as words
use Rattle.lp_words.specs.Asked.{Asked, IsUnknown, flag_word, words_of}

-- a fault of words that clap takes
abbrev pub NamesNoModel : Option Text → WordsFault → Type 0
NamesNoModel found words.Usage = found ≡ None
NamesNoModel found words.UnknownModel = (text : Text) × (found ≡ Some text) × ((model : ModelName) → text ≢ name_of model)
NamesNoModel found words.NoMemory = ⊥

-- the same of a flag
abbrev pub IsNoFlag : Option Text → WordsFault → Type 0
IsNoFlag found words.Usage = (json : Bool) → found ≢ Some (flag_word json)
IsNoFlag found words.UnknownModel = ⊥
IsNoFlag found words.NoMemory = ⊥

abbrev pub NamesNoJob : Asked → WordsFault → Type 0
NamesNoJob asked words.Usage = ((job : Job) → asked ≢ Some (words_of job)) × (IsUnknown asked → ⊥)
NamesNoJob asked words.UnknownModel = IsUnknown asked
NamesNoJob asked words.NoMemory = ⊥

-- the fault of words that clap refuses for such a cause
abbrev pub IsRefusal : ErrorKind → WordsFault → Type 0
IsRefusal cause words.Usage = cause ≢ kind.OutOfMemory
IsRefusal cause words.NoMemory = cause ≡ kind.OutOfMemory
IsRefusal cause words.UnknownModel = ⊥
