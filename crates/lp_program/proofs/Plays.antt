-- What threads played, under the rules and the name of a model.
use Rattle.std.proofs.Common.{◌≡◌, ℕ, List, Option, Result, OnOk, sym, subst}
use Rattle.std.specs.Io.KnownBytes.{Appends}
use Rattle.lp_model.specs.Rules.{Rules}
use Rattle.lp_models.specs.declared.name.ModelName.{ModelName}
use Rattle.lp_models.specs.Models.{name_of, rules_named}
use Rattle.lp_text.specs.Writing.{AppendsPrefix}
use Rattle.lp_text.specs.StreamContract.{Ending, WriteFailed}
use Rattle.lp_threads.specs.Plays.{IsPlay, play_text}
use Rattle.lp_threads.specs.declared.report.Play.{Play}
use Rattle.lp_replay.specs.Runs.{ReadsTrace}
use Rattle.lp_program.specs.Performed.{IsPlayed}

-- a play by these rules was read and its report, with this name, written
abbrev IsReported : Rules → List ℕ → Option (List ℕ) → Option (List ℕ) → Option (List ℕ) → Option (List ℕ) → Type 0
IsReported rules name before after old new =
    ReadsTrace before after (λ trace. (play : Play) × IsPlay rules trace play × Appends old new (play_text name play))

pub played_named : {X E : Type 0} (r : Result X E) (model : ModelName) (rules : Rules) (name : List ℕ)
    → rules_named model ≡ rules → name ≡ name_of model → (before after old new : Option (List ℕ))
    → OnOk r (IsReported rules name before after old new)
    → OnOk r (ReadsTrace before after (λ trace. IsPlayed model trace (Appends old new)))
played_named r model rules name rules_are name_is before after old new h =
    subst (λ n. OnOk r (IsReported (rules_named model) n before after old new)) name_is
    (subst (λ m. OnOk r (IsReported m name before after old new)) (sym rules_are) h)

-- where the writer failed, a prefix of such a report was written
abbrev HasPrefix : Ending → Rules → List ℕ → Option (List ℕ) → Option (List ℕ) → Option (List ℕ) → Option (List ℕ) → Type 0
HasPrefix ending rules name before after old new =
    ending ≡ WriteFailed → ReadsTrace before after
    (λ trace. (play : Play) × IsPlay rules trace play × AppendsPrefix old new (play_text name play))

pub prefix_named : (ending : Ending) (model : ModelName) (rules : Rules) (name : List ℕ)
    → rules_named model ≡ rules → name ≡ name_of model → (before after old new : Option (List ℕ))
    → HasPrefix ending rules name before after old new
    → ending ≡ WriteFailed → ReadsTrace before after (λ trace. IsPlayed model trace (AppendsPrefix old new))
prefix_named ending model rules name rules_are name_is before after old new h =
    subst (λ n. HasPrefix ending (rules_named model) n before after old new) name_is
    (subst (λ m. HasPrefix ending m name before after old new) (sym rules_are) h)
