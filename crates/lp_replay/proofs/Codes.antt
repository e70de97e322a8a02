-- Replies by their codes.
use Rattle.std.proofs.Common.{◌≡◌, ◌+◌, ◌*◌, ◌/◌, ◌%◌, ℕ, Bool, true, false, refl, ap, ap₂, ◌∙◌, arith}
use Rattle.std.specs.Prelude.{nat_eq}
use Rattle.std.specs.Int.{from_bool}
use Rattle.lp_definitions.specs.declared.refusal.Refusal.{Refusal}
use Rattle.lp_definitions.specs.declared.refusal.Refusal.TheVariants.{UnknownTask, UnknownSymbol, TaskRange, TaskUsed, WrongClass, WrongMode, StackFull, StackEmpty, StackNotEmpty, InTransition, NotInTransition, AlreadyThere}
use Rattle.lp_definitions.specs.Events.{refusal_number}
use Rattle.lp_replay.specs.declared.replies.ShortWhat.{ShortWhat}
use Rattle.lp_replay.specs.declared.replies.ShortWhat.TheVariants.{Refused}
use Rattle.lp_replay.specs.declared.replies.ShortReply.{ShortReply}
use Rattle.lp_replay.specs.Replies.{coded, coded_what}

pub refused_coded : (why : Refusal) → coded_what (1 + refusal_number why) ≡ Refused why
refused_coded UnknownTask = refl
refused_coded UnknownSymbol = refl
refused_coded TaskRange = refl
refused_coded TaskUsed = refl
refused_coded WrongClass = refl
refused_coded WrongMode = refl
refused_coded StackFull = refl
refused_coded StackEmpty = refl
refused_coded StackNotEmpty = refl
refused_coded InTransition = refl
refused_coded NotInTransition = refl
refused_coded AlreadyThere = refl

-- the code of a reply is even or odd by whether it completed the leg
pub reply_coded : (what : ShortWhat) (completed : Bool) (n b : ℕ) → coded_what n ≡ what → b ≡ from_bool completed → coded (2 * n + b) ≡ record { what = what; completed = completed }
reply_coded what true n b is bit =
    let one : b ≡ 1 = bit in
    let half : (2 * n + b) / 2 ≡ n = omega (arith, one) in
    let odd : (2 * n + b) % 2 ≡ 1 = omega (arith, one) in
    ap₂ {A = ShortWhat} {B = Bool} {C = ShortReply} (λ w c. record { what = w; completed = c }) (ap coded_what half ∙ is) (ap (λ k. nat_eq k 1) odd)
reply_coded what false n b is bit =
    let none : b ≡ 0 = bit in
    let half : (2 * n + b) / 2 ≡ n = omega (arith, none) in
    let even : (2 * n + b) % 2 ≡ 0 = omega (arith, none) in
    ap₂ {A = ShortWhat} {B = Bool} {C = ShortReply} (λ w c. record { what = w; completed = c }) (ap coded_what half ∙ is) (ap (λ k. nat_eq k 1) even)
