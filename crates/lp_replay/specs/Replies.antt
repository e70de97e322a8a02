-- Replies as they are kept: each in short, and apart from them the groups of those events that switched some.
use Rattle.std.specs.Prelude.{ℕ, ◌+◌, ◌-◌, ◌/◌, ◌%◌, List, [], ◌∷◌, drop, get_or, nat_eq, nat_lt, if◌then◌else◌}
use Rattle.lp_definitions.specs.declared.reply.What.{What}
use Rattle.lp_definitions.specs.declared.reply.What.TheVariants as what
use Rattle.lp_definitions.specs.declared.reply.Reply.{Reply}
use Rattle.lp_replay.specs.declared.replies.ShortWhat.{ShortWhat}
use Rattle.lp_replay.specs.declared.replies.ShortWhat.TheVariants.{Ran, Done, Switched, Refused}
use Rattle.lp_replay.specs.declared.replies.ShortReply.{ShortReply}
use Rattle.lp_replay.specs.declared.replies.kept.KeptReply.{KeptReply}
use Rattle.lp_definitions.specs.declared.refusal.Refusal.TheVariants.{UnknownTask, UnknownSymbol, TaskRange, TaskUsed, WrongClass, WrongMode, StackFull, StackEmpty, StackNotEmpty, InTransition, NotInTransition, AlreadyThere}
use Rattle.lp_definitions.specs.Events.{group_numbers}

-- the first of these lists of groups
abbrev pub first_groups : List (List ℕ) → List ℕ
first_groups [] = []
first_groups (groups ∷ lists) = groups

-- what the event did, where these lists are left
abbrev pub what_of : ShortWhat → List (List ℕ) → What
what_of (Ran level) lists = what.Ran level
what_of Done lists = what.Done
what_of Switched lists = what.Switched (first_groups lists)
what_of (Refused why) lists = what.Refused why

abbrev pub reply_of : ShortReply → List (List ℕ) → Reply
reply_of reply lists = record { what = what_of reply.what lists; completed = reply.completed }

-- how many lists it takes: one if it switched groups
abbrev pub lists_in : ShortWhat → ℕ
lists_in Switched = 1
lists_in _ = 0

-- the replies
unfoldable pub replies_of : List ShortReply → List (List ℕ) → List Reply
replies_of [] lists = []
replies_of (reply ∷ replies) lists = reply_of reply lists ∷ replies_of replies (drop (lists_in reply.what) lists)

-- how many lists they take
abbrev pub lists_of : List ShortReply → ℕ
lists_of [] = 0
lists_of (reply ∷ replies) = lists_in reply.what + lists_of replies

-- a reply as a list keeps it: in short, and its groups
abbrev pub kept_reply : KeptReply → Reply
kept_reply kept = reply_of kept.short (group_numbers kept.groups.now ∷ [])

-- ---- Codes of replies

-- what an event did where that needs no level, by the first codes
abbrev pub plain : List ShortWhat
plain =
    Done
    ∷ Switched
    ∷ Refused UnknownTask
    ∷ Refused UnknownSymbol
    ∷ Refused TaskRange
    ∷ Refused TaskUsed
    ∷ Refused WrongClass
    ∷ Refused WrongMode
    ∷ Refused StackFull
    ∷ Refused StackEmpty
    ∷ Refused StackNotEmpty
    ∷ Refused InTransition
    ∷ Refused NotInTransition
    ∷ Refused AlreadyThere
    ∷ []

-- what an event did, by its code
abbrev pub coded_what : ℕ → ShortWhat
coded_what code = if nat_lt code 14 then get_or plain code Done else Ran (record { 0 = code - 14 })

-- a reply by its code: an odd one has completed the leg
abbrev pub coded : ℕ → ShortReply
coded code = record { what = coded_what (code / 2); completed = nat_eq (code % 2) 1 }
