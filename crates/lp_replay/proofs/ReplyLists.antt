-- Replies and the lists of groups that belong to them.
use Rattle.std.proofs.Common.{◌≡◌, ◌≤◌, ◌<◌, ◌+◌, ℕ, suc, Bool, List, [], ◌∷◌, ◌++◌, length, drop, get_or, add-one, arith, refl, sym, ap, ap₂, ◌∙◌, append_assoc}
use Rattle.std.proofs.lemmas.List.{drop-drop, length-drop, length-append}
use Rattle.std.proofs.Math.ListN.{drop_of_length-le}
use Rattle.std.proofs.Math.Seq.{drop-cons, drop-append_seam}
use Rattle.lp_definitions.specs.declared.reply.What.{What}
use Rattle.lp_definitions.specs.declared.reply.What.TheVariants as said
use Rattle.lp_definitions.specs.declared.reply.Reply.{Reply}
use Rattle.lp_replay.specs.declared.replies.ShortWhat.{ShortWhat}
use Rattle.lp_replay.specs.declared.replies.ShortWhat.TheVariants.{Ran, Done, Switched, Refused}
use Rattle.lp_replay.specs.declared.replies.ShortReply.{ShortReply}
use Rattle.lp_replay.specs.Replies.{first_groups, what_of, reply_of, lists_in, lists_of, replies_of}

-- of a list, what is left after a prefix of it
drop_prefix : {A : Type 0} (n : ℕ) (xs ys : List A) → n ≡ length xs → drop n (xs ++ ys) ≡ ys
drop_prefix n xs ys h = ap (λ k. drop k (xs ++ ys)) h ∙ drop-append_seam xs ys

last-one : (reply : ShortReply) (lists : List (List ℕ)) → replies_of (reply ∷ []) lists ≡ reply_of reply lists ∷ []
unfolding replies_of
last-one reply lists = refl

-- more replies
pub replies-more : (replies more : List ShortReply) (lists : List (List ℕ)) → replies_of (replies ++ more) lists ≡ replies_of replies lists ++ replies_of more (drop (lists_of replies) lists)
unfolding replies_of
replies-more [] more lists = refl
replies-more (reply ∷ replies) more lists =
    ap (λ l. reply_of reply lists ∷ l)
    (replies-more replies more (drop (lists_in reply.what) lists)
    ∙ ap (λ l. replies_of replies (drop (lists_in reply.what) lists) ++ replies_of more l) (drop-drop (lists_of replies) (lists_in reply.what) lists))

pub lists-more : (replies more : List ShortReply) → lists_of (replies ++ more) ≡ lists_of replies + lists_of more
lists-more [] more = omega arith
lists-more (reply ∷ replies) more = omega (arith, lists-more replies more)

-- lists after those that belong to them change nothing
prefix-what : (what : ShortWhat) (lists more : List (List ℕ)) → lists_in what ≤ length lists → (what_of what (lists ++ more) ≡ what_of what lists) × (drop (lists_in what) (lists ++ more) ≡ drop (lists_in what) lists ++ more)
prefix-what (Ran level) lists more h = (refl, refl)
prefix-what Done lists more h = (refl, refl)
prefix-what (Refused why) lists more h = (refl, refl)
prefix-what Switched [] more h = absurd (omega (arith, h))
prefix-what Switched (groups ∷ lists) more h = (refl, refl)

pub replies-prefix : (replies : List ShortReply) (lists more : List (List ℕ)) → lists_of replies ≤ length lists → replies_of replies (lists ++ more) ≡ replies_of replies lists
unfolding replies_of
replies-prefix [] lists more h = refl
replies-prefix (reply ∷ replies) lists more h =
    let same = prefix-what reply.what lists more (omega (arith, h)) in
    let left : List (List ℕ) = drop (lists_in reply.what) lists in
    ap₂ {A = What} {B = List Reply} {C = List Reply} (λ w l. record { what = w; completed = reply.completed } ∷ l) same.0
    (ap (replies_of replies) same.1 ∙ replies-prefix replies left more (omega (arith, h, length-drop (lists_in reply.what) lists)))

-- one more reply that takes no list
pub push-plain : (replies : List ShortReply) (lists : List (List ℕ)) (what : ShortWhat) (said : What) (completed : Bool) → lists_in what ≡ 0 → ((left : List (List ℕ)) → what_of what left ≡ said)
    → replies_of (replies ++ record { what = what; completed = completed } ∷ []) lists ≡ replies_of replies lists ++ record { what = said; completed = completed } ∷ []
push-plain replies lists what said completed none same =
    replies-more replies (record { what = what; completed = completed } ∷ []) lists
    ∙ ap (λ l. replies_of replies lists ++ l) (last-one (record { what = what; completed = completed }) (drop (lists_of replies) lists))
    ∙ ap {A = What} {B = List Reply} (λ w. replies_of replies lists ++ record { what = w; completed = completed } ∷ []) (same (drop (lists_of replies) lists))

-- one more reply that takes the list that was added
pub push-over : (replies : List ShortReply) (lists : List (List ℕ)) (groups : List ℕ) (completed : Bool) → lists_of replies ≡ length lists
    → replies_of (replies ++ record { what = Switched; completed = completed } ∷ []) (lists ++ groups ∷ []) ≡ replies_of replies lists ++ record { what = said.Switched groups; completed = completed } ∷ []
push-over replies lists groups completed h =
    let reply : ShortReply = record { what = Switched; completed = completed } in
    replies-more replies (reply ∷ []) (lists ++ groups ∷ [])
    ∙ ap (λ l. l ++ replies_of (reply ∷ []) (drop (lists_of replies) (lists ++ groups ∷ []))) (replies-prefix replies lists (groups ∷ []) (omega (arith, h)))
    ∙ ap (λ l. replies_of replies lists ++ replies_of (reply ∷ []) l) (drop_prefix (lists_of replies) lists (groups ∷ []) h)
    ∙ ap (λ l. replies_of replies lists ++ l) (last-one reply (groups ∷ []))

-- only the first list counts
pub what-first : (what : ShortWhat) (lists : List (List ℕ)) → what_of what (first_groups lists ∷ []) ≡ what_of what lists
what-first (Ran level) lists = refl
what-first Done lists = refl
what-first Switched lists = refl
what-first (Refused why) lists = refl

-- the reply at a place and those after it
pub replies-at : (replies : List ShortReply) (lists : List (List ℕ)) (i next : ℕ) (d : ShortReply) → i < length replies
    → replies_of (drop i replies) (drop next lists) ≡ reply_of (get_or replies i d) (drop next lists) ∷ replies_of (drop (i + 1) replies) (drop (next + lists_in (get_or replies i d).what) lists)
unfolding replies_of
replies-at replies lists i next d below =
    let first : ShortReply = get_or replies i d in
    rw (drop-cons replies i d below, add-one) (ap (λ l. reply_of first (drop next lists) ∷ replies_of (drop (suc i) replies) l) (drop-drop (lists_in first.what) next lists))

-- none is left
pub replies-end : (replies : List ShortReply) (lists : List (List ℕ)) (i : ℕ) → length replies ≤ i → replies_of (drop i replies) lists ≡ []
unfolding replies_of
replies-end replies lists i h = rw (drop_of_length-le replies h) refl

-- the same of a reply that was told to take so many lists, the first of which is this one
pub replies-next : (replies : List ShortReply) (lists : List (List ℕ)) (i next : ℕ) (d : ShortReply) (step : ℕ) (groups : List ℕ) → i < length replies → step ≡ lists_in (get_or replies i d).what → groups ≡ first_groups (drop next lists)
    → replies_of (drop i replies) (drop next lists) ≡ reply_of (get_or replies i d) (groups ∷ []) ∷ replies_of (drop (i + 1) replies) (drop (next + step) lists)
replies-next replies lists i next d step groups below steps first =
    let reply : ShortReply = get_or replies i d in
    let rest : ℕ → List Reply = λ n. replies_of (drop (i + 1) replies) (drop (next + n) lists) in
    replies-at replies lists i next d below
    ∙ ap {A = What} {B = List Reply} (λ w. record { what = w; completed = reply.completed } ∷ rest (lists_in reply.what)) (sym (what-first reply.what (drop next lists)) ∙ ap (λ g. what_of reply.what (g ∷ [])) (sym first))
    ∙ ap (λ n. reply_of reply (groups ∷ []) ∷ rest n) (sym steps)

-- what was told so far, and what is left to tell after one reply more
pub told-next : (replies : List ShortReply) (lists : List (List ℕ)) (i next : ℕ) (d : ShortReply) (step : ℕ) (groups : List ℕ) (what : What) (told now : List Reply)
    → i < length replies → step ≡ lists_in (get_or replies i d).what → groups ≡ first_groups (drop next lists) → what ≡ what_of (get_or replies i d).what (groups ∷ []) → now ≡ told ++ record { what = what; completed = (get_or replies i d).completed } ∷ []
    → now ++ replies_of (drop (i + 1) replies) (drop (next + step) lists) ≡ told ++ replies_of (drop i replies) (drop next lists)
told-next replies lists i next d step groups what told now below steps first same added =
    let rest : List Reply = replies_of (drop (i + 1) replies) (drop (next + step) lists) in
    let completed : Bool = (get_or replies i d).completed in
    ap (λ l. l ++ rest) added
    ∙ append_assoc told (record { what = what; completed = completed } ∷ []) rest
    ∙ ap {A = What} {B = List Reply} (λ w. told ++ (record { what = w; completed = completed } ∷ rest)) same
    ∙ ap (λ r. told ++ r) (sym (replies-next replies lists i next d step groups below steps first))

-- no reply is left out
pub length-replies : (replies : List ShortReply) (lists : List (List ℕ)) → length (replies_of replies lists) ≡ length replies
unfolding replies_of
length-replies [] lists = refl
length-replies (reply ∷ replies) lists = ap suc (length-replies replies (drop (lists_in reply.what) lists))

-- a list of replies and its lists of groups after one more reply
abbrev pub Pushed : List ShortReply → List (List ℕ) → List ShortReply → List (List ℕ) → Reply → Type 0
Pushed replies lists now left reply = (lists_of now ≡ length left) × (replies_of now left ≡ replies_of replies lists ++ reply ∷ [])

pub pushed-plain : (replies now : List ShortReply) (lists left : List (List ℕ)) (what is : ShortWhat) (said : What) (completed : Bool) → lists_of replies ≡ length lists
    → now ≡ replies ++ record { what = what; completed = completed } ∷ [] → left ≡ lists → what ≡ is → lists_in is ≡ 0 → ((some : List (List ℕ)) → what_of is some ≡ said)
    → Pushed replies lists now left (record { what = said; completed = completed })
pushed-plain replies now lists left what is said completed counted added same_lists whats none same =
    let reply : ShortReply = record { what = is; completed = completed } in
    let items : now ≡ replies ++ reply ∷ [] = added ∙ ap {A = ShortWhat} {B = List ShortReply} (λ w. replies ++ record { what = w; completed = completed } ∷ []) whats in
    let counts : lists_of now ≡ lists_of replies + lists_of (reply ∷ []) = ap lists_of items ∙ lists-more replies (reply ∷ []) in
    let lefts : length left ≡ length lists = ap length same_lists in
    (omega (arith, counts, lefts, counted, none), ap₂ replies_of items same_lists ∙ push-plain replies lists is said completed none same)

pub pushed-over : (replies now : List ShortReply) (lists left : List (List ℕ)) (what : ShortWhat) (groups : List ℕ) (completed : Bool) → lists_of replies ≡ length lists
    → now ≡ replies ++ record { what = what; completed = completed } ∷ [] → left ≡ lists ++ groups ∷ [] → what ≡ Switched
    → Pushed replies lists now left (record { what = said.Switched groups; completed = completed })
pushed-over replies now lists left what groups completed counted added more whats =
    let reply : ShortReply = record { what = Switched; completed = completed } in
    let items : now ≡ replies ++ reply ∷ [] = added ∙ ap {A = ShortWhat} {B = List ShortReply} (λ w. replies ++ record { what = w; completed = completed } ∷ []) whats in
    let counts : lists_of now ≡ lists_of replies + lists_of (reply ∷ []) = ap lists_of items ∙ lists-more replies (reply ∷ []) in
    let lefts : length left ≡ length lists + 1 = ap length more ∙ length-append lists (groups ∷ []) in
    (omega (arith, counts, lefts, counted), ap₂ replies_of items more ∙ push-over replies lists groups completed counted)

-- the first reply and those after it, where so many lists are its
pub kept-next : (reply : ShortReply) (replies : List ShortReply) (lists left : List (List ℕ)) (groups : List ℕ) → left ≡ drop (lists_in reply.what) lists → groups ≡ first_groups lists
    → replies_of (reply ∷ replies) lists ≡ reply_of reply (groups ∷ []) ∷ replies_of replies left
unfolding replies_of
kept-next reply replies lists left groups rest first =
    ap {A = What} {B = List Reply} (λ w. record { what = w; completed = reply.completed } ∷ replies_of replies (drop (lists_in reply.what) lists)) (sym (what-first reply.what lists) ∙ ap (λ g. what_of reply.what (g ∷ [])) (sym first))
    ∙ ap (λ l. reply_of reply (groups ∷ []) ∷ replies_of replies l) (sym rest)

pub none-left : (replies : List ShortReply) (lists : List (List ℕ)) → length replies ≡ 0 → replies_of replies lists ≡ []
unfolding replies_of
none-left [] lists h = refl
none-left (reply ∷ replies) lists h = absurd (omega (arith, h))
