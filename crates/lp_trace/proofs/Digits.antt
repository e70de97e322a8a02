-- How many digits a number has, and numbers and bytes that are put in place.
use Rattle.std.proofs.Common.{◌≡◌, ◌<◌, ◌≤◌, ◌+◌, ◌*◌, ◌/◌, ◌%◌, ℕ, List, [], ◌∷◌, ◌++◌, length, take, drop, map, set, get_or, decimal, arith, add-one, refl, sym, ap, ◌∙◌, append_assoc, length-append, length-set}
use Rattle.std.specs.List.{flat_map}
use Rattle.std.proofs.lemmas.Fmt.{length-decimal-le}
use Rattle.std.proofs.lemmas.List.{length-take-le, take-append-le, take_more_set}
use Rattle.std.proofs.Math.Seq.{drop-cons, take-append-add}
use Rattle.itoa.proofs.Decimal.{PAIRS_at}
use borrow.Rule.Slice.PartMut.{put_mid, post_of}
use Rattle.lp_stack.specs.declared.number.GroupId.{GroupId}
use Rattle.lp_definitions.specs.Events.{group_numbers}
use Rattle.lp_text.specs.inside.Writing.{line_rest}
use Rattle.lp_trace.specs.declared.place.TheConstants.{PAIRS}

-- ---- Digits

-- the table has the two digits of each number below a hundred
pub pairs_at : (p : ℕ) → p < 100 → (get_or PAIRS (p * 2) 0 ≡ 48 + p / 10) × (get_or PAIRS (p * 2 + 1) 0 ≡ 48 + p % 10)
pairs_at = PAIRS_at

-- two digits were put
pub pair_put : (old : List ℕ) (at tens ones : ℕ) → at + 2 ≤ length old → take (at + 2) (set (set old at tens) (at + 1) ones) ≡ take at old ++ tens ∷ ones ∷ []
pair_put old at tens ones room =
    let first : List ℕ = set old at tens in
    let on : at + 2 ≡ at + 1 + 1 = omega arith in
    ap (λ n. take n (set first (at + 1) ones)) on
    ∙ take_more_set first (at + 1) ones (omega (arith, length-set old at tens))
    ∙ ap (λ l. l ++ ones ∷ []) (take_more_set old at tens (omega arith))
    ∙ append_assoc (take at old) (tens ∷ []) (ones ∷ [])

-- the last digits of a number were put after the first ones
pub digits_put : (before first whole digits last number : List ℕ) → whole ≡ first ++ last → first ≡ before ++ digits → number ≡ digits ++ last → whole ≡ before ++ number
digits_put before first whole digits last number more put is =
    more
    ∙ ap (λ l. l ++ last) put
    ∙ append_assoc before digits last
    ∙ ap (λ l. before ++ l) (sym is)

-- ---- In place

-- bytes were put in the middle
pub bytes_put : (old bytes : List ℕ) (at n len : ℕ) → at ≤ length old → n ≤ length bytes → take (at + n) (put_mid at len old bytes) ≡ take at old ++ take n bytes
bytes_put old bytes at n len within few =
    let head : List ℕ = take at old in
    let long : length head ≡ at = length-take-le at old within in
    ap (λ k. take (k + n) (put_mid at len old bytes)) (sym long)
    ∙ take-append-add head (bytes ++ post_of at len old) n
    ∙ ap (λ l. head ++ l) (take-append-le n bytes (post_of at len old) few)

-- a number was put after its space
pub spaced_put : (before spaced after number : List ℕ) → spaced ≡ before ++ 32 ∷ [] → after ≡ spaced ++ number → after ≡ before ++ 32 ∷ number
spaced_put before spaced after number first second = second ∙ ap (λ l. l ++ number) first ∙ append_assoc before (32 ∷ []) number

-- that of a task or group has at most five digits
pub id_near : (old new : List ℕ) (at end number : ℕ) → at ≤ length old → end ≤ length new → number < 65536 → take end new ≡ take at old ++ 32 ∷ decimal number → end ≤ at + 6
id_near old new at end number within inside small put =
    let few : length (decimal number) ≤ 5 = length-decimal-le 5 number (omega arith) (omega arith) (omega arith) in
    let all : length (take end new) ≡ length (take at old) + length (32 ∷ decimal number) = ap length put ∙ length-append (take at old) (32 ∷ decimal number) in
    omega (arith, few, all, length-take-le end new inside, length-take-le at old within)

-- one more number was put
pub number_put : (before after spaced rest next whole : List ℕ) → after ≡ before ++ spaced → rest ≡ spaced ++ next → before ++ rest ≡ whole → after ++ next ≡ whole
number_put before after spaced rest next whole put is so_far =
    ap (λ l. l ++ next) put
    ∙ append_assoc before spaced next
    ∙ ap (λ l. before ++ l) (sym is)
    ∙ so_far

-- the number at a place, after its space, and those after it
pub numbers_at : (numbers : List ℕ) (i d : ℕ) → i < length numbers → line_rest (map decimal (drop i numbers)) ≡ (32 ∷ decimal (get_or numbers i d)) ++ line_rest (map decimal (drop (i + 1) numbers))
numbers_at numbers i d below = rw (drop-cons numbers i d below, add-one) refl

-- the same of groups
pub ids_at : (groups : List GroupId) (i : ℕ) (d : GroupId) → i < length groups → flat_map (λ group. 32 ∷ decimal group) (group_numbers (drop i groups)) ≡ (32 ∷ decimal (get_or groups i d).0) ++ flat_map (λ group. 32 ∷ decimal group) (group_numbers (drop (i + 1) groups))
ids_at groups i d below = rw (drop-cons groups i d below, add-one) refl

-- a space was put after a word and a number
pub words_put : (first second word number : List ℕ) (len end : ℕ) → end < length second → take len first ≡ word → take end second ≡ take len first ++ 32 ∷ number → take (end + 1) (set second end 32) ≡ word ++ (32 ∷ number ++ 32 ∷ [])
words_put first second word number len end below is put =
    take_more_set second end 32 below
    ∙ ap (λ l. l ++ 32 ∷ []) (put ∙ ap (λ l. l ++ 32 ∷ number) is)
    ∙ append_assoc word (32 ∷ number) (32 ∷ [])

-- and after a word and two numbers
pub ids_put : (first second third word group task : List ℕ) (len middle end : ℕ) → end < length third → take len first ≡ word → take middle second ≡ take len first ++ 32 ∷ group → take end third ≡ take middle second ++ 32 ∷ task → take (end + 1) (set third end 32) ≡ word ++ (32 ∷ group ++ (32 ∷ task ++ 32 ∷ []))
ids_put first second third word group task len middle end below is put more =
    take_more_set third end 32 below
    ∙ ap (λ l. l ++ 32 ∷ []) (more ∙ ap (λ l. l ++ 32 ∷ task) (put ∙ ap (λ l. l ++ 32 ∷ group) is))
    ∙ append_assoc (word ++ 32 ∷ group) (32 ∷ task) (32 ∷ [])
    ∙ append_assoc word (32 ∷ group) (32 ∷ task ++ 32 ∷ [])
