-- The parts of a report, one after the other.
use Rattle.std.proofs.Common.{◌≡◌, ◌<◌, ◌≤◌, ◌+◌, ℕ, suc, List, [], ◌∷◌, ◌++◌, length, drop, map, get_or, add-one, refl, sym, ap, ◌∙◌, append_assoc, codes, decimal, Some, zero, arith}
use Rattle.std.specs.Prelude.{slice_get}
use Rattle.std.specs.List.{concat, flat_map}
use Rattle.std.proofs.lemmas.List.{append-nil}
use Rattle.std.proofs.lemmas.Grind.{flat_map-append}
use Rattle.std.proofs.Math.ListN.{drop_of_length-le}
use Rattle.std.proofs.Math.Seq.{drop-cons}
use Rattle.lp_stack.specs.declared.number.GroupId.{GroupId}
use Rattle.lp_definitions.specs.Events.{group_numbers}
use Rattle.lp_definitions.specs.declared.reply.Reply.{Reply}
use Rattle.lp_text.specs.declared.form.TraceForm.{TraceForm}
use Rattle.lp_definitions.specs.Outcome.{Outcome}
use Rattle.lp_text.specs.Words.{line_of}
use Rattle.lp_text.specs.inside.Writing.{Left, Seen, line_rest}
use Rattle.lp_trace.specs.Report.{reply_line, reply_lines, leg_lines, stays_line, report, report_lines, report_header}
use Rattle.lp_replay.specs.declared.replies.ShortReply.{ShortReply}
use Rattle.lp_replay.specs.Replies.{first_groups, lists_in, replies_of, reply_of}
use Rattle.lp_replay.proofs.ReplyLists.{replies-next, replies-end}
use Rattle.lp_text.proofs.Writing.{line_split}
use Rattle.lp_trace.proofs.Pages.{held_start, held_next}

-- ---- The groups of a line

-- the group at a place, after its space, and the groups and the line's end after it
pub groups_at : (groups : List GroupId) (i : ℕ) (d : GroupId) (end : List ℕ) → i < length groups → flat_map (λ group. 32 ∷ decimal group) (group_numbers (drop i groups)) ++ end ≡ (32 ∷ decimal (get_or groups i d).0) ++ (flat_map (λ group. 32 ∷ decimal group) (group_numbers (drop (i + 1) groups)) ++ end)
groups_at groups i d end below =
    rw (drop-cons groups i d below, add-one) (append_assoc (32 ∷ decimal (get_or groups i d).0) (flat_map (λ group. 32 ∷ decimal group) (group_numbers (drop (suc i) groups))) end)

pub groups_end : (groups : List GroupId) (i : ℕ) (end : List ℕ) → length groups ≤ i → flat_map (λ group. 32 ∷ decimal group) (group_numbers (drop i groups)) ++ end ≡ end
groups_end groups i end h = rw (drop_of_length-le groups h) refl

pub switched_split : (event : List ℕ) (groups : List GroupId) (end : List ℕ) → event ++ (codes " over" ++ (flat_map (λ group. 32 ∷ decimal group) (group_numbers groups) ++ end)) ≡ concat (event ∷ codes " over" ∷ []) ++ (flat_map (λ group. 32 ∷ decimal group) (group_numbers groups) ++ end)
switched_split event groups end = sym (append_assoc event (codes " over") (flat_map (λ group. 32 ∷ decimal group) (group_numbers groups) ++ end))

-- the words after the first two, each after its space
pub groups_rest : (groups : List ℕ) (words : List (List ℕ)) → line_rest (map decimal groups ++ words) ≡ flat_map (λ group. 32 ∷ decimal group) groups ++ line_rest words
groups_rest [] words = refl
groups_rest (group ∷ groups) words =
    ap (λ l. (32 ∷ decimal group) ++ l) (groups_rest groups words) ∙ sym (append_assoc (32 ∷ decimal group) (flat_map (λ group. 32 ∷ decimal group) groups) (line_rest words))

-- the line of an event at which groups switched
pub switched_line : (event : List ℕ) (groups : List ℕ) (words : List (List ℕ)) → line_of (event ∷ (codes "over" ∷ map decimal groups) ++ words) ≡ event ++ (codes " over" ++ (flat_map (λ group. 32 ∷ decimal group) groups ++ line_rest words))
switched_line event groups words =
    line_split event (codes "over" ∷ (map decimal groups ++ words)) ∙ ap (λ l. event ++ (codes " over" ++ l)) (groups_rest groups words)

-- ---- The lines of the events

module _ (form : TraceForm) where
  -- the reply at a place, which takes so many lists, the first of which is this one, and those after it
  pub events_next : (replies : List ShortReply) (lists : List (List ℕ)) (i next : ℕ) (d : ShortReply) (step : ℕ) (groups : List ℕ) → i < length replies → step ≡ lists_in (get_or replies i d).what → groups ≡ first_groups (drop next lists)
      → flat_map line_of (reply_lines form (i + 1) (replies_of (drop i replies) (drop next lists)))
      ≡ line_of (reply_line form (i + 1) (reply_of (get_or replies i d) (groups ∷ []))) ++ flat_map line_of (reply_lines form (i + 1 + 1) (replies_of (drop (i + 1) replies) (drop (next + step) lists)))
  unfolding reply_lines
  events_next replies lists i next d step groups below steps first_is =
      let first : List ℕ = line_of (reply_line form (i + 1) (reply_of (get_or replies i d) (groups ∷ []))) in
      let rest : List Reply = replies_of (drop (i + 1) replies) (drop (next + step) lists) in
      ap (λ r. flat_map line_of (reply_lines form (i + 1) r)) (replies-next replies lists i next d step groups below steps first_is)
      ∙ ap (λ number. first ++ flat_map line_of (reply_lines form number rest)) (sym (add-one (i + 1)))

  -- a reply that takes no list leaves them to those after it
  pub events_plain : (replies : List ShortReply) (lists : List (List ℕ)) (i next : ℕ) (d : ShortReply) → i < length replies → lists_in (get_or replies i d).what ≡ 0
      → flat_map line_of (reply_lines form (i + 1) (replies_of (drop i replies) (drop next lists)))
      ≡ line_of (reply_line form (i + 1) (reply_of (get_or replies i d) (first_groups (drop next lists) ∷ []))) ++ flat_map line_of (reply_lines form (i + 1 + 1) (replies_of (drop (i + 1) replies) (drop next lists)))
  events_plain replies lists i next d below none =
      let first : List ℕ = line_of (reply_line form (i + 1) (reply_of (get_or replies i d) (first_groups (drop next lists) ∷ []))) in
      let same : next + 0 ≡ next = omega arith in
      events_next replies lists i next d 0 (first_groups (drop next lists)) below (sym none) refl
      ∙ ap (λ n. first ++ flat_map line_of (reply_lines form (i + 1 + 1) (replies_of (drop (i + 1) replies) (drop n lists)))) same

  pub events_end : (replies : List ShortReply) (lists : List (List ℕ)) (i n : ℕ) → length replies ≤ i → flat_map line_of (reply_lines form n (replies_of (drop i replies) lists)) ≡ []
  unfolding reply_lines
  events_end replies lists i n h = ap (λ r. flat_map line_of (reply_lines form n r)) (replies-end replies lists i h)

-- ---- The lines of legs and of certificates

module _ {X : Type 0} (f : X → List (List (List ℕ))) where
  -- the lines of the first, and those after it
  pub block_first : (all rest : List X) (x : X) → all ≡ x ∷ rest → flat_map line_of (flat_map f all) ≡ flat_map line_of (f x) ++ flat_map line_of (flat_map f rest)
  block_first all rest x is = ap (λ l. flat_map line_of (flat_map f l)) is ∙ flat_map-append line_of (f x) (flat_map f rest)

  -- what is at a place, and its lines and those after it
  pub block_of : (xs : List X) (i : ℕ) → i < length xs → (x : X) × (slice_get xs i ≡ Some x) × (flat_map line_of (flat_map f (drop i xs)) ≡ flat_map line_of (f x) ++ flat_map line_of (flat_map f (drop (i + 1) xs)))
  block_of [] i below = absurd (omega arith)
  block_of (x ∷ xs) zero below = (x, refl, flat_map-append line_of (f x) (flat_map f xs))
  block_of (x ∷ xs) (suc i) below =
      let found = block_of xs i (omega arith) in
      (found.0, found.1, rw add-one (rw add-one at found.2))

-- ---- The text

module _ (form : TraceForm) (name : List ℕ) (outcome : Outcome) where
  abbrev pub header_part : List ℕ
  header_part = line_of (report_header form ∷ [])

  abbrev pub model_part : List ℕ
  model_part = line_of (codes "model" ∷ name ∷ [])

  abbrev pub events_part : List ℕ
  events_part = flat_map line_of (reply_lines form 1 outcome.replies)

  abbrev pub legs_part : List ℕ
  legs_part = flat_map line_of (flat_map (leg_lines form) outcome.legs)

  abbrev pub stays_part : List ℕ
  stays_part = line_of (stays_line outcome)

  pub report_split : report form name outcome ≡ header_part ++ (model_part ++ (events_part ++ (legs_part ++ stays_part)))
  unfolding report report_lines
  report_split =
      let events : List (List (List ℕ)) = reply_lines form 1 outcome.replies in
      let legs : List (List (List ℕ)) = flat_map (leg_lines form) outcome.legs in
      let last : List (List (List ℕ)) = stays_line outcome ∷ [] in
      let lines : flat_map line_of (events ++ legs ++ last) ≡ events_part ++ (legs_part ++ stays_part) =
      flat_map-append line_of (events ++ legs) last
      ∙ ap (λ l. l ++ flat_map line_of last) (flat_map-append line_of events legs)
      ∙ append_assoc events_part legs_part (flat_map line_of last)
      ∙ ap (λ l. events_part ++ (legs_part ++ l)) (append-nil stays_part) in
      ap (λ l. header_part ++ (model_part ++ l)) lines

-- ---- Where a page and a writer stand after each part

module _ (form : TraceForm) (name : List ℕ) (outcome : Outcome) (h h1 h2 h3 h4 : List ℕ) (a b c d e : Seen) where
  abbrev Stands : Seen → List ℕ → List ℕ → Type 0
  Stands known held rest = Left a known (h ++ report form name outcome) (held ++ rest)

  pub after_header : Left a b (h ++ header_part form name outcome) h1 → Stands b h1 (model_part form name outcome ++ (events_part form name outcome ++ (legs_part form name outcome ++ stays_part form name outcome)))
  after_header x =
      held_next a a b _ h (header_part form name outcome) _ _ h1 (report_split form name outcome) (held_start a (h ++ report form name outcome)) x

  pub after_model : Left a b (h ++ header_part form name outcome) h1 → Left b c (h1 ++ model_part form name outcome) h2 → Stands c h2 (events_part form name outcome ++ (legs_part form name outcome ++ stays_part form name outcome))
  after_model x y = held_next a b c _ h1 (model_part form name outcome) _ _ h2 refl (after_header x) y

  pub after_events : Left a b (h ++ header_part form name outcome) h1 → Left b c (h1 ++ model_part form name outcome) h2 → Left c d (h2 ++ events_part form name outcome) h3 → Stands d h3 (legs_part form name outcome ++ stays_part form name outcome)
  after_events x y z = held_next a c d _ h2 (events_part form name outcome) _ _ h3 refl (after_model x y) z

  pub after_legs : Left a b (h ++ header_part form name outcome) h1 → Left b c (h1 ++ model_part form name outcome) h2 → Left c d (h2 ++ events_part form name outcome) h3 → Left d e (h3 ++ legs_part form name outcome) h4 → Stands e h4 (stays_part form name outcome)
  after_legs x y z w = held_next a d e _ h3 (legs_part form name outcome) _ _ h4 refl (after_events x y z) w
