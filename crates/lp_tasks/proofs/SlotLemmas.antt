-- A table of slots, of which those past the greatest number that was used are not made.
use Rattle.std.proofs.Common.{◌≡◌, ℕ, zero, suc, [], ◌∷◌, ◌++◌, ◌+◌, ◌-◌, ◌<◌, ◌≤◌, replicate, append_assoc, Bool, true, false, not, ◌&&◌, ◌||◌, nat_eq, List, length, get_or, set, Option, Some, None, is_some, IfSome, IfNone, refl, sym, ap, ap₂, subst, ◌∙◌, ⊎_elim, arith}
use Rattle.std.proofs.lemmas.Bool.{cases_eq, eq-eqb, ne_eqb, and_right}
use Rattle.std.proofs.lemmas.List.{get_or_default, get_or_append_left, get_or-append_right, set-append_left, length-append, length-replicate, length-set, get_or-set_same, get_or-set_other}
use Rattle.std.specs.Option.{option_map}
use Rattle.lp_stack.specs.declared.number.GroupId.{GroupId}
use Rattle.lp_numbers.specs.Numbers.{Numbers, has}
use Rattle.lp_numbers.specs.Groups.{Groups, is_member}
use Rattle.lp_definitions.specs.Leg.{LegTask}
use Rattle.lp_tasks.specs.inside.Slots.{padded, IsTable}
use Rattle.lp_tasks.specs.inside.Table.{is_in}

-- ---- Slots that aren't made yet

pub length-padded : (slots : List (Option LegTask)) → length slots ≤ 65536 → length (padded slots) ≡ 65536
unfolding padded
length-padded slots few = length-append slots (replicate (65536 - length slots) None) ∙ ap (λ n. length slots + n) (length-replicate (65536 - length slots) None) ∙ omega arith

-- what a made slot holds
pub padded-made : (slots : List (Option LegTask)) (i : ℕ) (slot : Option LegTask) → i < length slots → slot ≡ get_or slots i slot → get_or (padded slots) i None ≡ slot
unfolding padded
padded-made slots i slot h e = get_or_append_left slots (replicate (65536 - length slots) None) None i h ∙ get_or_default slots i None slot h ∙ sym e

-- a made slot is changed
pub padded-set : (slots : List (Option LegTask)) (i : ℕ) (slot : Option LegTask) → i < length slots → padded (set slots i slot) ≡ set (padded slots) i slot
unfolding padded
padded-set slots i slot h = rw length-set (sym (set-append_left slots (replicate (65536 - length slots) None) i slot h))

-- one more slot is made
pub padded-more : (slots : List (Option LegTask)) → length slots < 65536 → padded (slots ++ None ∷ []) ≡ padded slots
unfolding padded
padded-more slots h =
    let one : 65536 - length slots ≡ suc (65536 - length (slots ++ None ∷ [])) = omega (arith, length-append slots (None ∷ [])) in
    append_assoc slots (None ∷ []) (replicate (65536 - length (slots ++ None ∷ [])) None) ∙ ap (λ n. slots ++ replicate n None) (sym one)

-- no task is past the made slots
past-replicate : (n i : ℕ) (o : Option LegTask) → get_or (replicate n o) i o ≡ o
past-replicate zero i o = refl
past-replicate (suc n) zero o = refl
past-replicate (suc n) (suc i) o = past-replicate n i o

pub padded-past : (slots : List (Option LegTask)) (i : ℕ) → length slots ≤ i → get_or (padded slots) i None ≡ None
unfolding padded
padded-past slots i h =
    get_or-append_right slots (replicate (65536 - length slots) None) (length slots) i None refl h
    ∙ past-replicate (65536 - length slots) (i - length slots) None

-- ---- What holds of a table still holds after a change

is_some-map : (f : LegTask → LegTask) (o : Option LegTask) → is_some (option_map f o) ≡ is_some o
is_some-map f None = refl
is_some-map f (Some x) = refl

-- a change leaves the live tasks alive
some-changed : (slots : List (Option LegTask)) (i : ℕ) (f : LegTask → LegTask) → i < length slots → (u : ℕ) → is_some (get_or (set slots i (option_map f (get_or slots i None))) u None) ≡ is_some (get_or slots u None)
some-changed slots i f h u =
    ⊎_elim
    (λ (e : u ≡ i). subst (λ v. is_some (get_or (set slots i (option_map f (get_or slots i None))) v None) ≡ is_some (get_or slots v None)) (sym e) (ap is_some (get_or-set_same slots i (option_map f (get_or slots i None)) None h) ∙ is_some-map f (get_or slots i None)))
    (λ (ne : u ≡ i → ⊥). ap is_some (get_or-set_other slots i u (option_map f (get_or slots i None)) None ne))
    (cases_eq u i)

is_in-map : (f : LegTask → LegTask) (group : ℕ) (o : Option LegTask) → ((x : LegTask) → (f x).group ≡ x.group) → is_in group (option_map f o) ≡ is_in group o
is_in-map f group None stays = refl
is_in-map f group (Some x) stays = ap (λ g. nat_eq g group) (stays x)

-- a change that leaves the groups as they are
group-changed : (slots : List (Option LegTask)) (i : ℕ) (f : LegTask → LegTask) → ((x : LegTask) → (f x).group ≡ x.group) → i < length slots → (group u : ℕ) → is_in group (get_or (set slots i (option_map f (get_or slots i None))) u None) ≡ is_in group (get_or slots u None)
group-changed slots i f stays h group u =
    ⊎_elim
    (λ (e : u ≡ i). subst (λ v. is_in group (get_or (set slots i (option_map f (get_or slots i None))) v None) ≡ is_in group (get_or slots v None)) (sym e) (ap (is_in group) (get_or-set_same slots i (option_map f (get_or slots i None)) None h) ∙ is_in-map f group (get_or slots i None) stays))
    (λ (ne : u ≡ i → ⊥). ap (is_in group) (get_or-set_other slots i u (option_map f (get_or slots i None)) None ne))
    (cases_eq u i)

-- where one live task is changed
pub IsTable-change : (slots : List (Option LegTask)) (live used : Numbers) (members : Groups) (i : ℕ) (f : LegTask → LegTask) → ((x : LegTask) → (f x).group ≡ x.group) → i < 65536 → IsTable slots live used members → IsTable (set slots i (option_map f (get_or slots i None))) live used members
IsTable-change slots live used members i f stays h table =
    let within : i < length slots = omega (arith, table.slots_wide) in
    record {
      slots_wide = length-set slots i (option_map f (get_or slots i None)) ∙ table.slots_wide;
      used_wide = table.used_wide;
      living = λ u. table.living u ∙ sym (some-changed slots i f within u);
      known = λ u e. table.known u (sym (some-changed slots i f within u) ∙ e);
      grouped = λ group u. table.grouped group u ∙ sym (group-changed slots i f stays within group u);
    }

nat_eq-swap : (a b : ℕ) → nat_eq a b ≡ nat_eq b a
nat_eq-swap a b =
    ⊎_elim
    (λ (e : a ≡ b). eq-eqb a b e ∙ sym (eq-eqb b a (sym e)))
    (λ (ne : a ≡ b → ⊥). ne_eqb a b ne ∙ sym (ne_eqb b a (λ e. ne (sym e))))
    (cases_eq a b)

and-true : (b : Bool) → (b && true) ≡ b
and-true true = refl
and-true false = refl

or-and_false : (a b : Bool) → (a || (b && false)) ≡ a
or-and_false true b = refl
or-and_false false true = refl
or-and_false false false = refl

-- who is a member once a live task stands in an empty slot
grouped-put : (slots : List (Option LegTask)) (members members_new : Groups) (i : ℕ) (x : LegTask) → i < length slots → get_or slots i None ≡ None → ((group n : ℕ) → is_member members_new group n ≡ (is_member members group n || (nat_eq group x.group && nat_eq n i))) → ((group t : ℕ) → is_member members group t ≡ is_in group (get_or slots t None)) → (group t : ℕ) → is_member members_new group t ≡ is_in group (get_or (set slots i (Some x)) t None)
grouped-put slots members members_new i x within empty put grouped group t =
    ⊎_elim
    (λ (e : t ≡ i).
    let was : is_member members group t ≡ false = grouped group t ∙ ap (λ u. is_in group (get_or slots u None)) e ∙ ap (is_in group) empty in
    put group t
    ∙ ap₂ (λ a b. a || (nat_eq group x.group && b)) was (eq-eqb t i e)
    ∙ and-true (nat_eq group x.group)
    ∙ nat_eq-swap group x.group
    ∙ sym (ap (λ u. is_in group (get_or (set slots i (Some x)) u None)) e ∙ ap (is_in group) (get_or-set_same slots i (Some x) None within)))
    (λ (ne : t ≡ i → ⊥).
    put group t
    ∙ ap (λ b. is_member members group t || (nat_eq group x.group && b)) (ne_eqb t i ne)
    ∙ or-and_false (is_member members group t) (nat_eq group x.group)
    ∙ grouped group t
    ∙ sym (ap (is_in group) (get_or-set_other slots i t (Some x) None ne)))
    (cases_eq t i)

-- who is a member once a slot is empty
grouped-remove : (slots : List (Option LegTask)) (members members_new : Groups) (i : ℕ) → i < length slots → ((group n : ℕ) → is_member members_new group n ≡ (is_member members group n && not (nat_eq n i))) → ((group t : ℕ) → is_member members group t ≡ is_in group (get_or slots t None)) → (group t : ℕ) → is_member members_new group t ≡ is_in group (get_or (set slots i None) t None)
grouped-remove slots members members_new i within removed grouped group t =
    ⊎_elim
    (λ (e : t ≡ i).
    removed group t
    ∙ and_right (is_member members group t) (not (nat_eq t i)) (ap not (eq-eqb t i e))
    ∙ sym (ap (λ u. is_in group (get_or (set slots i None) u None)) e ∙ ap (is_in group) (get_or-set_same slots i None None within)))
    (λ (ne : t ≡ i → ⊥).
    removed group t
    ∙ ap (λ b. is_member members group t && not b) (ne_eqb t i ne)
    ∙ and-true (is_member members group t)
    ∙ grouped group t
    ∙ sym (ap (is_in group) (get_or-set_other slots i t None None ne)))
    (cases_eq t i)

-- where a slot gets a live task, and its number is used
pub IsTable-put : (slots : List (Option LegTask)) (live used : Numbers) (members members_new : Groups) (i : ℕ) (x : LegTask) → i < 65536 → length (set live i true) ≡ 65536 → get_or slots i None ≡ None → ((group n : ℕ) → is_member members_new group n ≡ (is_member members group n || (nat_eq group x.group && nat_eq n i))) → IsTable slots live used members → IsTable (set slots i (Some x)) (set live i true) (set used i true) members_new
IsTable-put slots live used members members_new i x h wide empty put table = record {
  slots_wide = length-set slots i (Some x) ∙ table.slots_wide;
  used_wide = length-set used i true ∙ table.used_wide;
  living = λ u. ⊎_elim
      (λ (e : u ≡ i). subst (λ v. has (set live i true) v ≡ is_some (get_or (set slots i (Some x)) v None)) (sym e) (get_or-set_same live i true false live_within ∙ sym (ap is_some (get_or-set_same slots i (Some x) None within))))
      (λ (ne : u ≡ i → ⊥). get_or-set_other live i u true false ne ∙ table.living u ∙ sym (ap is_some (get_or-set_other slots i u (Some x) None ne)))
      (cases_eq u i);
  known = λ u some. ⊎_elim
      (λ (e : u ≡ i). subst (λ v. has (set used i true) v ≡ true) (sym e) (get_or-set_same used i true false (omega (arith, table.used_wide))))
      (λ (ne : u ≡ i → ⊥). get_or-set_other used i u true false ne ∙ table.known u (ap is_some (sym (get_or-set_other slots i u (Some x) None ne)) ∙ some))
      (cases_eq u i);
  grouped = grouped-put slots members members_new i x within empty put table.grouped;
}
  where
    within : i < length slots
    within = omega (arith, table.slots_wide)

    live_within : i < length live
    live_within = omega (arith, length-set live i true, wide)

-- where a slot's task is live no longer
pub IsTable-remove : (slots : List (Option LegTask)) (live used : Numbers) (members members_new : Groups) (i : ℕ) → i < 65536 → length (set live i false) ≡ 65536 → ((group n : ℕ) → is_member members_new group n ≡ (is_member members group n && not (nat_eq n i))) → IsTable slots live used members → IsTable (set slots i None) (set live i false) used members_new
IsTable-remove slots live used members members_new i h wide removed table = record {
  slots_wide = length-set slots i None ∙ table.slots_wide;
  used_wide = table.used_wide;
  living = λ u. ⊎_elim
      (λ (e : u ≡ i). subst (λ v. has (set live i false) v ≡ is_some (get_or (set slots i None) v None)) (sym e) (get_or-set_same live i false false live_within ∙ sym (ap is_some empty)))
      (λ (ne : u ≡ i → ⊥). get_or-set_other live i u false false ne ∙ table.living u ∙ sym (ap is_some (get_or-set_other slots i u None None ne)))
      (cases_eq u i);
  known = λ u some. ⊎_elim
      (λ (e : u ≡ i). let dead : is_some (get_or (set slots i None) u None) ≡ false = subst (λ v. is_some (get_or (set slots i None) v None) ≡ false) (sym e) (ap is_some empty) in absurd (cc))
      (λ (ne : u ≡ i → ⊥). table.known u (ap is_some (sym (get_or-set_other slots i u None None ne)) ∙ some))
      (cases_eq u i);
  grouped = grouped-remove slots members members_new i (omega (arith, table.slots_wide)) removed table.grouped;
}
  where
    live_within : i < length live
    live_within = omega (arith, length-set live i false, wide)

    empty : get_or (set slots i None) i None ≡ None
    empty = get_or-set_same slots i None None (omega (arith, table.slots_wide))

-- ---- No task is there yet

-- a table without tasks
pub IsTable-empty : (slots : List (Option LegTask)) (live used : Numbers) (members : Groups) → length slots ≡ 65536 → length used ≡ 65536 → ((t : ℕ) → get_or slots t None ≡ None) → ((t : ℕ) → has live t ≡ false) → ((group t : ℕ) → is_member members group t ≡ false) → IsTable slots live used members
IsTable-empty slots live used members wide used_wide empty none memberless = record {
  slots_wide = wide;
  used_wide = used_wide;
  living = λ t. none t ∙ sym (ap is_some (empty t));
  known = λ t some. let dead = ap is_some (empty t) in absurd (cc);
  grouped = λ group t. memberless group t ∙ sym (ap (is_in group) (empty t));
}

-- ---- The group of a live task

-- whoever has a group is a member of it
pub group-member : (members : Groups) (t : ℕ) (group : Option GroupId) (o : Option LegTask) → option_map (λ (g : GroupId). g.0) group ≡ option_map (λ (x : LegTask). x.group) o → ((other : ℕ) → is_member members other t ≡ is_in other o) → IfSome group (λ own. is_member members own.0 t ≡ true)
group-member members t None o e grouped = tt
group-member members t (Some own) None e grouped = absurd (cc)
group-member members t (Some own) (Some x) e grouped = let same : x.group ≡ own.0 = cc in grouped own.0 ∙ eq-eqb x.group own.0 same

-- whoever has none is in none
pub group-stranger : (members : Groups) (t : ℕ) (group : Option GroupId) (o : Option LegTask) → option_map (λ (g : GroupId). g.0) group ≡ option_map (λ (x : LegTask). x.group) o → ((other : ℕ) → is_member members other t ≡ is_in other o) → IfNone group ((other : ℕ) → is_member members other t ≡ false)
group-stranger members t (Some own) o e grouped = tt
group-stranger members t None None e grouped = grouped
group-stranger members t None (Some x) e grouped = absurd (cc)
