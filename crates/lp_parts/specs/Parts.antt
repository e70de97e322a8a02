-- Who owns which part of a list that grows: the part of a key has the entries that are the key's, in their order.
use Rattle.std.specs.Prelude.{◌≡◌, ◌⊎◌, ℕ, Bool, true, false, not, ◌&&◌, List, [], ◌∷◌, ◌++◌, filter, Option, Some, None, is_some, if◌then◌else◌, nat_eq}
use mathlib.Core.Option.{some}
use lib.ListN.{get_elem?}
use Rattle.atomic_table.specs.Seated.{TableId}
use Rattle.lp_parts.specs.declared.rule.View.{View}

-- the name of no cell
abbrev pub no_table : TableId
no_table = record { words = 0; slots = 0; views_name = 0; atom = 0; block = 0; offset = 0; slot_names = [] }

-- two keys are the same: a task's number each, or none
abbrev pub same_key : Option ℕ → Option ℕ → Bool
same_key (Some t) (Some u) = nat_eq t u
same_key None None = true
same_key _ _ = false

-- the key is among these
abbrev pub Among : Option ℕ → List (Option ℕ) → Type 0
Among k [] = ⊥
Among k (x ∷ xs) = (x ≡ k) ⊎ Among k xs

-- the keys but for this one
abbrev pub without : Option ℕ → List (Option ℕ) → List (Option ℕ)
without k [] = []
without k (x ∷ xs) = if same_key k x then without k xs else (x ∷ without k xs)

module _ {E : Type 0} (key : E → Option ℕ) where
  -- the entries that are the key's, in their order
  abbrev pub part_for : Option ℕ → List E → List E
  part_for k entries = filter (λ e. same_key k (key e)) entries

module _ {E : Type 0} where
  -- the pass that knows the whole list, and which parts others own
  abbrev pub keeper : List E → List (Option ℕ) → View E
  keeper all out = record { keeps = true; all = all; out = out; owns = false; of = None; sent = [] }

  -- a pass that owns this part
  abbrev pub owner : Option ℕ → List E → View E
  owner of sent = record { keeps = false; all = []; out = []; owns = true; of = of; sent = sent }

  -- a pass that owns nothing
  abbrev pub nobody : View E
  nobody = record { keeps = false; all = []; out = []; owns = false; of = None; sent = [] }

  -- what is left where the part is given away, and what is given
  abbrev pub rid : View E → View E
  rid v = record v { owns = false; of = None; sent = [] }

  abbrev pub handed : View E → View E
  handed v = record { keeps = false; all = []; out = []; owns = v.owns; of = v.of; sent = v.sent }

  -- a pass that takes another's part in
  abbrev pub taking : View E → View E → View E
  taking v u = record v { owns = u.owns; of = u.of; sent = u.sent }

  -- a pass that takes up a part nobody owned
  abbrev pub with_part : Option ℕ → View E → View E
  with_part k v = record v { out = k ∷ v.out; owns = true; of = k; sent = [] }

  -- it and its part have one entry more
  abbrev pub with_entry : E → View E → View E
  with_entry e v = record v { all = v.all ++ e ∷ []; sent = v.sent ++ e ∷ [] }

  -- its part is no longer among those that others own
  abbrev pub with_back : View E → View E
  with_back v = record v { out = without v.of v.out; owns = false; of = None; sent = [] }

  -- a part is taken up
  abbrev pub TakesUp : Option ℕ → View E → List ℕ → List ℕ → View E → Type 0
  TakesUp k v before after w = w ≡ with_part k v

  -- no two passes own one part
  abbrev pub Apart : List (View E) → Type 0
  Apart views =
      (i j : ℕ) (v w : View E) → get_elem? views i ≡ some v → get_elem? views j ≡ some w
      → v.owns ≡ true → w.owns ≡ true → v.of ≡ w.of → i ≡ j

-- what contracts see of the keeper: the list, and the keys whose parts others own
pub record Whole (E : Type 0) : Type 0 where
  pub all : List E
  pub out : List (Option ℕ)

-- and of a part: whose it is, and what was added by it
pub record Owned (E : Type 0) : Type 0 where
  pub of : Option ℕ
  pub sent : List E

module _ {E : Type 0} (key : E → Option ℕ) where
  -- the part is what the key has of the list, and its key is among those that are owned
  pub record Knows (v : View E) : Type 0 where
    pub is_part : v.sent ≡ part_for key v.of v.all
    pub among : Among v.of v.out

  -- what the rule says of one pass
  pub record Fits (seat : ℕ) (log : List E) (out : List (Option ℕ)) (by : ℕ) (v : View E) : Type 0 where
    pub keeper_is : v.keeps ≡ true → (by ≡ seat) × (v.all ≡ log) × (v.out ≡ out)
    pub owner_is : v.owns ≡ true → (v.sent ≡ part_for key v.of log) × Among v.of out

  -- one pass at most knows the list; what another owns is its key's part of it, and no part has two owners
  pub record Kept (words : List ℕ) (views : List (View E)) : Type 0 where
    pub seat : ℕ
    pub log : List E
    pub out : List (Option ℕ)
    pub fits : (by : ℕ) (v : View E) → get_elem? views by ≡ some v → Fits seat log out by v
    pub apart : Apart views

  -- one entry is added, which is the part's; a part is back
  abbrev pub Adds : E → View E → List ℕ → List ℕ → View E → Type 0
  Adds e v before after w = (w ≡ with_entry e v) × Knows v

  abbrev pub GivesBack : View E → List ℕ → List ℕ → View E → Type 0
  GivesBack v before after w = (w ≡ with_back v) × Knows v

  -- the same of an entry that a step names
  abbrev pub AddsNamed : Option E → View E → List ℕ → List ℕ → View E → Type 0
  AddsNamed None v before after w = ⊥
  AddsNamed (Some e) v before after w = Adds e v before after w
