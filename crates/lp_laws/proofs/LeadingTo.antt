-- What the judgement reads in a certificate's lines, as a section more comes after them.
use Rattle.std.proofs.Common.{◌≡◌, ℕ, zero, ◌<◌, ◌≤◌, Bool, true, false, not, ◌&&◌, ◌||◌, List, [], ◌∷◌, ◌++◌, map, All, None, nat_le, nat_lt, refl, sym, ap, ap₂, ◌∙◌, subst, arith}
use Rattle.std.specs.List.{list_any, flat_map}
use Rattle.std.proofs.lemmas.Bool.{and_from, le-leb, lt-ltb, not_from_true}
use Rattle.std.proofs.lemmas.List.Elements.{All-head, All-tail, All-nil, All-cons, All-push}
use Rattle.lp_stack.specs.declared.number.GroupId.{GroupId}
use Rattle.lp_stack.specs.declared.number.TaskId.{TaskId}
use Rattle.lp_model.specs.Rules.{Rules}
use Rattle.lp_definitions.specs.Chain.{nobody}
use Rattle.lp_definitions.specs.Leg.{Leg}
use Rattle.lp_definitions.specs.Schedule.{waits}
use Rattle.lp_definitions.specs.Tasks.{fits, first_of}
use Rattle.lp_definitions.specs.declared.line.Line.{Line}
use Rattle.lp_definitions.specs.declared.line.Line.TheVariants.{Hold, Busy as OnCpu, Born}
use Rattle.lp_definitions.specs.declared.cert_fault.CertFault.TheVariants.{BadBirth}
use Rattle.lp_definitions.specs.Judgement.{Birth, Section, births, first_lines, last_group, moment_of, is_birth, birth_tests, first_group, sections, has_stray, line_tests, gap_test}
use Rattle.lp_laws.proofs.FirstBad.{first_of_append, first_none, fit_none}

-- ---- Lines

-- a line that is no birth
abbrev pub IsPlain : Line → Type 0
IsPlain (Hold g task serial from to) = Unit {0}
IsPlain (OnCpu g task at) = Unit {0}
IsPlain (Born g parent at) = ⊥

pub plain_lines : (ls : List Line) → All IsPlain ls → first_lines ls ≡ ls
plain_lines [] h = refl
plain_lines (Hold g task serial from to ∷ ls) h = ap (λ more. Hold g task serial from to ∷ more) (plain_lines ls (All-tail IsPlain (Hold g task serial from to) ls h))
plain_lines (OnCpu g task at ∷ ls) h = ap (λ more. OnCpu g task at ∷ more) (plain_lines ls (All-tail IsPlain (OnCpu g task at) ls h))
plain_lines (Born g parent at ∷ ls) h = absurd (All-head IsPlain (Born g parent at) ls h)

pub plain_births : (ls : List Line) → All IsPlain ls → births ls ≡ []
plain_births [] h = refl
plain_births (Hold g task serial from to ∷ ls) h = plain_births ls (All-tail IsPlain (Hold g task serial from to) ls h)
plain_births (OnCpu g task at ∷ ls) h = plain_births ls (All-tail IsPlain (OnCpu g task at) ls h)
plain_births (Born g parent at ∷ ls) h = absurd (All-head IsPlain (Born g parent at) ls h)

-- the first lines end before a birth
pub first_before : (older own : List Line) (g : GroupId) (parent : TaskId) (at : ℕ) → first_lines (older ++ Born g parent at ∷ own) ≡ first_lines older
first_before [] own g parent at = refl
first_before (Hold h task serial from to ∷ older) own g parent at = ap (λ more. Hold h task serial from to ∷ more) (first_before older own g parent at)
first_before (OnCpu h task here ∷ older) own g parent at = ap (λ more. OnCpu h task here ∷ more) (first_before older own g parent at)
first_before (Born h by here ∷ older) own g parent at = refl

-- one birth more, with the lines after it
pub one_birth_more : (older own : List Line) (g : GroupId) (parent : TaskId) (at : ℕ) → All IsPlain own
    → births (older ++ Born g parent at ∷ own) ≡ births older ++ (record { group = g.0; parent = parent.0; at = at; lines = own }) ∷ []
one_birth_more [] own g parent at plain =
    ap₂ (λ (ls : List Line) (more : List Birth). (record { group = g.0; parent = parent.0; at = at; lines = ls }) ∷ more) (plain_lines own plain) (plain_births own plain)
one_birth_more (Hold h task serial from to ∷ older) own g parent at plain = one_birth_more older own g parent at plain
one_birth_more (OnCpu h task here ∷ older) own g parent at plain = one_birth_more older own g parent at plain
one_birth_more (Born h by here ∷ older) own g parent at plain =
    ap₂ (λ (ls : List Line) (more : List Birth). (record { group = h.0; parent = by.0; at = here; lines = ls }) ∷ more) (first_before older own g parent at) (one_birth_more older own g parent at plain)

last_of_more : (group : ℕ) (bs : List Birth) (b : Birth) → last_group group (bs ++ b ∷ []) ≡ b.group
last_of_more group [] b = refl
last_of_more group (c ∷ bs) b = last_of_more c.group bs b

module _ (model : Rules) (leg : Leg) where
  -- the moment of the last birth, or this one
  abbrev pub last_moment : ℕ → List Birth → ℕ
  last_moment begin [] = begin
  last_moment begin (b ∷ bs) = last_moment (moment_of model leg b.at) bs

  last_moment_of_more : (begin : ℕ) (bs : List Birth) (b : Birth) → last_moment begin (bs ++ b ∷ []) ≡ moment_of model leg b.at
  last_moment_of_more begin [] b = refl
  last_moment_of_more begin (c ∷ bs) b = last_moment_of_more (moment_of model leg c.at) bs b

  first_of_more : (claimed parent : ℕ) (bs : List Birth) (b : Birth) → first_group model leg claimed (b ∷ []) ≡ parent → first_group model leg claimed (bs ++ b ∷ []) ≡ first_group model leg parent bs
  first_of_more claimed parent [] b e = e
  first_of_more claimed parent (c ∷ bs) b e = refl

  sections_of_more : (last group begin : ℕ) (ls : List Line) (bs : List Birth) (b : Birth)
      → sections model leg last group begin ls (bs ++ b ∷ []) ≡ sections model leg (moment_of model leg b.at) group begin ls bs ++ (record { group = b.group; begin = moment_of model leg b.at; until = last; lines = b.lines }) ∷ []
  sections_of_more last group begin ls [] b = refl
  sections_of_more last group begin ls (c ∷ bs) b =
      ap (λ (more : List Section). (record { group = group; begin = begin; until = moment_of model leg c.at; lines = ls }) ∷ more) (sections_of_more last c.group (moment_of model leg c.at) c.lines bs b)

  -- ---- Births

  -- each birth comes after the one before, in its group, and no later than the last moment
  abbrev pub AreBorn : ℕ → ℕ → ℕ → List Birth → Type 0
  AreBorn last group begin [] = Unit {0}
  AreBorn last group begin (b ∷ bs) =
      (begin < moment_of model leg b.at) × (moment_of model leg b.at ≤ last) × (is_birth model leg group b ≡ true) × AreBorn last b.group (moment_of model leg b.at) bs

  born_later : (last later group begin : ℕ) (bs : List Birth) → last ≤ later → AreBorn last group begin bs → AreBorn later group begin bs
  born_later last later group begin [] le h = tt
  born_later last later group begin (b ∷ bs) le h = (h.0, omega (arith, le, h.1), h.2, born_later last later b.group (moment_of model leg b.at) bs le h.3)

  born_more : (last group begin : ℕ) (bs : List Birth) (b : Birth) → AreBorn last group begin bs
      → last_moment begin bs < moment_of model leg b.at → moment_of model leg b.at ≤ last → is_birth model leg (last_group group bs) b ≡ true → AreBorn last group begin (bs ++ b ∷ [])
  born_more last group begin [] b h low high is = (low, high, is, tt)
  born_more last group begin (c ∷ bs) b h low high is = (h.0, h.1, h.2, born_more last c.group (moment_of model leg c.at) bs b h.3 low high is)

  pub born_well : (last group begin : ℕ) (bs : List Birth) → AreBorn last group begin bs → first_of (birth_tests model leg last group begin bs) ≡ None
  born_well last group begin [] h = refl
  born_well last group begin (b ∷ bs) h =
      let m = moment_of model leg b.at in
      let good : Bool = (nat_lt begin m && nat_le m last) && is_birth model leg group b in
      let ok : good ≡ true = and_from _ _ (and_from _ _ (lt-ltb begin m h.0) (le-leb m last h.1)) h.2 in
      first_none (fits (not good) (BadBirth b.at)) (birth_tests model leg last b.group m bs) (fit_none (not good) (BadBirth b.at) (not_from_true good ok))
      ∙ born_well last b.group m bs h.3

  -- ---- Sections

  -- a section without a fault
  pub record IsFaultless (section : Section) : Type 0 where
    pub own : has_stray model leg section ≡ false
    pub lines : first_of (line_tests model leg section) ≡ None
    pub gap : gap_test model leg section ≡ None

  pub none_strays : (parts : List Section) → All IsFaultless parts → list_any (has_stray model leg) parts ≡ false
  none_strays [] h = refl
  none_strays (part ∷ parts) h =
      ap₂ (λ a b. a || b) ((All-head IsFaultless part parts h).own) (none_strays parts (All-tail IsFaultless part parts h))

  pub lines_well : (parts : List Section) → All IsFaultless parts → first_of (flat_map (line_tests model leg) parts) ≡ None
  lines_well [] h = refl
  lines_well (part ∷ parts) h =
      first_of_append (line_tests model leg part) (flat_map (line_tests model leg) parts) (All-head IsFaultless part parts h).lines
      ∙ lines_well parts (All-tail IsFaultless part parts h)

  pub gaps_well : (parts : List Section) → All IsFaultless parts → first_of (map (gap_test model leg) parts) ≡ None
  gaps_well [] h = refl
  gaps_well (part ∷ parts) h =
      first_none (gap_test model leg part) (map (gap_test model leg) parts) (All-head IsFaultless part parts h).gap
      ∙ gaps_well parts (All-tail IsFaultless part parts h)

  -- ---- All that is read

  -- first lines and births that lead to a group after k events, its section beginning after so many
  pub record Leads (k group begin : ℕ) (ls : List Line) (bs : List Birth) : Type 0 where
    pub opens : waits model leg nobody zero (first_group model leg group bs) ≡ true
    pub ends : last_group (first_group model leg group bs) bs ≡ group
    pub moment : last_moment zero bs ≡ begin
    pub born : AreBorn k (first_group model leg group bs) zero bs
    pub parts : All IsFaultless (sections model leg k (first_group model leg group bs) zero ls bs)

  pub leads_first : (k group : ℕ) (ls : List Line) → waits model leg nobody zero group ≡ true
      → IsFaultless (record { group = group; begin = zero; until = k; lines = ls }) → Leads k group zero ls []
  leads_first k group ls opens good =
      record {
        opens = opens;
        ends = refl;
        moment = refl;
        born = tt;
        parts = All-cons IsFaultless (record { group = group; begin = zero; until = k; lines = ls }) [] good (All-nil IsFaultless);
      }

  pub leads_on : (k parent begin : ℕ) (ls : List Line) (bs : List Birth) (b : Birth) → Leads (moment_of model leg b.at) parent begin ls bs
      → begin < moment_of model leg b.at → moment_of model leg b.at ≤ k → is_birth model leg parent b ≡ true → first_group model leg b.group (b ∷ []) ≡ parent
      → IsFaultless (record { group = b.group; begin = moment_of model leg b.at; until = k; lines = b.lines }) → Leads k b.group (moment_of model leg b.at) ls (bs ++ b ∷ [])
  leads_on k parent begin ls bs b h low high is from good =
      let m = moment_of model leg b.at in
      let first = first_group model leg parent bs in
      let same : first_group model leg b.group (bs ++ b ∷ []) ≡ first = first_of_more b.group parent bs b from in
      let section : Section = record { group = b.group; begin = m; until = k; lines = b.lines } in
      record {
        opens = ap (waits model leg nobody zero) same ∙ h.opens;
        ends = last_of_more (first_group model leg b.group (bs ++ b ∷ [])) bs b;
        moment = last_moment_of_more zero bs b;
        born = subst (λ g. AreBorn k g zero (bs ++ b ∷ [])) (sym same)
            (born_more k first zero bs b (born_later m k first zero bs high h.born) (subst (λ n. n < m) (sym h.moment) low) high (subst (λ g. is_birth model leg g b ≡ true) (sym h.ends) is));
        parts = subst (λ g. All IsFaultless (sections model leg k g zero ls (bs ++ b ∷ []))) (sym same)
            (subst (All IsFaultless) (sym (sections_of_more k first zero ls bs b)) (All-push IsFaultless (sections model leg m first zero ls bs) section h.parts good));
      }
