-- A frame that is on a task's stack at two moments is there all the time between.
use Rattle.std.proofs.Common.{◌≡◌, ℕ, zero, suc, ◌+◌, ◌-◌, ◌≤◌, Bool, true, false, not, ◌&&◌, Contains, [], ◌∷◌, Option, Some, None, nat_eq, nat_le, nat_lt, refl, sym, ap, subst, ◌∙◌, ⊎_elim, arith}
use Rattle.std.specs.List.{list_any}
use Rattle.std.specs.Option.{option_map}
use Rattle.std.proofs.lemmas.Bool.{cases_eq, and_parts, eq-eqb, leb-true, not_from_true}
use Rattle.std.proofs.lemmas.List.Elements.{All-contains}
use Rattle.std.proofs.lemmas.List.Folds.{list_any_at}
use Rattle.lp_stack.specs.declared.frame.Frame.{Frame}
use Rattle.lp_stack.specs.declared.number.GroupId.{GroupId}
use Rattle.lp_stack.specs.declared.number.TaskId.{TaskId}
use Rattle.lp_model.specs.declared.check.Blame.TheVariants.{Frame as Blamed}
use Rattle.lp_model.specs.Rules.{Rules, IsLawful}
use Rattle.lp_definitions.specs.Tasks.{Life, Live, on_live, fits, first_of}
use Rattle.lp_definitions.specs.Leg.{Leg, accepted, after}
use Rattle.lp_definitions.specs.Schedule.{view}
use Rattle.lp_definitions.specs.Sound.{IsSound}
use Rattle.lp_definitions.specs.Chain.{nobody}
use Rattle.lp_laws.proofs.OneVersion.{frames_of}
use Rattle.lp_laws.proofs.NextTasks.{Came, Stayed, Born, came, unused_before}
use Rattle.lp_laws.proofs.SoundAfter.{serials}
use Rattle.lp_definitions.specs.declared.line.Line.TheVariants.{Hold}
use Rattle.lp_definitions.specs.declared.cert_fault.CertFault.TheVariants.{NotOnStack, NoBlame}
use Rattle.lp_laws.specs.Blamed.{is_blamed}
use Rattle.lp_definitions.specs.Judgement.{Section, blame_at, first_bad, is_held_by, is_on_stack, lies_in, line_test, moment_of}
use Rattle.lp_laws.proofs.Accepted.{blamed-is, held-is}
use Rattle.lp_laws.proofs.FirstBad.{all_good, first_none, first_some, fit_none}
use Rattle.lp_laws.proofs.Stacks.{Stands, stands-is, were_there}

refused : {A : Type 0} (b : Bool) (x : A) → b ≡ false → fits (not b) x ≡ Some x
refused false x e = refl
refused true x e = absurd (cc)

only : {A : Type 0} (o : Option A) → first_of (o ∷ []) ≡ o
only None = refl
only (Some x) = refl

module _ (model : Rules) (leg : Leg) where
  abbrev LivesAt : ℕ → ℕ → Type 0
  LivesAt t k = (z : Life) × (after model leg k t ≡ Live z)

  one_earlier : (f e k t : ℕ) (y x : Life) → f ≤ e → after model leg f t ≡ Live y → ((z : Life) → after model leg e t ≡ Live z → LivesAt t k) → Came model.child_group leg.bounds e (after model leg e) (accepted model leg e) t x → LivesAt t k
  one_earlier f e k t y x le was before (Stayed z c live is) = before z live
  one_earlier f e k t y x le was before (Born p how z event live unused positive within is) = let none = unused_before model.child_group leg f e t le unused in absurd (cc)

  -- a task that lives at two moments lives between them
  alive : (f k e t : ℕ) (y x : Life) → f ≤ k → k ≤ e → after model leg f t ≡ Live y → after model leg e t ≡ Live x → LivesAt t k
  alive f k zero t y x low high was now = let same : zero ≡ k = omega arith in (x, subst (λ n. after model leg n t ≡ Live x) same now)
  alive f k (suc e) t y x low high was now =
      ⊎_elim
      (λ (same : k ≡ suc e). (x, subst (λ n. after model leg n t ≡ Live x) (sym same) now))
      (λ (ne : k ≡ suc e → ⊥). one_earlier f e k t y x (omega (arith, ne)) was (λ z live. alive f k e t y z low (omega (arith, ne)) was live) (came model.child_group leg e t x now))
      (cases_eq k (suc e))

  module _ (section : Section) (group : GroupId) (t : TaskId) (serial from to : ℕ) where
    abbrev begin : ℕ
    begin = moment_of model leg from

    abbrev end : ℕ
    end = moment_of model leg to

    abbrev placed : Bool
    placed = nat_le from to && (lies_in section begin && lies_in section end)

    abbrev blamed : Bool
    blamed = placed && is_held_by serial (blame_at model leg section.group begin t.0)

    abbrev off : Option ℕ
    off = first_bad (suc end - begin) begin (is_on_stack model leg t.0 serial)

    -- a blamed hold ends no earlier than it begins, in its section's time
    pub hold_within : is_blamed model leg section (Hold group t serial from to) ≡ true → (begin ≤ end) × (end ≤ section.until)
    hold_within e =
        let place = (and_parts placed (is_held_by serial (blame_at model leg section.group begin t.0)) e).0 in
        let times = and_parts (nat_le from to) (lies_in section begin && lies_in section end) place in
        let ends = (and_parts (lies_in section begin) (lies_in section end) times.1).1 in
        let order = leb-true from to times.0 in
        (omega (arith, order), leb-true end section.until (and_parts (nat_lt section.begin end) (nat_le end section.until) ends).1)

    -- a hold that isn't blamed has a fault
    pub no_hold : is_blamed model leg section (Hold group t serial from to) ≡ false → line_test model leg section (Hold group t serial from to) ≡ Some (NoBlame from)
    no_hold e = first_some (fits (not blamed) (NoBlame from)) (option_map (λ (moment : ℕ). NotOnStack (leg.number + moment)) off ∷ []) (NoBlame from) (refused blamed (NoBlame from) e)

    -- one that is has one where its frame isn't on the stack
    pub hold_by : is_blamed model leg section (Hold group t serial from to) ≡ true → line_test model leg section (Hold group t serial from to) ≡ option_map (λ (moment : ℕ). NotOnStack (leg.number + moment)) off
    hold_by e =
        first_none (fits (not blamed) (NoBlame from)) (option_map (λ (moment : ℕ). NotOnStack (leg.number + moment)) off ∷ []) (fit_none (not blamed) (NoBlame from) (not_from_true blamed e))
        ∙ only (option_map (λ (moment : ℕ). NotOnStack (leg.number + moment)) off)

module _ (model : Rules) (leg : Leg) (lawful : IsLawful model) (sound : IsSound leg.opening) where
  pub between : (f k e t serial : ℕ) → f ≤ k → k ≤ e → Stands model leg t serial f → Stands model leg t serial e → is_on_stack model leg t serial k ≡ true
  between f k e t serial low high a b =
      let z = alive model leg f k e t a.life b.life low high a.live b.live in
      let past = (serials model leg lawful sound nobody (λ group moment e. absurd (cc)) f t a.life a.live).1 in
      let small : a.frame.serial ≤ leg.number + f = All-contains (λ frame. frame.serial ≤ leg.number + f) (frames_of leg nobody a.life) a.frame past a.there in
      let same : a.frame.serial ≡ b.frame.serial = a.is ∙ sym b.is in
      let there = All-contains (λ frame. frame.serial ≤ leg.number + k → Contains (frames_of leg nobody z.0) frame) (frames_of leg nobody b.life) b.frame (were_there model leg lawful sound k t z.0 z.1 e b.life high b.live) b.there (omega (arith, small, same, low)) in
      let has = λ (frame : Frame). nat_eq frame.serial serial in
      let found : list_any has (frames_of leg nobody z.0) ≡ true = list_any_at has (frames_of leg nobody z.0) there.0 b.frame there.1 (ap has there.2 ∙ eq-eqb b.frame.serial serial b.is) in
      ap (on_live false (λ x. list_any has (view leg nobody t x).frames)) z.1 ∙ found

  -- a blamed frame is on the stack
  pub blamed_stands : (moment group t serial : ℕ) → blame_at model leg group moment t ≡ Some (Blamed serial) → Stands model leg t serial moment
  blamed_stands moment group t serial e =
      let b = blamed-is model leg moment group t (Blamed serial) e in
      let there = lawful.blames_there b.kind (view leg nobody t b.life) leg.aim serial b.blamed in
      record { life = b.life; live = b.live; frame = there.0; there = there.1; is = there.2 }

  -- a hold that begins and ends well has no fault
  pub sound_hold : (section : Section) (group : GroupId) (t : TaskId) (serial from to : ℕ) → is_blamed model leg section (Hold group t serial from to) ≡ true → is_on_stack model leg t.0 serial (moment_of model leg to) ≡ true → line_test model leg section (Hold group t serial from to) ≡ None
  sound_hold section group t serial from to blamed ends =
      let begin = moment_of model leg from in
      let end = moment_of model leg to in
      let placed = nat_le from to && (lies_in section begin && lies_in section end) in
      let is_held = is_held_by serial (blame_at model leg section.group begin t.0) in
      let stands = is_on_stack model leg t.0 serial in
      let held = and_parts placed is_held blamed in
      let a = blamed_stands begin section.group t.0 serial (held-is serial (blame_at model leg section.group begin t.0) held.1) in
      let b = stands-is model leg t.0 serial end ends in
      let good : first_bad (suc end - begin) begin stands ≡ None = all_good (suc end - begin) begin stands (λ k low high. between begin k end t.0 serial low (omega (arith, high)) a b) in
      let off = option_map (λ (moment : ℕ). NotOnStack (leg.number + moment)) in
      first_none (fits (not (placed && is_held)) (NoBlame from)) (off (first_bad (suc end - begin) begin stands) ∷ []) (fit_none (not (placed && is_held)) (NoBlame from) (not_from_true (placed && is_held) blamed))
      ∙ ap (λ o. first_of (off o ∷ [])) good
