-- What an engine with the maker of its certificates is made of a run, and what it tells.
use Rattle.std.proofs.Common.{◌≡◌, ◌+◌, ℕ, suc, Bool, true, false, List, [], ◌∷◌, length, map, nat_eq, cond, is_some, Option, Some, None, Result, Ok, Err, IfOk, OnOk, OnErr, if◌then◌else◌, refl, sym, ap, ap₂, ◌∙◌, arith, length-append, subst}
use Rattle.std.specs.Prelude.{slice_get}
use Rattle.std.specs.List.{find}
use Rattle.std.specs.Option.{option_map}
use Rattle.lp_model.specs.Rules.{Rules}
use Rattle.lp_definitions.specs.declared.event.Event.{Event}
use Rattle.lp_definitions.specs.declared.reply.Reply.{Reply}
use Rattle.lp_definitions.specs.declared.cert.Claim.TheVariants.{Floor}
use Rattle.lp_definitions.specs.declared.cert.Cert.{Cert}
use Rattle.lp_definitions.specs.Ends.{LegEnd}
use Rattle.lp_definitions.specs.Leg.{Leg, State}
use Rattle.lp_definitions.specs.Run.{Run, and_then, first_leg, leg_after, leg_of, next_leg, opened, opens, plus}
use Rattle.lp_machine.specs.Steps.{IsStep, StandsIn}
use Rattle.lp_machine.specs.Table.{Engine, state_in}
use Rattle.lp_transition.specs.Blames.{blame_of}
use Rattle.lp_transition.specs.Weigh.{HasToldBlamesAfter}
use Rattle.lp_transition.specs.LastScan.{IsLastScanAfter}
use Rattle.lp_cert.specs.Ends.{Made, IsMadeFurther, IsMadeWith, cert_upto, end_upto, floor_in, is_complete_in, made_upto, passed_upto, waiting_in}
use Rattle.lp_cert.specs.Explained.{Explained, IsExplained, made_in}
use Rattle.lp_cert.proofs.Making.{map_twice}
use Rattle.lp_cert.proofs.Tellings.{begun_with}
use Rattle.lp_cert.proofs.Upto.{upto_now}

-- what contracts see of an engine and the maker of its certificates
abbrev pub explained_by : Engine → Made → Explained
explained_by core made = record { core = core; ended = made.ended; current = option_map (end_upto core.number) made.current }

-- ---- Results

on_ok : {A E : Type 0} (S : A → Type 0) (P Q : Type 0) → ((x : A) → S x → P → Q) → (r : Result A E) → IfOk r S → OnOk r P → OnOk r Q
on_ok S P Q f (Ok x) s p = f x s p
on_ok S P Q f (Err e) s p = tt

pub on_ok_two : {A E : Type 0} (S : A → Type 0) (P R Q : Type 0) → ((x : A) → S x → P → R → Q) → (r : Result A E) → IfOk r S → OnOk r P → OnOk r R → OnOk r Q
on_ok_two S P R Q f (Ok x) s p t = f x s p t
on_ok_two S P R Q f (Err e) s p t = tt

on_err : {A E : Type 0} (P Q R S : Type 0) → (P → Q → R → S) → (r : Result A E) → OnErr r P → OnErr r Q → OnErr r R → OnErr r S
on_err P Q R S f (Ok x) p q r = tt
on_err P Q R S f (Err e) p q r = f p q r

-- ---- Certificates up to a later event

find_upto : (n group : ℕ) (certs : List Cert) → option_map (cert_upto n) (find (λ (cert : Cert). nat_eq cert.group.0 group) certs) ≡ find (λ (cert : Cert). nat_eq cert.group.0 group) (map (cert_upto n) certs)
find_upto n group [] = refl
find_upto n group (cert ∷ certs) = by (find_upto n group certs) (nat_eq cert.group.0 group)
  where
    by : option_map (cert_upto n) (find (λ (c : Cert). nat_eq c.group.0 group) certs) ≡ find (λ (c : Cert). nat_eq c.group.0 group) (map (cert_upto n) certs)
        → (b : Bool) → option_map (cert_upto n) (cond b (Some cert) (find (λ (c : Cert). nat_eq c.group.0 group) certs)) ≡ cond b (Some (cert_upto n cert)) (find (λ (c : Cert). nat_eq c.group.0 group) (map (cert_upto n) certs))
    by later true = refl
    by later false = later

waiting_by : (n group : ℕ) (leg : LegEnd) (done : Option ℕ) → option_map (cert_upto n) (waiting_in (Some (record leg { completed = done })) group) ≡ waiting_in (Some (end_upto n (record leg { completed = done }))) group
waiting_by n group leg None = find_upto n group leg.certs
waiting_by n group leg (Some done) = refl

pub waiting_upto : (n group : ℕ) (current : Option LegEnd) → option_map (cert_upto n) (waiting_in current group) ≡ waiting_in (option_map (end_upto n) current) group
waiting_upto n group None = refl
waiting_upto n group (Some leg) = waiting_by n group leg leg.completed

some_map : {A B : Type 0} (f : A → B) (o : Option A) → is_some (option_map f o) ≡ is_some o
some_map f None = refl
some_map f (Some x) = refl

-- and it is there at both or at none
pub waits_upto : (n group : ℕ) (current : Option LegEnd) → is_some (waiting_in current group) ≡ is_some (waiting_in (option_map (end_upto n) current) group)
waits_upto n group current = sym (some_map (cert_upto n) (waiting_in current group)) ∙ ap is_some (waiting_upto n group current)

first_upto : (n : ℕ) (certs : List Cert) → option_map (cert_upto n) (option_map (λ (cert : Cert). record cert { claim = Floor }) (slice_get certs 0)) ≡ option_map (λ (cert : Cert). record cert { claim = Floor }) (slice_get (map (cert_upto n) certs) 0)
first_upto n [] = refl
first_upto n (cert ∷ certs) = refl

floor_by : (n : ℕ) (leg : LegEnd) (done : Option ℕ) → option_map (cert_upto n) (floor_in (Some (record leg { completed = done }))) ≡ floor_in (Some (end_upto n (record leg { completed = done })))
floor_by n leg None = first_upto n leg.certs
floor_by n leg (Some done) = refl

pub floor_upto : (n : ℕ) (current : Option LegEnd) → option_map (cert_upto n) (floor_in current) ≡ floor_in (option_map (end_upto n) current)
floor_upto n None = refl
floor_upto n (Some leg) = floor_by n leg leg.completed

complete_by : (n : ℕ) (leg : LegEnd) (done : Option ℕ) → is_complete_in (Some (record leg { completed = done })) ≡ is_complete_in (Some (end_upto n (record leg { completed = done })))
complete_by n leg None = refl
complete_by n leg (Some done) = refl

pub complete_upto : (n : ℕ) (current : Option LegEnd) → is_complete_in current ≡ is_complete_in (option_map (end_upto n) current)
complete_upto n None = refl
complete_upto n (Some leg) = complete_by n leg leg.completed

twice_by : (n : ℕ) (leg : LegEnd) (done : Option ℕ) → end_upto n (end_upto n (record leg { completed = done })) ≡ end_upto n (record leg { completed = done })
twice_by n leg None =
    ap (λ certs. let end : LegEnd = record { opened = leg.opened; target = leg.target; completed = None; certs = certs } in end) (map_twice (cert_upto n) (cert_upto n) leg.certs)
twice_by n leg (Some done) = refl

twice : (n : ℕ) (current : Option LegEnd) → option_map (end_upto n) (option_map (end_upto n) current) ≡ option_map (end_upto n) current
twice n None = refl
twice n (Some leg) = ap Some (twice_by n leg leg.completed)

-- where an event isn't taken, nothing is seen of what it was made ready for
left : (core after : Engine) (made noted ready : Made) → after ≡ core → noted ≡ passed_upto core.number made → ready.ended ≡ noted.ended → ready.current ≡ noted.current → explained_by after ready ≡ explained_by core made
left core after made noted ready same noted_is ended current =
    ap (λ (e : Engine). explained_by e ready) same
    ∙ (ap₂ (λ (es : List LegEnd) (o : Option LegEnd). (let seen : Explained = record { core = core; ended = es; current = option_map (end_upto core.number) o } in seen))
    (ended ∙ ap (λ (m : Made). m.ended) noted_is) (current ∙ ap (λ (m : Made). m.current) noted_is)
    ∙ ap (λ (o : Option LegEnd). (let seen : Explained = record { core = core; ended = made.ended; current = o } in seen)) (twice core.number made.current))

module _ (model : Rules) where
  -- ---- Numbers

  next_is : (leg : Leg) (event : Event) (b : Bool) → opens model leg event ≡ b → next_leg model leg event ≡ (if b then opened model leg event else and_then leg event)
  unfolding next_leg
  next_is leg event b e = ap (λ c. if c then opened model leg event else and_then leg event) e

  number_next : (leg : Leg) (event : Event) → (next_leg model leg event).number + length (next_leg model leg event).events ≡ suc (leg.number + length leg.events)
  number_next leg event = by (opens model leg event) refl
    where
      by : (b : Bool) → opens model leg event ≡ b → (next_leg model leg event).number + length (next_leg model leg event).events ≡ suc (leg.number + length leg.events)
      by true e = ap (λ (l : Leg). l.number + length l.events) (next_is leg event true e) ∙ omega arith
      by false e = ap (λ (l : Leg). l.number + length l.events) (next_is leg event false e) ∙ omega (arith, length-append leg.events (event ∷ []))

  number_after : (leg : Leg) (events : List Event) → (leg_after model leg events).number + length (leg_after model leg events).events ≡ leg.number + length leg.events + length events
  unfolding leg_after
  number_after leg [] = omega arith
  number_after leg (event ∷ events) = omega (arith, number_after (next_leg model leg event) events, number_next leg event)

  -- as many events are numbered as came
  pub number_is : (run : Run) (core : Engine) → StandsIn model run (state_in core) → core.number ≡ length run.events
  number_is run core stands =
      let leg = leg_of model run in
      let there : core.number ≡ leg.number + length leg.events = ap (λ (s : State). s.number) stands.there in
      let came : leg.number + length leg.events ≡ 0 + 0 + length run.events = number_after (first_leg model run) run.events in
      omega (arith, there, came)

  pub number_up : (run : Run) (event : Event) (old new : Engine) → StandsIn model run (state_in old) → StandsIn model (plus run event) (state_in new) → new.number ≡ old.number + 1
  number_up run event old new before after =
      omega (arith, number_is run old before, number_is (plus run event) new after, length-append run.events (event ∷ []))

  -- ---- The run

  -- what is made is that of the run whatever there is room for
  pub made_same : (run : Run) (e : Engine) (made other : Made) → other.ended ≡ made.ended → other.current ≡ made.current → IsMadeWith model run e made → IsMadeWith model run e other
  made_same run e made other ended current is =
      record { of_run = record { ended = ended ∙ is.ended; current = current ∙ is.current }; unchanged = is.unchanged; held = is.held }

  -- an engine before its first event
  pub explained_first : (run : Run) (core : Engine) → run.events ≡ [] → StandsIn model run (state_in core) → core.last_scan.kind ≡ None → ((group : ℕ) → blame_of core group ≡ None) → IsExplained model run (record { core = core; ended = []; current = None })
  explained_first run core none stands unscanned blameless =
      record { stands = stands; made = begun_with model run core (record { ended = []; current = None; ready = None }) none unscanned blameless (record { ended = refl; current = refl; ready = refl }) }

  module _ (run : Run) (event : Event) (old new : Engine) (given : Reply) (step : IsStep model (state_in old) event given (state_in new)) where
    -- with an event that passed
    pub explained_passed : (made : Made) → HasToldBlamesAfter model old event new → IsLastScanAfter model old event new → IsMadeFurther model old event (made_upto old.number made) (made_upto (old.number + 1) made) → IsExplained model run (explained_by old made) → IsExplained model (plus run event) (explained_by new made)
    explained_passed made blames last_scan further is =
        let after = step.reaches run is.stands in
        let before = made_same run old (made_in (explained_by old made)) (made_upto old.number made) refl refl is.made in
        record {
          stands = after;
          made =
              made_same (plus run event) new (made_upto (old.number + 1) made) (made_in (explained_by new made)) refl
              (ap (λ n. option_map (end_upto n) made.current) (number_up run event old new is.stands after)) (further run new is.stands before after blames last_scan);
        }

    -- with an event that was noted
    explained_noted : (made noted after : Made) → noted ≡ passed_upto old.number made → (IsMadeWith model run old noted → IsMadeWith model (plus run event) new after) → IsExplained model run (explained_by old made) → IsExplained model (plus run event) (explained_by new after)
    explained_noted made noted after noted_is further is =
        let stands = step.reaches run is.stands in
        let before = made_same run old (made_in (explained_by old made)) noted (ap (λ (m : Made). m.ended) noted_is) (ap (λ (m : Made). m.current) noted_is) is.made in
        let now = upto_now model (plus run event) new after stands (further before) in
        record { stands = stands; made = made_same (plus run event) new (made_upto new.number after) (made_in (explained_by new after)) refl refl now }

module _ (model : Rules) (event : Event) (old new : Engine) (made noted after : Made) (seen : Explained) (is_seen : explained_by old made ≡ seen) (noted_is : noted ≡ passed_upto old.number made) {E : Type 0} (result : Result Reply E) where
  -- an event that was taken and noted
  pub taken_explained : IfOk result (λ given. IsStep model (state_in old) event given (state_in new)) → OnOk result ((run : Run) → StandsIn model run (state_in old) → IsMadeWith model run old noted → IsMadeWith model (plus run event) new after)
      → OnOk result ((run : Run) → IsExplained model run seen → IsExplained model (plus run event) (explained_by new after))
  taken_explained =
      on_ok _ _ _
      (λ given step further. λ run is.
      let kept = subst (IsExplained model run) (sym is_seen) is in
      explained_noted model run event old new given step made noted after noted_is (further run kept.stands) kept)
      result

  -- or wasn't taken
  pub taken_unchanged : OnErr result (new ≡ old) → OnErr result (after.ended ≡ noted.ended) → OnErr result (after.current ≡ noted.current) → OnErr result (explained_by new after ≡ seen)
  taken_unchanged = on_err _ _ _ _ (λ same ended current. left old new made noted after same noted_is ended current ∙ is_seen) result
