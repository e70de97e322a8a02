-- Control events, and any event: the kernel stays the function of where the engine stands.
use Rattle.std.proofs.Common.{[], ◌∷◌, ◌≡◌, suc, pred, Bool, true, false, not, ◌&&◌, length, Some, None, if◌then◌else◌, nat_eq, refl, sym, ap, ap₂, ◌∙◌, subst, arith}
use Rattle.std.proofs.lemmas.Bool.{ne_eqb, eqb-false}
use Rattle.lp_definitions.specs.declared.event.Event.{Event}
use Rattle.lp_definitions.specs.declared.event.Event.TheVariants.{Enable, Disable, Reverse}
use Rattle.lp_definitions.specs.declared.refusal.Refusal.TheVariants.{InTransition, NotInTransition, AlreadyThere}
use Rattle.lp_definitions.specs.Events.{is_control}
use Rattle.lp_definitions.specs.Tasks.{fits, first_of}
use Rattle.lp_definitions.specs.Leg.{State}
use Rattle.lp_definitions.specs.Sound.{RunsOneVersion}
use Rattle.lp_machine.specs.Machine.{complete_in, refusal_of}
use Rattle.lp_linux.specs.Transition.{KLP_UNDEFINED, KLP_UNPATCHED, KLP_PATCHED, Linux}
use Rattle.lp_linux.specs.Events.{refusal}
use Rattle.lp_linux.specs.Reading.{heard_late, heard_as}
use Rattle.lp_linux.proofs.Own.{h}
use Rattle.lp_linux.specs.declared.follow.TargetState.{TargetState as Phase}
use Rattle.lp_linux.specs.declared.follow.TargetState.TheVariants.{Undefined, Patched, Unpatched}
use Rattle.lp_linux.specs.Followed.{klp_of, linux_of}
use Rattle.lp_linux.proofs.Phases.{Keeps, awaits_is, settled_complete}
use Rattle.lp_linux.proofs.Controls.{enables, enable_keeps, disables, disable_keeps, turns_down, turn_down_keeps, turns_up, turn_up_keeps, disable_is_back, enable_is_back}
use Rattle.lp_linux.proofs.Steps.{Does, refused_does, control_does, rises, falls, up_not_settled, down_not_settled, busy_up, heard_plain, plain_does}

-- ---- Control events

module _ (s : State) (keeps : Keeps Undefined s) where
  abbrev settled : Linux
  settled = linux_of Undefined s

  settled_heard : (event : Event) → heard_as settled event ≡ event
  settled_heard event = ap (λ b. if b then heard_late KLP_UNDEFINED event else event) (awaits_is Undefined s)

  settled_enable : Does Undefined s Enable Enable
  unfolding refusal refusal_of
  settled_enable = by (nat_eq s.target (length s.patches)) refl
    where
      there_of : (b : Bool) → nat_eq s.target (length s.patches) ≡ b → refusal_of h s Enable ≡ first_of (fits b AlreadyThere ∷ [])
      there_of b e = ap₂ (λ c d. first_of (fits (not c) InTransition ∷ fits d AlreadyThere ∷ [])) (settled_complete s keeps) e

      here_of : (b : Bool) → nat_eq s.target (length s.patches) ≡ b → refusal settled Enable ≡ first_of (fits b AlreadyThere ∷ [])
      here_of b e = ap (λ d. first_of (fits d AlreadyThere ∷ [])) e

      by : (b : Bool) → nat_eq s.target (length s.patches) ≡ b → Does Undefined s Enable Enable
      by true e = refused_does Undefined s Enable Enable AlreadyThere AlreadyThere (λ same_event. refl) keeps (here_of true e) (there_of true e) refl
      by false e =
          let ne = eqb-false s.target (length s.patches) e in
          let le = keeps.target_in in
          control_does Undefined Patched s Enable Enable (here_of false e) (there_of false e) refl refl (rises Undefined s.target (suc s.target) (omega arith)) up_not_settled (enables s keeps) (enable_keeps s keeps le e (omega (arith, le, ne)))

  settled_disable : Does Undefined s Disable Disable
  unfolding refusal refusal_of
  settled_disable = by (nat_eq s.target 0) refl
    where
      there_of : (b : Bool) → nat_eq s.target 0 ≡ b → refusal_of h s Disable ≡ first_of (fits b AlreadyThere ∷ [])
      there_of b e = ap₂ (λ c d. first_of (fits (not c) InTransition ∷ fits d AlreadyThere ∷ [])) (settled_complete s keeps) e

      here_of : (b : Bool) → nat_eq s.target 0 ≡ b → refusal settled Disable ≡ first_of (fits b AlreadyThere ∷ [])
      here_of b e = ap (λ d. first_of (fits d AlreadyThere ∷ [])) e

      by : (b : Bool) → nat_eq s.target 0 ≡ b → Does Undefined s Disable Disable
      by true e = refused_does Undefined s Disable Disable AlreadyThere AlreadyThere (λ same_event. refl) keeps (here_of true e) (there_of true e) refl
      by false e =
          let ne = eqb-false s.target 0 e in
          let past : s.target ≡ suc (pred s.target) = omega (arith, ne) in
          control_does Undefined Unpatched s Disable Disable (here_of false e) (there_of false e) refl refl (falls Undefined s.target (pred s.target) (omega (arith, past))) down_not_settled (disables s keeps (pred s.target) past) (disable_keeps s keeps (pred s.target) past)

  settled_reverse : Does Undefined s Reverse Reverse
  unfolding refusal refusal_of
  settled_reverse = refused_does Undefined s Reverse Reverse NotInTransition NotInTransition (λ same_event. refl) keeps refl (ap (λ c. first_of (fits c NotInTransition ∷ [])) (settled_complete s keeps)) refl

-- while a transition is under way the kernel refuses any other, and turns it round
module _ (phase : Phase) (s : State) (busy : nat_eq (klp_of phase s).klp_transition_patch 0 ≡ false) where
  abbrev moved : Linux
  moved = linux_of phase s

  no_enable : refusal moved Enable ≡ Some InTransition
  unfolding refusal
  no_enable = ap (λ b. first_of (fits (not b) InTransition ∷ fits (nat_eq (klp_of phase s).in_place (length (klp_of phase s).patches)) AlreadyThere ∷ [])) busy

  no_disable : refusal moved Disable ≡ Some InTransition
  unfolding refusal
  no_disable = ap (λ b. first_of (fits (not b) InTransition ∷ fits (nat_eq (klp_of phase s).in_place 0) AlreadyThere ∷ [])) busy

  yes_reverse : refusal moved Reverse ≡ None
  unfolding refusal
  yes_reverse = ap (λ b. first_of (fits b NotInTransition ∷ [])) busy

  -- before the transition is complete, and after that
  open_enable : complete_in s ≡ false → refusal_of h s Enable ≡ Some InTransition
  unfolding refusal_of
  open_enable c = ap (λ b. first_of (fits (not b) InTransition ∷ fits (nat_eq s.target (length s.patches)) AlreadyThere ∷ [])) c

  open_disable : complete_in s ≡ false → refusal_of h s Disable ≡ Some InTransition
  unfolding refusal_of
  open_disable c = ap (λ b. first_of (fits (not b) InTransition ∷ fits (nat_eq s.target 0) AlreadyThere ∷ [])) c

  open_reverse : complete_in s ≡ false → refusal_of h s Reverse ≡ None
  unfolding refusal_of
  open_reverse c = ap (λ b. first_of (fits b NotInTransition ∷ [])) c

  late_reverse : complete_in s ≡ true → refusal_of h s Reverse ≡ Some NotInTransition
  unfolding refusal_of
  late_reverse c = ap (λ b. first_of (fits b NotInTransition ∷ [])) c

  late_enable : complete_in s ≡ true → nat_eq s.target (length s.patches) ≡ false → refusal_of h s Enable ≡ None
  unfolding refusal_of
  late_enable c top = ap₂ (λ b d. first_of (fits (not b) InTransition ∷ fits d AlreadyThere ∷ [])) c top

  late_disable : complete_in s ≡ true → nat_eq s.target 0 ≡ false → refusal_of h s Disable ≡ None
  unfolding refusal_of
  late_disable c low = ap₂ (λ b d. first_of (fits (not b) InTransition ∷ fits d AlreadyThere ∷ [])) c low

  heard_by : (b : Bool) → complete_in s ≡ b → (event : Event) → heard_as moved event ≡ (if b then heard_late (klp_of phase s).klp_target_state event else event)
  heard_by b c event =
      ap (λ d. if d then heard_late (klp_of phase s).klp_target_state event else event) (awaits_is phase s ∙ ap₂ (λ x y. not x && y) busy c)

  heard_does : (b : Bool) → complete_in s ≡ b → (event : Event) → Does phase s event (if b then heard_late (klp_of phase s).klp_target_state event else event) → Does phase s event (heard_as moved event)
  heard_does b c event done = subst (Does phase s event) (sym (heard_by b c event)) done

module _ (s : State) (keeps : Keeps Patched s) where
  up_open : complete_in s ≡ false → (event : Event) → is_control event ≡ true → Does Patched s event event
  up_open c Enable control = refused_does Patched s Enable Enable InTransition InTransition (λ same_event. refl) keeps (no_enable Patched s (busy_up s.from)) (open_enable Patched s (busy_up s.from) c) refl
  up_open c Disable control = refused_does Patched s Disable Disable InTransition InTransition (λ same_event. refl) keeps (no_disable Patched s (busy_up s.from)) (open_disable Patched s (busy_up s.from) c) refl
  up_open c Reverse control = control_does Patched Unpatched s Reverse Reverse (yes_reverse Patched s (busy_up s.from)) (open_reverse Patched s (busy_up s.from) c) refl refl (falls Patched s.target s.from (let turns = keeps.turns in omega (arith, turns))) down_not_settled (turns_down s keeps) (turn_down_keeps s keeps)
  up_open c _ control = absurd (cc)

  up_late : complete_in s ≡ true → (event : Event) → is_control event ≡ true → Does Patched s event (heard_late KLP_PATCHED event)
  up_late c Enable control = refused_does Patched s Enable Reverse InTransition NotInTransition (λ same_event. absurd (cc)) keeps (no_enable Patched s (busy_up s.from)) (late_reverse Patched s (busy_up s.from) c) refl
  up_late c Disable control = refused_does Patched s Disable Reverse InTransition NotInTransition (λ same_event. absurd (cc)) keeps (no_disable Patched s (busy_up s.from)) (late_reverse Patched s (busy_up s.from) c) refl
  up_late c Reverse control =
      let low : nat_eq s.target 0 ≡ false = ne_eqb s.target 0 (λ same. omega (arith, same, keeps.turns)) in
      let back = disable_is_back s keeps in
      control_does Patched Unpatched s Reverse Disable (yes_reverse Patched s (busy_up s.from)) (late_disable Patched s (busy_up s.from) c low) refl refl (falls Patched s.target (pred s.target) (let turns = keeps.turns in omega (arith, turns))) down_not_settled (turns_down s keeps ∙ ap (linux_of Unpatched) (sym back)) (subst (Keeps Unpatched) (sym back) (turn_down_keeps s keeps))
  up_late c _ control = absurd (cc)

module _ (s : State) (keeps : Keeps Unpatched s) where
  down_open : complete_in s ≡ false → (event : Event) → is_control event ≡ true → Does Unpatched s event event
  down_open c Enable control = refused_does Unpatched s Enable Enable InTransition InTransition (λ same_event. refl) keeps (no_enable Unpatched s (busy_up s.target)) (open_enable Unpatched s (busy_up s.target) c) refl
  down_open c Disable control = refused_does Unpatched s Disable Disable InTransition InTransition (λ same_event. refl) keeps (no_disable Unpatched s (busy_up s.target)) (open_disable Unpatched s (busy_up s.target) c) refl
  down_open c Reverse control = control_does Unpatched Patched s Reverse Reverse (yes_reverse Unpatched s (busy_up s.target)) (open_reverse Unpatched s (busy_up s.target) c) refl refl (rises Unpatched s.target s.from (let turns = keeps.turns in omega (arith, turns))) up_not_settled (turns_up s keeps) (turn_up_keeps s keeps)
  down_open c _ control = absurd (cc)

  down_late : complete_in s ≡ true → (event : Event) → is_control event ≡ true → Does Unpatched s event (heard_late KLP_UNPATCHED event)
  down_late c Enable control = refused_does Unpatched s Enable Reverse InTransition NotInTransition (λ same_event. absurd (cc)) keeps (no_enable Unpatched s (busy_up s.target)) (late_reverse Unpatched s (busy_up s.target) c) refl
  down_late c Disable control = refused_does Unpatched s Disable Reverse InTransition NotInTransition (λ same_event. absurd (cc)) keeps (no_disable Unpatched s (busy_up s.target)) (late_reverse Unpatched s (busy_up s.target) c) refl
  down_late c Reverse control =
      let top : nat_eq s.target (length s.patches) ≡ false = ne_eqb s.target (length s.patches) (λ same. omega (arith, same, keeps.turns, keeps.from_in)) in
      let back = enable_is_back s keeps in
      control_does Unpatched Patched s Reverse Enable (yes_reverse Unpatched s (busy_up s.target)) (late_enable Unpatched s (busy_up s.target) c top) refl refl (rises Unpatched s.target (suc s.target) (omega arith)) up_not_settled (turns_up s keeps ∙ ap (linux_of Patched) (sym back)) (subst (Keeps Patched) (sym back) (turn_up_keeps s keeps))
  down_late c _ control = absurd (cc)

-- ---- Any event

pub does : (phase : Phase) (s : State) → Keeps phase s → RunsOneVersion s → (event : Event) → Does phase s event (heard_as (linux_of phase s) event)
does phase s keeps one event = by (is_control event) refl
  where
    settled_control : Keeps Undefined s → (e : Event) → is_control e ≡ true → Does Undefined s e e
    settled_control keeps Enable control = settled_enable s keeps
    settled_control keeps Disable control = settled_disable s keeps
    settled_control keeps Reverse control = settled_reverse s keeps
    settled_control keeps _ control = absurd (cc)

    controls : (phase : Phase) → Keeps phase s → (b : Bool) → complete_in s ≡ b → (e : Event) → is_control e ≡ true → Does phase s e (heard_as (linux_of phase s) e)
    controls Undefined keeps b c e control = subst (Does Undefined s e) (sym (settled_heard s keeps e)) (settled_control keeps e control)
    controls Patched keeps false c e control = heard_does Patched s (busy_up s.from) false c e (up_open s keeps c e control)
    controls Patched keeps true c e control = heard_does Patched s (busy_up s.from) true c e (up_late s keeps c e control)
    controls Unpatched keeps false c e control = heard_does Unpatched s (busy_up s.target) false c e (down_open s keeps c e control)
    controls Unpatched keeps true c e control = heard_does Unpatched s (busy_up s.target) true c e (down_late s keeps c e control)

    by : (b : Bool) → is_control event ≡ b → Does phase s event (heard_as (linux_of phase s) event)
    by true control = controls phase keeps (complete_in s) refl event control
    by false plain = subst (Does phase s event) (sym (heard_plain (linux_of phase s) event plain)) (plain_does s one phase keeps event plain)
