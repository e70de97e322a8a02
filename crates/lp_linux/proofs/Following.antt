-- The kernel's procedure, run on the engine.
use Rattle.std.proofs.Common.{◌≡◌, suc, Bool, false, not, ◌&&◌, List, [], ◌∷◌, ◌++◌, IsTrue, if◌then◌else◌, nat_eq, refl, sym, ap, ap₂, ◌∙◌, subst, arith}
use Rattle.std.proofs.lemmas.Bool.{ne_eqb}
use Rattle.std.proofs.lemmas.List.Elements.{All-nil, All-push}
use Rattle.lp_definitions.specs.declared.event.Event.{Event}
use Rattle.lp_definitions.specs.declared.event.Event.TheVariants.{Walk}
use Rattle.lp_definitions.specs.declared.reply.Reply.{Reply}
use Rattle.lp_definitions.specs.Leg.{State}
use Rattle.lp_definitions.specs.Sound.{RunsOneVersion}
use Rattle.lp_definitions.specs.Run.{Run, plus, leg_of}
use Rattle.lp_machine.specs.Machine.{complete_in, next, state_of}
use Rattle.lp_machine.specs.Steps.{StandsIn, IsStep}
use Rattle.lp_machine_laws.proofs.Runs.{steps_as_defined}
use Rattle.lp_linux.specs.declared.follow.TargetState.{TargetState}
use Rattle.lp_linux.specs.declared.follow.TargetState.TheVariants.{Undefined, Patched, Unpatched}
use Rattle.lp_linux.specs.Transition.{Release, Linux_6_12, Linux}
use Rattle.lp_linux.specs.Events.{run as run_of, has, AreOf, boot}
use Rattle.lp_linux.specs.Reading.{awaits_walk, heard_late, heard_as, heard as heard_of}
use Rattle.lp_linux.specs.Followed.{klp_of, linux_of, IsKernel, StartsSettled, is_moving, patch_state_of, is_walk, target_state_after}
use Rattle.lp_linux.proofs.Newer.{step, run, heard}
use Rattle.lp_linux.proofs.Own.{h}
use Rattle.lp_linux.proofs.Phases.{Keeps, awaits_is}
use Rattle.lp_linux.proofs.AnyEvent.{does}
use Rattle.lp_linux.proofs.Laws.{lawful, at, one_version, follows_run, starts_settled}
use Rattle.lp_linux.proofs.Releases.{all_of, run_same, heard_same}

-- ---- One event more

heard-plus : (events : List Event) (m : Linux) (event : Event) → heard m (events ++ event ∷ []) ≡ heard m events ++ heard_as (run m events) event ∷ []
unfolding heard_of run_of
heard-plus [] m event = refl
heard-plus (first ∷ events) m event = ap (λ list. heard_as m first ∷ list) (heard-plus events (step m first) event)

run-plus : (events : List Event) (m : Linux) (event : Event) → run m (events ++ event ∷ []) ≡ step (run m events) event
unfolding run_of
run-plus [] m event = refl
run-plus (first ∷ events) m event = run-plus events (step m first) event

-- ---- The word

patch_state_is : (target_state : TargetState) (s : State) → (klp_of target_state s).klp_target_state ≡ patch_state_of target_state
patch_state_is Undefined s = refl
patch_state_is Patched s = refl
patch_state_is Unpatched s = refl

target_state_of : (a b : TargetState) → patch_state_of a ≡ patch_state_of b → a ≡ b
target_state_of Undefined Undefined e = refl
target_state_of Undefined Patched e = absurd (cc)
target_state_of Undefined Unpatched e = absurd (cc)
target_state_of Patched Undefined e = absurd (cc)
target_state_of Patched Patched e = refl
target_state_of Patched Unpatched e = absurd (cc)
target_state_of Unpatched Undefined e = absurd (cc)
target_state_of Unpatched Patched e = absurd (cc)
target_state_of Unpatched Unpatched e = refl

moving_is : (target_state : TargetState) (s : State) → not (nat_eq (klp_of target_state s).klp_transition_patch 0) ≡ is_moving target_state
moving_is Undefined s = refl
moving_is Patched s = ap not (ne_eqb (suc s.from) 0 (λ same. omega (arith, same)))
moving_is Unpatched s = ap not (ne_eqb (suc s.target) 0 (λ same. omega (arith, same)))

pub walk_not : (event : Event) → (event ≡ Walk → ⊥) → is_walk event ≡ false
walk_not Walk other = absurd (other refl)
walk_not event other = refl

-- ---- A step of the engine is one of the kernel

newer_steps : (r : Run) (target_state target_state' : TargetState) (s s' : State) (event told : Event) (reply : Reply) (walk : Bool) → told ≡ (if is_moving target_state && complete_in s then heard_late (patch_state_of target_state) event else event) → IsStep h s told reply s' → walk ≡ is_walk event → target_state' ≡ target_state_after target_state walk s.target s'.target (complete_in s') → IsKernel Linux_6_12 r target_state s → IsKernel Linux_6_12 (plus r event) target_state' s'
newer_steps r target_state target_state' s s' event told reply walk heard_so stepped walk_is goes is =
    let ok = is.stands.in_range in
    let start = boot r.bounds r.patches r.boots in
    let list = heard start r.events in
    let heard_run : Run = record r { events = list } in
    let follows = follows_run r ok in
    let s_is : s ≡ at r ok list = is.stands.there in
    let both : linux_of target_state s ≡ linux_of follows.phase (at r ok list) = sym is.kernel ∙ follows.is in
    let same_way : follows.phase ≡ target_state = sym (target_state_of target_state follows.phase (sym (patch_state_is target_state s) ∙ (ap (λ (m : Linux). m.klp.klp_target_state) both ∙ patch_state_is follows.phase (at r ok list)))) in
    let keeps : Keeps target_state s = subst (λ w. Keeps w s) same_way (subst (Keeps follows.phase) (sym s_is) follows.keeps) in
    let one_there : RunsOneVersion s = subst RunsOneVersion (sym s_is) (one_version r ok list) in
    let one = does target_state s keeps one_there event in
    let over : awaits_walk (linux_of target_state s) ≡ (is_moving target_state && complete_in s) = awaits_is target_state s ∙ ap (λ b. b && complete_in s) (moving_is target_state s) in
    let told_is : told ≡ heard_as (linux_of target_state s) event = heard_so ∙ (ap (λ b. if b then heard_late (patch_state_of target_state) event else event) (sym over) ∙ ap (λ state. if awaits_walk (linux_of target_state s) then heard_late state event else event) (sym (patch_state_is target_state s))) in
    let reached = stepped.reaches heard_run is.stands in
    let machine = ((steps_as_defined h lawful).steps s told).reaches heard_run is.stands in
    let there : next h s (heard_as (linux_of target_state s) event) ≡ s' = ap (next h s) (sym told_is) ∙ (machine.there ∙ sym reached.there) in
    let same_after : one.after ≡ target_state' = one.after_is ∙ (ap (λ (st : State). target_state_after target_state (is_walk event) s.target st.target (complete_in st)) there ∙ (ap (λ b. target_state_after target_state b s.target s'.target (complete_in s')) (sym walk_is) ∙ sym goes)) in
    let lists : list ++ told ∷ [] ≡ heard start (r.events ++ event ∷ []) = ap (λ e. list ++ e ∷ []) (told_is ∙ ap (λ m. heard_as m event) (sym is.kernel)) ∙ sym (heard-plus r.events start event) in
    record {
      events = All-push (λ e. IsTrue (has Linux_6_12 e)) r.events event is.events refl;
      stands = subst (λ events. StandsIn h (record r { events = events }) s') lists reached;
      kernel = run-plus r.events start event ∙ (ap (λ m. step m event) is.kernel ∙ (one.there ∙ ap₂ linux_of same_after there));
    }

-- so it is of either release
to_newer : (release : Release) (r : Run) (target_state : TargetState) (s : State) → IsKernel release r target_state s → IsKernel Linux_6_12 r target_state s
to_newer release r target_state s is =
    record {
      events = all_of release r.events is.events;
      stands = subst (λ events. StandsIn h (record r { events = events }) s) (heard_same release r.events (boot r.bounds r.patches r.boots) is.events) is.stands;
      kernel = sym (run_same release r.events (boot r.bounds r.patches r.boots) is.events) ∙ is.kernel;
    }

from_newer : (release : Release) (r : Run) (target_state : TargetState) (s : State) → AreOf release r.events → IsKernel Linux_6_12 r target_state s → IsKernel release r target_state s
from_newer release r target_state s of is =
    record {
      events = of;
      stands = subst (λ events. StandsIn h (record r { events = events }) s) (sym (heard_same release r.events (boot r.bounds r.patches r.boots) of)) is.stands;
      kernel = run_same release r.events (boot r.bounds r.patches r.boots) of ∙ is.kernel;
    }

pub kernel_steps : (release : Release) (r : Run) (target_state target_state' : TargetState) (s s' : State) (event told : Event) (reply : Reply) (walk : Bool) → told ≡ (if is_moving target_state && complete_in s then heard_late (patch_state_of target_state) event else event) → IsStep h s told reply s' → walk ≡ is_walk event → target_state' ≡ target_state_after target_state walk s.target s'.target (complete_in s') → IsTrue (has release event) → IsKernel release r target_state s → IsKernel release (plus r event) target_state' s'
kernel_steps release r target_state target_state' s s' event told reply walk heard_so stepped walk_is goes of is =
    from_newer release (plus r event) target_state' s' (All-push (λ e. IsTrue (has release e)) r.events event is.events of)
    (newer_steps r target_state target_state' s s' event told reply walk heard_so stepped walk_is goes (to_newer release r target_state s is))

-- ---- Before the first event

pub kernel_starts : StartsSettled
unfolding heard_of run_of
kernel_starts =
    record {
      starts = λ release r s none_yet stands.
          let start = boot r.bounds r.patches r.boots in
          let nothing : heard_of release start r.events ≡ r.events = ap (heard_of release start) none_yet ∙ sym none_yet in
          let here : at r stands.in_range [] ≡ s = ap (λ events. state_of h (leg_of h (record r { events = events }))) (sym none_yet) ∙ sym stands.there in
          record {
            events = subst (AreOf release) (sym none_yet) (All-nil (λ event. IsTrue (has release event)));
            stands = subst (λ events. StandsIn h (record r { events = events }) s) (sym nothing) stands;
            kernel = ap (run_of release start) none_yet ∙ (starts_settled r stands.in_range ∙ ap (linux_of Undefined) here);
          };
    }
