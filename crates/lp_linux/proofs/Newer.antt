-- The procedure of 6.12, which has every event: the proofs are of it, and Releases.antt carries them over to 6.1.
use Rattle.std.proofs.Common.{List}
use Rattle.lp_definitions.specs.declared.event.Event.{Event}
use Rattle.lp_linux.specs.Transition.{Linux_6_12, Linux, klp_reverse_transition as reverse_of}
use Rattle.lp_linux.specs.Events.{happen as happen_of, step as step_of, run as run_of}
use Rattle.lp_linux.specs.Reading.{heard as heard_of, NoneLate as NoneLate_of}

abbrev pub klp_reverse_transition : Linux → Linux
klp_reverse_transition m = reverse_of Linux_6_12 m

abbrev pub happen : Event → Linux → Linux
happen event m = happen_of Linux_6_12 event m

abbrev pub step : Linux → Event → Linux
step m event = step_of Linux_6_12 m event

abbrev pub run : Linux → List Event → Linux
run m events = run_of Linux_6_12 m events

abbrev pub heard : Linux → List Event → List Event
heard m events = heard_of Linux_6_12 m events

abbrev pub NoneLate : Linux → List Event → Type 0
NoneLate m events = NoneLate_of Linux_6_12 m events
