-- What a slot owns.
use Rattle.std.specs.Prelude.{Option, None, Some}
use base.Fml.{Fml, feq}
use denote.RawPtr.{Ptr, null_ptr}
use Rattle.std.specs.Box.Ownership.{box_owns}
use Rattle.std.specs.Global.{Global}
use Rattle.std.specs.contracts.impls.GlobalAllocator.TheImpl.{ghosts}
use Rattle.lp_c.specs.Held.{Held}
use Rattle.lp_c.specs.contracts.session.Session.{the_row}

-- the one handle of the C library's heap
abbrev pub heap : Global
heap = record { memory = record { seal = tt } }

-- the pointer is null with no engine, else it points to the engine, in a block of the heap that may be freed
abbrev pub slot_owns : Ptr → Option Held → Fml
slot_owns p None = feq Ptr p null_ptr
slot_owns p (Some x) = box_owns (ghosts.dealloc_token heap) the_row p x
