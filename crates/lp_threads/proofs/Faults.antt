-- Faults after those of the reader.
use Rattle.std.proofs.Common.{◌≡◌, ◌≢◌, ◌∙◌, refl, sym, ap}
use Rattle.lp_text.specs.StreamContract.{ReadFailed, WriteFailed, OtherFault}
use Rattle.lp_text.proofs.StreamContract.{other≢read_failed, other≢write_failed}
use Rattle.lp_replay.specs.Runs.{run_end}
use Rattle.lp_threads.specs.Faults.{AtDesk, IsOfPlay, threads_end}
use Rattle.lp_threads.specs.declared.fault.ThreadsFault.{ThreadsFault}
use Rattle.lp_threads.specs.declared.fault.ThreadsFault.TheVariants as threads

-- a fault of a play is none of a stream
play_ends : (fault : ThreadsFault) → IsOfPlay fault → threads_end fault ≡ OtherFault
play_ends (threads.Run why) is = ap run_end is
play_ends threads.NoReader is = refl
play_ends threads.NoThread is = refl

pub play_unread : (fault : ThreadsFault) → IsOfPlay fault → threads_end fault ≢ ReadFailed
play_unread fault is e = other≢read_failed (sym (play_ends fault is) ∙ e)

pub play_unwritten : (fault : ThreadsFault) → IsOfPlay fault → threads_end fault ≢ WriteFailed
play_unwritten fault is e = other≢write_failed (sym (play_ends fault is) ∙ e)

-- what is so at the desk's own faults
pub at_desk : (fault : ThreadsFault) (P Q : Type 0) → (P → Q) → AtDesk fault P → AtDesk fault Q
at_desk (threads.Run why) P Q f h = tt
at_desk threads.NoReader P Q f h = f h
at_desk threads.NoThread P Q f h = f h
