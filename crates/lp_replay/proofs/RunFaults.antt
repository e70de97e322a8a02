-- Faults of a run.
use Rattle.std.proofs.Common.{◌≡◌, ◌≢◌, ◌∙◌, Result, Ok, Err, refl, sym, subst}
use Rattle.std.specs.Prelude.{IfErr, IsErrAnd}
use Rattle.lp_text.specs.Counts.{Counts}
use Rattle.lp_text.specs.declared.fault.TraceFault.{TraceFault}
use Rattle.lp_text.specs.declared.stream_fault.StreamFault.{StreamFault}
use Rattle.lp_text.specs.declared.stream_fault.StreamFault.TheVariants as stream
use Rattle.lp_text.specs.Input.{AtText}
use Rattle.lp_text.specs.StreamContract.{ReadFailed, ReadsToEnd, WriteFailed, ended, stream_end}
use Rattle.lp_text.proofs.StreamContract.{ended_unlike, other≢read_failed, other≢write_failed, reads_by, stream_unwritten}
use Rattle.lp_replay.specs.declared.run_fault.RunFault.{RunFault}
use Rattle.lp_replay.specs.declared.run_fault.RunFault.TheVariants as run
use Rattle.lp_replay.specs.Runs.{AtTrace, of_stream, run_end}

-- ---- Faults in reading

module _ (P : TraceFault → Type 0) where
  stream_fault : (fault : StreamFault) → AtText fault P → AtTrace (of_stream fault) P
  stream_fault (stream.Read error) h = tt
  stream_fault (stream.Trace fault) h = h
  stream_fault stream.NoMemory h = tt

  -- the same, as it is returned
  pub stream_fault_of : {X : Type 0} (fault : StreamFault) (r : Result X RunFault) → AtText fault P → IsErrAnd r (λ e. e ≡ of_stream fault) → IfErr r (λ e. AtTrace e P)
  stream_fault_of fault (Ok x) h is = tt
  stream_fault_of fault (Err e) h is = subst (λ x. AtTrace x P) (sym is) (stream_fault fault h)

-- the run ended as its reading did
stream_ends : (fault : StreamFault) → run_end (of_stream fault) ≡ stream_end fault
stream_ends (stream.Read error) = refl
stream_ends (stream.Trace fault) = refl
stream_ends stream.NoMemory = refl

module _ {X : Type 0} (fault : StreamFault) (r : Result X RunFault) (is : IsErrAnd r (λ e. e ≡ of_stream fault)) where
  pub reads_as : {S : Type 0} (a b : Counts S) → ReadsToEnd (stream_end fault) a b → ReadsToEnd (ended run_end r) a b
  reads_as a b h = reads_by run_end (of_stream fault) r is a b (subst (λ ending. ReadsToEnd ending a b) (sym (stream_ends fault)) h)

  -- no fault in reading is one of the writer
  pub unwritten : ended run_end r ≢ WriteFailed
  unwritten = ended_unlike run_end (of_stream fault) r is WriteFailed (λ e. stream_unwritten fault (sym (stream_ends fault) ∙ e))

-- ---- Faults after the reading

-- no allocation that failed is a fault of a stream
module _ {X : Type 0} (r : Result X RunFault) (is : IsErrAnd r (λ e. e ≡ run.NoMemory)) where
  pub memory_unread : ended run_end r ≢ ReadFailed
  memory_unread = ended_unlike run_end run.NoMemory r is ReadFailed other≢read_failed

  pub memory_unwritten : ended run_end r ≢ WriteFailed
  memory_unwritten = ended_unlike run_end run.NoMemory r is WriteFailed other≢write_failed

pub no_text : (fault : RunFault) (P : TraceFault → Type 0) → AtTrace fault (λ why. ⊥) → AtTrace fault P
no_text (run.Write fault) P h = tt
no_text (run.Read error) P h = tt
no_text (run.Trace fault) P h = absurd h
no_text run.NoMemory P h = tt
