use Rattle.std.proofs.Common.{refl}
use Rattle.polcert_text.proofs.Printing.Buffering.{holds, holds_alone}
use Rattle.polcert_text.proofs.sink.BufferedSinkSink.write.Goals as goal
use Rattle.polcert_text.proofs.sink.BufferedSinkSink.write.Goals.{then-as_bytes-eq-BUFFER_SIZE+in_ok-flush, else-as_bytes-eq-BUFFER_SIZE}

pub returns-clause-call : goal.returns-clause-call
returns-clause-call g c = elim c.if-as_bytes-eq-BUFFER_SIZE.branch [
  | then-as_bytes-eq-BUFFER_SIZE+in_ok-flush w ↦ rw w.self-is (
    holds_alone _ _ _ _ w.in_ok-flush.ensures.written.ok w.in_ok-flush.ensures.written.same_count w.in_ok-flush.ensures.held
        (rw w.self-is at c.fill.ensures.filled),
    w.in_ok-flush.ensures.same_reference,
  )
  | else-as_bytes-eq-BUFFER_SIZE w ↦ rw w.self-is (holds _ _ _ (rw w.self-is at c.fill.ensures.filled), refl)
]
