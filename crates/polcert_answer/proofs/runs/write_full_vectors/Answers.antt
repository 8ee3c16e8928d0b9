use Rattle.std.proofs.Common.{rules}
use Rattle.polcert_text.proofs.Printing.Buffering.{left_after}
use Rattle.polcert_answer.proofs.Common.{vectors_text}
use Rattle.polcert_answer.proofs.Buffered.{stopped_through, flushed_through}
use Rattle.polcert_answer.proofs.runs.write_full_vectors.Goals as goal

pub returns-in_err-write_vectors-clause-written : goal.returns-in_err-write_vectors-clause-written
returns-in_err-write_vectors-clause-written g c =
    let stopped = stopped_through g.W.Sink.writes g.W.Sink.failures (λ s. s.sink.now) (λ s. s.held) (λ s. s.sink.ghost_name)
    (vectors_text c.args.graph.now c.args.vectors.now) c.new-buffered.ensures.held c.new-buffered.ensures.same_sink
    c.from_residual.result (search rules) c.in_err-write_vectors.ensures.written.err in
    let name = stopped.0 in
    left_after stopped.1 (search rules)

pub returns-clause-written : goal.returns-clause-written
returns-clause-written g c =
    let flushed = flushed_through g.W.Sink.writes g.W.Sink.failures (λ s. s.sink.now) (λ s. s.held) (λ s. s.sink.ghost_name)
    (vectors_text c.args.graph.now c.args.vectors.now) c.new-buffered.ensures.held c.new-buffered.ensures.same_sink
    c.flush.result c.in_ok-write_vectors.ensures.written.ok c.flush.ensures.written in
    let name = flushed.0 in
    left_after flushed.1 (search rules)

pub returns-in_err-write_vectors-clause-reads_back : goal.returns-in_err-write_vectors-clause-reads_back
returns-in_err-write_vectors-clause-reads_back g c = c.in_err-write_vectors.ensures.either_way

pub returns-clause-reads_back : goal.returns-clause-reads_back
returns-clause-reads_back g c = c.in_ok-write_vectors.ensures.either_way
