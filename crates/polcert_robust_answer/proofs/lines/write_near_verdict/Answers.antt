use Rattle.std.proofs.Common.{rules}
use Rattle.polcert_text.proofs.Printing.Buffering.{left_after}
use Rattle.polcert_answer.proofs.Buffered.{stopped_through, flushed_through}
use Rattle.polcert_robust_answer.specs.Lines.{line_text}
use Rattle.polcert_robust_answer.proofs.lines.write_near_verdict.Goals as goal

pub returns-in_err-write_line : goal.returns-in_err-write_line
returns-in_err-write_line g c =
    let stopped = stopped_through g.W.Sink.writes g.W.Sink.failures (λ s. s.sink.now) (λ s. s.held) (λ s. s.sink.ghost_name)
    (line_text c.args.within.now c.args.line) c.new-buffered.ensures.held c.new-buffered.ensures.same_sink
    c.from_residual.result (search rules) c.in_err-write_line.ensures.err in
    let name = stopped.0 in
    left_after stopped.1 (search rules)

pub returns : goal.returns
returns g c =
    let flushed = flushed_through g.W.Sink.writes g.W.Sink.failures (λ s. s.sink.now) (λ s. s.held) (λ s. s.sink.ghost_name)
    (line_text c.args.within.now c.args.line) c.new-buffered.ensures.held c.new-buffered.ensures.same_sink
    c.flush.result c.in_ok-write_line.ensures.ok c.flush.ensures.written in
    let name = flushed.0 in
    left_after flushed.1 (search rules)
