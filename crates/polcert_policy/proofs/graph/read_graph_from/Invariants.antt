use Rattle.std.proofs.Common.{List, ◌-◌}
use Rattle.polcert_policy.proofs.Common.{Lexeme, text_limit, TakenFrom, IsRead, HasCounts}
use Rattle.polcert_policy.proofs.graph.read_graph_from.Given as goal

abbrev pub invariant-loop-token : goal.invariant-loop-token
invariant-loop-token g l = record {
  seen : (seen : List Lexeme) × TakenFrom g.S.Source.reads g.S.Source.failures text_limit l.fn.source seen l.tokens l.source
      × IsRead seen l.reading;
  counts : HasCounts l.fn.actions l.fn.observations l.reading;
}

abbrev pub decreases-loop-token : goal.decreases-loop-token
decreases-loop-token g l = text_limit - l.tokens.ahead.place
