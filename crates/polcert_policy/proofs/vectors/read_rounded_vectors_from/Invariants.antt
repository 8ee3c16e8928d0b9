use Rattle.std.proofs.Common.{◌≡◌, List, ◌-◌}
use Rattle.polcert_policy.proofs.Common.{Lexeme, text_limit, TakenFrom, HasReadVectors}
use Rattle.polcert_policy.proofs.vectors.read_rounded_vectors_from.Given as goal

abbrev pub invariant-loop-token : goal.invariant-loop-token
invariant-loop-token g l = record {
  seen : (seen : List Lexeme) × TakenFrom g.S.Source.reads g.S.Source.failures text_limit l.fn.source seen l.tokens l.source
      × HasReadVectors l.fn.rounding l.fn.graph seen l.reading;
  states : l.reading.states ≡ l.fn.states;
}

abbrev pub decreases-loop-token : goal.decreases-loop-token
decreases-loop-token g l = text_limit - l.tokens.ahead.place
