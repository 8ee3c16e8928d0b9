use Rattle.std.proofs.Common.{List, ◌-◌}
use Rattle.polcert_policy.proofs.Common.{Lexeme, text_limit, TakenFrom}
use Rattle.polcert_policy.specs.PointTokens.{nothing_read, TakesAll}
use Rattle.polcert_policy.specs.Steps.PointsRead.{so_far, HasShape}
use Rattle.polcert_policy.proofs.point_reader.read_points_from.Given as goal

abbrev pub invariant-loop-token : goal.invariant-loop-token
invariant-loop-token g l = record {
  seen : (seen : List Lexeme) × TakenFrom g.S.Source.reads g.S.Source.failures text_limit l.fn.source seen l.tokens l.source
      × TakesAll l.fn.states l.fn.actions l.fn.observations nothing_read seen (so_far l.reading);
  shape : HasShape l.fn.states l.fn.actions l.fn.observations l.reading;
}

abbrev pub decreases-loop-token : goal.decreases-loop-token
decreases-loop-token g l = text_limit - l.tokens.ahead.place
