use Rattle.std.proofs.Common.{List, ◌-◌, ◌≤◌}
use Rattle.polcert_model.proofs.Common.{Lexeme, text_limit, TakenFrom, IsTextRead}
use Rattle.polcert_model.proofs.reader.read_items_from.Given as goal

abbrev pub invariant-loop-token : goal.invariant-loop-token
invariant-loop-token g l = record {
  seen : (seen : List Lexeme) × TakenFrom g.S.Source.reads g.S.Source.failures text_limit l.fn.source seen l.tokens l.source
      × IsTextRead seen l.reader;
  few : l.reader.number ≤ l.tokens.ahead.place;
}

abbrev pub decreases-loop-token : goal.decreases-loop-token
decreases-loop-token g l = text_limit - l.tokens.ahead.place
