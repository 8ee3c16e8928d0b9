use Rattle.std.proofs.Common.{length, ◌+◌, ◌-◌, ◌≡◌, ◌≤◌}
use Rattle.polcert_text.proofs.Common.{Gives}
use Rattle.polcert_text.proofs.source.read_all.Given as goal

abbrev pub invariant-loop-piece : goal.invariant-loop-piece
invariant-loop-piece g l = record {
  in_range : length l.bytes.items ≤ l.fn.limit + 1;
  gave : Gives g.S.Source.reads l.fn.source l.bytes.items l.source;
  same_count : g.S.Source.failures l.source ≡ g.S.Source.failures l.fn.source;
}

abbrev pub decreases-loop-piece : goal.decreases-loop-piece
decreases-loop-piece g l = l.fn.limit + 1 - length l.bytes.items
