use Rattle.std.proofs.Common.{◌≡◌, ◌-◌, ◌≤◌, None, length}
use Rattle.polcert_items.proofs.Common.{IsListFed, StepsAhead}
use Rattle.polcert_items.proofs.entry_reader.Numbers.feed_ahead.Given as goal

abbrev pub invariant-loop-self : goal.invariant-loop-self
invariant-loop-self g l = record {
  sign : l.self.sign ≡ None;
  high : l.at ≤ length l.bytes;
  fed : StepsAhead (IsListFed g.T.ListNumber.kind) l.fn.self l.bytes l.at l.self;
}

abbrev pub decreases-loop-self : goal.decreases-loop-self
decreases-loop-self g l = l.self.needed - length l.self.read
