use Rattle.std.specs.Prelude.{◌≡◌, length}
use Rattle.polcert_items.proofs.Common.{marked, picks}
use Rattle.polcert_items.proofs.StartShares.{AreSharesTo}
use Rattle.polcert_items.proofs.start_reader.Chosen.start_weights.Given as goal

abbrev pub invariant-loop-state : goal.invariant-loop-state
invariant-loop-state l = record {
  all : l.state-end ≡ length l.self.marks;
  shares : AreSharesTo (picks l.self.choice (marked l.self.marks)) l.state l.weights l.total;
}
