use Rattle.polcert_check.proofs.Common.{reward_at_end, factored_reward, AreKnown}
use Rattle.polcert_check.proofs.expected_reward.Earnings.share.Given as goal

abbrev pub invariant-loop-s : goal.invariant-loop-s
invariant-loop-s g l = record {
  rewards : AreKnown (factored_reward (g.C.Cells.table l.cells) l.a) (g.C.Cells.table l.cells).states l.self.rewards;
  at_ends : AreKnown (reward_at_end (g.C.Cells.table l.cells) l.a l.first) (g.C.Cells.table l.cells).states l.at_ends;
}
