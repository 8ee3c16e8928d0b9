use Rattle.polcert_items.proofs.Common.{marked, picks}
use Rattle.polcert_items.proofs.StartShares.{shares_more}
use Rattle.polcert_items.proofs.start_reader.Chosen.start_weights.Goals as goal

pub loop-state-preserved : goal.loop-state-preserved
loop-state-preserved c = record {
  all = c.loop-state.invariant.all;
  shares = shares_more (picks c.args.self.now.choice (marked c.args.self.now.marks)) c.loop-state.state c.loop-state.weights _
      c.loop-state.total c.weight-weight.result
      c.in_ok-push.ensures.ok c.weight-weight.ensures c.loop-state.invariant.shares;
}
