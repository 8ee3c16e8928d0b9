use Rattle.std.proofs.Common.{◌≡◌, true}
use Rattle.polcert_check.proofs.Common.{node_controller, AreEndValues}
use Rattle.polcert_check.proofs.ends.EndValues.fill_narrow.Given as goal

abbrev pub invariant-loop-e : goal.invariant-loop-e
invariant-loop-e g l = record {
  values : AreEndValues (node_controller l.node) l.node.n l.e l.self;
  form : l.self.are_narrow ≡ true;
}
