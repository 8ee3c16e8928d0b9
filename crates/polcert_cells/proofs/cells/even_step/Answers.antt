use Rattle.std.proofs.Common.{rules}
use Rattle.polcert_cells.specs.Sparse.{excepted_weight}
use Rattle.polcert_cells.proofs.cells.even_step.Goals as goal

pub returns : goal.returns
returns c = λ up. c.first_weight.ensures (excepted_weight c.args.weight c.args.exceptions.now) (λ k weight l post. search rules)
