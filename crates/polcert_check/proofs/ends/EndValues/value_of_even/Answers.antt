use Rattle.std.proofs.Common.{◌≡◌}
use Rattle.polcert_check.proofs.Common.{Controller}
use Rattle.polcert_check.specs.Steps.Products.{IsEvenSum}
use Rattle.std.proofs.Common.{rules, ◌∙◌, to_z, of_z}
use Rattle.std.proofs.lemmas.Int.{to_z-of_z}
use Rattle.polcert_check.proofs.Common.{w128, node_controller}
use Rattle.polcert_check.proofs.Walking.EvenRows.{even_sum, even_value}
use Rattle.polcert_check.proofs.ends.EndValues.value_of_even.Goals as goal

pub sum_of_even-requires : goal.sum_of_even-requires
sum_of_even-requires g c =
    let k : Controller = node_controller c.args.node.now in
    let total : to_z w128 (of_z w128 c.args.self.now.total) ≡ c.args.self.now.total =
    to_z-of_z w128 c.args.self.now.total (search rules) in (
      k.cells.t (k.action c.args.node.now.n) c.args.s,
      k.cells.states,
      rw total (even_sum k c.args.node.now.input.proper (g.met.C.Cells.is_within_limits c.args.node.now.input.cells.now) c.args.node.now.n
          c.args.s c.args.node.now.within c.requires.start _ _ c.requires.row _ (search rules) c.requires.ends c.requires.narrow),
    )

pub returns : goal.returns
returns g c =
    let k : Controller = node_controller c.args.node.now in
    let total : to_z w128 (of_z w128 c.args.self.now.total) ≡ c.args.self.now.total = to_z-of_z w128 c.args.self.now.total (search rules) in
    let is : IsEvenSum (k.cells.t (k.action c.args.node.now.n) c.args.s) k.cells.states c.args.weight c.args.exceptions.now
    c.args.self.now.narrow (to_z w128 (of_z w128 c.args.self.now.total)) =
    rw total (even_sum k c.args.node.now.input.proper (g.met.C.Cells.is_within_limits c.args.node.now.input.cells.now) c.args.node.now.n
    c.args.s c.args.node.now.within c.requires.start _ _ c.requires.row _ (search rules) c.requires.ends c.requires.narrow) in
    even_value k c.args.node.now.n c.args.s c.requires.start c.args.self.now c.requires.ends c.requires.narrow
    (to_z w128 (of_z w128 c.sum_of_even.result)) (to_z-of_z w128 c.sum_of_even.result (search rules) ∙ c.sum_of_even.ensures _ _ is)
