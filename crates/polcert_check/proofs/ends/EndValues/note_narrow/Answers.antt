use Rattle.std.proofs.Common.{◌≡◌}
use Rattle.std.proofs.Common.{rules, arith, ◌<◌, length, to_z, of_z, w64}
use Rattle.std.proofs.lemmas.Int.{to_z-of_z}
use Rattle.polcert_check.proofs.Common.{w128, node_controller}
use Rattle.polcert_check.proofs.Walking.EvenRows.{complete_more, total_step}
use Rattle.polcert_check.proofs.ends.EndValues.note_narrow.Goals as goal

pub returns-clause-values : goal.returns-clause-values
returns-clause-values g c =
    let few = (g.met.C.Cells.is_within_limits c.args.node.now.input.cells.now).states.1 in
    let room : c.args.e < length c.args.self.now.narrow = grind (arith, c.requires.end, few, c.args.self.now.room_for_narrow) in
    let total : to_z w128 (of_z w128 c.args.self.now.total) ≡ c.args.self.now.total = to_z-of_z w128 c.args.self.now.total (search rules) in
    let step = total_step c.args.self.now.narrow c.args.e (to_z w64 (of_z w64 c.args.value)) c.wide.result
    (to_z w128 (of_z w128 c.args.self.now.total)) room (omega (arith, c.requires.end, few))
    (rw total (c.requires.before.total c.requires.narrow))
    (rw total (c.requires.before.small c.requires.narrow)) (search rules) c.wide.ensures.same c.wide.ensures.small in
    record {
      narrow = λ t. complete_more (node_controller c.args.node.now) c.args.node.now.n c.args.e c.args.self.now.narrow c.args.value
          (to_z w64 (of_z w64 c.args.value)) room (to_z-of_z w64 c.args.value (search rules)) (c.requires.before.narrow t) c.requires.value;
      total = λ t. step.0;
      small = λ t. step.1;
      complete = λ f. grind arith;
      none = λ f. grind arith;
    }
