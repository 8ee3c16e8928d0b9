use Rattle.std.proofs.Common.{w64, rules, arith}
use Rattle.std.proofs.lemmas.Int.{to_z-of_z}
use mir.Syntax.{w128}
use Rattle.polcert_cells.specs.Tables.{table_of}
use Rattle.polcert_model.specs.Contents.{meaning}
use Rattle.polcert_robust.specs.Start.{IsStartWorthNear}
use Rattle.polcert_robust.proofs.StartMeans.{worth_promised}
use Rattle.polcert_robust.proofs.start.start_worth_near.Goals as goal

pub returns : goal.returns
returns c =
    let m = meaning c.args.model.now in
    let best = c.best_node_near-node.result in
    let floor = rw (to_z-of_z w128 best.1 (search rules), c.scaled_start_total.ensures.is) at c.mean_rounded_down.ensures.floor in
    let worth : IsStartWorthNear m _ _ _ c.mean_rounded_down.result = grind arith in
    rw (to_z-of_z w64 c.mean_rounded_down.result (search rules)) (record {
      worth = worth;
      promise = λ parts t states meets shares total near k. worth_promised m _ (table_of m) c.args.graph.now _
          c.requires.fits.nodes_same parts t states _ total near meets _ _ worth k;
    })
