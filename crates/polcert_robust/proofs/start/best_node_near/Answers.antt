use Rattle.std.proofs.Common.{◌∙◌, ◌≤ℤ◌, ◌<ℤ◌, to_z, of_z, rules, arith}
use Rattle.std.proofs.lemmas.Int.{to_z-of_z}
use mir.Syntax.{w128}
use Rattle.polcert_robust.specs.Steps.Starts.{vectors_in}
use Rattle.polcert_robust.proofs.StartMeans.{best_is_new, best_of_one, best_stays}
use Rattle.polcert_robust.proofs.start.best_node_near.Goals.{then-mean-greatest, else-mean-greatest}
use Rattle.polcert_robust.proofs.start.best_node_near.Goals as goal

pub loop-n-init : goal.loop-n-init
loop-n-init c =
    rw (to_z-of_z w128 c.mean_from_start-greatest.result (search rules)) (record {
      best = best_of_one _ _ _ c.mean_from_start-greatest.ensures.is;
      small = c.mean_from_start-greatest.ensures.small;
    })

pub loop-n-preserved : goal.loop-n-preserved
loop-n-preserved c =
    let v = vectors_in c.args.input.now in
    let same =
    to_z-of_z w128 _ (search rules) in
    elim c.if-mean-greatest.branch [
      | then-mean-greatest w ↦
          let more : to_z w128 c.loop-n.greatest-bits <ℤ to_z w128 (of_z w128 c.mean_from_start-mean.result) =
          let test = w.if-mean-greatest.true in
          grind arith in
          let mean = w.greatest-is ∙ same in
          rw (w.best-is, mean) (record {
            best = best_is_new _ v _ _ _ _ c.loop-n.invariant.best c.mean_from_start-mean.ensures.is (rw same at more);
            small = c.mean_from_start-mean.ensures.small;
          })
      | else-mean-greatest w ↦
          let no_more : to_z w128 (of_z w128 c.mean_from_start-mean.result) ≤ℤ to_z w128 c.loop-n.greatest-bits =
          let test = w.if-mean-greatest.false in
          grind arith in
          rw (w.best-is, w.greatest-is) (record {
            best = best_stays _ v _ _ _ _ c.loop-n.invariant.best c.mean_from_start-mean.ensures.is (rw same at no_more);
            small = c.loop-n.invariant.small;
          })
    ]
