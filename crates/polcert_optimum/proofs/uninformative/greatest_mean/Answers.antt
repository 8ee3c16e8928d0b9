use Rattle.std.proofs.Common.{rules, arith, ◌∙◌, ℕ}
use Rattle.polcert_optimum.proofs.Common.{w128, value_of}
use Rattle.std.proofs.lemmas.Int.{to_z-of_z}
use Rattle.polcert_optimum.specs.Steps.Sums.{mean_value}
use Rattle.polcert_optimum.proofs.SeenSums.{one_value_more}
use Rattle.polcert_optimum.proofs.uninformative.greatest_mean.Goals as goal

pub loop-next-preserved : goal.loop-next-preserved
loop-next-preserved g c =
    let t = g.C.Cells.table _ in
    let pair = c.args.pair.now in
    let f = λ (b : ℕ). mean_value t (value_of pair.vectors.now b) pair.action pair.state in
    let n : ℕ = c.loop-next.next in
    let both = one_value_more f n _ _ _
    _ (omega arith)
    c.loop-next.invariant.is c.loop-next.invariant.small
    (to_z-of_z w128 _ (search rules) ∙ c.mean_value.ensures.is)
    (rw (← c.mean_value.ensures.is) c.mean_value.ensures.small)
    (to_z-of_z w128 _ (search rules) ∙ c.max-greatest.ensures.value) in
    record { is = both.0; small = both.1 }
