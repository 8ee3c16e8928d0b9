use Rattle.std.proofs.Common.{rules, arith, ◌∙◌, ℕ, w64}
use Rattle.polcert_optimum.proofs.Common.{value_of}
use Rattle.std.proofs.lemmas.Int.{to_z-of_z}
use Rattle.polcert_check.proofs.Certificates.{value_is_within}
use Rattle.polcert_optimum.proofs.SeenSums.{one_value_more}
use Rattle.polcert_optimum.proofs.seen_start.greatest_at.Goals as goal

pub loop-n-preserved : goal.loop-n-preserved
loop-n-preserved c =
    let f = λ (i : ℕ). value_of c.args.vectors.now i c.args.s in
    let n : ℕ = c.loop-n.n in
    let both = one_value_more f n _ _ _
    _ (omega arith)
    c.loop-n.invariant.is c.loop-n.invariant.small
    (to_z-of_z w64 _ (search rules) ∙ c.at.ensures.value)
    (value_is_within _ c.nodes-nodes.ensures.proper n _ (omega arith) c.requires)
    (to_z-of_z w64 _ (search rules) ∙ c.max-greatest.ensures.value) in
    record { is = both.0; small = both.1 }
