-- A text is at most one graph, and at most one list of vectors of a graph.
use Rattle.std.proofs.Common.{◌≡◌, ℕ, List, subst, arith}
use Rattle.polcert_text.proofs.TextLaws as cuts
use Rattle.polcert_policy.proofs.Common.{PolicyGraph, IsGraphText, PolicyVectors, IsRoundedVectors, IsRoundedVectorsText, Rounding}
use Rattle.polcert_policy.proofs.FlatGraphs as flat_graphs
use Rattle.polcert_policy.proofs.FlatVectors as flat_vectors
use Rattle.polcert_policy.proofs.GraphLaws as graphs
use Rattle.polcert_policy.proofs.VectorLaws as vectors

pub one_graph : (actions observations : ℕ) (text : List ℕ) (g h : PolicyGraph)
    → IsGraphText actions observations text g → IsGraphText actions observations text h → g ≡ h
one_graph actions observations text g h a b =
    grind (
      arith,
      cuts.one_cut,
      graphs.one_loose,
      flat_graphs.indexed actions observations text h b,
      flat_graphs.indexed actions
          observations text g a,
    )

module _ {way : Rounding} where
  pub one_vectors : (graph : PolicyGraph) (states : ℕ) (text : List ℕ) (v w : PolicyVectors)
      → IsRoundedVectorsText way graph states text v → IsRoundedVectorsText way graph states text w → v ≡ w
  one_vectors graph states text v w a b =
      let x = flat_vectors.indexed way graph states text v a in
      let y = flat_vectors.indexed way graph states text w b in
      vectors.one_list graph states y.0 v w (subst (λ ts. IsRoundedVectors way graph states ts v) ((cuts.one_cut _ x.0 y.0 _ _ x.1 y.1).0)
      x.2) y.2
