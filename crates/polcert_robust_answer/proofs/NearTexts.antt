-- What a run says of the texts of three sources, from what its calls say of what these denote, on either side.
use Rattle.std.proofs.Common.{ℕ, List}
use Rattle.polcert_answer.specs.Run.{HoldsOfTexts}
use Rattle.polcert_answer.proofs.Denoted.{of_each}
use Rattle.polcert_answer.proofs.OfSources.{holds_of}
use Rattle.polcert_robust_answer.specs.Near.{HasNearHorizon, HasNearVerdict}
use Rattle.polcert_robust_answer.specs.Steps.Nearby.{IsNearAnswer, NearLaws}
use Rattle.polcert_robust_answer.proofs.Common.{AreDenoted, Meaning, NearSide, PolicyGraph, PolicyVectors, Within, controller_of}
use Rattle.polcert_robust_answer.proofs.Common.{models_near, table_of}

module _ {V : Type 0} {side : NearSide V} (laws : NearLaws side) (w : Within) {of_model of_graph of_vectors : List ℕ → Type 0}
    (m : Meaning) (g : PolicyGraph) (v : PolicyVectors) (d : AreDenoted side.rounding of_model of_graph of_vectors m g v) where
  -- this holds of the texts of the sources
  abbrev pub Hold : (List ℕ → List ℕ → List ℕ → Type 0) → Type 0
  Hold Holds = HoldsOfTexts side.rounding of_model of_graph of_vectors Holds

  pub has_verdict : (x : V) (line : List ℕ) → IsNearAnswer side w m g v x line → Hold (HasNearVerdict side w x line)
  has_verdict x line is = holds_of m g v d (HasNearVerdict side w x line)
      (record {
        certificate = record {
          meaning = m;
          policy = g;
          values = v;
          is_model = d.has_graph.is_model;
          is_graph =
              d.has_graph.is_graph;
          are_vectors = d.are_vectors;
        };
        verdict_is = is.verdict_is;
        line_is = is.line_is;
      })

  meets_each : (x : V) (line : List ℕ) → IsNearAnswer side w m g v x line → HasNearHorizon side w x d.first d.second d.third
  meets_each x line is =
      of_each m g v d.has_graph d.are_vectors (λ n h u. side.Meets (models_near w (table_of n)) (controller_of (table_of n) h u) x)
      (λ n same. laws.same w m n same g v x is.horizon_is)

  pub has_horizon : (x : V) (line : List ℕ) → IsNearAnswer side w m g v x line → Hold (HasNearHorizon side w x)
  has_horizon x line is = holds_of m g v d (HasNearHorizon side w x) (meets_each x line is)

  pub has_promise : (line : List ℕ) → IsNearAnswer side w m g v side.yes line → Hold (side.Promised w)
  has_promise line is = holds_of m g v d (side.Promised w) (laws.promised w d.first d.second d.third (meets_each side.yes line is))

  pub has_start_promise : (line : List ℕ) → IsNearAnswer side w m g v side.yes line → Hold (side.StartPromised w line)
  has_start_promise line is = holds_of m g v d (side.StartPromised w line)
      (laws.started w d.first d.second d.third (meets_each side.yes line is) m g v d.has_graph d.are_vectors line is.line_is)
