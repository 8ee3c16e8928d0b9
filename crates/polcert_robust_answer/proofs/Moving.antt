-- What the runs that move vectors say of the texts of three sources, from what their calls say of what these denote.
use Rattle.std.proofs.Common.{◌∙◌, ℕ, ℤ, List, ap, arith}
use Rattle.polcert_policy.specs.FullForm.{vectors_text}
use Rattle.polcert_policy.specs.VectorText.{IsRoundedVectorsText}
use Rattle.polcert_answer.specs.Headline.{RoundedCertificate, controller}
use Rattle.polcert_answer.specs.Run.{HoldsOfTexts}
use Rattle.polcert_answer.proofs.Denoted.{certificate_of, of_each, text_of_each}
use Rattle.polcert_answer.proofs.OfSources.{holds_of}
use Rattle.polcert_robust_answer.specs.Moves.{HasMovedNear, IsNotMovableNear, NearMove}
use Rattle.polcert_robust_answer.specs.Steps.Moving.{AreMovedNear, AreWrittenNear, IsReasonNear, NearMoveLaws}
use Rattle.polcert_robust_answer.proofs.Common.{AreDenoted, Meaning, PolicyGraph, PolicyVectors, Within, controller_of, models_near}
use Rattle.polcert_robust_answer.proofs.Common.{table_of}

-- what is known of moved vectors and of their full form
pub are_written : {F : Type 0} (move : NearMove F) (w : Within) (m : Meaning) (g : PolicyGraph) (v : PolicyVectors) (by : ℤ)
    (u : PolicyVectors)
    → AreMovedNear move w m g v (by, u) → IsRoundedVectorsText move.rounding g u.states (vectors_text g u) u
    → AreWrittenNear move w m g v by (vectors_text g u)
are_written move w m g v by u moved reads_back = grind arith

module _ {F : Type 0} {move : NearMove F} (laws : NearMoveLaws move) (w : Within) {of_model of_graph of_vectors : List ℕ → Type 0}
    (m : Meaning) (g : PolicyGraph) (v : PolicyVectors) (d : AreDenoted move.rounding of_model of_graph of_vectors m g v) where
  -- this holds of the texts of the sources
  abbrev Hold : (List ℕ → List ℕ → List ℕ → Type 0) → Type 0
  Hold Holds = HoldsOfTexts move.rounding of_model of_graph of_vectors Holds

  least_each : (by : ℤ) → move.IsLeast (models_near w (table_of m)) (controller_of (table_of m) g v) v by
      → (c : RoundedCertificate move.rounding d.first d.second d.third)
      → move.IsLeast (models_near w (table_of c.meaning)) (controller c) c.values by
  least_each by least =
      of_each m g v d.has_graph d.are_vectors
      (λ n h u. move.IsLeast (models_near w (table_of n)) (controller_of (table_of n) h u) u by)
      (λ n same. laws.same_least w m n same g v by least)

  passes_each : (by : ℤ) (text : List ℕ) → AreWrittenNear move w m g v by text
      → (c : RoundedCertificate move.rounding d.first d.second text) → move.Pass (models_near w (table_of c.meaning)) (controller c)
  passes_each by text are =
      of_each m g are.other d.has_graph are.reads_back
      (λ n h u. move.Pass (models_near w (table_of n)) (controller_of (table_of n) h u))
      (λ n same. laws.same_pass w m n same g are.other are.moved.passes)

  pub has_moved : (by : ℤ) (text : List ℕ) → AreWrittenNear move w m g v by text → Hold (HasMovedNear move w by text)
  has_moved by text are = holds_of m g v d (HasMovedNear move w by text)
      (record {
        least = least_each by are.moved.least;
        is_text = λ c. (are.text_is ∙ ap (λ u. vectors_text g u) are.moved.shifted)
            ∙ text_of_each m g v d.has_graph d.are_vectors (move.added by) c;
        moved = certificate_of m g are.other d.has_graph are.reads_back;
        passes = passes_each by text are;
        promise = laws.promised w d.first d.second text (passes_each by text are);
      })

  pub not_movable : (f : F) → IsReasonNear move w m g v f → Hold (IsNotMovableNear move w f)
  not_movable f why = holds_of m g v d (IsNotMovableNear move w f)
      (record {
        certificate = record {
          meaning = m;
          policy = g;
          values = v;
          is_model = d.has_graph.is_model;
          is_graph =
              d.has_graph.is_graph;
          are_vectors = d.are_vectors;
        };
        reason = why;
      })
