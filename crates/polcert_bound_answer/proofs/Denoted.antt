-- What two texts denote: one model and one list of vectors, whatever stands for them.
use Rattle.std.proofs.Common.{◌≡◌, ℕ, ◌<◌, ℤ, List, Ok, sym, subst, arith}
use Rattle.polcert_bound_answer.proofs.Common.{Meaning, IsSame, states_of, actions_of, IsProper, table_of, IsModelText, VectorFault}
use Rattle.polcert_bound_answer.proofs.Common.{PolicyVectors, value_of, action_graph, IsActionVectorsText, IsNoActionVectorsText}
use Rattle.polcert_bound_answer.proofs.Common.{IsBoundStartMost, InformedVerdict, Yes, Exceeded, FitActions, IsInformedVerdict}
use Rattle.polcert_bound_answer.proofs.Common.{BoundCertificate, AreActionVectorsRefused, IsBoundAnswer}
use Rattle.polcert_cells.specs.Meaning.{HasLimitedNumbers}
use Rattle.polcert_model.proofs.FilledLaws.{table_rows}
use Rattle.polcert_model.proofs.LimitLaws.{within_limits}
use Rattle.polcert_model.proofs.TextLaws as models
use Rattle.polcert_policy.specs.ActionVectors.{IsActionVectorsRefusal, IsRefusedActionVectorsText}
use Rattle.polcert_policy.proofs.ActionGraphs.{action_counts}
use Rattle.polcert_policy.proofs.OneText as texts
use Rattle.polcert_check.proofs.Agreements.SameModels.{same_cells}
use Rattle.polcert_optimum.specs.Start.{AreAtMostFromStart}
use Rattle.polcert_optimum.proofs.Informed.{every_observation_policy, informed_only_then}
use Rattle.polcert_optimum.proofs.SeenModels.{model_mean, model_policies, model_mixtures, same_bound_most}
use Rattle.polcert_answer.proofs.Denoted.{same_states, same_actions}
use Rattle.polcert_bound_answer.specs.Headline.{IsCertifiedBound}
use Rattle.polcert_bound_answer.specs.Lines.{IsBoundLine}
use Rattle.polcert_bound_answer.proofs.SameInformed.{verdict_there}

-- what is said of a text for the sizes of the one is said of it for those of the other
pub for_sizes : {m n : Meaning} → IsSame m n → (P : ℕ → ℕ → Type 0) → P (actions_of m) (states_of m) → P (actions_of n) (states_of n)
for_sizes {m} {n} same P is = subst (P (actions_of n)) (same_states same) (subst (λ a. P a (states_of m)) (same_actions same) is)

-- a text that is refused for the sizes of one model that the first text denotes is refused for those of each
pub vectors_refused : (model : List ℕ) (fault : VectorFault) (m : Meaning) → IsModelText model m → (text : List ℕ)
    → IsRefusedActionVectorsText (actions_of m) (states_of m) fault text → AreActionVectorsRefused model fault text
vectors_refused model fault m is text r = record {
  meaning = m;
  is_model = is;
  no_vectors = λ n other. for_sizes (models.one_model model m n is other) (λ a s. IsNoActionVectorsText a s text fault) r.no_vectors;
  refusal = λ n other. for_sizes (models.one_model model m n is other) (λ a s. IsActionVectorsRefusal a s text fault) r.refusal;
}

-- there is a vector for each action of the model
pub fit_of : (m : Meaning) (v : PolicyVectors) (vectors : List ℕ) → IsActionVectorsText (actions_of m) (states_of m) vectors v
    → FitActions (table_of m) v
fit_of m v vectors are = let counts = action_counts (actions_of m) (states_of m) vectors v are in
    record { actions = counts.0; states = counts.1 }

-- the line of a verdict on one model is its line on every same one
line_there : (m n : Meaning) (v : PolicyVectors) → IsSame m n → (verdict : InformedVerdict) (line : List ℕ) → IsBoundLine m v verdict line
    → IsBoundLine n v verdict line
line_there m n v same Yes line (most, is_most, spelled) = (most, same_bound_most m n same v most is_most, spelled)
line_there m n v same (Exceeded a s amount) line (by, quotient, spelled) = grind (arith, same_cells)

module _ {model vectors : List ℕ} (m : Meaning) (v : PolicyVectors) (is : IsModelText model m)
    (are : IsActionVectorsText (actions_of m) (states_of m) vectors v) where
  -- what a model and vectors denote
  pub certificate_of : BoundCertificate model vectors
  certificate_of = record { meaning = m; values = v; is_model = is; are_vectors = are }

  -- two texts are one model, as far as indices are in range, and one list of vectors for it
  pub same_vectors : (c : BoundCertificate model vectors) → IsSame m c.meaning × (v ≡ c.values)
  same_vectors c =
      let same = models.one_model model m c.meaning is c.is_model in (
        same,
        texts.one_vectors (action_graph (actions_of c.meaning)) (states_of c.meaning) vectors v c.values
            (for_sizes same (λ a s. IsActionVectorsText a s vectors v) are) c.are_vectors,
      )

  -- What is said of what two texts denote, and carries to every same model, is said of whatever they denote.
  pub of_each : (P : Meaning → PolicyVectors → Type 0) → ((n : Meaning) → IsSame m n → P n v) → (c : BoundCertificate model vectors)
      → P c.meaning c.values
  of_each P carried c = let same = same_vectors c in subst (λ (w : PolicyVectors). P c.meaning w) same.1 (carried c.meaning same.0)

  pub verdict_of_each : (verdict : InformedVerdict) → IsInformedVerdict (table_of m) (value_of v) verdict
      → (c : BoundCertificate model vectors) → IsInformedVerdict (table_of c.meaning) (value_of c.values) verdict
  verdict_of_each verdict h = of_each (λ n w. IsInformedVerdict (table_of n) (value_of w) verdict)
      (λ n same. verdict_there (table_of m) (table_of n) (same_cells m n same) (value_of v) verdict h)

  pub most_of_each : (most : ℤ) → IsBoundStartMost m v most → (c : BoundCertificate model vectors)
      → IsBoundStartMost c.meaning c.values most
  most_of_each most h = of_each (λ n w. IsBoundStartMost n w most) (λ n same. same_bound_most m n same v most h)

  pub line_of_each : (verdict : InformedVerdict) (line : List ℕ) → IsBoundLine m v verdict line → (c : BoundCertificate model vectors)
      → IsBoundLine c.meaning c.values verdict line
  line_of_each verdict line h = of_each (λ n w. IsBoundLine n w verdict line) (λ n same. line_there m n v same verdict line h)

-- ---- what two texts denote, as its parts are used
module _ {model vectors : List ℕ} (c : BoundCertificate model vectors) where
  pub table_proper : IsProper (table_of c.meaning)
  table_proper = table_rows c.meaning c.is_model.denotes.rows

  pub limited : HasLimitedNumbers c.meaning
  limited = within_limits c.is_model.lexemes c.meaning c.is_model.denotes

  pub counted : c.values.nodes ≡ actions_of c.meaning
  counted = (action_counts (actions_of c.meaning) (states_of c.meaning) vectors c.values c.are_vectors).0

  -- no vector is worth more from the start
  pub mean_of : (most : ℤ) → IsBoundStartMost c.meaning c.values most → AreAtMostFromStart c.meaning (value_of c.values) most
  mean_of most is = model_mean c.meaning c.values counted most is

-- ---- a yes certifies the texts
module _ (model vectors : List ℕ) (answer : IsBoundAnswer model vectors (Ok Yes)) where
  pub yes_certified : IsCertifiedBound model vectors
  yes_certified = record {
    certificate = answer.0;
    promise = λ c. every_observation_policy (table_of c.meaning) (value_of c.values) (table_proper c) (answer.1 c);
    from_start = λ c most is. model_policies c.meaning c.values (counted c) most (limited c) (table_proper c) (answer.1 c) is;
    mixtures = λ c most is. model_mixtures c.meaning c.values (counted c) most (limited c) (table_proper c) (answer.1 c) is;
  }

-- the converse
pub yes_if_certified : (model vectors : List ℕ) → IsCertifiedBound model vectors → IsBoundAnswer model vectors (Ok Yes)
yes_if_certified model vectors certified = (
  certified.certificate,
  λ c. informed_only_then (table_of c.meaning) (value_of c.values)
      (certified.promise c),
)
