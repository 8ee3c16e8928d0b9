-- What three texts denote: one controller, whatever stands for it.
use Rattle.std.proofs.Common.{◌≡◌, ℕ, ℤ, List, Ok, ap, refl, subst, arith}
use Rattle.polcert_answer.proofs.Common.{Rounding, Meaning, IsSame, states_of, observations_of, table_of, IsModelText, PolicyGraph}
use Rattle.polcert_answer.proofs.Common.{IsProperGraph, GraphFault, VectorFault, IsGraphText, IsNoGraphText, PolicyVectors}
use Rattle.polcert_answer.proofs.Common.{IsRoundedVectorsText, IsNoRoundedVectorsText, vectors_text, Controller, controller_of, controller}
use Rattle.polcert_answer.proofs.Common.{HasGraph, IsGraphRefused, AreRoundedVectorsRefused, IsRoundedAnswer, Side, SideLaws}
use Rattle.polcert_cells.specs.Elements.{count_of}
use Rattle.polcert_cells.specs.Preamble.{Preamble}
use Rattle.polcert_cells.specs.Meaning.{actions_of}
use Rattle.polcert_model.proofs.LimitLaws.{within_limits}
use Rattle.polcert_model.proofs.TextLaws as models
use Rattle.polcert_policy.specs.GraphText.{IsGraphRefusal, IsRefusedGraphText}
use Rattle.polcert_policy.specs.Vectors.{shifted_by}
use Rattle.polcert_policy.specs.VectorText.{IsRoundedVectorsRefusal, IsRefusedRoundedVectorsText}
use Rattle.polcert_policy.proofs.FlatGraphs.{indexed}
use Rattle.polcert_policy.proofs.LimitLaws.{graph_proper}
use Rattle.polcert_policy.proofs.OneText as texts
use Rattle.polcert_check.specs.Horizon.{Fits}
use Rattle.polcert_check.specs.Steps.Ranges.{IsController}
use Rattle.polcert_answer.specs.Headline.{RoundedCertificate}
use Rattle.polcert_answer.specs.Steps.Laws.{SaysTheSame}

module _ {m n : Meaning} (same : IsSame m n) where
  pub same_states : states_of m ≡ states_of n
  same_states = ap (λ (p : Preamble). count_of p.states) same.preamble

  pub same_actions : actions_of m ≡ actions_of n
  same_actions = ap (λ (p : Preamble). count_of p.actions) same.preamble

-- what is said of a graph's text for the counts of the one is said of it for those of the other
pub for_counts : {m n : Meaning} → IsSame m n → (P : ℕ → ℕ → Type 0) → P (actions_of m) (observations_of m)
    → P (actions_of n) (observations_of n)
for_counts h1 P h2 = grind arith

-- a graph's text that is refused for the counts of one model that the first text denotes is refused for those of each
pub graph_refused : (model : List ℕ) (fault : GraphFault) (m : Meaning) → IsModelText model m
    → (text : List ℕ)
    → IsRefusedGraphText (actions_of m) (observations_of m) fault text → IsGraphRefused model fault text
graph_refused model fault m is text r = record {
  meaning = m;
  is_model = is;
  no_graph = λ n other. for_counts (models.one_model model m n is other) (λ a o. IsNoGraphText a o text fault) r.no_graph;
  refusal = λ n other. for_counts (models.one_model model m n is other) (λ a o. IsGraphRefusal a o text fault) r.refusal;
}

-- two texts are one model, as far as indices are in range, and one graph for it
pub same_graph : {model graph : List ℕ} (m n : Meaning) (g h : PolicyGraph) → HasGraph model graph m g → HasGraph model graph n h
    → IsSame m n × (g ≡ h)
same_graph {model} {graph} m n g h x y =
    let same = models.one_model model m n x.is_model y.is_model in (
      same,
      texts.one_graph (actions_of n) (observations_of n) graph g h (for_counts same (λ a o. IsGraphText a o graph g) x.is_graph)
          y.is_graph,
    )

-- the same of vectors, for each model and graph that two texts denote
pub vectors_refused : (rounding : Rounding) (model graph : List ℕ) (fault : VectorFault) (m : Meaning)
    (g : PolicyGraph)
    → HasGraph model graph m g → (text : List ℕ)
    → IsRefusedRoundedVectorsText rounding g (states_of m) fault text
    → AreRoundedVectorsRefused rounding model graph fault text
vectors_refused rounding model graph fault m g has text r = record {
  meaning = m;
  policy = g;
  has_graph = has;
  no_vectors = λ n h other. moved n h other (λ p s. IsNoRoundedVectorsText rounding p s text fault)
      r.no_vectors;
  refusal = λ n h other. moved n h other (λ p s. IsRoundedVectorsRefusal rounding p s text fault) r.refusal;
}
  where
    moved : (n : Meaning) (h : PolicyGraph) → HasGraph model graph n h → (P : PolicyGraph → ℕ → Type 0) → P g (states_of m)
        → P h (states_of n)
    moved n h other P is =
        let same = same_graph m n g h has other in
        subst (P h) (same_states same.0) (subst (λ (p : PolicyGraph). P p (states_of m)) same.1 is)

-- and three texts are one list of vectors for them
pub same_vectors : {rounding : Rounding} {model graph vectors : List ℕ} (m : Meaning) (g : PolicyGraph) (v : PolicyVectors)
    → HasGraph model graph m g
    → IsRoundedVectorsText rounding g (states_of m) vectors v
    → (c : RoundedCertificate rounding model graph vectors) → IsSame m c.meaning × (g ≡ c.policy) × (v ≡ c.values)
same_vectors {rounding} {model} {graph} {vectors} m g v has are c =
    let same = same_graph m c.meaning g c.policy has (record { is_model = c.is_model; is_graph = c.is_graph }) in
    let moved = subst (λ (h : PolicyGraph). IsRoundedVectorsText rounding h (states_of c.meaning) vectors v) same.1
    (subst (λ s. IsRoundedVectorsText rounding g s vectors v) (same_states same.0) are) in
    (same.0, same.1, texts.one_vectors c.policy (states_of c.meaning) vectors v c.values moved c.are_vectors)

-- What is said of what three texts denote, and carries to every same model, is said of whatever they denote.
pub of_each : {rounding : Rounding} {model graph vectors : List ℕ} (m : Meaning) (g : PolicyGraph) (v : PolicyVectors)
    → HasGraph model graph m g
    → IsRoundedVectorsText rounding g (states_of m) vectors v
    → (P : Meaning → PolicyGraph → PolicyVectors → Type 0) → ((n : Meaning) → IsSame m n → P n g v)
    → (c : RoundedCertificate rounding model graph vectors) → P c.meaning c.policy c.values
of_each m g v has are P carried c = grind (arith, same_vectors m g v has are c, carried c.meaning)

-- the controller of a model, a graph and vectors
abbrev pub of_parts : Meaning → PolicyGraph → PolicyVectors → Controller
of_parts n g v = controller_of (table_of n) g v

-- the graph is within its limits
pub proper_graph : {model graph : List ℕ} (m : Meaning) (g : PolicyGraph) → HasGraph model graph m g → IsProperGraph g
proper_graph {model} {graph} m g has =
    let limits = within_limits has.is_model.lexemes m has.is_model.denotes in
    let is = indexed (actions_of m) (observations_of m) graph g has.is_graph in
    graph_proper (actions_of m) (observations_of m) is.0 g limits.actions.1 limits.observations.0 limits.observations.1 is.2

-- graph and vectors are for the model
pub fits_of : {rounding : Rounding} {model graph : List ℕ} (vectors : List ℕ) (m : Meaning) (g : PolicyGraph) (v : PolicyVectors)
    → HasGraph model graph m g
    → IsRoundedVectorsText rounding g (states_of m) vectors v → Fits (table_of m) g v
fits_of vectors m g v has are = grind arith

pub text_of_each : {rounding : Rounding} {model graph vectors : List ℕ} (m : Meaning) (g : PolicyGraph) (v : PolicyVectors)
    → HasGraph model graph m g
    → IsRoundedVectorsText rounding g (states_of m) vectors v → (by : ℤ) (c : RoundedCertificate rounding model graph vectors)
    → vectors_text g (shifted_by v by) ≡ vectors_text c.policy (shifted_by c.values by)
text_of_each m g v has are by = of_each m g v has are (λ n h w. vectors_text g (shifted_by v by) ≡ vectors_text h (shifted_by w by))
    (λ n same. refl)

-- what a graph and vectors denote, together with what the model denotes
pub certificate_of : {rounding : Rounding} {model graph vectors : List ℕ} (m : Meaning) (g : PolicyGraph) (v : PolicyVectors)
    → HasGraph model graph m g
    → IsRoundedVectorsText rounding g (states_of m) vectors v → RoundedCertificate rounding model graph vectors
certificate_of m g v has are = grind arith

-- what three texts denote, as its parts are used: its graph, that they fit, and that the controller is proper
module _ {rounding : Rounding} {model graph vectors : List ℕ} (c : RoundedCertificate rounding model graph vectors) where
  pub graph_is : HasGraph model graph c.meaning c.policy
  graph_is = record { is_model = c.is_model; is_graph = c.is_graph }

  pub fits_is : Fits (table_of c.meaning) c.policy c.values
  fits_is = grind arith

  pub controller_proper : IsController (controller c)
  controller_proper = grind arith

-- ---- what a side says of a model, a graph and vectors is said of whatever the texts denote
says : {V F : Type 0} {side : Side V F} → SideLaws side
    → {model graph : List ℕ} (vectors : List ℕ) (m : Meaning) (g : PolicyGraph) (v : PolicyVectors)
    → HasGraph model graph m g → IsRoundedVectorsText side.rounding g (states_of m) vectors v → (n : Meaning) → IsSame m n
    → SaysTheSame side m n g v
says laws vectors m g v has are n same = laws.same m n same g v (proper_graph m g has) (fits_of vectors m g v has are)

module _ {V F : Type 0} {side : Side V F} (laws : SideLaws side) {model graph vectors : List ℕ} (m : Meaning) (g : PolicyGraph)
    (v : PolicyVectors)
    (has : HasGraph model graph m g) (are : IsRoundedVectorsText side.rounding g (states_of m) vectors v) where
  pub verdict_of_each : (x : V) → side.Is (of_parts m g v) x → (c : RoundedCertificate side.rounding model graph vectors)
      → side.Is (controller c) x
  verdict_of_each x is = of_each m g v has are (λ n h w. side.Is (of_parts n h w) x)
      (λ n same. (says laws vectors m g v has are n same).verdict x is)

  pub answer_is : (x : V) → side.Is (of_parts m g v) x → IsRoundedAnswer side.rounding side.Is model graph vectors (Ok x)
  answer_is x is = (certificate_of m g v has are, verdict_of_each x is)

  pub meets_each : (x : V) → side.Is (of_parts m g v) x → (c : RoundedCertificate side.rounding model graph vectors)
      → side.Meets (controller c) x
  meets_each x is c = laws.meets (controller c) (controller_proper c) x (verdict_of_each x is c)

  pub line_of_each : (x : V) (line : List ℕ) → side.IsLine m (of_parts m g v) v x line
      → (c : RoundedCertificate side.rounding model graph vectors) → side.IsLine c.meaning (controller c) c.values x line
  line_of_each x line is = of_each m g v has are (λ n h w. side.IsLine n (of_parts n h w) w x line)
      (λ n same. (says laws vectors m g v has are n same).line x line is)

  pub least_of_each : (by : ℤ) → side.IsLeast (of_parts m g v) v by → (c : RoundedCertificate side.rounding model graph vectors)
      → side.IsLeast (controller c) c.values by
  least_of_each by least = of_each m g v has are (λ n h w. side.IsLeast (of_parts n h w) w by)
      (λ n same. (says laws vectors m g v has are n same).least by least)

  pub reason_of_each : (f : F) → side.IsReason (of_parts m g v) v f → (c : RoundedCertificate side.rounding model graph vectors)
      → side.IsReason (controller c) c.values f
  reason_of_each f why = of_each m g v has are (λ n h w. side.IsReason (of_parts n h w) w f)
      (λ n same. (says laws vectors m g v has are n same).reason f why)
