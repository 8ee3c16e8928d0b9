-- That a text has an answer other than out of memory: a value that it denotes, or a right refusal. That there is at most one is said by
-- other laws: `one_model` and `one_model_refusal`, `one_graph` and `one_graph_refusal`, `one_vectors` and `one_vectors_refusal`.
use Rattle.std.specs.Prelude.{◌≢◌, ◌⊎◌, ℕ, List}
use Rattle.polcert_text.specs.declared.number.Rounding.{Rounding}
use Rattle.polcert_cells.specs.Meaning.{Meaning}
use Rattle.polcert_format.specs.Text.{IsModelText}
use Rattle.polcert_format.specs.Refusals.{SaysOfText}
use Rattle.polcert_format.specs.RefusedTexts.{IsRefusedModelText}
use Rattle.polcert_format.specs.declared.fault.ModelFault.{ModelFault}
use Rattle.polcert_policy.specs.Graphs.{PolicyGraph}
use Rattle.polcert_policy.specs.GraphText.{IsGraphText, IsRefusedGraphText}
use Rattle.polcert_policy.specs.Vectors.{PolicyVectors}
use Rattle.polcert_policy.specs.VectorText.{IsRoundedVectorsText, IsRefusedRoundedVectorsText}
use Rattle.polcert_policy.specs.ActionVectors.{IsActionVectorsText, IsRefusedActionVectorsText}
use Rattle.polcert_policy.specs.declared.fault.GraphFault.{GraphFault}
use Rattle.polcert_policy.specs.declared.fault.GraphFault.TheVariants as graph_faults
use Rattle.polcert_policy.specs.declared.fault.VectorFault.{VectorFault}
use Rattle.polcert_policy.specs.declared.fault.VectorFault.TheVariants as vector_faults

-- the text is a model's, or is refused for this reason, which isn't out of memory
abbrev pub HasModelAnswer : List ℕ → Type 0
HasModelAnswer text = ((m : Meaning) × IsModelText text m) ⊎ ((fault : ModelFault) × SaysOfText fault × IsRefusedModelText fault text)

-- the text is a graph's, or is refused for this reason, which isn't out of memory
abbrev pub HasGraphAnswer : ℕ → ℕ → List ℕ → Type 0
HasGraphAnswer actions observations text = ((g : PolicyGraph) × IsGraphText actions observations text g)
    ⊎ ((fault : GraphFault) × (fault ≢ graph_faults.Memory) × IsRefusedGraphText actions observations fault text)

-- the text is vectors of the graph, with each value rounded this way, or is refused for this reason, which isn't out of memory
abbrev pub HasVectorsAnswer : Rounding → PolicyGraph → ℕ → List ℕ → Type 0
HasVectorsAnswer rounding graph states text = ((v : PolicyVectors) × IsRoundedVectorsText rounding graph states text v)
    ⊎ ((fault : VectorFault) × (fault ≢ vector_faults.Memory) × IsRefusedRoundedVectorsText rounding graph states fault text)

-- the same of one vector for each action
abbrev pub HasActionVectorsAnswer : ℕ → ℕ → List ℕ → Type 0
HasActionVectorsAnswer actions states text = ((v : PolicyVectors) × IsActionVectorsText actions states text v)
    ⊎ ((fault : VectorFault) × (fault ≢ vector_faults.Memory) × IsRefusedActionVectorsText actions states fault text)
