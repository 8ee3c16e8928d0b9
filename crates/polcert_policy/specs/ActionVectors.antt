-- A vectors text with one vector for each action: bounds from above, each value rounded up.
--
-- Restates the description of pomdp-solve's value function file, https://www.pomdp.org/code/alpha-file-spec.html: for
-- each vector the number of its action, and then a value for each state. Our own: there is one vector for each action of
-- the model, and the vector of action a is the a-th, counted from 0. So they are the vectors of the policy graph whose
-- node a takes action a.
use Rattle.std.specs.Prelude.{ℕ, None, List, replicate}
use Rattle.std.specs.List.{range_with_len}
use Rattle.polcert_text.specs.declared.number.Rounding.TheVariants.{Up}
use Rattle.polcert_policy.specs.Graphs.{PolicyGraph}
use Rattle.polcert_policy.specs.Vectors.{PolicyVectors}
use Rattle.polcert_policy.specs.VectorText.{IsRoundedVectorsText, IsNoRoundedVectorsText, IsRoundedVectorsRefusal, IsRefusedRoundedVectorsText}
use Rattle.polcert_policy.specs.declared.fault.VectorFault.{VectorFault}

-- Node a takes action a. Vectors don't depend on observations, so the graph has one, for which no node has a successor.
abbrev pub action_graph : ℕ → PolicyGraph
action_graph actions = record {
  actions = actions;
  observations = 1;
  chosen = range_with_len 0 actions;
  successors = replicate actions None;
}

-- the text is one vector for each of this many actions, each with a value for each of this many states
abbrev pub IsActionVectorsText : ℕ → ℕ → List ℕ → PolicyVectors → Type 0
IsActionVectorsText actions states text v = IsRoundedVectorsText Up (action_graph actions) states text v

-- unless memory ran out, a refused text is no such vectors
abbrev pub IsNoActionVectorsText : ℕ → ℕ → List ℕ → VectorFault → Type 0
IsNoActionVectorsText actions states text fault = IsNoRoundedVectorsText Up (action_graph actions) states text fault

-- what stands in a text that is refused for this reason
abbrev pub IsActionVectorsRefusal : ℕ → ℕ → List ℕ → VectorFault → Type 0
IsActionVectorsRefusal actions states text fault = IsRoundedVectorsRefusal Up (action_graph actions) states text fault

-- the text is refused for this reason: all that is promised of a refusal
abbrev pub IsRefusedActionVectorsText : ℕ → ℕ → VectorFault → List ℕ → Type 0
IsRefusedActionVectorsText actions states fault text = IsRefusedRoundedVectorsText Up (action_graph actions) states fault text
