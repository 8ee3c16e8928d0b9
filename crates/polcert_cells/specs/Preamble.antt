-- What the lines before the start item and the entries say together.
-- Source: the POMDP file format page at pomdp.org, "the preamble". Our own: MDP files, which have no line of
-- observations, and that the discount is kept in millionths.
use Rattle.std.specs.Prelude.{ℕ, Bool, List, [], ◌∷◌, Option, is_none, unwrap_or}
use Rattle.polcert_cells.specs.declared.entries.Table.{Table}
use Rattle.polcert_cells.specs.declared.entries.Table.TheVariants.{Transition, Observation, Reward}
use Rattle.polcert_cells.specs.Elements.{Elements, Count, count_of}

-- the discount in millionths, whether rewards are written as costs, and the elements; an MDP has no line of observations
pub record Preamble : Type 0 where
  pub discount : ℕ
  pub costs : Bool
  pub states : Elements
  pub actions : Elements
  pub observations : Option Elements

-- A file without a line of observations is an MDP: who decides sees the end state.
abbrev pub is_mdp : Preamble → Bool
is_mdp p = is_none p.observations

-- what is observed: in an MDP the end state
abbrev pub observed : Preamble → Elements
observed p = unwrap_or p.observations p.states

-- What the indices of a table's cell number, in order. The last of a reward numbers the observation; in an MDP, where a reward
-- depends on the action, the start state and the end state alone, one thing.
abbrev pub dimensions : Preamble → Table → List Elements
dimensions p Transition = p.actions ∷ p.states ∷ p.states ∷ []
dimensions p Observation = p.actions ∷ p.states ∷ observed p ∷ []
dimensions p Reward = p.actions ∷ p.states ∷ p.states ∷ unwrap_or p.observations (Count 1) ∷ []

-- What the places of an entry may name, in order. The last place of a reward names an observation; in an MDP it names
-- nothing, and is `*`.
abbrev pub named : Preamble → Table → List Elements
named p Reward = p.actions ∷ p.states ∷ p.states ∷ unwrap_or p.observations (Count 0) ∷ []
named p table = dimensions p table

-- how many cells a row of weights has
abbrev pub columns : Preamble → Table → ℕ
columns p Transition = count_of p.states
columns p Observation = count_of (observed p)
columns p Reward = 1

-- what the last index of a reward numbers
abbrev pub rewarded : Preamble → Elements
rewarded p = unwrap_or p.observations (Count 1)
