-- What a model keeps of a text, as contracts see it, and what is known of it.
-- Nobody has to believe this: no contract of `polcert_model` or above it rests on it.
use Rattle.std.specs.Prelude.{◌≡◌, ℕ, ◌≤◌, Option, List, length, is_none}
use Rattle.std.specs.Option.{ForSome}
use Rattle.polcert_cells.specs.declared.entries.Entry.{Entry}
use Rattle.polcert_cells.specs.declared.elements.StartWeights.{StartWeights}
use Rattle.polcert_cells.specs.Numbers.{one}
use Rattle.polcert_cells.specs.Elements.{count_of, most_states, most_actions, most_observations}
use Rattle.polcert_cells.specs.Preamble.{Preamble, observed, is_mdp}
use Rattle.polcert_cells.specs.Meaning.{IsCount}
use Rattle.polcert_rules.specs.RowTables.{RowTable}
use Rattle.polcert_rules.specs.Steps.Rewards.{IsRewardShapeOf}
use Rattle.polcert_rules.specs.RewardAt.{RewardRules}
use Rattle.polcert_cells.specs.Steps.Drafts.{Draft}
use Rattle.polcert_cells.specs.Steps.Sound.{draft_of}
use Rattle.polcert_tables.specs.declared.model.Preamble.{Preamble as Lines}
use Rattle.polcert_tables.specs.Kept.{Kept}
use Rattle.polcert_tables.specs.Steps.KeptOf.{IsKeptOf}

-- the preamble, as the definitions have it
abbrev pub preamble_of : Lines → Preamble
preamble_of p = record {
  discount = p.discount;
  costs = p.costs;
  states = p.states;
  actions = p.actions;
  observations = p.observations;
}

-- what a text with this preamble, this start item or none, and these entries says
abbrev pub draft_with : Lines → Option StartWeights → List Entry → Draft
draft_with p start entries = draft_of p.discount p.costs p.states p.actions p.observations start entries

abbrev pub kept_parts : Lines → Option StartWeights → RowTable → Option RowTable → RewardRules → Kept
kept_parts p start transitions observed rewards = record {
  preamble = preamble_of p;
  start = start;
  transitions = transitions;
  observations = observed;
  rewards = rewards;
}

-- the rows are for this many actions, states and columns
pub record HasTableCounts (t : RowTable) (actions states columns : ℕ) : Type 0 where
  pub actions_are : t.actions ≡ actions
  pub states_are : t.states ≡ states
  pub columns_are : t.columns ≡ columns

-- Counts, a discount of at most one, a share for each state, tables for these counts, and items of a text that say all this.
pub record IsKeptModel (k : Kept) : Type 0 where
  pub states : IsCount most_states (count_of k.preamble.states)
  pub actions : IsCount most_actions (count_of k.preamble.actions)
  pub observations : IsCount most_observations (count_of (observed k.preamble))
  pub discount : k.preamble.discount ≤ one
  pub start : ForSome k.start (λ found. length found.weights ≡ count_of k.preamble.states)
  pub t_counts : HasTableCounts k.transitions (count_of k.preamble.actions) (count_of k.preamble.states) (count_of k.preamble.states)
  pub o_counts : ForSome k.observations (λ rows. HasTableCounts rows (count_of k.preamble.actions) (count_of k.preamble.states) (count_of (observed k.preamble)))
  pub mdp : is_none k.observations ≡ is_mdp k.preamble
  pub r_counts : IsRewardShapeOf k.preamble k.rewards.shape
  pub items : Draft
  pub said : IsKeptOf items k
