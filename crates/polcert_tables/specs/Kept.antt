-- What a model keeps of its text, and what that means: the preamble, the start, and the cells as sparse rows and as rules.
use Rattle.std.specs.Prelude.{ℕ, ◌*◌, ◌==◌, if◌then◌else◌, Option, Some, None, unwrap_or}
use Rattle.polcert_cells.specs.declared.elements.StartWeights.{StartWeights}
use Rattle.polcert_cells.specs.Elements.{count_of}
use Rattle.polcert_cells.specs.Numbers.{one}
use Rattle.polcert_cells.specs.Preamble.{Preamble}
use Rattle.polcert_cells.specs.Start.{all_states}
use Rattle.polcert_cells.specs.Meaning.{Meaning, reward_index}
use Rattle.polcert_cells.specs.Sparse.{weight_at}
use Rattle.polcert_rules.specs.RowTables.{RowTable, row_at}
use Rattle.polcert_rules.specs.RewardAt.{RewardRules, reward_at}

-- (an MDP keeps no rows of O)
pub record Kept : Type 0 where
  pub preamble : Preamble
  pub start : Option StartWeights
  pub transitions : RowTable
  pub observations : Option RowTable
  pub rewards : RewardRules

-- the weight of an observation; where no rows of O are kept the end state is observed
abbrev pub observed_at : Preamble → Option RowTable → ℕ → ℕ → ℕ → ℕ
observed_at p (Some rows) a e z = weight_at (row_at rows a e) z
observed_at p None a e z = if e == z then one * count_of p.states else 0

-- what they denote; with no start item all states are equally likely
abbrev pub kept_meaning : Kept → Meaning
kept_meaning k = record {
  preamble = k.preamble;
  start = unwrap_or k.start (all_states k.preamble.states);
  t = (λ a s e. weight_at (row_at k.transitions a s) e);
  o = observed_at k.preamble k.observations;
  r = (λ a s e z. reward_at k.rewards a s e (reward_index k.preamble z));
}
