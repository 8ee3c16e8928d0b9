-- How much of a large table entries give, as it is counted while a text is read.
-- Nobody has to believe this: only contracts of the readers of items cite it.
use Rattle.std.specs.Prelude.{◌≡◌, ℕ, ◌+◌, ◌*◌, ◌≤◌, ◌==◌, List, [], ◌∷◌, ◌++◌, Option, Some, None, count_by, length, nat_lt, slice_get, if◌then◌else◌}
use Rattle.polcert_cells.specs.declared.entries.Table.TheVariants.{Transition, Observation, Reward}
use Rattle.polcert_cells.specs.declared.entries.Place.{Place}
use Rattle.polcert_cells.specs.declared.entries.Place.TheVariants.{Every}
use Rattle.polcert_cells.specs.declared.entries.Body.{Body}
use Rattle.polcert_cells.specs.declared.entries.Body.TheVariants.{Probabilities, Rewards, Uniform, Identity}
use Rattle.polcert_cells.specs.declared.entries.Entry.{Entry}
use Rattle.polcert_cells.specs.Cells.{is_table}
use Rattle.polcert_cells.specs.Elements.{count_of, most_states, most_actions, most_observations}
use Rattle.polcert_cells.specs.Meaning.{IsCount}
use Rattle.polcert_cells.specs.Preamble.{Preamble, observed, rewarded}
use Rattle.polcert_cells.specs.Steps.Sound.{IsSoundEntry}
use Rattle.polcert_format.specs.Limits.{IsLarge, HasFewCells, covered, most_cells, most_reward_entries}
use Rattle.polcert_items.specs.declared.model_so_far.CellBudget.{CellBudget}
use Rattle.polcert_items.specs.declared.model_so_far.Sizes.{Sizes}

-- of this many elements, those that the place stands for
abbrev pub place_count : Option Place → ℕ → ℕ
place_count (Some Every) count = count
place_count _ count = 1

-- the cells that this many places leave open in a table of rows for each action and state
abbrev pub open_row_cells : ℕ → ℕ → ℕ → ℕ
open_row_cells states columns places = if places == 1 then states * columns else (if places == 2 then columns else 1)

-- of so many cells that an entry's places leave open, those that its body gives a weight above 0
abbrev pub nonzero_cells : Body → ℕ → ℕ → ℕ
nonzero_cells (Probabilities ps) states cells = count_by (nat_lt 0) ps
nonzero_cells (Rewards hs) states cells = 0
nonzero_cells Uniform states cells = cells
nonzero_cells Identity states cells = states

-- the cells that an entry covers with a weight above 0, in a table of this many columns
abbrev pub covered_by : ℕ → ℕ → ℕ → List Place → Body → ℕ
covered_by actions states columns places body =
    place_count (slice_get places 0) actions * place_count (slice_get places 1) states * place_count (slice_get places 2) columns
    * nonzero_cells body states (open_row_cells states columns (length places))

-- at most this many
abbrev pub most_covered : ℕ
most_covered = most_actions * most_states * most_observations * (most_states * most_observations)

-- this many and more, in a table of this many cells: of a large one they may be too many, and of any other they are not counted
abbrev pub budget_after : ℕ → ℕ → ℕ → ℕ → Option ℕ
budget_after cells most count more = if nat_lt most_cells cells then (if nat_lt most (count + more) then None else Some (count + more)) else Some count

-- what entries give of each table that is large, and none too much; of no entries nothing was counted
pub record IsCoveringOf (p : Preamble) (es : List Entry) (c : CellBudget) : Type 0 where
  pub transitions : IsLarge p Transition → c.transitions ≡ covered p Transition es
  pub observations : IsLarge p Observation → c.observations ≡ covered p Observation es
  pub rewards : IsLarge p Reward → c.rewards ≡ count_by (λ (e : Entry). is_table e.table Reward) es
  pub few_transitions : c.transitions ≤ most_cells
  pub few_observations : c.observations ≤ most_cells
  pub few_rewards : c.rewards ≤ most_reward_entries
  pub nothing : es ≡ [] → (c.transitions ≡ 0) × (c.observations ≡ 0) × (c.rewards ≡ 0)

-- the counts of the preamble, within their limits
pub record AreSizesOf (p : Preamble) (s : Sizes) : Type 0 where
  pub actions : s.actions ≡ count_of p.actions
  pub states : s.states ≡ count_of p.states
  pub observed : s.observed ≡ count_of (observed p)
  pub rewarded : s.rewarded ≡ count_of (rewarded p)
  pub few_actions : IsCount most_actions s.actions
  pub few_states : IsCount most_states s.states
  pub few_observed : IsCount most_observations s.observed
  pub few_rewarded : s.rewarded ≤ most_observations

-- some entries were counted, and this one may come next
abbrev pub CanComeNext : Preamble → List Entry → CellBudget → Sizes → Entry → Type 0
CanComeNext p es c s e = AreSizesOf p s × IsCoveringOf p es c × IsSoundEntry p e

-- what entries give with this one more, where that is not too much
abbrev pub IsCoveredWith : Preamble → List Entry → Entry → Option CellBudget → Type 0
IsCoveredWith p es e None = HasFewCells p (es ++ e ∷ []) → ⊥
IsCoveredWith p es e (Some c) = IsCoveringOf p (es ++ e ∷ []) c
