-- What is kept is what the items of a text say.
use Rattle.std.specs.Prelude.{◌≡◌, true, false, List, Option, Some, None}
use Rattle.polcert_cells.specs.declared.entries.Table.TheVariants.{Transition, Observation}
use Rattle.polcert_cells.specs.declared.entries.Entry.{Entry}
use Rattle.polcert_cells.specs.Preamble.{Preamble, is_mdp}
use Rattle.polcert_cells.specs.Meaning.{Meaning, IsSame, HasProperRows, HasLimitedNumbers}
use Rattle.polcert_cells.specs.Steps.Drafts.{Draft, draft_meaning}
use Rattle.polcert_format.specs.Writable.{IsWritable}
use Rattle.polcert_rules.specs.RowTables.{RowTable, AreRowsOf}
use Rattle.polcert_rules.specs.Steps.Rewards.{AreRewardsOf}
use Rattle.polcert_tables.specs.Kept.{Kept}

-- the rows of O are those of the entries; an MDP has none
abbrev pub AreObservationsOf : Preamble → List Entry → Option RowTable → Type 0
AreObservationsOf p entries (Some rows) = (is_mdp p ≡ false) × AreRowsOf p entries Observation rows
AreObservationsOf p entries None = is_mdp p ≡ true

-- they are what these items of a text say
pub record IsKeptOf (d : Draft) (k : Kept) : Type 0 where
  pub preamble : k.preamble ≡ d.preamble
  pub start : k.start ≡ d.start
  pub transitions : AreRowsOf d.preamble d.entries Transition k.transitions
  pub observations : AreObservationsOf d.preamble d.entries k.observations
  pub rewards : AreRewardsOf d.preamble d.entries k.rewards

-- each model that these items denote is within its limits, and can be written
abbrev pub DenotesWithinLimits : Draft → Type 0
DenotesWithinLimits d = (m : Meaning) → IsSame m (draft_meaning d) → HasProperRows m → HasLimitedNumbers m × IsWritable m
