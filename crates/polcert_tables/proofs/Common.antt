-- The names of std and of specs that several proofs of this crate cite, passed on from one place. Declares nothing.
pub use Rattle.polcert_cells.specs.Cells.{reward, weight}
pub use Rattle.polcert_cells.specs.CommonRewards.{IsCommonReward}
pub use Rattle.polcert_cells.specs.Elements.{count_of, most_actions, most_observations, most_states}
pub use Rattle.polcert_cells.specs.Meaning.{HasProperRows, observations_of, states_of, sum_below}
pub use Rattle.polcert_cells.specs.Preamble.{Preamble, is_mdp, observed}
pub use Rattle.polcert_cells.specs.Steps.Drafts.{Draft}
pub use Rattle.polcert_cells.specs.Tables.{table_of}
pub use Rattle.polcert_cells.specs.declared.elements.Elements.{Elements}
pub use Rattle.polcert_cells.specs.declared.entries.Entry.{Entry}
pub use Rattle.polcert_cells.specs.declared.entries.Table.{Table}
pub use Rattle.polcert_cells.specs.declared.entries.Table.TheVariants.{Transition}
pub use Rattle.polcert_rules.specs.Steps.Rewards.{AreRewardsOf}
pub use Rattle.polcert_tables.specs.Contents.{Contents, meaning}
pub use Rattle.polcert_tables.specs.Filled.{AddsCells, Filled, filled_table}
pub use Rattle.polcert_tables.specs.Kept.{Kept}
pub use Rattle.polcert_tables.specs.Steps.KeptOf.{IsKeptOf}
pub use Rattle.polcert_tables.specs.Steps.ModelView.{IsKeptModel, kept_parts}
pub use Rattle.std.proofs.lemmas.List.{get_or_read_under, length_push}
pub use Rattle.std.specs.Option.{ForSome}
