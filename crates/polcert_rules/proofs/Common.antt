-- The names of std and of specs that several proofs of this crate cite, passed on from one place. Declares nothing.
pub use Rattle.polcert_cells.specs.Cells.{IsLastCovering, covers, fit_places, fits_place, is_table, last, last_covering, reward, reward_of}
pub use Rattle.polcert_cells.specs.Cells.{value_or, weight, weight_of}
pub use Rattle.polcert_cells.specs.CommonRewards.{AreOrdered, IsCommonReward, cell_at}
pub use Rattle.polcert_cells.specs.Elements.{count_of, most_actions, most_elements, most_observations, most_states}
pub use Rattle.polcert_cells.specs.Entry.{forms}
pub use Rattle.polcert_cells.specs.EntryRefs.{all_rewards, body_of, entry_of}
pub use Rattle.polcert_cells.specs.Meaning.{sum_below}
pub use Rattle.polcert_cells.specs.Numbers.{one}
pub use Rattle.polcert_cells.specs.Preamble.{Preamble, dimensions, rewarded}
pub use Rattle.polcert_cells.specs.Rows.{IsWeighted}
pub use Rattle.polcert_cells.specs.Sparse.{IsRow, IsSparse, scaled_cells, weight_at}
pub use Rattle.polcert_cells.specs.Steps.Sound.{Fills, IsSoundEntry}
pub use Rattle.polcert_cells.specs.declared.common_reward.CommonReward.{CommonReward}
pub use Rattle.polcert_cells.specs.declared.common_reward.RewardCell.{RewardCell}
pub use Rattle.polcert_cells.specs.declared.elements.Cell.{Cell}
pub use Rattle.polcert_cells.specs.declared.elements.Elements.{Elements}
pub use Rattle.polcert_cells.specs.declared.entries.Body.{Body}
pub use Rattle.polcert_cells.specs.declared.entries.Body.TheVariants.{Probabilities}
pub use Rattle.polcert_cells.specs.declared.entries.Entry.{Entry}
pub use Rattle.polcert_cells.specs.declared.entries.Place.{Place}
pub use Rattle.polcert_cells.specs.declared.entries.Place.TheVariants.{Every, Only}
pub use Rattle.polcert_cells.specs.declared.entries.Table.{Table}
pub use Rattle.polcert_cells.specs.declared.entries.Table.TheVariants.{Reward}
pub use Rattle.polcert_rules.specs.Keys.{AreDigits, AreIndices, digit, key_base, key_in, key_of, most_places, table_key}
pub use Rattle.polcert_rules.specs.Matching.{max_option, newest_in}
pub use Rattle.polcert_rules.specs.RewardAt.{RewardRules, cell_in}
pub use Rattle.polcert_rules.specs.Steps.CellRules.{AreCellRules, AreCellsOf, AreJoined, IsCellOf, NamesEnd}
pub use Rattle.polcert_rules.specs.Steps.Distinct.{rule_at}
pub use Rattle.polcert_rules.specs.Steps.FittingRules.{AreEndRules, AreFitting, HasFront, IsEndKey, HasTwo, IsPartOf, key_of_two}
pub use Rattle.polcert_rules.specs.Steps.Given.{FitsShape, IsShapeWithin, entry_weight}
pub use Rattle.polcert_rules.specs.Steps.Lists.{part_in, row_in, stored_cells}
pub use Rattle.polcert_rules.specs.Steps.Merging.{Rises, before, following, from, given_at, merged, newer_cells, weight_by_entries}
pub use Rattle.polcert_rules.specs.Steps.Merging.{weight_over}
pub use Rattle.polcert_rules.specs.Steps.Named.{noted_at}
pub use Rattle.polcert_rules.specs.Steps.Newest.{AreKeyed, IsEntryRule, IsIndexOf, IsLastNumber, IsNewest, IsRising, entry_at, newest_from}
pub use Rattle.polcert_rules.specs.Steps.Newest.{newest_of_each, rules_from}
pub use Rattle.polcert_rules.specs.Steps.Noting.{IsLastPlace, IsNoted}
pub use Rattle.polcert_rules.specs.Steps.RewardSearch.{AreWithin, IsSearchAnswer, IsLastBody}
pub use Rattle.polcert_rules.specs.Steps.Rewards.{AreBodiesOf, AreRewardsOf, IsBodyOf, reward_rules, worth}
pub use Rattle.polcert_rules.specs.Steps.Rows.{HasNoSuchColumn, HaveColumns, IsCell, IsSingleCellKey, IsSingleEntry, at_column, columns_of}
pub use Rattle.polcert_rules.specs.Steps.Rows.{no_column, number_in}
pub use Rattle.polcert_rules.specs.Steps.Shapes.{AreSound, IsShapeOf}
pub use Rattle.polcert_rules.specs.Steps.Sources.{AreKept, AreLine, AreLines, AreNumbersOf, IsAfter, IsFrom, IsKeptRow, IsShared}
pub use Rattle.polcert_rules.specs.Steps.Sources.{IsWholeRowEntry}
pub use Rattle.polcert_rules.specs.Steps.Sources.{Stays, sum_of_weights}
pub use Rattle.polcert_rules.specs.Steps.Zeros.{IsEntryRowOf, IsSplit, covering_entry, is_zero_entry, newest_zero, number_under, others_in}
pub use Rattle.polcert_rules.specs.Steps.Zeros.{others_of}
pub use Rattle.polcert_rules.specs.Steps.Zeros.{names_column, overrides, shown, shown_under, wholes_of, zero_of, zeros_of}
pub use Rattle.polcert_rules.specs.declared.fitting_rules.FittingRules.{FittingRules}
pub use Rattle.polcert_rules.specs.declared.fitting_rules.RulePart.{RulePart}
pub use Rattle.polcert_rules.specs.declared.index.Rule.{Rule}
pub use Rattle.polcert_rules.specs.declared.named_rules.NamedRule.{NamedRule}
pub use Rattle.polcert_cells.specs.declared.entries.RewardBody.{RewardBody}
pub use Rattle.polcert_rules.specs.declared.rewards.RewardShape.{RewardShape}
pub use Rattle.polcert_rules.specs.declared.row.ActionRules.{ActionRules}
pub use Rattle.polcert_rules.specs.declared.row.EntryRow.{EntryRow}
pub use Rattle.polcert_rules.specs.declared.row_rules.CellRules.{CellRules}
pub use Rattle.polcert_rules.specs.declared.row_store.Part.{Part}
pub use Rattle.polcert_rules.specs.declared.row_store.RowOrigin.{RowOrigin}
pub use Rattle.polcert_rules.specs.declared.row_store.SharedRow.{SharedRow}
pub use Rattle.polcert_rules.specs.declared.rows.RowForm.TheVariants.{Full, Sparse}
pub use Rattle.polcert_rules.specs.declared.rows.RowLocation.{RowLocation}
pub use Rattle.polcert_rules.specs.declared.rows.Shape.{Shape}
pub use Rattle.polcert_rules.specs.declared.zeros.RowZeros.{RowZeros}
pub use Rattle.polcert_rules.specs.declared.zeros.SplitRules.{SplitRules}
pub use Rattle.std.proofs.lemmas.Bool.{cases_lt}
pub use Rattle.std.proofs.lemmas.Bool.Decides.{nat_tests}
pub use Rattle.std.proofs.lemmas.List.{drop_all, drop_more, get_or-replicate, get_or_append_left, get_or_default, get_or_past, map-append}
pub use Rattle.std.proofs.lemmas.List.{take_more}
pub use Rattle.std.proofs.lemmas.List.Elements.{All-cons, All-head, All-nil, All-push, All-tail, Contains-append_cases}
pub use Rattle.std.proofs.lemmas.List.Elements.{Contains-append_left, Contains-append_right, Contains-get_or}
pub use Rattle.std.proofs.lemmas.List.Kept.{AllPairs-cons}
pub use Rattle.std.proofs.lemmas.List.Sorted.{Contains-permutation, IsNonDecreasingBy-from_sort_by_key, IsPartitionPoint-from_clause}
pub use Rattle.std.proofs.lemmas.List.Sorted.{IsPartitionedBy-ltb, IsPermutation-sym}
pub use Rattle.std.proofs.lemmas.Nat.{div-mul-add, mod-mul-add, mul-add-lt}
pub use Rattle.std.proofs.lemmas.Option.{get_or_from_slice_get, same_Some, slice_get-get_or, slice_get-map, slice_get_within}
pub use Rattle.std.specs.List.{list_any}
pub use Rattle.std.specs.List.Sorted.{IsNonDecreasingBy, IsPartitionedBy}
