-- The names of std and of specs that several proofs of this crate cite, passed on from one place. Declares nothing.
pub use Rattle.polcert_cells.specs.BorrowedRows.{reached}
pub use Rattle.polcert_cells.specs.Meaning.{HasLimitedNumbers, Meaning, start_total, start_weight, states_of}
pub use Rattle.polcert_cells.specs.Tables.{CellTable, IsProper, IsWithinLimits, table_of}
pub use Rattle.polcert_check.specs.Horizon.{Controller, IsRunInRange, controller_of, runs, total_below}
unfoldable pub use Rattle.polcert_check.specs.Horizon.{one}
unfoldable pub use Rattle.polcert_check.specs.Shortfall.{largest_amount}
pub use Rattle.polcert_check.specs.Steps.Ranges.{IsController, most_scales, most_sum}
pub use Rattle.polcert_optimum.specs.Bound.{DominatesBackup, IsBounded, backup}
pub use Rattle.polcert_optimum.specs.GraphPolicy.{EarnsAsItsPolicy, graph_policy}
pub use Rattle.polcert_optimum.specs.Informed.{AreInformed, BoundEveryObservationPolicy, IsInformed, excess, expected_reward}
pub use Rattle.polcert_optimum.specs.Informed.{expected_value, greatest_below}
pub use Rattle.polcert_optimum.specs.InformedCheck.{most_excess}
pub use Rattle.polcert_optimum.specs.Policy.{History, IsPolicyOf, ObservationPolicy, Policy, after, as_policy, discounted_rewards}
pub use Rattle.polcert_optimum.specs.Policy.{end_state, expected_rewards, expected_total, history_weight, step_scale, step_weight}
pub use Rattle.polcert_optimum.specs.Policy.{total_weight}
pub use Rattle.polcert_optimum.specs.Start.{AreAtMostFromStart, BoundEveryObservationPolicyFromStart, BoundsEveryPolicyFromStart}
pub use Rattle.polcert_optimum.specs.Start.{IsBoundedFromStart, start_scale, sum_over_start}
pub use Rattle.polcert_optimum.specs.Steps.Sums.{AreGreatestValues, AreSmallSums, AreValuesUntil, IsGreatestExcess, best_value, sum_of}
pub use Rattle.polcert_optimum.specs.Steps.Sums.{value_until}
pub use Rattle.polcert_policy.specs.Graphs.{action_of}
pub use Rattle.polcert_policy.specs.Vectors.{PolicyVectors, value_of}
pub use Rattle.polcert_text.specs.Numbers.{largest}
pub use Rattle.std.proofs.Math.IntN.{*ℤ_comm, zero-*ℤ}
pub use Rattle.std.proofs.Math.Nat.{pow-zero}
pub use Rattle.std.proofs.lemmas.Bool.{cases_lt}
pub use Rattle.std.proofs.lemmas.Int.{clamps, ints}
pub use Rattle.std.specs.Int.{int_max}
pub use mir.Syntax.{w128}
