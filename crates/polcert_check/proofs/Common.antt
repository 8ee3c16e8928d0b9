-- The names of std and of specs that several proofs of this crate cite, passed on from one place. Declares nothing.
pub use Rattle.polcert_cells.specs.BorrowedRows.{IsRowOf, after_cells, reached}
pub use Rattle.polcert_cells.specs.CommonRewards.{IsCommonReward, row_reward}
pub use Rattle.polcert_cells.specs.Meaning.{IsSame, Meaning, start_total, start_weight, states_of}
pub use Rattle.polcert_cells.specs.SameCells.{HasSameCells}
pub use Rattle.polcert_cells.specs.Sparse.{IsRow}
pub use Rattle.polcert_cells.specs.Tables.{CellTable, IsProper, IsWithinLimits, table_of}
pub use Rattle.polcert_cells.specs.declared.cells.Row.{Row}
pub use Rattle.polcert_cells.specs.declared.cells.Row.TheVariants.{Scaled}
pub use Rattle.polcert_cells.specs.declared.common_reward.CommonReward.{CommonReward}
pub use Rattle.polcert_cells.specs.declared.common_reward.RewardCell.{RewardCell}
pub use Rattle.polcert_cells.specs.declared.elements.Cell.{Cell}
pub use Rattle.polcert_check.specs.Above.{IsAboveVerdict, MeetsHorizonAbove, NamesSmallAmountAbove, PassesAbove, PromiseAbove}
pub use Rattle.polcert_check.specs.Above.{RewardPromiseAbove}
pub use Rattle.polcert_check.specs.Horizon.{AtMost, Controller, HasCutRun, IsRunInRange, MeetsEveryHorizon, MeetsHorizon, Promise}
pub use Rattle.polcert_check.specs.Horizon.{RewardPromise, controller_of, end_value, is_cut, pairs, reward_part, rewards, rewards_sum, runs}
pub use Rattle.polcert_check.specs.Horizon.{step_scale, step_weight, sum_over, total, total_below, uncut, run_weight, weights_sum}
pub use Rattle.polcert_check.specs.Horizon.{worth_sum}
unfoldable pub use Rattle.polcert_check.specs.Horizon.{one}
pub use Rattle.polcert_check.specs.Lower.{CanLower, IsFirstLack, IsFirstShort, IsLeast, IsLeastConstant, IsNotLowered, IsNotMended}
pub use Rattle.polcert_check.specs.Lower.{NoneLacks, RefusesSmallAmount, lowered_by}
pub use Rattle.polcert_check.specs.Raise.{IsLeastRaise, IsNotRaised}
pub use Rattle.polcert_check.specs.Shortfall.{Lacks, PairPasses, Passes, at_node, backing, most_short, short}
unfoldable pub use Rattle.polcert_check.specs.Shortfall.{largest_amount}
pub use Rattle.polcert_check.specs.StartMost.{IsStartMost, StartPromiseAbove}
pub use Rattle.polcert_check.specs.StartWorth.{IsBestStart, IsCeilQuotient, IsFirstGreatest, IsFloorQuotient, IsStartWorth, StartPromise}
pub use Rattle.polcert_check.specs.StartWorth.{start_sum}
pub use Rattle.polcert_check.specs.Steps.CheckInput.{checked_controller, input_controller}
pub use Rattle.polcert_check.specs.Steps.Exceptions.{AreBefore, AreExcepted, IsWeighed, row_weight, weighed_total}
pub use Rattle.polcert_check.specs.Steps.Factored.{AreKnown, IsEndRun, IsLeastOf, IsPairVerdict, Misses, factored_reward, factored_value}
pub use Rattle.polcert_check.specs.Steps.Factored.{reward_at_end, factored_value_at_end, value_term}
pub use Rattle.polcert_check.specs.Steps.Findings.{IsFirstOf, IsFound, IsFoundBefore, IsPair, IsVerdictFor, IsWalked, IsWorstOf}
pub use Rattle.polcert_check.specs.Steps.FollowedCells.{followed, followed_is_proper, followed_is_within}
pub use Rattle.polcert_check.specs.Steps.Mirrored.{CanMove, IsLeastMove, mirrored, sided, signed_from}
pub use Rattle.polcert_check.specs.Steps.Node.{node_controller}
pub use Rattle.polcert_check.specs.Steps.Products.{successors_below}
pub use Rattle.polcert_check.specs.Steps.Ranges.{IsClosed, IsController, ValuesAreWithin, most_scales, most_sum}
pub use Rattle.polcert_check.specs.Steps.Survey.{IsOfAction}
pub use Rattle.polcert_check.specs.Steps.Values.{AreEndValues, IsMissedBefore}
pub use Rattle.polcert_check.specs.Verdict.{IsBefore, IsLeastLacking, IsVerdict, NamesSmallAmount, PassesBefore}
pub use Rattle.polcert_check.specs.declared.above.AboveVerdict.{AboveVerdict}
pub use Rattle.polcert_check.specs.declared.expected_reward.EndRun.{EndRun}
pub use Rattle.polcert_check.specs.declared.fault.LowerFault.{LowerFault}
pub use Rattle.polcert_check.specs.declared.fault.RaiseFault.{RaiseFault}
pub use Rattle.polcert_check.specs.declared.findings.Findings.{Findings}
pub use Rattle.polcert_check.specs.declared.findings.Mode.{Mode}
pub use Rattle.polcert_check.specs.declared.findings.Mode.TheVariants.{Check, Lowering}
pub use Rattle.polcert_check.specs.declared.findings.Side.{Side}
pub use Rattle.polcert_check.specs.declared.findings.Side.TheVariants.{Above, Below}
pub use Rattle.polcert_check.specs.declared.survey.Verdict.{Verdict}
pub use Rattle.polcert_check.specs.declared.survey.Verdict.TheVariants.{NoSuccessor, Short, Yes}
pub use Rattle.polcert_model.specs.Contents.{meaning}
pub use Rattle.polcert_policy.specs.Graphs.{IsProperGraph, PolicyGraph, nodes}
pub use Rattle.polcert_policy.specs.Vectors.{AreProperVectors, IsInRange, PolicyVectors, value_of}
pub use Rattle.polcert_text.specs.Numbers.{largest}
pub use Rattle.std.proofs.Math.IntN.{*ℤ-zero, *ℤ_comm, +ℤ_assoc, +ℤ_idl, +ℤ_idr, zero-*ℤ}
pub use Rattle.std.proofs.Math.Nat.{pow-zero}
pub use Rattle.std.proofs.lemmas.Bool.{cases_lt}
pub use Rattle.std.proofs.lemmas.Grind.{common_steps, get_or-set_at}
pub use Rattle.std.proofs.lemmas.Int.{fits_signed_from_abs, ints, to_z_pos, unsigned_abs-mul}
pub use Rattle.std.proofs.lemmas.List.Elements.{All-contains, All-head, All-tail, All-weaker}
pub use Rattle.std.proofs.lemmas.Option.{slice_get-get_or}
pub use Rattle.std.proofs.lemmas.Result.{err_from_is_err_and}
pub use Rattle.std.specs.List.{range_with_len}
pub use mir.Syntax.{w128}
