use Rattle.std.proofs.Common.{rules, arith, ◌∙◌}
use Rattle.polcert_optimum.proofs.Common.{w128, value_of}
use Rattle.std.proofs.lemmas.Int.{to_z-of_z}
use Rattle.polcert_optimum.proofs.Checking.Best.{best_same}
use Rattle.polcert_optimum.proofs.Checking.Totals.{same_step_best}
use Rattle.polcert_optimum.proofs.best_values.BestValues.find_total.Goals as goal

pub returns-then-has_row_before-clause-is : goal.returns-then-has_row_before-clause-is
returns-then-has_row_before-clause-is g c =
    let t = g.C.Cells.table _ in
    let pair = c.args.pair.now in
    let same = c.has_row_before.ensures in
    to_z-of_z w128 _ (search rules)
    ∙ c.requires.last_is (same.some c.if-has_row_before.true)
    ∙ best_same t (value_of pair.vectors.now) _ _ _ (same.same c.if-has_row_before.true)

pub returns-then-has_rows_of_action_before-clause-is : goal.returns-then-has_rows_of_action_before-clause-is
returns-then-has_rows_of_action_before-clause-is g c =
    let t = g.C.Cells.table _ in
    let pair = c.args.pair.now in
    let same = c.has_rows_of_action_before.ensures in
    let yes = c.if-has_rows_of_action_before.true in
    to_z-of_z w128 _ (search rules)
    ∙ c.requires.before _ (same.some yes) (omega arith) pair.state_within c.if-pair-lt-KEPT_STATES.true
    ∙ same_step_best t (value_of pair.vectors.now) _ _ _ (same.same yes)
