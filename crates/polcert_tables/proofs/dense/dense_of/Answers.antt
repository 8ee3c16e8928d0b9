use Rattle.std.proofs.Common.{sym}
use Rattle.polcert_tables.proofs.Common.{table_of, meaning, filled_table}
use Rattle.polcert_tables.specs.Filled.{lists_of}
use Rattle.polcert_tables.proofs.FilledLaws as filled
use Rattle.polcert_tables.proofs.dense.dense_of.Goals as goal

pub invariant_of-result : goal.invariant_of-result
invariant_of-result c =
    let m = table_of (meaning c.args.model.now) in
    let l = lists_of c.states.result c.actions.result c.observations.result c.discount.result c.in_ok-transitions_of.field-0.items
    c.in_ok-observed_of.field-0.items c.in_ok-rewards_of.field-0.items in
    let limits = filled.table_limits (meaning c.args.model.now) c.args.model.now.limits in
    let actions = c.actions.ensures.elements in
    let states = c.states.ensures.elements in
    let observations = c.observations.ensures.elements in
    let same = filled.same_cells m l (sym actions) (sym states) (sym observations) (sym c.discount.ensures) limits
    c.in_ok-transitions_of.ensures c.in_ok-observed_of.ensures c.in_ok-rewards_of.ensures in (
      filled.three_counted _ _ _ _ _ _ _ actions states states
          c.in_ok-transitions_of.ensures.count,
      (
        filled.three_counted _ _ _ _ _ _ _ actions states observations
            c.in_ok-observed_of.ensures.count,
        (
          filled.four_counted _ _ _ _ _ _ _ _ _ actions states states observations
              c.in_ok-rewards_of.ensures.count,
          (
            filled.same_rows m (filled_table l) same
                (filled.table_rows (meaning c.args.model.now) c.args.model.now.rows),
            (filled.same_limits m (filled_table l) same limits, tt),
          ),
        ),
      ),
    )
