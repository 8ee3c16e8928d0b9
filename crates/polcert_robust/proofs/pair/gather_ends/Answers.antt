use Rattle.std.proofs.Common.{◌≡◌, ◌*◌, ℕ, rules, arith}
use Rattle.std.proofs.lemmas.Int.{to_z-of_z}
use mir.Syntax.{w128}
use Rattle.polcert_cells.specs.BorrowedRows.{reached}
use Rattle.polcert_cells.specs.Tables.{CellTable}
use Rattle.polcert_robust.specs.Steps.Pairs.{cells_of, most_worth, near_controller}
use Rattle.polcert_robust.proofs.Holding.{holds_more, holds_none, holds_on}
use Rattle.polcert_robust.proofs.pair.gather_ends.Goals as goal

pub loop-end-init : goal.loop-end-init
loop-end-init g c =
    let start : reached c.t_row-row.result 0 ≡ 0 = grind arith in
    rw start (record {
      held = holds_none _ _ _ _ _;
      within = omega arith;
    })

pub loop-end-preserved : goal.loop-end-preserved
loop-end-preserved g c =
    let k = near_controller c.args.pair.now.input.now in
    let t : CellTable = cells_of c.args.pair.now.input.now in
    let same = c.action-a.ensures.value in
    let next = rw same at c.in-Some.ensures.0 in
    let from : ℕ = reached _ c.loop-end.at in
    rw (c.in-Some.ensures.1, to_z-of_z w128 c.mean_at.result (search rules)) (record {
      held = holds_more _ _ from (t.o_scale * most_worth) _ _ c.loop-end.count c.loop-end.invariant.held
          _ _ c.mean_at.result next.0 next.4 next.2 c.mean_at.ensures.is
          c.mean_at.ensures.small
          (omega arith)
          (omega arith);
      within = omega (arith, next.1);
    })

pub returns : goal.returns
returns g c =
    let t : CellTable = cells_of c.args.pair.now.input.now in
    let same = c.action-a.ensures.value in
    let none = rw same at c.in_default.ensures in
    let from : ℕ = reached _ c.loop-end.at in
    record {
      held = holds_on _ _ from (t.o_scale * most_worth) _ _ c.loop-end.count c.loop-end.invariant.held _ c.loop-end.invariant.within none;
    }
