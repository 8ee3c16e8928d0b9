use Rattle.std.proofs.Common.{rules, arith}
use Rattle.polcert_optimum.proofs.Checking.Reached.{reached_on, reached_more}
use Rattle.polcert_optimum.proofs.best_values.has_rows_of_action_before.Goals as goal

pub loop-end-preserved : goal.loop-end-preserved
loop-end-preserved g c =
    let t = g.C.Cells.table _ in
    let pair = c.args.pair.now in
    let e = c.in-Some.end.column in
    let next = c.in-Some.ensures.0 in
    rw c.in-Some.ensures.1 (record {
      shown = reached_more _ _ _ e next.4 c.loop-end.invariant.shown
          (c.is_same_row-in-Some.ensures _ _ t.observations (search rules) c.o_row.ensures
          c.o_row-observed.ensures);
      within = omega arith;
    })

pub returns-clause-same : goal.returns-clause-same
returns-clause-same g c _ =
    let t = g.C.Cells.table _ in
    record {
      ends = c.is_same_row.ensures _ _ _ (search rules) c.t_row.ensures c.t_row-row.ensures;
      shown = reached_on _ _ _ t.states c.in_default.ensures c.loop-end.invariant.shown;
    }
