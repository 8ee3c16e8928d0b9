use Rattle.std.proofs.Common.{◌≡◌, ℕ, arith}
use Rattle.polcert_cells.specs.BorrowedRows.{reached}
use Rattle.polcert_check.proofs.Walking.Missing.{before_more, before_on}
use Rattle.polcert_robust.specs.Steps.Pairs.{cells_of, near_controller, near_table}
use Rattle.polcert_robust.proofs.EndMeans.{ready_more, ready_on}
use Rattle.polcert_robust.proofs.pair.find_end_means.Goals as goal

pub loop-end-init : goal.loop-end-init
loop-end-init g c =
    let start : reached c.t_row-row.result 0 ≡ 0 = grind arith in
    rw start (record {
      kept = c.requires.kept;
      ready = λ e l some. absurd (omega arith);
      least = λ z missed. absurd (omega arith);
      within = omega arith;
    })

pub loop-end-preserved : goal.loop-end-preserved
loop-end-preserved g c =
    let k = near_controller c.args.pair.now.input.now in
    let i = near_table c.args.pair.now.input.now in
    let same = c.action-a.ensures.value in
    let next = rw same at c.in-Some.ensures.0 in
    let from : ℕ = reached _ c.loop-end.at in
    rw (c.in-Some.ensures.1) (record {
      kept = c.find_end_mean-lacking.ensures.kept;
      ready = ready_more i k c.args.pair.now.n c.args.pair.now.s from c.in-Some.end.column _
          _ next.4 c.loop-end.invariant.ready c.find_end_mean-lacking.ensures.others
          c.find_end_mean-lacking.ensures.ready;
      least = before_more k _ _ from _ _ _ _ _ next.0 next.4 next.2 next.3 c.loop-end.invariant.least
          c.find_end_mean-lacking.ensures.missing c.min_missing-missing.ensures;
      within = omega arith;
    })

pub returns : goal.returns
returns g c =
    let k = near_controller c.args.pair.now.input.now in
    let i = near_table c.args.pair.now.input.now in
    let same = c.action-a.ensures.value in
    let none = rw same at c.in_default.ensures in
    let from : ℕ = reached _ c.loop-end.at in
    record {
      kept = c.loop-end.invariant.kept;
      ready = ready_on i k c.args.pair.now.n _ from (cells_of c.args.pair.now.input.now).states c.loop-end.buffers.ends none
          c.loop-end.invariant.ready;
      missing = before_on k _ _ from (cells_of c.args.pair.now.input.now).states
          c.loop-end.invariant.within none _ c.loop-end.invariant.least;
    }
