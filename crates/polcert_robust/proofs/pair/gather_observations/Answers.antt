use Rattle.std.proofs.Common.{◌≡◌, ℕ, rules, arith}
use Rattle.std.proofs.lemmas.Int.{to_z-of_z}
use mir.Syntax.{w128}
use Rattle.polcert_cells.specs.BorrowedRows.{reached}
use Rattle.polcert_check.specs.Horizon.{Controller}
use Rattle.polcert_check.proofs.Walking.Missing.{end_more}
use Rattle.polcert_robust.specs.Steps.Pairs.{cells_of, most_worth, near_controller}
use Rattle.polcert_robust.proofs.Holding.{holds_more, holds_none, holds_on}
use Rattle.polcert_robust.proofs.pair.gather_observations.Goals as goal

pub loop-observation-init : goal.loop-observation-init
loop-observation-init g c =
    let start : reached c.o_row-row.result 0 ≡ 0 = grind arith in
    rw start (record {
      held = holds_none _ _ _ _ _;
      least = λ z missed. absurd (omega arith);
      within = omega arith;
    })

pub loop-observation-preserved : goal.loop-observation-preserved
loop-observation-preserved g c =
    let k : Controller = near_controller c.args.end.now.pair.now.input.now in
    let same = c.action-a.ensures.value in
    let next = rw same at c.in-Some.ensures.0 in
    let from : ℕ = reached _ c.loop-observation.at in
    rw (c.in-Some.ensures.1, to_z-of_z w128 c.worth_at-part.result.mean (search rules)) (record {
      held = holds_more _ _ from most_worth _ _ c.loop-observation.count c.loop-observation.invariant.held
          _ _ c.worth_at-part.result.mean next.0 next.4 next.2
          c.worth_at-part.ensures.is c.worth_at-part.ensures.small
          (omega arith)
          (omega arith);
      least = end_more k c.args.end.now.pair.now.n _ from _ c.in-Some.observation.weight
          _ _ c.min_missing-missing.result next.0 next.4 next.2 next.3
          c.loop-observation.invariant.least c.worth_at-part.ensures.missing c.min_missing-missing.ensures;
      within = omega arith;
    })

pub returns-clause-held : goal.returns-clause-held
returns-clause-held g c =
    let same = c.action-a.ensures.value in
    let none = rw same at c.in_default.ensures in
    holds_on _
    _
    _
    _ _ _ _ c.loop-observation.invariant.held
    (cells_of c.args.end.now.pair.now.input.now).observations c.loop-observation.invariant.within none
