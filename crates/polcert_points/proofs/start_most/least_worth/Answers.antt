use Rattle.std.proofs.Common.{rules, arith, ◌≡◌, ◌+◌, ℤ, sym, subst, to_z}
use Rattle.std.proofs.lemmas.Int.{to_z-of_z}
use Rattle.polcert_points.proofs.Common.{w128, Meaning, table_of}
use Rattle.polcert_model.specs.Contents.{meaning}
use Rattle.polcert_points.specs.PointStartMost.{scaled_start}
use Rattle.polcert_points.specs.PointTable.{PointTable, IsProperPointTable, charge_at}
use Rattle.polcert_points.specs.Steps.PointSums.{IsLeastWorth}
use Rattle.polcert_points.proofs.Laters.{some_at}
use Rattle.polcert_points.proofs.PointStartMosts.{least_is, none_tried, one_tried}
use Rattle.polcert_points.proofs.start_most.least_worth.Goals as goal

pub loop-j-init : goal.loop-j-init
loop-j-init g c =
    let m : Meaning = meaning c.args.input.now.cells.now in
    let p : PointTable = g.P.BeliefPoints.table c.args.input.now.points.now in
    rw (to_z-of_z w128 c.worth_covered-least.result (search rules)) (record {
      least = none_tried (table_of m) (charge_at p c.args.input.now.charges.now) p.points (scaled_start m) c.worth_covered-least.result
          c.worth_covered-least.ensures.value;
      others = c.worth_covered-least.ensures.others;
    })

pub loop-j-preserved : goal.loop-j-preserved
loop-j-preserved g c =
    let m : Meaning = meaning c.args.input.now.cells.now in
    let p : PointTable = g.P.BeliefPoints.table c.args.input.now.points.now in
    let proper : IsProperPointTable p = g.met.P.BeliefPoints.is_proper c.args.input.now.points.now in
    record {
      least = subst (λ (x : ℤ). IsLeastWorth (table_of m) (charge_at p c.args.input.now.charges.now) p.points (scaled_start m)
          (c.loop-j.j + 1) x)
          (sym (least_is (to_z w128 c.loop-j.least-bits) c.worth_covered.result c.min-least.result (search rules) (search rules)
          c.min-least.ensures.value))
          (one_tried (table_of m) (charge_at p c.args.input.now.charges.now) p.points (scaled_start m) c.loop-j.j
          (to_z w128 c.loop-j.least-bits) c.worth_covered.result
          (some_at (table_of m) p c.args.input.now.fit proper c.loop-j.j (omega (arith, c.loop-j-test.true, c.count-j-end.ensures)))
          c.loop-j.invariant.least c.worth_covered.ensures.value);
      others = c.worth_covered.ensures.others;
    }

pub returns : goal.returns
returns g c =
    let p : PointTable = g.P.BeliefPoints.table c.args.input.now.points.now in
    let same_end : c.loop-j.j ≡ p.points.count = omega (arith, c.loop-j-test.false, c.loop-j.auto, c.count-j-end.ensures) in
    rw same_end at c.loop-j.invariant.least
