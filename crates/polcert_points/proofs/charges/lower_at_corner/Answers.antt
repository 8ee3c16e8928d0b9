use Rattle.std.proofs.Common.{rules, arith, ◌∙◌, ◌≡◌, ◌*◌, ◌<◌, length, inr}
use Rattle.polcert_points.specs.PointTable.{PointTable, charge_at}
use Rattle.polcert_points.proofs.LeastCharges.{min_is, one_lowered, others_more, lowered_all}
use Rattle.polcert_points.proofs.charges.lower_at_corner.Goals as goal

pub loop-a-preserved : goal.loop-a-preserved
loop-a-preserved g c =
    let p : PointTable = g.P.BeliefPoints.table c.args.points.now in
    let least = min_is (charge_at p c.loop-a.charges c.loop-a.a c.args.s) c.value.result (p.points.value c.args.i c.loop-a.a) c.min.result
    (search rules) (search rules) (search rules) (rw c.states-states.ensures at c.min.ensures.value) c.value.ensures in
    let within : c.loop-a.a < p.actions = omega (arith, c.loop-a-test.true, c.actions-a-end.ensures) in
    let room : length c.loop-a.charges ≡ p.actions * p.states = c.loop-a.auto.charges ∙ c.requires.room in
    rw c.states-states.ensures (record {
      lowered = one_lowered p c.args.charges.now c.loop-a.charges (p.points.value c.args.i) c.loop-a.a c.args.s within c.requires.corner.0
          room c.loop-a.invariant.lowered c.loop-a.invariant.others _ least;
      others = others_more p c.args.charges.now c.loop-a.charges (p.points.value c.args.i) c.loop-a.a c.args.s within c.requires.corner.0
          room c.loop-a.invariant.lowered c.loop-a.invariant.others _;
    })

pub returns : goal.returns
returns g c =
    let p : PointTable = g.P.BeliefPoints.table c.args.points.now in
    λ vectors before.
    lowered_all p vectors c.args.charges.now c.loop-a.charges c.args.i c.args.s c.requires.corner
    (λ b bl. c.loop-a.invariant.lowered b (omega (arith, bl, c.loop-a-test.false, c.loop-a.auto, c.actions-a-end.ensures)))
    (λ b u ul no. c.loop-a.invariant.others b u ul (inr no)) before
