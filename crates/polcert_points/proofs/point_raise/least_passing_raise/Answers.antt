use Rattle.std.proofs.Common.{arith, refl}
use Rattle.polcert_points_form.proofs.RaisedSets.{can_raise_less}
use Rattle.polcert_points.proofs.point_raise.least_passing_raise.Goals as goal

pub pass_raised-requires-clause-room : goal.pass_raised-requires-clause-room
pass_raised-requires-clause-room g c =
    can_raise_less c.args.points.now c.count-count.ensures.proper c.args.most c.probe-by.result
    (omega (arith, c.probe-by.ensures.below, c.loop-least.invariant.below)) c.requires.room

pub loop-least-preserved : goal.loop-least-preserved
loop-least-preserved g c = record {
  between = omega (arith, c.probe-by.ensures.below);
  below = c.loop-least.invariant.below;
  passes = c.loop-least.invariant.passes;
  fails = λ d l yes. c.if-pass_raised.ensures.fails refl d (omega (arith, l)) yes;
}

pub returns-clause-least : goal.returns-clause-least
returns-clause-least g c = record {
  room = can_raise_less c.args.points.now c.count-count.ensures.proper c.args.most c.loop-least.passing c.loop-least.invariant.below
      c.requires.room;
  passes = c.loop-least.invariant.passes;
  least = λ d l yes. c.loop-least.invariant.fails d (omega (arith, l, c.loop-least-test.false)) yes;
}
