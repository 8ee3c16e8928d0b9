use Rattle.std.proofs.Common.{◌+ℤ◌, pos, arith}
use Rattle.polcert_policy.specs.Points.{PointValues, value_at}
use Rattle.polcert_policy.specs.Vectors.{IsInRange}
use Rattle.polcert_points_form.proofs.RaisedSets.{raised_less, up_to}
use Rattle.polcert_points_form.proofs.room.room_above.Goals as goal

pub loop-i-preserved : goal.loop-i-preserved
loop-i-preserved c =
    let p : PointValues = c.args.points.now in
    record {
      small = omega (arith, c.room_at-room.ensures.less, c.loop-i.invariant.small);
      room = λ j a jl al.
          up_to (λ k. IsInRange (value_at p k a +ℤ pos c.room_at-room.result)) c.loop-i.i
          (λ k kl. raised_less (value_at p k a) c.loop-i.room c.room_at-room.result
          (c.count-i-end.ensures.proper.values k a (omega (arith, kl, c.loop-i-test.true, c.count-i-end.ensures.count)) al)
          c.room_at-room.ensures.less (c.loop-i.invariant.room k a kl al))
          (c.room_at-room.ensures.room a al) j jl;
      greatest = λ by few can.
          c.room_at-room.ensures.greatest by (c.loop-i.invariant.greatest by few (λ j a jl al. can j a (omega (arith, jl)) al))
          (λ a al. can c.loop-i.i a (omega arith) al);
    }
