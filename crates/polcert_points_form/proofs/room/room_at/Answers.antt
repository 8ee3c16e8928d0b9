use Rattle.std.proofs.Common.{◌≡◌, ◌∙◌, ℕ, ◌+◌, ◌≤◌, ◌+ℤ◌, ◌-ℤ◌, pos, w64, to_z, of_z, subst, arith}
use Rattle.std.proofs.lemmas.Int.{to_z-of_z}
use Rattle.polcert_policy.specs.Points.{PointValues, value_at}
use Rattle.polcert_policy.specs.Vectors.{IsInRange}
use Rattle.polcert_policy.proofs.VectorEndLaws.{in_range_fits}
use Rattle.polcert_points_form.proofs.RaisedSets.{raised_less, within_gap, gap_greatest, up_to}
use Rattle.polcert_points_form.proofs.room.room_at.Goals as goal

pub loop-a-preserved : goal.loop-a-preserved
loop-a-preserved c =
    let p : PointValues = c.args.points.now in
    let i : ℕ = c.args.i in
    let a : ℕ = c.loop-a.a in
    let value : to_z w64 (of_z w64 c.value.result) ≡ value_at p i a =
    to_z-of_z w64 c.value.result (in_range_fits c.value.result c.value.ensures.in_range) ∙ c.value.ensures.value in
    let gap : pos c.room_above_value.result ≡ pos 10000000000000 -ℤ value_at p i a = rw value at c.room_above_value.ensures in
    let less : c.min-least.result ≤ c.loop-a.least = omega (arith, c.min-least.ensures) in
    let below : c.min-least.result ≤ c.room_above_value.result = omega (arith, c.min-least.ensures) in
    record {
      less = omega (arith, less, c.loop-a.invariant.less);
      room = up_to (λ b. IsInRange (value_at p i b +ℤ pos c.min-least.result)) a
          (λ b bl. raised_less (value_at p i b) c.loop-a.least c.min-least.result
          (c.count-count.ensures.proper.values i b c.requires.point (omega (arith, bl, c.loop-a-test.true, c.actions-a-end.ensures))) less
          (c.loop-a.invariant.room b bl))
          (within_gap (value_at p i a) c.room_above_value.result c.min-least.result
          (subst IsInRange c.value.ensures.value c.value.ensures.in_range) gap below);
      greatest = λ by few can.
          omega (
            arith,
            c.min-least.ensures,
            c.loop-a.invariant.greatest by few (λ b bl. can b (omega (arith, bl))),
            gap_greatest
                (value_at p i a) c.room_above_value.result by gap (can a (omega arith)),
          );
    }
