use Rattle.std.proofs.Common.{ℕ, ◌<◌, ◌≤◌, pos, ◌+ℤ◌}
use Rattle.polcert_policy.specs.Points.{value_at}
use Rattle.polcert_policy.specs.Vectors.{IsInRange}
use Rattle.polcert_points_form.proofs.room.room_above.Given as goal

-- the greatest constant for the values of the points so far
abbrev pub invariant-loop-i : goal.invariant-loop-i
invariant-loop-i l = record {
  small : l.room ≤ 20000000000000;
  room : (j a : ℕ) → j < l.i → a < l.points.actions → IsInRange (value_at l.points j a +ℤ pos l.room);
  greatest : (by : ℕ) → by ≤ 20000000000000 → ((j a : ℕ) → j < l.i → a < l.points.actions → IsInRange (value_at l.points j a +ℤ pos by))
      → by ≤ l.room;
}
