use Rattle.std.proofs.Common.{ℕ, ◌<◌, ◌≤◌, pos, ◌+ℤ◌}
use Rattle.polcert_policy.specs.Points.{value_at}
use Rattle.polcert_policy.specs.Vectors.{IsInRange}
use Rattle.polcert_points_form.proofs.room.room_at.Given as goal

-- the greatest constant for the values of the actions so far
abbrev pub invariant-loop-a : goal.invariant-loop-a
invariant-loop-a l = record {
  less : l.least ≤ l.room;
  room : (b : ℕ) → b < l.a → IsInRange (value_at l.points l.i b +ℤ pos l.least);
  greatest : (by : ℕ) → by ≤ l.room → ((b : ℕ) → b < l.a → IsInRange (value_at l.points l.i b +ℤ pos by)) → by ≤ l.least;
}
