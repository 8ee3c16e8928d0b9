use Rattle.std.proofs.Common.{◌≡◌, ℕ, ◌/◌, ◌%◌, ◌<◌, pos, slice_index_or}
use Rattle.polcert_policy.specs.Vectors.{value_of}
use Rattle.polcert_points.proofs.charges.fill_values.Given as goal

-- the values at the places so far
abbrev pub invariant-loop-k : goal.invariant-loop-k
invariant-loop-k l = (j : ℕ) → j < l.k → slice_index_or l.charges j (pos 0)
    ≡ value_of l.vectors (j / l.vectors.states) (j % l.vectors.states)
