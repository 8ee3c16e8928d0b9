use Rattle.std.proofs.Common.{ℕ, ◌<◌, pos}
use Rattle.std.specs.Prelude.{◌+ℤ◌}
use Rattle.polcert_optimum.proofs.Common.{value_of}
use Rattle.polcert_policy.specs.Vectors.{IsInRange}
use Rattle.polcert_optimum.proofs.raise.can_raise.Given as goal

abbrev pub invariant-loop-n : goal.invariant-loop-n
invariant-loop-n l = (m t : ℕ) → m < l.n → t < l.vectors.states → IsInRange (value_of l.vectors m t +ℤ pos l.by)

abbrev pub invariant-loop-s : goal.invariant-loop-s
invariant-loop-s l = record {
  nodes : (m t : ℕ) → m < l.n → t < l.vectors.states → IsInRange (value_of l.vectors m t +ℤ pos l.by);
  states : (t : ℕ) → t < l.s → IsInRange (value_of l.vectors l.n t +ℤ pos l.by);
}
