use Rattle.std.proofs.Common.{◌≡◌, map, take}
use Rattle.std.specs.Prelude.{◌+ℤ◌}
use Rattle.polcert_policy.proofs.vectors.shifted_values.Given as goal

abbrev pub invariant-loop-value : goal.invariant-loop-value
invariant-loop-value l = l.shifted.items ≡ map (λ h. h +ℤ l.fn.by) (take l.value-index l.values)
