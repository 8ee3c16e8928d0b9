-- One vector of two values can be lowered by a millionth.
use Rattle.std.proofs.Common.{◌≡◌, ℤ, pos, negsuc, ◌≤ℤ◌, false, arith}
use Rattle.std.specs.Int.Signed.{le_z}
use mir.Syntax.{w64}
use mir.Val.{to_z, of_z}
use Rattle.polcert_policy.proofs.Common.{PolicyVectors, value_of, IsInRange, CanShift}

pub can_lower_two : (v : PolicyVectors) → v.nodes ≡ 1 → v.states ≡ 2 → negsuc 9_999_999_999_998 ≤ℤ value_of v 0 0
    → value_of v 0 0 ≤ℤ pos 10_000_000_000_000
    → negsuc 9_999_999_999_998 ≤ℤ value_of v 0 1 → value_of v 0 1 ≤ℤ pos 10_000_000_000_000 → CanShift v (negsuc 0)
can_lower_two = grind arith

-- a value that is not the least
pub above_least : (x h : ℤ) → IsInRange x → x ≡ h → le_z (to_z w64 (of_z w64 x)) (negsuc 9_999_999_999_999) ≡ false
    → (negsuc 9_999_999_999_998 ≤ℤ h) × (h ≤ℤ pos 10_000_000_000_000)
above_least = grind arith
