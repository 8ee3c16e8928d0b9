-- A helper definition: the controller by which bounds from above are bounds from below. Nobody has to believe it.
use Rattle.std.specs.Prelude.{◌≡◌, ℕ, ◌<◌, ℤ, pos, neg_ℤ, ◌+ℤ◌}
use Rattle.polcert_policy.specs.Vectors.{PolicyVectors, value_of, IsInRange}
use Rattle.polcert_check.specs.Lower.{IsLeast}
use Rattle.polcert_check.specs.declared.fault.LowerFault.{LowerFault}
use Rattle.polcert_check.specs.declared.fault.LowerFault.TheVariants as lower
use Rattle.polcert_check.specs.declared.fault.RaiseFault.{RaiseFault}
use Rattle.polcert_check.specs.declared.fault.RaiseFault.TheVariants as raise
use Rattle.polcert_check.specs.declared.findings.Side.{Side}
use Rattle.polcert_check.specs.declared.findings.Side.TheVariants.{Below, Above}
use Rattle.polcert_check.specs.Horizon.{Controller}
use Rattle.polcert_check.specs.declared.survey.Verdict.{Verdict}
use Rattle.polcert_check.specs.declared.survey.Verdict.TheVariants.{Yes, Short, NoSuccessor}
use Rattle.polcert_check.specs.declared.above.AboveVerdict.{AboveVerdict}
use Rattle.polcert_check.specs.declared.above.AboveVerdict.TheVariants as above

-- a number, or from above its negative
abbrev pub signed_from : Side → ℤ → ℤ
signed_from Below x = x
signed_from Above x = neg_ℤ x

-- the same controller, from above with each reward and each value negated
abbrev pub sided : Side → Controller → Controller
sided side c = record c { cells = record c.cells { r = λ a s e z. signed_from side (c.cells.r a s e z) }; value = λ n s. signed_from side (c.value n s) }

abbrev pub mirrored : Controller → Controller
mirrored c = sided Above c

-- every vector value less `by` is in range, or from above every value and `by`
abbrev pub CanMove : Side → PolicyVectors → ℕ → Type 0
CanMove side v by = (n s : ℕ) → n < v.nodes → s < v.states → IsInRange (signed_from side (value_of v n s) +ℤ neg_ℤ (pos by))

-- the least constant by which a controller passes, with all values in range
abbrev pub IsLeastMove : Controller → (ℕ → Type 0) → ℤ → Type 0
IsLeastMove c Can x = (by : ℕ) × (x ≡ pos by) × IsLeast c by × Can by

-- what a verdict on the mirror image says from above
abbrev pub above_of : Verdict → AboveVerdict
above_of Yes = above.Yes
above_of (Short n s amount) = above.Long n s amount
above_of (NoSuccessor n s z) = above.NoSuccessor n s z

-- what a refusal to lower the mirror image says from above
abbrev pub raise_of : LowerFault → RaiseFault
raise_of (lower.NoSuccessor n s z) = raise.NoSuccessor n s z
raise_of (lower.NoConstant n s amount) = raise.NoConstant n s amount
raise_of lower.OutOfRange = raise.OutOfRange
raise_of lower.Memory = raise.Memory
