-- Helper definitions of private functions: what a search for the least constant answers. Nobody has to believe them.
use Rattle.std.specs.Prelude.{ℤ, Result, IfOk, IfErr}
use Rattle.polcert_policy.specs.Vectors.{PolicyVectors}
use Rattle.polcert_check.specs.Horizon.{Controller}
use Rattle.polcert_check.specs.Lower.{IsLeastConstant, IsNotLowered, RefusesSmallAmount}
use Rattle.polcert_check.specs.Raise.{IsLeastRaise, IsNotRaised, RefusesSmallRaise}
use Rattle.polcert_check.specs.declared.fault.LowerFault.{LowerFault}
use Rattle.polcert_check.specs.declared.fault.RaiseFault.{RaiseFault}

-- the least constant, or why there is none, with a small amount
pub record IsLeastAnswer {F : Type 0} (Least : ℤ → Type 0) (Refused Small : F → Type 0) (result : Result ℤ F) : Type 0 where
  pub least : IfOk result Least
  pub refused : IfErr result Refused
  pub small : IfErr result Small

-- the least constant by which the vectors are lowered
abbrev pub IsLowerAnswer : Controller → PolicyVectors → Result ℤ LowerFault → Type 0
IsLowerAnswer c v result = IsLeastAnswer (IsLeastConstant c v) (IsNotLowered c v) (RefusesSmallAmount c) result

-- the least constant by which they are raised
abbrev pub IsRaiseAnswer : Controller → PolicyVectors → Result ℤ RaiseFault → Type 0
IsRaiseAnswer c v result = IsLeastAnswer (IsLeastRaise c v) (IsNotRaised c v) (RefusesSmallRaise c) result
