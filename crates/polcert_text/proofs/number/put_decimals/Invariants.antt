use Rattle.std.proofs.Common.{◌++◌, ◌≤◌, take}
use Rattle.polcert_text.proofs.Common.{decimals}
use Rattle.polcert_text.proofs.Numbers.DecimalLaws.{IsUnit}
use Rattle.polcert_text.proofs.number.put_decimals.Given as goal

abbrev pub invariant-loop-rest : goal.invariant-loop-rest
invariant-loop-rest l = IsUnit l.unit l.rest (take l.end l.text) (take l.fn.at l.fn.text ++ decimals 6 l.fn.rest) × (l.fn.at ≤ l.end)

abbrev pub decreases-loop-rest : goal.decreases-loop-rest
decreases-loop-rest l = l.unit
