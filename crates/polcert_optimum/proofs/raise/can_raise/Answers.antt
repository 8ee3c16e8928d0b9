use Rattle.std.proofs.Common.{arith, refl}
use Rattle.polcert_optimum.proofs.raise.can_raise.Goals as goal

pub returns : goal.returns
returns c = (
  (λ yes n s nl. c.loop-n.invariant n s (omega arith)),
  λ can. refl,
)
