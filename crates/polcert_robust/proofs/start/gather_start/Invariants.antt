use Rattle.std.proofs.Common.{◌≡◌}
use Rattle.polcert_text.specs.Numbers.{largest}
use Rattle.polcert_policy.specs.Vectors.{value_of}
use Rattle.polcert_robust.specs.Start.{scaled_start_weight}
use Rattle.polcert_robust.specs.Steps.Holding.{HoldsRow}
use Rattle.polcert_robust.specs.Steps.Sides.{turned}
use Rattle.polcert_robust.specs.Steps.Starts.{start_of, vectors_in}
use Rattle.polcert_robust.proofs.start.gather_start.Given as goal

-- the states so far
abbrev pub invariant-loop-s : goal.invariant-loop-s
invariant-loop-s l =
    HoldsRow (λ s v. v ≡ turned l.input.side (value_of (vectors_in l.input) l.n s)) (scaled_start_weight (start_of l.input)) l.s largest
    l.weights l.values l.s
