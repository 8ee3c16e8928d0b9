use Rattle.std.proofs.Common.{◌≡◌, pos, ◌*ℤ◌}
use Rattle.polcert_model.specs.Contents.{meaning}
use Rattle.polcert_optimum.proofs.Common.{start_weight, value_of, greatest_below, total_below}
use Rattle.polcert_optimum.proofs.seen_start.seen_sum.Given as goal

-- the sum so far
abbrev pub invariant-loop-s : goal.invariant-loop-s
invariant-loop-s l =
    l.sum ≡ total_below (λ s. pos (start_weight (meaning l.model) s) *ℤ greatest_below (λ n. value_of l.vectors n s) l.vectors.nodes) l.s
