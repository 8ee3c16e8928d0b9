use Rattle.std.proofs.Common.{◌≡◌, ◌≤◌, unsigned_abs}
use Rattle.polcert_optimum.proofs.Common.{largest, value_of, greatest_below}
use Rattle.polcert_optimum.proofs.seen_start.greatest_at.Given as goal

-- the greatest so far
abbrev pub invariant-loop-n : goal.invariant-loop-n
invariant-loop-n l = record {
  is : l.greatest ≡ greatest_below (λ i. value_of l.vectors i l.s) l.n;
  small : unsigned_abs l.greatest ≤ largest;
}
