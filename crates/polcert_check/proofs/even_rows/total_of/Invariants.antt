use Rattle.std.proofs.Common.{◌≡◌, ◌*◌, ◌≤◌, pos, slice_index_or, unsigned_abs}
use Rattle.polcert_check.proofs.Common.{largest, total_below}
use Rattle.polcert_check.proofs.even_rows.total_of.Given as goal

-- the sum so far, and how large it is at most
abbrev pub invariant-loop-i : goal.invariant-loop-i
invariant-loop-i l = record {
  sum : l.sum ≡ total_below (λ c. slice_index_or l.numbers c (pos 0)) l.i;
  small : unsigned_abs l.sum ≤ l.i * largest;
}
