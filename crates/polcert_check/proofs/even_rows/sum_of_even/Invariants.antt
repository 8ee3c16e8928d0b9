use Rattle.std.proofs.Common.{◌≡◌, ◌+◌, ◌*◌, ◌^◌, ◌≤◌, ℕ, unsigned_abs}
use Rattle.polcert_check.specs.Steps.Products.{IsEvenSum}
use Rattle.polcert_check.proofs.Walking.EvenRows.{until}
use Rattle.polcert_check.proofs.even_rows.sum_of_even.Given as goal

-- the sum with the first exceptions, and how large it is at most
abbrev pub invariant-loop-i : goal.invariant-loop-i
invariant-loop-i l = record {
  sum : (f : ℕ → ℕ) (count : ℕ) → IsEvenSum f count l.weight l.exceptions l.numbers l.total
      → l.sum ≡ until count l.weight l.exceptions l.numbers l.i;
  small : unsigned_abs l.sum ≤ (2 ^ 16 + l.i) * 2 ^ 98;
}
