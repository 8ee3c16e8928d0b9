use Rattle.std.proofs.Common.{◌≡◌, ◌*◌, ◌^◌, ◌≤◌, unsigned_abs}
use Rattle.polcert_check.specs.Steps.Products.{products_below}
use Rattle.polcert_check.proofs.ends.sum_of_products.Given as goal

-- the sum so far, and how large it is at most
abbrev pub invariant-loop-i : goal.invariant-loop-i
invariant-loop-i l = record {
  sum : l.sum ≡ products_below l.numbers l.values l.i;
  small : unsigned_abs l.sum ≤ l.i * 2 ^ 95;
}
