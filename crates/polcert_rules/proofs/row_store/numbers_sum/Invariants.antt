use Rattle.std.proofs.Common.{◌≡◌, ◌+◌, drop, sum}
use Rattle.polcert_rules.proofs.row_store.numbers_sum.Given as goal

abbrev pub invariant-loop-number : goal.invariant-loop-number
invariant-loop-number l = l.total + sum (drop l.number-index l.numbers) ≡ sum l.numbers
