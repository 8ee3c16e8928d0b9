use Rattle.std.proofs.Common.{◌≡◌, ◌*◌, ◌^◌, ◌≤◌, unsigned_abs, None}
use Rattle.polcert_check.proofs.Common.{node_controller, IsLeastOf, Misses, successors_below}
use Rattle.polcert_check.proofs.end_values.complete_value_of_numbers.Given as goal

-- the sum so far and how large it is at most, and that no observation lacks a successor
abbrev pub invariant-loop-z : goal.invariant-loop-z
invariant-loop-z g l = record {
  sum : l.sum ≡ successors_below (node_controller l.node) l.node.n l.e l.numbers l.z;
  small : unsigned_abs l.sum ≤ l.z * 2 ^ 95;
  none : IsLeastOf (Misses (node_controller l.node) l.node.n l.e l.z) None;
}
