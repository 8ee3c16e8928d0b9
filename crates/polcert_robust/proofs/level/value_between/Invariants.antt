use Rattle.std.proofs.Common.{◌≡◌, ℕ, ◌<◌, ◌≤◌, ◌⊎◌, ◌≤ℤ◌, ◌<ℤ◌, None, IfSome}
use Rattle.polcert_robust.specs.Steps.Rows.{listed_value}
use Rattle.polcert_robust.proofs.level.value_between.Given as goal

abbrev pub invariant-loop-i : goal.invariant-loop-i
invariant-loop-i l = record {
  few : l.seen ≤ l.i;
  some : IfSome l.found (λ value. (l.low <ℤ value) × (value <ℤ l.high));
  none : l.found ≡ None → (k : ℕ) → k < l.i → (listed_value l.row.values.now k ≤ℤ l.low) ⊎ (l.high ≤ℤ listed_value l.row.values.now k);
}
