use Rattle.std.proofs.Common.{◌≡◌, ℕ, ◌<◌, ◌≤◌}
use Rattle.polcert_cells.proofs.cells.first_weight.Given as goal

-- every weight passed over is 0
abbrev pub invariant-loop-column : goal.invariant-loop-column
invariant-loop-column g l = (f : ℕ → ℕ) → ((k : ℕ) (weight : ℕ) → k < l.columns → goal.F-post g l.weight_at k weight → weight ≡ f k)
    → (i : ℕ) → l.from ≤ i → i < l.column → f i ≡ 0
