use Rattle.std.proofs.Common.{◌≡◌, ℕ, ◌<◌}
use Rattle.polcert_check.proofs.end_values.has_same_rows.Given as goal

-- the first states have the row of the first
abbrev pub invariant-loop-s : goal.invariant-loop-s
invariant-loop-s g l = (s e : ℕ) → s < l.s → e < (g.C.Cells.table l.cells).states
    → (g.C.Cells.table l.cells).t l.a s e ≡ (g.C.Cells.table l.cells).t l.a 0 e
