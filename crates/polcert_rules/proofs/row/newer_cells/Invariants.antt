use Rattle.std.proofs.Common.{◌≡◌, ℕ, ◌++◌, drop}
use Rattle.polcert_rules.proofs.Common.{newer_cells, covering_entry}
use Rattle.polcert_rules.proofs.row.newer_cells.Given as goal

abbrev pub invariant-loop-rule : goal.invariant-loop-rule
invariant-loop-rule l = (s : ℕ) →
    l.newer.items ++ newer_cells l.columns l.entries (covering_entry l.row) s (drop l.rule-index l.row.cells.rules.items)
    ≡ newer_cells l.columns l.entries (covering_entry l.row) s l.row.cells.rules.items
