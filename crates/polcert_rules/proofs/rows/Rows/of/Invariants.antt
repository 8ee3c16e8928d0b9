use Rattle.polcert_rules.proofs.Common.{AreKept, AreLines}
use Rattle.polcert_rules.specs.Steps.Sources.{AreIndexedEntries}
use Rattle.polcert_rules.proofs.rows.Rows.of.Given as goal

-- the rows of the actions so far are kept, and proper
abbrev pub invariant-loop-action : goal.invariant-loop-action
invariant-loop-action l = AreIndexedEntries l.given × AreLines l.given l.action l.store.rows l.numbers
    × AreKept l.shape.columns l.entries l.store
