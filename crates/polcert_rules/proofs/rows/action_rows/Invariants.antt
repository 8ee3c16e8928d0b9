use Rattle.polcert_rules.proofs.Common.{AreKept, AreLine, Stays}
use Rattle.polcert_rules.proofs.rows.action_rows.Given as goal

-- the rows so far are kept, and proper
abbrev pub invariant-loop-state : goal.invariant-loop-state
invariant-loop-state l =
    AreLine l.given l.action l.state l.store.rows l.numbers.items
    × AreKept l.given.bodies.shape.columns l.given.bodies.entries.now l.store × Stays l.initial.store.rows l.store.rows
