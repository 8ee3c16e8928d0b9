use Rattle.polcert_tables.proofs.Common.{meaning, AddsCells}
use Rattle.polcert_tables.proofs.dense.push_rewards.Given as goal

abbrev pub invariant-loop : goal.invariant-loop
invariant-loop l = AddsCells ((meaning l.model).r l.a l.s l.e) l.counter l.fn.cells.items l.cells.items

abbrev pub invariant-loop-z : goal.invariant-loop-z
invariant-loop-z l = AddsCells ((meaning l.model).r l.a l.s l.e) l.z l.fn.cells.items l.cells.items
