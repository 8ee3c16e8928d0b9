use Rattle.polcert_items.proofs.Common.{AreUnmarked}
use Rattle.polcert_items.proofs.start_reader.Chosen.new.Given as goal

abbrev pub invariant-loop : goal.invariant-loop
invariant-loop l = AreUnmarked l.counter l.marks
