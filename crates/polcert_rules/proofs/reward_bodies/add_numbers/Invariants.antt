use Rattle.std.proofs.Common.{◌≡◌, ◌++◌, map, drop}
use Rattle.polcert_rules.proofs.Common.{worth}
use Rattle.polcert_rules.proofs.reward_bodies.add_numbers.Given as goal

abbrev pub invariant-loop-h : goal.invariant-loop-h
invariant-loop-h l =
    l.numbers.items ++ map (worth l.costs) (drop l.h-index l.written) ≡ l.initial.numbers.items ++ map (worth l.costs) l.written
