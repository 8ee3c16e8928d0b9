use Rattle.std.proofs.Common.{◌≡◌, ◌<◌, ◌++◌, length, take, drop}
use Rattle.polcert_rules.proofs.Common.{newest_from, newest_of_each}
use Rattle.polcert_rules.proofs.index.move_newest_to_front.Given as goal

abbrev pub invariant-loop-place : goal.invariant-loop-place
invariant-loop-place l = record {
  size : length l.rules ≡ length l.fn.rules;
  room : l.kept < l.place;
  whole : take l.kept l.rules ++ newest_from l.last (drop l.place l.rules) ≡ newest_of_each l.fn.rules;
}
