use Rattle.std.proofs.Common.{◌-◌, length}
use Rattle.polcert_rules.proofs.index.place_of_key.Given as goal

abbrev pub decreases-loop-place : goal.decreases-loop-place
decreases-loop-place l = length l.rules - l.place
