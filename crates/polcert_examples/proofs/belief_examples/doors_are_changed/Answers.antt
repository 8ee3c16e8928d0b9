use Rattle.std.proofs.Common.{rules}
use Rattle.polcert_examples.proofs.Doors as doors
use Rattle.polcert_examples.proofs.belief_examples.doors_are_changed.Goals as goal

pub returns : goal.returns
returns c = search (
  rules,
  doors.exact_0_0,
  doors.exact_0_1,
  doors.exact_1_0,
  doors.exact_1_1,
  doors.earns,
  doors.other_earns,
  doors.picks_best,
  doors.passes,
  doors.passes_above,
)
