use Rattle.std.proofs.Common.{rules}
use Rattle.polcert_items.proofs.model_so_far.ModelSoFar.preamble_fault.Goals as goal

pub returns-then-is_none : goal.returns-then-is_none
returns-then-is_none c = search rules

pub returns-in-Some-Some : goal.returns-in-Some-Some
returns-in-Some-Some c = search rules
