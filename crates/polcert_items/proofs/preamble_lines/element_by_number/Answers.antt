use Rattle.std.proofs.Common.{rules}
use Rattle.polcert_items.proofs.preamble_lines.element_by_number.Goals as goal

pub returns-in-Some-clause-element : goal.returns-in-Some-clause-element
returns-in-Some-clause-element c = search rules
