use Rattle.std.proofs.Common.{rules}
use Rattle.polcert_points_form.proofs.print_points.item_separator.Goals as goal

pub returns-then-item-count : goal.returns-then-item-count
returns-then-item-count c = search rules
