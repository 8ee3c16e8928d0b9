use Rattle.polcert_items.proofs.CoveringLaws.{more_fits}
use Rattle.polcert_items.proofs.model_so_far.Sizes.add_cells.Goals as goal

pub overflow_add-covered : goal.overflow_add-covered
overflow_add-covered c = more_fits c.args.count c.covered_by.result c.requires.count c.covered_by.ensures.few
