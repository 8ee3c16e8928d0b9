-- Models that are not too large to print.
-- Our own: the file format page at pomdp.org sets no limit.
use Rattle.std.specs.Prelude.{◌*◌, ◌≤◌}
use Rattle.polcert_cells.specs.Elements.{count_of}
use Rattle.polcert_cells.specs.Preamble.{Preamble, observed, rewarded}
use Rattle.polcert_format.specs.Limits.{most_cells}

-- no table has more cells than are printed
pub record IsPrintable (p : Preamble) : Type 0 where
  pub transitions : count_of p.actions * count_of p.states * count_of p.states ≤ most_cells
  pub observations : count_of p.actions * count_of p.states * count_of (observed p) ≤ most_cells
  pub rewards : count_of p.actions * count_of p.states * count_of p.states * count_of (rewarded p) ≤ most_cells
