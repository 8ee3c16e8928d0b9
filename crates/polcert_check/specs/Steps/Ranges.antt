-- Helper definitions of private functions: a controller's ranges, and how large its sums may get. Nobody has to believe them.
use Rattle.std.specs.Prelude.{◌≡◌, ℕ, ◌<◌, ◌≤◌, unsigned_abs, ◌*◌, Some}
use Rattle.polcert_text.specs.Numbers.{largest}
use Rattle.polcert_cells.specs.Tables.{IsProper}
use Rattle.polcert_check.specs.Horizon.{Controller}

-- actions and successors are in range
pub record IsClosed (c : Controller) : Type 0 where
  pub actions_in_range : (n : ℕ) → n < c.nodes → c.action n < c.cells.actions
  pub next_in_range : (n z m : ℕ) → n < c.nodes → z < c.cells.observations → c.next n z ≡ Some m → m < c.nodes

-- rows sum to their scale, and actions and successors are in range
pub record IsController (c : Controller) : Type 0 where
  pub cells : IsProper c.cells
  pub closed : IsClosed c

abbrev pub ValuesAreWithin : Controller → Type 0
ValuesAreWithin c = (n s : ℕ) → n < c.nodes → s < c.cells.states → unsigned_abs (c.value n s) ≤ largest

-- ---- how large a sum may get

-- the largest product of the scales of T and O
abbrev pub most_scales : ℕ
most_scales = 5_000_000_000_000_000_000

-- the largest of what a value comes to on the scale of one step, in millionths of millionths
abbrev pub most_sum : ℕ
most_sum = most_scales * 1_000_000 * largest
