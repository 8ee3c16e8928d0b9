-- Helper definitions of private functions: the rewards of the observations for which a node has a successor. Nobody has to
-- believe them.
use Rattle.std.specs.Prelude.{ℕ, ◌≤◌, ℤ, unsigned_abs, Option, Some, None}
use Rattle.std.proofs.Common.{zero-le}
use Rattle.polcert_text.specs.Numbers.{largest}
use Rattle.polcert_cells.specs.Tables.{CellTable, IsProper, IsWithinLimits}
use Rattle.polcert_check.specs.Horizon.{Controller}
use Rattle.polcert_check.specs.Shortfall.{at_node}

-- the cells, where an observation for which n has no successor earns nothing
abbrev pub followed : Controller → ℕ → CellTable
followed c n = record c.cells { r = λ a s e z. at_node (λ m. c.cells.r a s e z) (c.next n z) }

pub followed_is_proper : (c : Controller) (n : ℕ) → IsProper c.cells → IsProper (followed c n)
followed_is_proper c n p = record { t_rows = p.t_rows; o_rows = p.o_rows }

small_or_nothing : (h : ℤ) (at : Option ℕ) → unsigned_abs h ≤ largest → unsigned_abs (at_node (λ m. h) at) ≤ largest
small_or_nothing h None l = zero-le
small_or_nothing h (Some m) l = l

pub followed_is_within : (c : Controller) (n : ℕ) → IsWithinLimits c.cells → IsWithinLimits (followed c n)
followed_is_within c n limits = record {
  states = limits.states;
  actions = limits.actions;
  observations = limits.observations;
  pairs = limits.pairs;
  discount = limits.discount;
  t_scale = limits.t_scale;
  o_scale = limits.o_scale;
  r = λ a s e z al sl el zl. small_or_nothing (c.cells.r a s e z) (c.next n z) (limits.r a s e z al sl el zl);
}
