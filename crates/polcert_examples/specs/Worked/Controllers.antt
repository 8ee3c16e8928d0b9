-- Small tables and controllers, for the worked rows of the definitions: controllers of one node.
use Rattle.std.specs.Prelude.{ℕ, zero, suc, ◌*◌, ℤ, pos, neg_ℤ, Option, Some, None}
use Rattle.polcert_cells.specs.Tables.{CellTable}
use Rattle.polcert_check.specs.Horizon.{Controller}

-- one state and one action; the observations are the same; the discount is one half, and each step earns -1
abbrev pub one_state : ℕ → CellTable
one_state observations = record {
  states = 1;
  actions = 1;
  observations = observations;
  discount = 500_000;
  t_scale = 1_000_000;
  o_scale = 1_000_000 * observations;
  t = λ a s e. 1_000_000;
  o = λ a e z. 1_000_000;
  r = λ a s e z. neg_ℤ (pos 1_000_000);
}

-- one node with this value everywhere, that follows itself
abbrev pub one_node : CellTable → ℤ → Controller
one_node cells value = record {
  cells = cells;
  nodes = 1;
  action = λ n. 0;
  next = λ n z. Some 0;
  value = λ n s. value;
}

-- none follows but for the first observation
abbrev pub first_followed : ℕ → Option ℕ
first_followed zero = Some 0
first_followed (suc z) = None

-- one node that follows itself for the first of two observations, and has no successor for the second
abbrev pub half_followed : ℤ → Controller
half_followed value = record (one_node (one_state 2) value) { next = λ n z. first_followed z }
