-- Two doors, of which the one with the prize is seen after the first step. A controller that goes to the same door for ever is worth what
-- its vectors say, exactly; the policy that picks the best vector at each belief changes doors, and earns more.
use Rattle.std.specs.Prelude.{zero, suc, pos, ◌==◌, if◌then◌else◌, Some, [], ◌∷◌}
use Rattle.polcert_cells.specs.Tables.{CellTable}
use Rattle.polcert_check.specs.Horizon.{Controller}
use Rattle.polcert_belief.specs.Belief.{Belief}
use Rattle.polcert_belief.specs.Following.{Selector}

-- the state is the door with the prize, and stays so; what is observed is the state; to go to that door earns 1, with a discount of one half
abbrev pub two_doors : CellTable
two_doors = record {
  states = 2;
  actions = 2;
  observations = 2;
  discount = 500_000;
  t_scale = 2_000_000;
  o_scale = 2_000_000;
  t = λ a s e. if s == e then 2_000_000 else 0;
  o = λ a e z. if e == z then 2_000_000 else 0;
  r = λ a s e z. if a == s then pos 1_000_000 else pos 0;
}

-- node 0 goes to door 0 for ever, and node 1 to door 1: 1 + 1/2 + 1/4 + .. is 2
abbrev pub one_door : Controller
one_door = record {
  cells = two_doors;
  nodes = 2;
  action = λ n. n;
  next = λ n z. Some n;
  value = λ n s. if n == s then pos 2_000_000 else pos 0;
}

-- both states are as likely
abbrev pub even_belief : Belief
even_belief s = 1

-- first node 0, and then the node of the door that was seen first
abbrev pub seen_door : Selector
seen_door [] = 0
seen_door (zero ∷ observations) = 0
seen_door (suc z ∷ observations) = 1

-- first node 0, and then the node of the other door
abbrev pub other_door : Selector
other_door [] = 0
other_door (zero ∷ observations) = 1
other_door (suc z ∷ observations) = 0
