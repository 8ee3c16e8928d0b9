-- Helper definitions of private functions: the controller that a node belongs to. Nobody has to believe them.
use Rattle.polcert_cells.specs.declared.cells.Cells.{Ghosts}
use Rattle.polcert_check.specs.Horizon.{Controller}
use Rattle.polcert_check.specs.Steps.CheckInput.{input_controller}
use Rattle.polcert_check.specs.declared.node.Node.{Node}

abbrev pub node_controller : {C : Type 0} {g : Ghosts C} → Node C g → Controller
node_controller {C} {g} node = input_controller node.input
