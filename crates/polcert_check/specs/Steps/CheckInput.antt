-- Helper definitions of private functions: the controller of a certificate. Nobody has to believe them.
use Rattle.polcert_cells.specs.declared.cells.Cells.{Ghosts}
use Rattle.polcert_check.specs.Horizon.{Controller, controller_of}
use Rattle.polcert_check.specs.Steps.Mirrored.{sided}
use Rattle.polcert_check.specs.declared.check_input.CheckInput.{CheckInput}

abbrev pub input_controller : {C : Type 0} {g : Ghosts C} → CheckInput C g → Controller
input_controller {C} {g} c = controller_of (g.table c.cells.now) c.graph.now c.vectors.now

-- the controller that is judged: from above its mirror image
abbrev pub checked_controller : {C : Type 0} {g : Ghosts C} → CheckInput C g → Controller
checked_controller {C} {g} c = sided c.side (input_controller c)
