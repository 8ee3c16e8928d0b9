-- The largest amount of a check, in figures.
use Rattle.std.proofs.Common.{ℕ, ◌*◌, ◌^◌, ◌<◌, ◌≤◌, unsigned_abs, lit<, lit≤}
use Rattle.std.proofs.Math.Nat.{le_trans}
use Rattle.polcert_check.proofs.Common.{CellTable, IsProper, IsWithinLimits, PolicyGraph, IsProperGraph, nodes, PolicyVectors}
use Rattle.polcert_check.proofs.Common.{AreProperVectors, Controller, controller_of, short, most_short, largest_amount, most_sum}
use Rattle.polcert_check.specs.Horizon.{Fits}
use Rattle.polcert_check.proofs.Certificates.{controller_is, values_are_within}
use Rattle.polcert_check.proofs.Lowerings.Shorts.{most_short_le, short_le}

figures : 3 * most_sum ≤ largest_amount
unfolding largest_amount
figures = lit≤ tt

pub most_amount : (c : Controller) → IsWithinLimits c.cells → most_short c ≤ largest_amount
most_amount c limits = le_trans (most_short_le c limits) figures

pub amount_small : (x : CellTable) (graph : PolicyGraph) (vectors : PolicyVectors) → IsProper x → IsWithinLimits x → IsProperGraph graph
    → AreProperVectors vectors → Fits x graph vectors → (n s : ℕ) → n < nodes graph → s < x.states
    → unsigned_abs (short (controller_of x graph vectors) n s) ≤ largest_amount
amount_small x graph vectors proper limits is_graph are_vectors fits n s nl sl =
    let c : Controller = controller_of x graph vectors in
    le_trans (short_le c (controller_is _ _ _ fits proper is_graph) limits (values_are_within _ _ _ fits are_vectors) n s nl sl)
    (most_amount c limits)

pub amount_fits_128 : largest_amount < 2 ^ 127
unfolding largest_amount
amount_fits_128 = lit< tt
