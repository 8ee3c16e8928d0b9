-- The tiger of two doors with the graph and the lowered vectors of `examples/tiger.pg` and `examples/tiger.lowered.alpha`: node 0 listens
-- and knows nothing, nodes 1 and 2 listen and have heard the tiger once more on the left and on the right, nodes 3 and 4 open the right and
-- the left door.
use Rattle.std.specs.Prelude.{ℕ, zero, suc, ℤ, pos, neg_ℤ, ◌==◌, if◌then◌else◌, Some, [], ◌∷◌}
use Rattle.polcert_check.specs.Horizon.{Controller}
use Rattle.polcert_belief.specs.Following.{Selector}
use Rattle.polcert_examples.specs.Worked.TigerBound.{tiger}

abbrev pub node_action : ℕ → ℕ
node_action (suc (suc (suc zero))) = 2
node_action (suc (suc (suc (suc n)))) = 1
node_action n = 0

abbrev pub node_next : ℕ → ℕ → ℕ
node_next zero z = if z == 0 then 1 else 2
node_next (suc zero) z = if z == 0 then 3 else 0
node_next (suc (suc zero)) z = if z == 0 then 0 else 4
node_next (suc (suc (suc zero))) z = if z == 0 then 2 else 0
node_next (suc (suc (suc (suc n)))) z = if z == 0 then 1 else 0

abbrev pub node_value : ℕ → ℕ → ℤ
node_value zero s = pos 19_371_360
node_value (suc zero) s = if s == 0 then pos 24_695_673 else pos 3_014_771
node_value (suc (suc zero)) s = if s == 0 then pos 3_014_771 else pos 24_695_673
node_value (suc (suc (suc zero))) s = if s == 0 then pos 28_402_792 else neg_ℤ (pos 81_597_208)
node_value (suc (suc (suc (suc n)))) s = if s == 0 then neg_ℤ (pos 81_597_208) else pos 28_402_792

abbrev pub tiger_controller : Controller
tiger_controller = record { cells = tiger; nodes = 5; action = node_action; next = λ n z. Some (node_next n z); value = node_value }

-- listens until the tiger was heard twice on one side, as far as two observations go
abbrev pub heard_twice : Selector
heard_twice [] = 0
heard_twice (y ∷ []) = if y == 0 then 1 else 2
heard_twice (y ∷ z ∷ observations) = if y == z then (if y == 0 then 3 else 4) else 0
