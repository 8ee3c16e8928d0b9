-- Where every pair passes, and only there, the promise holds for every horizon.
use Rattle.std.proofs.Common.{ℕ, ℤ, pos, ◌≤ℤ◌, ◌<ℤ◌, arith}
use Rattle.polcert_check.proofs.Common.{CellTable, IsProper, PolicyGraph, IsProperGraph, PolicyVectors, Controller, controller_of, Promise}
use Rattle.polcert_check.proofs.Common.{MeetsEveryHorizon, PairPasses, Passes, IsController}
use Rattle.polcert_check.specs.Horizon.{Fits}
use Rattle.polcert_check.proofs.Certificates.{controller_is}
use Rattle.polcert_check.proofs.Horizons.Cuts.{promise_all}
use Rattle.polcert_check.proofs.Horizons.Rewards.{rewards_all}
use Rattle.polcert_check.proofs.Horizons.Refused.{refused_short, refused_lacking}

pub every_horizon : (c : Controller) → IsController c → Passes c → MeetsEveryHorizon c
every_horizon c proper passes k n s nl sl = (promise_all c proper passes k n s nl sl, rewards_all c proper passes k n s nl sl)

pub promised : (x : CellTable) (graph : PolicyGraph) (vectors : PolicyVectors) → IsProper x → IsProperGraph graph → Fits x graph vectors
    → Passes (controller_of x graph vectors) → MeetsEveryHorizon (controller_of x graph vectors)
promised x graph vectors proper known fits = every_horizon (controller_of x graph vectors) (controller_is x graph vectors fits proper known)

not_above : (x : ℤ) → (pos 0 <ℤ x → ⊥) → x ≤ℤ pos 0
not_above x h1 = grind arith

pub passes_if_promised : (c : Controller) (n s : ℕ) → Promise c 1 n s → PairPasses c n s
passes_if_promised c n s promise = grind (arith, refused_short, refused_lacking, not_above)
