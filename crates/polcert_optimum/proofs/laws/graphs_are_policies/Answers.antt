use Rattle.std.proofs.Common.{arith}
use Rattle.polcert_check.proofs.Certificates.{controller_is}
use Rattle.polcert_check.proofs.Horizons.Kept.{LacksNone-from_Passes}
use Rattle.polcert_optimum.proofs.GraphPolicies.{earns_as_policy}
use Rattle.polcert_optimum.proofs.laws.graphs_are_policies.Goals as goal

pub returns : goal.returns
returns c = λ t graph vectors proper limits known fits passes n nl.
    earns_as_policy _ (controller_is t graph _ fits proper known) (omega arith)
    (LacksNone-from_Passes _ passes) n nl
