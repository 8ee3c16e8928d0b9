-- The policy of the tiger that picks best vectors by the belief, computed.
use Rattle.std.proofs.Common.{◌≡◌, ◌*◌, ◌^◌, pos, refl}
use Rattle.polcert_examples.proofs.Common.{one}
use Rattle.polcert_optimum.specs.Policy.{as_policy, expected_total}
use Rattle.polcert_belief.specs.Belief.{sum_over_belief}
use Rattle.polcert_belief.specs.Following.{policy_of, value_at_end}
use Rattle.polcert_examples.specs.Worked.Doors.{even_belief}
use Rattle.polcert_examples.specs.Worked.TigerBound.{tiger}
use Rattle.polcert_examples.specs.Worked.TigerPicks.{heard_twice, tiger_controller}

pub earns : sum_over_belief tiger even_belief (λ s. expected_total tiger (value_at_end tiger_controller heard_twice s)
    (as_policy (policy_of tiger_controller heard_twice)) 2 s) ≡ pos (387_427_221_962 * (16 * 10 ^ 32))
unfolding one
earns = refl
