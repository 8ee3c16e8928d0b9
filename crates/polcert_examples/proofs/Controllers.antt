-- The definitions at small controllers, computed.
use Rattle.std.proofs.Common.{◌≡◌, ◌*◌, ◌^◌, pos, neg_ℤ, true, Some, [], ◌∷◌, refl}
use Rattle.polcert_examples.proofs.Common.{one}
use Rattle.polcert_check.specs.Horizon.{runs, is_cut, run_weight, weights_sum, worth_sum}
use Rattle.polcert_check.specs.Shortfall.{short}
use Rattle.polcert_check.specs.Lower.{lowered_by}
use Rattle.polcert_examples.specs.Worked.Controllers.{one_state, one_node, half_followed}

pub backed : short (one_node (one_state 1) (neg_ℤ (pos 2_000_000))) 0 0 ≡ pos 0
unfolding one
backed = refl

pub three_steps : worth_sum (one_node (one_state 1) (neg_ℤ (pos 2_000_000))) 3 (Some 0) 0
    ≡ neg_ℤ (pos (2_000_000 * (10 ^ 12) ^ 3 * (10 ^ 6) ^ 3))
unfolding one
three_steps = refl

pub too_high : short (one_node (one_state 1) (pos 2_000_000)) 0 0 ≡ pos (2_000_000 * 10 ^ 18)
unfolding one
too_high = refl

pub lowered : short (lowered_by (one_node (one_state 1) (pos 2_000_000)) 4_000_000) 0 0 ≡ pos 0
unfolding one
lowered = refl

pub two_runs : runs (half_followed (pos 0)).cells 1 ≡ ((0, 0) ∷ []) ∷ ((0, 1) ∷ []) ∷ []
two_runs = refl

pub second_is_cut : is_cut (half_followed (pos 0)) (Some 0) ((0, 1) ∷ []) ≡ true
second_is_cut = refl

pub half_is_lost : run_weight (half_followed (pos 0)) (Some 0) 0 ((0, 1) ∷ []) ≡ 10 ^ 12
half_is_lost = refl

pub half_is_left : weights_sum (half_followed (pos 0)) 1 (Some 0) 0 ≡ pos (10 ^ 12)
half_is_left = refl
