-- The definitions at the tiger of two doors, computed.
use Rattle.std.proofs.Common.{◌≡◌, ◌*◌, ◌^◌, pos, neg_ℤ, refl}
use Rattle.polcert_examples.proofs.Common.{one}
use Rattle.polcert_optimum.specs.Policy.{as_policy, expected_rewards}
use Rattle.polcert_optimum.specs.Informed.{excess}
use Rattle.polcert_examples.specs.Worked.TigerBound.{listen_and_open, tiger, tiger_vectors}

pub listen : excess tiger (tiger_vectors (pos 87_180_000)) 0 0 ≡ neg_ℤ (pos (50 * (4 * 10 ^ 18)))
unfolding one
listen = refl

pub tiger_door : excess tiger (tiger_vectors (pos 87_180_000)) 1 0 ≡ pos 0
unfolding one
tiger_door = refl

pub other_door : excess tiger (tiger_vectors (pos 87_180_000)) 1 1 ≡ pos 0
unfolding one
other_door = refl

pub exceeded : excess tiger (tiger_vectors (pos 87_170_000)) 0 0 ≡ pos (9_950 * (4 * 10 ^ 18))
unfolding one
exceeded = refl

pub one_vector : excess tiger (λ a s. pos 200_000_000) 2 0 ≡ pos 0
unfolding one
one_vector = refl

pub two_steps : expected_rewards tiger (as_policy listen_and_open) 2 0 ≡ neg_ℤ (pos (7_175_000 * (4 * 10 ^ 18) ^ 2))
unfolding one
two_steps = refl
