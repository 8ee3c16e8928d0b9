-- Numbers that are computed when they are first used, and rewards that start states share.
use Rattle.std.proofs.Common.{◌≡◌, ℕ, ◌<◌, List, length, set, ℤ, pos, ◌*ℤ◌, ap, arith}
use Rattle.polcert_check.proofs.Common.{get_or-set_at, CellTable, reward_at_end, AreKnown}
use Rattle.std.proofs.lemmas.List.{get_or-set_other}
use Rattle.polcert_check.proofs.Sums.SumLaws.{sum_below_same}

-- one number more is computed
module _ (f : ℕ → ℤ) (count : ℕ) (xs : List ℤ) (e : ℕ) (x : ℤ) (room : e < length xs) (is : x ≡ f e) where
  pub one_known : AreKnown f count xs → AreKnown f count (set xs e x)
  one_known known = grind (arith, get_or-set_at, get_or-set_other)

-- two start states with the same rewards share those at end states
pub at_end_same : (m : CellTable) (a s other e : ℕ) → ((z : ℕ) → z < m.observations → m.r a s e z ≡ m.r a other e z)
    → reward_at_end m a s e ≡ reward_at_end m a other e
at_end_same m a s other e same = sum_below_same _ _ _ (λ z l. ap (λ x. pos (m.o a e z) *ℤ x) (same z l))

pub known_of_other : (m : CellTable) (a s other : ℕ) (xs : List ℤ)
    → ((e z : ℕ) → e < m.states → z < m.observations → m.r a s e z ≡ m.r a other e z)
    → AreKnown (reward_at_end m a other) m.states xs → AreKnown (reward_at_end m a s) m.states xs
known_of_other m a s other xs same known = grind (arith, at_end_same)
