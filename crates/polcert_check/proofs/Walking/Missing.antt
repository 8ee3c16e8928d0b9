-- The least observation that has no successor, gathered from steps.
use Rattle.std.proofs.Common.{◌≡◌, ℕ, ◌+◌, ◌<◌, ◌≤◌, ◌⊎◌, Option, Some, None, arith}
use Rattle.polcert_check.proofs.Common.{Controller, Lacks, IsLeastLacking, IsLeastOf, Misses, IsMissedBefore}
use Rattle.polcert_check.specs.Steps.Factored.{IsMissedAt, IsMinOption}
use Rattle.polcert_check.proofs.Walking.Verdicts.{positive_product}

-- ---- the least of two least numbers
pub least_same : (P R : ℕ → Type 0) (x : Option ℕ) → IsLeastOf P x → ((z : ℕ) → R z → P z) → ((z : ℕ) → P z → R z) → IsLeastOf R x
least_same P R x h1 h2 h3 = grind arith

least_or : (P Q R : ℕ → Type 0) (x y r : Option ℕ) → IsLeastOf P x → IsLeastOf Q y → IsMinOption x y r → ((z : ℕ) → R z → P z ⊎ Q z)
    → ((z : ℕ) → P z → R z) → ((z : ℕ) → Q z → R z) → IsLeastOf R r
least_or P Q R x y r h1 h2 h3 h4 h5 h6 = grind arith

-- ---- at one end state
pub end_more : (c : Controller) (n e from z w : ℕ) (x y r : Option ℕ) → from ≤ z
    → ((k : ℕ) → from ≤ k → k < z → c.cells.o (c.action n) e k ≡ 0) → w ≡ c.cells.o (c.action n) e z → 0 < w
    → IsLeastOf (Misses c n e from) x
    → IsMissedAt c n z y → IsMinOption x y r → IsLeastOf (Misses c n e (z + 1)) r
end_more c n e from z w x y r fl none we some least here is = grind arith

-- ---- at one start state
pub before_more : (c : Controller) (n s from e w : ℕ) (x y r : Option ℕ) → from ≤ e
    → ((k : ℕ) → from ≤ k → k < e → c.cells.t (c.action n) s k ≡ 0) → w ≡ c.cells.t (c.action n) s e → 0 < w
    → IsLeastOf (IsMissedBefore c n s from) x → IsLeastOf (Misses c n e c.cells.observations) y → IsMinOption x y r
    → IsLeastOf (IsMissedBefore c n s (e + 1)) r
before_more c n s from e w x y r fl none we some least here is = grind (arith, least_or)

-- no weight between two places
module _ (c : Controller) (n s from to : ℕ) (fl : from ≤ to) (none : (k : ℕ) → from ≤ k → k < to → c.cells.t (c.action n) s k ≡ 0) where
  further : (z : ℕ) → IsMissedBefore c n s from z → IsMissedBefore c n s to z
  further z missed = grind arith

  pub before_on : (x : Option ℕ) → IsLeastOf (IsMissedBefore c n s from) x → IsLeastOf (IsMissedBefore c n s to) x
  before_on x least = least_same _ _ x least (λ z missed. (missed.0, grind arith, missed.2, missed.3)) further

module _ (c : Controller) (n : ℕ) (s : ℕ) (z : ℕ) where
  -- ---- a pair
  lack_before : z < c.cells.observations → Lacks c n s z → IsMissedBefore c n s c.cells.states z
  lack_before h1 h2 = grind arith

  before_lack : IsMissedBefore c n s c.cells.states z → (z < c.cells.observations) × Lacks c n s z
  before_lack h1 = grind (arith, positive_product)

-- the least observation that is missed over all end states is the least that the pair lacks
pub pair_lacking : (c : Controller) (n s : ℕ) (x : Option ℕ) → IsLeastOf (IsMissedBefore c n s c.cells.states) x → IsLeastLacking c n s x
pair_lacking c n s None least = λ z zl lack. least z (lack_before c n s z zl lack)
pair_lacking c n s (Some z) least =
    let here = before_lack c n s z least.0 in (
      here.0,
      here.1,
      λ y l lack. least.1 y l (lack_before c n s y (omega (arith, l, here.0)) lack),
    )
