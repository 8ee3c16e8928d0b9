-- No values of a graph that pass from below are above informed vectors, where the discount is below 1.
use Rattle.std.proofs.Common.{◌≡◌, ℕ, ◌<◌, ℤ, pos, ◌-ℤ◌, ◌≤ℤ◌, Option, refl, arith}
use Rattle.polcert_optimum.proofs.Common.{CellTable, IsProper, IsWithinLimits, Controller, controller_of, one}
use Rattle.polcert_optimum.proofs.Common.{AreInformed}
use Rattle.polcert_check.specs.Shortfall.{Lacks}
use Rattle.polcert_check.proofs.Certificates.{controller_is}
use Rattle.polcert_check.proofs.Sums.Ring.{linear, ≤ℤ_trans, ≤ℤ_from_eq}
use Rattle.polcert_check.proofs.Sums.SumLaws.{sum_below_same}
use Rattle.polcert_check.proofs.Sums.Scales.{scales}
use Rattle.polcert_check.proofs.Walking.Verdicts.{positive_product}
use Rattle.polcert_check.proofs.Horizons.Kept.{backing_term}
use Rattle.polcert_check.proofs.Agreements.Agreeing.{with_values}
use Rattle.polcert_check.proofs.Mirrors.Interval.{never_above}
use Rattle.polcert_optimum.specs.GraphPolicy.{action_at, BoundEveryGraph}
use Rattle.polcert_optimum.proofs.Bounded.{backup_term}
use Rattle.polcert_optimum.proofs.Informed.{choice_le}

-- ---- what backs a value of a node that lacks nothing, where each node has the vector of its action
term_is : (c : Controller) (vectors : ℕ → ℕ → ℤ) (n s e z : ℕ) → (Lacks c n s z → ⊥) → e < c.cells.states → (at : Option ℕ)
    → c.next n z ≡ at
    → backing_term (with_values c (λ m u. vectors (c.action m) u)) n s e z at
    ≡ backup_term c.cells (vectors (action_at c at) e) (c.action n) s e z
term_is c vectors n s e z h1 h2 at h3 = grind arith

long_is : (a b : ℤ) → b ≤ℤ a → pos 0 ≤ℤ (a -ℤ b)
long_is a b h = omega (arith, linear)

pub every_graph : (t : CellTable) (vectors : ℕ → ℕ → ℤ) → IsProper t → IsWithinLimits t → t.discount < one → AreInformed t vectors
    → BoundEveryGraph t vectors
every_graph t vectors proper limits less informed g low known fits passes n s nl sl =
    let old = controller_of t g low in
    let some : 0 < t.actions = omega arith in
    let closed = (controller_is t g low fits proper known).closed in
    let c = with_values old _ in
    never_above c (record {
      cells = proper;
      closed = (record { actions_in_range = closed.actions_in_range; next_in_range = closed.next_in_range });
    })
    (λ m u ml ul. record {
      lacks_none = (passes m u ml ul).lacks_none;
      not_long = long_is _ _ (≤ℤ_trans _ _ _ (≤ℤ_from_eq _ _ (sum_below_same _ _ _ (λ e el. sum_below_same _ _ _
          (λ z zl. term_is old vectors m u e z ((passes m u ml ul).lacks_none z zl) el _ refl))))
          (choice_le t vectors _ u (informed _ u (closed.actions_in_range m ml) ul)
          _ (λ z zl. grind arith)));
    })
    _ passes less (positive_product _ _ (scales t limits).0 (scales t limits).1) n s nl sl
