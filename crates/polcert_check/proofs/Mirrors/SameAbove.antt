-- What a check from above says of one table it says of every table with the same cells, and of a start's most likewise.
use Rattle.std.proofs.Common.{ℕ, ◌<◌, ℤ, neg_ℤ, ap, subst, arith}
use Rattle.polcert_check.proofs.Common.{Meaning, IsSame, start_total, HasSameCells, CellTable, table_of, PolicyGraph, IsProperGraph, nodes}
use Rattle.polcert_check.proofs.Common.{PolicyVectors, AboveVerdict, RaiseFault, Above, PromiseAbove, RewardPromiseAbove, MeetsHorizonAbove}
use Rattle.polcert_check.proofs.Common.{PassesAbove, IsAboveVerdict, Controller, controller_of, Promise, RewardPromise, MeetsHorizon}
use Rattle.polcert_check.proofs.Common.{mirrored, CanMove, IsLeastMove, IsNotMended, Passes, IsVerdict, IsLeastRaise, IsNotRaised, IsClosed}
use Rattle.polcert_check.proofs.Common.{IsStartMost, StartPromiseAbove, start_sum, IsCeilQuotient, StartPromise}
use Rattle.polcert_check.specs.Horizon.{Fits}
use Rattle.polcert_check.proofs.Certificates.{closed_is}
use Rattle.polcert_check.proofs.Mirrors.FromAbove.{below_of, above_again, verdict_above, verdict_below, horizon_above, horizon_below}
use Rattle.polcert_check.proofs.Mirrors.FromAbove.{promise_above, promise_below, rewards_above, rewards_below, passes_above, passes_below}
use Rattle.polcert_check.proofs.Lowerings.Raising.{lower_of, raise_again, least_raise_is, least_move_is, not_raised_is, not_mended_is}
use Rattle.polcert_check.proofs.Agreements.SameAnswers.{moved, verdict_with, horizon_with, not_mended_with, least_move_with}
use Rattle.polcert_check.proofs.Agreements.SameCells.{with_cells, promise_same, reward_promise_same, passes_same}
use Rattle.polcert_check.proofs.Mirrors.Sides.{sided_closed}
use Rattle.polcert_check.proofs.Agreements.SameModels.{same_cells, same_best_start, start_sum_same, start_promise_with, start_promise_of}
use Rattle.polcert_check.proofs.Mirrors.StartMosts.{start_promise_above, start_promise_below}

-- the same cells with each reward negated: the mirror image over y's cells is the mirror image over these
abbrev turned_cells : CellTable → CellTable
turned_cells y = record y { r = λ a s e z. neg_ℤ (y.r a s e z) }

-- ---- two tables
module _ (x y : CellTable) (graph : PolicyGraph) (vectors : PolicyVectors) (same : HasSameCells x y) (known : IsProperGraph graph)
    (fits : Fits x graph vectors) where
  abbrev of_x : Controller
  of_x = controller_of x graph vectors

  abbrev of_y : Controller
  of_y = controller_of y graph vectors

  closed : IsClosed (mirrored of_x)
  closed = sided_closed Above of_x (closed_is x graph _ fits known)

  same_turned : HasSameCells (mirrored of_x).cells (turned_cells y)
  same_turned = grind arith

  -- what is so just where something is so from below of the mirror image
  by_mirror : (A B : Controller → Type 0) → ((d : Controller) → A d → B (mirrored d)) → ((d : Controller) → B (mirrored d) → A d)
      → (B (mirrored of_x) → B (with_cells (mirrored of_x) (turned_cells y))) → A of_x → A of_y
  by_mirror A B into back along is = moved x y graph vectors same A (back (with_cells of_x y) (along (into of_x is)))

  pub same_above_verdict : (answer : AboveVerdict) → IsAboveVerdict of_x answer → IsAboveVerdict of_y answer
  same_above_verdict answer =
      by_mirror (λ d. IsAboveVerdict d answer) (λ d. IsVerdict d (below_of answer)) (λ d. verdict_below d answer)
      (λ d is. subst (λ a. IsAboveVerdict d a) (above_again answer) (verdict_above d (below_of answer) is))
      (verdict_with (mirrored of_x) closed (turned_cells y) same_turned (below_of answer))

  pub same_above_promise : (k n s : ℕ) → n < nodes graph → s < x.states → PromiseAbove of_x k n s → PromiseAbove of_y k n s
  same_above_promise k n s nl sl =
      by_mirror (λ d. PromiseAbove d k n s) (λ d. Promise d k n s) (λ d. promise_below d k n s) (λ d. promise_above d k n s)
      (promise_same (mirrored of_x) closed (turned_cells y) same_turned k n s nl sl)

  pub same_above_rewards : (k n s : ℕ) → n < nodes graph → s < x.states → RewardPromiseAbove of_x k n s → RewardPromiseAbove of_y k n s
  same_above_rewards k n s nl sl =
      by_mirror (λ d. RewardPromiseAbove d k n s) (λ d. RewardPromise d k n s) (λ d. rewards_below d k n s) (λ d. rewards_above d k n s)
      (reward_promise_same (mirrored of_x) closed (turned_cells y) same_turned k n s nl sl)

  pub same_above_horizon : (answer : AboveVerdict) → IsAboveVerdict of_x answer → MeetsHorizonAbove of_x answer
      → MeetsHorizonAbove of_y answer
  same_above_horizon answer is =
      by_mirror (λ d. MeetsHorizonAbove d answer) (λ d. MeetsHorizon d (below_of answer)) (λ d. horizon_below d answer)
      (λ d meets. subst (λ (a : AboveVerdict). MeetsHorizonAbove d a) (above_again answer) (horizon_above d (below_of answer) meets))
      (horizon_with (mirrored of_x) closed (turned_cells y) same_turned (below_of answer) (verdict_below of_x answer is))

  pub same_above_passes : PassesAbove of_x → PassesAbove of_y
  same_above_passes = by_mirror PassesAbove Passes passes_below passes_above
      (passes_same (mirrored of_x) closed (turned_cells y) same_turned)

  pub same_least_raise : (constant : ℤ) → IsLeastRaise of_x vectors constant → IsLeastRaise of_y vectors constant
  same_least_raise constant =
      by_mirror (λ d. IsLeastRaise d vectors constant) (λ d. IsLeastMove d (CanMove Above vectors) constant)
      (λ d. least_move_is d vectors constant) (λ d. least_raise_is d vectors _)
      (least_move_with (mirrored of_x) closed (turned_cells y) same_turned (CanMove Above vectors) constant)

  pub same_not_raised : (fault : RaiseFault) → IsNotRaised of_x vectors fault → IsNotRaised of_y vectors fault
  same_not_raised fault =
      by_mirror (λ d. IsNotRaised d vectors fault) (λ d. IsNotMended d (CanMove Above vectors) (lower_of fault))
      (λ d. not_mended_is d vectors fault)
      (λ d refused. subst (λ (f : RaiseFault). IsNotRaised d vectors f) (raise_again fault)
      (not_raised_is d vectors (lower_of fault) refused))
      (not_mended_with (mirrored of_x) closed (turned_cells y) same_turned (CanMove Above vectors) (lower_of fault))

-- ---- the start
pub same_start_most : (m n : Meaning) → IsSame m n → (v : PolicyVectors) (most : ℤ) → IsStartMost m v most → IsStartMost n v most
same_start_most m n same v most (node, best, ceil) = (
  node,
  same_best_start m n same v node best,
  subst (λ total. IsCeilQuotient (start_sum n v node) total most) (ap (λ start. start.total) same.start)
      (subst (λ sum. IsCeilQuotient sum (start_total m) most) (start_sum_same m n same v node) ceil),
)

-- the promise from the start, for other cells and then for other shares
pub same_start_promise_above : (m n : Meaning) → IsSame m n → (graph : PolicyGraph) (vectors : PolicyVectors) → IsProperGraph graph
    → Fits (table_of m) graph vectors → (k node : ℕ) (most : ℤ) → node < nodes graph
    → StartPromiseAbove m (controller_of (table_of m) graph vectors) k node most
    → StartPromiseAbove n (controller_of (table_of n) graph vectors) k node most
same_start_promise_above m n same graph vectors known fits k node most nl promise =
    let x : CellTable = table_of m in
    let y : CellTable = table_of n in
    let d : Controller = controller_of y graph vectors in
    let cells : HasSameCells x y = same_cells m n same in
    let over : StartPromiseAbove m d k node most = by_mirror x y graph vectors cells known fits (λ e. StartPromiseAbove m e k node most)
    (λ e. StartPromise m e k node (neg_ℤ most))
    (λ e. start_promise_below m e k node most) (λ e. start_promise_above m e k node most)
    (start_promise_with m (mirrored (controller_of x graph vectors)) (closed x y graph vectors cells known fits) (turned_cells y)
    (same_turned x y graph vectors cells known fits) k node (neg_ℤ most) nl) promise in
    start_promise_above n d k node most (start_promise_of m n same.start (mirrored d) k node (neg_ℤ most)
    (start_promise_below m d k node most over))
