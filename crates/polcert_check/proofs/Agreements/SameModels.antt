-- Models that are the same in range have the same cells, and are worth the same from the start.
use Rattle.std.proofs.Common.{◌≡◌, ℕ, ◌<◌, ℤ, pos, ◌*ℤ◌, Some, arith}
use Rattle.polcert_check.proofs.Common.{Meaning, IsSame, start_weight, CellTable, table_of, PolicyGraph, IsProperGraph, nodes}
use Rattle.polcert_check.proofs.Common.{PolicyVectors, Controller, controller_of, total_below, worth_sum, IsClosed, start_sum, IsBestStart}
use Rattle.polcert_check.proofs.Common.{IsStartWorth, StartPromise, HasSameCells}
use Rattle.polcert_check.specs.Horizon.{Fits}
use Rattle.polcert_check.proofs.Sums.SumLaws.{sum_below_same}
use Rattle.polcert_check.proofs.Certificates.{closed_is}
use Rattle.polcert_check.proofs.Agreements.SameCells.{with_cells, worth_sum_same, cut_runs_same}
use Rattle.polcert_check.proofs.Agreements.SameAnswers.{moved}

module _ (m n : Meaning) (same : IsSame m n) where
  pub same_cells : HasSameCells (table_of m) (table_of n)
  same_cells = grind arith

  pub start_sum_same : (v : PolicyVectors) (node : ℕ) → start_sum m v node ≡ start_sum n v node
  start_sum_same v node = grind arith

  pub same_best_start : (v : PolicyVectors) (node : ℕ) → IsBestStart m v node → IsBestStart n v node
  same_best_start v node best =
      record {
        is_below = best.is_below;
        none_greater = λ i l. rw (start_sum_same v i, start_sum_same v node) at (best.none_greater i l);
        smaller_before = λ i l. rw (start_sum_same v i, start_sum_same v node) at (best.smaller_before i l);
      }

  pub same_worth : (v : PolicyVectors) (node : ℕ) (worth : ℤ) → IsStartWorth m v node worth → IsStartWorth n v node worth
  same_worth v node worth is = grind arith

module _ (m : Meaning) (c : Controller) (p : IsClosed c) (y : CellTable) (same : HasSameCells c.cells y) where
  -- the promise from the start, for other cells and then for other shares
  start_worths_same : (k n : ℕ) → n < c.nodes
      → total_below (λ s. pos (start_weight m s) *ℤ worth_sum (with_cells c y) k (Some n) s) c.cells.states
      ≡ total_below (λ s. pos (start_weight m s) *ℤ worth_sum c k (Some n) s) c.cells.states
  start_worths_same k n nl = grind (arith, sum_below_same, worth_sum_same)

  pub start_promise_with : (k n : ℕ)
      (worth : ℤ) → n < c.nodes → StartPromise m c k n worth → StartPromise m (with_cells c y) k n worth
  start_promise_with k n worth nl promise =
      record {
        cut_runs = λ s sl some. cut_runs_same c p y same k n s nl sl (promise.cut_runs s sl some);
        uncut_runs = rw (start_worths_same k n nl) promise.uncut_runs;
      }

pub start_promise_of : (m n : Meaning) → m.start ≡ n.start → (c : Controller) (k node : ℕ) (worth : ℤ) → StartPromise m c k node worth
    → StartPromise n c k node worth
start_promise_of m n start c k node worth promise = grind arith

pub same_start_promise : (m n : Meaning) → IsSame m n → (graph : PolicyGraph) (vectors : PolicyVectors) → IsProperGraph graph
    → Fits (table_of m) graph vectors → (k node : ℕ) (worth : ℤ) → node < nodes graph
    → StartPromise m (controller_of (table_of m) graph vectors) k node worth
    → StartPromise n (controller_of (table_of n) graph vectors) k node worth
same_start_promise m n same graph vectors proper fits k node worth nl promise =
    let cells : HasSameCells (table_of m) (table_of n) = same_cells m n same in
    start_promise_of m n same.start (controller_of (table_of n) graph vectors) k node worth
    (moved (table_of m) (table_of n) graph vectors cells (λ d. StartPromise m d k node worth)
    (start_promise_with m (controller_of (table_of m) graph vectors) (closed_is (table_of m) graph vectors fits proper) (table_of n) cells k
    node worth nl promise))
