use Rattle.std.proofs.Common.{rules, arith, ℕ, ◌+◌, ℤ, ◌≤ℤ◌, ◌<ℤ◌, to_z, of_z, ◌∙◌}
use Rattle.polcert_check.proofs.Common.{w128, cases_lt, ints, IsFirstGreatest}
use Rattle.std.proofs.lemmas.Int.{to_z-of_z}
use Rattle.polcert_check.proofs.Sums.Ring.{linear}
use Rattle.polcert_check.proofs.start.best_start.Goals.{then-sum-greatest, else-sum-greatest}
use Rattle.polcert_check.proofs.start.best_start.Goals as goal

-- one number more, which is not greater
not_greater : (f : ℕ → ℤ) (n best : ℕ) → IsFirstGreatest f n best → f n ≤ℤ f best → IsFirstGreatest f (n + 1) best
not_greater f n best h le = grind (arith, cases_lt)

-- one number more, which is greater
greater : (f : ℕ → ℤ) (n best : ℕ) → IsFirstGreatest f n best → f best <ℤ f n → IsFirstGreatest f (n + 1) n
greater f n best h lt = grind (arith, linear, cases_lt)

pub loop-n-preserved : goal.loop-n-preserved
loop-n-preserved c =
    let same = to_z-of_z w128 c.start_sum-sum.result (search rules) in
    elim c.if-sum-greatest.branch [
      | then-sum-greatest w ↦
          let more : to_z w128 c.loop-n.greatest-bits <ℤ to_z w128 (of_z w128 c.start_sum-sum.result) = let test = w.if-sum-greatest.true in
          grind (arith, ints) in
          let sum = w.greatest-is ∙ same in
          rw w.best-is (record {
            node = greater _ c.loop-n.n c.loop-n.best c.loop-n.invariant.node
                (rw (same, c.start_sum-sum.ensures.is, c.loop-n.invariant.sum) at more);
            sum = sum ∙ c.start_sum-sum.ensures.is;
            small = rw sum c.start_sum-sum.ensures.small;
          })
      | else-sum-greatest w ↦
          let no_more : to_z w128 (of_z w128 c.start_sum-sum.result) ≤ℤ to_z w128 c.loop-n.greatest-bits = let test =
          w.if-sum-greatest.false in grind (arith, ints) in
          rw w.best-is (record {
            node = not_greater _ c.loop-n.n c.loop-n.best c.loop-n.invariant.node
                (rw (same, c.start_sum-sum.ensures.is, c.loop-n.invariant.sum) at no_more);
            sum = w.greatest-is ∙ c.loop-n.invariant.sum;
            small = rw w.greatest-is c.loop-n.invariant.small;
          })
    ]

pub returns-clause-node : goal.returns-clause-node
returns-clause-node c = search rules
