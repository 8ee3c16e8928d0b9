use Rattle.std.proofs.Common.{rules, arith, ◌+◌, ◌∙◌, ℤ, sym, subst}
use Rattle.polcert_optimum.proofs.Common.{w128, value_of, IsGreatestExcess}
use Rattle.std.proofs.lemmas.Int.{to_z-of_z}
use Rattle.polcert_optimum.proofs.Checking.Excesses.{one_more}
use Rattle.polcert_optimum.proofs.Checking.Totals.{next_totals}
use Rattle.polcert_optimum.proofs.raise.greatest_excess.Goals as goal

pub loop-state-preserved : goal.loop-state-preserved
loop-state-preserved g c =
    let t = g.C.Cells.table _ in
    let same = to_z-of_z w128 _ (search rules) ∙ c.max-greatest.ensures.value in
    record {
      greatest = (subst (λ (x : ℤ). IsGreatestExcess t (value_of c.args.vectors.now) c.loop-action.action (c.loop-state.state + 1) x)
          (sym same) (one_more t _ _ _ _ c.loop-state.invariant.greatest _ (to_z-of_z w128 _ (search rules) ∙ c.excess-amount.ensures.value)
          (omega arith) (omega arith)));
      totals = c.excess-amount.ensures.known;
    }

pub loop-action-preserved : goal.loop-action-preserved
loop-action-preserved g c =
    let t = g.C.Cells.table _ in
    record {
      greatest = search rules;
      totals = next_totals t _ _ _ _ _ (omega arith) c.loop-state.invariant.totals;
    }
