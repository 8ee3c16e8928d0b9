use Rattle.std.proofs.Common.{rules, arith, ◌∙◌, refl}
use Rattle.polcert_optimum.proofs.Common.{w128, value_of, AreInformed}
use Rattle.std.proofs.lemmas.Int.{to_z-of_z}
use Rattle.polcert_optimum.proofs.Informed.{every_observation_policy}
use Rattle.polcert_optimum.proofs.Checking.Pairs.{action_more, all_before, no_bound}
use Rattle.polcert_optimum.proofs.Checking.Totals.{no_totals, next_totals}
use Rattle.polcert_optimum.proofs.verdict.first_excess.Goals as goal

pub loop-action-init : goal.loop-action-init
loop-action-init g c = record {
  actions = λ b u bl ul. absurd (omega arith);
  totals = no_totals _ _ _ _;
}

pub loop-state-preserved : goal.loop-state-preserved
loop-state-preserved g c = grind (arith, to_z-of_z)

pub loop-action-preserved : goal.loop-action-preserved
loop-action-preserved g c =
    let t = g.C.Cells.table _ in
    record {
      actions = action_more t (value_of c.args.vectors.now) _ c.loop-state.invariant.actions
          (λ u ul. c.loop-state.invariant.states u (omega arith));
      totals = next_totals t _ _ _ _ _ (omega arith) c.loop-state.invariant.totals;
    }

pub returns-then-is_above : goal.returns-then-is_above
returns-then-is_above g c =
    let t = g.C.Cells.table _ in
    let same = to_z-of_z w128 _ (search rules) in
    let is = same ∙ c.excess-amount.ensures.value in
    let above = c.if-is_above.ensures.above refl in
    let action = rw c.actions-action-end.ensures at c.loop-action-test.true in
    let state = rw c.states-state-end.ensures at c.loop-state-test.true in
    record {
      verdict = (
        action,
        state,
        all_before t (value_of c.args.vectors.now) _ _ c.loop-state.invariant.actions c.loop-state.invariant.states,
        is,
        above,
      );
      promise = no_bound t (value_of c.args.vectors.now) _ _ action state (rw (← is) above);
      small = rw same c.excess-amount.ensures.small;
    }

pub returns : goal.returns
returns g c =
    let t = g.C.Cells.table _ in
    let all : AreInformed t (value_of c.args.vectors.now) = λ a s al sl. c.loop-action.invariant.actions a s (omega arith) sl in
    record {
      verdict = all;
      promise = every_observation_policy t (value_of c.args.vectors.now) (g.met.C.Cells.is_proper _) all;
      small = tt;
    }
