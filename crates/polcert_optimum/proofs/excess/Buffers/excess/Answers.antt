use Rattle.std.proofs.Common.{rules, arith, ℕ, ℤ, ◌≤◌, neg_ℤ, unsigned_abs, w64, sym, ap, subst, ◌∙◌}
use Rattle.polcert_optimum.proofs.Common.{w128, value_of, most_excess}
use Rattle.std.proofs.lemmas.Int.{to_z-of_z}
use Rattle.polcert_check.proofs.Sums.Bounds.{abs_neg}
use Rattle.polcert_check.proofs.Sums.Figures.{amount_fits_128}
use Rattle.polcert_check.proofs.Walking.Earning.{expected_reward_le}
use Rattle.polcert_optimum.proofs.Checking.Best.{best_value_le}
use Rattle.polcert_optimum.proofs.Checking.Amounts.{excess_is, excess_le, most_excess_le}
use Rattle.polcert_optimum.proofs.Checking.Pairs.{vectors_small}
use Rattle.polcert_optimum.proofs.excess.Buffers.excess.Goals as goal

pub shortfall-above-requires-clause-reward : goal.shortfall-above-requires-clause-reward
shortfall-above-requires-clause-reward g c = grind (arith, to_z-of_z, expected_reward_le)

pub shortfall-above-requires-clause-expected : goal.shortfall-above-requires-clause-expected
shortfall-above-requires-clause-expected g c =
    let t = g.C.Cells.table _ in
    let p = g.met.C.Cells.is_proper _ in
    let limits = g.met.C.Cells.is_within_limits _ in
    rw (to_z-of_z w128 _ (search rules) ∙ c.total-best.ensures.is)
    (best_value_le t p limits (value_of c.args.pair.now.vectors.now)
    (vectors_small t _ c.args.pair.now.fit c.args.pair.now.proper) _ _
    c.args.pair.now.action_within c.args.pair.now.state_within)

pub negated-requires : goal.negated-requires
negated-requires g c =
    let t = g.C.Cells.table _ in
    let p = g.met.C.Cells.is_proper _ in
    let limits = g.met.C.Cells.is_within_limits _ in
    let is =
    excess_is t (value_of c.args.pair.now.vectors.now) _ _ _ _ _ _
    c.shortfall-above.ensures (to_z-of_z w64 _ (search rules) ∙ c.at-value.ensures.value)
    (to_z-of_z w128 _ (search rules) ∙ c.expected_reward-reward.ensures)
    (to_z-of_z w128 _ (search rules) ∙ c.total-best.ensures.is) in
    let le =
    excess_le t p limits (value_of c.args.pair.now.vectors.now)
    (vectors_small t _ c.args.pair.now.fit c.args.pair.now.proper) _ _
    c.args.pair.now.action_within c.args.pair.now.state_within in
    rw (to_z-of_z w128 c.shortfall-above.result (search rules))
    (omega (
      arith,
      subst (λ (n : ℕ). n ≤ most_excess t) (abs_neg _)
          (subst (λ (x : ℤ). unsigned_abs x ≤ most_excess t) (sym is) le),
      most_excess_le t limits,
      amount_fits_128,
    ))

pub returns : goal.returns
returns g c =
    let t = g.C.Cells.table _ in
    let p = g.met.C.Cells.is_proper _ in
    let limits = g.met.C.Cells.is_within_limits _ in
    let is =
    excess_is t (value_of c.args.pair.now.vectors.now) _ _ _ _ _ _
    c.shortfall-above.ensures (to_z-of_z w64 _ (search rules) ∙ c.at-value.ensures.value)
    (to_z-of_z w128 _ (search rules) ∙ c.expected_reward-reward.ensures)
    (to_z-of_z w128 _ (search rules) ∙ c.total-best.ensures.is) in
    let value = to_z-of_z w128 _ (search rules) ∙ c.negated.ensures
    ∙ ap neg_ℤ (to_z-of_z w128 _ (search rules)) ∙ is in
    record {
      value = value;
      small = rw value (excess_le t p limits (value_of c.args.pair.now.vectors.now)
          (vectors_small t _ c.args.pair.now.fit c.args.pair.now.proper) _
          _ c.args.pair.now.action_within c.args.pair.now.state_within);
      known = c.total-best.ensures.known;
    }
