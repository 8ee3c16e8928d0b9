use Rattle.polcert_check.proofs.Common.{Controller}
use Rattle.std.proofs.Common.{rules, arith, ◌≡◌, ◌≤◌, ◌<◌, ◌^◌, ◌*◌, None, ℕ, ℤ, pos, ◌+ℤ◌, ◌-ℤ◌, ◌*ℤ◌, ◌<ℤ◌, FitsSigned, to_z, of_z}
use Rattle.std.proofs.Common.{w64, refl, sym, ap, subst, ◌∙◌}
use Rattle.polcert_check.proofs.Common.{w128, node_controller, one, short, largest_amount, signed_from}
use Rattle.polcert_check.proofs.Common.{IsLeastLacking, factored_reward, factored_value}
use Rattle.std.proofs.lemmas.Int.{to_z-of_z}
use Rattle.polcert_check.proofs.Walking.Earning.{expected_reward_le}
use Rattle.polcert_check.proofs.Walking.Expecting.{expected_value_le}
use Rattle.polcert_check.proofs.Walking.Missing.{pair_lacking}
use Rattle.polcert_check.proofs.Sums.Amounts.{amount_is}
use Rattle.polcert_check.proofs.Sums.Scales.{scales_le, sum_room}
use Rattle.polcert_check.proofs.Horizons.Splitting.{backing_split}
use Rattle.polcert_check.proofs.Lowerings.Shorts.{short_le}
use Rattle.polcert_check.proofs.Sums.Figures.{most_amount, amount_fits_128}
use Rattle.polcert_check.proofs.Mirrors.Sides.{sided_short}
use Rattle.polcert_cells.specs.declared.cells.Cells.{Ghosts}
use Rattle.polcert_check.specs.declared.node.Node.{Node}
use Rattle.polcert_check.proofs.shortfall.pair_verdict.Goals as goal

small_enough : (x most : ℕ) → x ≤ most → most ≤ largest_amount → x < 2 ^ 127
small_enough x most a b = omega (arith, a, b, amount_fits_128)

-- what the code computes is the shortfall
short_is : {C : Type 0} {g : Ghosts C} (node : Node C g) (s : ℕ) (v r e : ℤ) → let k = node_controller node in
    IsLeastLacking k node.n s None
    → FitsSigned w64 v → v ≡ k.value node.n s → FitsSigned w128 r → r ≡ factored_reward k.cells (k.action node.n) s
    → FitsSigned w128 e → e ≡ factored_value k node.n s
    → pos (node.input.step_scale * one) *ℤ to_z w64 (of_z w64 v)
    -ℤ (pos one *ℤ to_z w128 (of_z w128 r) +ℤ pos node.input.discount *ℤ to_z w128 (of_z w128 e)) ≡ short k node.n s
short_is node s v r e lacks vf ve rf re ef ee =
    rw (to_z-of_z w64 v vf, to_z-of_z w128 r rf, to_z-of_z w128 e ef, node.input.is_step_scale, node.input.is_discount)
    (amount_is (node_controller node) node.n s _ _ (backing_split (node_controller node) node.n s lacks) _ v r e refl ve re ee)

pub returns-in-Some : goal.returns-in-Some
returns-in-Some g c = (
  refl,
  refl,
  rw c.in-Some.is at
      (pair_lacking (node_controller c.args.node.now) _ _ _ c.requires.expected.missing),
)

pub is_clearly_backed-requires-clause-scale : goal.is_clearly_backed-requires-clause-scale
is_clearly_backed-requires-clause-scale g c = rw c.args.node.now.input.is_step_scale
    (scales_le (node_controller c.args.node.now).cells (g.met.C.Cells.is_within_limits c.args.node.now.input.cells.now))

pub is_clearly_backed-requires-clause-reward : goal.is_clearly_backed-requires-clause-reward
is_clearly_backed-requires-clause-reward g c = grind (arith, to_z, of_z, to_z-of_z, expected_reward_le, sum_room)

pub is_clearly_backed-requires-clause-expected : goal.is_clearly_backed-requires-clause-expected
is_clearly_backed-requires-clause-expected g c = grind (arith, to_z-of_z, expected_value_le, sum_room)

pub returns-then-is_clearly_backed : goal.returns-then-is_clearly_backed
returns-then-is_clearly_backed g c =
    let k : Controller = node_controller c.args.node.now in
    let lacks = rw c.in_default.is at (pair_lacking (node_controller c.args.node.now) c.args.node.now.n c.args.s _
    c.requires.expected.missing) in
    record {
      lacks_none = lacks;
      not_short = rw (sided_short c.args.node.now.input.side k c.args.node.now.n c.args.s)
          (rw (short_is c.args.node.now c.args.s _ _ _ lacks c.ranges.value c.requires.value c.ranges.reward c.requires.reward
          (search rules)
          c.requires.expected.value) at
          (c.is_clearly_backed.ensures c.if-is_clearly_backed.true));
    }

pub shortfall_of-above-requires-clause-scale : goal.shortfall_of-above-requires-clause-scale
shortfall_of-above-requires-clause-scale g c = rw c.args.node.now.input.is_step_scale
    (scales_le (node_controller c.args.node.now).cells (g.met.C.Cells.is_within_limits c.args.node.now.input.cells.now))

pub shortfall_of-above-requires-clause-reward : goal.shortfall_of-above-requires-clause-reward
shortfall_of-above-requires-clause-reward g c = grind (arith, to_z, of_z, to_z-of_z, expected_reward_le, sum_room)

pub shortfall_of-above-requires-clause-expected : goal.shortfall_of-above-requires-clause-expected
shortfall_of-above-requires-clause-expected g c = grind (arith, to_z-of_z, expected_value_le, sum_room)

pub excess-requires : goal.excess-requires
excess-requires g c =
    let k : Controller = node_controller c.args.node.now in
    let lacks = rw c.in_default.is at (pair_lacking (node_controller c.args.node.now) c.args.node.now.n c.args.s _
    c.requires.expected.missing) in
    let above = to_z-of_z w128 c.shortfall_of-above.result (search rules) ∙ c.shortfall_of-above.ensures
    ∙ short_is c.args.node.now c.args.s _ _ _ lacks c.ranges.value c.requires.value c.ranges.reward c.requires.reward (search rules)
    c.requires.expected.value in
    let limits = g.met.C.Cells.is_within_limits c.args.node.now.input.cells.now in
    rw above (small_enough _ _ (short_le k c.args.node.now.input.proper limits c.args.node.now.input.values c.args.node.now.n c.args.s
    c.args.node.now.within c.requires.start) (most_amount k limits))

pub returns-in-Some-excess : goal.returns-in-Some-excess
returns-in-Some-excess g c =
    let k : Controller = node_controller c.args.node.now in
    let lacks = rw c.in_default.is at (pair_lacking (node_controller c.args.node.now) c.args.node.now.n c.args.s _
    c.requires.expected.missing) in
    let above = to_z-of_z w128 c.shortfall_of-above.result (search rules) ∙ c.shortfall_of-above.ensures
    ∙ short_is c.args.node.now c.args.s _ _ _ lacks c.ranges.value c.requires.value c.ranges.reward c.requires.reward (search rules)
    c.requires.expected.value in
    let found = rw c.in-Some-excess.is at c.excess.ensures.some in
    let back : to_z w128 (of_z w128 c.in-Some-excess.amount) ≡ c.in-Some-excess.amount =
    to_z-of_z w128 c.in-Some-excess.amount (search rules) in (
      refl,
      refl,
      lacks,
      back ∙ found.0 ∙ ap (signed_from c.args.node.now.input.side) above
          ∙ sym (sided_short c.args.node.now.input.side k c.args.node.now.n c.args.s),
      subst (λ (x : ℤ). pos 0 <ℤ x) (sym back) found.1,
    )

pub returns-in-None : goal.returns-in-None
returns-in-None g c =
    let k : Controller = node_controller c.args.node.now in
    let lacks = rw c.in_default.is at (pair_lacking (node_controller c.args.node.now) c.args.node.now.n c.args.s _
    c.requires.expected.missing) in
    let above = to_z-of_z w128 c.shortfall_of-above.result (search rules) ∙ c.shortfall_of-above.ensures
    ∙ short_is c.args.node.now c.args.s _ _ _ lacks c.ranges.value c.requires.value c.ranges.reward c.requires.reward (search rules)
    c.requires.expected.value in
    record {
      lacks_none = lacks;
      not_short = rw (sided_short c.args.node.now.input.side k c.args.node.now.n c.args.s)
          (rw (c.in-None.is, above) at c.excess.ensures.none);
    }
