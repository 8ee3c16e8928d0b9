use Rattle.std.proofs.Common.{rules, arith, ◌≡◌, ◌∙◌, ℤ, pos, ◌*ℤ◌, slice_index_or, ap}
use Rattle.polcert_check.proofs.Common.{w128, node_controller, most_sum, factored_value_at_end, factored_value}
use Rattle.std.proofs.lemmas.Int.{to_z-of_z}
use Rattle.polcert_check.proofs.Sums.Scales.{ahead_room}
use Rattle.polcert_check.proofs.Walking.Expecting.{expected_value_le}
use Rattle.polcert_check.proofs.Walking.Products.{scaled_total, scaled_room}
use Rattle.polcert_check.proofs.ends.EndValues.value_of_numbers.Goals as goal

pub weigh-requires-clause-product : goal.weigh-requires-clause-product
weigh-requires-clause-product g c =
    let k = node_controller c.args.node.now in
    let limits = g.met.C.Cells.is_within_limits _ in
    let n = c.args.node.now.n in
    let s = c.args.s in
    let sum = c.sum_of_products-sum.result in
    let back = to_z-of_z w128 sum (search rules) in
    let is : pos c.args.scale *ℤ sum ≡ factored_value k n s =
    ap (λ (x : ℤ). pos c.args.scale *ℤ x) c.sum_of_products-sum.ensures
    ∙ scaled_total (k.cells.t (k.action n) s) k.cells.states c.args.scale c.args.numbers.now c.requires.row
    (λ e. slice_index_or c.args.self.now.narrow e (pos 0)) (factored_value_at_end k n) c.min-count.result
    (λ e l some. (c.requires.ends.narrow c.requires.narrow s e c.requires.start l some).value)
    (omega (arith, c.min-count.ensures, c.states.ensures)) (λ less. omega (arith, less, c.min-count.ensures, c.states.ensures)) in
    let le = expected_value_le k c.args.node.now.input.proper limits c.args.node.now.input.values n s c.args.node.now.within
    c.requires.start in
    rw back (scaled_room c.args.scale sum (factored_value k n s) most_sum is (omega (arith, le, ahead_room k.cells limits)))

pub returns : goal.returns
returns g c =
    let k = node_controller c.args.node.now in
    let n = c.args.node.now.n in
    let s = c.args.s in
    let sum = c.sum_of_products-sum.result in
    let back = to_z-of_z w128 sum (search rules) in
    let is : pos c.args.scale *ℤ sum ≡ factored_value k n s =
    ap (λ (x : ℤ). pos c.args.scale *ℤ x) c.sum_of_products-sum.ensures
    ∙ scaled_total (k.cells.t (k.action n) s) k.cells.states c.args.scale c.args.numbers.now c.requires.row
    (λ e. slice_index_or c.args.self.now.narrow e (pos 0)) (factored_value_at_end k n) c.min-count.result
    (λ e l some. (c.requires.ends.narrow c.requires.narrow s e c.requires.start l some).value)
    (omega (arith, c.min-count.ensures, c.states.ensures)) (λ less. omega (arith, less, c.min-count.ensures, c.states.ensures)) in
    record {
      value = to_z-of_z w128 c.weigh.result (search rules) ∙ c.weigh.ensures ∙ ap (λ (x : ℤ). pos c.args.scale *ℤ x) back ∙ is;
      missing = λ z missed. (c.requires.ends.narrow c.requires.narrow s missed.0 c.requires.start missed.1 missed.2).missing z missed.3;
    }
