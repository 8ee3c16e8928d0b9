use Rattle.polcert_check.proofs.Common.{Controller}
use Rattle.std.proofs.Common.{rules, arith, ◌≡◌, ◌∙◌, ◌<◌, ◌≤◌, ◌^◌, ℕ, ℤ, pos, ◌*ℤ◌, Option, Some, None, false, refl, slice_index, to_z}
use Rattle.std.proofs.Common.{sym, ap}
use Rattle.polcert_check.proofs.Common.{w128, node_controller, most_sum, factored_value_at_end}
use Rattle.std.specs.Option.{is_some}
use Rattle.std.proofs.lemmas.Int.{to_z-of_z}
use Rattle.polcert_check.specs.Steps.Products.{number_term}
use Rattle.polcert_check.proofs.Sums.Scales.{after_room}
use Rattle.polcert_check.proofs.Walking.Expecting.{value_at_end_le}
use Rattle.polcert_check.proofs.Walking.Products.{product_more, scaled_value, scaled_room, none_more, none_at_all}
use Rattle.polcert_check.proofs.end_values.complete_value_of_numbers.Goals as goal

none_is : (o : Option ℕ) → is_some o ≡ false → o ≡ None
none_is None e = refl
none_is (Some x) e = absurd (cc)

pub overflow_add-sum : goal.overflow_add-sum
overflow_add-sum g c =
    let k : Controller = node_controller c.args.node.now in
    let limits = g.met.C.Cells.is_within_limits c.args.node.now.input.cells.now in
    let few : c.loop-z.z < 2 ^ 20 = omega
    (arith, c.loop-z-test.true, c.min-count.ensures, c.observations-observations.ensures, limits.observations.1) in
    (product_more (λ z. number_term k c.args.node.now.n c.args.e (slice_index c.args.numbers.now z) z) c.loop-z.z
    (to_z w128 c.loop-z.sum-bits) c.number_value-part.result.value c.loop-z.invariant.sum c.loop-z.invariant.small few (search rules)
    c.number_value-part.ensures.value c.number_value-part.ensures.small).0

pub loop-z-preserved : goal.loop-z-preserved
loop-z-preserved g c =
    let k : Controller = node_controller c.args.node.now in
    let limits = g.met.C.Cells.is_within_limits c.args.node.now.input.cells.now in
    let few : c.loop-z.z < 2 ^ 20 = omega
    (arith, c.loop-z-test.true, c.min-count.ensures, c.observations-observations.ensures, limits.observations.1) in
    let inside : c.loop-z.z < k.cells.observations = omega
    (arith, c.loop-z-test.true, c.min-count.ensures, c.observations-observations.ensures) in
    let more = product_more (λ z. number_term k c.args.node.now.n c.args.e (slice_index c.args.numbers.now z) z) c.loop-z.z
    (to_z w128 c.loop-z.sum-bits) c.number_value-part.result.value c.loop-z.invariant.sum c.loop-z.invariant.small few (search rules)
    c.number_value-part.ensures.value c.number_value-part.ensures.small in
    let none : c.number_value-part.result.missing ≡ None =
    none_is c.number_value-part.result.missing (sym c.is_some.ensures ∙ c.if-is_some.false) in
    record {
      sum = more.1;
      small = more.2;
      none = none_more k c.args.node.now.n c.args.e c.args.scale c.args.numbers.now c.requires.row c.loop-z.z inside
          (c.number_value-part.ensures.missing none) c.loop-z.invariant.none;
    }

pub weigh-requires-clause-product : goal.weigh-requires-clause-product
weigh-requires-clause-product g c =
    let k = node_controller c.args.node.now in
    let limits = g.met.C.Cells.is_within_limits _ in
    let n = c.args.node.now.n in
    let within : c.loop-z.z ≤ k.cells.observations = omega
    (arith, c.loop-z.auto.z-end, c.min-count.ensures, c.observations-observations.ensures) in
    let le = value_at_end_le k c.args.node.now.input.proper c.args.node.now.input.values n c.args.e c.args.node.now.within c.requires.end in
    scaled_room c.args.scale (to_z w128 c.loop-z.sum-bits) (factored_value_at_end k n c.args.e) most_sum
    (ap (λ (x : ℤ). pos c.args.scale *ℤ x) c.loop-z.invariant.sum
    ∙ scaled_value k n c.args.e c.args.scale c.args.numbers.now c.requires.row c.loop-z.z within
    (λ less. omega (arith, less, c.loop-z-test.false, c.min-count.ensures, c.observations-observations.ensures)))
    (omega (arith, le, after_room k.cells limits))

pub returns : goal.returns
returns g c =
    let k = node_controller c.args.node.now in
    let n = c.args.node.now.n in
    let within : c.loop-z.z ≤ k.cells.observations = omega
    (arith, c.loop-z.auto.z-end, c.min-count.ensures, c.observations-observations.ensures) in
    let is =
    ap (λ x. pos c.args.scale *ℤ x) c.loop-z.invariant.sum
    ∙ scaled_value k n _ _ c.args.numbers.now c.requires.row c.loop-z.z within
    (λ less. omega (arith, less, c.loop-z-test.false, c.min-count.ensures, c.observations-observations.ensures)) in
    record {
      value = to_z-of_z w128 _ (search rules) ∙ c.weigh.ensures ∙ is;
      missing = none_at_all k n c.args.e c.args.scale c.args.numbers.now c.requires.row c.loop-z.z
          (λ less. omega (arith, less, c.loop-z-test.false, c.min-count.ensures, c.observations-observations.ensures))
          c.loop-z.invariant.none;
    }
