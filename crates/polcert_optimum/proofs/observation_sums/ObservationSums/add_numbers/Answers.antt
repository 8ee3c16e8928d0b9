use Rattle.std.proofs.Common.{rules, arith, ◌∙◌, ◌*◌, ◌<◌, w64, length, slice_index}
use Rattle.polcert_optimum.proofs.Common.{w128, value_of}
use Rattle.std.proofs.lemmas.Int.{to_z-of_z}
use Rattle.polcert_check.proofs.Walking.Products.{weight_of_number, none_after}
use Rattle.polcert_optimum.proofs.Checking.Adding.{weight_le, term_room, add_value, done_more, rest_more, all_done}
use Rattle.polcert_optimum.proofs.Checking.Pairs.{vectors_small}
use Rattle.polcert_optimum.proofs.observation_sums.ObservationSums.add_numbers.Goals as goal

pub overflow_mul-step_weight : goal.overflow_mul-step_weight
overflow_mul-step_weight g c =
    let pair = c.args.pair.now in
    let inside : c.loop-z.z < (g.C.Cells.table _).observations = omega arith in
    grind (
      arith,
      weight_le _ (g.met.C.Cells.is_proper _) (g.met.C.Cells.is_within_limits _) _ _ pair.action_within pair.state_within _ _ _ _
          c.requires.end
          inside c.requires.weight
          (weight_of_number _ _ c.args.scale _ c.requires.row _ inside),
    )

pub weigh-part-requires-clause-weight : goal.weigh-part-requires-clause-weight
weigh-part-requires-clause-weight g c =
    let pair = c.args.pair.now in
    let inside : c.loop-z.z < (g.C.Cells.table _).observations = omega arith in
    grind (
      arith,
      weight_le _ (g.met.C.Cells.is_proper _) (g.met.C.Cells.is_within_limits _) _ _ pair.action_within pair.state_within _ _ _ _
          c.requires.end
          inside c.requires.weight
          (weight_of_number _ _ c.args.scale _ c.requires.row _ inside),
    )

pub weigh-part-requires-clause-product : goal.weigh-part-requires-clause-product
weigh-part-requires-clause-product g c =
    let t = g.C.Cells.table _ in
    let pair = c.args.pair.now in
    let e = c.args.end.column in
    let z = c.loop-z.z in
    let inside : z < t.observations = omega arith in
    let weight = c.args.end.weight * (slice_index _ z * c.args.scale) in
    let small = weight_le t (g.met.C.Cells.is_proper _) (g.met.C.Cells.is_within_limits _)
    _ _ pair.action_within pair.state_within e z _ _
    c.requires.end inside c.requires.weight
    (weight_of_number _ _ _ _ c.requires.row z inside) in
    rw (to_z-of_z w128 _ (search rules) ∙ to_z-of_z w64 _ (search rules)
    ∙ c.at-value.ensures.value) (term_room weight (value_of pair.vectors.now _ e) small
    (vectors_small t _ pair.fit pair.proper _ e c.requires.next c.requires.end))

pub overflow_add-sum : goal.overflow_add-sum
overflow_add-sum g c =
    let t = g.C.Cells.table _ in
    let pair = c.args.pair.now in
    let e = c.args.end.column in
    let z = c.loop-z.z in
    let inside : z < t.observations = omega arith in
    let weight = weight_of_number _ _ _ _ c.requires.row z inside in
    (add_value t (g.met.C.Cells.is_proper _) (g.met.C.Cells.is_within_limits _)
    _
    (λ e. vectors_small t _ pair.fit pair.proper _ e c.requires.next) _ _
    pair.action_within pair.state_within e z _
    _ _ _ c.requires.end inside
    (λ i. c.requires.weight i * weight i)
    (to_z-of_z w128 _ (search rules) ∙ c.loop-z.invariant.rest z (omega arith) inside) (search rules)
    (search rules) c.weigh-part.ensures (to_z-of_z w64 _ (search rules) ∙ c.at-value.ensures.value)).0

pub loop-z-preserved : goal.loop-z-preserved
loop-z-preserved g c =
    let t = g.C.Cells.table _ in
    let pair = c.args.pair.now in
    let limits = g.met.C.Cells.is_within_limits _ in
    let vector = value_of pair.vectors.now _ in
    let e = c.args.end.column in
    let z = c.loop-z.z in
    let inside : z < t.observations = omega arith in
    let weight = weight_of_number _ _ _ _ c.requires.row z inside in
    let step = add_value t (g.met.C.Cells.is_proper _) limits _
    (λ e. vectors_small t _ pair.fit pair.proper _ e c.requires.next) _ _
    pair.action_within pair.state_within e z _
    _ _ _ c.requires.end inside
    (λ i. c.requires.weight i * weight i)
    (to_z-of_z w128 _ (search rules) ∙ c.loop-z.invariant.rest z (omega arith) inside) (search rules)
    (search rules) c.weigh-part.ensures (to_z-of_z w64 _ (search rules) ∙ c.at-value.ensures.value) in
    let room : z < length c.loop-z.self.sums = omega arith in
    record {
      done = done_more t vector _ _ _ e z z _ room (λ k h l. absurd (omega arith)) step.1
          c.loop-z.invariant.done c.loop-z.invariant.rest inside;
      rest = rest_more t _ _ _ _ e z z _ room (λ k h l. absurd (omega arith)) (omega arith) c.loop-z.invariant.rest;
    }

pub returns : goal.returns
returns g c =
    let t = g.C.Cells.table _ in
    all_done t _ _ _ _ _ _
    (λ k. none_after _ _ c.args.scale _ c.requires.row _ k
    (λ less. omega arith))
    c.loop-z.invariant.done c.loop-z.invariant.rest
