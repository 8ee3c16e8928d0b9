use Rattle.std.proofs.Common.{rules, arith, ◌∙◌, ◌<◌, to_z, of_z, w64, length}
use Rattle.polcert_optimum.proofs.Common.{w128, IsProper, IsWithinLimits, value_of}
use Rattle.std.proofs.lemmas.Int.{to_z-of_z}
use Rattle.polcert_optimum.proofs.Checking.Adding.{weight_le, term_room, add_value, done_more, rest_more}
use Rattle.polcert_optimum.proofs.Checking.Pairs.{vectors_small}
use Rattle.polcert_optimum.proofs.observation_sums.ObservationSums.add_row.Goals as goal

pub overflow_mul-step_weight : goal.overflow_mul-step_weight
overflow_mul-step_weight g c = grind (arith, weight_le)

pub weigh-part-requires-clause-weight : goal.weigh-part-requires-clause-weight
weigh-part-requires-clause-weight g c = grind (arith, weight_le)

pub weigh-part-requires-clause-product : goal.weigh-part-requires-clause-product
weigh-part-requires-clause-product g c = grind (arith, to_z, of_z, weight_le, term_room)

pub overflow_add-sum : goal.overflow_add-sum
overflow_add-sum g c =
    let t = g.C.Cells.table _ in
    let p = g.met.C.Cells.is_proper _ in
    let limits = g.met.C.Cells.is_within_limits _ in
    let next = c.in-Some.ensures.0 in
    (add_value t p limits _
    (λ e. vectors_small t _ c.args.pair.now.fit c.args.pair.now.proper _ e c.requires.next)
    _ _ c.args.pair.now.action_within c.args.pair.now.state_within _
    _ _
    _ _
    _ c.requires.end next.1 (cc)
    (to_z-of_z w128 _ (search rules)
    ∙ c.loop-observation.invariant.rest _ next.0 next.1) (search rules) (search rules) c.weigh-part.ensures
    (to_z-of_z w64 _ (search rules) ∙ c.at-value.ensures.value)).0

pub loop-observation-preserved : goal.loop-observation-preserved
loop-observation-preserved g c =
    let t = g.C.Cells.table _ in
    let p : IsProper t = grind arith in
    let limits : IsWithinLimits t = grind arith in
    let vector = value_of c.args.pair.now.vectors.now c.args.next in
    let next = c.in-Some.ensures.0 in
    let step = add_value t p limits _
    (λ e. vectors_small t _ c.args.pair.now.fit c.args.pair.now.proper _ e c.requires.next)
    _ _ c.args.pair.now.action_within c.args.pair.now.state_within _
    _ _
    _ _
    _ c.requires.end next.1 (cc)
    (to_z-of_z w128 _ (search rules)
    ∙ c.loop-observation.invariant.rest _ next.0 next.1) (search rules) (search rules) c.weigh-part.ensures
    (to_z-of_z w64 _ (search rules) ∙ c.at-value.ensures.value) in
    let room : c.in-Some.observation.column < length c.loop-observation.self.sums =
    omega arith in
    rw c.in-Some.ensures.1 (record {
      done = done_more t _ _ _ _ _ _ _ _ room next.4 step.1 c.loop-observation.invariant.done c.loop-observation.invariant.rest next.1;
      rest = rest_more t _ _ _ _ _ _ _ _ room next.4 next.0 c.loop-observation.invariant.rest;
      within = omega arith;
    })

pub returns : goal.returns
returns g c = grind arith
