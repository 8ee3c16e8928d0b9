use Rattle.std.proofs.Common.{◌≡◌, ◌∙◌, ◌*◌, ◌≤◌, ℤ, pos, ◌+ℤ◌, true, slice_index_or, unsigned_abs, to_z, of_z}
use Rattle.std.proofs.Common.{w64, rules}
use Rattle.std.proofs.Common.{arith, sym}
use Rattle.std.proofs.lemmas.Int.{to_z-of_z}
use mir.Syntax.{w128}
use Rattle.polcert_cells.specs.Tables.{IsWithinLimits}
use Rattle.polcert_check.specs.Horizon.{Controller}
use Rattle.polcert_robust.specs.Steps.Pairs.{IsEndMean, cells_of, most_worth, near_controller, near_table}
use Rattle.polcert_robust.proofs.EndMeans.{near_mean_small, ready_mean, shared_of}
use Rattle.polcert_robust.proofs.Levels.{two_fit}
use Rattle.polcert_robust.proofs.pair.mean_at.Goals as goal

pub returns-then-not-lacks_reward : goal.returns-then-not-lacks_reward
returns-then-not-lacks_reward g c =
    let k = near_controller c.args.pair.now.input.now in
    let t = cells_of c.args.pair.now.input.now in
    let i = near_table c.args.pair.now.input.now in
    let limits = g.met.C.Cells.is_within_limits _ in
    let mean : ℤ = slice_index_or c.args.ends.now.means c.args.e (pos 0) in
    let is : IsEndMean i k c.args.pair.now.n c.args.pair.now.s c.args.e mean =
    ready_mean i k c.args.pair.now.n _ _ mean _
    _ c.requires.ready (c.lacks_reward.ensures.found (search rules)) in
    rw (to_z-of_z w128 mean (search rules)) (record {
      is = is;
      small = near_mean_small _ t _ _
          c.args.pair.now.input.now.fits c.args.pair.now.input.now.is_proper_graph c.args.pair.now.input.now.are_proper limits
          c.args.pair.now.input.now.distance.t_by _ _
          _ _ _ c.args.pair.now.input.now.distance.r_small c.args.pair.now.node
          c.args.pair.now.start c.requires.end mean is;
    })

pub invariant_of-end : goal.invariant_of-end
invariant_of-end g c = record { end = c.requires.end; reward = c.pair_reward-known.ensures }

pub end_reward-requires : goal.end_reward-requires
end_reward-requires g c =
    let t = cells_of c.args.pair.now.input.now in
    omega arith

pub overflow_add-result : goal.overflow_add-result
overflow_add-result g c =
    let k = near_controller c.args.pair.now.input.now in
    let t = cells_of c.args.pair.now.input.now in
    let i = near_table c.args.pair.now.input.now in
    let limits = g.met.C.Cells.is_within_limits _ in
    let mean : ℤ = slice_index_or c.args.ends.now.means c.args.e (pos 0) in
    let lacks_it : c.lacks_reward.result ≡ true = search rules in
    let lacks = c.lacks_reward.ensures.kept lacks_it in
    let no = c.lacks_reward.ensures.rewards lacks_it in
    let reward : to_z w64 (of_z w64 c.end_reward.result) ≡ c.end_reward.result = grind arith in
    let part = rw reward at c.reward_part.ensures.is in
    let (h, shared) = c.requires.ready.shared lacks no in
    let least =
    sym (shared 0 (omega arith)) ∙ shared_of _
    _ _ _
    (sym c.end_reward.ensures.is) in
    let is : IsEndMean i k _ _ _ _ =
    rw part (rw (← least)
    ((c.requires.ready.kept lacks).without no _ h shared)) in
    let both = two_fit mean c.reward_part.result (t.o_scale * most_worth) (search rules) (search rules)
    (near_mean_small c.args.pair.now.input.now.side t c.args.pair.now.input.now.graph.now c.args.pair.now.input.now.vectors.now
    c.args.pair.now.input.now.fits c.args.pair.now.input.now.is_proper_graph c.args.pair.now.input.now.are_proper limits
    c.args.pair.now.input.now.distance.t_by c.args.pair.now.input.now.distance.o_by c.args.pair.now.input.now.distance.r_by
    c.args.pair.now.n c.args.pair.now.s c.args.e c.args.pair.now.input.now.distance.r_small c.args.pair.now.node c.args.pair.now.start
    c.requires.end (mean +ℤ c.reward_part.result) is)
    (omega arith) in
    both.0

pub returns : goal.returns
returns g c =
    let k : Controller = near_controller c.args.pair.now.input.now in
    let t = cells_of c.args.pair.now.input.now in
    let i = near_table c.args.pair.now.input.now in
    let limits : IsWithinLimits t = grind arith in
    let mean : ℤ = slice_index_or c.args.ends.now.means c.args.e (pos 0) in
    let lacks_it : c.lacks_reward.result ≡ true = search rules in
    let lacks = c.lacks_reward.ensures.kept lacks_it in
    let no = c.lacks_reward.ensures.rewards lacks_it in
    let reward = to_z-of_z w64 c.end_reward.result (search rules) in
    let part = rw reward at c.reward_part.ensures.is in
    let (h, shared) = c.requires.ready.shared lacks no in
    let least =
    sym (shared 0 (omega arith)) ∙ shared_of c.args.pair.now.input.now.side
    _ _ c.args.pair.now.input.now.distance.r_by
    (sym c.end_reward.ensures.is) in
    let is : IsEndMean i k _ _ c.args.e _ =
    rw part (rw (← least)
    ((c.requires.ready.kept lacks).without no _ h shared)) in
    let small : unsigned_abs (mean +ℤ c.reward_part.result) ≤ t.o_scale * most_worth =
    near_mean_small _ t _ c.args.pair.now.input.now.vectors.now
    c.args.pair.now.input.now.fits c.args.pair.now.input.now.is_proper_graph c.args.pair.now.input.now.are_proper limits
    c.args.pair.now.input.now.distance.t_by _ _
    c.args.pair.now.n _ _ c.args.pair.now.input.now.distance.r_small c.args.pair.now.node c.args.pair.now.start
    c.requires.end (mean +ℤ c.reward_part.result) is in
    let both = two_fit mean _ _ (search rules) (search rules) small
    (omega arith) in
    rw both.1 (record { is = is; small = small })
