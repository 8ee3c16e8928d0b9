use Rattle.std.proofs.Common.{◌≡◌, ℤ, pos, ◌<◌, ◌≤◌, ⊎_elim, slice_index_or, to_z, rules, arith}
use Rattle.std.proofs.lemmas.Bool.{cases_lt}
use Rattle.std.proofs.lemmas.Int.{to_z-of_z}
use mir.Syntax.{w128}
use Rattle.polcert_robust.proofs.Levels.{chosen_is_some, chosen_some}
use Rattle.polcert_robust.proofs.level.value_between.Goals.{then-is_between+else-row-le-FEW_WEIGHTS, else-is_between}
use Rattle.polcert_robust.proofs.level.value_between.Goals as goal

pub loop-i-preserved : goal.loop-i-preserved
loop-i-preserved c =
    let low : ℤ = to_z w128 _ in
    let high : ℤ = to_z w128 _ in
    let value : ℤ = slice_index_or c.args.row.now.values.now c.loop-i.i (pos 0) in
    elim c.if-is_between.branch [
      | then-is_between+else-row-le-FEW_WEIGHTS w ↦ record {
        few = omega arith;
        some = rw w.found-is (chosen_some low high _ _ _
            (c.is_between.ensures.between w.if-is_between.true) c.loop-i.invariant.some w.better_found-found.ensures);
        none = λ e. absurd (chosen_is_some _ _ _ w.better_found-found.ensures (cc));
      }
      | else-is_between w ↦ record {
        few = omega arith;
        some = rw w.found-is c.loop-i.invariant.some;
        none = λ e k kl. ⊎_elim (λ (h : k < c.loop-i.i). c.loop-i.invariant.none (cc) k h)
            (λ (h : c.loop-i.i ≤ k). let same : k ≡ c.loop-i.i = omega arith in
            rw same (rw (← to_z-of_z w128 value (search rules))
            (c.is_between.ensures.outside w.if-is_between.false)))
            (cases_lt k _);
      }
    ]
