use Rattle.std.proofs.Common.{◌≡◌, ◌∙◌, ◌*ℤ◌, ℤ, pos, to_z, of_z, w64, rules, ap, arith}
use Rattle.std.proofs.lemmas.Int.{to_z-of_z}
use mir.Syntax.{w128}
use Rattle.polcert_cells.specs.Tables.{CellTable}
use Rattle.polcert_check.specs.Horizon.{one}
use Rattle.polcert_robust.specs.Steps.Pairs.{cells_of}
use Rattle.polcert_robust.proofs.EndMeans.{part_is, part_within}
use Rattle.polcert_robust.proofs.Worths.{o_scale_small}
use Rattle.polcert_robust.proofs.pair.reward_part.Goals as goal

pub returns : goal.returns
returns g c =
    let t : CellTable = cells_of c.args.pair.now.input.now in
    let limits = g.met.C.Cells.is_within_limits _ in
    let turned : to_z w64 (of_z w64 c.turned.result) ≡ c.turned.result = grind arith in
    let argument = to_z-of_z w64 c.args.reward (search rules) in
    let earned = c.weigh_number-earned.ensures
    ∙ ap (λ (y : ℤ). pos 1000000 *ℤ y) (to_z-of_z w128 c.least_reward-least.result (search rules)) in
    let whole : c.weigh_number.result ≡ pos _ *ℤ c.weigh_number-earned.result = grind arith in
    rw (to_z-of_z w128 c.weigh_number.result (search rules)) (record {
      is = part_is t.o_scale c.least_reward-least.result _ _ earned whole ∙ ap (λ (y : ℤ). pos t.o_scale *ℤ (pos one *ℤ y)) (cc);
      small = part_within t.o_scale c.least_reward-least.result _ _ (o_scale_small t limits)
          c.least_reward-least.ensures.small earned whole;
    })
