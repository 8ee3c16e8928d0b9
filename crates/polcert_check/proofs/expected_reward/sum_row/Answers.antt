use Rattle.std.proofs.Common.{◌≡◌, to_z, of_z}
use Rattle.polcert_check.proofs.Common.{CellTable, factored_reward}
use Rattle.std.proofs.Common.{arith, rules, ◌∙◌, ◌*◌}
use Rattle.std.proofs.lemmas.Int.{to_z-of_z}
use Rattle.polcert_check.proofs.Common.{row_reward, w128, largest, row_weight}
use Rattle.polcert_check.proofs.Sums.Scales.{scales_le}
use Rattle.polcert_check.proofs.Walking.RowOfBoth.{row_excepted, row_total}
use Rattle.polcert_check.proofs.expected_reward.sum_row.Goals as goal

pub overflow_mul-scale : goal.overflow_mul-scale
overflow_mul-scale g c = rw (c.t_scale.ensures, c.o_scale.ensures)
    (omega (arith, scales_le (g.C.Cells.table c.args.cells.now) (g.met.C.Cells.is_within_limits c.args.cells.now)))

pub sum_excepted-requires-clause-rewards : goal.sum_excepted-requires-clause-rewards
sum_excepted-requires-clause-rewards g c =
    let m = g.C.Cells.table _ in (
      _,
      _,
      _,
      _,
      row_excepted m (g.met.C.Cells.is_proper _) (g.met.C.Cells.is_within_limits _) _ _
          c.requires.action c.requires.start _ _ _ _
          (λ k weight l post. search rules) (search rules) (search rules) (search rules),
    )

pub returns : goal.returns
returns g c = λ x e.
    let m = g.C.Cells.table _ in
    grind (
      arith,
      (to_z-of_z w128 c.sum_excepted.result (search rules)
          ∙ c.sum_excepted.ensures _ _ _ _ (row_excepted m (g.met.C.Cells.is_proper c.args.cells.now)
          (g.met.C.Cells.is_within_limits c.args.cells.now) c.args.a c.args.s c.requires.action c.requires.start _ _ _ _
          (λ k weight l post. search rules) (search rules) (search rules) (search rules)) ∙ row_total m c.args.a c.args.s),
      e,
    )
