use Rattle.std.proofs.Common.{◌≡◌, rules}
use Rattle.polcert_cells.proofs.RowSteps.{scaled_by, step_after}
use Rattle.polcert_cells.proofs.cells.scaled_step.Goals as goal

pub returns : goal.returns
returns c =
    let none : scaled_by c.args.scale c.args.numbers.now c.args.at ≡ 0 = search rules in
    step_after (scaled_by c.args.scale c.args.numbers.now) _ c.args.at c.first_weight.result none
    (c.first_weight.ensures (scaled_by c.args.scale c.args.numbers.now) (λ k weight l post. search rules))
