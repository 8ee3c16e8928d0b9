use Rattle.std.proofs.Common.{[], ◌∷◌, ◌++◌}
use Rattle.polcert_cells.proofs.CellLaws as laws
use Rattle.polcert_format.proofs.laws.uniform_sums_to_scale.Goals as goal

pub returns : goal.returns
returns c = λ p entries entry table row uniform covers n. laws.uniform_row p (entries ++ entry ∷ []) table row _ n uniform
    (λ column below. laws.covered_now entries entry table (row ++ column ∷ []) (laws.covers_row table row (column ∷ []) entry covers))
