use Rattle.std.proofs.Common.{arith}
use Rattle.polcert_check.proofs.Sums.Figures.{amount_small, most_amount, amount_fits_128}
use Rattle.polcert_check.proofs.laws.amounts_fit.Goals as goal

pub returns : goal.returns
returns c = grind (arith, amount_small, most_amount, amount_fits_128)
