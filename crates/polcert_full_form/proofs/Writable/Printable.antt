-- What is not too large to print is within the limits of a text's cells.
use Rattle.polcert_full_form.proofs.Common.{Preamble, IsPrintable}
use Rattle.polcert_format.specs.Limits.{HasFewPairs}

-- there is room for what is printed after this preamble, and for the cells of a text
pub record HasRoom (p : Preamble) : Type 0 where
  pub printable : IsPrintable p
  pub pairs : HasFewPairs p
