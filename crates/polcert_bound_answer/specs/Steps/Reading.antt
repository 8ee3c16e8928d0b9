-- Helper definitions of private functions: what is written of two texts. Nobody has to believe them.
use Rattle.std.specs.Prelude.{ℕ, List}
use Rattle.polcert_cells.specs.Meaning.{Meaning}
use Rattle.polcert_cells.specs.Tables.{table_of}
use Rattle.polcert_policy.specs.Vectors.{PolicyVectors, value_of}
use Rattle.polcert_optimum.specs.declared.verdict.InformedVerdict.{InformedVerdict}
use Rattle.polcert_optimum.specs.InformedCheck.{IsInformedVerdict}
use Rattle.polcert_answer.specs.declared.fault.RunFault.{RunFault}
use Rattle.polcert_answer.specs.declared.fault.RunFault.TheVariants.{Write, Raise}
use Rattle.polcert_bound_answer.specs.Lines.{IsBoundLine}

-- this is the verdict, and this is its line
pub record IsBoundAnswerLine (m : Meaning) (v : PolicyVectors) (verdict : InformedVerdict) (line : List ℕ) : Type 0 where
  pub verdict_is : IsInformedVerdict (table_of m) (value_of v) verdict
  pub line_is : IsBoundLine m v verdict line

-- a fault of the sink or of raising
abbrev pub IsBoundWriteFault : RunFault → Type 0
IsBoundWriteFault Write = Unit {0}
IsBoundWriteFault (Raise fault) = Unit {0}
IsBoundWriteFault _ = ⊥
