-- Helper definitions of private functions: numbers seen from one side. Nobody has to believe them.
use Rattle.std.specs.Prelude.{ℤ, neg_ℤ}
use Rattle.polcert_robust.specs.declared.side.Side.{Side}
use Rattle.polcert_robust.specs.declared.side.Side.TheVariants.{Below, Above}

-- a number, or from above its negative
abbrev pub turned : Side → ℤ → ℤ
turned Below x = x
turned Above x = neg_ℤ x

-- the end of an interval of rewards that is least from this side
abbrev pub least_end : Side → ℤ → ℤ → ℤ
least_end Below low high = low
least_end Above low high = neg_ℤ high
