-- What a model keeps of its text, and what that means.
-- Source: the POMDP file format page at pomdp.org: the preamble, a start item or none, and the lines of T, O and R.
use Rattle.polcert_cells.specs.Meaning.{Meaning, HasProperRows, HasLimitedNumbers}
use Rattle.polcert_format.specs.Writable.{IsWritable}
use Rattle.polcert_tables.specs.Kept as parts
use Rattle.polcert_tables.specs.Kept.{Kept}

-- what is kept of the text, where each row sums to its scale, all lies within limits and can be written
pub record Contents : Type 0 where
  pub kept : Kept
  pub rows : HasProperRows (parts.kept_meaning kept)
  pub limits : HasLimitedNumbers (parts.kept_meaning kept)
  pub writable : IsWritable (parts.kept_meaning kept)

-- what they denote
abbrev pub meaning : Contents → Meaning
meaning c = parts.kept_meaning c.kept
