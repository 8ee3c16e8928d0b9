-- What the items of a text say, before the rows of its tables are tested, and what that means.
-- Source: the POMDP file format page at pomdp.org: the preamble, a start item or none, and the lines of T, O and R.
use Rattle.std.specs.Prelude.{List, Option}
use Rattle.polcert_cells.specs.Preamble.{Preamble}
use Rattle.polcert_cells.specs.Start.{StartWeights}
use Rattle.polcert_cells.specs.declared.entries.Entry.{Entry}
use Rattle.polcert_cells.specs.Meaning.{Meaning, meaning_of}

-- the preamble, the start item if there was one, and the entries in the order of the text
pub record Draft : Type 0 where
  pub preamble : Preamble
  pub start : Option StartWeights
  pub entries : List Entry

-- what they denote
abbrev pub draft_meaning : Draft → Meaning
draft_meaning d = meaning_of d.preamble d.start d.entries
