-- The kind of a refusal inside a body, by what its place is for and what is found there in place of it. What a number
-- is worth is another matter: `Reasons` says when its value is refused.
use Rattle.std.specs.Prelude.{◌≡◌, ℕ, ◌==◌, Bool, true, false, Option, Some, None, List, length, codes, bytes_eq, if◌then◌else◌}
use Rattle.polcert_text.specs.Cut.{Lexeme}
use Rattle.polcert_text.specs.Lexemes.{are_digits}
use Rattle.polcert_text.specs.declared.tokens.TokenKind.{TokenKind}
use Rattle.polcert_text.specs.declared.tokens.TokenKind.TheVariants.{Name, Numeral}
use Rattle.polcert_format.specs.declared.fault.ItemFault.{ItemFault}
use Rattle.polcert_format.specs.declared.fault.ItemFault.TheVariants.{BadShape, BadCount, DuplicateName, UnknownName, IndexOutOfRange, WrongNumberCount, Reset, StartSum, StartEmpty, ProbabilityRange, DiscountRange}
use Rattle.polcert_format.specs.declared.fault.ItemFault.TheVariants as faults
use Rattle.polcert_cells.specs.Words.{is_reserved}
use Rattle.polcert_format.specs.Reasons.{is_sign_kind}

-- what a place of a body is for
pub data Expected : Type 0 where
  -- a colon, the word of `values:`, `include` or `exclude`, or `*` where nothing has a name or a number
  Mark : Expected
  -- an action, a state or an observation
  Index : Expected
  -- a further state of a list
  Listed : Expected
  -- a count, or the first name
  CountOrName : Expected
  -- a further name, after these, where there may be this many
  FurtherName : ℕ → List (List ℕ) → Expected
  -- `uniform`, a state's name or the first number, after `start:`
  StartBody : Expected
  -- a further number, after digits that are a state's number where nothing follows them
  NumberOrEnd : Expected
  -- the first lexeme of a number
  Number : Expected
  -- the numeral after a sign
  Digits : Expected
  -- nothing more, after as many numbers as there may be
  EndOfNumbers : Expected
  -- nothing more, after a word or a count
  EndOfWord : Expected

-- an index that no element has: a number, a name, or something else
abbrev pub no_index : TokenKind → List ℕ → ItemFault
no_index Numeral bytes = if are_digits bytes then IndexOutOfRange else BadShape
no_index Name bytes = if is_reserved bytes then BadShape else UnknownName
no_index _ bytes = BadShape

-- what cannot stand after these names: a name too many, one that stands there already, or something else
abbrev pub no_name : ℕ → List (List ℕ) → TokenKind → List ℕ → ItemFault
no_name most names Name bytes = if is_reserved bytes then BadShape else (if length names == most then BadCount else DuplicateName)
no_name most names _ bytes = BadShape

-- a numeral that is no count, or something else
abbrev pub no_count : TokenKind → ItemFault
no_count Numeral = BadCount
no_count _ = BadShape

abbrev pub begins_number : TokenKind → Bool
begins_number Numeral = true
begins_number kind = is_sign_kind kind

-- the lexeme found there isn't what is wanted
abbrev pub misfit_at : Expected → Lexeme → ItemFault
misfit_at Index l = no_index l.kind l.bytes
misfit_at Listed l = no_index l.kind l.bytes
misfit_at StartBody l = no_index l.kind l.bytes
misfit_at CountOrName l = no_count l.kind
misfit_at (FurtherName most names) l = no_name most names l.kind l.bytes
misfit_at EndOfNumbers l = if begins_number l.kind then WrongNumberCount else BadShape
misfit_at _ l = BadShape

abbrev pub is_reset : TokenKind → List ℕ → Bool
is_reset Name bytes = bytes_eq bytes (codes "reset")
is_reset _ bytes = false

-- The kind, of what is found: a lexeme of the body, or its end. The word `reset` has a kind of its own everywhere. Where
-- all numbers are there only a start item can be refused, for their sum.
abbrev pub unexpected_token : Expected → Option Lexeme → ItemFault
unexpected_token expected (Some l) = if is_reset l.kind l.bytes then Reset else misfit_at expected l
unexpected_token Number None = WrongNumberCount
unexpected_token StartBody None = WrongNumberCount
unexpected_token CountOrName None = BadCount
unexpected_token NumberOrEnd None = IndexOutOfRange
unexpected_token Listed None = StartEmpty
unexpected_token EndOfNumbers None = StartSum
unexpected_token _ None = BadShape

-- a numeral where a number may stand is refused for its value
abbrev pub tests_value : Expected → TokenKind → Bool
tests_value Number Numeral = true
tests_value Digits Numeral = true
tests_value StartBody Numeral = true
tests_value NumberOrEnd Numeral = true
tests_value _ _ = false

abbrev pub IsOfValue : ItemFault → Type 0
IsOfValue (faults.Number reason) = Unit {0}
IsOfValue ProbabilityRange = Unit {0}
IsOfValue DiscountRange = Unit {0}
IsOfValue _ = ⊥

-- The lexeme is refused, for this reason, where something else is wanted: for its value, or as the table says.
pub data IsMisfit (expected : Expected) (l : Lexeme) (kind : ItemFault) : Type 0 where
  of_value : tests_value expected l.kind ≡ true → IsOfValue kind → IsMisfit expected l kind
  of_place : tests_value expected l.kind ≡ false → kind ≡ unexpected_token expected (Some l) → IsMisfit expected l kind
