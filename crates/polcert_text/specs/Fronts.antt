-- The longest front of some bytes that is a gap, and the longest that is a lexeme.
-- Source: the rule of the longest match, by which the grammar of the POMDP file format is read.
use Rattle.std.specs.Prelude.{◌≡◌, ℕ, ◌<◌, ◌≤◌, true, false, Some, None, List, length, take}
use Rattle.polcert_text.specs.Lexemes.{kind_of}
use Rattle.polcert_text.specs.Gaps.{is_gap}
use Rattle.polcert_text.specs.declared.tokens.TokenKind.{TokenKind}

-- the first n bytes are a gap, and no longer front is one
pub record IsLongestGap (bytes : List ℕ) (n : ℕ) : Type 0 where
  pub within : n ≤ length bytes
  pub gap : is_gap (take n bytes) ≡ true
  pub longest : (k : ℕ) → n < k → k ≤ length bytes → is_gap (take k bytes) ≡ false

-- the first n bytes are a lexeme of this kind, and no longer front is a lexeme
pub record IsLongestLexeme (bytes : List ℕ) (kind : TokenKind) (n : ℕ) : Type 0 where
  pub within : n ≤ length bytes
  pub lexeme : kind_of (take n bytes) ≡ Some kind
  pub longest : (k : ℕ) → n < k → k ≤ length bytes → kind_of (take k bytes) ≡ None

-- no lexeme begins here
abbrev pub NoLexeme : List ℕ → Type 0
NoLexeme bytes = (k : ℕ) → k ≤ length bytes → kind_of (take k bytes) ≡ None
