-- The tokens of a text that has no fault: gaps and tokens by turns, each the longest that can stand at its place, and a gap at
-- the end. `Cut.antt` has the cut of every text, which may end in a fault; the law `tokens_are_the_clean_cut` says that they agree.
-- Source: the POMDP file format page and its grammar (pomdp.org).
use Rattle.std.specs.Prelude.{◌≡◌, ℕ, ◌+◌, ◌≤◌, true, List, [], ◌∷◌, length, drop}
use Rattle.polcert_text.specs.Gaps.{is_gap}
use Rattle.polcert_text.specs.Fronts.{IsLongestGap}
use Rattle.polcert_text.specs.Cut.{Lexeme, IsTokenAt, text_limit}

-- the bytes, of which the first is at this place, are these tokens
abbrev pub AreTokensFrom : ℕ → List ℕ → List Lexeme → Type 0
AreTokensFrom place bytes [] = is_gap bytes ≡ true
AreTokensFrom place bytes (token ∷ tokens) = (gap : ℕ) × IsLongestGap bytes gap × IsTokenAt (place + gap) (drop gap bytes) token
    × AreTokensFrom (place + gap + length token.bytes) (drop (length token.bytes) (drop gap bytes)) tokens

-- the text is these tokens, and is no longer than texts may be
pub record AreTokens (text : List ℕ) (tokens : List Lexeme) : Type 0 where
  pub short : length text ≤ text_limit
  pub each : AreTokensFrom 0 text tokens
