-- What the tokens taken leave, and the tokens of the whole text.
use Rattle.std.proofs.Common.{◌≡◌, ℕ, ◌+◌, Option, Some, None, List, ◌++◌, take}
use Rattle.std.proofs.Common.{arith}
use Rattle.polcert_format.proofs.Common.{Lexeme, Rest, IsCut, text_rest, text_limit, TokenFault, TextTooLong}
use Rattle.polcert_format.proofs.Common.{TextTokens, AreTokensOf}
use Rattle.polcert_text.specs.TakenTokens.{Taken}
use Rattle.polcert_text.proofs.Taken.TakenTokens.{cut_taken}
use Rattle.polcert_text.proofs.TextLaws.{one_cut}

-- ---- the whole text

-- the tokens of a text begin with those taken
pub tokens_begin : (text : List ℕ) (new : Rest) (seen : List Lexeme) (ts : TextTokens) → Taken (text_rest text text_limit) seen new
    → AreTokensOf text ts
    → (further : List Lexeme) × (ts.lexemes ≡ seen ++ further)
tokens_begin text new seen ts taken tokens = grind (arith, cut_taken)

-- where the tokens taken are all, the tokens of the text are they
pub these_tokens : (text : List ℕ) (seen : List Lexeme) (end : Option TokenFault) (ts : TextTokens)
    → IsCut (text_rest text text_limit) seen end → AreTokensOf text ts
    → (ts.lexemes ≡ seen) × (ts.ending ≡ end)
these_tokens text seen end ts cut tokens = one_cut _ _ seen _ end tokens.cut cut

abbrev pub too_long : List ℕ → Rest
too_long text = record { place = 0; bytes = take text_limit text; ending = Some (TextTooLong text_limit) }

abbrev pub whole_text : List ℕ → Rest
whole_text text = record { place = 0; bytes = text; ending = None }
