-- Where tokens stop being possible, whatever makes them so.
use Rattle.std.specs.Prelude.{◌≡◌, List, [], ◌∷◌, ◌++◌}
use Rattle.polcert_text.specs.Cut.{Lexeme}

-- The tokens but for the last are possible, and with the last they aren't, for this reason.
pub record FirstBadToken (IsPossible : List Lexeme → Type 0) (IsWrong : List Lexeme → Lexeme → Type 0) (tokens : List Lexeme) : Type 0 where
  pub before : List Lexeme
  pub token : Lexeme
  pub spelled : tokens ≡ before ++ token ∷ []
  pub possible : IsPossible before
  pub impossible : IsPossible tokens → ⊥
  pub wrong : IsWrong before token
