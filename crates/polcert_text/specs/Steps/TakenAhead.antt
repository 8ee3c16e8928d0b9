-- Tokens that stand whole at the front of some bytes and that a reader takes together, whatever it makes of them.
use Rattle.std.specs.Prelude.{◌≡◌, ℕ, ◌≤◌, List, ◌++◌, length}
use Rattle.polcert_text.specs.Beginning.{BeginWith, passed}
use Rattle.polcert_text.specs.Cut.{Lexeme}
use Rattle.polcert_text.specs.Stream.{Stream, visible}

-- what a reader has read of a text, whatever else it is read for: with these tokens it continues
abbrev pub ReadsOn : {X R : Type 0} → (X → List Lexeme → R → Type 0) → R → R → List Lexeme → Type 0
ReadsOn {X} IsRead old new ts = (x : X) (seen : List Lexeme) → IsRead x seen old → IsRead x (seen ++ ts) new

-- the first of these bytes, wherever they stand, are such tokens
pub record TakesAhead (Reads : List Lexeme → Type 0) (bytes : List ℕ) (count : ℕ) : Type 0 where
  pub within : count ≤ length bytes
  pub taken : (place : ℕ) → (ts : List Lexeme) × (BeginWith place bytes count ts × Reads ts)

-- such tokens were ahead, and are passed
pub record ArePassed (Reads : List Lexeme → Type 0) (tokens after : Stream) : Type 0 where
  pub count : ℕ
  pub ts : List Lexeme
  pub front : BeginWith tokens.ahead.place (visible tokens.ahead) count ts
  pub tokens_are : after ≡ passed count tokens
  pub reads_on : Reads ts
