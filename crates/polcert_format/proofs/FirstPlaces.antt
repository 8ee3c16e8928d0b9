-- An entry begins with a colon and a place.
use Rattle.std.proofs.Common.{◌≡◌, List, ◌∷◌, sym, subst, arith}
use Rattle.polcert_format.proofs.Common.{Lexeme, Colon, Table, IsEntry, Entry, Preamble}

-- a colon and a place at the front
pub record BeginsWithPlace (body : List Lexeme) : Type 0 where
  pub colon : Lexeme
  pub place : Lexeme
  pub rest : List Lexeme
  pub whole : body ≡ colon ∷ place ∷ rest
  pub colon_is : colon.kind ≡ Colon

pub entry_begins : (p : Preamble) (table : Table) (body : List Lexeme) (e : Entry) → IsEntry p table body e → BeginsWithPlace body
entry_begins p table body e a = subst BeginsWithPlace (sym a.whole) (grind arith)
