-- A name among the tokens of a text is ASCII text.
use Rattle.std.proofs.Common.{◌≡◌, ◌∙◌, ℕ, zero, suc, ◌<◌, Bool, true, cond, Some, None, List, [], ◌∷◌, IsAscii, ap, arith, lit<}
use Rattle.std.proofs.Common.{◌++◌, refl, sym, subst, length-append, length}
use Rattle.std.specs.List.{list_all}
use Rattle.polcert_items.proofs.Common.{BeginWith, is_digit, Lexeme, Name, Numeral, Colon, Star, Plus, Minus}
use Rattle.polcert_text.specs.Bytes.{is_letter, is_name_byte}
use Rattle.polcert_text.specs.Cut.{Rest, IsTokenAt, TakesToken}
use Rattle.polcert_text.specs.TakenTokens.{Taken, nothing, token}
use Rattle.polcert_text.specs.Lexemes.{is_name, kind_of}
use Rattle.polcert_items.specs.Steps.Elements.{IsAsciiName}
use Rattle.polcert_cells.proofs.Basics.{and_true, cons≢nil, same_head, same_tail}

name_byte_below : (b : ℕ) → is_name_byte b ≡ true → b < 128
unfolding is_name_byte is_letter is_digit
name_byte_below b h = grind arith

letter_below : (b : ℕ) → is_letter b ≡ true → b < 128
unfolding is_letter
letter_below b h = grind arith

bytes_below : (bs : List ℕ) → list_all is_name_byte bs ≡ true → IsAscii bs
bytes_below [] h i = lit< tt
bytes_below (b ∷ bs) h zero = name_byte_below b (and_true _ _ h).0
bytes_below (b ∷ bs) h (suc i) = bytes_below bs (and_true _ _ h).1 i

name_below : (bs : List ℕ) → is_name bs ≡ true → IsAscii bs
name_below = grind (arith, letter_below, bytes_below)

-- among the tests of `kind_of`, the one for a name passed
kind_is_name : (name numeral colon star plus minus : Bool)
    → cond name (Some Name) (cond numeral (Some Numeral)
    (cond colon (Some Colon) (cond star (Some Star) (cond plus (Some Plus) (cond minus (Some Minus) None))))) ≡ Some Name → name ≡ true
kind_is_name = grind arith

name_of_kind : (bs : List ℕ) → kind_of bs ≡ Some Name → is_name bs ≡ true
unfolding kind_of
name_of_kind bs e = kind_is_name _ _ _ _ _ _ e

pub name_is_text : (place : ℕ) (bytes : List ℕ) (l : Lexeme) → IsTokenAt place bytes l → IsAsciiName l
name_is_text place bytes l at = λ name. name_below l.bytes
    (name_of_kind l.bytes (ap kind_of at.bytes_are ∙ at.lexeme.lexeme ∙ ap Some name))

pub token_is_text : (old : Rest) (l : Lexeme) (new : Rest) → TakesToken old l new → IsAsciiName l
token_is_text old l new takes = name_is_text _ _ l takes.token_at

one_last : (ls : List Lexeme) (t l : Lexeme) → ls ++ t ∷ [] ≡ l ∷ [] → t ≡ l
one_last [] t l e = same_head e
one_last (m ∷ ls) t l e = absurd (omega (arith, ap length (same_tail e), length-append ls (t ∷ [])))

only_is_text : (old new : Rest) (ls : List Lexeme) (l : Lexeme) → Taken old ls new → ls ≡ l ∷ [] → IsAsciiName l
only_is_text old new ls l (nothing _) e = absurd (cons≢nil (sym e))
only_is_text old new ls l (token _ between _ before t taken takes) e =
    subst IsAsciiName (one_last before t l e) (token_is_text between t new takes)

-- the one token at the front of some bytes
pub front_is_text : (place : ℕ) (bytes : List ℕ) (count : ℕ) (l : Lexeme) → BeginWith place bytes count (l ∷ []) → IsAsciiName l
front_is_text place bytes count l front = only_is_text _ _ (l ∷ []) l (front.taken [] None) refl
