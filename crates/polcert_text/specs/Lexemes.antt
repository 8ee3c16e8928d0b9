-- What a lexeme is: a name, a numeral, or one of `: * + -`.
-- Source: the POMDP file format page and its grammar (pomdp.org): names begin with a letter and continue with letters,
-- digits, `_` and `-`; numbers may have a point and an exponent. Our own: a point may end the digits, or begin them.
use Rattle.std.specs.Prelude.{ℕ, Bool, true, false, not, ◌||◌, ◌&&◌, Option, Some, None, List, [], ◌∷◌, codes, bytes_eq, if◌then◌else◌}
use Rattle.std.specs.List.{list_all, list_any, before_first, after_first}
use Rattle.polcert_text.specs.Bytes.{is_letter, is_digit, is_exponent_mark, is_point, is_sign, is_name_byte}
use Rattle.polcert_text.specs.declared.tokens.TokenKind.{TokenKind}
use Rattle.polcert_text.specs.declared.tokens.TokenKind.TheVariants.{Name, Numeral, Colon, Star, Plus, Minus}

-- a letter, and then letters, digits, `_` and `-`
abbrev pub is_name : List ℕ → Bool
is_name [] = false
is_name (b ∷ bs) = is_letter b && list_all is_name_byte bs

-- at least one digit, and nothing else
abbrev pub are_digits : List ℕ → Bool
are_digits bs = list_all is_digit bs && list_any is_digit bs

-- digits, and after a point further digits; on one side of the point there may be none
abbrev pub is_mantissa : List ℕ → Bool
is_mantissa bs =
    list_all is_digit (before_first is_point bs) && list_all is_digit (after_first is_point bs) && list_any is_digit bs

-- what stands after a sign, or all
abbrev pub without_sign : List ℕ → List ℕ
without_sign [] = []
without_sign (b ∷ bs) = if is_sign b then bs else b ∷ bs

-- a mantissa, and after `e` or `E`, if that stands there, digits, perhaps after a sign
abbrev pub is_numeral : List ℕ → Bool
is_numeral bs =
    is_mantissa (before_first is_exponent_mark bs)
    && (not (list_any is_exponent_mark bs) || are_digits (without_sign (after_first is_exponent_mark bs)))

-- the kind of lexeme that the bytes are, if they are one
unfoldable pub kind_of : List ℕ → Option TokenKind
kind_of bs =
    if is_name bs then Some Name
    else (if is_numeral bs then Some Numeral
    else (if bytes_eq bs (codes ":") then Some Colon
    else (if bytes_eq bs (codes "*") then Some Star
    else (if bytes_eq bs (codes "+") then Some Plus
    else (if bytes_eq bs (codes "-") then Some Minus
    else None)))))

abbrev pub is_empty : List ℕ → Bool
is_empty [] = true
is_empty (b ∷ bs) = false
