-- The classes of bytes, by which a text is read: what each tells of the tests of `Bytes.antt`.
-- Nobody has to believe this: only contracts of private functions cite it, and the proofs show that it agrees with those tests.
use Rattle.std.specs.Prelude.{ℕ, Bool, true, false, ◌||◌, ◌==◌, Option, Some, None, if◌then◌else◌}
use Rattle.std.specs.Char.{is_ascii_digit, is_ascii_alphabetic}
use Rattle.polcert_text.specs.declared.bytes.ByteClass.{ByteClass}
use Rattle.polcert_text.specs.declared.bytes.ByteClass.TheVariants.{Blank, LineEnd, Hash, ExponentMark, Letter, Digit, Underscore, Point, Colon, Star, Plus, Minus, Other}
use Rattle.polcert_text.specs.declared.tokens.TokenKind.{TokenKind}
use Rattle.polcert_text.specs.declared.tokens.TokenKind.TheVariants as kinds

-- tab, carriage return, space; line end; `#`; `e` and `E`; the other ASCII letters; `0` to `9`; `_ . : * + -`
unfoldable pub class_of : ℕ → ByteClass
class_of b =
    if b == 9 || b == 13 || b == 32 then Blank
    else (if b == 10 then LineEnd
    else (if b == 35 then Hash
    else (if b == 101 || b == 69 then ExponentMark
    else (if is_ascii_alphabetic b then Letter
    else (if is_ascii_digit b then Digit
    else (if b == 95 then Underscore
    else (if b == 46 then Point
    else (if b == 58 then Colon
    else (if b == 42 then Star
    else (if b == 43 then Plus
    else (if b == 45 then Minus
    else Other)))))))))))

abbrev pub blank_class : ByteClass → Bool
blank_class Blank = true
blank_class LineEnd = true
blank_class _ = false

abbrev pub line_end_class : ByteClass → Bool
line_end_class LineEnd = true
line_end_class _ = false

abbrev pub hash_class : ByteClass → Bool
hash_class Hash = true
hash_class _ = false

abbrev pub letter_class : ByteClass → Bool
letter_class Letter = true
letter_class ExponentMark = true
letter_class _ = false

abbrev pub digit_class : ByteClass → Bool
digit_class Digit = true
digit_class _ = false

abbrev pub mark_class : ByteClass → Bool
mark_class ExponentMark = true
mark_class _ = false

abbrev pub point_class : ByteClass → Bool
point_class Point = true
point_class _ = false

-- the class of a sign: of a minus, or of a plus
abbrev pub class_of_sign : Bool → ByteClass
class_of_sign is_negative = if is_negative then Minus else Plus

abbrev pub sign_class : ByteClass → Bool
sign_class Plus = true
sign_class Minus = true
sign_class _ = false

-- what a name continues with: a letter, a digit, `_` or `-`
abbrev pub name_class : ByteClass → Bool
name_class Letter = true
name_class ExponentMark = true
name_class Digit = true
name_class Underscore = true
name_class Minus = true
name_class _ = false

-- what may not follow a numeral directly: a letter, `_` or a point
abbrev pub glue_class : ByteClass → Bool
glue_class Letter = true
glue_class ExponentMark = true
glue_class Underscore = true
glue_class Point = true
glue_class _ = false

abbrev pub minus_class : ByteClass → Bool
minus_class Minus = true
minus_class _ = false

-- the kind of a mark
abbrev pub mark_kind : ByteClass → Option TokenKind
mark_kind Colon = Some kinds.Colon
mark_kind Star = Some kinds.Star
mark_kind Plus = Some kinds.Plus
mark_kind Minus = Some kinds.Minus
mark_kind _ = None
