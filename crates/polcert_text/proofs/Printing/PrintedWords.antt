-- The lexemes of lines of words.
use Rattle.std.proofs.Common.{◌≡◌, ◌∙◌, ℕ, ◌≤◌, true, false, Some, List, [], ◌∷◌, ◌++◌, length, map, codes, refl, sym, arith}
use Rattle.std.proofs.Common.{append_assoc, append-nil, rules}
use Rattle.polcert_text.proofs.Common.{list_all, is_blank, is_letter, is_digit, is_point, is_exponent_mark, class_of, blank_class, kind_of}
use Rattle.polcert_text.proofs.Common.{is_glued, state_after, state_through, kind_at, State, TokenKind, Numeral, Colon, Minus}
use Rattle.polcert_text.specs.declared.tokens.TokenKind.TheVariants.{Name}
use Rattle.polcert_text.specs.Lines.{line}
use Rattle.polcert_text.specs.declared.bytes.ByteClass.TheVariants as classes
use Rattle.polcert_text.specs.declared.tokens.State.TheVariants as states
use Rattle.polcert_text.proofs.Scanning.LexemeLaws.{kind_of-through}
use Rattle.polcert_text.proofs.Numbers.MeasureLaws.{and-true_left}
use Rattle.polcert_text.proofs.Scanning.Tests.{blank_by, glue_by}
use Rattle.polcert_text.proofs.Printing.Numerals.{IsPlain}
use Rattle.polcert_text.proofs.Printing.PrintedCut.{Printed, text_of, Stops, IsPrinted, ArePrinted, blank_stops, blank_no_glue, text-append}
use Rattle.polcert_text.proofs.Printing.PrintedCut.{printed-append}
use Rattle.polcert_text.proofs.Scanning.Classes.{colon_at_58 as colon_class}

-- What stands between blanks: one lexeme, a name and a colon, or a minus and a numeral.
pub data Word : Type 0 where
  plain : TokenKind → List ℕ → Word
  key : List ℕ → Word
  minus : List ℕ → Word

abbrev pub word_text : Word → List ℕ
word_text (plain kind bytes) = bytes
word_text (key name) = name ++ codes ":"
word_text (minus numeral) = 45 ∷ numeral

abbrev pub spelled : Word → List ℕ → List Printed
spelled (plain kind bytes) following = record { kind = kind; bytes = bytes; following = following } ∷ []
spelled (key name) following = record { kind = Name; bytes = name; following = [] } ∷ record
    { kind = Colon; bytes = codes ":"; following = following } ∷ []
spelled (minus numeral) following = record { kind = Minus; bytes = 45 ∷ []; following = [] } ∷ record
    { kind = Numeral; bytes = numeral; following = following } ∷ []

pub record IsPiece (kind : TokenKind) (bytes : List ℕ) : Type 0 where
  pub kind_is : kind_of bytes ≡ Some kind
  pub short : length bytes ≤ 400

abbrev pub IsSpelling : Word → Type 0
IsSpelling (plain kind bytes) = IsPiece kind bytes
IsSpelling (key name) = IsPiece Name name
IsSpelling (minus numeral) = IsPlain numeral

abbrev pub AreSpellings : List Word → Type 0
AreSpellings [] = Unit {0}
AreSpellings (w ∷ ws) = IsSpelling w × AreSpellings ws

abbrev pub spelled_line : Word → List Word → List Printed
spelled_line w [] = spelled w (codes "\n")
spelled_line w (v ∷ ws) = spelled w (codes " ") ++ spelled_line v ws

-- ---- texts
pub text_word : (w : Word) (following : List ℕ) → text_of (spelled w following) ≡ word_text w ++ following
text_word = grind (arith, append_assoc, append-nil, text_of)

pub text_line : (w : Word) (ws : List Word) → text_of (spelled_line w ws) ≡ line (word_text w ∷ map word_text ws)
text_line w [] = text_word w _
text_line w (v ∷ ws) = text-append (spelled w _) _ ∙ (λ i. text_word w (codes " ") i ++ text_line v ws i)

-- ---- each lexeme stops
pub record Blank (following : List ℕ) : Type 0 where
  pub all : list_all is_blank following ≡ true
  pub first : ℕ
  pub more : List ℕ
  pub is : following ≡ first ∷ more

space : Blank (codes " ")
unfolding is_blank
space = record { all = refl; first = 32; more = []; is = refl }

line_end : Blank (codes "\n")
unfolding is_blank
line_end = record { all = refl; first = 10; more = []; is = refl }

first_blank : (following : List ℕ) (b : Blank following) → blank_class (class_of b.first) ≡ true
first_blank following b = sym (blank_by b.first refl) ∙ and-true_left _ (list_all is_blank b.more) (cc)

not_glued : (kind : TokenKind) (b : ℕ) (more : List ℕ) → blank_class (class_of b) ≡ true → is_glued kind (b ∷ more) ≡ false
not_glued = grind (arith, glue_by, blank_no_glue)

piece_printed : (kind : TokenKind) (bytes following : List ℕ) → IsPiece kind bytes → Blank following
    → IsPrinted (record { kind = kind; bytes = bytes; following = following }) []
piece_printed kind bytes following p b = search (rules, append-nil, blank_stops, first_blank, not_glued)

colon_piece : IsPiece Colon (codes ":")
unfolding kind_of is_letter is_digit is_point is_exponent_mark
colon_piece = record { kind_is = refl; short = omega arith }

minus_piece : IsPiece Minus (45 ∷ [])
unfolding kind_of is_letter is_digit is_point is_exponent_mark
minus_piece = record { kind_is = refl; short = omega arith }

-- no name continues with a colon
name_state : (s : State) → kind_at s ≡ Some Name → state_after s classes.Colon ≡ states.Stuck
name_state = grind arith

name_stops : (name more : List ℕ) → IsPiece Name name → Stops Name name (codes ":" ++ more)
name_stops = grind (arith, kind_of-through, colon_class, name_state)

minus_state : state_through states.Start (45 ∷ []) ≡ states.Single Minus
unfolding class_of
minus_state = refl

minus_stops : (numeral more : List ℕ) → IsPlain numeral → Stops Minus (45 ∷ []) (numeral ++ more)
minus_stops = grind (arith, minus_state)

pub numeral_piece : (numeral : List ℕ) → IsPlain numeral → IsPiece Numeral numeral
numeral_piece numeral p = record { kind_is = p.kind; short = omega arith }

pub word_printed : (w : Word) (following : List ℕ) → IsSpelling w → Blank following → ArePrinted (spelled w following)
word_printed = grind (arith, append-nil, piece_printed, colon_piece, minus_piece, name_stops, minus_stops, numeral_piece)

pub line_printed : (w : Word) (ws : List Word) → IsSpelling w → AreSpellings ws → ArePrinted (spelled_line w ws)
line_printed w [] a b = word_printed w _ a line_end
line_printed w (v ∷ ws) a b = printed-append _ _ (word_printed w _ a space) (line_printed v ws b.0 b.1)
