-- Numbers as they are written are the numbers that a reader takes.
use Rattle.std.proofs.Common.{◌≡◌, ℕ, ℤ, suc, ◌^◌, ◌<◌, ◌≤◌, Bool, true, false, ◌||◌, pos, negsuc, List, [], ◌∷◌, ◌++◌, map}
use Rattle.std.proofs.Common.{decimal, refl, arith, unsigned_abs}
use Rattle.polcert_full_form.proofs.Common.{list_any, Lexeme, Numeral, unsigned_text, scaled_text, largest, begins_item}
use Rattle.polcert_full_form.proofs.Common.{AreNumbers}
use Rattle.std.proofs.lemmas.Fmt.{decimal_is_IsNumeral, decimal_nonempty}
use Rattle.polcert_text.specs.declared.tokens.TokenKind.TheVariants.{Minus, Plus}
use Rattle.polcert_text.specs.Numbers.{signed}
use Rattle.polcert_text.proofs.Numbers.FrontNumbers.{some_digits}
use Rattle.polcert_text.proofs.Printing.WrittenNumbers.{plain_size, readable_written}
use Rattle.polcert_text.proofs.Printing.PrintLaws.{written_exact, decimal_digits}
use Rattle.polcert_cells.specs.Numbers.{IsWhole, IsMillionths}
use Rattle.polcert_cells.specs.Numbers as numbers
use Rattle.polcert_text.proofs.Printing.Numerals.{plain_decimal}
use Rattle.polcert_text.proofs.Printing.PrintedCut.{Printed, lexemes_at}
use Rattle.polcert_text.proofs.Printing.PrintedWords.{Word, plain, minus, word_text, spelled, spelled_line, IsPiece, IsSpelling}
use Rattle.polcert_text.proofs.Printing.PrintedWords.{AreSpellings, numeral_piece}

abbrev pub numeral_at : ℕ → List ℕ → Lexeme
numeral_at place bytes = record { kind = Numeral; place = place; bytes = bytes }

pub millionths_at : (negative : Bool) (place n : ℕ) → n ≤ largest
    → IsMillionths negative (numeral_at place (unsigned_text n)) (signed negative n)
millionths_at negative place n l = record {
  kind = refl;
  readable = readable_written n l;
  value = (written_exact n (omega arith) _).1;
}

-- ---- the word of a number
abbrev pub number_word : ℤ → Word
number_word (pos n) = plain Numeral (unsigned_text n)
number_word (negsuc n) = minus (unsigned_text (suc n))

pub text_number : (h : ℤ) → word_text (number_word h) ≡ scaled_text h
text_number h = grind arith

pub text_numbers : (hs : List ℤ) → map word_text (map number_word hs) ≡ map scaled_text hs
text_numbers [] = refl
text_numbers (h ∷ hs) = λ i. text_number h i ∷ text_numbers hs i

-- all of them are within the limit
abbrev pub AreSmall : List ℤ → Type 0
AreSmall [] = Unit {0}
AreSmall (h ∷ hs) = (unsigned_abs h ≤ largest) × AreSmall hs

pub spells_number : (h : ℤ) → unsigned_abs h ≤ largest → IsSpelling (number_word h)
spells_number h h1 = grind (arith, plain_size, numeral_piece)

pub spells_numbers : (hs : List ℤ) → AreSmall hs → AreSpellings (map number_word hs)
spells_numbers [] a = tt
spells_numbers (h ∷ hs) a = (spells_number h a.0, spells_numbers hs a.1)

-- a number before numbers
number_before : (h : ℤ) (hs : List ℤ) (following : List ℕ) (us : List Printed) → unsigned_abs h ≤ largest
    → ((place : ℕ) → AreNumbers (lexemes_at place us) hs)
    → (place : ℕ) → AreNumbers (lexemes_at place (spelled (number_word h) following ++ us)) (h ∷ hs)
number_before (pos n) hs following us l more place = numbers.unsigned (millionths_at false _ n l) (more _)
number_before (negsuc n) hs following us l more place = numbers.minus refl (millionths_at true _ _ l) (more _)

last_number : (h : ℤ) (following : List ℕ) → unsigned_abs h ≤ largest → (place : ℕ)
    → AreNumbers (lexemes_at place (spelled (number_word h) following)) (h ∷ [])
last_number (pos n) following l place = numbers.unsigned (millionths_at false _ n l) numbers.none
last_number (negsuc n) following l place = numbers.minus refl (millionths_at true _ _ l) numbers.none

pub numbers_at : (h : ℤ) (hs : List ℤ) → AreSmall (h ∷ hs) → (place : ℕ)
    → AreNumbers (lexemes_at place (spelled_line (number_word h) (map number_word hs))) (h ∷ hs)
numbers_at h [] a place = last_number h _ a.0 _
numbers_at h (g ∷ gs) a place = number_before h _ _ _ a.0 (numbers_at g gs a.1) _

-- no item begins among numbers
numeral_begins_none : (l : Lexeme) → l.kind ≡ Numeral → begins_item l ≡ false
numeral_begins_none l e = simp e

pub numbers_inside : {ls : List Lexeme} {hs : List ℤ} → AreNumbers ls hs → list_any begins_item ls ≡ false
numbers_inside numbers.none = refl
numbers_inside (numbers.unsigned {l = l} a more) = λ i. numeral_begins_none l a.kind i || numbers_inside more i
numbers_inside (numbers.plus {sign = s} {l = l} e a more) =
    (λ i. sign_none s e i || (numeral_begins_none l a.kind i || numbers_inside more i))
  where
    sign_none : (s : Lexeme) → s.kind ≡ Plus → begins_item s ≡ false
    sign_none s e = simp e
numbers_inside (numbers.minus {sign = s} {l = l} e a more) =
    (λ i. sign_none s e i || (numeral_begins_none l a.kind i || numbers_inside more i))
  where
    sign_none : (s : Lexeme) → s.kind ≡ Minus → begins_item s ≡ false
    sign_none s e = simp e

-- ---- whole numbers
pub whole_at : (place n : ℕ) → n < 2 ^ 64 → IsWhole (numeral_at place (decimal n)) n
whole_at place n l = record {
  kind = refl;
  digits = some_digits _ (decimal_nonempty n l) (decimal_digits n l);
  value = (decimal_is_IsNumeral n l).1;
}

pub whole_piece : (n : ℕ) → n < 10 ^ 19 → IsPiece Numeral (decimal n)
whole_piece n l = numeral_piece _ (plain_decimal n l)
