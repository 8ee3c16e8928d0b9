-- The tokens of numbers that are written one after another, with blanks or line ends after each.
use Rattle.std.proofs.Common.{◌≡◌, ◌∙◌, ℕ, ◌+◌, ◌≤◌, Bool, true, false, Some, None, List, [], ◌∷◌, ◌++◌, length, refl, ap, subst, arith}
use Rattle.std.proofs.Common.{length-append}
use Rattle.polcert_policy.proofs.Common.{list_all, is_blank, Lexeme, IsCut, Numeral, Minus, Part, tokens_of}
use Rattle.polcert_text.proofs.Printing.Numerals.{IsPlain}
use Rattle.polcert_text.proofs.Printing.PrintedCut as cuts
use Rattle.polcert_text.proofs.Printing.PrintedCut.{rest_at}
use Rattle.polcert_text.proofs.Printing.PrintedWords.{Word, plain, minus, word_text, spelled, IsSpelling, text_word, word_printed}
use Rattle.polcert_text.proofs.Printing.PrintedWords.{numeral_piece}

-- a number as it is written, and what stands after it
pub record Printed : Type 0 where
  pub negative : Bool
  pub numeral : List ℕ
  pub following : List ℕ

abbrev pub signed_text : Bool → List ℕ → List ℕ
signed_text true w = 45 ∷ w
signed_text false w = w

abbrev pub printed_text : Printed → List ℕ
printed_text u = signed_text u.negative u.numeral ++ u.following

pub record IsPrinted (u : Printed) : Type 0 where
  pub plain : IsPlain u.numeral
  pub blank : list_all is_blank u.following ≡ true
  pub first : ℕ
  pub more : List ℕ
  pub after_is : u.following ≡ first ∷ more
  pub few : length u.following ≤ 2

abbrev pub texts_of : List Printed → List ℕ
texts_of [] = []
texts_of (u ∷ us) = printed_text u ++ texts_of us

abbrev pub AllPrinted : List Printed → Type 0
AllPrinted [] = Unit {0}
AllPrinted (u ∷ us) = IsPrinted u × AllPrinted us

-- the part that a number's text is
abbrev pub part_with : ℕ → Bool → List ℕ → Part
part_with place true w = let s : Lexeme = record { kind = Minus; place = place; bytes = 45 ∷ [] } in let t : Lexeme =
    record { kind = Numeral; place = place + 1; bytes = w } in record { sign = Some s; token = t }
part_with place false w = let t : Lexeme = record { kind = Numeral; place = place; bytes = w } in record { sign = None; token = t }

abbrev pub parts_from : ℕ → List Printed → List Part
parts_from place [] = []
parts_from place (u ∷ us) = part_with place u.negative u.numeral ∷ parts_from (place + length (printed_text u)) us

-- ---- their lexemes
abbrev word_of : Bool → List ℕ → Word
word_of true w = minus w
word_of false w = plain Numeral w

abbrev pieces : List Printed → List cuts.Printed
pieces [] = []
pieces (u ∷ us) = spelled (word_of u.negative u.numeral) u.following ++ pieces us

text_pieces : (us : List Printed) → cuts.text_of (pieces us) ≡ texts_of us
text_pieces [] = refl
text_pieces (u ∷ us) =
    cuts.text-append (spelled _ u.following) (pieces us)
    ∙ (λ i. (text_word (word_of u.negative u.numeral) u.following ∙ ap (λ w. w ++ u.following) (same u.negative)) i ++ text_pieces us i)
  where
    same : (b : Bool) → word_text (word_of b u.numeral) ≡ signed_text b u.numeral
    same b = grind arith

pieces_printed : (us : List Printed) → AllPrinted us → cuts.ArePrinted (pieces us)
pieces_printed [] a = tt
pieces_printed (u ∷ us) a =
    cuts.printed-append _ (pieces us)
    (word_printed _ u.following (spelling u.negative)
    (record { all = a.0.blank; first = a.0.first; more = a.0.more; is = a.0.after_is }))
    (pieces_printed us a.1)
  where
    spelling : (b : Bool) → IsSpelling (word_of b u.numeral)
    spelling true = a.0.plain
    spelling false = numeral_piece u.numeral a.0.plain

lexemes_are : (us : List Printed) (place : ℕ) → cuts.lexemes_at place (pieces us) ≡ tokens_of (parts_from place us)
lexemes_are [] place = refl
lexemes_are (u ∷ us) place = at u.negative (λ n. lexemes_are us n)
  where
    at : (b : Bool) → ((n : ℕ) → cuts.lexemes_at n (pieces us) ≡ tokens_of (parts_from n us))
        → cuts.lexemes_at place (spelled (word_of b u.numeral) u.following ++ pieces us)
        ≡ tokens_of (part_with place b u.numeral ∷ parts_from (place + length (signed_text b u.numeral ++ u.following)) us)
    at b h1 = grind (arith, length-append, cuts.lexemes_at)

-- the text of the numbers is cut into their tokens
pub cut_printed : (us : List Printed) (place : ℕ) (gap : List ℕ) → AllPrinted us → list_all is_blank gap ≡ true
    → IsCut (rest_at place (gap ++ texts_of us)) (tokens_of (parts_from (place + length gap) us)) None
cut_printed us place gap all h =
    subst (λ ls. IsCut (rest_at place (gap ++ texts_of us)) ls None) (lexemes_are us _)
    (subst (λ bs. IsCut (rest_at place (gap ++ bs)) (cuts.lexemes_at (place + length gap) (pieces us)) None) (text_pieces us)
    (cuts.cut_printed (pieces us) place gap (pieces_printed us all) h))
