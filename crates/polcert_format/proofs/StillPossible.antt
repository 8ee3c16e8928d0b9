-- What is still possible: an entry with some places and numbers continues with `: *` and zeros.
use Rattle.std.proofs.Common.{◌≡◌, ℕ, zero, suc, ◌≤◌, Bool, false, List, [], ◌∷◌, ◌++◌, length, map, All, pos, codes, refl, ap, subst}
use Rattle.std.proofs.Common.{arith}
use Rattle.std.proofs.lemmas.List.{append_assoc}
use Rattle.polcert_format.proofs.Common.{All-cons, All-nil, Lexeme, Numeral, Colon, Table, Topic, IsMillionths, AreNumbers, forms}
use Rattle.polcert_format.proofs.Common.{ModelSoFar, HasForm, IsPossible}
use Rattle.polcert_text.specs.Bytes.{is_digit, is_point, is_exponent_mark}
use Rattle.polcert_text.specs.Numbers.{significand, exponent_size, power_of, size_of, millionth}
use Rattle.polcert_text.specs.declared.tokens.TokenKind.TheVariants.{Star}
use Rattle.polcert_cells.specs.declared.entries.Body.TheVariants.{Probabilities}
use Rattle.polcert_cells.specs.Numbers.{none, unsigned, one}

-- ---- lexemes to continue with

abbrev pub a_zero : Lexeme
a_zero = record { kind = Numeral; place = 0; bytes = codes "0" }

abbrev pub a_star : Lexeme
a_star = record { kind = Star; place = 0; bytes = codes "*" }

abbrev pub a_colon : Lexeme
a_colon = record { kind = Colon; place = 0; bytes = codes ":" }

pub zero_is : (negative : Bool) → IsMillionths negative a_zero (pos 0)
unfolding is_digit is_point is_exponent_mark significand exponent_size power_of size_of millionth
zero_is negative = grind arith

abbrev pub zeros : ℕ → List Lexeme
zeros zero = []
zeros (suc n) = a_zero ∷ zeros n

abbrev pub nothings : ℕ → List ℕ
nothings zero = []
nothings (suc n) = 0 ∷ nothings n

pub zeros_are : (n : ℕ) → AreNumbers (zeros n) (map pos (nothings n))
zeros_are zero = none
zeros_are (suc n) = unsigned (zero_is false) (zeros_are n)

pub nothings_count : (n : ℕ) → length (nothings n) ≡ n
nothings_count zero = refl
nothings_count (suc n) = omega (arith, nothings_count n)

pub nothings_in_range : (n : ℕ) → All (λ q. q ≤ one) (nothings n)
nothings_in_range zero = All-nil (λ q. q ≤ one)
nothings_in_range (suc n) = All-cons (λ q. q ≤ one) 0 _ (omega arith) (nothings_in_range n)

pub length-pos : (qs : List ℕ) → length (map pos qs) ≡ length qs
length-pos [] = refl
length-pos (q ∷ qs) = ap suc (length-pos qs)

-- ---- what is possible

-- what begins something possible is possible
pub possible_front : (k : ModelSoFar) (t : Topic) (taken further : List Lexeme) → IsPossible k t (taken ++ further) → IsPossible k t taken
possible_front k t taken further p = record {
  more = further ++ p.more;
  form = subst (HasForm k t) (append_assoc taken further p.more) p.form;
}

-- the forms of numbers don't depend on the numbers
pub same_form_of_probabilities : (mdp : Bool) (table : Table) (qs rs : List ℕ)
    → forms mdp table (Probabilities qs) ≡ forms mdp table (Probabilities rs)
same_form_of_probabilities mdp table qs rs = grind arith
