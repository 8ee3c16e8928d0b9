-- A line of numbers.
use Rattle.std.proofs.Common.{◌≡◌, ◌∙◌, ℕ, ℤ, zero, suc, ◌+◌, ◌<◌, ◌≤◌, false, pos, List, [], ◌∷◌, length, map, All, refl, sym, ap, subst}
use Rattle.std.proofs.Common.{arith, unsigned_abs}
use Rattle.polcert_full_form.proofs.Common.{list_any, range_with_len, get_or-map-range_with_len, scaled_text, largest, begins_item}
use Rattle.polcert_full_form.proofs.Common.{AreNumbers, one, line, values, millionths_text}
use Rattle.std.proofs.lemmas.List.FromFn.{length-map-range_with_len}
use Rattle.polcert_text.proofs.Printing.PrintedCut.{Printed, text_of, lexemes_at, ArePrinted}
use Rattle.polcert_text.proofs.Printing.PrintedWords.{text_line, line_printed}
use Rattle.polcert_full_form.proofs.Printing.PrintedNumbers.{text_numbers, AreSmall, spells_number, spells_numbers, numbers_at}
use Rattle.polcert_full_form.proofs.Printing.PrintedNumbers.{numbers_inside}

-- the line's lexemes, and what they are
pub record IsNumberLine (text : List ℕ) (hs : List ℤ) : Type 0 where
  pub lexemes : List Printed
  pub text_is : text_of lexemes ≡ text
  pub printed : ArePrinted lexemes
  pub numbers : (place : ℕ) → AreNumbers (lexemes_at place lexemes) hs

pub number_line : (hs : List ℤ) → 0 < length hs → AreSmall hs → IsNumberLine (line (map scaled_text hs)) hs
number_line [] some small = grind arith
number_line (h ∷ hs) some small = record {
  lexemes = _;
  text_is = text_line _ _ ∙ ap line (text_numbers (h ∷ hs));
  printed = line_printed _ _ (spells_number h small.0) (spells_numbers hs small.1);
  numbers = numbers_at h hs small;
}

pub inside : (text : List ℕ) (hs : List ℤ) (l : IsNumberLine text hs) (place : ℕ)
    → list_any begins_item (lexemes_at place l.lexemes) ≡ false
inside text hs l place = numbers_inside (l.numbers _)

-- ---- lists of values
pub length_values : {A : Type 0} (n : ℕ) (f : ℕ → A) → length (values n f) ≡ n
length_values n f = length-map-range_with_len f 0 n

pub all_values : {A : Type 0} (P : A → Type 0) (n : ℕ) (f : ℕ → A) → ((i : ℕ) → i < n → P (f i)) → All P (values n f)
all_values P n f h k d l = grind (arith, get_or-map-range_with_len, length_values)

small_from : (k n : ℕ) (f : ℕ → ℤ) → ((i : ℕ) → i < k + n → unsigned_abs (f i) ≤ largest) → AreSmall (map f (range_with_len k n))
small_from k zero f h = tt
small_from k (suc n) f h = (grind arith, small_from (k + 1) n f (λ i l. h i (omega arith)))

pub small_values : (n : ℕ) (f : ℕ → ℤ) → ((i : ℕ) → i < n → unsigned_abs (f i) ≤ largest) → AreSmall (values n f)
small_values n f h = small_from 0 n f (λ i l. h i (omega arith))

pub map_twice : {A B C : Type 0} (f : A → B) (g : B → C) (xs : List A) → map g (map f xs) ≡ map (λ x. g (f x)) xs
map_twice f g [] = refl
map_twice f g (x ∷ xs) = rw (map_twice f g xs)

-- the line of probabilities, as millionths
pub share_line : (n : ℕ) (f : ℕ → ℕ) → 0 < n → ((i : ℕ) → i < n → f i ≤ one)
    → IsNumberLine (line (values n (λ c. millionths_text (f c)))) (map pos (values n f))
share_line n f some small =
    let numbers = map_twice f pos _ in
    let texts =
    map_twice _ _ (range_with_len 0 n) in
    let made = number_line (values n (λ c. pos (f c))) (omega (arith, some, length_values n (λ c. pos (f c))))
    (small_values n (λ c. pos (f c)) (λ i l. let m = small i l in omega (arith, m))) in
    subst (IsNumberLine (line (values n (λ c. millionths_text (f c))))) (sym numbers)
    (subst (λ t. IsNumberLine (line t) (values n (λ c. pos (f c)))) texts made)

pub reward_line : (n : ℕ) (f : ℕ → ℤ) → 0 < n → ((i : ℕ) → i < n → unsigned_abs (f i) ≤ largest)
    → IsNumberLine (line (values n (λ c. scaled_text (f c)))) (values n f)
reward_line n f some small =
    subst (λ t. IsNumberLine (line t) (values n f)) (map_twice f scaled_text (range_with_len 0 n))
    (number_line (values n f) (omega (arith, some, length_values n f)) (small_values n f small))
