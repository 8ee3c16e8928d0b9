-- A decimal, and the numeral that it makes with `e6` after it.
use Rattle.std.proofs.Common.{◌≡◌, ◌∙◌, ℕ, ◌+◌, ◌-◌, ◌*◌, ◌^◌, ◌≤◌, Bool, true, false, not, ◌||◌, ◌&&◌, inl, inr, List, [], ◌∷◌, ◌++◌, cond}
use Rattle.std.proofs.Common.{length}
use Rattle.std.proofs.Common.{refl, sym, ap, subst, arith, pos, length-append, ℤ, Option, Some, None, IfNone, IfSome}
use Rattle.std.proofs.lemmas.Bool.Decides.{nat_tests}
use Rattle.std.proofs.Math.IntN.{pos-*ℤ-pos}
use Rattle.std.specs.List.{list_all, list_any, before_first, after_first}
use Rattle.std.specs.Str.Parse.{digits_value}
use Rattle.std.proofs.lemmas.List.Folds.{list_all-append, list_any-append}
use Rattle.std.proofs.lemmas.Nat.{pow-add}
use Rattle.std.proofs.Math.Nat.{mul_assoc, mul-le-mul_right}
unfoldable use Rattle.polcert_text.specs.Bytes.{is_digit, is_exponent_mark, is_point, is_sign}
use Rattle.polcert_text.specs.Lexemes.{are_digits, is_mantissa, is_numeral, without_sign}
use Rattle.polcert_text.specs.Numbers.{IsExact, IsReadable, IsRefusedExactly, exponent_of, fraction_of, is_lowering, largest}
unfoldable use Rattle.polcert_text.specs.Numbers.{exponent_size, millionth, significand, power_of, size_of}
use Rattle.polcert_text.proofs.Scanning.BeforeFirst.{before_first-stop, before_first-pass, after_first-stop, after_first-pass}
use Rattle.polcert_text.proofs.Numbers.SizeLaws.{after-none, length-fraction}
use Rattle.polcert_text.specs.declared.number.NumberFault.{NumberFault}
use Rattle.polcert_text.specs.declared.number.NumberFault.TheVariants.{NotANumeral, TooLong, TooLarge, TooFine}
use Rattle.polcert_cells.proofs.NumberLaws.{one_exact}
use Rattle.polcert_robust_answer.specs.Distances.{IsDistance, IsPercent, IsRewardDistance}

-- with `e6` after it
abbrev shifted : List ℕ → List ℕ
shifted text = text ++ 101 ∷ 54 ∷ []

-- ---- exponent marks
digit_no_mark : (b : ℕ) → is_digit b ≡ true → is_exponent_mark b ≡ false
unfolding is_digit is_exponent_mark
digit_no_mark b h = grind (arith, nat_tests)

point_no_mark : (b : ℕ) → is_point b ≡ true → is_exponent_mark b ≡ false
unfolding is_point is_exponent_mark
point_no_mark b h = grind (arith, nat_tests)

e_is_mark : is_exponent_mark 101 ≡ true
unfolding is_exponent_mark
e_is_mark = refl

e_no_digit : is_digit 101 ≡ false
unfolding is_digit
e_no_digit = refl

and_false : (a b : Bool) → b ≡ false → (a && b) ≡ false
and_false true b h = h
and_false false b h = refl

and_left : (a b : Bool) → (a && b) ≡ true → a ≡ true
and_left true b h = refl
and_left false b h = h

and_right : (a b : Bool) → (a && b) ≡ true → b ≡ true
and_right true b h = h
and_right false b h = absurd (cc)

or_false : (a b : Bool) → a ≡ false → b ≡ false → (a || b) ≡ false
or_false a b h k = simp (h, k)

digits_no_mark : (bs : List ℕ) → list_all is_digit bs ≡ true → list_any is_exponent_mark bs ≡ false
digits_no_mark [] h = refl
digits_no_mark (b ∷ bs) h =
    or_false (is_exponent_mark b) (list_any is_exponent_mark bs) (digit_no_mark b (and_left (is_digit b) (list_all is_digit bs) h))
    (digits_no_mark bs (and_right (is_digit b) (list_all is_digit bs) h))

parts_no_mark : (bs : List ℕ) → list_all is_digit (before_first is_point bs) ≡ true → list_all is_digit (after_first is_point bs) ≡ true
    → list_any is_exponent_mark bs ≡ false
parts_no_mark [] h k = refl
parts_no_mark (b ∷ bs) h k = at (is_point b) refl (parts_no_mark bs)
  where
    at : (t : Bool) → is_point b ≡ t
        → (list_all is_digit (before_first is_point bs) ≡ true → list_all is_digit (after_first is_point bs) ≡ true
        → list_any is_exponent_mark bs ≡ false)
        → list_any is_exponent_mark (b ∷ bs) ≡ false
    at true p more =
        or_false (is_exponent_mark b) (list_any is_exponent_mark bs) (point_no_mark b p)
        (digits_no_mark bs (subst (λ x. list_all is_digit x ≡ true) (after_first-stop is_point b bs p) k))
    at false p more =
        let all : list_all is_digit (b ∷ before_first is_point bs) ≡ true =
        subst (λ x. list_all is_digit x ≡ true) (before_first-pass is_point b bs p) h in
        or_false (is_exponent_mark b) (list_any is_exponent_mark bs)
        (digit_no_mark b (and_left (is_digit b) (list_all is_digit (before_first is_point bs)) all))
        (more (and_right (is_digit b) (list_all is_digit (before_first is_point bs)) all)
        (subst (λ x. list_all is_digit x ≡ true) (after_first-pass is_point b bs p) k))

mantissa_no_mark : (bs : List ℕ) → is_mantissa bs ≡ true → list_any is_exponent_mark bs ≡ false
mantissa_no_mark bs h =
    let both = and_left (list_all is_digit (before_first is_point bs) && list_all is_digit (after_first is_point bs)) (list_any is_digit bs)
    h in
    let b = list_all is_digit (before_first is_point bs) in
    let a = list_all is_digit (after_first is_point bs) in
    parts_no_mark bs (and_left b a both) (and_right b a both)

-- digits never end with `e6`
unsigned_no_digits : (bs : List ℕ) → list_all is_digit (without_sign (shifted bs)) ≡ false
unfolding is_digit is_sign
unsigned_no_digits [] = refl
unsigned_no_digits (b ∷ bs) = at (is_sign b) refl
  where
    rest : list_all is_digit (shifted bs) ≡ false
    rest = list_all-append is_digit bs (101 ∷ 54 ∷ []) ∙ and_false (list_all is_digit bs) false refl

    at : (t : Bool) → is_sign b ≡ t → list_all is_digit (without_sign (b ∷ shifted bs)) ≡ false
    at true s = simp (s, rest)
    at false s = simp s (and_false (is_digit b) (list_all is_digit (shifted bs)) rest)

mark_inside : (bs : List ℕ) → list_any is_exponent_mark bs ≡ true
    → are_digits (without_sign (after_first is_exponent_mark (shifted bs))) ≡ false
mark_inside [] h = absurd (cc)
mark_inside (b ∷ bs) h = at (is_exponent_mark b) refl (mark_inside bs)
  where
    at : (t : Bool) → is_exponent_mark b ≡ t
        → (list_any is_exponent_mark bs ≡ true → are_digits (without_sign (after_first is_exponent_mark (shifted bs))) ≡ false)
        → are_digits (without_sign (after_first is_exponent_mark (b ∷ shifted bs))) ≡ false
    at true m more = rw (after_first-stop is_exponent_mark b (shifted bs) m, unsigned_no_digits bs) refl
    at false m more =
        let some : (is_exponent_mark b || list_any is_exponent_mark bs) ≡ true = h in
        rw (after_first-pass is_exponent_mark b (shifted bs) m) (more (rw m at some))

-- ---- what stands before and after the mark
before-none : (p : ℕ → Bool) (bs : List ℕ) → list_any p bs ≡ false → before_first p bs ≡ bs
before-none p [] h = refl
before-none p (b ∷ bs) h = grind (arith, before_first-pass, before-none p bs)

before-at : (p : ℕ → Bool) (xs ys : List ℕ) (y : ℕ) → list_any p xs ≡ false → p y ≡ true → before_first p (xs ++ y ∷ ys) ≡ xs
before-at p [] ys y h e = before_first-stop p y ys e
before-at p (x ∷ xs) ys y h e = at (p x) refl (λ g. before-at p xs ys y g e)
  where
    at : (t : Bool) → p x ≡ t → (list_any p xs ≡ false → before_first p (xs ++ y ∷ ys) ≡ xs) → before_first p (x ∷ (xs ++ y ∷ ys)) ≡ x ∷ xs
    at true f more = let g : (p x || list_any p xs) ≡ false = h in let g2 = rw f at g in cc
    at false f more = let g : (p x || list_any p xs) ≡ false = h in before_first-pass p x (xs ++ y ∷ ys) f
        ∙ ap (λ xs. x ∷ xs) (more (rw f at g))

after-at : (p : ℕ → Bool) (xs ys : List ℕ) (y : ℕ) → list_any p xs ≡ false → p y ≡ true → after_first p (xs ++ y ∷ ys) ≡ ys
after-at p [] ys y h e = after_first-stop p y ys e
after-at p (x ∷ xs) ys y h e = at (p x) refl (λ g. after-at p xs ys y g e)
  where
    at : (t : Bool) → p x ≡ t → (list_any p xs ≡ false → after_first p (xs ++ y ∷ ys) ≡ ys) → after_first p (x ∷ (xs ++ y ∷ ys)) ≡ ys
    at true f more = let g : (p x || list_any p xs) ≡ false = h in let g2 = rw f at g in cc
    at false f more = let g : (p x || list_any p xs) ≡ false = h in after_first-pass p x (xs ++ y ∷ ys) f ∙ more (rw f at g)

-- ---- the value of a decimal with `e6` after it
module _ (text : List ℕ) (no_mark : list_any is_exponent_mark text ≡ false) where
  mantissa : before_first is_exponent_mark (shifted text) ≡ text
  mantissa = before-at is_exponent_mark text (54 ∷ []) 101 no_mark e_is_mark

  exponent : exponent_of (shifted text) ≡ 54 ∷ []
  exponent = after-at is_exponent_mark text (54 ∷ []) 101 no_mark e_is_mark

  plain : before_first is_exponent_mark text ≡ text
  plain = before-none is_exponent_mark text no_mark

  no_exponent : exponent_of text ≡ []
  no_exponent = after-none is_exponent_mark text no_mark

  exponent_is : exponent_size (shifted text) ≡ 6
  unfolding exponent_size is_sign
  exponent_is = ap (λ x. digits_value 10 (without_sign x)) exponent

  numbers : significand (shifted text) ≡ significand text
  unfolding significand
  numbers =
      ap (λ m. digits_value 10 (before_first is_point m ++ after_first is_point m)) (mantissa ∙ sym plain)

  powers : length text ≤ 398 → power_of (shifted text) ≡ power_of text + 6
  unfolding power_of exponent_size is_sign
  powers short =
      let few : length (fraction_of text) ≤ 398 = omega (arith, short, length-fraction text) in
      let same : fraction_of (shifted text) ≡ fraction_of text = ap (after_first is_point) (mantissa ∙ sym plain) in
      let with_it : cond (is_lowering (exponent_of (shifted text)))
      (1000 - digits_value 10 (without_sign (exponent_of (shifted text))) - length (fraction_of (shifted text)))
      (1000 + digits_value 10 (without_sign (exponent_of (shifted text))) - length (fraction_of (shifted text)))
      ≡ 1006 - length (fraction_of text) =
      (λ i. cond (is_lowering (exponent i)) (1000 - digits_value 10 (without_sign (exponent i)) - length (same i))
      (1000 + digits_value 10 (without_sign (exponent i)) - length (same i))) in
      let without : cond (is_lowering (exponent_of text))
      (1000 - digits_value 10 (without_sign (exponent_of text)) - length (fraction_of text))
      (1000 + digits_value 10 (without_sign (exponent_of text)) - length (fraction_of text))
      ≡ 1000 - length (fraction_of text) =
      (λ i. cond (is_lowering (no_exponent i)) (1000 - digits_value 10 (without_sign (no_exponent i)) - length (fraction_of text))
      (1000 + digits_value 10 (without_sign (no_exponent i)) - length (fraction_of text))) in
      let sum : 1006 - length (fraction_of text) ≡ 1000 - length (fraction_of text) + 6 = omega (arith, few) in
      with_it ∙ sum ∙ ap (λ n. n + 6) (sym without)

  sizes : length text ≤ 398 → size_of (shifted text) ≡ size_of text * 1_000_000
  unfolding size_of
  sizes short =
      (λ i. numbers i * 10 ^ powers short i) ∙ ap (λ p. significand text * p) (pow-add 10 (power_of text) 6)
      ∙ sym (mul_assoc (significand text) (10 ^ power_of text) (10 ^ 6))

  is_shifted_numeral : is_mantissa text ≡ true → is_numeral (shifted text) ≡ true
  unfolding is_digit is_sign
  is_shifted_numeral h =
      let some : list_any is_exponent_mark (shifted text) ≡ true =
      list_any-append is_exponent_mark text (101 ∷ 54 ∷ []) ∙ simp (no_mark, e_is_mark) in
      rw (mantissa, exponent, some, h) refl

shifted_length : (text : List ℕ) → length (shifted text) ≡ length text + 2
shifted_length text = length-append text (101 ∷ 54 ∷ [])

-- ---- both ways
pub readable_from : (text : List ℕ) (by : ℕ) → IsDistance text by → IsRewardDistance (shifted text) by
readable_from text by is =
    let no_mark = mantissa_no_mark text is.decimal in
    let size : size_of (shifted text) ≡ by * millionth = sizes text no_mark is.short ∙ is.exact in
    record {
      readable = record {
        numeral = is_shifted_numeral text no_mark is.decimal;
        short = omega (arith, shifted_length text, is.short);
        exponent = omega (arith, exponent_is text no_mark);
        size = subst (λ s. s ≤ largest * millionth) (sym size) (mul-le-mul_right millionth (omega (arith, is.small)));
      };
      exact = size;
      small = is.small;
    }

not_both : (a b c : Bool) → b ≡ true → c ≡ false → (a && (not b || c)) ≡ true → false ≡ true
not_both a b c some none h = and_right a false (rw (some, none) at h)

false_true : false ≡ true → ⊥
false_true e = cc

numeral_mantissa : (text : List ℕ) → is_numeral (shifted text) ≡ true → is_mantissa text ≡ true
numeral_mantissa text h = at (list_any is_exponent_mark text) refl
  where
    some : list_any is_exponent_mark (shifted text) ≡ true
    some = list_any-append is_exponent_mark text (101 ∷ 54 ∷ []) ∙ grind (arith, e_is_mark)

    at : (t : Bool) → list_any is_exponent_mark text ≡ t → is_mantissa text ≡ true
    at true m =
        absurd (false_true (not_both (is_mantissa (before_first is_exponent_mark (shifted text))) _ _ some (mark_inside text m) h))
    at false m =
        let all = rw (before-at is_exponent_mark text (54 ∷ []) 101 m e_is_mark) at h in
        and_left (is_mantissa text) _ all

pub distance_from : (text : List ℕ) (by : ℕ) → IsRewardDistance (shifted text) by → IsDistance text by
distance_from text by is =
    let decimal = numeral_mantissa text is.readable.numeral in
    let no_mark = mantissa_no_mark text decimal in
    let short : length text ≤ 398 = omega (arith, shifted_length text, is.readable.short) in
    record { decimal = decimal; short = short; exact = sym (sizes text no_mark short) ∙ is.exact; small = is.small }

pub some_from : (text : List ℕ) (r : Option ℕ) → IfSome r (IsRewardDistance (shifted text)) → IfSome r (IsDistance text)
some_from text (Some by) is = distance_from text by is
some_from text None is = tt

pub none_from : (text : List ℕ) (r : Option ℕ) → IfNone r ((by : ℕ) → IsRewardDistance (shifted text) by → ⊥)
    → IfNone r ((by : ℕ) → IsDistance text by → ⊥)
none_from text (Some by) never = tt
none_from text None never = λ by is. never by (readable_from text by is)

-- ---- a numeral
exact_size : (text : List ℕ) (by : ℕ) → IsExact false text (pos by) → size_of text ≡ by * millionth
exact_size text by exact = let same : pos (size_of text) ≡ pos (by * millionth) = sym exact ∙ pos-*ℤ-pos by millionth in cc

size_exact : (text : List ℕ) (by : ℕ) → size_of text ≡ by * millionth → IsExact false text (pos by)
size_exact text by is = pos-*ℤ-pos by millionth ∙ ap pos (sym is)

not_refused : (text : List ℕ) (fault : NumberFault) (by : ℕ) → IsRefusedExactly false text fault → IsRewardDistance text by → ⊥
not_refused text NotANumeral by none is = false_true (sym none ∙ is.readable.numeral)
not_refused text TooLong by (numeral, inl long) is = omega (arith, long, is.readable.short)
not_refused text TooLong by (numeral, inr large) is = omega (arith, large, is.readable.exponent)
not_refused text TooLarge by (numeral, short, power, large) is = omega (arith, large, is.readable.size)
not_refused text TooFine by (readable, never) is = never (pos by) (size_exact text by is.exact)

pub some_distance : (text : List ℕ) (value : ℤ) (r : Option ℕ) → IsReadable text → IsExact false text value
    → IfSome r (λ by. (value ≡ pos by) × (by ≤ 1_000_000_000_000)) → IfSome r (IsRewardDistance text)
some_distance text value (Some by) readable exact (same, small) =
    record { readable = readable; exact = exact_size text by (subst (IsExact false text) same exact); small = small }
some_distance text value None readable exact is = tt

pub no_distance : (text : List ℕ) (value : ℤ) (r : Option ℕ) → IsExact false text value
    → IfNone r ((by : ℕ) → value ≡ pos by → by ≤ 1_000_000_000_000 → ⊥) → IfNone r ((by : ℕ) → IsRewardDistance text by → ⊥)
no_distance text value (Some by) exact never = tt
no_distance text value None exact never = λ by is. never by (one_exact false text value (pos by) exact (size_exact text by is.exact))
    is.small

pub none_refused : (text : List ℕ) (fault : NumberFault) → IsRefusedExactly false text fault → (by : ℕ) → IsRewardDistance text by → ⊥
none_refused text fault refused by is = not_refused text fault by refused is

-- ---- a percentage
pub percent_from : (text : List ℕ) (r s : Option ℕ) → IfSome r (IsRewardDistance text)
    → IfSome s (λ p. (r ≡ Some p) × (p ≤ 100_000_000)) → IfSome s (IsPercent text)
percent_from text r (Some p) is (same, small) =
    let it : IsRewardDistance text p = rw same at is in
    record { readable = it.readable; exact = it.exact; small = small }
percent_from text r None is none = tt

as_distance : (text : List ℕ) (p : ℕ) → IsPercent text p → IsRewardDistance text p
as_distance text p is = record { readable = is.readable; exact = is.exact; small = omega (arith, is.small) }

same_size : (text : List ℕ) (p q : ℕ) → IsPercent text p → IsRewardDistance text q → q ≡ p
same_size text p q is it =
    let same : pos q ≡ pos p = one_exact false text (pos q) (pos p) (size_exact text q it.exact) (size_exact text p is.exact) in cc

pub no_percent : (text : List ℕ) (r s : Option ℕ) → IfSome r (IsRewardDistance text) → IfNone r ((by : ℕ) → IsRewardDistance text by → ⊥)
    → IfNone s ((p : ℕ) → r ≡ Some p → p ≤ 100_000_000 → ⊥) → IfNone s ((p : ℕ) → IsPercent text p → ⊥)
no_percent text r (Some p) some none large = tt
no_percent text None None some none large = λ p is. none p (as_distance text p is)
no_percent text (Some q) None some none large = λ p is. large p (ap Some (same_size text p q is some)) is.small
