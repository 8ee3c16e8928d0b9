-- What is written of a number is a numeral that a blank or a line end stops.
use Rattle.std.proofs.Common.{◌≡◌, ◌∙◌, ℕ, suc, zero, ◌+◌, ◌/◌, ◌%◌, ◌^◌, ◌<◌, ◌≤◌, Bool, true, false, cond, ◌||◌, Some, List, [], ◌∷◌}
use Rattle.std.proofs.Common.{◌++◌, length, refl, sym, ap, subst, arith, decimal, append-nil, length-append}
use Rattle.std.specs.Prelude.{◌==◌}
use Rattle.polcert_text.proofs.Common.{list_all, list_any, list_any-append, decimal_nonempty, length-decimal-le, is_digit, is_exponent_mark}
use Rattle.polcert_text.proofs.Common.{kind_of, decimals, fraction_text, unsigned_text, state_after, state_through, kind_at, State, Start}
use Rattle.polcert_text.proofs.Common.{Whole, Numeral}
use Rattle.polcert_text.specs.declared.bytes.ByteClass.TheVariants as classes
use Rattle.polcert_text.proofs.Scanning.LexemeLaws.{kind_of-through, state_through-append}
use Rattle.polcert_text.proofs.Numbers.MeasureLaws.{and-true_left, and-true_right}
use Rattle.polcert_text.proofs.Printing.PrintLaws.{decimal_digits, decimals_digits, point_no_mark}
use Rattle.polcert_text.proofs.Scanning.Classes.{point_at_46 as point_class_is}
use Rattle.polcert_text.proofs.Scanning.Tests.{digit_class_is, mark_by}

decimals_short : (k r : ℕ) → length (decimals k r) ≤ k
unfolding decimals
decimals_short zero r = omega arith
decimals_short (suc k) r = at (r == 0) (decimals_short k _)
  where
    at : (z : Bool) → length (decimals k (r % 10 ^ k)) ≤ k → length (cond z [] ((48 + r / 10 ^ k) ∷ decimals k (r % 10 ^ k))) ≤ suc k
    at true h = omega arith
    at false h = omega (arith, h)

digits_stay : (state : State) → state_after state classes.Digit ≡ state → (ds : List ℕ) → list_all is_digit ds ≡ true
    → state_through state ds ≡ state
digits_stay state stays [] h = refl
digits_stay state stays (d ∷ ds) h =
    ap (λ c. state_through (state_after state c) ds) (digit_class_is d (and-true_left _ _ h))
    ∙ ap (λ t. state_through t ds) stays ∙ digits_stay state stays ds (and-true_right _ _ h)

digits_unmarked : (ds : List ℕ) → list_all is_digit ds ≡ true → list_any is_exponent_mark ds ≡ false
digits_unmarked [] h = refl
digits_unmarked (d ∷ ds) h =
    let e = digit_class_is d (and-true_left _ _ h) in
    simp (mark_by d e) (digits_unmarked ds (and-true_right _ _ h))

-- digits, and perhaps a point and digits
pub record IsPlain (text : List ℕ) : Type 0 where
  pub digit : ℕ
  pub rest : List ℕ
  pub begins : text ≡ digit ∷ rest
  pub kind : kind_of text ≡ Some Numeral
  pub unmarked : list_any is_exponent_mark text ≡ false
  pub short : length text ≤ 30

whole_state : (d : ℕ) (ds : List ℕ) → list_all is_digit (d ∷ ds) ≡ true → state_through Start (d ∷ ds) ≡ Whole
whole_state = grind (arith, and-true_left, and-true_right, digit_class_is, digits_stay)

pub plain_whole : (ds : List ℕ) → list_all is_digit ds ≡ true → 0 < length ds → length ds ≤ 20 → IsPlain ds
plain_whole [] h some few = absurd (omega arith)
plain_whole (d ∷ ds) h some few = record {
  digit = d;
  rest = ds;
  begins = refl;
  kind = kind_of-through _ ∙ ap kind_at (whole_state d ds h);
  unmarked = digits_unmarked (d ∷ ds) h;
  short = omega arith;
}

plain_point : (ds fs : List ℕ) → list_all is_digit ds ≡ true → 0 < length ds → length ds ≤ 20 → list_all is_digit fs ≡ true → length fs ≤ 6
    → IsPlain (ds ++ 46 ∷ fs)
plain_point [] fs h some few f small = absurd (omega arith)
plain_point (d ∷ ds) fs h some few f small =
    let state = state_through-append Start (d ∷ ds) _
    ∙ ap (λ s. state_through s (46 ∷ fs)) (whole_state d ds h)
    ∙ ap (λ c. state_through (state_after Whole c) fs) point_class_is ∙ digits_stay _ refl fs f in
    record {
      digit = d;
      rest = _;
      begins = refl;
      kind = kind_of-through _ ∙ ap kind_at state;
      unmarked = list_any-append is_exponent_mark (d ∷ ds) _
          ∙ (λ i. digits_unmarked (d ∷ ds) h i || (point_no_mark i || digits_unmarked fs f i));
      short = omega (arith, length-append (d ∷ ds) (46 ∷ fs));
    }

pub plain_unsigned : (n : ℕ) → n < 10 ^ 19 → IsPlain (unsigned_text n)
plain_unsigned n h = at (n % 1_000_000 == 0) refl
  where
    small : n / 1_000_000 < 2 ^ 64
    small = omega (arith, h)

    digits : list_all is_digit (decimal (n / 1_000_000)) ≡ true
    digits = decimal_digits _ small

    some : 0 < length (decimal (n / 1_000_000))
    some = decimal_nonempty _ small

    few : length (decimal (n / 1_000_000)) ≤ 20
    few = let l = length-decimal-le 19 _ (omega arith) (omega (arith, h)) small in
        omega (arith, l)

    at : (z : Bool) → (n % 1_000_000 == 0) ≡ z → IsPlain (decimal (n / 1_000_000) ++ fraction_text (n % 1_000_000))
    at true e =
        let text =
        sym (simp e (append-nil _)) in
        subst IsPlain text (plain_whole _ digits some few)
    at false e =
        subst IsPlain (sym (simp e)) (plain_point (decimal (n / 1_000_000)) (decimals 6 (n % 1_000_000)) digits some few
        (decimals_digits 6 (n % 1_000_000) (omega arith)) (decimals_short 6 (n % 1_000_000)))

pub plain_decimal : (a : ℕ) → a < 10 ^ 19 → IsPlain (decimal a)
plain_decimal a h =
    let small : a < 2 ^ 64 = omega (arith, h) in
    plain_whole (decimal a) (decimal_digits a small) (decimal_nonempty a small)
    (omega (arith, length-decimal-le 19 a (omega arith) h small))
