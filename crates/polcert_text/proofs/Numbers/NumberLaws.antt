-- Digits, and the parts of a numeral.
use Rattle.std.proofs.Common.{◌≡◌, ◌∙◌, ℕ, ◌+◌, ◌-◌, ◌*◌, ◌^◌, ◌<◌, ◌≤◌, min, Bool, true, false, cond, ◌&&◌, Option, Some, None, List, []}
use Rattle.std.proofs.Common.{◌∷◌, ◌++◌, length, take, drop, get_or, sym, ap, arith}
use Rattle.polcert_text.proofs.Common.{digit_value, digits_value_push, take_more, drop_all, list_all, before_first, after_first}
use Rattle.polcert_text.proofs.Common.{digits_value, is_letter, is_digit, is_point, is_numeral, kind_of, mark_kind, size_cap, IsScaled}
use Rattle.polcert_text.proofs.Common.{ByteClass, TokenKind, state_through, kind_at, is_numeral_kind, State, Start}
use Rattle.std.proofs.lemmas.Int.Digits.{digits_value_more}
use Rattle.std.proofs.lemmas.List.{take_all, length-append, append_assoc}
use Rattle.polcert_text.specs.Lexemes.{is_name}
use Rattle.std.proofs.lemmas.Grind.{pow_more}
use Rattle.std.proofs.lemmas.List.Sums.{AllPass-from_list_all, position_or_len_is}
use Rattle.polcert_text.specs.declared.tokens.TokenKind.TheVariants as kinds
use Rattle.polcert_text.specs.declared.number.Scaling.{Scaling}
use Rattle.polcert_text.proofs.Scanning.LexemeLaws.{no_numeral, none_empty, kind_of-through}
use Rattle.polcert_text.proofs.Scanning.Tests.{kind_by}

pub true≢false : {b : Bool} → b ≡ true → b ≡ false → ⊥
true≢false e f = cc

pub digit_from : (b : ℕ) → is_digit b ≡ true → 48 ≤ b
unfolding is_digit
digit_from = grind arith

pub digit_to : (b : ℕ) → is_digit b ≡ true → b ≤ 57
unfolding is_digit
digit_to = grind arith

pub digit_is : (b : ℕ) → is_digit b ≡ true → digit_value b ≡ b - 48
digit_is b h = let l = digit_from b h in let u = digit_to b h in grind arith

module _ (p : ℕ → Bool) (bs : List ℕ) where
  -- what stands before the first byte that passes, and after it
  pub before_at : (i : ℕ) → i < length bs → ((k : ℕ) → k < i → p (get_or bs k 0) ≡ false)
      → p (get_or bs i 0) ≡ true → before_first p bs ≡ take i bs
  before_at i h none at = ap (λ n. take n bs) (position_or_len_is p bs i 0 (omega arith) none (λ _. at))

  pub after_at : (i : ℕ) → i < length bs → ((k : ℕ) → k < i → p (get_or bs k 0) ≡ false)
      → p (get_or bs i 0) ≡ true → after_first p bs ≡ drop (i + 1) bs
  after_at i h none at = ap (λ n. drop (n + 1) bs) (position_or_len_is p bs i 0 (omega arith) none (λ _. at))

  pub before_all : ((k : ℕ) → k < length bs → p (get_or bs k 0) ≡ false) → before_first p bs ≡ bs
  before_all none =
      ap (λ n. take n bs) (position_or_len_is p bs _ 0 (omega arith) none (λ l. absurd (omega (arith, l))))
      ∙ take_all _ bs (omega arith)

  pub after_all : ((k : ℕ) → k < length bs → p (get_or bs k 0) ≡ false) → after_first p bs ≡ []
  after_all none =
      ap (λ n. drop (n + 1) bs) (position_or_len_is p bs _ 0 (omega arith) none (λ l. absurd (omega (arith, l))))
      ∙ drop_all _ bs (omega arith)

chosen_numeral : (name numeral empty : Bool) (c : ByteClass)
    → cond name (Some kinds.Name) (cond numeral (Some kinds.Numeral) (cond empty (mark_kind c) None)) ≡ Some kinds.Numeral → numeral ≡ true
chosen_numeral = grind arith

pub numeral_from_kind : (bs : List ℕ) → kind_of bs ≡ Some kinds.Numeral → is_numeral bs ≡ true
numeral_from_kind = grind (arith, none_empty, kind_by, chosen_numeral)

letter_no_digit : (b : ℕ) → is_letter b ≡ true → is_digit b ≡ false
unfolding is_letter is_digit
letter_no_digit = grind arith

letter_no_point : (b : ℕ) → is_letter b ≡ true → is_point b ≡ false
unfolding is_letter is_point
letter_no_point = grind arith

and-left : (x y : Bool) → (x && y) ≡ true → x ≡ true
and-left = grind arith

pub no_name : (bs : List ℕ) → is_numeral bs ≡ true → is_name bs ≡ false
no_name = grind (arith, no_numeral, true≢false, letter_no_digit, letter_no_point, and-left)

pub kind_from_numeral : (bs : List ℕ) → is_numeral bs ≡ true → kind_of bs ≡ Some kinds.Numeral
unfolding kind_of
kind_from_numeral bs h = simp (no_name bs h, h)

not_numeral : (o : Option TokenKind) → (o ≡ Some kinds.Numeral → ⊥) → is_numeral_kind o ≡ false
not_numeral = grind arith

pub numeral_by_kind : (bs : List ℕ) → is_numeral_kind (kind_of bs) ≡ is_numeral bs
numeral_by_kind = grind (arith, true≢false, numeral_from_kind, kind_from_numeral, not_numeral)

-- what the state after the bytes says of them
pub numeral_at_state : (bs : List ℕ) (state : State) → state_through Start bs ≡ state → is_numeral_kind (kind_at state) ≡ is_numeral bs
numeral_at_state bs state e = ap (λ s. is_numeral_kind (kind_at s)) (sym e) ∙ ap is_numeral_kind (sym (kind_of-through bs))
    ∙ numeral_by_kind bs

pub digit_at : (bs : List ℕ) (i : ℕ) → list_all is_digit bs ≡ true → i < length bs → is_digit (get_or bs i 0) ≡ true
digit_at bs i h l = AllPass-from_list_all _ bs h i 0 l

-- one more digit, below a bound that is no power of ten
pub capped_more : (most v d : ℕ) → 0 < most → min (min most v * 10 + d) most ≡ min most (v * 10 + d)
capped_more = omega arith

pub number_step : (most : ℕ) (bs : List ℕ) (i n m : ℕ) → 0 < most → list_all is_digit bs ≡ true → i < length bs
    → n ≡ min most (digits_value 10 (take i bs)) → m ≡ min (n * 10 + (get_or bs i 0 - 48)) most
    → m ≡ min most (digits_value 10 (take (i + 1) bs))
number_step = grind (arith, digits_value_more, digit_is, digit_at, capped_more)

-- the step of a scaling at one more digit
pub scaled_more : (kept : ℕ) (front : List ℕ) (d : ℕ) (old new : Scaling) → is_digit d ≡ true → 0 < old.left → IsScaled kept front old
    → new.floor ≡ min (old.floor * 10 + (d - 48)) size_cap → new.left ≡ old.left - 1 → new.is_inexact ≡ old.is_inexact
    → IsScaled kept (front ++ d ∷ []) new
scaled_more = grind (arith, digits_value_push, take_all, drop_all, length-append, digit_is, capped_more)

pub pow_next : (n k : ℕ) → n * 10 ^ (k + 1) ≡ n * 10 ^ k * 10
pow_next n k = omega (arith, ap (λ p. n * p) (pow_more 10 k))

pub zeros_step : (number n k next : ℕ) → number ≡ min size_cap (n * 10 ^ k) → next ≡ min (number * 10) size_cap
    → next ≡ min size_cap (n * 10 ^ (k + 1))
zeros_step = grind (arith, pow_next)

pub scaled_through : (kept : ℕ) (front ds : List ℕ) (i : ℕ) (new : Scaling) → i < length ds
    → IsScaled kept ((front ++ take i ds) ++ get_or ds i 0 ∷ []) new → IsScaled kept (front ++ take (i + 1) ds) new
scaled_through = grind (arith, take_more, append_assoc)
