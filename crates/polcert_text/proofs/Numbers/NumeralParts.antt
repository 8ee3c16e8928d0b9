-- The parts of a numeral that ends within some bytes: digits, a point and digits, an exponent.
use Rattle.std.proofs.Common.{◌≡◌, ◌∙◌, ◌⊎◌, inl, inr, ⊎_elim, ℕ, ◌+◌, ◌-◌, ◌<◌, ◌≤◌, min, Bool, true, false, Some, List, length, take}
use Rattle.std.proofs.Common.{drop}
use Rattle.std.proofs.Common.{get_or, refl, sym, ap, arith}
use Rattle.polcert_text.proofs.Common.{before_first, after_first, drop-take, is_exponent_mark, is_point, whole_of, fraction_of, exponent_of}
use Rattle.polcert_text.proofs.Common.{is_numeral, class_of, AreDigitsFrom, EndsWithin, state_after, state_through, kind_at, pending}
use Rattle.polcert_text.proofs.Common.{ByteClass}
use Rattle.polcert_text.proofs.Common.{Digit, Point, State, Start, Whole, Fraction, Stuck, Numeral, gap_after, Between, Ended}
use Rattle.polcert_text.specs.declared.bytes.ByteClass.TheVariants.{ExponentMark}
use Rattle.polcert_text.specs.declared.tokens.State.TheVariants.{Mark, Sign, Exponent}
use Rattle.std.proofs.lemmas.List.{get_or-take, length-take-le, take-take}
use Rattle.polcert_text.specs.Steps.NumeralEnds.{between}
use Rattle.polcert_text.specs.Steps.Classes.{class_of_sign}
use Rattle.polcert_text.specs.Steps.Scan.{EndsNumeral, is_numeral_kind}
use Rattle.polcert_text.proofs.Scanning.LexemeLaws.{state_step}
use Rattle.polcert_text.proofs.Scanning.Runs.{ends_within}
use Rattle.polcert_text.proofs.Scanning.Tests.{mark_by, point_by}
use Rattle.polcert_text.proofs.Numbers.FrontNumbers.{whole_read}
use Rattle.polcert_text.proofs.Numbers.NumberLaws.{before_at, after_at, before_all, after_all, numeral_at_state}
use Rattle.polcert_text.proofs.Numbers.Plain.{at_or_after, none_or_some, run, side, plain_read}

-- so many bytes, cut where one first passes a test, or where they end
module _ (q : ℕ → Bool) (bs : List ℕ) (i n : ℕ) (low : i ≤ n) (high : n ≤ length bs)
    (none : (k : ℕ) → k < i → q (get_or bs k 0) ≡ false) (there : i < n → q (get_or bs i 0) ≡ true) where
  len : length (take n bs) ≡ n
  len = length-take-le n bs high

  none_in : (k : ℕ) → k < i → q (get_or (take n bs) k 0) ≡ false
  none_in k l = ap q (get_or-take n bs k 0 (omega arith)) ∙ none k l

  there_in : i < n → q (get_or (take n bs) i 0) ≡ true
  there_in l = ap q (get_or-take n bs i 0 l) ∙ there l

  pub before_cut : before_first q (take n bs) ≡ take i bs
  before_cut = ⊎_elim (λ l. before_at q _ i (omega (arith, len)) none_in (there_in l) ∙ take-take i n bs low)
      (λ l. let all : n ≡ i = omega arith in
      before_all q _ (λ k below. none_in k (omega (arith, len))) ∙ ap (λ m. take m bs) all)
      (at_or_after i n)

  pub after_cut : after_first q (take n bs) ≡ between (min n (i + 1)) n bs
  after_cut = ⊎_elim (λ l. let next : n ≡ i + 1 + (n - (i + 1)) = omega (arith, l) in
      let from : i + 1 ≡ min n (i + 1) = omega (arith, l) in
      after_at q _ i (omega (arith, len)) none_in (there_in l) ∙ ap (λ m. drop (i + 1) (take m bs)) next
      ∙ drop-take (i + 1) _ bs ∙ ap (λ m. take (n - m) (drop m bs)) from)
      (λ l. let all : n ≡ i = omega arith in
      let nothing : 0 ≡ n - min n (i + 1) = omega arith in
      after_all q _ (λ k below. none_in k (omega (arith, len)))
      ∙ ap (λ m. take m (drop (min n (i + 1)) bs)) nothing)
      (at_or_after i n)

-- digits, perhaps a point and digits, and up to n perhaps an exponent
pub record IsCutAt (bs : List ℕ) (p m n : ℕ) : Type 0 where
  pub some : (0 < p) ⊎ (1 < m)
  pub low : p ≤ m
  pub high : m ≤ n
  pub inside : n < length bs
  pub first : AreDigitsFrom bs 0 p
  pub point : p < m → class_of (get_or bs p 0) ≡ Point
  pub second : AreDigitsFrom bs (p + 1) m
  pub mark : m < n → class_of (get_or bs m 0) ≡ ExponentMark

-- a numeral may end in this state, and then such a byte ends it
pub record EndsInState (state : State) : Type 0 where
  pub kind : kind_at state ≡ Some Numeral
  pub none : pending state ≡ 0
  pub stops : (c : ByteClass) → EndsNumeral c → state_after state c ≡ Stuck

pub exponent_ends : EndsInState Exponent
exponent_ends = record { kind = refl; none = refl; stops = grind arith }

-- a numeral that such a byte ends
pub ends_in_state : (bs : List ℕ) (n : ℕ) (state : State) → EndsInState state → n < length bs → state_through Start (take n bs) ≡ state
    → EndsNumeral (class_of (get_or bs n 0)) → EndsWithin bs (record { kind = Numeral; len = n }) × (is_numeral (take n bs) ≡ true)
ends_in_state bs n state s inside read stops = (
  (ends_within bs n state Numeral inside read s.kind s.none (s.stops _ stops)),
  sym (numeral_at_state (take n bs) state read)
      ∙ ap is_numeral_kind s.kind,
)

module _ (bs : List ℕ) (p m n : ℕ) (cut : IsCutAt bs p m n) where
  no_mark : (k : ℕ) → k < m → is_exponent_mark (get_or bs k 0) ≡ false
  no_mark k l = ⊎_elim (λ before. mark_by _ (cut.first k (omega arith) before))
      (λ later. ⊎_elim (λ here. ap (λ i. is_exponent_mark (get_or bs i 0)) here
      ∙ mark_by _ (cut.point (omega arith)))
      (λ after. mark_by _ (cut.second k after l)) later) (side k p)

  mantissa : before_first is_exponent_mark (take n bs) ≡ take m bs
  mantissa = before_cut _ bs m n cut.high (omega arith) no_mark (λ l. mark_by _ (cut.mark l))

  no_point : (k : ℕ) → k < p → is_point (get_or bs k 0) ≡ false
  no_point k l = point_by _ (cut.first k (omega arith) l)

  at_point : p < m → is_point (get_or bs p 0) ≡ true
  at_point l = point_by _ (cut.point l)

  short : m ≤ length bs
  short = omega arith

  pub whole_part : whole_of (take n bs) ≡ take p bs
  whole_part = ap (before_first _) mantissa ∙ before_cut _ bs p m cut.low short no_point at_point

  pub fraction_part : fraction_of (take n bs) ≡ between (min m (p + 1)) m bs
  fraction_part = ap (after_first _) mantissa ∙ after_cut _ bs p m cut.low short no_point at_point

  pub exponent_part : exponent_of (take n bs) ≡ between (min n (m + 1)) n bs
  exponent_part = after_cut _ bs m n cut.high (omega arith) no_mark (λ l. mark_by _ (cut.mark l))

  -- the state after the digits
  pub mantissa_state : (state_through Start (take m bs) ≡ Whole) ⊎ (state_through Start (take m bs) ≡ Fraction)
  mantissa_state = ⊎_elim (λ l. inr (plain_read bs p m cut.some (omega (arith, l)) short cut.first (cut.point l) cut.second))
      (λ l. let all : m ≡ p = omega arith in
      inl (whole_read bs m (⊎_elim (λ some. omega arith) (λ more. omega arith) cut.some) short
      (λ k from below. cut.first k from (omega arith))))
      (at_or_after p m)

  -- no gap continues with its first byte
  pub begins : gap_after Between (class_of (get_or bs 0 0)) ≡ Ended
  begins = ⊎_elim (λ none. ap (λ k. gap_after Between (class_of (get_or bs k 0))) (sym none)
      ∙ ap (gap_after Between) (cut.point (⊎_elim (λ some. absurd (omega arith)) (λ more. omega arith)
      cut.some)))
      (λ some. ap (gap_after Between) (cut.first 0 (omega arith) some)) (none_or_some p)

  -- such a byte after it ends it
  pub numeral_ends : (m < n → state_after (state_through Start (take m bs)) ExponentMark ≡ Mark
      → state_through Start (take n bs) ≡ Exponent)
      → EndsNumeral (class_of (get_or bs n 0)) → EndsWithin bs (record { kind = Numeral; len = n }) × (is_numeral (take n bs) ≡ true)
  numeral_ends read stops = ⊎_elim
      (λ l. let to_mark = ⊎_elim (ap (λ s. state_after s ExponentMark)) (ap (λ s. state_after s ExponentMark)) mantissa_state in
      ends_in_state bs n _ exponent_ends cut.inside (read l to_mark) stops)
      (λ l. let all : n ≡ m = omega arith in
      ⊎_elim (λ whole. ends_in_state bs n Whole (record { kind = refl; none = refl; stops = λ c e. e.whole }) cut.inside (cc) stops)
      (λ fraction. ends_in_state bs n Fraction (record { kind = refl; none = refl; stops = λ c e. e.fraction }) cut.inside (cc) stops)
      mantissa_state)
      (at_or_after m n)

-- digits after the mark of an exponent, or after its sign
pub exponent_read : (bs : List ℕ) (d e : ℕ) → d < e → e ≤ length bs
    → (state_through Start (take d bs) ≡ Mark) ⊎ (state_through Start (take d bs) ≡ Sign) → AreDigitsFrom bs d e
    → state_through Start (take e bs) ≡ Exponent
exponent_read bs d e some high read digits =
    let digit = digits d (omega arith) some in
    let inside : d < length bs = omega arith in
    let all : d + 1 + (e - (d + 1)) ≡ e = omega arith in
    ap (λ k. state_through Start (take k bs)) (sym all)
    ∙ run bs (d + 1) (e - (d + 1)) Exponent (omega arith) refl
    (⊎_elim (λ mark. state_step bs d Mark Digit Exponent inside mark (sym digit) refl)
    (λ sign. state_step bs d Sign Digit Exponent inside sign (sym digit) refl) read)
    (λ k l. digits (d + 1 + k) (omega arith) (omega arith))

pub some_digit : (p m : ℕ) → 2 ≤ p + m → p ≤ m → (0 < p) ⊎ (1 < m)
some_digit p m some low = ⊎_elim (λ none. inr (omega arith)) inl (none_or_some p)

pub sign_after_mark : (is_negative : Bool) → state_after Mark (class_of_sign is_negative) ≡ Sign
sign_after_mark = grind arith
