-- Decimals that are read at once, as one number of which each byte is one of them.
use Rattle.std.proofs.Common.{◌≡◌, ◌∙◌, ◌≢◌, ℕ, zero, suc, ◌+◌, ◌-◌, ◌*◌, ◌/◌, ◌%◌, ◌^◌, ◌<◌, ◌≤◌, ⊎_elim, nat_lt, cond, min, max, List}
use Rattle.std.proofs.Common.{◌++◌, length, take, drop, get_or, refl, sym, ap, append-nil, bit_and, bit_or, arith}
use Rattle.std.specs.Int.{bit_at, w64, trailing_zeros}
use Rattle.std.proofs.lemmas.Nat.{and_mask, and_le_r}
use Rattle.std.proofs.lemmas.Bool.{lt-ltb, le-ltb}
use Rattle.std.proofs.lemmas.Nat.Bits.{bit_at_and, bit_at_or, bit_at_above, bit_at-trailing_zeros}
use Rattle.polcert_text.proofs.Common.{digits_value, class_of, Digit}
use Rattle.polcert_text.specs.Steps.FrontSizes.{AreDecimals, AreSixDigits, packed}
use Rattle.polcert_text.proofs.Numbers.Plain.{after_more, at_or_after}
use Rattle.polcert_text.proofs.Scanning.Classes.{digit_between}

up_to_six : (P : ℕ → Type 0) → P 0 → P 1 → P 2 → P 3 → P 4 → P 5 → P 6 → (k : ℕ) → k ≤ 6 → P k
up_to_six P a b c d e f g zero l = a
up_to_six P a b c d e f g (suc zero) l = b
up_to_six P a b c d e f g (suc (suc zero)) l = c
up_to_six P a b c d e f g (suc (suc (suc zero))) l = d
up_to_six P a b c d e f g (suc (suc (suc (suc zero)))) l = e
up_to_six P a b c d e f g (suc (suc (suc (suc (suc zero))))) l = f
up_to_six P a b c d e f g (suc (suc (suc (suc (suc (suc zero)))))) l = g
up_to_six P a b c d e f g (suc (suc (suc (suc (suc (suc (suc k))))))) l = absurd (omega (arith, l))

-- ---- the bytes of a number

byte : ℕ → ℕ → ℕ
byte n zero = n % 256
byte n (suc k) = byte (n / 256) k

high_bit : ℕ → ℕ → ℕ
high_bit n zero = n / 128 % 2
high_bit n (suc k) = high_bit (n / 256) k

high_bit_is : (n k : ℕ) → k ≤ 6 → high_bit n k ≡ bit_at n (8 * k + 7)
unfolding high_bit
high_bit_is n k l = up_to_six (λ k. high_bit n k ≡ bit_at n (8 * k + 7)) (omega arith) (omega arith) (omega arith) (omega arith)
    (omega arith) (omega arith) (omega arith) k l

-- the lowest byte of a difference n and of the sum m, where their highest bits are 0
record IsLowest (n m w b z a c d : ℕ) : Type 0 where
  digit : n % 256 + 48 ≡ b
  few : n % 256 ≤ 9
  rest : n / 256 + z ≡ w + c
  above : m / 256 + d ≡ n / 256 + a

lowest : (n m w b z a c d : ℕ) → n + (z * 256 + 48) ≡ w * 256 + b + c * 256 → m + d * 256 ≡ n + (a * 256 + 118) → b < 256 → n / 128 % 2 ≡ 0
    → m / 128 % 2 ≡ 0 → IsLowest n m w b z a c d
lowest n m w b z a c d sum more fits first second = record {
  digit = omega arith;
  few = omega arith;
  rest = omega arith;
  above = omega arith;
}

-- as six digits do
abbrev pub Spells : ℕ → ℕ → Type 0
Spells digits number = (a b c d e f : ℕ) → AreSixDigits a b c d e f → digits ≡ packed a b c d e f
    → number ≡ ((((a * 10 + b) * 10 + c) * 10 + d) * 10 + e) * 10 + f

-- so many bytes, and what stands above them
repeated : ℕ → ℕ → ℕ
repeated b zero = 0
repeated b (suc k) = repeated b k * 256 + b

raised : ℕ → ℕ → ℕ
raised c zero = c
raised c (suc k) = raised c k * 256

-- ---- the bytes of a list
module _ (bs : List ℕ) (from : ℕ) (room : from + 6 ≤ length bs) (bytes : (k : ℕ) → get_or bs k 0 < 256) where
  abbrev at : ℕ → ℕ
  at k = get_or bs (from + k) 0

  pub word : ℕ → ℕ → ℕ
  word j zero = 0
  word j (suc k) = word (suc j) k * 256 + at j

  -- where the highest bits are 0 up to this byte, it is a digit
  digit_there : (q k j n m c d : ℕ) → q < k → n + repeated 48 k ≡ word j k + raised c k → m + raised d k ≡ n + repeated 118 k
      → ((i : ℕ) → i ≤ q → (high_bit n i ≡ 0) × (high_bit m i ≡ 0)) → (byte n q + 48 ≡ at (j + q)) × (byte n q ≤ 9)
  unfolding repeated word raised high_bit byte
  digit_there q zero j n m c d inside sum more clear = absurd (omega arith)
  digit_there zero (suc k) j n m c d inside sum more clear =
      let here = lowest n m _ (at j) _ _ _ _ sum more (bytes _)
      (clear 0 (omega arith)).0 (clear 0 (omega arith)).1 in
      let place : j ≡ j + 0 = omega arith in
      (cc, here.few)
  digit_there (suc q) (suc k) j n m c d inside sum more clear =
      let here = lowest n m _ (at j) _ _ _ _ sum more (bytes _)
      (clear 0 (omega arith)).0 (clear 0 (omega arith)).1 in
      let there = digit_there q k (suc j) _ _ c d (omega arith) here.rest here.above
      (λ i l. clear (suc i) (omega (arith, l))) in
      (there.0 ∙ ap at (omega arith), there.1)

  -- ---- a word less its zeros, and that with more added
  module _ (w : ℕ) (is : w ≡ word 0 6) (fits : w < 2 ^ 64) where
    abbrev pub n : ℕ
    n = (w + 18446691090184523728) % 18446744073709551616

    abbrev pub m : ℕ
    m = (n + 130251165693558) % 18446744073709551616

    abbrev pub others : ℕ
    others = bit_and (bit_or n m) 141289400074368

    both_clear : (x y h : ℕ) → min (max x y) h ≡ 0 → h ≡ 1 → (x ≡ 0) × (y ≡ 0)
    both_clear x y h none one = (omega arith, omega arith)

    one_there : (q : ℕ) → q < 6 → bit_at 141289400074368 (8 * q + 7) ≡ 1
    one_there q l = up_to_six (λ q. q < 6 → bit_at 141289400074368 (8 * q + 7) ≡ 1) (λ l. refl) (λ l. refl) (λ l. refl) (λ l. refl)
        (λ l. refl) (λ l. refl) (λ l. absurd (omega (arith, l))) q (omega (arith, l)) l

    clear_at : (q : ℕ) → q < 6 → bit_at others (8 * q + 7) ≡ 0 → (high_bit n q ≡ 0) × (high_bit m q ≡ 0)
    clear_at q l none =
        let clear = both_clear _ _ _ ((λ i. min (sym (bit_at_or n m (8 * q + 7)) i) (bit_at 141289400074368 (8 * q + 7)))
        ∙ sym (bit_at_and (bit_or n m) 141289400074368 (8 * q + 7)) ∙ none) (one_there q l) in
        (high_bit_is n q (omega (arith, l)) ∙ clear.0, high_bit_is m q (omega (arith, l)) ∙ clear.1)

    lowered : (c : ℕ) × (n + repeated 48 6 ≡ word 0 6 + raised c 6)
    unfolding repeated raised
    lowered = ⊎_elim (λ below. (65536, omega arith)) (λ above. (0, omega arith)) (at_or_after w 52983525027888)

    added : (d : ℕ) × (m + raised d 6 ≡ n + repeated 118 6)
    unfolding repeated raised
    added = ⊎_elim (λ below. (0, omega arith)) (λ above. (65536, omega arith)) (at_or_after n 18446613822543858058)

    -- so many digits, and zeros after them
    some : ℕ → ℕ → ℕ
    some k q = cond (nat_lt q k) (byte n q) 0

    first_bytes : (k : ℕ) → k ≤ 6 → bit_and n (1 * 2 ^ (8 * k) % 18446744073709551616 - 1)
        ≡ packed (some k 0) (some k 1) (some k 2) (some k 3) (some k 4) (some k 5)
    unfolding some byte
    first_bytes k few =
        let mask = and_mask n (8 * k) in
        up_to_six (λ k. bit_and n (2 ^ (8 * k) - 1) ≡ n % 2 ^ (8 * k)
        → bit_and n (1 * 2 ^ (8 * k) % 18446744073709551616 - 1)
        ≡ packed (some k 0) (some k 1) (some k 2) (some k 3) (some k 4) (some k 5))
        (λ mask. omega arith) (λ mask. omega arith) (λ mask. omega arith) (λ mask. omega arith)
        (λ mask. omega arith) (λ mask. omega arith) (λ mask. omega arith) k few mask

    -- what they spell after others
    read : ℕ → ℕ → ℕ
    read number zero = number
    read number (suc q) = read number q * 10 + byte n q

    spelled : ℕ → ℕ
    spelled k = ((((some k 0 * 10 + some k 1) * 10 + some k 2) * 10 + some k 3) * 10 + some k 4) * 10 + some k 5

    scaled : (number k : ℕ) → k ≤ 6 → number * 1_000_000 + spelled k ≡ read number k * 10 ^ (6 - k)
    unfolding read spelled some
    scaled number k few = up_to_six (λ k. number * 1_000_000 + spelled k ≡ read number k * 10 ^ (6 - k)) (omega arith) (omega arith)
        (omega arith) (omega arith) (omega arith) (omega arith) (omega arith) k few

    -- before the first of the others
    module _ (k : ℕ) (few : k ≤ 6) (clear : (q : ℕ) → q < k → bit_at others (8 * q + 7) ≡ 0) where
      digit : (q : ℕ) → q < k → (byte n q + 48 ≡ at q) × (byte n q ≤ 9)
      digit q l =
          let there = digit_there q 6 0 n m _ added.0 (omega arith) lowered.1 added.1
          (λ i le. clear_at i (omega arith) (clear i (omega arith))) in
          (there.0 ∙ ap at (omega arith), there.1)

      each : (q : ℕ) → some k q ≤ 9
      unfolding some
      each q = ⊎_elim (λ below. let here = ap (λ b. cond b (byte n q) 0) (lt-ltb q k below) in omega (arith, (digit q below).1))
          (λ above. omega (arith, ap (λ b. cond b (byte n q) 0) (le-ltb q k above))) (at_or_after q k)

      are_digits : AreSixDigits (some k 0) (some k 1) (some k 2) (some k 3) (some k 4) (some k 5)
      are_digits = record { a_is = each 0; b_is = each 1; c_is = each 2; d_is = each 3; e_is = each 4; f_is = each 5 }

      in_six_bytes : bit_and n (1 * 2 ^ (8 * k) % 18446744073709551616 - 1) < 2 ^ 48
      in_six_bytes = omega (
        arith,
        first_bytes k few,
        are_digits.a_is,
        are_digits.b_is,
        are_digits.c_is,
        are_digits.d_is,
        are_digits.e_is,
        are_digits.f_is,
      )

      class_at : (q : ℕ) → q < k → class_of (at q) ≡ Digit
      class_at q l = let here = digit q l in digit_between (at q) (omega arith) (omega arith)

      spell : (front : List ℕ) (number q : ℕ) → number ≡ digits_value 10 front → q ≤ k
          → read number q ≡ digits_value 10 (front ++ take (from + q - from) (drop from bs))
      unfolding read
      spell front number zero was l =
          let none : from + 0 - from ≡ 0 = omega arith in
          was ∙ ap (digits_value 10) (sym (append-nil front) ∙ ap (λ n. front ++ take n (drop from bs)) (sym none))
      spell front number (suc q) was l =
          let next : from + q + 1 - from ≡ from + suc q - from = omega arith in
          ap (λ b. read number q * 10 + b) (omega (arith, (digit q (omega (arith, l))).0))
          ∙ after_more front bs from (from + q) (read number q) (omega arith) (omega (arith, l, few, room)) (class_at q (omega (arith, l)))
          (spell front number q was (omega (arith, l)))
          ∙ ap (λ n. digits_value 10 (front ++ take n (drop from bs))) next

      -- what the bytes before it spell
      are_decimals : (millionths : ℕ) → Spells (bit_and n (1 * 2 ^ (8 * k) % 18446744073709551616 - 1)) millionths
          → AreDecimals bs from (record { millionths = millionths; end = from + k })
      unfolding spelled
      are_decimals millionths spells =
          let is_spelled = spells _ _ _ _ _ _ are_digits
          (first_bytes k few) in
          let left : 6 - k ≡ from + 6 - _ = omega arith in
          record {
            low = omega arith;
            high = omega arith;
            digits = λ i low high. let sum : from + (i - from) ≡ i = omega arith in
                rw (← sum) (class_at _ (omega arith));
            value = λ front number was. ap (λ m. number * 1_000_000 + m) is_spelled ∙ scaled number k few
                ∙ (λ i. spell front number k was (omega arith) i * 10 ^ left i);
            few = omega (arith, are_digits.a_is, are_digits.b_is, are_digits.c_is, are_digits.d_is, are_digits.e_is, are_digits.f_is);
          }

    -- ---- none of the six is another byte
    pub six : others ≡ 0 → (millionths : ℕ) → Spells (bit_and n 281474976710655) millionths
        → AreDecimals bs from (record { millionths = millionths; end = from + 6 })
    six none millionths spells = are_decimals 6 (omega arith) (omega arith) _ spells

    -- ---- one is
    module _ (any : others ≢ 0) where
      abbrev pub place : ℕ
      place = trailing_zeros w64 others

      small : others < 2 ^ 48
      small = omega (arith, and_le_r (bit_or n m) 141289400074368)

      first : (place < 64) × (bit_at others place ≡ 1) × ((i : ℕ) → i < place → bit_at others i ≡ 0)
      first = bit_at-trailing_zeros w64 others (omega arith) (omega (arith, small))

      few : place / 8 ≤ 6
      few = ⊎_elim (λ below. omega arith) (λ above. absurd (omega (arith, bit_at_above others 48 place small above, first.1)))
          (at_or_after place 48)

      clear : (q : ℕ) → q < place / 8 → bit_at others (8 * q + 7) ≡ 0
      clear q l = first.2 _ (omega (arith, l))

      pub fewer_bytes : bit_and n (1 * 2 ^ (8 * (place / 8)) % 18446744073709551616 - 1) < 2 ^ 48
      fewer_bytes = in_six_bytes _ few clear

      pub fewer : (millionths : ℕ) → Spells (bit_and n (1 * 2 ^ (8 * (place / 8)) % 18446744073709551616 - 1)) millionths
          → AreDecimals bs from (record { millionths = millionths; end = from + place / 8 })
      fewer = are_decimals _ few clear

  pub word_is : (w : ℕ) → w ≡ packed (get_or bs from 0) (at 1) (at 2) (at 3) (at 4) (at 5) → w ≡ word 0 6
  unfolding word
  word_is w e = let first : get_or bs from 0 ≡ at 0 = grind arith in omega arith
