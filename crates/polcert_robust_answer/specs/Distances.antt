-- Distances, as they are typed and as they count on a scale. Our own.
use Rattle.std.specs.Prelude.{◌≡◌, ℕ, ◌+◌, ◌*◌, ◌/◌, ◌≤◌, List, true, length}
use Rattle.polcert_text.specs.Lexemes.{is_mantissa}
use Rattle.polcert_text.specs.Numbers.{IsReadable, millionth, size_of}

-- The text is a distance of probabilities: a decimal with no sign and no exponent, of just `by` millionths of millionths, and at most 1.
-- (Its value is `size_of` parts of 10 ^ 1000, and a millionth is `millionth` of them.)
pub record IsDistance (text : List ℕ) (by : ℕ) : Type 0 where
  pub decimal : is_mantissa text ≡ true
  pub short : length text ≤ 398
  pub exact : size_of text * 1_000_000 ≡ by * millionth
  pub small : by ≤ 1_000_000_000_000

-- The text is a percentage: a numeral with no sign, of just `percent` millionths of a percent, and at most 100.
pub record IsPercent (text : List ℕ) (percent : ℕ) : Type 0 where
  pub readable : IsReadable text
  pub exact : size_of text ≡ percent * millionth
  pub small : percent ≤ 100_000_000

-- The text is a distance of rewards: a numeral with no sign, of just `by` millionths, and at most 1,000,000.
pub record IsRewardDistance (text : List ℕ) (by : ℕ) : Type 0 where
  pub readable : IsReadable text
  pub exact : size_of text ≡ by * millionth
  pub small : by ≤ 1_000_000_000_000

-- The distance in whole parts of the scale of a row with this many columns, rounded up. (A scale is 1,000,000 for each column.)
abbrev pub parts_of_row : ℕ → ℕ → ℕ
parts_of_row by columns = (by * columns + 999_999) / 1_000_000

-- the distance in whole parts of any scale, rounded up
abbrev pub parts_at : ℕ → ℕ → ℕ
parts_at by scale = (by * scale + 999_999_999_999) / 1_000_000_000_000
