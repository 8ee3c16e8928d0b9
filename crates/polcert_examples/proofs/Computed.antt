-- What the numerals and names of the worked texts are, computed.
use Rattle.std.proofs.Common.{ℕ, Bool, true, false, List, ℤ, pos, codes, arith}
use Rattle.polcert_text.specs.Bytes.{is_digit, is_point, is_sign, is_exponent_mark}
use Rattle.polcert_text.specs.Numbers.{significand, exponent_size, power_of, size_of, millionth}
use Rattle.polcert_cells.specs.Numbers.{IsMillionths}
use Rattle.polcert_examples.proofs.Common.{IsName, topic_of, name, whole, numeral_at, minus_whole}
use Rattle.polcert_cells.specs.Words.{is_reserved}

-- the numeral, wherever it stands, is this number with its sign
abbrev pub Is : Bool → List ℕ → ℤ → Type 0
Is negative bytes h = (place : ℕ) → IsMillionths negative (numeral_at place bytes) h

pub record Numerals : Type 0 where
  pub minus_one : Is true (codes "1") (minus_whole 1)
  pub two : Is false (codes "2") (pos 2_000_000)
  pub ten : Is false (codes "10") (whole 10)
  pub minus_hundred : Is true (codes "100") (minus_whole 100)
  pub half : Is false (codes "0.5") (pos 500_000)
  pub quarter : Is false (codes "0.25") (pos 250_000)
  pub three_quarters : Is false (codes "0.75") (pos 750_000)
  pub n_0_95 : Is false (codes "0.95") (pos 950_000)
  pub n_0_85 : Is false (codes "0.85") (pos 850_000)
  pub n_0_15 : Is false (codes "0.15") (pos 150_000)

pub numerals : Numerals
unfolding is_sign is_digit is_point is_exponent_mark significand exponent_size power_of size_of millionth
numerals = grind arith

pub record Names : Type 0 where
  pub a : IsName (name (codes "a"))
  pub b : IsName (name (codes "b"))
  pub tiger_left : IsName (name (codes "tiger-left"))
  pub tiger_right : IsName (name (codes "tiger-right"))
  pub listen : IsName (name (codes "listen"))
  pub open_left : IsName (name (codes "open-left"))
  pub open_right : IsName (name (codes "open-right"))

pub names : Names
unfolding is_reserved topic_of
names = grind arith
