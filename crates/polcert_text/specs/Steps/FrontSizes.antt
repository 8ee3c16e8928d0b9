-- A numeral at the front of some bytes, measured.
-- Nobody has to believe this: only contracts of private functions cite it.
use Rattle.std.specs.Prelude.{◌≡◌, ℕ, ◌+◌, ◌-◌, ◌*◌, ◌^◌, ◌<◌, ◌≤◌, false, List, ◌++◌, length, take, drop, get_or, slice_index}
use Rattle.std.specs.List.{list_any}
use Rattle.std.specs.Str.Parse.{digits_value}
use Rattle.polcert_text.specs.Steps.Classes.{class_of}
use Rattle.polcert_text.specs.Steps.Scan.{EndsNumeral, gap_after}
use Rattle.polcert_text.specs.declared.tokens.Gap.TheVariants.{Between, Ended}
use Rattle.polcert_text.specs.Cut.{is_glued}
use Rattle.polcert_text.specs.Numbers.{largest, IsReadable}
use Rattle.polcert_text.specs.Steps.Scaling.{is_nonzero, ceiling, Measures}
use Rattle.polcert_text.specs.Steps.ScanOf.{EndsWithin}
use Rattle.polcert_text.specs.declared.bytes.ByteClass.TheVariants.{Digit}
use Rattle.polcert_text.specs.declared.front_numerals.FrontDecimals.{FrontDecimals}
use Rattle.polcert_text.specs.declared.front_numerals.FrontSize.{FrontSize}
use Rattle.polcert_text.specs.declared.front_numerals.Tail.{Tail}
use Rattle.polcert_text.specs.declared.tokens.TokenKind.TheVariants.{Numeral}

-- each byte of these is a digit
abbrev pub AreDigitsFrom : List ℕ → ℕ → ℕ → Type 0
AreDigitsFrom bytes from until = (k : ℕ) → from ≤ k → k < until → class_of (get_or bytes k 0) ≡ Digit

-- the digits from here on, at most six, are this many millionths
pub record AreDecimals (bytes : List ℕ) (from : ℕ) (decimals : FrontDecimals) : Type 0 where
  pub low : from ≤ decimals.end
  pub high : decimals.end ≤ from + 6
  pub digits : AreDigitsFrom bytes from decimals.end
  pub value : (front : List ℕ) (number : ℕ) → number ≡ digits_value 10 front
      → number * 1_000_000 + decimals.millionths ≡ digits_value 10 (front ++ take (decimals.end - from) (drop from bytes)) * 10 ^ (from + 6 - decimals.end)
  pub few : decimals.millionths < 1_000_000

-- the number whose six bytes are these, the lowest first
abbrev pub packed : ℕ → ℕ → ℕ → ℕ → ℕ → ℕ → ℕ
packed a b c d e f = ((((f * 256 + e) * 256 + d) * 256 + c) * 256 + b) * 256 + a

pub record AreSixDigits (a b c d e f : ℕ) : Type 0 where
  pub a_is : a ≤ 9
  pub b_is : b ≤ 9
  pub c_is : c ≤ 9
  pub d_is : d ≤ 9
  pub e_is : e ≤ 9
  pub f_is : f ≤ 9

-- from here on the bytes are digits up to the end of the tail, which has one that isn't 0 or none; a byte follows that ends the numeral
pub record IsTail (bytes : List ℕ) (from full : ℕ) (tail : Tail) : Type 0 where
  pub low : from ≤ tail.end
  pub high : tail.end < length bytes
  pub stops : EndsNumeral (class_of (get_or bytes tail.end 0))
  pub none : from < full → tail.end ≡ from
  pub short : tail.end ≤ 400
  pub digits : AreDigitsFrom bytes from tail.end
  pub is_inexact : tail.is_inexact ≡ list_any is_nonzero (take (tail.end - from) (drop from bytes))

-- a numeral whose size is measured ends within the bytes
pub record EndsAsSize (bytes : List ℕ) (front : FrontSize) : Type 0 where
  pub begins : gap_after Between (class_of (slice_index bytes 0)) ≡ Ended
  pub ends : EndsWithin bytes (record { kind = Numeral; len = front.len })
  pub short : front.len ≤ 400
  pub apart : is_glued Numeral (drop front.len bytes) ≡ false
  pub readable : IsReadable (take front.len bytes)
  pub measures : Measures (take front.len bytes) front.size.floor front.size.is_inexact
  pub top : ceiling front.size.floor front.size.is_inexact ≤ largest
