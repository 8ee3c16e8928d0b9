-- Where a numeral at the front of some bytes ends, and its parts.
-- Nobody has to believe this: only contracts of private functions cite it.
use Rattle.std.specs.Prelude.{◌≡◌, ℕ, ◌+◌, ◌-◌, ◌≤◌, Bool, true, false, List, length, take, drop, slice_index, min}
use Rattle.polcert_text.specs.Cut.{is_glued}
use Rattle.polcert_text.specs.Lexemes.{is_numeral, without_sign}
use Rattle.polcert_text.specs.Numbers.{whole_of, fraction_of, exponent_of, is_lowering}
use Rattle.polcert_text.specs.Steps.Classes.{class_of}
use Rattle.polcert_text.specs.Steps.Scan.{gap_after}
use Rattle.polcert_text.specs.Steps.ScanOf.{EndsWithin}
use Rattle.polcert_text.specs.declared.tokens.Gap.TheVariants.{Between, Ended}
use Rattle.polcert_text.specs.declared.numeral_ends.NumeralEnds.{NumeralEnds}
use Rattle.polcert_text.specs.declared.tokens.TokenKind.TheVariants.{Numeral}

-- the bytes from one index up to another
abbrev pub between : ℕ → ℕ → List ℕ → List ℕ
between from until bytes = take (until - from) (drop from bytes)

-- a numeral ends within the bytes, and its parts end there
pub record EndsAsNumeral (bytes : List ℕ) (ends : NumeralEnds) : Type 0 where
  pub begins : gap_after Between (class_of (slice_index bytes 0)) ≡ Ended
  pub within : EndsWithin bytes (record { kind = Numeral; len = ends.end })
  pub short : ends.end ≤ 400
  pub apart : is_glued Numeral (drop ends.end bytes) ≡ false
  pub numeral : is_numeral (take ends.end bytes) ≡ true
  pub whole : whole_of (take ends.end bytes) ≡ take ends.point bytes
  pub fraction : fraction_of (take ends.end bytes) ≡ between (min ends.mantissa (ends.point + 1)) ends.mantissa bytes
  pub exponent : exponent_of (take ends.end bytes) ≡ between (min ends.end (ends.mantissa + 1)) ends.end bytes
  pub in_order : (ends.point ≤ ends.mantissa) × (ends.mantissa ≤ ends.end)

-- the parts of a numeral
pub record HasParts (bs whole fraction : List ℕ) (lowering : Bool) (exponent : List ℕ) : Type 0 where
  pub numeral : is_numeral bs ≡ true
  pub short : length bs ≤ 400
  pub whole_is : whole ≡ whole_of bs
  pub fraction_is : fraction ≡ fraction_of bs
  pub lowering_is : lowering ≡ is_lowering (exponent_of bs)
  pub exponent_is : exponent ≡ without_sign (exponent_of bs)
