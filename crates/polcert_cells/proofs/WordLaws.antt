-- No reserved word ends in a digit.
use Rattle.std.proofs.Common.{◌≡◌, ◌-◌, ℕ, Bool, true, false, List, length, get_or, bytes_eq, arith}
use Rattle.std.specs.Char.{is_ascii_digit}
use Rattle.polcert_cells.proofs.Common.{bytes_eq-Decides, topic_of, is_reserved}
use Rattle.polcert_cells.proofs.Basics.{true≢false}

abbrev ends_in_digit : List ℕ → Bool
ends_in_digit word = is_ascii_digit (get_or word (length word - 1) 0)

differs : (word other : List ℕ) → ends_in_digit word ≡ true → ends_in_digit other ≡ false → bytes_eq word other ≡ false
differs word other ends not = grind (arith, bytes_eq, bytes_eq-Decides, true≢false)

pub digit_is_free : (word : List ℕ) → ends_in_digit word ≡ true → is_reserved word ≡ false
unfolding is_reserved topic_of
digit_is_free word ends = grind (arith, differs)
