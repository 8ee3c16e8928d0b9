-- What is written of a number is a numeral that a reader takes.
use Rattle.std.proofs.Common.{◌≡◌, ℕ, ◌*◌, ◌≤◌, false, List, sym, ap, arith}
use Rattle.polcert_text.proofs.Common.{list_any, digits_value, is_exponent_mark, unsigned_text, exponent_size, size_of}
use Rattle.polcert_text.proofs.Common.{millionth, largest, IsReadable, without_sign}
use Rattle.std.proofs.Math.Nat.{mul-le-mul_right}
use Rattle.polcert_text.proofs.Printing.PrintLaws.{written_exact}
use Rattle.polcert_text.proofs.Numbers.SizeLaws.{after-none}
use Rattle.polcert_text.proofs.Printing.Numerals.{IsPlain, plain_unsigned}

pub size_written : (n : ℕ) → n ≤ largest → size_of (unsigned_text n) ≡ n * millionth
size_written n l =
    let exact = (written_exact n (omega (arith, l)) false).1 in
    sym (cc)

exponent_none : (bs : List ℕ) → list_any is_exponent_mark bs ≡ false → exponent_size bs ≡ 0
unfolding exponent_size
exponent_none bs e = ap (λ xs. digits_value 10 (without_sign xs)) (after-none _ bs e)

pub plain_size : (n : ℕ) → n ≤ largest → IsPlain (unsigned_text n)
plain_size n l = plain_unsigned n (omega (arith, l))

pub readable_written : (n : ℕ) → n ≤ largest → IsReadable (unsigned_text n)
readable_written n l =
    let was = plain_size n l in
    let size = mul-le-mul_right millionth l in
    record {
      numeral = (written_exact n (omega (arith, l)) false).0;
      short = omega arith;
      exponent = omega (arith, exponent_none _ was.unmarked);
      size = omega (arith, size, size_written n l);
    }
