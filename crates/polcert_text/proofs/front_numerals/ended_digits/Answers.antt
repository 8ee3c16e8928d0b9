use Rattle.std.proofs.Common.{◌<◌, length, refl, sym, arith}
use Rattle.polcert_text.proofs.Common.{Whole, Numeral}
use Rattle.polcert_text.proofs.Numbers.FrontNumbers.{whole_read, apart_after, digits_there}
use Rattle.polcert_text.proofs.Scanning.Runs.{ends_within}
use Rattle.polcert_text.proofs.front_numerals.ended_digits.Goals as goal

pub returns : goal.returns
returns c =
    let bs = c.args.bytes.now in
    let n = c.whole_digits-value.result.1 in
    let read = c.whole_digits-value.ensures in
    let stops = c.ends_numeral.ensures c.if-not-ends_numeral.false in
    let inside : n < length bs = omega (arith, read.within) in
    record {
      digit = read.digits 0 (omega arith) (omega arith);
      ends = ends_within bs n Whole Numeral inside (whole_read bs n (omega arith) (omega arith) read.digits) refl refl stops.whole;
      short = omega (arith, read.within);
      apart = apart_after bs n inside stops.apart;
      digits = digits_there bs n (omega arith) (omega arith) read.digits;
      value = sym read.value;
    }
