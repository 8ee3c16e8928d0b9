use Rattle.std.proofs.Common.{◌<◌, length, arith}
use Rattle.polcert_text.proofs.Numbers.FrontNumbers.{apart_after}
use Rattle.polcert_text.proofs.Numbers.NumeralParts.{IsCutAt, begins, numeral_ends, whole_part, fraction_part, exponent_part, some_digit}
use Rattle.polcert_text.proofs.numeral_ends.ended_numeral.Goals as goal

pub returns : goal.returns
returns c =
    let bs = c.args.bytes.now in
    let p = c.digits_end_until-point.result in
    let m = c.mantissa_end-mantissa.result in
    let n = c.in-Some.end in
    let first = c.digits_end_until-point.ensures in
    let second = c.mantissa_end-mantissa.ensures in
    let third = c.in-Some.ensures in
    let stops = c.ends_numeral.ensures c.if-not-ends_numeral.false in
    let inside : n < length bs = omega (arith, third.within.1) in
    let cut : IsCutAt bs p m n = record {
      some = some_digit p m (omega (arith, second.within.0)) second.within.0;
      low = second.within.0;
      high = third.within.0;
      inside = inside;
      first = first.digits;
      point = second.point;
      second = second.digits;
      mark = third.mark;
    } in
    let ends = numeral_ends bs p m n cut third.read stops in
    record {
      begins = begins bs p m n cut;
      within = ends.0;
      short = omega (arith, third.within.1);
      apart = apart_after bs n inside stops.apart;
      numeral = ends.1;
      whole = whole_part bs p m n cut;
      fraction = fraction_part bs p m n cut;
      exponent = exponent_part bs p m n cut;
      in_order = (cut.low, cut.high);
    }
