use Rattle.std.proofs.Common.{refl, arith}
use Rattle.polcert_text.proofs.Numbers.FrontSizes.{none_yet}
use Rattle.polcert_text.proofs.front_numerals.tail_from.Goals as goal

pub returns-then-quick_ends_numeral : goal.returns-then-quick_ends_numeral
returns-then-quick_ends_numeral c = record {
  low = omega arith;
  high = omega arith;
  stops = c.quick_ends_numeral.ensures c.if-quick_ends_numeral.true;
  none = λ _. refl;
  short = omega arith;
  digits = λ k low below. absurd (omega (arith, low, below));
  is_inexact = none_yet c.args.bytes.now c.args.from;
}

pub returns-then-from-full : goal.returns-then-from-full
returns-then-from-full c = c.no_tail.ensures c.args.full

pub returns : goal.returns
returns c =
    let tail = c.long_tail-tail.ensures in
    record {
      low = tail.within.0;
      high = omega (arith, tail.within.1);
      stops = c.ends_numeral.ensures c.if-not-ends_numeral.false;
      none = λ below. absurd (omega (arith, below));
      short = omega arith;
      digits = tail.digits;
      is_inexact = tail.is_inexact;
    }
