use Rattle.std.proofs.Common.{refl, arith}
use Rattle.polcert_text.proofs.Numbers.FrontSizes.{none_yet}
use Rattle.polcert_text.proofs.front_numerals.no_tail.Goals as goal

pub returns : goal.returns
returns c = λ full.
    record {
      low = omega arith;
      high = omega arith;
      stops = c.other_ends_numeral.ensures c.if-not-other_ends_numeral.false;
      none = λ _. refl;
      short = omega arith;
      digits = λ k low below. absurd (omega (arith, low, below));
      is_inexact = none_yet c.args.bytes.now c.args.from;
    }
