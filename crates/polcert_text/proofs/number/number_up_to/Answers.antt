use Rattle.std.proofs.Common.{arith, rules}
use Rattle.polcert_text.proofs.Numbers.NumberLaws.{number_step, digit_at, digit_from}
use Rattle.polcert_text.proofs.number.number_up_to.Goals as goal

pub overflow_sub-digit : goal.overflow_sub-digit
overflow_sub-digit c = search (rules, digit_at, digit_from)

pub loop-digit-preserved : goal.loop-digit-preserved
loop-digit-preserved c =
    record {
      value = number_step c.args.most c.args.digits.now c.loop-digit.digit-index c.loop-digit.number _ (omega arith) c.requires.digits
          (omega arith) c.loop-digit.invariant.value c.min-number.ensures;
      small = omega (arith, c.min-number.ensures);
    }
