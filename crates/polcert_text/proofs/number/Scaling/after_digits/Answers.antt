use Rattle.std.proofs.Common.{arith}
use Rattle.std.proofs.lemmas.List.{take_all}
use Rattle.polcert_text.proofs.Numbers.NumberLaws.{scaled_through}
use Rattle.polcert_text.proofs.number.Scaling.after_digits.Goals as goal

pub loop-digit-preserved : goal.loop-digit-preserved
loop-digit-preserved c = record {
  small = c.after-scaling.ensures.small;
  scaled = λ kept front was.
      scaled_through kept front c.args.digits.now c.loop-digit.digit-index _ (omega arith)
      (c.after-scaling.ensures.scaled kept _ (c.loop-digit.invariant.scaled kept front was));
}

pub returns-clause-scaled : goal.returns-clause-scaled
returns-clause-scaled c = grind (arith, take_all)
