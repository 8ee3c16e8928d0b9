use Rattle.std.proofs.Common.{inr, sym, arith}
use Rattle.polcert_text.specs.declared.tokens.State.TheVariants.{Mark, Sign}
use Rattle.polcert_text.proofs.Scanning.LexemeLaws.{state_step}
use Rattle.polcert_text.proofs.Numbers.NumeralParts.{sign_after_mark}
use Rattle.polcert_text.proofs.numeral_ends.sign_end.Goals as goal

pub returns-in-Some-clause-read : goal.returns-in-Some-clause-read
returns-in-Some-clause-read c = λ mark. inr (state_step c.args.bytes.now c.args.from Mark _ Sign (omega arith) mark
    (sym c.in-Some.ensures) (sym (sign_after_mark _)))
