use Rattle.std.proofs.Common.{arith}
use Rattle.polcert_robust_answer.specs.Lines.{line_text}
use Rattle.polcert_robust_answer.proofs.runs.write_near_answer.Goals as goal

pub returns-in-Ok-clause-answered : goal.returns-in-Ok-clause-answered
returns-in-Ok-clause-answered g c =
    record {
      took = (
        line_text c.args.within.now c.line.result,
        record
            { verdict_is = c.check-verdict.ensures.verdict; horizon_is = c.check-verdict.ensures.horizon; line_is = c.line.ensures },
        c.in-Ok.ensures.ok,
      );
      begun = λ failed. absurd (cc);
    }

pub returns-in-Err-clause-answered : goal.returns-in-Err-clause-answered
returns-in-Err-clause-answered g c = grind arith
