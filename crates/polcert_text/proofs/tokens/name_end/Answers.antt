use Rattle.std.proofs.Common.{◌<◌, length, refl, sym, arith}
use Rattle.polcert_text.proofs.Common.{Name}
use Rattle.polcert_text.proofs.Scanning.LexemeLaws.{state_step}
use Rattle.polcert_text.proofs.tokens.name_end.Goals as goal

pub loop-at-preserved : goal.loop-at-preserved
loop-at-preserved c =
    let inside : c.loop-at.at < length c.args.bytes.now = omega arith in
    record {
      low = omega arith;
      high = omega arith;
      same = λ was.
          state_step _ _ Name _ Name inside (c.loop-at.invariant.same was) refl
          (sym (c.continues_name.ensures.on c.if-continues_name.true));
    }
