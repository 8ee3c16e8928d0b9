use Rattle.std.proofs.Common.{◌∙◌, sym, ap, arith}
use Rattle.std.proofs.lemmas.List.{take_all}
use Rattle.polcert_text.proofs.Common.{state_through, Start}
use Rattle.polcert_text.proofs.Scanning.LexemeLaws.{state_step}
use Rattle.polcert_text.proofs.Numbers.NumberLaws.{numeral_at_state}
use Rattle.polcert_text.proofs.number.is_numeral.Goals as goal

pub loop-byte-preserved : goal.loop-byte-preserved
loop-byte-preserved c = grind (arith, state_step)

pub returns : goal.returns
returns c =
    let all = take_all c.loop-byte.byte-index c.args.bytes.now (omega arith) in
    c.is_numeral.ensures ∙ numeral_at_state c.args.bytes.now _ (ap (state_through Start) (sym all) ∙ c.loop-byte.invariant)
