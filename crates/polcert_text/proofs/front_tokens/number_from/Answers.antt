use Rattle.std.proofs.Common.{subst}
use Rattle.polcert_text.proofs.Common.{take_rest, EndsAsSize}
use Rattle.polcert_text.proofs.front_tokens.number_from.Goals as goal

pub returns-in-Some : goal.returns-in-Some
returns-in-Some c =
    let ends = subst (λ xs. EndsAsSize xs c.in-Some.numeral) (take_rest c.args.bytes.now c.args.from) c.in-Some.ensures in
    c.exact_number.ensures c.args.bytes.now ends
