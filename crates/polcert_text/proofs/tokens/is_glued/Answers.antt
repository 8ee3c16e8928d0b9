use Rattle.std.proofs.Common.{◌∙◌, not, ap, sym, arith}
use Rattle.polcert_text.proofs.Common.{is_glued}
use Rattle.polcert_text.proofs.Numbers.FrontNumbers.{blank_after}
use Rattle.polcert_text.proofs.tokens.is_glued.Goals as goal

pub returns-else-not-quick_is_blank : goal.returns-else-not-quick_is_blank
returns-else-not-quick_is_blank c =
    let rest = c.args.rest.now in
    ap not c.if-not-quick_is_blank.false
    ∙ sym (blank_after rest 0 (omega arith) (c.quick_is_blank.ensures c.if-not-quick_is_blank.false))
    ∙ ap (λ kind. is_glued kind rest) (sym c.in-Numeral-len1-up.is-0)
