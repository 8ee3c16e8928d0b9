use Rattle.std.proofs.Common.{◌≡◌, ◌∙◌, sym, ap, subst}
use Rattle.std.proofs.lemmas.Int.{to_z-of_z}
use mir.Val.{SFits, to_z, of_z}
use mir.Syntax.{w64}
use Rattle.polcert_text.proofs.Common.{signed, IsRounded, rounded, is_away}
use Rattle.polcert_text.proofs.Numbers.SignedLaws.{rounded_signed}
use Rattle.polcert_text.proofs.number.Size.value.Goals as goal

pub returns : goal.returns
returns c = λ bs measures.
    let negative = c.args.negative in
    let size = c.args.self in
    let fits : SFits w64 c.signed.result = record { sfits = c.signed.type_inv } in
    let same : to_z w64 (of_z w64 c.signed.result) ≡ signed negative (rounded (is_away c.args.rounding negative) size.floor size.is_inexact)
    = to_z-of_z w64 c.signed.result fits ∙ c.signed.ensures
    ∙ ap (signed negative) (c.rounded.ensures ∙ ap (λ up. rounded up size.floor size.is_inexact) c.is_away.ensures) in
    subst (IsRounded c.args.rounding negative bs) (sym same)
    (rounded_signed c.args.rounding bs size.floor negative size.is_inexact measures)
