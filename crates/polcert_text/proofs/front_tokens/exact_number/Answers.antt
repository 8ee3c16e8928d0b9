use Rattle.std.proofs.Common.{◌≡◌, ◌∙◌, drop, refl}
use Rattle.std.proofs.lemmas.Int.{to_z-of_z}
use mir.Val.{SFits, to_z, of_z}
use mir.Syntax.{w64}
use Rattle.polcert_text.proofs.Numbers.FrontSizes as sizes
use Rattle.polcert_text.proofs.front_tokens.exact_number.Goals as goal

pub returns : goal.returns
returns c = λ bytes ends.
    let from = c.args.from in
    let numeral = c.args.numeral in
    let fits : SFits w64 c.signed.result = record { sfits = c.signed.type_inv } in
    let same : to_z w64 (of_z w64 c.signed.result) ≡ c.signed.result = to_z-of_z w64 c.signed.result fits in
    record {
      number = record { len = numeral.len; value = numeral.size.floor };
      ends = sizes.exact_number (drop from bytes) numeral c.if-numeral.false ends;
      len_is = refl;
      value_is = same ∙ c.signed.ensures;
    }
