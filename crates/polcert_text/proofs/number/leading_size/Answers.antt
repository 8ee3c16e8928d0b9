use Rattle.std.proofs.Common.{◌∙◌, ◌*◌, ◌^◌, ◌++◌, min, take, ap, arith}
use Rattle.polcert_text.proofs.Common.{digits_value, size_cap}
use Rattle.polcert_text.proofs.Numbers.SizeLaws.{scaled_none}
use Rattle.polcert_text.proofs.number.leading_size.Goals as goal

pub returns-clause-floor : goal.returns-clause-floor
returns-clause-floor c =
    let kept = c.args.kept in
    let digits = c.args.whole.now ++ c.args.fraction.now in
    let scaled = c.after_digits-scaling.ensures.scaled kept c.args.whole.now (c.after_digits.ensures.scaled kept _ (scaled_none kept)) in
    c.with_zeros.ensures (digits_value 10 (take kept digits)) scaled.floor
    ∙ ap (λ n. min size_cap (digits_value 10 (take kept digits) * 10 ^ n)) scaled.left

pub returns-clause-is_inexact : goal.returns-clause-is_inexact
returns-clause-is_inexact c =
    (c.after_digits-scaling.ensures.scaled c.args.kept c.args.whole.now
    (c.after_digits.ensures.scaled c.args.kept _ (scaled_none c.args.kept))).is_inexact

pub returns-clause-small : goal.returns-clause-small
returns-clause-small c =
    let kept = c.args.kept in
    let digits = c.args.whole.now ++ c.args.fraction.now in
    let scaled = c.after_digits-scaling.ensures.scaled kept c.args.whole.now (c.after_digits.ensures.scaled kept _ (scaled_none kept)) in
    omega (arith, c.with_zeros.ensures (digits_value 10 (take kept digits)) scaled.floor)
