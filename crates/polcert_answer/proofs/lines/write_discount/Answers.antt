use Rattle.std.proofs.Common.{◌≡◌, ◌∙◌, ◌<◌, ◌^◌, ℕ, pos, ap, arith, rules, to_z, w64}
use Rattle.std.proofs.lemmas.Int.{to_z_pos}
use Rattle.polcert_answer.proofs.Common.{scaled_text, meaning}
use Rattle.polcert_answer.specs.Lines.{earnings_word}
use Rattle.polcert_text.proofs.Printing.Written.{and_then, unwritten, stopped}
use Rattle.polcert_answer.proofs.lines.write_discount.Goals as goal

-- a small number keeps its value where it is cast
widened : (n m : ℕ) → n < 2 ^ 32 → n ≡ m → to_z w64 n ≡ pos m
widened n m small same = to_z_pos w64 n (omega arith) ∙ ap pos same

pub returns-in_err-write_all : goal.returns-in_err-write_all
returns-in_err-write_all g c =
    let m = meaning c.args.model.now in
    stopped (search rules) (unwritten (earnings_word m.preamble.costs)
    (unwritten (scaled_text (pos m.preamble.discount)) c.in_err-write_all.ensures))

pub returns-in_err-write_scaled : goal.returns-in_err-write_scaled
returns-in_err-write_scaled g c =
    let same = widened c.discount.result (meaning c.args.model.now).preamble.discount (search rules) c.discount.ensures in
    stopped (search rules) (unwritten _ (and_then c.in_ok-write_all.ensures (rw same at c.in_err-write_scaled.ensures.written)))

pub returns : goal.returns
returns g c =
    let same = widened c.discount.result (meaning c.args.model.now).preamble.discount (search rules) c.discount.ensures in
    and_then (and_then c.in_ok-write_all.ensures (rw same at c.in_ok-write_scaled.ensures.written))
    (rw (c.earnings_word.ensures, c.is_cost.ensures) at c.write_all-2.ensures)
