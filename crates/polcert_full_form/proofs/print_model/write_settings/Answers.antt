use Rattle.std.proofs.Common.{◌≡◌, ◌<◌, ◌^◌, ℕ, pos, rules, arith}
use Rattle.polcert_full_form.proofs.Common.{scaled_text}
use Rattle.polcert_text.proofs.Printing.Written.{and_then, unwritten, stopped, as_text}
use mir.Syntax.{w64}
use mir.Val.{to_z}
use Rattle.polcert_full_form.proofs.print_model.write_settings.Goals as goal

-- a small number is printed as it is where it is cast
widened : (n m : ℕ) → n < 2 ^ 32 → n ≡ m → scaled_text (to_z w64 n) ≡ scaled_text (pos m)
widened n m small same = grind arith

pub returns-in_err-write_all : goal.returns-in_err-write_all
returns-in_err-write_all g c =
    stopped (search rules) (unwritten _
    (unwritten _ (unwritten (scaled_text (pos _)) c.in_err-write_all.ensures)))

pub returns-in_err-write_scaled : goal.returns-in_err-write_scaled
returns-in_err-write_scaled g c =
    stopped (search rules) (unwritten _
    (unwritten _ (and_then c.in_ok-write_all.ensures (as_text (widened _ _ (search rules) c.discount.ensures)
    c.in_err-write_scaled.ensures.written))))

pub returns-in_err-write_all-2 : goal.returns-in_err-write_all-2
returns-in_err-write_all-2 g c =
    stopped (search rules) (unwritten _
    (and_then (and_then c.in_ok-write_all.ensures (as_text (grind arith) c.in_ok-write_scaled.ensures.written))
    c.in_err-write_all-2.ensures))

pub returns : goal.returns
returns g c =
    let discount = as_text (grind arith) c.in_ok-write_scaled.ensures.written in
    and_then (and_then (and_then c.in_ok-write_all.ensures discount) c.in_ok-write_all-2.ensures)
    (grind arith)
