use Rattle.std.proofs.Common.{◌≡◌, ℕ, ◌∙◌, ◌≤◌, List, [], ◌∷◌, length, arith}
use Rattle.polcert_text.proofs.Common.{list_all, is_digit, are_digits}
use Rattle.polcert_text.proofs.number.are_digits.Goals as goal

some_digits : (bs : List ℕ) → 1 ≤ length bs → list_all is_digit bs ≡ are_digits bs
some_digits [] h = absurd (omega (arith, h))
some_digits (b ∷ bs) h = grind arith

pub returns-in_default : goal.returns-in_default
returns-in_default c = c.all_digits.ensures ∙ some_digits _ c.in_default.len_at_least
