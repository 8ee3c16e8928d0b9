-- Full forms, computed.
use Rattle.std.proofs.Common.{◌≡◌, [], ◌∷◌, codes, decimal, true, false, arith}
use Rattle.std.proofs.lemmas.Fmt.{decimal_digit}
use Rattle.polcert_text.specs.Millionths.{decimals}
use Rattle.polcert_format.specs.FullForm.{full_form}
use Rattle.polcert_examples.specs.Worked.FullFormExamples.{two_states, two_states_form}

zero_is : decimal 0 ≡ 48 ∷ []
zero_is = decimal_digit 0 (omega arith)

one_is : decimal 1 ≡ 49 ∷ []
one_is = decimal_digit 1 (omega arith)

two_is : decimal 2 ≡ 50 ∷ []
two_is = decimal_digit 2 (omega arith)

pub two_states_is : full_form (two_states false) ≡ two_states_form (codes "reward")
unfolding decimals
two_states_is = simp (zero_is, one_is, two_is)

pub two_states_costs_is : full_form (two_states true) ≡ two_states_form (codes "cost")
unfolding decimals
two_states_costs_is = simp (zero_is, one_is, two_is)
