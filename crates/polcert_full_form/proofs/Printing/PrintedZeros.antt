-- A zero in a line, as it is written.
use Rattle.std.proofs.Common.{◌≡◌, ◌∷◌, [], ◌==◌, ℕ, pos, if◌then◌else◌, refl, arith, codes}
use Rattle.std.specs.Fmt.{digits}
use Rattle.polcert_full_form.proofs.Common.{scaled_text, number_text}

zero_text : 48 ∷ [] ≡ scaled_text (pos 0)
unfolding digits
zero_text = refl

-- after a blank in all places but the first
pub zero_at : (place : ℕ) → (if place == 0 then codes "0" else codes " 0") ≡ number_text place (pos 0)
zero_at place = grind (arith, zero_text)
