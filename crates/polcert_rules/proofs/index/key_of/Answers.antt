use Rattle.std.proofs.Common.{◌≤◌, subst, List, [], ◌∷◌, length, arith}
use Rattle.polcert_rules.proofs.Common.{Place, entry_of, AreDigits, most_places}
use Rattle.polcert_rules.proofs.index.key_of.Goals as goal

few : (ps : List Place) → AreDigits most_places ps → 5 ≤ length ps → ⊥
few [] digits l = omega arith
few (p ∷ []) digits l = omega arith
few (p ∷ q ∷ []) digits l = omega arith
few (p ∷ q ∷ r ∷ []) digits l = omega arith
few (p ∷ q ∷ r ∷ s ∷ []) digits l = omega arith
few (p ∷ q ∷ r ∷ s ∷ t ∷ ps) digits l = digits.1.1.1.1

pub returns-in_default-2 : goal.returns-in_default-2
returns-in_default-2 c = absurd (few (entry_of c.args.entry).places c.requires
    (subst (λ ps. 5 ≤ length ps) c.as_slice.ensures c.in_default.len_at_least))
