-- What entries of T and O give, by their forms.
use Rattle.std.proofs.Common.{◌≡◌, ℕ, ◌≤◌, ◌==◌, true, false, List, [], ◌∷◌, length, All, refl, arith}
use Rattle.polcert_rules.proofs.Common.{list_any, All-head, Table, Place, Body, Probabilities, Entry, forms, weight_of, one, Preamble}
use Rattle.polcert_rules.proofs.Common.{IsWeighted, Fills, IsSoundEntry, Shape, FitsShape, entry_weight, IsShapeOf}
use Rattle.polcert_cells.specs.declared.entries.Body.TheVariants.{Rewards, Uniform, Identity}

-- how many places may stand before such a body
abbrev Lens : Body → ℕ → Type 0
Lens (Probabilities ps) n = (1 ≤ n) × (n ≤ 3)
Lens Uniform n = (1 ≤ n) × (n ≤ 2)
Lens Identity n = n ≡ 1
Lens (Rewards hs) n = ⊥

lens : (t : Table) (body : Body) (n : ℕ) → IsWeighted t → list_any (λ k. k == n) (forms false t body) ≡ true → Lens body n
lens t body n h1 h2 = grind arith

-- ---- what an entry gives
pub given_is : (p : Preamble) (table : Table) (shape : Shape) (e : Entry) (a s c : ℕ) → IsWeighted table → IsShapeOf p table shape
    → e.table ≡ table
    → list_any (λ n. n == length e.places) (forms false e.table e.body) ≡ true
    → weight_of p (a ∷ s ∷ c ∷ []) e ≡ entry_weight shape.columns e s c
given_is p table shape e a s c w is t form = grind arith

-- ---- sound entries fit the shape
pub sound_fits : (p : Preamble) (table : Table) (shape : Shape) (e : Entry) → IsWeighted table → IsShapeOf p table shape → e.table ≡ table
    → IsSoundEntry p e → FitsShape shape e
sound_fits p table shape e w is t sound = grind arith

-- ---- a single number
pub record IsOneNumber (body : Body) : Type 0 where
  pub written : ℕ
  pub is : body ≡ Probabilities (written ∷ [])
  pub small : written ≤ one

only_one : (ps : List ℕ) → length ps ≡ 1 → All (λ p. p ≤ one) ps → IsOneNumber (Probabilities ps)
only_one [] e all = absurd (omega arith)
only_one (p ∷ []) e all = record { written = p; is = refl; small = All-head (λ p. p ≤ one) p [] all }
only_one (p ∷ q ∷ ps) e all = absurd (omega arith)

one_number : (body : Body) → Lens body 3 → Fills 1 body → IsOneNumber body
one_number body h1 h2 = grind (arith, only_one)

pub single_number : (shape : Shape) (table : Table) (e : Entry) (p q r : Place) → IsWeighted table → e.table ≡ table
    → e.places ≡ p ∷ q ∷ r ∷ [] → FitsShape shape e → IsOneNumber e.body
single_number shape table e p q r w t is f = grind (arith, lens, one_number)
