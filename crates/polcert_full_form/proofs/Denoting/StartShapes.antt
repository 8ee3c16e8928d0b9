-- A right start item gives shares of 0 and 1, or millionths.
use Rattle.std.proofs.Common.{◌≡◌, ◌∙◌, ℕ, ◌<◌, ◌==◌, ◌||◌, ◌&&◌, ◌⊎◌, inl, Bool, true, false, cond, List, [], ◌∷◌, map, refl, ap}
use Rattle.std.proofs.Common.{arith}
use Rattle.polcert_full_form.proofs.Common.{list_all, range_with_len, sum-map, Lexeme, Elements, StartWeights, one, count_of, equal_weights}
use Rattle.polcert_full_form.proofs.Common.{is_level, shares_of, IsStart, IsStartBody, is_choice, IsMillionthsStart}
use Rattle.std.specs.List.{count_by}
use Rattle.polcert_cells.specs.Start.{is_positive}
use Rattle.polcert_cells.specs.Start as starts
use Rattle.polcert_full_form.proofs.Denoting.RowEntries.{test_itself}

-- states that are the same, or millionths
abbrev pub HasShape : ℕ → StartWeights → Type 0
HasShape n start = (is_choice start ≡ true) ⊎ IsMillionthsStart n start

bit_is : (b : Bool) → (cond b 1 0 == 0 || cond b 1 0 == 1) ≡ true
bit_is b = grind arith

bits_are : {X : Type 0} (p : X → Bool) (xs : List X) → list_all (λ w. w == 0 || w == 1) (map (λ x. cond (p x) 1 0) xs) ≡ true
bits_are p [] = refl
bits_are p (x ∷ xs) = λ i. bit_is (p x) i && bits_are p xs i

bits_chosen : {X : Type 0} (p : X → Bool) (xs : List X)
    → is_choice (record { weights = map (λ x. cond (p x) 1 0) xs; total = count_by p xs }) ≡ true
bits_chosen p xs = λ i. bits_are p xs i && (ap (λ n. count_by p xs == n) (sum-map _ xs) ∙ test_itself _) i

pub alike_shape : (n m : ℕ) (picks : ℕ → Bool) → HasShape m (equal_weights n picks)
alike_shape n m picks = inl (bits_chosen _ (range_with_len 0 n))

shares_shape : (n : ℕ) (ps : List ℕ) → 1 < n → HasShape n (shares_of ps)
shares_shape n ps several = at (is_level ps) refl
  where
    at : (b : Bool) → is_level ps ≡ b → HasShape n (cond b
        (record { weights = map (λ p. cond (is_positive p) 1 0) ps; total = count_by is_positive ps })
        (record { weights = ps; total = one }))
    at true e = inl (bits_chosen _ ps)
    at false e = grind arith

body_shape : (states : Elements) (ls : List Lexeme) (start : StartWeights) → IsStartBody states ls start
    → HasShape (count_of states) start
body_shape states ls start (starts.uniform w) = alike_shape _ _ (λ s. true)
body_shape states ls start (starts.name {s = s} n e) = alike_shape _ _ _
body_shape states ls start (starts.number {s = s} m n b) = alike_shape _ _ _
body_shape states ls start (starts.only_state c n v) = grind arith
body_shape states ls start (starts.probabilities ps m n c e) = shares_shape _ ps m

pub start_shape : (states : Elements) (ls : List Lexeme) (start : StartWeights) → IsStart states ls start
    → HasShape (count_of states) start
start_shape states ls start (starts.plain c b) = body_shape _ _ _ b
start_shape states ls start (starts.include chosen w c z some) = alike_shape _ _ _
start_shape states ls start (starts.exclude chosen w c z some) = alike_shape _ _ _
