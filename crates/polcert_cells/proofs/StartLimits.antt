-- A start has a share for each state, and the shares add up to their total, which is above 0 and at most one.
use Rattle.std.proofs.Common.{◌≡◌, ◌∙◌, ℕ, zero, suc, ◌+◌, ◌<◌, ◌≤◌, ◌==◌, Bool, true, false, cond, ◌⊎◌, ⊎_elim, Some, List, [], ◌∷◌}
use Rattle.std.proofs.Common.{length, map, sum, not, refl, sym, ap, subst, arith}
use Rattle.polcert_cells.proofs.Common.{length-map, nat_tests, range_with_len, Lexeme, Elements, count_of, StartWeights, equal_weights}
use Rattle.polcert_cells.proofs.Common.{shares_of, IsStartBody, uniform, name, number, only_state, probabilities, IsStart}
use Rattle.std.proofs.lemmas.List.FromFn.{length-map-range_with_len}
use Rattle.std.proofs.lemmas.List.Sums.{sum_by-cons, sum-map}
use Rattle.std.specs.List.{count_by}
use Rattle.polcert_cells.specs.Elements.{number_of, most_states}
use Rattle.polcert_cells.specs.Start.{is_level, is_positive, included, excluded, plain, include, exclude}

-- shares of n states
pub record IsFair (n : ℕ) (shares : StartWeights) : Type 0 where
  pub count : length shares.weights ≡ n
  pub adds_up : sum shares.weights ≡ shares.total
  pub some : 0 < shares.total
  pub most : shares.total ≤ 1_000_000

sum-cons : (x : ℕ) (xs : List ℕ) → sum (x ∷ xs) ≡ x + sum xs
sum-cons x xs = sum_by-cons (λ y. y) x xs

abbrev bit : Bool → ℕ
bit b = cond b 1 0

bit_le : (b : Bool) → bit b ≤ 1
bit_le b = grind arith

bit_true : (b : Bool) → b ≡ true → bit b ≡ 1
bit_true b e = ap bit e

bits_le : (f : ℕ → Bool) (a n : ℕ) → sum (map (λ s. bit (f s)) (range_with_len a n)) ≤ n
bits_le f a zero = omega arith
bits_le f a (suc n) = grind (arith, sum-cons, bit_le, bits_le f (a + 1) n)

here_or_later : (a s n : ℕ) → a ≤ s → s < a + suc n → (s ≡ a) ⊎ ((a + 1 ≤ s) × (s < a + 1 + n))
here_or_later a s n l m = grind arith

bits_some : (f : ℕ → Bool) (a n s : ℕ) → f s ≡ true → a ≤ s → s < a + n → 0 < sum (map (λ s. bit (f s)) (range_with_len a n))
bits_some f a zero s e l m = absurd (omega (arith, l, m))
bits_some f a (suc n) s e l m =
    let sums = sum-cons (bit (f a)) (map (λ s. bit (f s)) (range_with_len (a + 1) n)) in
    ⊎_elim (λ (same : s ≡ a). let here : bit (f a) ≡ 1 = bit_true (f a) (sym (ap f same) ∙ e) in omega (arith, here, sums))
    (λ (later : (a + 1 ≤ s) × (s < a + 1 + n)). let rest = bits_some f (a + 1) n s e later.0 later.1 in omega (arith, rest, sums))
    (here_or_later a s n l m)

alike_sum : (n : ℕ) (picks : ℕ → Bool) → sum (equal_weights n picks).weights ≡ (equal_weights n picks).total
alike_sum n picks = sum-map (λ s. bit (picks s)) (range_with_len 0 n)

alike_fair : (n : ℕ) (picks : ℕ → Bool) → n ≤ most_states → 0 < (equal_weights n picks).total → IsFair n (equal_weights n picks)
alike_fair n picks l some =
    let le = bits_le picks 0 n in
    let e = alike_sum n picks in
    record { count = length-map-range_with_len (λ s. bit (picks s)) 0 n; adds_up = e; some = some; most = omega (arith, le, e) }

alike_some : (n : ℕ) (picks : ℕ → Bool) (s : ℕ) → n ≤ most_states → picks s ≡ true → s < n → IsFair n (equal_weights n picks)
alike_some n picks s l e below =
    let some = bits_some picks 0 n s e (omega arith) (omega (arith, below)) in
    let adds = alike_sum n picks in
    alike_fair n picks l (omega (arith, some, adds))

same_index : (s : ℕ) → (s == s) ≡ true
same_index s = grind (arith, nat_tests)

-- 1 for each that is above 0
abbrev sign : ℕ → ℕ
sign p = cond (is_positive p) 1 0

choice_le : (b : Bool) → cond (not b) 1 0 ≤ 1
choice_le b = grind arith

sign_le : (p : ℕ) → sign p ≤ 1
sign_le p = choice_le (p == 0)

not_zero : (p : ℕ) → 0 < p → (p == 0) ≡ false
not_zero p l = grind (arith, nat_tests)

sign_some : (p : ℕ) → 0 < p → sign p ≡ 1
sign_some p l = ap (λ b. cond (not b) 1 0) (not_zero p l)

signs_le : (ps : List ℕ) → sum (map sign ps) ≤ length ps
signs_le [] = omega arith
signs_le (p ∷ ps) = grind (arith, sum-cons, sign_le, signs_le ps)

zero_or_more : (p : ℕ) → (p ≡ 0) ⊎ (0 < p)
zero_or_more p = grind arith

signs_some : (ps : List ℕ) → 0 < sum ps → 0 < sum (map sign ps)
signs_some [] l = absurd (omega (arith, l))
signs_some (p ∷ ps) l =
    let sums = sum-cons p ps in
    let signs = sum-cons (sign p) (map sign ps) in
    ⊎_elim (λ (none : p ≡ 0). let rest = signs_some ps (omega (arith, l, sums, none)) in omega (arith, rest, signs))
    (λ (some : 0 < p). let here = sign_some p some in omega (arith, here, signs))
    (zero_or_more p)

abbrev level_shares : List ℕ → StartWeights
level_shares ps = record { weights = map sign ps; total = count_by is_positive ps }

abbrev millionth_shares : List ℕ → StartWeights
millionth_shares ps = record { weights = ps; total = 1_000_000 }

shares_fair : (ps : List ℕ) → length ps ≤ most_states → sum ps ≡ 1_000_000 → (level : Bool)
    → IsFair (length ps) (cond level (level_shares ps) (millionth_shares ps))
shares_fair ps l e true =
    let le = signs_le ps in
    grind (arith, length-map, sum-map, signs_some)
shares_fair ps l e false = record { count = refl; adds_up = e; some = omega arith; most = omega arith }

named_below : (states : Elements) (bytes : List ℕ) (s : ℕ) → number_of states bytes ≡ Some s → s < count_of states
named_below states bytes s h1 = grind arith

body_fair : (states : Elements) (ls : List Lexeme) (x : StartWeights) → 1 ≤ count_of states → count_of states ≤ most_states
    → IsStartBody states ls x → IsFair (count_of states) x
body_fair states ls x a m (uniform w) = alike_some (count_of states) (λ s. true) 0 m refl (omega (arith, a))
body_fair states ls x a m (name {s = s} n e) = alike_some (count_of states) (λ n. n == s) s m (same_index s) (named_below states _ s e)
body_fair states ls x a m (number {s = s} more n below) = alike_some (count_of states) (λ n. n == s) s m (same_index s) below
body_fair states ls x a m (only_state e n v) = alike_some (count_of states) (λ s. true) 0 m refl (omega (arith, a))
body_fair states ls x a m (probabilities ps more n count e) =
    subst (λ n. IsFair n (shares_of ps)) count (shares_fair ps (subst (λ n. n ≤ most_states) (sym count) m) e (is_level ps))

pub start_fair : (states : Elements) (ls : List Lexeme) (x : StartWeights) → 1 ≤ count_of states → count_of states ≤ most_states
    → IsStart states ls x → IsFair (count_of states) x
start_fair states ls x a m (plain c b) = body_fair states _ x a m b
start_fair states ls x a m (include chosen w c z some) = alike_fair (count_of states) (included chosen) m some
start_fair states ls x a m (exclude chosen w c z some) = alike_fair (count_of states) (excluded chosen) m some

pub no_start_fair : (n : ℕ) → 1 ≤ n → n ≤ most_states → IsFair n (equal_weights n (λ s. true))
no_start_fair n a m = alike_some n (λ s. true) 0 m refl (omega (arith, a))
