-- The definitions at the two doors, computed, and that the policy there picks best vectors.
use Rattle.std.proofs.Common.{pos, ◌≡◌, ◌*◌, ◌^◌, ℕ, zero, suc, ◌<◌, ◌≤ℤ◌, List, [], ◌∷◌, refl, arith, sym, Some, None}
use Rattle.polcert_examples.proofs.Common.{one}
use Rattle.polcert_check.specs.Above.{PassesAbove}
use Rattle.polcert_check.specs.Shortfall.{Passes, short}
use Rattle.polcert_check.proofs.Sums.Ring.{linear, ≤ℤ_from_eq}
use Rattle.polcert_optimum.specs.Policy.{ObservationPolicy, as_policy, expected_total}
use Rattle.polcert_belief.specs.Belief.{Belief, belief_after, updated, sum_over_belief, AreModelObservations}
use Rattle.polcert_belief.specs.Following.{PicksBest, policy_of, value_at_end, worth_after}
use Rattle.polcert_examples.specs.Worked.Doors.{even_belief, one_door, other_door, seen_door, two_doors}

pub exact_0_0 : short one_door 0 0 ≡ pos 0
unfolding one
exact_0_0 = refl

pub exact_0_1 : short one_door 0 1 ≡ pos 0
unfolding one
exact_0_1 = refl

pub exact_1_0 : short one_door 1 0 ≡ pos 0
unfolding one
exact_1_0 = refl

pub exact_1_1 : short one_door 1 1 ≡ pos 0
unfolding one
exact_1_1 = refl

pub earns : sum_over_belief two_doors even_belief (λ s. expected_total two_doors (value_at_end one_door seen_door s)
    (as_policy (policy_of one_door seen_door)) 1 s) ≡ pos (3_000_000 * (4 * 10 ^ 18))
unfolding one
earns = refl

pub other_earns : sum_over_belief two_doors even_belief
    (λ s. expected_total two_doors (value_at_end one_door other_door s) (as_policy (policy_of one_door other_door)) 1 s)
    ≡ pos (1_000_000 * (4 * 10 ^ 18))
unfolding one
other_earns = refl

-- ---- the picks
-- a state that weighs nothing never weighs anything again
one_is_out : (belief : Belief) (a z : ℕ) → belief 1 ≡ 0 → updated two_doors belief a z 1 ≡ 0
one_is_out belief a z out = rw out (omega arith)

zero_is_out : (belief : Belief) (a z : ℕ) → belief 0 ≡ 0 → updated two_doors belief a z 0 ≡ 0
zero_is_out belief a z out = rw out (omega arith)

stays_out_one : (observations : List ℕ) (policy : ObservationPolicy) (belief : Belief) → belief 1 ≡ 0
    → belief_after two_doors policy belief observations 1 ≡ 0
stays_out_one [] policy belief out = out
stays_out_one (z ∷ observations) policy belief out =
    stays_out_one observations (λ rest. policy (z ∷ rest)) (updated two_doors belief (policy []) z) (one_is_out belief (policy []) z out)

stays_out_zero : (observations : List ℕ) (policy : ObservationPolicy) (belief : Belief) → belief 0 ≡ 0
    → belief_after two_doors policy belief observations 0 ≡ 0
stays_out_zero [] policy belief out = out
stays_out_zero (z ∷ observations) policy belief out =
    stays_out_zero observations (λ rest. policy (z ∷ rest)) (updated two_doors belief (policy []) z) (zero_is_out belief (policy []) z out)

best_zero : (belief : Belief) (m : ℕ) → belief 1 ≡ 0 → m < 2
    → sum_over_belief two_doors belief (one_door.value m) ≤ℤ sum_over_belief two_doors belief (one_door.value 0)
best_zero belief zero out ml = omega (arith, linear)
best_zero belief (suc zero) out ml = rw out (omega (arith, linear))
best_zero belief (suc (suc m)) out ml = absurd (omega arith)

best_one : (belief : Belief) (m : ℕ) → belief 0 ≡ 0 → m < 2
    → sum_over_belief two_doors belief (one_door.value m) ≤ℤ sum_over_belief two_doors belief (one_door.value 1)
best_one belief zero out ml = rw out (omega (arith, linear))
best_one belief (suc zero) out ml = omega (arith, linear)
best_one belief (suc (suc m)) out ml = absurd (omega arith)

picks_node : (observations : List ℕ) → seen_door observations < 2
picks_node [] = omega arith
picks_node (zero ∷ observations) = omega arith
picks_node (suc z ∷ observations) = omega arith

none_better : (observations : List ℕ) (m : ℕ) → AreModelObservations two_doors observations → m < 2
    → worth_after one_door even_belief seen_door observations m ≤ℤ worth_after one_door even_belief seen_door observations
    (seen_door observations)
none_better [] zero f ml = omega arith
none_better [] (suc zero) f ml = omega arith
none_better [] (suc (suc m)) f ml = absurd (omega arith)
none_better (zero ∷ observations) m f ml = best_zero (belief_after two_doors (λ rest. 0) (updated two_doors even_belief 0 0) observations) m
    (stays_out_one observations (λ rest. 0) (updated two_doors even_belief 0 0) refl) ml
none_better (suc zero ∷ observations) m f ml = best_one
    (belief_after two_doors (λ rest. 1) (updated two_doors even_belief 0 1) observations) m
    (stays_out_zero observations (λ rest. 1) (updated two_doors even_belief 0 1) refl) ml
none_better (suc (suc z) ∷ observations) m f ml = absurd (omega (arith, f.0))

pub picks_best : PicksBest one_door even_belief seen_door
picks_best = record { are_nodes = λ observations f. picks_node observations; none_better = none_better }

-- ---- the vectors are exact, so they pass from both sides
no_none : (n : ℕ) → Some n ≡ None → ⊥
no_none n h = cc

exact : (n s : ℕ) → n < 2 → s < 2 → short one_door n s ≡ pos 0
exact zero zero nl sl = exact_0_0
exact zero (suc zero) nl sl = exact_0_1
exact (suc zero) zero nl sl = exact_1_0
exact (suc zero) (suc zero) nl sl = exact_1_1
exact (suc (suc n)) s nl sl = absurd (omega arith)
exact zero (suc (suc s)) nl sl = absurd (omega arith)
exact (suc zero) (suc (suc s)) nl sl = absurd (omega arith)

pub passes : Passes one_door
passes n s nl sl = record { lacks_none = λ z zl lacks. no_none n lacks.0; not_short = ≤ℤ_from_eq _ _ (exact n s nl sl) }

pub passes_above : PassesAbove one_door
passes_above n s nl sl = record { lacks_none = λ z zl lacks. no_none n lacks.0; not_long = ≤ℤ_from_eq _ _ (sym (exact n s nl sl)) }
