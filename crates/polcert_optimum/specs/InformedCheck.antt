-- What a check of one vector for each action finds.
use Rattle.std.specs.Prelude.{◌≡◌, ℕ, ◌*◌, ◌<◌, ◌≤◌, unsigned_abs, ⊤, ℤ, pos, ◌<ℤ◌}
use Rattle.polcert_text.specs.Numbers.{largest}
use Rattle.polcert_cells.specs.Tables.{CellTable}
use Rattle.polcert_policy.specs.Vectors.{PolicyVectors}
use Rattle.polcert_check.specs.Horizon.{one}
use Rattle.polcert_check.specs.Verdict.{IsBefore}
use Rattle.polcert_optimum.specs.Policy.{step_scale}
use Rattle.polcert_optimum.specs.Informed.{excess, IsInformed, AreInformed, BoundEveryObservationPolicy}
use Rattle.polcert_optimum.specs.declared.verdict.InformedVerdict.{InformedVerdict}
use Rattle.polcert_optimum.specs.declared.verdict.InformedVerdict.TheVariants.{Yes, Exceeded}

-- there is a vector for each action of the model, with a value for each state
pub record FitActions (t : CellTable) (v : PolicyVectors) : Type 0 where
  pub actions : v.nodes ≡ t.actions
  pub states : v.states ≡ t.states

-- the informed inequality holds at every action and state before a and s, by action and then by state
abbrev pub AreInformedBefore : CellTable → (ℕ → ℕ → ℤ) → ℕ → ℕ → Type 0
AreInformedBefore t vectors a s = (b u : ℕ) → b < t.actions → u < t.states → IsBefore b u a s → IsInformed t vectors b u

-- Yes if the informed inequality holds at every action and state, else the first action and state where it fails, and by how much
-- the informed backup there is above the action's vector.
abbrev pub IsInformedVerdict : CellTable → (ℕ → ℕ → ℤ) → InformedVerdict → Type 0
IsInformedVerdict t vectors Yes = AreInformed t vectors
IsInformedVerdict t vectors (Exceeded a s amount) = (a < t.actions) × (s < t.states) × AreInformedBefore t vectors a s × (amount ≡ excess t vectors a s) × (pos 0 <ℤ amount)

-- No excess is larger in size, if rewards and values are within `largest`: each of the expected reward, the discounted expected
-- value and the vector's value is at most one `largest` on this scale.
abbrev pub most_excess : CellTable → ℕ
most_excess t = 3 * (step_scale t * one * largest)

-- the amount that a verdict names, if any, is no larger than an excess can be
abbrev pub NamesSmallExcess : CellTable → InformedVerdict → Type 0
NamesSmallExcess t Yes = ⊤
NamesSmallExcess t (Exceeded a s amount) = unsigned_abs amount ≤ most_excess t

-- A yes bounds every policy that sees the observations alone, with the vectors at the end, and a no says that the vectors don't.
abbrev pub MeetsInformedPromise : CellTable → (ℕ → ℕ → ℤ) → InformedVerdict → Type 0
MeetsInformedPromise t vectors Yes = BoundEveryObservationPolicy t vectors
MeetsInformedPromise t vectors (Exceeded a s amount) = BoundEveryObservationPolicy t vectors → ⊥
