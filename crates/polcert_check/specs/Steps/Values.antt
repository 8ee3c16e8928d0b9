-- Helper definitions of private functions: the values of a node at end states, and what it expects at a start state. Nobody has to
-- believe them.
use Rattle.std.specs.Prelude.{◌≡◌, ℕ, ℤ, ◌*◌, ◌^◌, ◌<◌, ◌≤◌, pos, unsigned_abs, true, false, None, slice_index_or}
use Rattle.polcert_check.specs.Horizon.{Controller, total_below}
use Rattle.polcert_check.specs.Steps.Factored.{factored_value, factored_value_at_end, IsLeastOf, Misses}
use Rattle.polcert_check.specs.declared.end_values.PartialValue.{PartialValue}
use Rattle.polcert_check.specs.declared.ends.EndValues.{EndValues}

-- the value of node n at end state e, and the least observation there for which it has no successor
pub record IsEndValue (c : Controller) (n e : ℕ) (part : PartialValue) : Type 0 where
  pub value : part.value ≡ factored_value_at_end c n e
  pub missing : IsLeastOf (Misses c n e c.cells.observations) part.missing

-- the value of node n at end state e, where n has a successor for each observation
abbrev pub IsCompleteValue : Controller → ℕ → ℕ → ℤ → Type 0
IsCompleteValue c n e value = IsEndValue c n e (record { value = value; missing = None })

-- the values of node n at the first end states, as far as a state reaches them: in 64 bits, with their sum, or as far as n lacks no
-- successor there
pub record AreEndValues (c : Controller) (n count : ℕ) (ends : EndValues) : Type 0 where
  pub narrow : ends.are_narrow ≡ true → (s e : ℕ) → s < c.cells.states → e < count → 0 < c.cells.t (c.action n) s e → IsCompleteValue c n e (slice_index_or ends.narrow e (pos 0))
  pub total : ends.are_narrow ≡ true → ends.total ≡ total_below (λ i. slice_index_or ends.narrow i (pos 0)) count
  pub small : ends.are_narrow ≡ true → unsigned_abs ends.total ≤ count * 2 ^ 63
  pub complete : ends.are_narrow ≡ false → (s e : ℕ) → s < c.cells.states → e < count → 0 < c.cells.t (c.action n) s e → slice_index_or ends.lacks_successor e false ≡ false → IsCompleteValue c n e (slice_index_or ends.values e (pos 0))
  pub none : ends.are_narrow ≡ false → ends.lacks_any ≡ false → (s e : ℕ) → s < c.cells.states → e < count → 0 < c.cells.t (c.action n) s e → slice_index_or ends.lacks_successor e false ≡ false

-- observation z can be received in one of the end states before `count`, and n has no successor for it
abbrev pub IsMissedBefore : Controller → ℕ → ℕ → ℕ → ℕ → Type 0
IsMissedBefore c n s count z = (e : ℕ) × (e < count) × (0 < c.cells.t (c.action n) s e) × Misses c n e c.cells.observations z

-- what node n expects at state s, and the least observation there for which it has no successor
pub record IsExpectedValue (c : Controller) (n s : ℕ) (sum : PartialValue) : Type 0 where
  pub value : sum.value ≡ factored_value c n s
  pub missing : IsLeastOf (IsMissedBefore c n s c.cells.states) sum.missing
