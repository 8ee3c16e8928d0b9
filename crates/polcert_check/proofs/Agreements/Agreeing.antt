-- Values that agree at all nodes and states pass alike.
use Rattle.std.proofs.Common.{◌≡◌, ℕ, ◌<◌, ℤ, pos, ◌+ℤ◌, ◌≤ℤ◌, Option, Some, sym, refl, subst, neg_ℤ, arith}
use Rattle.polcert_check.proofs.Common.{CellTable, PolicyGraph, PolicyVectors, value_of, Controller, controller_of, short, Passes}
use Rattle.polcert_check.proofs.Common.{IsClosed, IsController, lowered_by}
use Rattle.polcert_check.specs.Horizon.{Fits}
use Rattle.polcert_check.proofs.Sums.SumLaws.{sum_below_same}
use Rattle.polcert_check.proofs.Horizons.Kept.{backing_term}

abbrev pub with_values : Controller → (ℕ → ℕ → ℤ) → Controller
with_values c value = record c { value = value }

abbrev pub Agrees : Controller → (ℕ → ℕ → ℤ) → Type 0
Agrees c value = (n s : ℕ) → n < c.nodes → s < c.cells.states → value n s ≡ c.value n s

module _ (c : Controller) where
  term_same : (value : ℕ → ℕ → ℤ) (n s e z : ℕ) → ((m : ℕ) → c.next n z ≡ Some m → value m e ≡ c.value m e) → (at : Option ℕ)
      → c.next n z ≡ at → backing_term (with_values c value) n s e z at ≡ backing_term c n s e z at
  term_same value n s e z h1 at h2 = grind arith

  short_same : IsClosed c → (value : ℕ → ℕ → ℤ) → Agrees c value → (n s : ℕ) → n < c.nodes → s < c.cells.states
      → short (with_values c value) n s ≡ short c n s
  short_same p value agrees n s nl sl =
      rw (
        agrees n s nl sl,
        (sum_below_same _ _ c.cells.states
            (λ e el. sum_below_same _ _ c.cells.observations (λ z zl. term_same value n s e z
            (λ m is. agrees m e (p.next_in_range n z m nl zl is) el) (c.next n z) refl))),
      ) refl

  pub passes_alike : IsClosed c → (value : ℕ → ℕ → ℤ) → Agrees c value → Passes c → Passes (with_values c value)
  passes_alike p value agrees passes n s nl sl =
      record {
        lacks_none = (passes n s nl sl).lacks_none;
        not_short = subst (λ x. x ≤ℤ pos 0) (sym (short_same p value agrees n s nl sl)) (passes n s nl sl).not_short;
      }

-- the least constant's vectors pass
pub shifted_passes : (t : CellTable) (g : PolicyGraph) (v w : PolicyVectors) → Fits t g v → IsController (controller_of t g v) → (by : ℕ)
    → Passes (lowered_by (controller_of t g v) by) → ((n s : ℕ) → n < v.nodes → s < v.states
    → value_of w n s ≡ value_of v n s +ℤ neg_ℤ (pos by)) → Passes (controller_of t g w)
shifted_passes t g v w fits p by passes shifted =
    passes_alike _ (record
    { actions_in_range = p.closed.actions_in_range; next_in_range = p.closed.next_in_range }) (value_of w)
    (λ n s nl sl. shifted n s (omega (arith, nl, fits.nodes_same)) (omega (arith, sl, fits.states))) passes
