-- Start states that have the same row of T.
use Rattle.std.proofs.Common.{◌≡◌, ◌∙◌, ℕ, ◌<◌, pos, ◌*ℤ◌, ap, sym, subst}
use Rattle.polcert_check.proofs.Common.{Controller, factored_value_at_end}
use Rattle.polcert_check.specs.Steps.Values.{IsExpectedValue}
use Rattle.polcert_check.specs.declared.end_values.PartialValue.{PartialValue}
use Rattle.polcert_check.proofs.Sums.SumLaws.{sum_below_same}
use Rattle.polcert_check.proofs.Walking.Missing.{least_same}

-- what a node expects at one of two states with the same row, it expects at the other
pub expected_same : (c : Controller) (n s t : ℕ) (x : PartialValue)
    → ((e : ℕ) → e < c.cells.states → c.cells.t (c.action n) s e ≡ c.cells.t (c.action n) t e) → IsExpectedValue c n s x
    → IsExpectedValue c n t x
expected_same c n s t x same is = record {
  value = is.value ∙ sum_below_same _ _ _ (λ e l. ap (λ w. pos w *ℤ factored_value_at_end c n e) (same e l));
  missing = least_same _ _ x.missing is.missing
      (λ z m. (m.0, m.1, subst (λ w. 0 < w) (sym (same m.0 m.1)) m.2, m.3))
      (λ z m. (m.0, m.1, subst (λ w. 0 < w) (same m.0 m.1) m.2, m.3));
}
