-- Values with one number added to each.
use Rattle.polcert_policy.proofs.Common.{common_steps, take_more, map-append, slice_get-get_or, get_or_from_slice_get, slice_get-map}
use Rattle.polcert_policy.proofs.Common.{PolicyVectors, value_of, IsInRange, AreProper, shifted_by, CanShift}
use Rattle.std.proofs.Common.{◌≡◌, ◌∙◌, ℕ, ℤ, ◌+◌, ◌<◌, pos, Some, List, [], ◌∷◌, ◌++◌, length, map, take, slice_get, get_or, sym, ap}
use Rattle.std.proofs.Common.{subst, arith}
use Rattle.std.specs.Prelude.{◌+ℤ◌, FitsSigned, option_map}
use Rattle.std.proofs.lemmas.Int.{to_z-of_z}
use Rattle.std.proofs.lemmas.List.{length-map}
use mir.Syntax.{w64}
use mir.Val.{to_z, of_z}
use Rattle.polcert_policy.proofs.Places.{row_above, row_below, row_of, within_get}
use Rattle.polcert_policy.proofs.VectorEndLaws.{in_range_fits}

abbrev pub CanAdd : List ℤ → ℤ → Type 0
CanAdd xs by = (k : ℕ) (h : ℤ) → slice_get xs k ≡ Some h → IsInRange (h +ℤ by)

pub sum_fits : (xs : List ℤ) (i : ℕ) (d by : ℤ) → CanAdd xs by → i < length xs → FitsSigned w64 (get_or xs i d)
    → FitsSigned w64 (to_z w64 (of_z w64 (get_or xs i d)) +ℤ by)
sum_fits xs i d by can inside fits = grind (arith, slice_get-get_or, in_range_fits)

-- one more value
pub push_shifted : (xs old new : List ℤ) (i : ℕ) (d by : ℤ) → CanAdd xs by → i < length xs → FitsSigned w64 (get_or xs i d)
    → old ≡ map (λ h. h +ℤ by) (take i xs)
    → new ≡ old ++ to_z w64 (of_z w64 (to_z w64 (of_z w64 (get_or xs i d)) +ℤ by)) ∷ [] → new ≡ map (λ h. h +ℤ by) (take (i + 1) xs)
push_shifted xs old new i d by can inside fits was pushed = grind (arith, common_steps, to_z-of_z, take_more, map-append, sum_fits)

module _ (count : ℕ) (o : ℕ) (vs : List ℤ) (by : ℤ) where
  -- the condition on nodes and states is one on all values
  pub can_add : AreProper count o vs → CanShift (record { nodes = count; states = o; values = vs }) by
      → CanAdd vs by
  can_add proper can k h e =
      let row = row_of o k proper.some_states in
      let value = get_or_from_slice_get vs _ h (pos 0) (ap (λ j. slice_get vs j) (sym row.1.1) ∙ e) in
      subst (λ z. IsInRange (z +ℤ by)) value (can row.0 row.1.0
      (row_below o row.0 row.1.0 count (omega (arith, within_get vs k h e, proper.filled, row.1.1))) row.1.2)

  pub proper_shifted : AreProper count o vs → CanAdd vs by → AreProper count o (map (λ h. h +ℤ by) vs)
  proper_shifted proper can = record {
    some_nodes = proper.some_nodes;
    few_nodes = proper.few_nodes;
    some_states = proper.some_states;
    few_states = proper.few_states;
    filled = length-map vs (λ h. h +ℤ by) ∙ proper.filled;
    in_range = λ k h e.
        let inside : k < length vs = omega (arith, within_get _ k h e, length-map vs (λ h. h +ℤ by)) in
        let x = get_or vs k (pos 0) in
        let here = slice_get-get_or vs k (pos 0) inside in
        subst IsInRange (same (x +ℤ by) h (sym (slice_get-map (λ h. h +ℤ by) vs k ∙ ap (option_map (λ h. h +ℤ by)) here) ∙ e))
        (can k x here);
  }
    where
      same : (x y : ℤ) → Some x ≡ Some y → x ≡ y
      same x y e = cc

pub value-shifted_by : (v : PolicyVectors) (by : ℤ) (n s : ℕ) → AreProper v.nodes v.states v.values → n < v.nodes → s < v.states
    → value_of (shifted_by v by) n s ≡ value_of v n s +ℤ by
value-shifted_by v by n s proper l k = grind (arith, common_steps, slice_get-get_or, get_or_from_slice_get, slice_get-map, row_above)
