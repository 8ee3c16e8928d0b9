-- What is true of all points.
use Rattle.std.proofs.Common.{◌≡◌, ◌∙◌, ℕ, ℤ, pos, ◌+◌, ◌*◌, ◌<◌, ◌≤◌, Option, Some, None, List, [], length, slice_get, get_or, sym, ap}
use Rattle.std.proofs.Common.{subst, arith}
use Rattle.std.specs.Prelude.{unsigned_abs}
use Rattle.polcert_policy.proofs.Common.{ints, slice_get-get_or, get_or_from_slice_get, IsInRange, largest}
use Rattle.polcert_cells.specs.declared.elements.Cell.{Cell}
use Rattle.polcert_cells.specs.Sparse.{weight_at, IsRow}
use Rattle.polcert_policy.specs.Graphs.{IsBelow}
use Rattle.polcert_policy.specs.Points.{PointValues, AreProperLists, AreProperPoints, IsPointRow, point_count, point_weight, named_at}
use Rattle.polcert_policy.proofs.Places.{place_inside}
use Rattle.polcert_policy.proofs.VectorEndLaws.{kept_in_range}
use mir.Syntax.{w64}
use mir.Val.{to_z, of_z}

range_size : (h : ℤ) → IsInRange h → unsigned_abs h ≤ largest
range_size h is = omega (arith, ints, is.0, is.1)

module _ (S A Z : ℕ) (rows : List (List Cell)) (values : List ℤ) (names : List (Option ℕ)) (h : AreProperLists S A Z rows values names)
  where
    pub value_inside : (i a : ℕ) → i < length rows → a < A → i * A + a < length values
    value_inside i a l k = omega (arith, place_inside A i a (length rows) l k, h.all_values)

    pub name_inside : (i a z : ℕ) → i < length rows → a < A → z < Z → (i * A + a) * Z + z < length names
    name_inside i a z l k m = omega (
      arith,
      place_inside Z (i * A + a) z _ (place_inside A i a (length rows) l k) m,
      h.all_names,
    )

    pub value_in_range : (i a : ℕ) → i < length rows → a < A → IsInRange (get_or values (i * A + a) (pos 0))
    value_in_range i a l k = h.in_range (i * A + a) _ (slice_get-get_or values (i * A + a) (pos 0) (value_inside i a l k))

    pub name_below : (i a z j : ℕ) → i < length rows → a < A → z < Z → get_or names ((i * A + a) * Z + z) None ≡ Some j → j < length rows
    name_below i a z j l k m e = h.bound _ j (slice_get-get_or names _ None (name_inside i a z l k m) ∙ ap Some e)

    row_is : (i : ℕ) → i < length rows → IsPointRow S (get_or rows i [])
    row_is i l = h.rows_are i _ (slice_get-get_or rows i [] l)

    abbrev pub listed : PointValues
    listed = record { states = S; actions = A; observations = Z; rows = rows; values = values; names = names }

    pub lists_proper : AreProperPoints listed
    lists_proper = record {
      some_states = h.some_states;
      few_states = h.few_states;
      some_actions = h.some_actions;
      few_actions = h.few_actions;
      some_observations = h.some_observations;
      few_observations = h.few_observations;
      few_points = h.few_points;
      mass = λ i l. (row_is i l).mass;
      values = λ i a l k. range_size _ (value_in_range i a l k);
      named = name_below;
    }

-- ---- the same where the points are seen as one value

module _ (S A Z : ℕ) (rows : List (List Cell)) (values : List ℤ) (names : List (Option ℕ)) (h : AreProperLists S A Z rows values names)
    (p : PointValues) (e : listed S A Z rows values names h ≡ p) where
  pub seen_row : (i : ℕ) (cells : List Cell) → slice_get rows i ≡ Some cells → IsRow p.states (point_weight p i) cells
  seen_row i cells found = subst (λ q. IsRow q.states (point_weight q i) cells) e (record {
    sparse = (h.rows_are i cells found).sparse;
    each = λ c l. ap (λ row. weight_at row c) (sym (get_or_from_slice_get rows i cells [] found));
  })

  -- the value that is kept at a place, read with its sign
  pub seen_value : (i a : ℕ) (x d : ℤ) → i < point_count p → a < p.actions → x ≡ get_or values (i * A + a) d
      → IsInRange (to_z w64 (of_z w64 x))
  seen_value i a x d l k is =
      kept_in_range x (h.in_range (i * A + a) x (slice_get-get_or values (i * A + a) d
      (value_inside S A Z rows values names h i a (subst (λ q. i < point_count q) (sym e) l) (subst (λ q. a < q.actions) (sym e) k))
      ∙ ap Some (sym is)))

  module _ (i a z : ℕ) (x : Option ℕ) (l : i < point_count p) (k : a < p.actions) (m : z < p.observations)
      (is : x ≡ get_or names ((i * A + a) * Z + z) x) where
    kept : x ≡ get_or names ((i * A + a) * Z + z) None
    kept =
        let inside = name_inside S A Z rows values names h i a z (subst (λ q. i < point_count q) (sym e) l)
        (subst (λ q. a < q.actions) (sym e) k) (subst (λ q. z < q.observations) (sym e) m) in
        sym (get_or_from_slice_get names _ x None
        (slice_get-get_or names _ x inside ∙ ap Some (sym is)))

    pub seen_name : x ≡ named_at p i a z
    seen_name = kept ∙ ap (λ q. named_at q i a z) e

    pub seen_below : IsBelow (point_count p) x
    seen_below j named = (lists_proper_at p e).named i a z j l k m (sym seen_name ∙ named)
      where
        lists_proper_at : (q : _) → listed S A Z rows values names h ≡ q → AreProperPoints q
        lists_proper_at q same = subst AreProperPoints same (lists_proper S A Z rows values names h)
