-- What is read of points is their fields, one after another.
use Rattle.std.proofs.Common.{◌≡◌, ◌∙◌, ℕ, ℤ, pos, zero, suc, ◌+◌, ◌*◌, ◌<◌, ◌≤◌, ◌⊎◌, inl, inr, Bool, true, false, if◌then◌else◌, Option}
use Rattle.std.proofs.Common.{Some, None, List, [], ◌∷◌, ◌++◌, length, flat_map, slice_get, refl, sym, ap, subst, arith, length-append}
use Rattle.std.proofs.Common.{append_assoc}
use Rattle.std.specs.Prelude.{◌==◌, codes}
use Rattle.std.proofs.lemmas.Bool.{eqb-true}
use Rattle.polcert_policy.proofs.Common.{Lexeme, Numeral, Plus, Minus, Name, range_with_len, get_or_from_slice_get, numeral_kind, TokenKind}
use Rattle.polcert_policy.proofs.Common.{minus_kind, sign_kind, is_whole, is_successor, successor_of}
use Rattle.polcert_cells.specs.declared.elements.Cell.{Cell}
use Rattle.polcert_cells.specs.Sparse.{weight_at}
use Rattle.polcert_text.specs.Numbers.{IsCeil}
use Rattle.polcert_policy.specs.Points.{PointValues, point_weight, value_at, named_at, most_points}
use Rattle.polcert_policy.specs.PointTokens.{PointsSoFar, nothing_read, with_weight, after_weight, field_after_name, kept_name, minus_of}
use Rattle.polcert_policy.specs.PointTokens.{sign_of, is_joined_to, is_negated, IsWeight, TakesNumber, TakesWeight, TakesSign, TakesValue}
use Rattle.polcert_policy.specs.PointTokens.{TakesName, TakesField, TakesPointToken, TakesAll}
use Rattle.polcert_policy.specs.PointFields as flat
use Rattle.polcert_policy.specs.PointText.{ArePointTokens, NamesPointsOnly}
use Rattle.polcert_policy.specs.PointFields.{Field, ArePointFields, AreFieldTokens, IsNotJoined, weight_fields, name_fields, action_fields}
use Rattle.polcert_policy.specs.PointFields.{point_fields}
use Rattle.polcert_policy.specs.declared.vectors.OpenSign.{OpenSign}
use Rattle.polcert_policy.specs.declared.points_reading.PointField.{PointField}
use Rattle.polcert_policy.specs.declared.points_reading.PointField.TheVariants as fields
use Rattle.polcert_policy.proofs.Places.{get_more, get_here, within_get, true_false, some_none}
use Rattle.polcert_policy.proofs.FlatGraphs.{whole_is}
use Rattle.polcert_policy.proofs.PointSound.{IsSound, IsSoundField, HasWeights, row_with, value_there, value_before, taken_sound, all_sound}
use Rattle.polcert_policy.proofs.PointSound.{nothing_sound}

-- ---- what was read stays

pub record Grows (old new : PointsSoFar) : Type 0 where
  pub rows : (k : ℕ) (x : List Cell) → slice_get old.rows k ≡ Some x → slice_get new.rows k ≡ Some x
  pub values : (k : ℕ) (x : ℤ) → slice_get old.values k ≡ Some x → slice_get new.values k ≡ Some x
  pub names : (k : ℕ) (x : Option ℕ) → slice_get old.names k ≡ Some x → slice_get new.names k ≡ Some x

grows_same : (old : PointsSoFar) → Grows old old
grows_same old = record { rows = λ k x e. e; values = λ k x e. e; names = λ k x e. e }

grows_through : (a b c : PointsSoFar) → Grows a b → Grows b c → Grows a c
grows_through a b c x y = record {
  rows = λ k v e. y.rows k v (x.rows k v e);
  values = λ k v e. y.values k v (x.values k v e);
  names = λ k v e. y.names k v (x.names k v e);
}

module _ (S A Z : ℕ) where
  weight_grows : (s w : ℕ) (old : PointsSoFar) → Grows old (after_weight S s w old)
  weight_grows s w old = at (suc s == S)
    where
      at : (b : Bool) → Grows old (if b then record old {
        field = fields.Value 0;
        mass = old.mass + w;
        row = [];
        rows = old.rows ++ with_weight s w old.row ∷ [];
      } else record old { field = fields.Weight (suc s); mass = old.mass + w; row = with_weight s w old.row })
      at true = record { rows = λ k x e. get_more old.rows _ x k e; values = λ k x e. e; names = λ k x e. e }
      at false = record { rows = λ k x e. e; values = λ k x e. e; names = λ k x e. e }

  field_grows : (f : PointField) (old new : PointsSoFar) (t : Lexeme) → TakesField S A Z f old t new → Grows old new
  field_grows fields.Number old new t x = subst (Grows old) (sym x.new_is)
      (record { rows = λ k x e. e; values = λ k x e. e; names = λ k x e. e })
  field_grows (fields.Weight s) old new t x = subst (Grows old) (sym x.new_is) (weight_grows s x.weight old)
  field_grows (fields.Value a) old new t (inl x) = subst (Grows old) (sym x.new_is)
      (record { rows = λ k x e. e; values = λ k x e. e; names = λ k x e. e })
  field_grows (fields.Value a) old new t (inr x) = subst (Grows old) (sym x.new_is)
      (record { rows = λ k v e. e; values = λ k v e. get_more old.values (x.value ∷ []) v k e; names = λ k v e. e })
  field_grows (fields.Name a z) old new t x = subst (Grows old) (sym x.new_is)
      (record { rows = λ k v e. e; values = λ k v e. e; names = λ k v e. get_more old.names _ v k e })

  taken_grows : (old new : PointsSoFar) (t : Lexeme) → TakesPointToken S A Z old t new → Grows old new
  taken_grows old new t x = let g = field_grows old.field _ new t x.field in
      record { rows = g.rows; values = g.values; names = g.names }

  all_grows : (old new : PointsSoFar) (ts : List Lexeme) → TakesAll S A Z old ts new → Grows old new
  all_grows old new [] x = subst (Grows old) x (grows_same old)
  all_grows old new (t ∷ ts) x = grows_through old x.0 new (taken_grows old x.0 t x.1) (all_grows x.0 new ts x.2)

  -- ---- the field that comes next

  field_at : (f : PointField) (old new : PointsSoFar) (t : Lexeme) → old.field ≡ f → TakesPointToken S A Z old t new
      → TakesField S A Z f (record old { minus = None }) t new
  field_at f old new t e x = subst (λ g. TakesField S A Z g (record old { minus = None }) t new) e x.field

-- ---- the weights of a point

weight_kept : (s w sum c : ℕ) (row : List Cell) → HasWeights s row sum → c < s → weight_at (with_weight s w row) c ≡ weight_at row c
weight_kept s w sum c row h l = (row_with h.weights s w row h.row).each c (omega (arith, l)) ∙ value_before h.weights s w c l
    ∙ sym (h.row.each c l)

weight_put : (s w sum : ℕ) (row : List Cell) → HasWeights s row sum → weight_at (with_weight s w row) s ≡ w
weight_put s w sum row h = (row_with h.weights s w row h.row).each s (omega arith) ∙ value_there h.weights s w

weight_no_number : (s : ℕ) → fields.Weight s ≡ fields.Number → ⊥
weight_no_number s e = cc

value_no_number : (a : ℕ) → fields.Value a ≡ fields.Number → ⊥
value_no_number a e = cc

name_no_number : (a z : ℕ) → fields.Name a z ≡ fields.Number → ⊥
name_no_number a z e = cc

is_numeral : (k : TokenKind) → numeral_kind k ≡ true → k ≡ Numeral
is_numeral k h1 = grind arith

is_sign : (k : TokenKind) → sign_kind k ≡ true → (k ≡ Plus) ⊎ (k ≡ Minus)
is_sign k h1 = grind arith

module _ (S A Z : ℕ) (some_s : 1 ≤ S) (some_a : 1 ≤ A) (some_z : 1 ≤ Z) (last : PointsSoFar) (whole : last.field ≡ fields.Number) where
  -- after a weight, the row of the point
  pub record FoundRow (n s : ℕ) (row : List Cell) : Type 0 where
    pub final : List Cell
    pub found : slice_get last.rows n ≡ Some final
    pub same : (c : ℕ) → c < s → weight_at final c ≡ weight_at row c

  row_after : (s w : ℕ) (old between : PointsSoFar) (ts : List Lexeme) → between ≡ after_weight S s w old → TakesAll S A Z between ts last
      → (between.field ≡ fields.Weight (suc s) → FoundRow (length between.rows) (suc s) between.row)
      → FoundRow (length old.rows) (suc s) (with_weight s w old.row)
  row_after s w old between ts e rest next = at (suc s == S) e
    where
      at : (b : Bool) → between ≡ (if b then record old {
        field = fields.Value 0;
        mass = old.mass + w;
        row = [];
        rows = old.rows ++ with_weight s w old.row ∷ [];
      } else record old { field = fields.Weight (suc s); mass = old.mass + w; row = with_weight s w old.row })
          → FoundRow (length old.rows) (suc s) (with_weight s w old.row)
      at true is = record {
        final = with_weight s w old.row;
        found = (all_grows S A Z between last ts rest).rows _ _
            (ap (λ st. slice_get st.rows (length old.rows)) is ∙ get_here old.rows [] (with_weight s w old.row));
        same = λ c l. refl;
      }
      at false is =
          let there = next (ap (λ st. st.field) is) in
          record {
            final = there.final;
            found = ap (λ st. slice_get last.rows (length st.rows)) (sym is) ∙ there.found;
            same = λ c l. there.same c l ∙ ap (λ st. weight_at st.row c) is;
          }

  find_row : (ts : List Lexeme) (s : ℕ) (old : PointsSoFar) → old.field ≡ fields.Weight s → IsSound S A Z old → TakesAll S A Z old ts last
      → FoundRow (length old.rows) s old.row
  find_row [] s old e h x = absurd (weight_no_number s (sym e ∙ ap (λ st. st.field) x ∙ whole))
  find_row (t ∷ ts) s old e h x =
      let y = field_at S A Z _ old x.0 t e x.1 in
      let at = subst (λ f. IsSoundField S A Z f old) e h.at in
      let sound = taken_sound S A Z some_s some_a some_z old x.0 t h x.1 in
      let after = row_after s y.weight (record old { minus = None }) x.0 ts y.new_is x.2 (λ f. find_row ts (suc s) x.0 f sound x.2) in
      record {
        final = after.final;
        found = after.found;
        same = λ c l. after.same c (omega (arith, l)) ∙ weight_kept s y.weight old.mass c old.row at.weights l;
      }

  -- ---- the fields that are still to come

  abbrev pub points : PointValues
  points = record { states = S; actions = A; observations = Z; rows = last.rows; values = last.values; names = last.names }

  abbrev rest_points : ℕ → ℕ → List Field
  rest_points n k = flat_map (point_fields points) (range_with_len n k)

  abbrev rest_actions : ℕ → ℕ → ℕ → ℕ → List Field
  rest_actions i a k r = flat_map (action_fields points i) (range_with_len a k) ++ rest_points (i + 1) r

  abbrev rest_names : ℕ → ℕ → ℕ → ℕ → ℕ → ℕ → List Field
  rest_names i a z j k r = name_fields points i a (range_with_len z j) ++ rest_actions i (a + 1) k r

  abbrev rest_weights : ℕ → ℕ → ℕ → ℕ → List Field
  rest_weights i s j r = weight_fields points i (range_with_len s j) ++ rest_actions i 0 A r

  -- a sign is open only before a value
  abbrev IsClosed : PointField → Option OpenSign → Type 0
  IsClosed (fields.Value a) sign = Unit {0}
  IsClosed _ sign = sign ≡ None

  abbrev FieldsAt : PointField → PointsSoFar → List Lexeme → Type 0
  FieldsAt fields.Number old ts = (k : ℕ) → length old.rows + k ≡ length last.rows → ArePointFields ts (rest_points (length old.rows) k)
  FieldsAt (fields.Weight s) old ts = (j r : ℕ) → s + j ≡ S → length old.rows + 1 + r ≡ length last.rows
      → ArePointFields ts (rest_weights (length old.rows) s j r)
  FieldsAt (fields.Value a) old ts = (i k r : ℕ) → length old.rows ≡ i + 1 → a + k ≡ A → i + 1 + r ≡ length last.rows
      → (old.sign ≡ None → ArePointFields ts (rest_actions i a k r))
      × ((u : Lexeme) → sign_kind u.kind ≡ true → old.sign ≡ Some (sign_of u) → ArePointFields (u ∷ ts) (rest_actions i a k r))
  FieldsAt (fields.Name a z) old ts = (i j k r : ℕ) → length old.rows ≡ i + 1 → z + j ≡ Z → a + 1 + k ≡ A → i + 1 + r ≡ length last.rows
      → ArePointFields ts (rest_names i a z j k r)

  -- ---- a token more

  number_fields : (old between : PointsSoFar) (t : Lexeme) (ts : List Lexeme) → TakesNumber old t between
      → (length between.rows < length last.rows) → FieldsAt (fields.Weight 0) between ts → FieldsAt fields.Number old (t ∷ ts)
  number_fields old between t ts y few next zero l = let same = ap (λ st. length st.rows) y.new_is in absurd (omega (arith, l, few, same))
  number_fields old between t ts y few next (suc k) l =
      let same = ap (λ st. length st.rows) y.new_is in
      let rest = next S k (omega arith) (omega (arith, l, same)) in
      let moved = subst (λ n. ArePointFields ts (rest_weights n 0 S k)) same rest in
      let n = length old.rows in
      flat.number (whole_is t n y.whole y.number)
      (subst (ArePointFields ts) (sym (append_assoc (weight_fields points n (range_with_len 0 S))
      _ (rest_points (n + 1) k))) moved)

  weight_of_read : (n s w sum : ℕ) (row : List Cell) → HasWeights s row sum → FoundRow n (suc s) (with_weight s w row)
      → point_weight points n s ≡ w
  weight_of_read n s w sum row h found = ap (λ r. weight_at r s) (get_or_from_slice_get last.rows n found.final [] found.found)
      ∙ found.same s (omega arith) ∙ weight_put s w sum row h

  -- the weights after that of state s
  weights_left : (s w : ℕ) (old between : PointsSoFar) (ts : List Lexeme) → between ≡ after_weight S s w old → between.sign ≡ None
      → FieldsAt between.field between ts
      → (j r : ℕ) → suc s + j ≡ S → length old.rows + 1 + r ≡ length last.rows
      → ArePointFields ts (rest_weights (length old.rows) (s + 1) j r)
  weights_left s w old between ts e closed next j r lj lr = at (suc s == S) refl e
    where
      more : between.field ≡ fields.Weight (suc s) → length between.rows ≡ length old.rows
          → ArePointFields ts (rest_weights (length old.rows) (s + 1) j r)
      more f same =
          let at_next = subst (λ g. FieldsAt g between ts) f next in
          let one : suc s ≡ s + 1 = omega arith in
          subst (λ n. ArePointFields ts (rest_weights n (s + 1) j r)) same
          (subst (λ c. ArePointFields ts (rest_weights (length between.rows) c j r)) one (at_next j r lj (omega (arith, lr, same))))

      ended : suc s ≡ S → between.field ≡ fields.Value 0 → length between.rows ≡ length old.rows + 1
          → ArePointFields ts (rest_weights (length old.rows) (s + 1) j r)
      ended is f same =
          let at_next = subst (λ g. FieldsAt g between ts) f next in
          let none : 0 ≡ j = omega arith in
          subst (λ k. ArePointFields ts (rest_weights (length old.rows) (s + 1) k r)) none
          ((at_next _ A r same (omega arith) lr).0 closed)

      at : (b : Bool) → (suc s == S) ≡ b → between ≡ (if b then record old
          { field = fields.Value 0; mass = old.mass + w; row = []; rows = old.rows ++ with_weight s w old.row ∷ [] } else record old
          { field = fields.Weight (suc s); mass = old.mass + w; row = with_weight s w old.row })
          → ArePointFields ts (rest_weights (length old.rows) (s + 1) j r)
      at true b is = ended (eqb-true (suc s) S b) (ap (λ st. st.field) is) (ap (λ st. length st.rows) is ∙ length-append old.rows _)
      at false b is = more (ap (λ st. st.field) is) (ap (λ st. length st.rows) is)

  weight_fields_read : (s : ℕ) (old between : PointsSoFar) (t : Lexeme) (ts : List Lexeme) → IsSoundField S A Z (fields.Weight s) old
      → (y : TakesWeight S s (record old { minus = None }) t between) → between.sign ≡ None
      → FoundRow (length old.rows) (suc s) (with_weight s y.weight old.row) → FieldsAt between.field between ts
      → FieldsAt (fields.Weight s) old (t ∷ ts)
  weight_fields_read s old between t ts at y closed found next zero r lj lr = absurd (omega arith)
  weight_fields_read s old between t ts at y closed found next (suc j) r lj lr =
      flat.weight (is_numeral t.kind y.numeral) (subst (IsWeight t.bytes)
      (sym (weight_of_read (length old.rows) s y.weight old.mass old.row at.weights found)) y.is_weight)
      (weights_left s y.weight (record old { minus = None }) between ts y.new_is closed next j r (omega (arith, lj)) lr)

  -- a sign before a value
  sign_fields : (a : ℕ) (old between : PointsSoFar) (t : Lexeme) (ts : List Lexeme) → TakesSign (record old { minus = None }) t between
      → FieldsAt (fields.Value a) between ts → FieldsAt (fields.Value a) old (t ∷ ts)
  sign_fields a old between t ts y next i k r li lk lr =
      let rows = ap (λ st. length st.rows) y.new_is ∙ li in (
        (λ none. (next i k r rows lk lr).1 t y.sign (ap (λ st. st.sign) y.new_is)),
        λ u kind is. absurd (some_none (sign_of u) (sym y.first ∙ is)),
      )

  value_read : (i a : ℕ) (values : List ℤ) (h : ℤ) → length values ≡ i * A + a
      → ((k : ℕ) (x : ℤ) → slice_get (values ++ h ∷ []) k ≡ Some x → slice_get last.values k ≡ Some x) → value_at points i a ≡ h
  value_read i a values h l stays = get_or_from_slice_get last.values (i * A + a) h (pos 0)
      (ap (slice_get last.values) (sym l) ∙ stays _ h (get_here values [] h))

  module _ (a : ℕ) (old between : PointsSoFar) (t : Lexeme) (ts : List Lexeme) (y : TakesValue a (record old { minus = None }) t between)
      (h : ℤ) (is : h ≡ y.value) (fs : List Field) (tail : ArePointFields ts fs) where
    plain_field : old.sign ≡ None → ArePointFields (t ∷ ts) (flat.value_field h ∷ fs)
    plain_field e =
        flat.unsigned (record {
          kind = is_numeral t.kind y.numeral;
          readable = y.readable;
          value = subst (IsCeil false t.bytes) (sym is) (subst (λ s. IsCeil (is_negated s) t.bytes y.value) e y.rounded);
        }) tail

    signed_field : (u : Lexeme) → sign_kind u.kind ≡ true → old.sign ≡ Some (sign_of u)
        → ArePointFields (u ∷ t ∷ ts) (flat.value_field h ∷ fs)
    signed_field u kind e = by (is_sign u.kind kind)
      where
        rounded : IsCeil (minus_kind u.kind) t.bytes h
        rounded = subst (IsCeil _ t.bytes) (sym is) (subst (λ s. IsCeil (is_negated s) t.bytes y.value) e y.rounded)

        by : (u.kind ≡ Plus) ⊎ (u.kind ≡ Minus) → ArePointFields (u ∷ t ∷ ts) (flat.value_field h ∷ fs)
        by (inl k) = flat.plus k (record {
          kind = is_numeral t.kind y.numeral;
          readable = y.readable;
          value = subst (λ b. IsCeil b t.bytes h) (ap minus_kind k) rounded;
        }) tail
        by (inr k) = flat.minus k (record {
          kind = is_numeral t.kind y.numeral;
          readable = y.readable;
          value = subst (λ b. IsCeil b t.bytes h) (ap minus_kind k) rounded;
        }) tail

  value_fields : (a : ℕ) (old between : _) (t : _) (ts : _) → IsSoundField S A Z (fields.Value a) old
      → TakesValue a (record old { minus = None }) t between → TakesAll S A Z between ts last
      → FieldsAt (fields.Name a 0) between ts → FieldsAt (fields.Value a) old (t ∷ ts)
  value_fields a old between t ts at y rest next i zero r li lk lr = absurd (omega arith)
  value_fields a old between t ts at y rest next i (suc k) r li lk lr =
      let rows = ap (λ st. length st.rows) y.new_is ∙ li in
      let tail = next i Z k r rows (omega arith) (omega (arith, lk)) lr in
      let names = name_fields points i a _ in
      let joined =
      subst (ArePointFields ts) (sym (append_assoc names _
      (rest_points (i + 1) r)))
      tail in
      let point : at.point ≡ i = omega (arith, at.point_is, li) in
      let here : length old.values ≡ i * A + a = at.lists.values_are ∙ ap (λ n. n * A + a) point in
      let grown = (all_grows S A Z between last ts rest).values in
      let value = value_read i a old.values y.value here (λ n x e. grown n x (ap (λ st. slice_get st.values n) y.new_is ∙ e)) in (
        plain_field a old between t ts y (value_at points i a) value _ joined,
        signed_field a old between t ts y (value_at points i a) value _ joined,
      )

  -- ---- the names of points

  -- a name below a count of points was kept as it is
  kept_as_it_is : (v : Option ℕ) (count : ℕ) → count ≤ most_points → ((m : ℕ) → kept_name v ≡ Some m → m < count) → kept_name v ≡ v
  kept_as_it_is v count few below = grind arith

  name_read : (i a z : ℕ) (names : List (Option ℕ)) (v : Option ℕ) → length last.rows ≤ most_points
      → ((k m : ℕ) → slice_get last.names k ≡ Some (Some m) → m < length last.rows)
      → length names ≡ (i * A + a) * Z + z → ((k : ℕ) (x : Option ℕ) → slice_get (names ++ kept_name v ∷ []) k ≡ Some x
      → slice_get last.names k ≡ Some x) → named_at points i a z ≡ v
  name_read i a z names v few bound l stays =
      let found = stays (length names) (kept_name v) (get_here names [] (kept_name v)) in
      get_or_from_slice_get last.names ((i * A + a) * Z + z) (kept_name v) None (ap (slice_get last.names) (sym l) ∙ found)
      ∙ kept_as_it_is v (length last.rows) few (λ m e. bound (length names) m (found ∙ ap Some e))

  -- a token that names a point or none
  named_field : (t : Lexeme) (ts : List Lexeme) (fs : List Field) (v : Option ℕ) → is_successor t ≡ true → v ≡ successor_of t
      → (t.kind ≡ Minus → IsNotJoined t ts) → ArePointFields ts fs → ArePointFields (t ∷ ts) (flat.name_field v ∷ fs)
  named_field t ts fs v names e apart tail = subst (λ w. ArePointFields (t ∷ ts) (flat.name_field w ∷ fs)) (sym e) (by t.kind refl)
    where
      by : (k : _) → t.kind ≡ k → ArePointFields (t ∷ ts) (flat.name_field (successor_of t) ∷ fs)
      by Numeral k =
          let whole : is_whole t ≡ true = grind arith in
          let same : Some _ ≡ successor_of t = grind arith in
          subst (λ w. ArePointFields (t ∷ ts) (flat.name_field w ∷ fs)) same (flat.named (whole_is t _ whole refl) tail)
      by Name k =
          let same : None ≡ successor_of t = grind arith in
          let bytes : t.bytes ≡ codes "X" = grind arith in
          subst (λ w. ArePointFields (t ∷ ts) (flat.name_field w ∷ fs)) same (flat.x (record { kind = k; bytes = bytes }) tail)
      by Minus k = subst (λ w. ArePointFields (t ∷ ts) (flat.name_field w ∷ fs)) (grind arith) (flat.dash k (apart k) tail)
      by k e = grind arith

  not_joined : (t : Lexeme) (ts : List Lexeme) (between : PointsSoFar) → between.minus ≡ minus_of t → TakesAll S A Z between ts last
      → t.kind ≡ Minus → IsNotJoined t ts
  not_joined t [] between e rest k = tt
  not_joined t (u ∷ us) between e rest k = λ numeral place.
      let at = e
      ∙ ap (λ b. if b then Some (record { place = t.place; stop = t.place + length t.bytes }) else None) (ap minus_kind k) in
      let apart = rest.1.apart _ at in
      true_false (joined u _ numeral place) apart
    where
      joined : (u : Lexeme) (stop : ℕ) → u.kind ≡ Numeral → u.place ≡ stop → is_joined_to (record { place = t.place; stop = stop }) u ≡ true
      joined u stop numeral place = grind arith

  -- what follows the name at observation z
  names_left : (a z i : ℕ) (old between : PointsSoFar) (ts : List Lexeme) → between.field ≡ field_after_name A Z a z
      → between.rows ≡ old.rows → between.sign ≡ None → FieldsAt between.field between ts
      → (j k r : ℕ) → length old.rows ≡ i + 1 → suc z + j ≡ Z → a + 1 + k ≡ A → i + 1 + r ≡ length last.rows
      → ArePointFields ts (rest_names i a (z + 1) j k r)
  names_left a z i old between ts e same closed next j k r li lj lk lr = at (suc z == Z) (suc a == A) refl refl e
    where
      rows : length between.rows ≡ i + 1
      rows = ap length same ∙ li

      at : (b c : Bool) → (suc z == Z) ≡ b → (suc a == A) ≡ c
          → between.field ≡ (if b then (if c then fields.Number else fields.Value (suc a)) else fields.Name a (suc z))
          → ArePointFields ts (rest_names i a (z + 1) j k r)
      at true true iz ia f =
          let last_z = eqb-true (suc z) Z iz in
          let last_a = eqb-true (suc a) A ia in
          let at_next = subst (λ g. FieldsAt g between ts) f next in
          let no_name : 0 ≡ j = omega arith in
          let no_action : 0 ≡ k = omega arith in
          let tail = subst (λ n. ArePointFields ts (rest_points n r)) rows (at_next r (omega (arith, rows, lr))) in
          subst (λ x. ArePointFields ts (rest_names i a (z + 1) x k r)) no_name
          (subst (λ y. ArePointFields ts (rest_actions i (a + 1) y r)) no_action tail)
      at true false iz ia f =
          let last_z = eqb-true (suc z) Z iz in
          let at_next = subst (λ g. FieldsAt g between ts) f next in
          let no_name : 0 ≡ j = omega arith in
          let one : suc a ≡ a + 1 = omega arith in
          let tail = (at_next i k r rows (omega (arith, lk)) lr).0 closed in
          subst (λ x. ArePointFields ts (rest_names i a (z + 1) x k r)) no_name
          (subst (λ b. ArePointFields ts (rest_actions i b k r)) one tail)
      at false c iz ia f =
          let one : suc z ≡ z + 1 = omega arith in
          subst (λ x. ArePointFields ts (rest_names i a x j k r)) one ((subst (λ g. FieldsAt g between ts) f next) i j k r rows lj lk lr)

  module _ (few : length last.rows ≤ most_points) (bound : (k m : ℕ) → slice_get last.names k ≡ Some (Some m) → m < length last.rows) where
    name_fields_read : (a z : ℕ) (old between : PointsSoFar) (t : Lexeme) (ts : List Lexeme) → IsSoundField S A Z (fields.Name a z) old
        → old.sign ≡ None → TakesName A Z a z (record old { minus = None }) t between → TakesAll S A Z between ts last
        → FieldsAt between.field between ts → FieldsAt (fields.Name a z) old (t ∷ ts)
    name_fields_read a z old between t ts at closed y rest next i zero k r li lj lk lr = absurd (omega arith)
    name_fields_read a z old between t ts at closed y rest next i (suc j) k r li lj lk lr =
        let point : at.point ≡ i = omega arith in
        let here = at.lists.names_are ∙ ap (λ n. (n * A + a) * Z + z) point in
        let grown = (all_grows S A Z between last ts rest).names in
        let value = name_read i a z old.names _ few bound here
        (λ n x e. grown n x (ap (λ st. slice_get st.names n) y.new_is ∙ e)) in
        let tail = names_left a z i old between ts (ap (λ st. st.field) y.new_is) (ap (λ st. st.rows) y.new_is)
        (ap (λ st. st.sign) y.new_is ∙ closed) next j k r li (omega (arith, lj)) lk lr in
        named_field t ts _ _ y.names value (not_joined t ts between (ap (λ st. st.minus) y.new_is) rest) tail

    -- ---- all tokens

    closed_of : (f : PointField) (sign : Option OpenSign) → sign ≡ None → IsClosed f sign
    closed_of (fields.Value a) sign e = tt
    closed_of _ sign e = e

    weight_sign : (s w : ℕ) (old : PointsSoFar) → (after_weight S s w old).sign ≡ old.sign
    weight_sign s w old = at (suc s == S)
      where
        at : (b : Bool) → (if b then record old {
          field = fields.Value 0;
          mass = old.mass + w;
          row = [];
          rows = old.rows ++ with_weight s w old.row ∷ [];
        } else record old { field = fields.Weight (suc s); mass = old.mass + w; row = with_weight s w old.row }).sign ≡ old.sign
        at true = refl
        at false = refl

    -- the tokens that are read after a state are the fields that are still to come
    fields_read : (ts : List Lexeme) (old : PointsSoFar) → IsSound S A Z old → IsClosed old.field old.sign → TakesAll S A Z old ts last
        → (f : PointField) → old.field ≡ f → FieldsAt f old ts
    fields_read [] old h c x fields.Number e = λ k l.
        let none : 0 ≡ k = omega (arith, l, ap (λ st. length st.rows) x) in
        subst (λ n. ArePointFields [] (rest_points (length old.rows) n)) none flat.none
    fields_read [] old h c x (fields.Weight s) e = absurd (weight_no_number s (sym e ∙ ap (λ st. st.field) x ∙ whole))
    fields_read [] old h c x (fields.Value a) e = absurd (value_no_number a (sym e ∙ ap (λ st. st.field) x ∙ whole))
    fields_read [] old h c x (fields.Name a z) e = absurd (name_no_number a z (sym e ∙ ap (λ st. st.field) x ∙ whole))
    fields_read (t ∷ ts) old h c x fields.Number e =
        let y = field_at S A Z fields.Number old x.0 t e x.1 in
        let closed = subst (λ g. IsClosed g old.sign) e c in
        let sound = taken_sound S A Z some_s some_a some_z old x.0 t h x.1 in
        let here = ap (λ st. st.field) y.new_is in
        let found = find_row ts 0 x.0 here sound x.2 in
        let few = within_get last.rows _ found.final found.found in
        number_fields _ x.0 t ts y few
        (fields_read ts x.0 sound (closed_of x.0.field x.0.sign (ap (λ st. st.sign) y.new_is ∙ closed)) x.2 _ here)
    fields_read (t ∷ ts) old h c x (fields.Weight s) e =
        let y = field_at S A Z _ old x.0 t e x.1 in
        let at = subst (λ f. IsSoundField S A Z f old) e h.at in
        let closed = subst (λ g. IsClosed g old.sign) e c in
        let sound = taken_sound S A Z some_s some_a some_z old x.0 t h x.1 in
        let sign = ap (λ st. st.sign) y.new_is ∙ weight_sign s y.weight (record old { minus = None }) ∙ closed in
        let found = row_after s y.weight (record old { minus = None }) x.0 ts y.new_is x.2 (λ g. find_row ts (suc s) x.0 g sound x.2) in
        weight_fields_read s old x.0 t ts at y sign found (fields_read ts x.0 sound (closed_of x.0.field x.0.sign sign) x.2 x.0.field refl)
    fields_read (t ∷ ts) old h c x (fields.Value a) e =
        by (λ closed. fields_read ts x.0 (taken_sound S A Z some_s some_a some_z old x.0 t h x.1) closed x.2)
        (field_at S A Z _ old x.0 t e x.1)
      where
        at : IsSoundField S A Z (fields.Value a) old
        at = subst (λ f. IsSoundField S A Z f old) e h.at

        by : (IsClosed x.0.field x.0.sign → (f : PointField) → x.0.field ≡ f → FieldsAt f x.0 ts)
            → TakesSign (record old { minus = None }) t x.0 ⊎ TakesValue a (record old { minus = None }) t x.0
            → FieldsAt (fields.Value a) old (t ∷ ts)
        by next (inl y) =
            let here = ap (λ st. st.field) y.new_is ∙ e in
            sign_fields a old x.0 t ts y (next (subst (λ g. IsClosed g x.0.sign) (sym here) tt) _ here)
        by next (inr y) =
            let here = ap (λ st. st.field) y.new_is in
            value_fields a old x.0 t ts at y x.2 (next (closed_of x.0.field x.0.sign (ap (λ st. st.sign) y.new_is)) _ here)
    fields_read (t ∷ ts) old h c x (fields.Name a z) e =
        let y = field_at S A Z _ old x.0 t e x.1 in
        let at = subst (λ f. IsSoundField S A Z f old) e h.at in
        let closed = subst (λ g. IsClosed g old.sign) e c in
        let sound = taken_sound S A Z some_s some_a some_z old x.0 t h x.1 in
        name_fields_read a z old x.0 t ts at closed y x.2 (fields_read ts x.0 sound
        (closed_of x.0.field x.0.sign (ap (λ st. st.sign) y.new_is ∙ closed)) x.2 x.0.field refl)

-- the tokens that are read as points are their fields
pub by_fields : (S A Z : ℕ) (ts : List Lexeme) (p : PointValues) → 1 ≤ S → 1 ≤ A → 1 ≤ Z → ArePointTokens S A Z ts p
    → AreFieldTokens S A Z ts p
by_fields S A Z ts p some_s some_a some_z are =
    let last = are.loose.last in
    let q = points S A Z some_s some_a some_z last are.loose.whole in
    let known = subst NamesPointsOnly are.loose.points_are are.bound in
    let sound = all_sound S A Z some_s some_a some_z nothing_read last ts (nothing_sound S A Z some_s some_a some_z) are.loose.read in
    let at = subst (λ f. IsSoundField S A Z f last) are.loose.whole sound.at in
    subst (AreFieldTokens S A Z ts) (sym are.loose.points_are) (record {
      states_are = refl;
      actions_are = refl;
      observations_are = refl;
      few = sound.few;
      rows_are = sound.rows_are;
      all_values = at.values_are;
      all_names = at.names_are;
      fields = fields_read S A Z some_s some_a some_z last are.loose.whole sound.few known ts nothing_read
          (nothing_sound S A Z some_s some_a some_z) refl are.loose.read fields.Number refl (length last.rows) (omega arith);
      bound = known;
    })
