-- What is read of points is within its limits.
use Rattle.std.proofs.Common.{◌≡◌, ◌∙◌, ℕ, ℤ, zero, suc, ◌+◌, ◌*◌, ◌<◌, ◌≤◌, inl, inr, ⊎_elim, Bool, true, false, if◌then◌else◌, Option}
use Rattle.std.proofs.Common.{Some, List, [], ◌∷◌, ◌++◌, length, slice_get, refl, sym, ap, subst, arith, length-append}
use Rattle.std.proofs.lemmas.Bool.{eqb-true, eqb-false}
use Rattle.std.specs.Prelude.{◌==◌}
use Rattle.polcert_policy.proofs.Common.{Lexeme, IsInRange, Up, successor_of, most_states, most_actions}
use Rattle.polcert_cells.specs.Elements.{most_observations}
use Rattle.polcert_cells.specs.declared.elements.Cell.{Cell}
use Rattle.polcert_cells.specs.Meaning.{sum_below}
use Rattle.polcert_cells.specs.Sparse.{IsRow}
use Rattle.polcert_cells.proofs.SparseLaws.{row_push, row_skip, row_same}
use Rattle.polcert_policy.specs.Points.{IsMass, IsPointRow, most_points, AreProperLists}
use Rattle.polcert_policy.specs.PointTokens.{PointsSoFar, nothing_read, with_weight, kept_name, minus_of, TakesNumber, TakesWeight}
use Rattle.polcert_policy.specs.PointTokens.{TakesSign, TakesValue, TakesName, TakesField, TakesPointToken, TakesAll}
use Rattle.polcert_policy.specs.declared.points_reading.PointField.{PointField}
use Rattle.polcert_policy.specs.declared.points_reading.PointField.TheVariants as fields
use Rattle.polcert_policy.proofs.Places.{get_snoc}
use Rattle.polcert_policy.proofs.VectorEndLaws.{rounded_in_range}

-- ---- the weights of a point

sum_same : (f g : ℕ → ℕ) (n : ℕ) → ((i : ℕ) → i < n → f i ≡ g i) → sum_below f n ≡ sum_below g n
sum_same f g zero same = refl
sum_same f g (suc n) same = let before = sum_same f g n (λ i l. same i (omega (arith, l))) in let last = same n (omega arith) in cc

-- f, but w at s
abbrev pub with_value : (ℕ → ℕ) → ℕ → ℕ → ℕ → ℕ
with_value f s w c = if c == s then w else f c

module _ (f : ℕ → ℕ) (s : ℕ) where
  pub value_there : (w : ℕ) → with_value f s w s ≡ w
  value_there w = grind arith

  pub value_before : (w c : ℕ) → c < s → with_value f s w c ≡ f c
  value_before = grind arith

  pub row_with : (w : ℕ) (row : List Cell) → IsRow s f row → IsRow (suc s) (with_value f s w) (with_weight s w row)
  row_with zero row r =
      let before = row_same s f _ row (λ c l. sym (value_before zero c l)) r in
      row_skip _ s (suc s) row before (omega arith)
      (λ c l k. let same : c ≡ s = omega arith in ap (with_value f s zero) same ∙ value_there zero)
  row_with (suc v) row r =
      let before = row_same s f (with_value f s (suc v)) row (λ c l. sym (value_before (suc v) c l)) r in
      let pushed = row_push (with_value f s (suc v)) s row (suc v) before (sym (value_there (suc v))) (omega arith) in
      let next : s + 1 ≡ suc s = omega arith in
      subst (IsRow (suc s) (with_value f s (suc v))) (grind arith)
      (subst (λ n. IsRow n (with_value f s (suc v)) (row ++ record { column = s; weight = suc v } ∷ [])) next pushed)

  sum_with : (w : ℕ) → sum_below (with_value f s w) (suc s) ≡ sum_below f s + w
  sum_with w = let before = sum_same _ f s (value_before w) in let there = value_there w in cc

-- so many weights of a point
pub record HasWeights (s : ℕ) (cells : List Cell) (sum : ℕ) : Type 0 where
  pub weights : ℕ → ℕ
  pub row : IsRow s weights cells
  pub mass : sum ≡ sum_below weights s

no_weights : (cells : List Cell) → cells ≡ [] → HasWeights 0 cells 0
no_weights cells row = record {
  weights = λ c. 0;
  row = subst (IsRow 0 (λ c. 0)) (sym row) (record {
    sparse = record { rising = grind arith; within = grind arith; some = grind arith };
    each = λ c l. refl;
  });
  mass = refl;
}

point_row : (states mass : ℕ) (f : ℕ → ℕ) (row : List Cell) → IsRow states f row → mass ≡ sum_below f states → IsMass mass
    → IsPointRow states row
point_row states mass f row r e is =
    record { sparse = r.sparse; mass = subst IsMass (e ∙ sum_same f _ states (λ c l. sym (r.each c l))) is }

-- ---- counts

-- so many values and names, and no weights of a point that is not whole
pub record HasLists (all_values all_names : ℕ) (row : List Cell) (values : List ℤ) (names : List (Option ℕ)) : Type 0 where
  pub values_are : length values ≡ all_values
  pub names_are : length names ≡ all_names
  pub no_row : row ≡ []

pub record InWeights (S A Z s : ℕ) (rows : List (List Cell)) (row : List Cell) (mass : ℕ) (values : List ℤ) (names : List (Option ℕ)) :
    Type
    0 where
  pub state : s < S
  pub few : length rows < most_points
  pub values_are : length values ≡ length rows * A
  pub names_are : length names ≡ length rows * A * Z
  pub weights : HasWeights s row mass

pub record InActions (A Z a more z : ℕ) (rows : List (List Cell)) (row : List Cell) (values : List ℤ) (names : List (Option ℕ)) : Type 0
  where
    pub action : a < A
    pub observation : z < Z
    pub point : ℕ
    pub point_is : length rows ≡ suc point
    pub lists : HasLists (point * A + more) ((point * A + a) * Z + z) row values names

abbrev pub IsSoundAt : ℕ → ℕ → ℕ → PointField → List (List Cell) → List Cell → ℕ → List ℤ → List (Option ℕ) → Type 0
IsSoundAt S A Z fields.Number rows row mass values names = HasLists (length rows * A) (length rows * A * Z) row values names
IsSoundAt S A Z (fields.Weight s) rows row mass values names = InWeights S A Z s rows row mass values names
IsSoundAt S A Z (fields.Value a) rows row mass values names = InActions A Z a a 0 rows row values names
IsSoundAt S A Z (fields.Name a z) rows row mass values names = InActions A Z a (suc a) z rows row values names

abbrev pub IsSoundField : ℕ → ℕ → ℕ → PointField → PointsSoFar → Type 0
IsSoundField S A Z f st = IsSoundAt S A Z f st.rows st.row st.mass st.values st.names

pub record IsSound (S A Z : ℕ) (st : PointsSoFar) : Type 0 where
  pub few : length st.rows ≤ most_points
  pub rows_are : (i : ℕ) (row : List Cell) → slice_get st.rows i ≡ Some row → IsPointRow S row
  pub in_range : (k : ℕ) (h : ℤ) → slice_get st.values k ≡ Some h → IsInRange h
  pub at : IsSoundField S A Z st.field st

row_more : (S : ℕ) (rows : List (List Cell)) (row : List Cell) → ((i : ℕ) (r : List Cell) → slice_get rows i ≡ Some r → IsPointRow S r)
    → IsPointRow S row
    → (i : ℕ) (r : List Cell) → slice_get (rows ++ row ∷ []) i ≡ Some r → IsPointRow S r
row_more S rows row old new i r e = ⊎_elim (λ l. old i r l) (λ m. subst (IsPointRow S) m.1 new) (get_snoc rows row r i e)

value_more : (values : List ℤ) (value : ℤ) → ((k : ℕ) (h : ℤ) → slice_get values k ≡ Some h → IsInRange h) → IsInRange value
    → (k : ℕ) (h : ℤ) → slice_get (values ++ value ∷ []) k ≡ Some h → IsInRange h
value_more values value old new k h e = ⊎_elim (λ l. old k h l) (λ m. subst IsInRange m.1 new) (get_snoc values value h k e)

module _ (S A Z : ℕ) (some_s : 1 ≤ S) (some_a : 1 ≤ A) (some_z : 1 ≤ Z) where
  number_sound : (old new : PointsSoFar) (t : Lexeme) → old.field ≡ fields.Number → IsSound S A Z old → TakesNumber old t new
      → IsSound S A Z new
  number_sound old new t e h x =
      let at = subst (λ f. IsSoundField S A Z f old) e h.at in
      subst (IsSound S A Z) (sym x.new_is) (record {
        few = h.few;
        rows_are = h.rows_are;
        in_range = h.in_range;
        at = record {
          state = some_s;
          few = x.few;
          values_are = at.values_are;
          names_are = at.names_are;
          weights = no_weights old.row at.no_row;
        };
      })

  -- after the weight of a state
  weight_sound : (s : ℕ) (old new : PointsSoFar) (t : Lexeme) → old.field ≡ fields.Weight s → IsSound S A Z old
      → TakesWeight S s old t new
      → IsSound S A Z new
  weight_sound s old new t e h x = subst (IsSound S A Z) (sym x.new_is) (by (suc s == S) refl)
    where
      at : IsSoundField S A Z (fields.Weight s) old
      at = subst (λ f. IsSoundField S A Z f old) e h.at

      f : ℕ → ℕ
      f = with_value at.weights.weights s x.weight

      row_is : IsRow (suc s) f (with_weight s x.weight old.row)
      row_is = row_with _ s x.weight old.row at.weights.row

      mass_is : old.mass + x.weight ≡ sum_below f (suc s)
      mass_is = cc (at.weights.mass, sum_with _ s x.weight)

      last : suc s ≡ S → IsSound S A Z (record old {
        field = fields.Value 0;
        mass = old.mass + x.weight;
        row = [];
        rows = old.rows ++ with_weight s x.weight old.row ∷ [];
      })
      last is = record {
        few = omega (arith, at.few, length-append old.rows (with_weight s x.weight old.row ∷ []));
        rows_are = row_more S old.rows _ h.rows_are (subst (λ n. IsPointRow n (with_weight s x.weight old.row)) is
            (point_row (suc s) _ f _ row_is mass_is (x.is_mass is)));
        in_range = h.in_range;
        at = record {
          action = some_a;
          observation = some_z;
          point = length old.rows;
          point_is = omega (arith, length-append old.rows (with_weight s x.weight old.row ∷ []));
          lists = record {
            values_are = omega (arith, at.values_are);
            names_are = cc (at.names_are, plus_zero _);
            no_row = refl;
          };
        };
      }
        where
          plus_zero : (n : ℕ) → n ≡ n + 0
          plus_zero n = omega arith

      by : (b : Bool) → (suc s == S) ≡ b → IsSound S A Z (if b then record old
          { field = fields.Value 0; mass = old.mass + x.weight; row = []; rows = old.rows ++ with_weight s x.weight old.row ∷ [] } else
          record
          old { field = fields.Weight (suc s); mass = old.mass + x.weight; row = with_weight s x.weight old.row })
      by true is = last (eqb-true (suc s) S is)
      by false is = record {
        few = h.few;
        rows_are = h.rows_are;
        in_range = h.in_range;
        at =
            record {
              state = omega (arith, at.state, eqb-false (suc s) S is);
              few = at.few;
              values_are = at.values_are;
              names_are =
                  at.names_are;
              weights = record { weights = f; row = row_is; mass = mass_is };
            };
      }

  sign_sound : (a : ℕ) (old new : PointsSoFar) (t : Lexeme) → old.field ≡ fields.Value a → IsSound S A Z old → TakesSign old t new
      → IsSound S A Z new
  sign_sound a old new t e h x =
      subst (IsSound S A Z) (sym x.new_is) (record { few = h.few; rows_are = h.rows_are; in_range = h.in_range; at = h.at })

  value_sound : (a : ℕ) (old new : PointsSoFar) (t : Lexeme) → old.field ≡ fields.Value a → IsSound S A Z old → TakesValue a old t new
      → IsSound S A Z new
  value_sound a old new t e h x =
      let at = subst (λ f. IsSoundField S A Z f old) e h.at in
      subst (IsSound S A Z) (sym x.new_is) (record {
        few = h.few;
        rows_are = h.rows_are;
        in_range = value_more old.values x.value h.in_range (rounded_in_range Up _ t.bytes x.value x.readable x.rounded);
        at = record {
          action = at.action;
          observation = at.observation;
          point = at.point;
          point_is = at.point_is;
          lists = record {
            values_are = omega (arith, length-append old.values (x.value ∷ []), at.lists.values_are);
            names_are = at.lists.names_are;
            no_row = at.lists.no_row;
          };
        };
      })

  -- ---- after the name of a point

  row_end : (m z w : ℕ) → suc z ≡ w → m * w + suc z ≡ suc m * w
  row_end m z w e = let next : suc m * w ≡ m * w + w = omega arith in omega (arith, next, e)

  name_sound : (a z : ℕ) (old new : PointsSoFar) (t : Lexeme) → old.field ≡ fields.Name a z → IsSound S A Z old
      → TakesName A Z a z old t new → IsSound S A Z new
  name_sound a z old new t e h x = subst (IsSound S A Z) (sym x.new_is) (by (suc z == Z) (suc a == A) refl refl)
    where
      at : IsSoundField S A Z (fields.Name a z) old
      at = subst (λ f. IsSoundField S A Z f old) e h.at

      named : length (old.names ++ kept_name (successor_of t) ∷ []) ≡ (at.point * A + a) * Z + suc z
      named = omega (arith, length-append old.names (kept_name (successor_of t) ∷ []), at.lists.names_are)

      sound : (f : _) → IsSoundAt S A Z f old.rows old.row old.mass old.values (old.names ++ kept_name (successor_of t) ∷ [])
          → IsSound S A Z (record old { field = f; minus = minus_of t; names = old.names ++ kept_name (successor_of t) ∷ [] })
      sound f is = record { few = h.few; rows_are = h.rows_are; in_range = h.in_range; at = is }

      lists : (all_values all_names : ℕ) → length old.values ≡ all_values
          → length (old.names ++ kept_name (successor_of t) ∷ []) ≡ all_names
          → HasLists all_values all_names old.row old.values (old.names ++ kept_name (successor_of t) ∷ [])
      lists all_values all_names v n = record { values_are = v; names_are = n; no_row = at.lists.no_row }

      by : (b c : Bool) → (suc z == Z) ≡ b → (suc a == A) ≡ c
          → IsSound S A Z (record old {
            field = if b then (if c then fields.Number else fields.Value (suc a)) else fields.Name a (suc z);
            minus = minus_of t;
            names = old.names ++ kept_name (successor_of t) ∷ [];
          })
      by true true iz ia =
          let last_z = eqb-true (suc z) Z iz in
          let last_a = eqb-true (suc a) A ia in
          let rows = omega arith
          ∙ ap (λ n. n * A) (sym at.point_is) in
          sound fields.Number (lists _ _ (omega (arith, at.lists.values_are, rows))
          (named ∙ row_end _ z Z last_z ∙ ap (λ n. n * Z) rows))
      by true false iz ia =
          let last_z = eqb-true (suc z) Z iz in
          let inner_a = eqb-false (suc a) A ia in
          let next : suc _ ≡ at.point * A + suc a = omega arith in
          sound _ (record {
            action = omega (arith, at.action, inner_a);
            observation = some_z;
            point = at.point;
            point_is = at.point_is;
            lists = lists _ _ at.lists.values_are (named ∙ row_end _ z Z last_z ∙ ap (λ n. n * Z) next ∙ omega arith);
          })
      by false c iz ia =
          let inner_z = eqb-false (suc z) Z iz in
          sound _ (record {
            action = at.action;
            observation = omega (arith, at.observation, inner_z);
            point = at.point;
            point_is = at.point_is;
            lists = lists _ _ at.lists.values_are named;
          })

  field_sound : (f : PointField) (old new : PointsSoFar) (t : Lexeme) → old.field ≡ f → IsSound S A Z old → TakesField S A Z f old t new
      → IsSound S A Z new
  field_sound fields.Number old new t e h x = number_sound old new t e h x
  field_sound (fields.Weight s) old new t e h x = weight_sound s old new t e h x
  field_sound (fields.Value a) old new t e h (inl x) = sign_sound a old new t e h x
  field_sound (fields.Value a) old new t e h (inr x) = value_sound a old new t e h x
  field_sound (fields.Name a z) old new t e h x = name_sound a z old new t e h x

  pub taken_sound : (old new : PointsSoFar) (t : Lexeme) → IsSound S A Z old → TakesPointToken S A Z old t new → IsSound S A Z new
  taken_sound old new t h x = field_sound old.field _ new t refl
      (record { few = h.few; rows_are = h.rows_are; in_range = h.in_range; at = h.at }) x.field

  pub all_sound : (old new : PointsSoFar) (ts : List Lexeme) → IsSound S A Z old → TakesAll S A Z old ts new → IsSound S A Z new
  all_sound old new [] h x = subst (IsSound S A Z) x h
  all_sound old new (t ∷ ts) h x = all_sound x.0 new ts (taken_sound old x.0 t h x.1) x.2

  pub nothing_sound : IsSound S A Z nothing_read
  nothing_sound = record {
    few = omega arith;
    rows_are = λ i row e. cc;
    in_range = λ k h e. cc;
    at = record { values_are = omega arith; names_are = omega arith; no_row = refl };
  }

  -- whole points that name points only
  pub proper_read : (ts : List Lexeme) (st : PointsSoFar) → S ≤ most_states → A ≤ most_actions → Z ≤ most_observations
      → TakesAll S A Z nothing_read ts st → st.field ≡ fields.Number
      → ((k m : ℕ) → slice_get st.names k ≡ Some (Some m) → m < length st.rows) → AreProperLists S A Z st.rows st.values st.names
  proper_read ts st few_s few_a few_z read whole bound =
      let h = all_sound nothing_read st ts nothing_sound read in
      let at = subst (λ f. IsSoundField S A Z f st) whole h.at in
      record {
        some_states = some_s;
        few_states = few_s;
        some_actions = some_a;
        few_actions = few_a;
        some_observations = some_z;
        few_observations = few_z;
        few_points = h.few;
        rows_are = h.rows_are;
        all_values = at.values_are;
        all_names = at.names_are;
        in_range = h.in_range;
        bound = bound;
      }
