-- The fields of points, one after another, are read as the points.
use Rattle.std.proofs.Common.{◌≡◌, ◌∙◌, ℕ, ℤ, pos, zero, suc, ◌+◌, ◌*◌, ◌<◌, ◌≤◌, ◌⊎◌, inl, inr, ⊎_elim, Bool, true, false, if◌then◌else◌}
use Rattle.std.proofs.Common.{Option, Some, None, List, [], ◌∷◌, ◌++◌, length, flat_map, slice_get, get_or, refl, sym, ap, subst, arith}
use Rattle.std.proofs.Common.{length-append, append_assoc, append-nil}
use Rattle.std.specs.Prelude.{◌==◌, min, codes}
use Rattle.std.proofs.lemmas.Bool.{eqb-true, eqb-false}
use Rattle.polcert_policy.proofs.Common.{common_steps, Lexeme, Numeral, Minus, range_with_len, slice_get-get_or, get_or_from_slice_get}
use Rattle.polcert_policy.proofs.Common.{numeral_kind, minus_kind, sign_kind, is_successor, successor_of}
use Rattle.polcert_cells.specs.declared.elements.Cell.{Cell}
use Rattle.polcert_cells.specs.Meaning.{sum_below}
use Rattle.polcert_cells.specs.Numbers.{IsWhole, IsNumeral}
use Rattle.polcert_cells.specs.Words.{IsWord}
use Rattle.polcert_cells.specs.Sparse.{weight_at, IsRow}
use Rattle.polcert_cells.proofs.SparseLaws.{Climbs, climbs_from, weight_head, weight_tail, weight_below, row_same}
use Rattle.polcert_text.specs.Numbers.{IsCeil}
use Rattle.polcert_policy.specs.Points.{PointValues, IsMass, IsPointRow, point_weight, value_at, named_at, most_points}
use Rattle.polcert_policy.specs.PointTokens.{PointsSoFar, nothing_read, with_weight, after_weight, field_after_name, kept_name, minus_of}
use Rattle.polcert_policy.specs.PointTokens.{sign_of, is_joined_to, is_negated, IsApart, IsWeight, TakesField, TakesAll}
use Rattle.polcert_policy.specs.PointFields as flat
use Rattle.polcert_policy.specs.PointText.{ArePointTokens}
use Rattle.polcert_policy.specs.PointFields.{Field, ArePointFields, AreFieldTokens, IsNotJoined, weight_fields, name_fields, action_fields}
use Rattle.polcert_policy.specs.PointFields.{point_fields}
use Rattle.polcert_policy.specs.declared.graph.MinusSign.{MinusSign}
use Rattle.polcert_policy.specs.declared.points_reading.PointField.{PointField}
use Rattle.polcert_policy.specs.declared.points_reading.PointField.TheVariants as fields
use Rattle.polcert_policy.proofs.Places.{get_here, some_none, same_some, order, place_inside}
use Rattle.polcert_policy.proofs.VectorLaws.{same_count}
use Rattle.polcert_policy.proofs.FlatGraphs.{is_whole_of}
use Rattle.polcert_policy.proofs.PointSound.{row_with, with_value, value_there, value_before}

-- ---- a row is determined by its weights

one_climb : (low n : ℕ) (xs ys : List Cell) → Climbs low n xs → Climbs low n ys
    → ((c : ℕ) → low ≤ c → c < n → weight_at xs c ≡ weight_at ys c) → xs ≡ ys
one_climb low n [] [] a b same = refl
one_climb low n [] (y ∷ ys) a b same =
    let e = same y.column b.0 b.1 ∙ weight_head y ys y.column refl in
    absurd (omega (arith, e, b.2))
one_climb low n (x ∷ xs) [] a b same =
    let e = sym (weight_head x xs x.column refl) ∙ same x.column a.0 a.1 in
    absurd (omega (arith, e, a.2))
one_climb low n (x ∷ xs) (y ∷ ys) a b same = at (λ k. one_climb (x.column + 1) n xs ys a.3 k) (order x.column y.column)
  where
    before : (x y : Cell) (xs ys : _) → Climbs low n (x ∷ xs) → Climbs low n (y ∷ ys)
        → ((c : ℕ) → low ≤ c → c < n → weight_at (x ∷ xs) c ≡ weight_at (y ∷ ys) c) → x.column < y.column → ⊥
    before x y xs ys a b same l =
        let e = sym (weight_head x xs x.column refl) ∙ same x.column a.0 a.1
        ∙ weight_tail y ys x.column (λ f. omega (arith, f, l)) ∙ weight_below (y.column + 1) n x.column ys b.3 (omega (arith, l)) in
        omega (arith, e, a.2)

    here : (Climbs (x.column + 1) n ys → ((c : ℕ) → x.column + 1 ≤ c → c < n → weight_at xs c ≡ weight_at ys c) → xs ≡ ys)
        → x.column ≡ y.column → x ∷ xs ≡ y ∷ ys
    here next e =
        let weights = sym (weight_head x xs x.column refl) ∙ same x.column a.0 a.1
        ∙ weight_head y ys x.column (sym e) in
        let rest = next (subst (λ c. Climbs (c + 1) n ys) (sym e) b.3)
        (λ c l k. sym (weight_tail x xs c (λ f. omega (arith, f, l))) ∙ same c (omega (arith, l, a.0)) k
        ∙ weight_tail y ys c (λ f. omega (arith, f, l, e))) in
        λ i. record { column = e i; weight = weights i } ∷ rest i

    at : (Climbs (x.column + 1) n ys → ((c : ℕ) → x.column + 1 ≤ c → c < n → weight_at xs c ≡ weight_at ys c) → xs ≡ ys)
        → (x.column < y.column) ⊎ ((x.column ≡ y.column) ⊎ (y.column < x.column)) → x ∷ xs ≡ y ∷ ys
    at next (inl l) = absurd (before x y xs ys a b same l)
    at next (inr (inl e)) = here next e
    at next (inr (inr l)) = absurd (before y x ys xs b a (λ c k m. sym (same c k m)) l)

one_row : (n : ℕ) (f : ℕ → ℕ) (xs ys : List Cell) → IsRow n f xs → IsRow n f ys → xs ≡ ys
one_row n f xs ys a b = one_climb 0 n xs ys (climbs_from n xs a.sparse) (climbs_from n ys b.sparse) (λ c l k. a.each c k ∙ sym (b.each c k))

below_or_same : (c s : ℕ) → c ≤ s → (c < s) ⊎ (c ≡ s)
below_or_same c s l = grind arith

plus_zero : (m : ℕ) → m ≡ m + 0
plus_zero m = omega arith

row_end : (m z w : ℕ) → suc z ≡ w → m * w + suc z ≡ suc m * w
row_end m z w e = let next : suc m * w ≡ m * w + w = omega arith in omega (arith, next, e)

-- ---- lists that begin others

abbrev Begins : {X : Type 0} → List X → List X → Type 0
Begins xs ys = (more : List _) × (ys ≡ xs ++ more)

next_begins : {X : Type 0} (xs ys : List X) (k : ℕ) (d : X) → Begins xs ys → length xs ≡ k → k < length ys
    → Begins (xs ++ get_or ys k d ∷ []) ys
next_begins xs ys k d b l inside = at b.0 b.1
  where
    at : (more : _) → ys ≡ xs ++ more → Begins (xs ++ get_or ys k d ∷ []) ys
    at [] e = let same = ap length (e ∙ append-nil xs) in absurd (omega arith)
    at (y ∷ more) e =
        let here = ap (λ n. slice_get ys n) (sym l) ∙ ap (λ zs. slice_get zs (length xs)) e
        ∙ get_here xs more y in
        (more, e ∙ sym (append_assoc xs (y ∷ []) more) ∙ ap (λ z. (xs ++ z ∷ []) ++ more) (sym (get_or_from_slice_get ys k y d here)))

whole_begins : {X : Type 0} (xs ys : List X) → Begins xs ys → length xs ≡ length ys → xs ≡ ys
whole_begins xs ys b l = sym (b.1 ∙ same_count xs b.0 (sym (ap length b.1) ∙ sym l))

-- ---- the first field

inv_number : (t : Lexeme) (ts : List Lexeme) (n : ℕ) (fs : List Field) → ArePointFields (t ∷ ts) (flat.number_field n ∷ fs) → IsWhole t n
    × ArePointFields ts fs
inv_number t ts n fs (flat.number is rest) = (is, rest)

inv_weight : (t : Lexeme) (ts : List Lexeme) (w : ℕ) (fs : List Field) → ArePointFields (t ∷ ts) (flat.weight_field w ∷ fs)
    → (t.kind ≡ Numeral)
    × IsWeight t.bytes w × ArePointFields ts fs
inv_weight t ts w fs (flat.weight kind is rest) = (kind, is, rest)

-- the numeral of a value after its sign
abbrev IsSigned : Bool → ℤ → List Lexeme → List Field → Type 0
IsSigned negative h [] fs = ⊥
IsSigned negative h (t ∷ ts) fs = IsNumeral IsCeil negative t h × ArePointFields ts fs

inv_value : (t : Lexeme) (ts : List Lexeme) (h : ℤ) (fs : List Field) → ArePointFields (t ∷ ts) (flat.value_field h ∷ fs)
    → (IsNumeral IsCeil false t h × ArePointFields ts fs) ⊎ ((sign_kind t.kind ≡ true) × IsSigned (minus_kind t.kind) h ts fs)
inv_value t ts h fs (flat.unsigned is rest) = inl (is, rest)
inv_value t (u ∷ us) h fs (flat.plus e is rest) = inr
    (ap sign_kind e, (subst (λ b. IsNumeral IsCeil b u h) (sym (ap minus_kind e)) is, rest))
inv_value t (u ∷ us) h fs (flat.minus e is rest) = inr
    (ap sign_kind e, (subst (λ b. IsNumeral IsCeil b u h) (sym (ap minus_kind e)) is, rest))

-- the token names this point or none
abbrev IsNameOf : Lexeme → List Lexeme → Option ℕ → Type 0
IsNameOf t ts (Some n) = IsWhole t n
IsNameOf t ts None = IsWord (codes "X") t ⊎ ((t.kind ≡ Minus) × IsNotJoined t ts)

inv_name : (t : Lexeme) (ts : List Lexeme) (v : Option ℕ) (fs : List Field) → ArePointFields (t ∷ ts) (flat.name_field v ∷ fs)
    → IsNameOf t ts v
    × ArePointFields ts fs
inv_name t ts (Some n) fs (flat.named is rest) = (is, rest)
inv_name t ts None fs (flat.x is rest) = (inl is, rest)
inv_name t ts None fs (flat.dash kind apart rest) = (inr (kind, apart), rest)

-- the next token is apart from the `-`
abbrev NextApart : Option MinusSign → List Lexeme → Type 0
NextApart minus [] = Unit {0}
NextApart minus (t ∷ ts) = IsApart minus t

no_minus : (ts : List Lexeme) → NextApart None ts
no_minus [] = tt
no_minus (t ∷ ts) = λ m e. absurd (some_none m e)

name_is : (t : Lexeme) (ts : List Lexeme) (v : Option ℕ) → IsNameOf t ts v → (is_successor t ≡ true) × (successor_of t ≡ v)
name_is t ts (Some n) is =
    let whole = is_whole_of t n is in
    let kind = is.kind in
    let value = is.value in
    let right : is_successor t ≡ true = grind arith in
    let same : successor_of t ≡ Some n = grind arith in
    (right, same)
name_is t ts None (inl is) =
    let kind = is.kind in
    let bytes = is.bytes in
    let right : is_successor t ≡ true = grind arith in
    let same : successor_of t ≡ None = grind arith in
    (right, same)
name_is t ts None (inr is) =
    let kind = is.0 in
    let right : is_successor t ≡ true = grind arith in
    (right, grind arith)

name_apart : (t : Lexeme) (ts : List Lexeme) (v : Option ℕ) → IsNameOf t ts v → NextApart (minus_of t) ts
name_apart t [] v is = tt
name_apart t (u ∷ us) v is = λ m e. by v is m e
  where
    none : (minus_kind t.kind ≡ false) → (m : _) → minus_of t ≡ Some m → is_joined_to m u ≡ false
    none k m e = absurd (some_none m (ap (λ b. if b then Some (record { place = t.place; stop = t.place + length t.bytes }) else None)
        (sym k) ∙ e))

    by : (w : _) → IsNameOf t (u ∷ us) w → (m : _) → minus_of t ≡ Some m → is_joined_to m u ≡ false
    by (Some n) h m e = none (ap minus_kind h.kind) m e
    by None (inl h) m e = none (ap minus_kind h.kind) m e
    by None (inr h) m e =
        let at =
        sym (same_some _ m
        (ap (λ b. if b then Some (record { place = t.place; stop = t.place + length t.bytes }) else None) (sym (ap minus_kind h.0)) ∙ e))
        in
        subst (λ k. is_joined_to k u ≡ false) (sym at) (apart u _ h.1)
      where
        apart : (u : Lexeme) (stop : ℕ) → (u.kind ≡ Numeral → u.place ≡ stop → ⊥)
            → is_joined_to (record { place = t.place; stop = stop }) u ≡ false
        apart u stop h = grind arith

module _ (S A Z : ℕ) (some_s : 1 ≤ S) (some_a : 1 ≤ A) (some_z : 1 ≤ Z) (rows : List (List Cell)) (values : List ℤ)
    (names : List (Option ℕ))
    (few : length rows ≤ most_points) (rows_are : (i : ℕ) (row : List Cell) → slice_get rows i ≡ Some row → IsPointRow S row)
    (all_values : length values ≡ length rows * A) (all_names : length names ≡ length rows * A * Z)
    (bound : (k m : ℕ) → slice_get names k ≡ Some (Some m) → m < length rows) where
  abbrev p : PointValues
  p = record { states = S; actions = A; observations = Z; rows = rows; values = values; names = names }

  abbrev rest_points : ℕ → ℕ → List Field
  rest_points n k = flat_map (point_fields p) (range_with_len n k)

  abbrev rest_actions : ℕ → ℕ → ℕ → ℕ → List Field
  rest_actions i a k r = flat_map (action_fields p i) (range_with_len a k) ++ rest_points (i + 1) r

  abbrev rest_names : ℕ → ℕ → ℕ → ℕ → ℕ → ℕ → List Field
  rest_names i a z j k r = name_fields p i a (range_with_len z j) ++ rest_actions i (a + 1) k r

  abbrev rest_weights : ℕ → ℕ → ℕ → ℕ → List Field
  rest_weights i s j r = weight_fields p i (range_with_len s j) ++ rest_actions i 0 A r

  abbrev rest_here : ℕ → ℕ → ℕ → ℕ → List Field
  rest_here i a k r = (name_fields p i a (range_with_len 0 Z) ++ flat_map (action_fields p i) (range_with_len (a + 1) k)) ++ rest_points
      (i + 1) r

  abbrev named : PointsSoFar → Lexeme → PointField → PointsSoFar
  named old t f = record old { minus = minus_of t; field = f; names = old.names ++ kept_name (successor_of t) ∷ [] }

  -- what was read begins the points
  pub record Fronts (value_count name_count : ℕ) (rs : List (List Cell)) (vs : List ℤ) (ns : List (Option ℕ)) : Type 0 where
    pub rows_begin : Begins rs rows
    pub values_begin : Begins vs values
    pub names_begin : Begins ns names
    pub values_are : length vs ≡ value_count
    pub names_are : length ns ≡ name_count

  abbrev pub Front : ℕ → ℕ → PointsSoFar → Type 0
  Front value_count name_count old = Fronts value_count name_count old.rows old.values old.names

  pub record AtNumber (old : PointsSoFar) (ts : List Lexeme) : Type 0 where
    pub closed : old.sign ≡ None
    pub left : ℕ
    pub count : length old.rows + left ≡ length rows
    pub front : Front (length old.rows * A) (length old.rows * A * Z) old
    pub row : old.row ≡ []
    pub tokens : ArePointFields ts (rest_points (length old.rows) left)

  pub record AtWeight (s : ℕ) (old : PointsSoFar) (ts : List Lexeme) : Type 0 where
    pub closed : old.sign ≡ None
    pub states_left : ℕ
    pub left : ℕ
    pub state : s < S
    pub states_count : s + states_left ≡ S
    pub count : length old.rows + 1 + left ≡ length rows
    pub front : Front (length old.rows * A) (length old.rows * A * Z) old
    pub row : IsRow s (point_weight p (length old.rows)) old.row
    pub mass : old.mass ≡ sum_below (point_weight p (length old.rows)) s
    pub tokens : ArePointFields ts (rest_weights (length old.rows) s states_left left)

  pub record AtValue (a : ℕ) (old : PointsSoFar) (ts : List Lexeme) : Type 0 where
    pub point : ℕ
    pub actions_left : ℕ
    pub left : ℕ
    pub point_is : length old.rows ≡ point + 1
    pub action : a < A
    pub actions_count : a + actions_left ≡ A
    pub count : point + 1 + left ≡ length rows
    pub front : Front (point * A + a) ((point * A + a) * Z) old
    pub row : old.row ≡ []
    pub tokens : ((old.sign ≡ None) × ArePointFields ts (rest_actions point a actions_left left))
        ⊎ ((k : ℕ) × (actions_left ≡ suc k) × IsSigned (is_negated old.sign) (value_at p point a) ts (rest_names point a 0 Z k left))

  pub record AtName (a z : ℕ) (old : PointsSoFar) (ts : List Lexeme) : Type 0 where
    pub closed : old.sign ≡ None
    pub point : ℕ
    pub names_left : ℕ
    pub actions_left : ℕ
    pub left : ℕ
    pub point_is : length old.rows ≡ point + 1
    pub action : a < A
    pub observation : z < Z
    pub names_count : z + names_left ≡ Z
    pub actions_count : a + 1 + actions_left ≡ A
    pub count : point + 1 + left ≡ length rows
    pub front : Front (point * A + suc a) ((point * A + a) * Z + z) old
    pub row : old.row ≡ []
    pub tokens : ArePointFields ts (rest_names point a z names_left actions_left left)

  abbrev At : PointField → PointsSoFar → List Lexeme → Type 0
  At fields.Number old ts = AtNumber old ts
  At (fields.Weight s) old ts = AtWeight s old ts
  At (fields.Value a) old ts = AtValue a old ts
  At (fields.Name a z) old ts = AtName a z old ts

  pub record Next (old : PointsSoFar) (t : Lexeme) (ts : List Lexeme) : Type 0 where
    pub between : PointsSoFar
    pub takes : TakesField S A Z old.field (record old { minus = None }) t between
    pub apart : NextApart between.minus ts
    pub at : At between.field between ts

  pub record Done (old : PointsSoFar) (ts : List Lexeme) : Type 0 where
    pub last : PointsSoFar
    pub read : TakesAll S A Z old ts last
    pub whole : last.field ≡ fields.Number
    pub same_rows : last.rows ≡ rows
    pub same_values : last.values ≡ values
    pub same_names : last.names ≡ names

  field_taken : (f : PointField) (old new : PointsSoFar) (t : Lexeme) → old.field ≡ f
      → TakesField S A Z f (record old { minus = None }) t new → TakesField S A Z old.field (record old { minus = None }) t new
  field_taken f old new t e x = subst (λ g. TakesField S A Z g (record old { minus = None }) t new) (sym e) x

  -- ---- the number

  number_next : (k : ℕ) (old : PointsSoFar) (t : Lexeme) (ts : List Lexeme) → old.field ≡ fields.Number → old.sign ≡ None
      → length old.rows + k ≡ length rows → Front (length old.rows * A) (length old.rows * A * Z) old → old.row ≡ []
      → ArePointFields (t ∷ ts) (rest_points (length old.rows) k) → Next old t ts
  number_next zero old t ts e closed l front row h = elim h [ ]
  number_next (suc k) old t ts e closed l front row h =
      let n = length old.rows in
      let parts = inv_number t ts n ((weight_fields p n (range_with_len 0 S) ++ flat_map (action_fields p n) (range_with_len 0 A)) ++
      rest_points (n + 1) k) h in
      record {
        between = record old { minus = None; field = fields.Weight 0; mass = 0 };
        takes = field_taken fields.Number old (record old { minus = None; field = fields.Weight 0; mass = 0 }) t e
            (record { few = omega (arith, few, l); whole = is_whole_of t n parts.0; number = parts.0.value; new_is = refl });
        apart = no_minus ts;
        at = record {
          closed = closed;
          states_left = S;
          left = k;
          state = some_s;
          states_count = omega arith;
          count = omega (arith, l);
          front = front;
          row = subst (IsRow 0 (point_weight p n)) (sym row) (record {
            sparse = record {
              rising = grind (arith, common_steps);
              within = grind (arith, common_steps);
              some = grind (arith, common_steps);
            };
            each = λ c l. absurd (omega (arith, l));
          });
          mass = refl;
          tokens = subst (ArePointFields ts) (append_assoc (weight_fields p n (range_with_len 0 S))
              (flat_map (action_fields p n) (range_with_len 0 A)) (rest_points (n + 1) k)) parts.1;
        };
      }

  -- ---- a weight

  row_is : (n : ℕ) → n < length rows → IsPointRow S (get_or rows n [])
  row_is n l = rows_are n _ (slice_get-get_or rows n [] l)

  row_next : (n s : ℕ) (row : List Cell) → IsRow s (point_weight p n) row
      → IsRow (suc s) (point_weight p n) (with_weight s (point_weight p n s) row)
  row_next n s row r =
      row_same (suc s) _ _ _
      same
      (row_with _ s _ row r)
    where
      same : (c : ℕ) → c < suc s → with_value (point_weight p n) s (point_weight p n s) c ≡ point_weight p n c
      same c l = ⊎_elim (λ (k : c < s). value_before (point_weight p n) s _ c k) (λ (e : c ≡ s). ap (with_value (point_weight p n) s _) e
          ∙ value_there (point_weight p n) s _
          ∙ ap (point_weight p n) (sym e)) (below_or_same c s (omega (arith, l)))

  abbrev weight_of : PointsSoFar → ℕ → ℕ
  weight_of old s = point_weight p (length old.rows) s

  abbrev row_of : PointsSoFar → ℕ → List Cell
  row_of old s = with_weight s (weight_of old s) old.row

  weight_next : (j : ℕ) (s : ℕ) (old : PointsSoFar) (t : Lexeme) (ts : List Lexeme) → old.field ≡ fields.Weight s
      → (at : AtWeight s old (t ∷ ts)) → at.states_left ≡ j → ArePointFields (t ∷ ts) (rest_weights (length old.rows) s j at.left)
      → Next old t ts
  weight_next zero s old t ts e at is h = absurd (omega (arith, at.state, at.states_count, is))
  weight_next (suc j) s old t ts e at is h = by (suc s == S) refl
    where
      parts : (t.kind ≡ Numeral) × IsWeight t.bytes (weight_of old s)
          × ArePointFields ts (rest_weights (length old.rows) (s + 1) j at.left)
      parts = inv_weight t ts (weight_of old s) (rest_weights (length old.rows) (s + 1) j at.left) h

      row : IsRow (suc s) (point_weight p (length old.rows)) (row_of old s)
      row = row_next (length old.rows) s old.row at.row

      mass : old.mass + weight_of old s ≡ sum_below (point_weight p (length old.rows)) (suc s)
      mass = ap (λ m. m + weight_of old s) at.mass

      inside : length old.rows < length rows
      inside = omega (arith, at.count)

      is_mass : suc s ≡ S → IsMass (old.mass + weight_of old s)
      is_mass last = subst IsMass (sym (mass ∙ ap (sum_below (point_weight p (length old.rows))) last))
          (row_is (length old.rows) inside).mass

      takes : (new : _) → new ≡ after_weight S s (weight_of old s) (record old { minus = None })
          → TakesField S A Z old.field (record old { minus = None }) t new
      takes new same = field_taken (fields.Weight s) old new t e (record {
        weight = weight_of old s;
        numeral = ap numeral_kind parts.0;
        is_weight = parts.1;
        is_mass = is_mass;
        new_is = same;
      })

      by : (b : Bool) → (suc s == S) ≡ b → Next old t ts
      by true is_last =
          let last = eqb-true (suc s) S is_last in
          let final : row_of old s ≡ get_or rows (length old.rows) [] =
          one_row S (point_weight p (length old.rows)) _ _ (subst
          (λ m. IsRow m (point_weight p (length old.rows)) (row_of old s)) last row)
          (record { sparse = (row_is (length old.rows) inside).sparse; each = λ c l. refl }) in
          let new : PointsSoFar = record old {
            minus = None;
            field = fields.Value 0;
            mass = old.mass + weight_of old s;
            row = [];
            rows = old.rows ++ row_of old s ∷ [];
          } in
          let none : j ≡ 0 = omega (arith, at.states_count, is, last) in
          record {
            between = new;
            takes = takes new (rw is_last refl);
            apart = no_minus ts;
            at = record {
              point = length old.rows;
              actions_left = A;
              left = at.left;
              point_is = length-append old.rows (row_of old s ∷ []);
              action = some_a;
              actions_count = omega arith;
              count = at.count;
              front = record {
                rows_begin = subst (λ r. Begins (old.rows ++ r ∷ []) rows) (sym final)
                    (next_begins old.rows rows (length old.rows) [] at.front.rows_begin refl inside);
                values_begin = at.front.values_begin;
                names_begin = at.front.names_begin;
                values_are = omega (arith, at.front.values_are);
                names_are = at.front.names_are ∙ ap (λ m. m * Z) (plus_zero (length old.rows * A));
              };
              row = refl;
              tokens = inl (at.closed, subst (λ k. ArePointFields ts (rest_weights (length old.rows) (s + 1) k at.left)) none parts.2);
            };
          }
      by false is_last =
          let inner = eqb-false (suc s) S is_last in
          let new : PointsSoFar = record old {
            minus = None;
            field = fields.Weight (suc s);
            mass = old.mass + weight_of old s;
            row = row_of old s;
          } in
          let one : s + 1 ≡ suc s = omega arith in
          record {
            between = new;
            takes = takes new (rw is_last refl);
            apart = no_minus ts;
            at = record {
              closed = at.closed;
              states_left = j;
              left = at.left;
              state = omega (arith, at.state, inner);
              states_count = omega (arith, at.states_count, is);
              count = at.count;
              front = at.front;
              row = row;
              mass = mass;
              tokens = subst (λ c. ArePointFields ts (rest_weights (length old.rows) c j at.left)) one parts.2;
            };
          }

  -- ---- a value

  value_inside : (i a : ℕ) → i < length rows → a < A → i * A + a < length values
  value_inside i a l k = omega (arith, place_inside A i a (length rows) l k, all_values)

  name_inside : (i a z : ℕ) → i < length rows → a < A → z < Z → (i * A + a) * Z + z < length names
  name_inside i a z l k m = omega (
    arith,
    place_inside Z (i * A + a) z (length rows * A) (place_inside A i a (length rows) l k) m,
    all_names,
  )

  value_next : (a : ℕ) (old : PointsSoFar) (t : Lexeme) (ts : List Lexeme) → old.field ≡ fields.Value a → (at : AtValue a old (t ∷ ts))
      → (k : ℕ) → at.actions_left ≡ suc k
      → IsNumeral IsCeil (is_negated old.sign) t (value_at p at.point a) → ArePointFields ts (rest_names at.point a 0 Z k at.left)
      → Next old t ts
  value_next a old t ts e at k is numeral rest =
      let h = value_at p at.point a in
      let inside = value_inside at.point a (omega (arith, at.count)) at.action in
      let new : PointsSoFar = record old {
        minus = None;
        field = fields.Name a 0;
        sign = None;
        values = old.values ++ value_at p at.point a ∷ [];
      } in
      record {
        between = new;
        takes = field_taken (fields.Value a) old new t e (inr (record {
          value = h;
          numeral = ap numeral_kind numeral.kind;
          readable = numeral.readable;
          rounded = numeral.value;
          new_is = refl;
        }));
        apart = no_minus ts;
        at = record {
          closed = refl;
          point = at.point;
          names_left = Z;
          actions_left = k;
          left = at.left;
          point_is = at.point_is;
          action = at.action;
          observation = some_z;
          names_count = omega arith;
          actions_count = omega (arith, at.actions_count, is);
          count = at.count;
          front = record {
            rows_begin = at.front.rows_begin;
            values_begin = next_begins old.values values (at.point * A + a) (pos 0) at.front.values_begin at.front.values_are inside;
            names_begin = at.front.names_begin;
            values_are = omega (arith, length-append old.values (value_at p at.point a ∷ []), at.front.values_are);
            names_are = at.front.names_are ∙ plus_zero ((at.point * A + a) * Z);
          };
          row = at.row;
          tokens = rest;
        };
      }

  -- a sign, or a numeral without one
  unsigned_next : (j : ℕ) (a : ℕ) (old : PointsSoFar) (t : Lexeme) (ts : List Lexeme) → old.field ≡ fields.Value a
      → (at : AtValue a old (t ∷ ts)) → at.actions_left ≡ j → old.sign ≡ None → ArePointFields (t ∷ ts) (rest_actions at.point a j at.left)
      → Next old t ts
  unsigned_next zero a old t ts e at is closed h = absurd (omega (arith, at.action, at.actions_count, is))
  unsigned_next (suc k) a old t ts e at is closed h = by (inv_value t ts (value_at p at.point a) (rest_here at.point a k at.left) h)
    where
      regroup : (ts : _) → ArePointFields ts (rest_here at.point a k at.left)
          → ArePointFields ts (rest_names at.point a 0 Z k at.left)
      regroup ts x = subst (ArePointFields ts) (append_assoc (name_fields p at.point a (range_with_len 0 Z)) _ _) x

      signed : (us : _) (b : Bool) → IsSigned b (value_at p at.point a) us
          (rest_here at.point a k at.left)
          → IsSigned b (value_at p at.point a) us (rest_names at.point a 0 Z k at.left)
      signed [] b x = x
      signed (u ∷ us) b x = (x.0, regroup us x.1)

      by : (IsNumeral IsCeil false t (value_at p at.point a)
          × ArePointFields ts (rest_here at.point a k at.left))
          ⊎ ((sign_kind t.kind ≡ true) × IsSigned (minus_kind t.kind) (value_at p at.point a) ts
          (rest_here at.point a k at.left)) → Next old t ts
      by (inl x) = value_next a old t ts e at k is (subst (λ s. IsNumeral IsCeil (is_negated s) t (value_at p at.point a)) (sym closed) x.0)
          (regroup ts x.1)
      by (inr x) =
          let new : PointsSoFar = record old { minus = None; sign = Some (sign_of t) } in
          record {
            between = new;
            takes = field_taken (fields.Value a) old new t e (inl (record { first = closed; sign = x.0; new_is = refl }));
            apart = no_minus ts;
            at = subst (λ f. At f new ts) (sym e) (record {
              point = at.point;
              actions_left = at.actions_left;
              left = at.left;
              point_is = at.point_is;
              action = at.action;
              actions_count = at.actions_count;
              count = at.count;
              front = at.front;
              row = at.row;
              tokens = inr (k, is, signed ts (minus_kind t.kind) x.1);
            });
          }

  -- ---- the name of a point

  kept_here : (v : Option ℕ) → ((m : ℕ) → v ≡ Some m → m < length rows) → kept_name v ≡ v
  kept_here v below = at v below
    where
      small : (m : ℕ) → m < length rows → min 1_000_000 m ≡ m
      small m l = let most : m < most_points = omega (arith, l, few) in grind (arith, most)

      at : (w : _) → ((m : ℕ) → w ≡ Some m → m < length rows) → kept_name w ≡ w
      at None h = refl
      at (Some m) h = ap Some (small m (h m refl))

  name_next : (j : ℕ) (a z : ℕ) (old : PointsSoFar) (t : Lexeme) (ts : List Lexeme) → old.field ≡ fields.Name a z
      → (at : AtName a z old (t ∷ ts)) → at.names_left ≡ j → ArePointFields (t ∷ ts) (rest_names at.point a z j at.actions_left at.left)
      → Next old t ts
  name_next zero a z old t ts e at is h = absurd (omega (arith, at.observation, at.names_count, is))
  name_next (suc j) a z old t ts e at is h = by (suc z == Z) (suc a == A) refl refl
    where
      parts : IsNameOf t ts (named_at p at.point a z) × ArePointFields ts (rest_names at.point a (z + 1) j at.actions_left at.left)
      parts = inv_name t ts (named_at p at.point a z) (rest_names at.point a (z + 1) j at.actions_left at.left) h

      inside : (at.point * A + a) * Z + z < length names
      inside = name_inside at.point a z (omega (arith, at.count)) at.action at.observation

      below : (m : ℕ) → named_at p at.point a z ≡ Some m → m < length rows
      below m named = bound ((at.point * A + a) * Z + z) m (slice_get-get_or names ((at.point * A + a) * Z + z) None inside ∙ ap Some named)

      kept : kept_name (successor_of t) ≡ named_at p at.point a z
      kept = ap kept_name (name_is t ts (named_at p at.point a z) parts.0).1 ∙ kept_here (named_at p at.point a z) below

      names_then : Begins (old.names ++ kept_name (successor_of t) ∷ []) names
      names_then = subst (λ w. Begins (old.names ++ w ∷ []) names) (sym kept)
          (next_begins old.names names ((at.point * A + a) * Z + z) None at.front.names_begin at.front.names_are inside)

      names_count : length (old.names ++ kept_name (successor_of t) ∷ []) ≡ (at.point * A + a) * Z + suc z
      names_count = omega (arith, length-append old.names (kept_name (successor_of t) ∷ []), at.front.names_are)

      takes : (new : _) → new ≡ named old t (field_after_name A Z a z)
          → TakesField S A Z old.field (record old { minus = None }) t new
      takes new same = field_taken (fields.Name a z) old new t e
          (record { names = (name_is t ts (named_at p at.point a z) parts.0).0; new_is = same })

      front : (values_count count : ℕ) (f : _) → length old.values ≡ values_count
          → length (old.names ++ kept_name (successor_of t) ∷ []) ≡ count
          → Front values_count count (named old t f)
      front values_count count f l m = record {
        rows_begin = at.front.rows_begin;
        values_begin = at.front.values_begin;
        names_begin = names_then;
        values_are = l;
        names_are = m;
      }

      next : (f : _) → f ≡ field_after_name A Z a z
          → At f (named old t f) ts → Next old t ts
      next f same there = record {
        between = named old t f;
        takes = takes (named old t f) (ap (named old t) same);
        apart = name_apart t ts (named_at p at.point a z) parts.0;
        at = there;
      }

      by : (b c : Bool) → (suc z == Z) ≡ b → (suc a == A) ≡ c → Next old t ts
      by true true iz ia =
          let last_z = eqb-true (suc z) Z iz in
          let last_a = eqb-true (suc a) A ia in
          let no_name : j ≡ 0 = omega (arith, at.names_count, is, last_z) in
          let no_action : at.actions_left ≡ 0 = omega (arith, at.actions_count, last_a) in
          let whole : suc (at.point * A + a) ≡ length old.rows * A = omega (arith, row_end at.point a A last_a)
          ∙ ap (λ n. n * A) (next_point ∙ sym at.point_is) in
          next fields.Number (rw (iz, ia) refl) (record {
            closed = at.closed;
            left = at.left;
            count = omega (arith, at.count, at.point_is);
            front = front _ _ fields.Number (omega (arith, at.front.values_are, whole))
                (names_count ∙ row_end (at.point * A + a) z Z last_z ∙ ap (λ n. n * Z) whole);
            row = at.row;
            tokens = subst (λ n. ArePointFields ts (rest_points n at.left)) (sym at.point_is)
                (subst (λ k. ArePointFields ts (rest_actions at.point (a + 1) k at.left)) no_action
                (subst (λ x. ArePointFields ts (rest_names at.point a (z + 1) x at.actions_left at.left)) no_name parts.1));
          })
        where
          next_point : suc at.point ≡ at.point + 1
          next_point = omega arith
      by true false iz ia =
          let last_z = eqb-true (suc z) Z iz in
          let inner_a = eqb-false (suc a) A ia in
          let no_name : j ≡ 0 = omega (arith, at.names_count, is, last_z) in
          let one : a + 1 ≡ suc a = omega arith in
          let more : suc (at.point * A + a) ≡ at.point * A + suc a = omega arith in
          next (fields.Value (suc a)) (rw (iz, ia) refl) (record {
            point = at.point;
            actions_left = at.actions_left;
            left = at.left;
            point_is = at.point_is;
            action = omega (arith, at.action, inner_a);
            actions_count = omega (arith, at.actions_count);
            count = at.count;
            front = front _ _ (fields.Value (suc a)) at.front.values_are
                (names_count ∙ row_end (at.point * A + a) z Z last_z ∙ ap (λ n. n * Z) more);
            row = at.row;
            tokens = inl (
              at.closed,
              subst (λ b. ArePointFields ts (rest_actions at.point b at.actions_left at.left)) one
                  (subst (λ x. ArePointFields ts (rest_names at.point a (z + 1) x at.actions_left at.left)) no_name parts.1),
            );
          })
      by false c iz ia =
          let inner_z = eqb-false (suc z) Z iz in
          let one : z + 1 ≡ suc z = omega arith in
          next (fields.Name a (suc z)) (rw iz refl) (record {
            closed = at.closed;
            point = at.point;
            names_left = j;
            actions_left = at.actions_left;
            left = at.left;
            point_is = at.point_is;
            action = at.action;
            observation = omega (arith, at.observation, inner_z);
            names_count = omega (arith, at.names_count, is);
            actions_count = at.actions_count;
            count = at.count;
            front = front _ _ (fields.Name a (suc z)) at.front.values_are names_count;
            row = at.row;
            tokens = subst (λ x. ArePointFields ts (rest_names at.point a x j at.actions_left at.left)) one parts.1;
          })

  -- ---- all tokens

  next_of : (f : PointField) (old : PointsSoFar) (t : Lexeme) (ts : List Lexeme) → old.field ≡ f → At f old (t ∷ ts) → Next old t ts
  next_of fields.Number old t ts e at = number_next at.left old t ts e at.closed at.count at.front at.row at.tokens
  next_of (fields.Weight s) old t ts e at = weight_next at.states_left s old t ts e at refl at.tokens
  next_of (fields.Value a) old t ts e at = by at.tokens
    where
      by : ((old.sign ≡ None) × ArePointFields (t ∷ ts) (rest_actions at.point a at.actions_left at.left))
          ⊎ ((k : ℕ) × (at.actions_left ≡ suc k) × IsSigned (is_negated old.sign) (value_at p at.point a) (t ∷ ts)
          (rest_names at.point a 0 Z k at.left)) → Next old t ts
      by (inl x) = unsigned_next _ a old t ts e at refl x.0 x.1
      by (inr x) = value_next a old t ts e at x.0 x.1 x.2.0 x.2.1
  next_of (fields.Name a z) old t ts e at = name_next at.names_left a z old t ts e at refl at.tokens

  no_fields : (f : Field) (fs : List Field) → ArePointFields [] (f ∷ fs) → ⊥
  no_fields f fs h = elim h [ ]

  number_end : (k : ℕ) (old : PointsSoFar) → old.field ≡ fields.Number → length old.rows + k ≡ length rows
      → Front (length old.rows * A) (length old.rows * A * Z) old → ArePointFields [] (rest_points (length old.rows) k) → Done old []
  number_end zero old e l front h =
      let whole : length old.rows ≡ length rows = omega (arith, l) in
      let of_actions = ap (λ n. n * A) whole in
      record {
        last = old;
        read = refl;
        whole = e;
        same_rows = whole_begins old.rows rows front.rows_begin whole;
        same_values = whole_begins old.values values front.values_begin (front.values_are ∙ of_actions ∙ sym all_values);
        same_names = whole_begins old.names names front.names_begin (front.names_are ∙ ap (λ n. n * Z) of_actions ∙ sym all_names);
      }
  number_end (suc k) old e l front h = absurd (no_fields _ _ h)

  weight_end : (j s : ℕ) (old : PointsSoFar) (r : ℕ) → s < S → s + j ≡ S → ArePointFields [] (rest_weights (length old.rows) s j r) → ⊥
  weight_end zero s old r l m h = omega (arith, l, m)
  weight_end (suc j) s old r l m h = no_fields _ _ h

  value_end : (k a i r : ℕ) → a < A → a + k ≡ A → ArePointFields [] (rest_actions i a k r) → ⊥
  value_end zero a i r l m h = omega (arith, l, m)
  value_end (suc k) a i r l m h = no_fields _ _ h

  name_end : (j a z i k r : ℕ) → z < Z → z + j ≡ Z → ArePointFields [] (rest_names i a z j k r) → ⊥
  name_end zero a z i k r l m h = omega (arith, l, m)
  name_end (suc j) a z i k r l m h = no_fields _ _ h

  ended : (f : PointField) (old : PointsSoFar) → old.field ≡ f → At f old [] → Done old []
  ended fields.Number old e at = number_end at.left old e at.count at.front at.tokens
  ended (fields.Weight s) old e at = absurd (weight_end at.states_left s old at.left at.state at.states_count at.tokens)
  ended (fields.Value a) old e at = absurd (by at.tokens)
    where
      by : ((old.sign ≡ None) × ArePointFields [] (rest_actions at.point a at.actions_left at.left))
          ⊎ ((k : ℕ) × (at.actions_left ≡ suc k) × IsSigned (is_negated old.sign) (value_at p at.point a) []
          (rest_names at.point a 0 Z k at.left)) → ⊥
      by (inl x) = value_end _ a at.point at.left at.action at.actions_count x.1
      by (inr x) = x.2
  ended (fields.Name a z) old e at = absurd (name_end at.names_left a z at.point _ at.left at.observation at.names_count at.tokens)

  taken : (ts : List Lexeme) (old : PointsSoFar) → NextApart old.minus ts → At old.field old ts → Done old ts
  taken [] old apart at = ended old.field old refl at
  taken (t ∷ ts) old apart at =
      let n = next_of old.field old t ts refl at in
      let rest = taken ts n.between n.apart n.at in
      record {
        last = rest.last;
        read = (n.between, record { apart = apart; field = n.takes }, rest.read);
        whole = rest.whole;
        same_rows = rest.same_rows;
        same_values = rest.same_values;
        same_names = rest.same_names;
      }

  -- the fields of all points are read as the points
  pub all_taken : (ts : List Lexeme) → ArePointFields ts (rest_points 0 (length rows)) → ArePointTokens S A Z ts p
  all_taken ts h =
      let done = taken ts nothing_read (no_minus ts) (record {
        closed = refl;
        left = length rows;
        count = omega arith;
        front = record {
          rows_begin = (rows, refl);
          values_begin = (values, refl);
          names_begin = (names, refl);
          values_are = omega arith;
          names_are = omega arith;
        };
        row = refl;
        tokens = h;
      }) in
      record {
        loose = record {
          last = done.last;
          read = done.read;
          whole = done.whole;
          points_are = λ i. record {
            states = S;
            actions = A;
            observations = Z;
            rows = sym done.same_rows i;
            values = sym done.same_values i;
            names = sym done.same_names i;
          };
        };
        bound = bound;
      }

-- tokens that are the fields of points are read as the points
pub from_fields : (S A Z : ℕ) (ts : List Lexeme) (p : PointValues) → 1 ≤ S → 1 ≤ A → 1 ≤ Z → AreFieldTokens S A Z ts p
    → ArePointTokens S A Z ts p
from_fields S A Z ts p some_s some_a some_z are =
    let same : p ≡ record { states = S; actions = A; observations = Z; rows = p.rows; values = p.values; names = p.names } =
    λ i. record {
      states = are.states_are i;
      actions = are.actions_are i;
      observations = are.observations_are i;
      rows = p.rows;
      values = p.values;
      names = p.names;
    } in
    let fields_are = subst (λ q. ArePointFields ts (flat_map (point_fields q) (range_with_len 0 (length q.rows)))) same are.fields in
    subst (ArePointTokens S A Z ts) (sym same) (all_taken S A Z some_s some_a some_z p.rows p.values p.names are.few are.rows_are
    are.all_values are.all_names are.bound ts fields_are)
