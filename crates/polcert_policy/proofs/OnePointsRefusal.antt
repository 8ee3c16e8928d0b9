-- A text is at most one list of points, and is refused as points for one reason.
use Rattle.polcert_policy.specs.declared.points_reading.PointField.{PointField}
use Rattle.std.proofs.Common.{◌≡◌, ◌≢◌, ◌∙◌, ℕ, ◌+◌, ◌*◌, ◌<◌, ◌≤◌, ◌⊎◌, inl, inr, true, Option, Some, None, List, ◌++◌, length, refl, sym}
use Rattle.std.proofs.Common.{ap, subst, arith}
use Rattle.polcert_policy.proofs.Common.{most_states, most_actions, Lexeme, text_rest, text_limit, TokenFault, numeral_kind}
use Rattle.polcert_text.proofs.TextLaws as cuts
use Rattle.polcert_policy.specs.Points.{PointValues, AreProperPoints}
use Rattle.polcert_policy.specs.PointFields.{AreFieldTokens}
use Rattle.polcert_cells.specs.Elements.{most_observations}
use Rattle.polcert_policy.specs.PointTokens.{PointsSoFar, nothing_read, TakesAll, IsRefusedWeight, IsWrongNumber, IsWrongWeight}
use Rattle.polcert_policy.specs.PointTokens.{IsWrongValue, IsWrongName, IsWrongField, IsWrongPoint, is_value_shaped}
use Rattle.polcert_policy.specs.PointText.{AreLoosePoints, NamesPointsOnly, IsPointsText, BeginPoints, IsWrongAfter, IsFirstUnknown}
use Rattle.polcert_policy.specs.PointText.{IsPointsRefusal}
use Rattle.polcert_policy.specs.declared.points_reading.PointField.TheVariants as fields
use Rattle.polcert_policy.specs.declared.fault.PointFault.{PointFault}
use Rattle.polcert_policy.specs.declared.fault.PointFault.TheVariants as faults
use Rattle.polcert_text.specs.declared.number.NumberFault.{NumberFault}
use Rattle.polcert_text.specs.Numbers.{IsRefused}
use Rattle.polcert_policy.proofs.Places.{true_false, order, same_row, same_column, same_some}
use Rattle.polcert_policy.proofs.PointLaws.{all_taken, weight_not_refused}
use Rattle.polcert_policy.proofs.PointTextLaws.{begin_front, one_loose, read_of}
use Rattle.polcert_policy.proofs.PointLimits.{lists_proper}
use Rattle.polcert_policy.proofs.PointSound.{proper_read}
use Rattle.polcert_policy.proofs.PointFieldsTaken.{from_fields}
use Rattle.polcert_policy.proofs.OneStop as stops

module _ (S : ℕ) (A : ℕ) (Z : ℕ) where
  -- a text is at most one list of points
  pub one_points : (text : List ℕ) (p q : PointValues) → 1 ≤ S → 1 ≤ A → 1 ≤ Z → IsPointsText S A Z text p
      → IsPointsText S A Z text q → p ≡ q
  one_points text p q some_s some_a some_z x y =
      let a = read_of S A Z text some_s some_a some_z p x in
      let b = read_of S A Z text some_s some_a some_z q y in
      one_loose S A Z b.0 p q (subst (λ ts. AreLoosePoints S A Z ts p) ((cuts.one_cut _ a.0 b.0 None None a.1 b.1).0) a.2.loose) b.2.loose

  -- what begins fields of points begins points
  pub fronts_begin : (front more : List Lexeme) (p : PointValues) → 1 ≤ S → 1 ≤ A → 1 ≤ Z → AreFieldTokens S A Z (front ++ more) p
      → BeginPoints S A Z front
  fronts_begin front more p some_s some_a some_z are =
      let read = (from_fields S A Z _ p some_s some_a some_z are).loose in begin_front S A Z front more (read.last, read.read)

  -- the points of a text are within their limits
  pub points_proper : (text : List ℕ) (p : PointValues) → 1 ≤ S → S ≤ most_states → 1 ≤ A → A ≤ most_actions → 1 ≤ Z
      → Z ≤ most_observations → IsPointsText S A Z text p → AreProperPoints p
  points_proper text p some_s few_s some_a few_a some_z few_z x =
      let found = read_of S A Z text some_s some_a some_z p x in
      let is = found.2 in
      let last = is.loose.last in
      let known = subst NamesPointsOnly is.loose.points_are is.bound in
      subst AreProperPoints (sym is.loose.points_are)
      (lists_proper S A Z last.rows last.values last.names
      (proper_read S A Z some_s some_a some_z found.0 last few_s few_a few_z is.loose.read is.loose.whole known))

-- ---- one reason for a token

module _ (bs : List ℕ) (f : NumberFault) (g : NumberFault) where
  one_number_fault : IsRefused bs f → IsRefused bs g → f ≡ g
  one_number_fault x y = grind arith

  one_weight_fault : IsRefusedWeight bs f → IsRefusedWeight bs g → f ≡ g
  one_weight_fault x y = grind arith

one_wrong_number : (old : PointsSoFar) (t : Lexeme) (f g : PointFault) → IsWrongNumber old t f → IsWrongNumber old t g → f ≡ g
one_wrong_number old t f g x y = grind arith

one_wrong_weight : (S s : ℕ) (old : PointsSoFar) (t : Lexeme) (f g : PointFault) → IsWrongWeight S s old t f → IsWrongWeight S s old t g
    → f ≡ g
one_wrong_weight S s old t (faults.BadShape p) (faults.BadShape q) x y = ap faults.BadShape (x.0 ∙ sym y.0)
one_wrong_weight S s old t (faults.BadShape p) (faults.Number g q) x y = absurd (true_false y.1 x.1)
one_wrong_weight S s old t (faults.BadShape p) (faults.WrongMass q) x y = absurd (true_false y.1 x.1)
one_wrong_weight S s old t (faults.Number f p) (faults.BadShape q) x y = absurd (true_false x.1 y.1)
one_wrong_weight S s old t (faults.Number f p) (faults.Number g q) x y =
    λ i. faults.Number (one_weight_fault t.bytes f g x.2 y.2 i) ((x.0 ∙ sym y.0) i)
one_wrong_weight S s old t (faults.Number f p) (faults.WrongMass q) x y = absurd (weight_not_refused t.bytes y.3.0 f y.3.1 x.2)
one_wrong_weight S s old t (faults.WrongMass p) (faults.BadShape q) x y = absurd (true_false x.1 y.1)
one_wrong_weight S s old t (faults.WrongMass p) (faults.Number g q) x y = absurd (weight_not_refused t.bytes x.3.0 g x.3.1 y.2)
one_wrong_weight S s old t (faults.WrongMass p) (faults.WrongMass q) x y = ap faults.WrongMass (x.0 ∙ sym y.0)
one_wrong_weight S s old t f g x y = grind arith

numeral_shaped : (s : _) (t : Lexeme) → numeral_kind t.kind ≡ true → is_value_shaped s t ≡ true
numeral_shaped s t e = grind arith

one_wrong_value : (old : PointsSoFar) (t : Lexeme) (f g : PointFault) → IsWrongValue old t f → IsWrongValue old t g → f ≡ g
one_wrong_value old t (faults.BadShape p) (faults.BadShape q) x y = ap faults.BadShape (x.0 ∙ sym y.0)
one_wrong_value old t (faults.BadShape p) (faults.Number g q) x y = absurd (true_false (numeral_shaped old.sign t y.1) x.1)
one_wrong_value old t (faults.Number f p) (faults.BadShape q) x y = absurd (true_false (numeral_shaped old.sign t x.1) y.1)
one_wrong_value old t (faults.Number f p) (faults.Number g q) x y =
    λ i. faults.Number (one_number_fault t.bytes f g x.2 y.2 i) ((x.0 ∙ sym y.0) i)
one_wrong_value old t f g x y = grind arith

one_wrong_name : (t : Lexeme) (f g : PointFault) → IsWrongName t f → IsWrongName t g → f ≡ g
one_wrong_name t f g x y = grind arith

one_wrong_field : (S : ℕ) (k : PointField) (old : PointsSoFar) (t : Lexeme) (f g : PointFault) → IsWrongField S k old t f
    → IsWrongField S k old t g → f ≡ g
one_wrong_field S fields.Number old t f g x y = one_wrong_number old t f g x y
one_wrong_field S (fields.Weight s) old t f g x y = one_wrong_weight S s old t f g x y
one_wrong_field S (fields.Value a) old t f g x y = one_wrong_value old t f g x y
one_wrong_field S (fields.Name a z) old t f g x y = one_wrong_name t f g x y

one_wrong_point : (S : ℕ) (old : PointsSoFar) (t : Lexeme) (f g : PointFault) → IsWrongPoint S old t f → IsWrongPoint S old t g → f ≡ g
one_wrong_point S old t f g (inl x) (inl y) = x.fault_is
    ∙ ap (λ s. faults.BadShape s.place) (same_some x.sign y.sign (sym x.sign_is ∙ y.sign_is)) ∙ sym y.fault_is
one_wrong_point S old t f g (inl x) (inr y) = absurd (true_false x.joined (y.apart x.sign x.sign_is))
one_wrong_point S old t f g (inr x) (inl y) = absurd (true_false y.joined (x.apart y.sign y.sign_is))
one_wrong_point S old t f g (inr x) (inr y) = one_wrong_field S old.field _ t f g x.wrong y.wrong

-- ---- the end

-- only one name is the first that names no point
one_first : (p : PointValues) (i a z j b y : ℕ) → IsFirstUnknown p i a z → IsFirstUnknown p j b y → (i ≡ j) × (a ≡ b) × (z ≡ y)
one_first p i a z j b y m n = at (order _ _)
  where
    not_before : (i a z j b y : ℕ) → IsFirstUnknown p i a z → IsFirstUnknown p j b y
        → (i * p.actions + a) * p.observations + z < (j * p.actions + b) * p.observations + y → ⊥
    not_before i a z j b y m n l = let small = n.first _ m.number l m.named in omega arith

    at : ((i * p.actions + a) * p.observations + z < (j * p.actions + b) * p.observations + y)
        ⊎ (((i * p.actions + a) * p.observations + z ≡ (j * p.actions + b) * p.observations + y)
        ⊎ ((j * p.actions + b) * p.observations + y < (i * p.actions + a) * p.observations + z))
        → (i ≡ j) × (a ≡ b) × (z ≡ y)
    at (inl l) = absurd (not_before i a z j b y m n l)
    at (inr (inl e)) =
        let row = same_row p.observations _ _ z y m.observation_is n.observation_is e in (
          same_row p.actions i j a b m.action_is n.action_is row,
          same_column p.actions i j a b m.action_is n.action_is row,
          same_column p.observations _ _ z y m.observation_is n.observation_is e,
        )
    at (inr (inr l)) = absurd (not_before j b y i a z n m l)

module _ (S A Z : ℕ) (text : List ℕ) where
  -- what a refusal at the end of a text says
  abbrev EndsFor : List Lexeme → Option TokenFault → PointFault → Type 0
  EndsFor ts (Some x) (faults.Token y) = y ≡ x
  EndsFor ts (Some x) _ = ⊥
  EndsFor ts None (faults.Truncated p) = (p ≡ length text)
      × ((last : PointsSoFar) × TakesAll S A Z nothing_read ts last × (last.field ≢ fields.Number))
  EndsFor ts None (faults.NextOutOfRange i a z) = (p : PointValues) × AreLoosePoints S A Z ts p × IsFirstUnknown p i a z
  EndsFor ts None _ = ⊥

  not_whole : (ts : List Lexeme) (last : PointsSoFar) (p : PointValues) → TakesAll S A Z nothing_read ts last → (last.field ≢ fields.Number)
      → AreLoosePoints S A Z ts p → ⊥
  not_whole ts last p read inside whole = inside (ap (λ st. st.field) (all_taken S A Z nothing_read last whole.last ts read whole.read)
      ∙ whole.whole)

  one_end : (ts : List Lexeme) (end : Option TokenFault) (f g : PointFault) → EndsFor ts end f → EndsFor ts end g → f ≡ g
  one_end ts (Some e) (faults.Token p) (faults.Token q) x y = ap faults.Token (x ∙ sym y)
  one_end ts None (faults.Truncated p) (faults.Truncated q) x y = ap faults.Truncated (x.0 ∙ sym y.0)
  one_end ts None (faults.Truncated p) (faults.NextOutOfRange i a z) x y = absurd (not_whole ts x.1.0 y.0 x.1.1 x.1.2 y.1)
  one_end ts None (faults.NextOutOfRange i a z) (faults.Truncated q) x y = absurd (not_whole ts y.1.0 x.0 y.1.1 y.1.2 x.1)
  one_end ts None (faults.NextOutOfRange i a z) (faults.NextOutOfRange j b w) x y =
      let same = one_first y.0 i a z j b w (subst (λ p. IsFirstUnknown p i a z) (one_loose S A Z ts x.0 y.0 x.1 y.1) x.2) y.2 in
      λ k. faults.NextOutOfRange (same.0 k) (same.1 k) (same.2 k)
  one_end ts _ _ _ x y = absurd (search (x, y))

  abbrev IsWrongHere : List Lexeme → Lexeme → PointFault → Type 0
  IsWrongHere ts t f = IsWrongAfter S A Z ts t f

  one_wrong : (ts : List Lexeme) (t : Lexeme) (f g : PointFault) → IsWrongHere ts t f → IsWrongHere ts t g → f ≡ g
  one_wrong ts t f g x y = one_wrong_point S y.0 t f g
      (subst (λ st. IsWrongPoint S st t f) (all_taken S A Z nothing_read x.0 y.0 ts x.1 y.1) x.2) y.2

  abbrev HasReason : PointFault → Type 0
  HasReason f = stops.HasReason (λ ts. BeginPoints S A Z ts) (begin_front S A Z) IsWrongHere EndsFor (text_rest text text_limit) f

  reason : (f : PointFault) → (f ≡ faults.Memory → ⊥) → IsPointsRefusal S A Z text f → HasReason f
  reason (faults.Token x) no_memory h = inr (h.0, (Some x, h.1, h.2, refl))
  reason (faults.Truncated p) no_memory h = inr (h.tokens, (None, h.cut, (h.last, h.read), (h.place_is, (h.last, h.read, h.inside))))
  reason (faults.NextOutOfRange i a z) no_memory h = inr
      (h.tokens, (None, h.cut, (h.loose.last, h.loose.read), (h.points, h.loose, h.unknown)))
  reason faults.Memory no_memory h = absurd (no_memory refl)
  reason f no_memory h = inl h

  -- a refused text has one refusal
  pub one_refusal : (f g : PointFault) → (f ≡ faults.Memory → ⊥) → (g ≡ faults.Memory → ⊥) → IsPointsRefusal S A Z text f
      → IsPointsRefusal S A Z text g → f ≡ g
  one_refusal f g f_says g_says x y =
      stops.one_reason _ (begin_front S A Z) IsWrongHere EndsFor _ one_wrong one_end f
      g (reason f f_says x) (reason g g_says y)
