-- Tokens of points are taken in one way, and a token that is taken is not wrong.
use Rattle.polcert_policy.specs.declared.fault.PointFault.{PointFault}
use Rattle.polcert_policy.specs.declared.points_reading.PointField.{PointField}
use Rattle.polcert_text.specs.declared.number.NumberFault.{NumberFault}
use Rattle.std.proofs.Common.{◌≡◌, ◌∙◌, ℕ, pos, ◌+◌, ◌⊎◌, inl, inr, true, false, None, List, [], ◌∷◌, ◌++◌, refl, sym, ap, subst, arith}
use Rattle.polcert_policy.proofs.Common.{Lexeme}
use Rattle.polcert_text.proofs.TextLaws.{readable_not_refused, one_floor, one_ceil}
use Rattle.polcert_policy.specs.Points.{IsMass}
use Rattle.polcert_policy.specs.PointTokens.{PointsSoFar, IsWeight, IsRefusedWeight, TakesNumber, TakesWeight, TakesSign, TakesValue}
use Rattle.polcert_policy.specs.PointTokens.{TakesField, TakesPointToken, TakesAll, IsWrongNumber, IsWrongWeight, IsWrongValue}
use Rattle.polcert_policy.specs.PointTokens.{IsWrongField}
use Rattle.polcert_policy.specs.PointTokens.{IsWrongPoint, after_weight, is_value_shaped}
use Rattle.polcert_policy.specs.declared.points_reading.PointField.TheVariants as fields
use Rattle.polcert_policy.specs.declared.fault.PointFault.TheVariants as faults
use Rattle.polcert_policy.proofs.Places.{true_false}
use Rattle.polcert_policy.proofs.VectorLaws.{no_sign_numeral}

pos_same : (m n : ℕ) → pos m ≡ pos n → m ≡ n
pos_same m n e = cc

-- a numeral is one weight
pub one_weight : (bs : List ℕ) (v w : ℕ) → IsWeight bs v → IsWeight bs w → v ≡ w
one_weight bs v w a b = pos_same v w (one_floor false bs (pos v) (pos w) a.rounded b.rounded)

pub weight_not_refused : (bs : List ℕ) (w : ℕ) (fault : NumberFault) → IsWeight bs w → IsRefusedWeight bs fault → ⊥
weight_not_refused bs w fault a b = grind arith

module _ (S A Z : ℕ) where
  same_weight : (s : ℕ) (old a b : PointsSoFar) (t : Lexeme) → TakesWeight S s old t a → TakesWeight S s old t b → a ≡ b
  same_weight s old a b t x y = x.new_is ∙ ap (λ w. after_weight S s w old) (one_weight t.bytes x.weight y.weight x.is_weight y.is_weight)
      ∙ sym y.new_is

  same_value : (a : ℕ) (old x y : PointsSoFar) (t : Lexeme) → TakesSign old t x ⊎ TakesValue a old t x → TakesSign old t y
      ⊎ TakesValue a old t y → x ≡ y
  same_value a old x y t (inl p) (inl q) = p.new_is ∙ sym q.new_is
  same_value a old x y t (inl p) (inr q) = absurd (no_sign_numeral t.kind q.numeral p.sign)
  same_value a old x y t (inr p) (inl q) = absurd (no_sign_numeral t.kind p.numeral q.sign)
  same_value a old x y t (inr p) (inr q) =
      p.new_is ∙ ap (λ v. record old { field = fields.Name a 0; sign = None; values = old.values ++ v ∷ [] })
      (one_ceil _ t.bytes p.value q.value p.rounded q.rounded) ∙ sym q.new_is

  same_field : (f : PointField) (old a b : PointsSoFar) (t : Lexeme) → TakesField S A Z f old t a → TakesField S A Z f old t b → a ≡ b
  same_field (fields.Weight s) old a b t x y = same_weight s old a b t x y
  same_field (fields.Value v) old a b t x y = same_value v old a b t x y
  same_field _ old a b t x y = x.new_is ∙ sym y.new_is

  -- a token is taken in one way
  pub one_taken : (old a b : PointsSoFar) (t : Lexeme) → TakesPointToken S A Z old t a → TakesPointToken S A Z old t b → a ≡ b
  one_taken old a b t x y = same_field old.field _ a b t x.field y.field

  pub all_taken : (old a b : PointsSoFar) (ts : List Lexeme) → TakesAll S A Z old ts a → TakesAll S A Z old ts b → a ≡ b
  all_taken old a b [] x y = sym x ∙ y
  all_taken old a b (t ∷ ts) x y = all_taken x.0 a b ts x.2 (subst (λ m. TakesAll S A Z m ts b) (one_taken old y.0 x.0 t y.1 x.1) y.2)

  pub one_more : (old mid new : PointsSoFar) (ts : List Lexeme) (t : Lexeme) → TakesAll S A Z old ts mid → TakesPointToken S A Z mid t new
      → TakesAll S A Z old (ts ++ t ∷ []) new
  one_more old mid new [] t x y = (new, subst (λ m. TakesPointToken S A Z m t new) (sym x) y, refl)
  one_more old mid new (u ∷ us) t x y = (x.0, x.1, one_more x.0 mid new us t x.2 y)

  -- what begins the tokens is taken, and then the rest
  pub front_taken : (old new : PointsSoFar) (ts us : List Lexeme) → TakesAll S A Z old (ts ++ us) new → (mid : PointsSoFar)
      × TakesAll S A Z old ts mid × TakesAll S A Z mid us new
  front_taken old new [] us h = (old, refl, h)
  front_taken old new (t ∷ ts) us h = let rest = front_taken h.0 new ts us h.2 in (rest.0, (h.0, h.1, rest.1), rest.2)

  -- ---- a token that is taken is not wrong

  number_right : (old new : PointsSoFar) (t : Lexeme) (fault : PointFault) → TakesNumber old t new → IsWrongNumber old t fault → ⊥
  number_right old new t fault x y = grind arith

  weight_right : (s : ℕ) (old new : PointsSoFar) (t : Lexeme) (fault : PointFault) → TakesWeight S s old t new
      → IsWrongWeight S s old t fault → ⊥
  weight_right s old new t (faults.BadShape place) x y = true_false x.numeral y.1
  weight_right s old new t (faults.Number fault place) x y = weight_not_refused t.bytes x.weight fault x.is_weight y.2
  weight_right s old new t (faults.WrongMass place) x y =
      y.3.2 (subst (λ w. IsMass (old.mass + w)) (one_weight t.bytes x.weight y.3.0 x.is_weight y.3.1) (x.is_mass y.2))
  weight_right s old new t _ x y = absurd y

  sign_right : (old new : PointsSoFar) (t : Lexeme) (fault : PointFault) → TakesSign old t new → IsWrongValue old t fault → ⊥
  sign_right old new t fault x y = grind arith

  value_right : (a : ℕ) (old new : PointsSoFar) (t : Lexeme) (fault : PointFault) → TakesValue a old t new → IsWrongValue old t fault → ⊥
  value_right a old new t (faults.BadShape place) x y = true_false (shaped old.sign) y.1
    where
      shaped : (s : _) → is_value_shaped s t ≡ true
      shaped s = grind (arith, x.numeral)
  value_right a old new t (faults.Number fault place) x y = readable_not_refused t.bytes fault x.readable y.2
  value_right a old new t _ x y = absurd y

  field_right : (f : PointField) (old new : PointsSoFar) (t : Lexeme) (fault : PointFault) → TakesField S A Z f old t new
      → IsWrongField S f old t fault → ⊥
  field_right fields.Number old new t fault x y = number_right old new t fault x y
  field_right (fields.Weight s) old new t fault x y = weight_right s old new t fault x y
  field_right (fields.Value a) old new t fault (inl x) y = sign_right old new t fault x y
  field_right (fields.Value a) old new t fault (inr x) y = value_right a old new t fault x y
  field_right (fields.Name a z) old new t fault x y = grind arith

  pub taken_right : (old new : PointsSoFar) (t : Lexeme) (fault : PointFault) → TakesPointToken S A Z old t new → IsWrongPoint S old t fault
      → ⊥
  taken_right old new t fault x (inl y) = true_false y.joined (x.apart y.sign y.sign_is)
  taken_right old new t fault x (inr y) = field_right old.field _ new t fault x.field y.wrong
