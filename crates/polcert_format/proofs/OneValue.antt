-- At one place of a body one number stands, and its value is refused for one reason.
use Rattle.std.proofs.Common.{◌≡◌, ◌∙◌, ℕ, Bool, true, List, [], ◌∷◌, ◌++◌, refl, sym, ap, subst, arith}
use Rattle.polcert_format.proofs.Common.{Lexeme, Numeral, NumberFault, Topic, Discount, ItemFault, Number, ProbabilityRange, DiscountRange}
use Rattle.polcert_format.proofs.Common.{IsRefusedNumber, IsNoFraction, is_sign_kind}
use Rattle.polcert_text.proofs.TextLaws.{one_exact_fault}
use Rattle.polcert_format.specs.Reasons.{NumberStandsIn, IsOfProbabilities, ends_in_sign}
use Rattle.polcert_format.proofs.Climbing.{Climbs, one_lexeme}
use Rattle.polcert_format.proofs.FirstNumbers.{OfNumerals, no_fraction_numeral, fraction_not_refused}

-- ---- one number

-- both are so of one sign and numeral
abbrev AreOfOne : (Bool → Lexeme → Type 0) → (Bool → Lexeme → Type 0) → Type 0
AreOfOne Is Other = (negative : Bool) × (l : Lexeme) × Is negative l × Other negative l

one_number_at : (a p : ℕ) (body : List Lexeme) (Is Other : Bool → Lexeme → Type 0) → Climbs a body → OfNumerals Is → OfNumerals Other
    → NumberStandsIn body p Is → NumberStandsIn body p Other → AreOfOne Is Other
one_number_at a p body Is Other climbs f g x y = grind (arith, one_lexeme)

-- ---- one reason

-- why the value of a number at this place of a body is refused
pub data ValueReason (t : Topic) (body : List Lexeme) (place : ℕ) (kind : ItemFault) : Type 0 where
  no_value : (reason : NumberFault) → kind ≡ Number reason → NumberStandsIn body place (IsRefusedNumber reason)
      → ValueReason t body place kind
  no_probability : kind ≡ ProbabilityRange → IsOfProbabilities t → NumberStandsIn body place IsNoFraction → ValueReason t body place kind
  no_discount : kind ≡ DiscountRange → t ≡ Discount → NumberStandsIn body place IsNoFraction → ValueReason t body place kind

refused_numeral : (reason : NumberFault) → OfNumerals (IsRefusedNumber reason)
refused_numeral reason negative l h = h.0

not_both : (t : Topic) → t ≡ Discount → IsOfProbabilities t → ⊥
not_both t e h = subst IsOfProbabilities e h

module _ (t : Topic) (body : List Lexeme) (a : ℕ) (climbs : Climbs a body) where
  fault_or_range : (p : ℕ) (r : NumberFault) → NumberStandsIn body p (IsRefusedNumber r) → NumberStandsIn body p IsNoFraction → ⊥
  fault_or_range p r x y =
      let n = one_number_at a p body _ _ climbs (refused_numeral r) no_fraction_numeral x y in
      fraction_not_refused n.0 n.1 r n.3 n.2

  pub one_value_reason : (p : ℕ) (f g : ItemFault) → ValueReason t body p f → ValueReason t body p g → f ≡ g
  one_value_reason p f g (no_value r e x) (no_value s d y) = e
      ∙ ap Number (let n = one_number_at a p body (IsRefusedNumber r) (IsRefusedNumber s) climbs (refused_numeral r) (refused_numeral s) x y
      in one_exact_fault n.0 n.1.bytes r s n.2.1 n.3.1) ∙ sym d
  one_value_reason p f g (no_value r e x) (no_probability d is y) = absurd (fault_or_range p r x y)
  one_value_reason p f g (no_value r e x) (no_discount d is y) = absurd (fault_or_range p r x y)
  one_value_reason p f g (no_probability e is x) (no_value s d y) = absurd (fault_or_range p s y x)
  one_value_reason p f g (no_probability e is x) (no_probability d it y) = e ∙ sym d
  one_value_reason p f g (no_probability e is x) (no_discount d it y) = absurd (not_both t it is)
  one_value_reason p f g (no_discount e is x) (no_value s d y) = absurd (fault_or_range p s y x)
  one_value_reason p f g (no_discount e is x) (no_probability d it y) = absurd (not_both t is it)
  one_value_reason p f g (no_discount e is x) (no_discount d it y) = e ∙ sym d

  -- ---- the place of a number with a sign is that of its sign

  last_is : (ls : List Lexeme) (sign : Lexeme) → ends_in_sign (ls ++ sign ∷ []) ≡ is_sign_kind sign.kind
  last_is (x ∷ y ∷ ls) sign = last_is (y ∷ ls) sign
  last_is _ sign = refl

  pub no_reason_after_sign : (taken rest : List Lexeme) (sign l : Lexeme) (kind : ItemFault) → body ≡ (taken ++ sign ∷ []) ++ l ∷ rest
      → is_sign_kind sign.kind ≡ true → l.kind ≡ Numeral
      → ValueReason t body l.place kind → ⊥
  no_reason_after_sign taken rest sign l kind whole is numeral (no_value r e x) = grind (arith, one_lexeme, last_is)
  no_reason_after_sign taken rest sign l kind whole is numeral (no_probability e so x) = grind (arith, one_lexeme, last_is)
  no_reason_after_sign taken rest sign l kind whole is numeral (no_discount e so x) = grind (arith, one_lexeme, last_is)
