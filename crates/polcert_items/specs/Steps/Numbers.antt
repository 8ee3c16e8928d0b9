-- A number of an item, token by token: what is still to come of a list of numbers after a sign, and what a token says
-- in a number's place.
-- Nobody has to believe this: only contracts of private functions cite it.
use Rattle.std.specs.Prelude.{◌≡◌, ℕ, ◌≤◌, Bool, true, false, Option, Some, None, List, [], ◌∷◌, ◌++◌, ℤ, pos, codes, All}
use Rattle.polcert_text.specs.Cut.{Lexeme}
use Rattle.polcert_text.specs.declared.tokens.TokenKind.{TokenKind}
use Rattle.polcert_text.specs.declared.tokens.TokenKind.TheVariants.{Plus, Minus}
use Rattle.polcert_format.specs.declared.fault.ItemFault.{ItemFault}
use Rattle.polcert_format.specs.declared.fault.ItemFault.TheVariants.{Number, BadShape, WrongNumberCount, ProbabilityRange, DiscountRange, Reset}
use Rattle.polcert_items.specs.declared.signed_number.Sign.{Sign}
use Rattle.polcert_items.specs.declared.signed_number.NumberStep.{NumberStep}
use Rattle.polcert_items.specs.declared.signed_number.NumberStep.TheVariants as steps
use Rattle.polcert_items.specs.declared.signed_number.Range.{Range}
use Rattle.polcert_items.specs.declared.signed_number.Range.TheVariants as ranges
use Rattle.polcert_cells.specs.Words.{IsWord}
use Rattle.polcert_cells.specs.declared.entries.Body.{Body}
use Rattle.polcert_cells.specs.declared.entries.Body.TheVariants as bodies
use Rattle.polcert_cells.specs.Numbers.{IsMillionths, AreNumbers, one}
use Rattle.polcert_format.specs.Reasons.{IsRefusedNumber, IsNoFraction, is_sign_kind, ends_in_sign}

-- after a sign, if there is one, the lexemes continue as these numbers
abbrev pub AreNumbersAfter : Option Sign → List Lexeme → List ℤ → Type 0
AreNumbersAfter None ls hs = AreNumbers ls hs
AreNumbersAfter (Some sign) (l ∷ ls) (h ∷ hs) = IsMillionths sign.negative l h × AreNumbers ls hs
AreNumbersAfter (Some sign) _ _ = ⊥

-- a number from 0 to one, or any
abbrev pub FitsRange : Range → ℤ → Type 0
FitsRange ranges.Reward h = Unit {0}
FitsRange _ h = (p : ℕ) × ((h ≡ pos p) × (p ≤ one))

-- what a list's numbers are: what each is worth, where they lie, and the body that they are
pub record ListKind (T : Type 0) : Type 0 where
  pub worth : T → ℤ
  pub range : Range
  pub body : List T → Body

abbrev pub of_probabilities : ListKind ℕ
of_probabilities = record { worth = pos; range = ranges.Probability; body = bodies.Probabilities }

abbrev pub of_rewards : ListKind ℤ
of_rewards = record { worth = λ h. h; range = ranges.Reward; body = bodies.Rewards }

abbrev pub is_minus_sign : Option Sign → Bool
is_minus_sign None = false
is_minus_sign (Some sign) = sign.negative

-- where a number stands: at its sign, if it has one
abbrev pub signed_place : Option Sign → Lexeme → ℕ
signed_place None l = l.place
signed_place (Some sign) l = sign.place

-- the sign is this lexeme
pub data IsSignAt (sign : Sign) (l : Lexeme) : Type 0 where
  plus : l.kind ≡ Plus → sign.negative ≡ false → sign.place ≡ l.place → IsSignAt sign l
  minus : l.kind ≡ Minus → sign.negative ≡ true → sign.place ≡ l.place → IsSignAt sign l

-- the token is a sign and none stands before it, or the numeral of a number in the range
abbrev pub IsNumberStep : Range → Option Sign → Lexeme → NumberStep → Type 0
IsNumberStep range sign l (steps.Sign s) = (sign ≡ None) × IsSignAt s l
IsNumberStep range sign l (steps.Value h) = IsMillionths (is_minus_sign sign) l h × FitsRange range h

-- no numbers in the range continue with this lexeme
abbrev pub IsNoNumber : Range → Option Sign → Lexeme → Type 0
IsNoNumber range sign l = (ls : List Lexeme) (hs : List ℤ) → AreNumbersAfter sign (l ∷ ls) hs → All (FitsRange range) hs → ⊥

-- why a token that has no place here is refused
abbrev pub IsMisplaced : Lexeme → ItemFault → ℕ → Type 0
IsMisplaced l Reset place = (place ≡ l.place) × IsWord (codes "reset") l
IsMisplaced l BadShape place = place ≡ l.place
IsMisplaced l _ place = ⊥

-- why a token after the last number is refused
abbrev pub IsAfterNumbers : Lexeme → ItemFault → ℕ → Type 0
IsAfterNumbers l WrongNumberCount place = place ≡ l.place
IsAfterNumbers l kind place = IsMisplaced l kind place

-- why a token is refused in a number's place, and where
abbrev pub IsNumberReason : Range → Option Sign → Lexeme → ItemFault → ℕ → Type 0
IsNumberReason range sign l (Number reason) place = (place ≡ signed_place sign l) × IsRefusedNumber reason (is_minus_sign sign) l
IsNumberReason range sign l DiscountRange place = (range ≡ ranges.Discount) × (place ≡ signed_place sign l) × IsNoFraction (is_minus_sign sign) l
IsNumberReason range sign l ProbabilityRange place = (range ≡ ranges.Probability) × (place ≡ signed_place sign l) × IsNoFraction (is_minus_sign sign) l
IsNumberReason range sign l kind place = IsMisplaced l kind place

-- no number continues with this lexeme, and it is refused for this reason at this place
pub record RefusesNumber (range : Range) (sign : Option Sign) (l : Lexeme) (kind : ItemFault) (place : ℕ) : Type 0 where
  pub none : IsNoNumber range sign l
  pub reason : IsNumberReason range sign l kind place

-- the kind of a sign's token
abbrev pub IsSignKind : Bool → TokenKind → Type 0
IsSignKind false kind = kind ≡ Plus
IsSignKind true kind = kind ≡ Minus

-- the reason for a number out of its range
abbrev pub IsRangeFault : Range → ItemFault → Type 0
IsRangeFault ranges.Discount kind = kind ≡ DiscountRange
IsRangeFault ranges.Probability kind = kind ≡ ProbabilityRange
IsRangeFault ranges.Reward kind = ⊥

-- the sign that waits for its numeral is this lexeme, and otherwise it is no sign
abbrev pub SignIs : Option Sign → Lexeme → Type 0
SignIs None l = is_sign_kind l.kind ≡ false
SignIs (Some sign) l = IsSignAt sign l

-- the sign that waits for its numeral ends the body, and otherwise no sign does
abbrev pub SignEnds : Option Sign → List Lexeme → Type 0
SignEnds None body = ends_in_sign body ≡ false
SignEnds (Some sign) body = (before : List Lexeme) × ((l : Lexeme) × ((body ≡ before ++ l ∷ []) × IsSignAt sign l))
