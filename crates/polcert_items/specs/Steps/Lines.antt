-- The lines of the preamble, token by token: what is still to come of a line that was read so far.
-- Nobody has to believe this: only contracts of private functions cite it.
use Rattle.std.specs.Prelude.{◌≡◌, ℕ, ◌≤◌, Bool, true, false, Option, None, List, [], ◌∷◌, pos, codes}
use Rattle.polcert_text.specs.Cut.{Lexeme}
use Rattle.polcert_text.specs.declared.tokens.TokenKind.TheVariants as kinds
use Rattle.polcert_format.specs.declared.fault.ItemFault.{ItemFault}
use Rattle.polcert_items.specs.declared.preamble_lines.DiscountReader.{DiscountReader}
use Rattle.polcert_items.specs.declared.preamble_lines.DiscountReader.TheVariants as discount
use Rattle.polcert_items.specs.declared.preamble_lines.ValuesReader.{ValuesReader}
use Rattle.polcert_items.specs.declared.preamble_lines.ValuesReader.TheVariants as values
use Rattle.polcert_items.specs.declared.signed_number.Range.TheVariants.{Discount}
use Rattle.polcert_items.specs.declared.signed_number.Sign.{Sign}
use Rattle.polcert_cells.specs.Words.{IsWord}
use Rattle.polcert_cells.specs.Numbers.{one}
use Rattle.polcert_items.specs.Steps.Numbers.{AreNumbersAfter, IsNumberReason, IsAfterNumbers, IsMisplaced}

-- A reader's state continues as lexemes that end its item, with what the item says: `Goes state lexemes said`.
-- One more lexeme was taken: what continues after it is what went on from before it.
pub record TakesLexeme {S V : Type 0} (Goes : S → List Lexeme → V → Type 0) (old : S) (l : Lexeme) (new : S) : Type 0 where
  pub back : (ls : List Lexeme) (v : V) → Goes new ls v → Goes old (l ∷ ls) v
  pub on : (ls : List Lexeme) (v : V) → Goes old (l ∷ ls) v → Goes new ls v

-- nothing continues with this lexeme
abbrev pub CannotTake : {S V : Type 0} → (S → List Lexeme → V → Type 0) → S → Lexeme → Type 0
CannotTake {V = V} Goes old l = (ls : List Lexeme) (v : V) → Goes old (l ∷ ls) v → ⊥

-- nothing ends here
abbrev pub CannotEnd : {S V : Type 0} → (S → List Lexeme → V → Type 0) → S → Type 0
CannotEnd {V = V} Goes s = (v : V) → Goes s [] v → ⊥

-- a colon, and then this
abbrev pub AfterColon : {V : Type 0} → (List Lexeme → V → Type 0) → List Lexeme → V → Type 0
AfterColon Rest [] v = ⊥
AfterColon Rest (l ∷ ls) v = (l.kind ≡ kinds.Colon) × Rest ls v

-- one number from 0 to one
abbrev pub DiscountRest : Option Sign → List Lexeme → ℕ → Type 0
DiscountRest sign ls g = AreNumbersAfter sign ls (pos g ∷ []) × (g ≤ one)

abbrev pub DiscountGoes : DiscountReader → List Lexeme → ℕ → Type 0
DiscountGoes discount.Colon ls g = AfterColon (DiscountRest None) ls g
DiscountGoes (discount.Number sign) ls g = DiscountRest sign ls g
DiscountGoes (discount.Done d) ls g = (ls ≡ []) × (g ≡ d)

-- the sign before the next token
abbrev pub discount_sign : DiscountReader → Option Sign
discount_sign (discount.Number sign) = sign
discount_sign _ = None

-- why a token is refused in the line of the discount
abbrev pub DiscountReason : DiscountReader → Lexeme → ItemFault → ℕ → Type 0
DiscountReason discount.Colon l kind place = IsMisplaced l kind place
DiscountReason (discount.Number sign) l kind place = IsNumberReason Discount sign l kind place
DiscountReason (discount.Done d) l kind place = IsAfterNumbers l kind place

-- `reward`, or `cost`
abbrev pub WordRest : List Lexeme → Bool → Type 0
WordRest [] b = ⊥
WordRest (l ∷ ls) false = (ls ≡ []) × IsWord (codes "reward") l
WordRest (l ∷ ls) true = (ls ≡ []) × IsWord (codes "cost") l

abbrev pub ValuesGoes : ValuesReader → List Lexeme → Bool → Type 0
ValuesGoes values.Colon ls b = AfterColon WordRest ls b
ValuesGoes values.Word ls b = WordRest ls b
ValuesGoes (values.Done c) ls b = (ls ≡ []) × (b ≡ c)
