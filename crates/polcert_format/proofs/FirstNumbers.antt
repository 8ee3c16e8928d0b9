-- The first number of a start item is refused for one reason at most, and where nothing else is decided.
use Rattle.std.proofs.Common.{◌≡◌, ℕ, ◌+◌, Bool, false, Some, List, [], ◌∷◌, ◌++◌, length, ℤ, subst, arith}
use Rattle.polcert_format.proofs.Common.{Lexeme, Numeral, NumberFault, Topic, Start, IsMillionths, topic, ItemFault, IsLateIn, TextTokens}
use Rattle.polcert_format.proofs.Common.{IsDecided, Item, IsDivided, IsRefusedNumber, IsNoFraction, ModelSoFar, nothing_known, AreRight}
use Rattle.polcert_text.proofs.TextLaws.{exact_not_refused}
use Rattle.polcert_format.specs.FirstNumber.{BeginsWithNumber, BeginsWithDigits, IsLate, ends_cleanly, states_known}
use Rattle.polcert_format.proofs.DecidedLaws.{nothing_decided, same_cut, same_length}
use Rattle.polcert_format.proofs.ItemLaws.{one_division}
use Rattle.polcert_format.proofs.TextLaws.{one_known}

-- ---- lexemes

-- a numeral has a value or is refused
pub value_not_refused : (negative : Bool) (l : Lexeme) (h : ℤ) (f : NumberFault) → IsMillionths negative l h → IsRefusedNumber f negative l
    → ⊥
value_not_refused negative l h f v r = exact_not_refused _ _ f h v.readable v.value r.1

pub fraction_not_refused : (negative : Bool) (l : Lexeme) (f : NumberFault) → IsNoFraction negative l → IsRefusedNumber f negative l → ⊥
fraction_not_refused negative l f n r = value_not_refused _ l n.0 f n.1 r

-- ---- one refusal

module _ (count : ℕ) (body : List Lexeme) (p : ℕ) (q : ℕ) (Is : Lexeme → Type 0) where
  -- two bodies that begin with digits begin with the same
  pub same_digits : (Other : Lexeme → Type 0) (xs ys : List Lexeme)
      → (a : BeginsWithDigits count body p Is xs) (b : BeginsWithDigits count body q Other ys)
      → (a.digits ≡ b.digits) × (xs ≡ ys)
  same_digits Other xs ys a b = grind arith

  -- a body that begins with digits and with a number begins with the digits as the number
  pub digits_are_number : (Other : Bool → Lexeme → Type 0)
      (xs ys : List Lexeme)
      → (a : BeginsWithDigits count body p Is xs) → BeginsWithNumber body q Other ys → (Other false a.digits) × (p ≡ q) × (xs ≡ ys)
  digits_are_number Other xs ys a h1 = grind arith

-- two numbers that a body begins with are one
pub record SameNumber (p q : ℕ) (Is Other : Bool → Lexeme → Type 0) (xs ys : List Lexeme) : Type 0 where
  pub negative : Bool
  pub numeral : Lexeme
  pub first : Is negative numeral
  pub second : Other negative numeral
  pub place : p ≡ q
  pub following : xs ≡ ys

-- what is so of numerals alone
abbrev pub OfNumerals : (Bool → Lexeme → Type 0) → Type 0
OfNumerals Is = (negative : Bool) (l : Lexeme) → Is negative l → l.kind ≡ Numeral

pub same_number : (body : List Lexeme) (p q : ℕ) (Is Other : Bool → Lexeme → Type 0) (xs ys : List Lexeme) → OfNumerals Is
    → OfNumerals Other → BeginsWithNumber body p Is xs → BeginsWithNumber body q Other ys
    → SameNumber p q Is Other xs ys
same_number body p q Is Other xs ys h1 h2 h3 h4 = grind arith

pub no_fraction_numeral : OfNumerals IsNoFraction
no_fraction_numeral negative l n = n.1.kind

one_late : (count : ℕ) (body : List Lexeme) (ends : Bool) (f g : ItemFault) (p q : ℕ) → IsLate count body ends f p
    → IsLate count body ends g q → (f ≡ g) × (p ≡ q)
one_late count body ends f g p q h1 h2 = grind arith

-- ---- in a text

-- nothing is decided where the first number is refused
pub late_undecided : (ts : TextTokens) (n : ℕ) (f g : ItemFault) (p q : ℕ) → IsLateIn ts n f p → IsDecided ts n g q → ⊥
late_undecided ts n f g p q w d =
    nothing_decided ts _ _ _ w.k _ g q w.divided w.known w.topic_is w.may_stand
    (subst (λ m. IsDecided ts m g q) w.number_is d)

-- the refusal of an item's first number is that of the item of this number
pub late_here : (ts : TextTokens) (n : ℕ) (f : ItemFault) (p : ℕ) (xs : List Item) (x : Item) (us : List Item) (k : ModelSoFar) (t : Topic)
    → IsDivided ts.lexemes [] (xs ++ x ∷ us)
    → AreRight nothing_known xs k → topic x.word ≡ Some t → n ≡ length xs + 1 → IsLateIn ts n f p → (t ≡ Start)
    × IsLate (states_known k) x.body (ends_cleanly us ts.ending) f p
late_here ts n f p xs x us k t d known topics number w =
    let cut = same_cut _ xs _ us _ x (one_division _ [] [] (w.before ++ w.item ∷ w.after) _
    w.divided d).1 (same_length n _ xs w.number_is number) in
    let knowns : w.k ≡ k = one_known _ xs w.k k (grind arith) known in (
      grind arith,
      grind arith,
    )

pub one_late_refusal : (ts : TextTokens) (n : ℕ) (f g : ItemFault) (p q : ℕ) → IsLateIn ts n f p → IsLateIn ts n g q → (f ≡ g) × (p ≡ q)
one_late_refusal ts n f g p q v w =
    one_late _ _ _ f g p q v.late
    (late_here ts n g q _ _ _ v.k _ v.divided v.known v.topic_is v.number_is w).1
