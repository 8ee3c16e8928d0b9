-- What single tokens are, decided.
use Rattle.std.proofs.Math.Logic.{⊎_map}
use Rattle.std.proofs.Common.{◌≡◌, ◌≢◌, ◌∙◌, ◌⊎◌, inl, inr, ⊎_elim, ℕ, ℤ, pos, negsuc, ◌*◌, ◌≤◌, Bool, true, false, Option, Some, None}
use Rattle.std.proofs.Common.{List, [], codes, refl, sym, ap, arith}
use Rattle.std.proofs.lemmas.Bool.{cases_Bool}
use Rattle.std.proofs.lemmas.Slice.Eq.{bytes_eq-Decides}
use Rattle.polcert_text.specs.Cut.{Lexeme}
use Rattle.polcert_text.specs.Numbers.{IsReadable, IsExact, IsRefused, IsRefusedExactly, signed}
unfoldable use Rattle.polcert_text.specs.Numbers.{exponent_size, size_of, millionth}
use Rattle.polcert_text.specs.declared.number.NumberFault.{NumberFault}
use Rattle.polcert_text.specs.declared.number.NumberFault.TheVariants as number_faults
use Rattle.polcert_text.specs.declared.tokens.TokenKind.{TokenKind}
use Rattle.polcert_text.specs.declared.tokens.TokenKind.TheVariants as kinds
use Rattle.polcert_text.specs.Steps.Scaling.{Measures}
use Rattle.polcert_text.proofs.TextLaws.{exact_not_refused}
use Rattle.polcert_text.proofs.Numbers.SizeLaws.{numeral_measure}
use Rattle.polcert_text.proofs.Numbers.SignedLaws.{no_exact, signed-mul}
use Rattle.polcert_cells.specs.Words.{IsWord, IsName}
unfoldable use Rattle.polcert_cells.specs.Words.{is_reserved}
use Rattle.polcert_cells.specs.Numbers.{IsMillionths, one}
use Rattle.polcert_format.specs.declared.fault.ItemFault.{ItemFault}
use Rattle.polcert_format.specs.declared.fault.ItemFault.TheVariants as faults
use Rattle.polcert_format.specs.Misfits.{Expected, Mark, EndOfNumbers, IsMisfit, of_place, of_value, IsOfValue, unexpected_token, misfit_at}
use Rattle.polcert_format.specs.Misfits.{is_reset, tests_value, begins_number}
use Rattle.polcert_items.specs.Steps.Numbers.{IsNumberStep, IsSignAt, plus, minus, RefusesNumber, IsNoNumber, IsMisplaced}
use Rattle.polcert_items.specs.Steps.Numbers.{IsAfterNumbers, FitsRange, IsRangeFault, is_minus_sign, signed_place}
use Rattle.polcert_items.specs.Steps.Wants.{ExpectsNext, number_wants}
use Rattle.polcert_items.specs.Steps.Lines.{TakesLexeme, CannotTake}
use Rattle.polcert_items.specs.declared.signed_number.NumberStep.{NumberStep}
use Rattle.polcert_items.specs.declared.signed_number.NumberStep.TheVariants as steps
use Rattle.polcert_items.specs.declared.signed_number.Range.{Range}
use Rattle.polcert_items.specs.declared.signed_number.Range.TheVariants as ranges
use Rattle.polcert_items.specs.declared.signed_number.Sign.{Sign}
use Rattle.polcert_items.proofs.SignedNumbers.{first_number, refuses_range}
use Rattle.polcert_existence.proofs.Decisions.{below_or_not, same_bytes_or_not, name_kind_or_not, colon_kind_or_not}
use Rattle.polcert_existence.proofs.VectorAnswers.{readable_or_refused}

-- ---- words

pub word_or_not : (word : List ℕ) (l : Lexeme) → IsWord word l ⊎ (IsWord word l → ⊥)
word_or_not word l = ⊎_elim (λ kind. ⊎_map (λ same. record { kind = kind; bytes = same }) (λ other. λ is. other is.bytes)
    (same_bytes_or_not _ _))
    (λ other. inr (λ is. other is.kind)) (name_kind_or_not _)

pub name_or_not : (l : Lexeme) → IsName l ⊎ (IsName l → ⊥)
name_or_not l = ⊎_elim
    (λ kind. ⊎_elim (λ reserved. inr (λ is. let free = is.free in cc)) (λ free. inl (record { kind = kind; free = free }))
    (cases_Bool _))
    (λ other. inr (λ is. other is.kind)) (name_kind_or_not _)

-- ---- tokens that cannot stand

-- a token that has no place here
pub record Misplaced (w : Expected) (l : Lexeme) : Type 0 where
  pub kind : ItemFault
  pub reason : IsMisplaced l kind l.place
  pub kind_is : kind ≡ unexpected_token w (Some l)

reset_word : (l : Lexeme) → is_reset l.kind l.bytes ≡ true → IsWord (codes "reset") l
reset_word l e = at l.kind refl e
  where
    at : (k : TokenKind) → l.kind ≡ k → is_reset k l.bytes ≡ true → IsWord (codes "reset") l
    at kinds.Name is e = record { kind = is; bytes = grind (arith, bytes_eq-Decides l.bytes (codes "reset")) }
    at _ is e = cc

pub misplaced : (w : Expected) (l : Lexeme) → misfit_at w l ≡ faults.BadShape → Misplaced w l
misplaced w l shape = at (is_reset l.kind _) refl
  where
    at : (b : Bool) → is_reset l.kind l.bytes ≡ b → Misplaced w l
    at true e = record { kind = faults.Reset; reason = (refl, reset_word l e); kind_is = grind arith }
    at false e = record { kind = faults.BadShape; reason = refl; kind_is = grind arith }

-- ---- numbers

refused_exactly : (negative : Bool) (bs : List ℕ) (fault : NumberFault) → IsRefused bs fault → IsRefusedExactly negative bs fault
refused_exactly negative bs number_faults.TooFine h = absurd h
refused_exactly negative bs _ h = h

-- bytes are so many millionths, or refused
pub exact_or_refused : (negative : Bool) (bs : List ℕ) → ((h : ℤ) × IsReadable bs × IsExact negative bs h)
    ⊎ ((fault : NumberFault) × IsRefusedExactly negative bs fault)
exact_or_refused negative bs = ⊎_elim
    (λ readable. by_part readable _ _ (numeral_measure bs readable.numeral readable.short readable.exponent))
    (λ f. inr (f.0, refused_exactly _ bs f.0 f.1))
    (readable_or_refused bs)
  where
    by_part : IsReadable bs → (floor : ℕ) (is_inexact : Bool) → Measures bs floor is_inexact
        → ((h : ℤ) × IsReadable bs × IsExact negative bs h) ⊎ ((fault : NumberFault) × IsRefusedExactly negative bs fault)
    by_part readable floor true m = inr (number_faults.TooFine, (readable, no_exact bs _ _ m))
    by_part readable floor false m = inl (
      _,
      readable,
      let size : size_of bs ≡ floor * millionth = omega (arith, m.size, m.exact refl) in
          signed-mul negative floor millionth ∙ ap (signed negative) (sym size),
    )

pub fraction_or_not : (h : ℤ) → ((p : ℕ) × ((h ≡ pos p) × (p ≤ one))) ⊎ (((p : ℕ) × ((h ≡ pos p) × (p ≤ one))) → ⊥)
fraction_or_not (pos n) = ⊎_elim (λ l. inr (λ f. let same : n ≡ f.0 = cc in omega arith)) (λ few. inl (n, (refl, few))) (below_or_not one n)
fraction_or_not (negsuc n) = inr (λ f. cc)

-- the kind of a number out of its range
record OutOfRange (range : Range) (h : ℤ) : Type 0 where
  pub kind : ItemFault
  pub out : FitsRange range h → ⊥
  pub fault : IsRangeFault range kind
  pub of_value : IsOfValue kind

in_range_or_not : (range : Range) (h : ℤ) → FitsRange range h ⊎ OutOfRange range h
in_range_or_not ranges.Reward h = inl tt
in_range_or_not ranges.Discount h = ⊎_elim inl (λ out. inr (record { kind = _; out = out; fault = refl; of_value = tt }))
    (fraction_or_not h)
in_range_or_not ranges.Probability h = ⊎_elim inl (λ out. inr
    (record { kind = _; out = out; fault = refl; of_value = tt })) (fraction_or_not h)

-- a token in a number's place that is refused
pub record NumberRefused (range : Range) (sign : Option Sign) (l : Lexeme) : Type 0 where
  pub kind : ItemFault
  pub place : ℕ
  pub refuses : RefusesNumber range sign l kind place
  pub misfit : IsMisfit (number_wants sign) l kind
  pub number : l.kind ≡ kinds.Numeral → IsOfValue kind

tests : (sign : Option Sign) (l : Lexeme) → l.kind ≡ kinds.Numeral → tests_value (number_wants sign) l.kind ≡ true
tests None l e = ap (tests_value (number_wants None)) e
tests (Some s) l e = ap (tests_value (number_wants (Some s))) e

module _ (range : Range) where
  no_value : (sign : Option Sign) (l : Lexeme) (fault : NumberFault) → l.kind ≡ kinds.Numeral
      → IsRefusedExactly (is_minus_sign sign) l.bytes fault
      → RefusesNumber range sign l (faults.Number fault) (signed_place sign l)
  no_value sign l fault numeral refused = record {
    none = λ ls hs a all. let f = first_number _ l ls hs numeral a in
        exact_not_refused _ _ _ _ f.value.readable f.value.value refused;
    reason = (refl, (numeral, refused));
  }

  numeral_step : (sign : Option Sign) (l : Lexeme) → l.kind ≡ kinds.Numeral
      → ((step : NumberStep) × IsNumberStep range sign l step)
      ⊎ NumberRefused range sign l
  numeral_step sign l numeral = ⊎_elim (λ v.
      let is : IsMillionths _ l v.0 = record { kind = numeral; readable = v.1; value = v.2 } in
      ⊎_elim
      (λ inside. inl (steps.Value v.0, (is, inside)))
      (λ out. inr (record {
        kind = _;
        place = _;
        refuses = refuses_range _ _ l v.0 _ _ is out.out out.fault refl;
        misfit = of_value (tests _ l numeral) out.of_value;
        number = λ e. out.of_value;
      }))
      (in_range_or_not _ v.0))
      (λ f. inr (record {
        kind = _;
        place = _;
        refuses = no_value _ l f.0 numeral f.1;
        misfit = of_value (tests _ l numeral) tt;
        number = λ e. tt;
      }))
      (exact_or_refused _ _)

  shape_of_number : (sign : Option Sign) (l : Lexeme) → misfit_at (number_wants sign) l ≡ faults.BadShape
  shape_of_number None l = refl
  shape_of_number (Some s) l = refl

  not_here : (sign : Option Sign) (l : Lexeme) → (l.kind ≡ kinds.Numeral → ⊥) → IsNoNumber range sign l
      → NumberRefused range sign l
  not_here sign l other none =
      let m = misplaced _ l (shape_of_number _ l) in
      record {
        kind = _;
        place = l.place;
        refuses = record { none = none; reason = grind arith };
        misfit = of_place (grind arith) m.kind_is;
        number = λ e. absurd (other e);
      }

  no_number_begins : (l : Lexeme) → (l.kind ≡ kinds.Numeral → ⊥) → (l.kind ≡ kinds.Plus → ⊥) → (l.kind ≡ kinds.Minus → ⊥)
      → IsNoNumber range None l
  no_number_begins l h1 h2 h3 = λ ls hs a all. grind arith

  sign_step : (sign : Option Sign) (l : Lexeme) (s : Sign) → IsSignAt s l → (l.kind ≡ kinds.Numeral → ⊥)
      → ((step : NumberStep) × IsNumberStep range sign l step) ⊎ NumberRefused range sign l
  sign_step None l s at other = inl (steps.Sign s, (refl, at))
  sign_step (Some before) l s at other = inr (not_here _ l other (grind arith))

  other_step : (sign : Option Sign) (l : Lexeme) → (l.kind ≡ kinds.Numeral → ⊥) → (l.kind ≡ kinds.Plus → ⊥)
      → (l.kind ≡ kinds.Minus → ⊥) → NumberRefused range sign l
  other_step None l h1 h2 h3 = not_here _ l h1 (no_number_begins l h1 h2 h3)
  other_step (Some s) l h1 h2 h3 = not_here _ l h1 (grind arith)

  -- what a token gives in a number's place
  pub number_step : (sign : Option Sign) (l : Lexeme) → ((step : NumberStep) × IsNumberStep range sign l step)
      ⊎ NumberRefused range sign l
  number_step sign l = at l.kind refl
    where
      at : (k : TokenKind) → l.kind ≡ k → ((step : NumberStep) × IsNumberStep range sign l step) ⊎ NumberRefused range sign l
      at kinds.Numeral e = numeral_step _ l e
      at kinds.Plus e = sign_step _ l _ (plus e refl refl) (λ f. cc)
      at kinds.Minus e = sign_step _ l _ (minus e refl refl) (λ f. cc)
      at _ e = inr (other_step _ l (λ f. cc) (λ f. cc) (λ f. cc))

-- ---- the same of whole readers

-- a token is taken
pub record TokenTaken {S V : Type 0} (Goes : S → List Lexeme → V → Type 0) (wants : S → List Lexeme → Expected) (old : S) (l : Lexeme)
    (new : S) : Type 0 where
  pub takes : TakesLexeme Goes old l new
  pub leads : ExpectsNext (wants old) l (wants new)

-- a token is refused
pub record TokenRefused {S V : Type 0} (Goes : S → List Lexeme → V → Type 0) (wants : S → List Lexeme → Expected)
    (Reason : Lexeme → ItemFault → ℕ → Type 0) (old : S) (l : Lexeme) : Type 0 where
  pub kind : ItemFault
  pub place : ℕ
  pub stuck : CannotTake Goes old l
  pub reason : Reason l kind place
  pub misfit : IsMisfit (wants old []) l kind

-- a token after the last number
pub record AfterNumbers (l : Lexeme) : Type 0 where
  pub kind : ItemFault
  pub reason : IsAfterNumbers l kind l.place
  pub kind_is : kind ≡ unexpected_token EndOfNumbers (Some l)

pub after_numbers : (l : Lexeme) → AfterNumbers l
after_numbers l = at (begins_number _) refl
  where
    at : (b : Bool) → begins_number l.kind ≡ b → AfterNumbers l
    at true e = record { kind = faults.WrongNumberCount; reason = refl; kind_is = grind arith }
    at false e = let m = misplaced EndOfNumbers l (cc) in
        record { kind = _; reason = grind arith; kind_is = m.kind_is }

-- a token in a colon's place
pub record NoColon (l : Lexeme) : Type 0 where
  pub other : l.kind ≢ kinds.Colon
  pub kind : ItemFault
  pub reason : IsMisplaced l kind l.place
  pub misfit : IsMisfit Mark l kind

pub colon_or_not : (l : Lexeme) → (l.kind ≡ kinds.Colon) ⊎ NoColon l
colon_or_not l = ⊎_elim inl (λ other. let m = misplaced Mark l refl in
    inr (record { other = other; kind = _; reason = m.reason; misfit = of_place refl m.kind_is })) (colon_kind_or_not _)
