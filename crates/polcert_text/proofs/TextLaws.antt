-- The laws of the definitions that proofs of the crates above may cite. Each is the contract of a public function.
use Rattle.std.proofs.Common.{◌≡◌, ◌∙◌, ℕ, Bool, Option, Some, None, Result, Ok, Err, List, refl, sym, arith, ℤ, ◌≤ℤ◌, rules}
use Rattle.polcert_text.proofs.Common.{ints, Lexeme, Rest, TakesToken, Ends, IsCut, IsReadable, IsExact, IsFloor}
use Rattle.polcert_text.proofs.Common.{IsCeil, IsRounded, TokenFault, Rounding}
use Rattle.polcert_text.specs.Reading.{GivesNext}
use Rattle.polcert_text.specs.Numbers.{IsRefused, IsRefusedExactly}
use Rattle.polcert_text.specs.declared.tokens.Token.{Token}
use Rattle.polcert_text.specs.declared.number.NumberFault.{NumberFault}
use Rattle.polcert_text.proofs.Scanning.CutLaws as cuts
use Rattle.polcert_text.proofs.Numbers.SizeLaws.{millionth_pos}
use Rattle.polcert_text.proofs.Numbers.SignedLaws.{one_quotient, le_times_back}

pub one_cut : (rest : Rest) (ss ts : List Lexeme) (x y : Option TokenFault) → IsCut rest ss x → IsCut rest ts y → (ss ≡ ts) × (x ≡ y)
one_cut = cuts.one_cut

pub one_next_token : (rest : Rest) (s t : Lexeme) (x y : Rest) → TakesToken rest s x → TakesToken rest t y → (s ≡ t) × (x ≡ y)
one_next_token = cuts.one_next

pub one_end : (rest : Rest) (x y : Option TokenFault) → Ends rest x → Ends rest y → x ≡ y
one_end = cuts.one_end

pub token_or_end : (rest : Rest) (t : Lexeme) (following : Rest) (x : Option TokenFault) → TakesToken rest t following → Ends rest x → ⊥
token_or_end = cuts.no_token_and_end

none≢some : {A : Type 0} (x : A) → None ≡ Some x → ⊥
none≢some x e = cc

-- what ends stays as it was
ends_again : (rest : Rest) (x : Option TokenFault) (answer : Option (Result Token TokenFault)) (later : Rest) → Ends rest x
    → GivesNext rest answer later
    → (answer ≡ (elim x as (λ _. Option (Result Token TokenFault)) [ None ↦ None | Some f ↦ Some (Err f) ])) × (later ≡ rest)
ends_again rest None None later ends next = (refl, next.1)
ends_again rest (Some f) None later ends next = absurd (none≢some f (one_end rest None _ next.0 ends))
ends_again rest x (Some (Ok token)) later ends next = absurd (token_or_end rest _ later x next.0 ends)
ends_again rest None (Some (Err f)) later ends next = absurd (none≢some f (one_end rest None _ ends next.0))
ends_again rest (Some g) (Some (Err f)) later ends next = grind arith

module _ (old : Rest) (new : Rest) (later : Rest) where
  pub refusal_again : (fault : TokenFault) (answer : Option (Result Token TokenFault))
      → GivesNext old (Some (Err fault)) new → GivesNext new answer later → (answer ≡ Some (Err fault)) × (later ≡ new)
  refusal_again fault answer was next = ends_again new (Some fault) answer later (rw was.1 was.0) next

  pub end_again : (answer : Option (Result Token TokenFault)) → GivesNext old None new → GivesNext new answer later
      → (answer ≡ None) × (later ≡ new)
  end_again answer was next = ends_again new None answer later (rw was.1 was.0) next

pub one_exact_value : (negative : Bool) (bs : List ℕ) (h k : ℤ) → IsExact negative bs h → IsExact negative bs k → h ≡ k
one_exact_value negative bs h k a b = one_quotient _ millionth_pos h k (a ∙ sym b)

pub one_floor : (negative : Bool) (bs : List ℕ) (h k : ℤ) → IsFloor negative bs h → IsFloor negative bs k → h ≡ k
one_floor = grind arith

pub one_ceil : (negative : Bool) (bs : List ℕ) (h k : ℤ) → IsCeil negative bs h → IsCeil negative bs k → h ≡ k
one_ceil = grind arith

le_refl : (x y : ℤ) → x ≡ y → x ≤ℤ y
le_refl = omega (arith, ints)

le_through : (x y z : ℤ) → x ≤ℤ y → y ≤ℤ z → x ≤ℤ z
le_through = omega (arith, ints)

pub exact_is_rounded : (rounding : Rounding) (negative : Bool) (bs : List ℕ) (h : ℤ) → IsExact negative bs h
    → IsRounded rounding negative bs h
exact_is_rounded = grind (arith, millionth_pos, le_times_back, le_refl)

pub floor_below_ceil : (negative : Bool) (bs : List ℕ) (h k : ℤ) → IsFloor negative bs h → IsCeil negative bs k → h ≤ℤ k
floor_below_ceil negative bs h k f c = search (rules, millionth_pos, le_times_back, le_through)

pub readable_not_refused : (bs : List ℕ) (f : NumberFault) → IsReadable bs → IsRefused bs f → ⊥
readable_not_refused = grind arith

pub exact_not_refused : (negative : Bool) (bs : List ℕ) (f : NumberFault) (h : ℤ) → IsReadable bs → IsExact negative bs h
    → IsRefusedExactly negative bs f → ⊥
exact_not_refused = grind arith

pub one_exact_fault : (negative : Bool) (bs : List ℕ) (f g : NumberFault) → IsRefusedExactly negative bs f → IsRefusedExactly negative bs g
    → f ≡ g
one_exact_fault = grind arith
