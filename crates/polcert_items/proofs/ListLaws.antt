-- Lists of numbers, token by token.
use Rattle.std.proofs.Common.{◌≡◌, ◌∙◌, ℕ, ◌≤◌, inl, inr, true, false, Option, Some, None, List, [], ◌∷◌, ◌++◌, length, map, pos, refl}
use Rattle.std.proofs.Common.{sym, ap, subst, All, arith, append_assoc, Result, IfErr}
use Rattle.polcert_items.proofs.Common.{All-tail, Lexeme, Body, Numbers, Sign, Probability, TokenKind, Plus, Minus}
use Rattle.polcert_items.proofs.Common.{IsMillionths, AreNumbers, one, is_sign_kind, AreNumbersAfter, FitsRange, ListKind, is_minus_sign}
use Rattle.polcert_items.proofs.Common.{IsSignAt}
use Rattle.polcert_items.proofs.Common.{IsNoNumber, TakesLexeme, CannotTake, NumberListGoes, IfRefused, FeedError}
use Rattle.std.proofs.lemmas.List.Elements.{All-map}
use Rattle.polcert_items.specs.declared.signed_number.Range.TheVariants.{Reward}
use Rattle.polcert_cells.specs.Numbers as numbers
use Rattle.polcert_cells.proofs.Basics.{true≢false, cons≢nil, same_head, same_tail}
use Rattle.polcert_format.proofs.StillPossible.{zero_is}
use Rattle.polcert_items.specs.Steps.Start.{IsNumberHeld}
use Rattle.polcert_items.proofs.SignedNumbers.{sign_back, sign_on, value_back, value_on}

module _ {T : Type 0} (kind : ListKind T) where
  pub no_number : (n : Numbers T) (l : Lexeme) → IsNoNumber kind.range n.sign l → CannotTake (NumberListGoes kind) n l
  no_number n l no_value = λ ls body g. no_value ls _ g.numbers (All-map (FitsRange _) _ _ g.in_range)

  module _ (old new : Numbers T) (l : Lexeme) (same_needed : new.needed ≡ old.needed) where
    module _ (s : Sign) (at : IsSignAt s l) (was : old.sign ≡ None) (is : new.sign ≡ Some s) (same_read : new.read ≡ old.read) where
      pub takes_sign : TakesLexeme (NumberListGoes kind) old l new
      takes_sign = grind (arith, sign_back, sign_on)

    module _ (x : T) (distinct : (y z : T) → kind.worth y ≡ kind.worth z → y ≡ z)
        (v : IsMillionths (is_minus_sign old.sign) l (kind.worth x))
        (fits : FitsRange kind.range (kind.worth x)) (is : new.sign ≡ None) (read : new.read ≡ old.read ++ x ∷ []) where
      joined : (further : List T) → new.read ++ further ≡ old.read ++ x ∷ further
      joined further = ap (λ r. r ++ further) read ∙ append_assoc old.read (x ∷ []) further

      continues : (ls : List Lexeme) (further : List T) (body : Body) → AreNumbersAfter old.sign (l ∷ ls) (map kind.worth further)
          → All (λ y. FitsRange kind.range (kind.worth y)) further
          → length (old.read ++ further) ≡ old.needed → body ≡ kind.body (old.read ++ further) → NumberListGoes kind new ls body
      continues ls [] body a all enough is_body = absurd (cons≢nil (sym (value_on old.sign l ls _ [] v a).joined))
      continues ls (y ∷ ys) body a all enough is_body =
          let b = value_on old.sign l ls _ _ v a in
          let whole = joined ys
          ∙ ap (λ z. old.read ++ z ∷ ys) (sym (distinct y x (same_head b.joined))) in
          record {
            further = ys;
            numbers = rw is (subst (AreNumbers ls) (sym (same_tail b.joined)) b.numbers);
            in_range = All-tail (λ z. FitsRange kind.range (kind.worth z)) y ys all;
            enough = ap length whole ∙ enough ∙ sym same_needed;
            body_is = is_body ∙ ap kind.body (sym whole);
          }

      pub takes_number : TakesLexeme (NumberListGoes kind) old l new
      takes_number = grind (arith, value_back, joined, continues)

-- what holds of each error holds of this one
pub if_err : {T E : Type 0} (r : Result T E) (P : E → Type 0) → ((e : E) → P e) → IfErr r P
if_err = grind arith

pub if_refused : {P : Type 0} (stop : FeedError) → P → IfRefused stop (λ r. P)
if_refused = grind arith

-- no two probabilities are worth the same
pub one_probability : (x y : ℕ) → pos x ≡ pos y → x ≡ y
one_probability x y e = cc

pub fractions_in_range : (ps : List ℕ) → All (λ p. p ≤ one) ps → All (λ p. FitsRange Probability (pos p)) ps
fractions_in_range = grind arith

pub small_fractions : (ps : List ℕ) → All (λ p. FitsRange Probability (pos p)) ps → All (λ p. p ≤ one) ps
small_fractions ps fit = λ k d h. let f = fit k d h in rw (← one_probability _ _ (sym f.1.0)) f.1.1

-- ---- what continues to a number

sign_continues : (l : Lexeme) → is_sign_kind l.kind ≡ true → IsNoNumber Reward None l → ⊥
sign_continues l e none = of l.kind refl e
  where
    of : (kind : TokenKind) → l.kind ≡ kind → is_sign_kind kind ≡ true → ⊥
    of Plus is e = none _ _ (numbers.plus is (zero_is false) numbers.none) _
    of Minus is e = none _ _ (numbers.minus is (zero_is true) numbers.none) _
    of _ is e = true≢false e refl

-- neither a sign nor a number's numeral is refused in the first number's place
pub held_not_refused : (sign : Option Sign) (l : Lexeme) → IsNoNumber Reward sign l → IsNumberHeld sign l → ⊥
held_not_refused None l none (inl e) = sign_continues l e none
held_not_refused None l none (inr v) = none [] (v.0 ∷ []) (numbers.unsigned v.1 numbers.none) _
held_not_refused (Some sign) l none v = none [] (v.0 ∷ []) (v.1, numbers.none) _
