-- Where the tokens of a text stop being possible, and that it is refused for one reason.
use Rattle.std.proofs.Common.{◌≡◌, ◌∙◌, ◌⊎◌, inl, inr, ⊎_elim, Option, List, [], ◌∷◌, ◌++◌, refl, sym, subst, append-nil, arith}
use Rattle.polcert_policy.proofs.Common.{Lexeme, Rest, IsCut, Taken, TokenFault}
use Rattle.polcert_text.specs.Cut.{TakesToken}
use Rattle.polcert_text.specs.TakenTokens.{nothing, token}
use Rattle.polcert_text.proofs.TextLaws.{one_cut, one_next_token}
use Rattle.polcert_text.proofs.Taken.TakenTokens.{cut_taken}
use Rattle.polcert_policy.specs.Stops.{FirstBadToken}
use Rattle.polcert_policy.proofs.VectorLaws.{head_of, tail_of, cons_not_nil}

-- the tokens taken, from the first on
abbrev From : Rest → List Lexeme → Rest → Type 0
From old [] new = old ≡ new
From old (t ∷ ts) new = (between : Rest) × TakesToken old t between × From between ts new

from_snoc : (ts : List Lexeme) (old between new : Rest) (t : Lexeme) → From old ts between → TakesToken between t new
    → From old (ts ++ t ∷ []) new
from_snoc [] old between new t e takes = (new, subst (λ r. TakesToken r t new) (sym e) takes, refl)
from_snoc (u ∷ us) old between new t h takes = (h.0, h.1, from_snoc us h.0 between new t h.2 takes)

taken_from : (old new : Rest) (ts : List Lexeme) → Taken old ts new → From old ts new
taken_from old new ts (nothing _) = refl
taken_from old new ts (token _ between _ us t before takes) = from_snoc us old between new t (taken_from old between us before) takes

-- of two lists of tokens taken one begins the other
fronts : (old x y : Rest) (us vs : List Lexeme) → From old us x → From old vs y → ((more : List Lexeme) × (vs ≡ us ++ more))
    ⊎ ((more : List Lexeme) × (us ≡ vs ++ more))
fronts old x y [] vs a b = inl (vs, refl)
fronts old x y (u ∷ us) [] a b = inr (u ∷ us, refl)
fronts old x y (u ∷ us) (v ∷ vs) a b =
    let next = one_next_token old u v a.0 b.0 a.1 b.1 in
    ⊎_elim (λ l. inl (l.0, λ i. sym next.0 i ∷ l.1 i)) (λ r. inr (r.0, λ i. next.0 i ∷ r.1 i))
    (fronts a.0 x y us vs a.2 (subst (λ r. From r vs y) (sym next.1) b.2))

no_middle : (us ms : List Lexeme) (m : Lexeme) → [] ≡ us ++ m ∷ ms → ⊥
no_middle [] ms m e = cons_not_nil _ _ (sym e)
no_middle (u ∷ us) ms m e = cons_not_nil _ _ (sym e)

-- what begins a list and is shorter begins it without its last
front_of_snoc : (us xs : List Lexeme) (m y : Lexeme) (ms : List Lexeme) → xs ++ y ∷ [] ≡ us ++ m ∷ ms → (w : List Lexeme) × (xs ≡ us ++ w)
front_of_snoc [] xs m y ms e = (xs, refl)
front_of_snoc (u ∷ us) [] m y ms e = absurd (no_middle us ms m (tail_of y u _ _ e))
front_of_snoc (u ∷ us) (x ∷ xs) m y ms e = grind (arith, front_of_snoc us xs m y ms (tail_of x u _ _ e))

same_snoc : (xs ys : List Lexeme) (x y : Lexeme) → xs ++ x ∷ [] ≡ ys ++ y ∷ [] → (xs ≡ ys) × (x ≡ y)
same_snoc [] [] x y e = (refl, head_of x y _ _ e)
same_snoc (z ∷ xs) (w ∷ ys) x y e = grind (arith, same_snoc xs ys x y (tail_of z w _ _ e))
same_snoc c d x y e = grind (arith, no_middle)

module _ (P : List Lexeme → Type 0) (front : (ts us : List Lexeme) → P (ts ++ us) → P ts) where
  not_longer : (us vs : List Lexeme) (s t : Lexeme) → P vs → (P (us ++ s ∷ []) → ⊥) → (more : List Lexeme)
      → vs ++ t ∷ [] ≡ (us ++ s ∷ []) ++ more → (us ≡ vs) × (s ≡ t)
  not_longer us vs s t possible none [] e = same_snoc us vs s t (sym (e ∙ append-nil (us ++ s ∷ [])))
  not_longer us vs s t possible none (m ∷ ms) e = grind (arith, front_of_snoc)

  -- the tokens of a text stop being possible at one token
  one_stop : (rest x y : Rest) (us vs : List Lexeme) (s t : Lexeme) → Taken rest (us ++ s ∷ []) x → Taken rest (vs ++ t ∷ []) y
      → P us → P vs → (P (us ++ s ∷ []) → ⊥) → (P (vs ++ t ∷ []) → ⊥) → (us ≡ vs) × (s ≡ t)
  one_stop = grind (arith, taken_from, fronts, not_longer)

  -- where all of them are possible they stop nowhere
  no_stop : (rest x : Rest) (ts us : List Lexeme) (end : Option TokenFault) → IsCut rest ts end → P ts → Taken rest us x → (P us → ⊥) → ⊥
  no_stop = grind (arith, cut_taken)

  -- Why a text is refused, where this says why a token can't stand after others, and that how the text ends: one of its tokens can't
  -- stand after those before it, or the text ends so.
  module _ {F : Type 0} (IsWrong : List Lexeme → Lexeme → F → Type 0) (EndsFor : List Lexeme → Option TokenFault → F → Type 0) (rest : Rest)
    where
      abbrev pub HasReason : F → Type 0
      HasReason f = ((tokens : List Lexeme) × ((new : Rest) × Taken rest tokens new
          × FirstBadToken P (λ before token. IsWrong before token f) tokens))
          ⊎ ((tokens : List Lexeme) × ((end : Option TokenFault) × IsCut rest tokens end × P tokens × EndsFor tokens end f))

      -- there is one reason, where a wrong token has one and an end has
      pub one_reason : ((ts : List Lexeme) (t : Lexeme) (f g : F) → IsWrong ts t f → IsWrong ts t g → f ≡ g)
          → ((ts : List Lexeme) (end : Option TokenFault) (f g : F) → EndsFor ts end f → EndsFor ts end g → f ≡ g)
          → (f g : F) → HasReason f → HasReason g → f ≡ g
      one_reason = grind (arith, one_cut, one_stop, no_stop)
