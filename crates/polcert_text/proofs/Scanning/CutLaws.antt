-- A text has one cut.
use Rattle.std.proofs.Common.{◌≡◌, ℕ, Option, List, [], ◌∷◌, refl, subst, arith}
use Rattle.polcert_text.proofs.Common.{kind_of, IsLongestGap, Lexeme, Rest, IsTokenAt, TakesToken, EndsAt, Ends, IsCut, TokenFault}

pub one_gap : (bs : List ℕ) (m n : ℕ) → IsLongestGap bs m → IsLongestGap bs n → m ≡ n
one_gap = grind arith

no_token_at_end : (place : ℕ) (bs : List ℕ) (ending : Option TokenFault) (x : Option TokenFault) (t : Lexeme) → IsTokenAt place bs t
    → EndsAt place bs ending x → ⊥
unfolding kind_of
no_token_at_end = grind arith

-- a token and an end don't both come next
pub no_token_and_end : (rest : Rest) (t : Lexeme) (following : Rest) (x : Option TokenFault) → TakesToken rest t following → Ends rest x → ⊥
no_token_and_end = grind (arith, one_gap, no_token_at_end)

pub one_next : (rest : Rest) (s t : Lexeme) (x y : Rest) → TakesToken rest s x → TakesToken rest t y → (s ≡ t) × (x ≡ y)
one_next = grind arith

pub one_end : (rest : Rest) (x y : Option TokenFault) → Ends rest x → Ends rest y → x ≡ y
one_end = grind arith

-- a rest has one cut
pub one_cut : (rest : Rest) (ss ts : List Lexeme) (x y : Option TokenFault) → IsCut rest ss x → IsCut rest ts y → (ss ≡ ts) × (x ≡ y)
one_cut rest [] [] x y a b = (refl, one_end rest x y a b)
one_cut rest [] (t ∷ ts) x y a b = absurd (no_token_and_end rest t b.0 x b.1 a)
one_cut rest (s ∷ ss) [] x y a b = absurd (no_token_and_end rest s a.0 y a.1 b)
one_cut rest (s ∷ ss) (t ∷ ts) x y a b =
    let next = one_next rest s t a.0 b.0 a.1 b.1 in
    let more = one_cut b.0 ss ts x y (subst (λ r. IsCut r ss x) next.1 a.2) b.2 in
    ((λ i. next.0 i ∷ more.0 i), more.1)
