-- The tokens of a text without a fault are its cut, if that ends cleanly.
use Rattle.std.proofs.Common.{◌≡◌, ◌∙◌, ℕ, ◌+◌, ◌≤◌, true, Option, Some, None, List, [], ◌∷◌, length, refl, sym, ap, arith}
use Rattle.polcert_text.proofs.Common.{drop_all, nat_tests, Lexeme, Rest, Ends, EndsAt, IsCut, text_rest, is_gap, TokenFault}
use Rattle.std.proofs.lemmas.List.{length-drop, take_all}
use Rattle.polcert_text.specs.Cut.{text_limit}
use Rattle.polcert_text.specs.Tokens.{AreTokensFrom, AreTokens}

abbrev rest_of : ℕ → List ℕ → Option TokenFault → Rest
rest_of place bytes ending = record { place = place; bytes = bytes; ending = ending }

ends_clean : (place : ℕ) (bytes : List ℕ) → is_gap bytes ≡ true → Ends (rest_of place bytes None) None
ends_clean = grind (arith, take_all, drop_all)

cut_from : (place : ℕ) (bytes : List ℕ) (tokens : List Lexeme) → AreTokensFrom place bytes tokens
    → IsCut (rest_of place bytes None) tokens None
cut_from place bytes [] gap = ends_clean place bytes gap
cut_from place bytes (token ∷ tokens) (gap, longest, at, are) = (
  _,
  record { gap = gap; longest = longest; token_at = at; rest = refl },
  cut_from (place + gap + length _) _ tokens are,
)

no_bytes : (place : ℕ) (bytes : List ℕ) (ending : Option TokenFault) → EndsAt place bytes ending None → (bytes ≡ []) × (ending ≡ None)
no_bytes place [] ending e = (refl, sym e)
no_bytes place (b ∷ bytes) ending e = absurd e

pub tokens_from : (rest : Rest) (tokens : List Lexeme) → IsCut rest tokens None → AreTokensFrom rest.place rest.bytes tokens
tokens_from rest [] ends = let l : length rest.bytes ≤ ends.gap =
    omega (arith, sym (length-drop ends.gap rest.bytes) ∙ ap length (no_bytes _ _ _ ends.ends_at).0) in
    ap is_gap (sym (take_all ends.gap rest.bytes l)) ∙ ends.longest.gap
tokens_from rest (token ∷ tokens) (following, takes, cut) = grind (arith, tokens_from _ tokens cut)

-- a cut that ends cleanly is one of bytes that do
pub ends_cleanly : (rest : Rest) (tokens : List Lexeme) → IsCut rest tokens None → rest.ending ≡ None
ends_cleanly rest [] ends = (no_bytes _ _ _ ends.ends_at).1
ends_cleanly rest (token ∷ tokens) (following, takes, cut) = ap (λ (r : Rest). r.ending) (sym takes.rest) ∙ ends_cleanly _ tokens cut

some≢none : {A : Type 0} {x : A} → Some x ≡ None → ⊥
some≢none e = cc

pub clean_cut : (text : List ℕ) (tokens : List Lexeme) → AreTokens text tokens → IsCut (text_rest text text_limit) tokens None
clean_cut = grind (arith, nat_tests, cut_from)

pub clean_tokens : (text : List ℕ) (tokens : List Lexeme) → IsCut (text_rest text text_limit) tokens None → AreTokens text tokens
clean_tokens = grind (arith, nat_tests, tokens_from, ends_cleanly, some≢none)
