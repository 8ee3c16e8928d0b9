-- No two lexemes of a text stand at one place, so that a place tells which lexeme of a body is meant.
use Rattle.std.proofs.Common.{◌≡◌, ◌∙◌, ℕ, ◌+◌, ◌≤◌, Option, List, [], ◌∷◌, ◌++◌, length, flat_map, refl, ap, subst, arith}
use Rattle.polcert_format.proofs.Common.{Lexeme, Rest, IsCut, text_rest, text_limit, TokenFault, TextTokens, AreTokensOf, Item}
use Rattle.polcert_format.proofs.Common.{lexemes_of, IsDivided}
use Rattle.polcert_cells.proofs.Basics.{same_head, same_tail}
use Rattle.polcert_format.proofs.DecidedLaws.{SameCut}
use Rattle.polcert_format.proofs.Dividing.{all_append}
use Rattle.polcert_text.proofs.Scanning.SomeCut.{has_bytes}
use Rattle.polcert_format.proofs.PlaceLaws.{token_leaves}

-- the lexemes stand from here on, each after the one before it
abbrev pub Climbs : ℕ → List Lexeme → Type 0
Climbs from [] = Unit {0}
Climbs from (l ∷ ls) = (from ≤ l.place) × Climbs (l.place + 1) ls

climbs_from : (a b : ℕ) (ls : List Lexeme) → a ≤ b → Climbs b ls → Climbs a ls
climbs_from a b [] le c = tt
climbs_from a b (l ∷ ls) le c = (omega (arith, le, c.0), c.1)

cut_climbs : (rest : Rest) (ls : List Lexeme) (ending : Option TokenFault) → IsCut rest ls ending → Climbs rest.place ls
cut_climbs rest [] ending cut = tt
cut_climbs rest (l ∷ ls) ending cut = (
  (token_leaves rest _ l cut.1).0,
  climbs_from _ _ ls (let some = has_bytes rest cut.0 l cut.1 in let at : l.place ≡ rest.place + cut.1.gap = cut.1.token_at.place_is in
      let begin : cut.0.place ≡ rest.place + cut.1.gap + length l.bytes = ap (λ (r : Rest). r.place) cut.1.rest in
      omega (arith, some, at, begin)) (cut_climbs _ ls _ cut.2),
)

pub tokens_climb : (text : List ℕ) (ts : TextTokens) → AreTokensOf text ts → Climbs 0 ts.lexemes
tokens_climb text ts tokens =
    climbs_from 0 (text_rest text text_limit).place _ (omega arith)
    (cut_climbs _ _ _ tokens.cut)

-- ---- bodies

climbs_after : (a : ℕ) (xs ys : List Lexeme) → Climbs a (xs ++ ys) → (b : ℕ) × Climbs b ys
climbs_after a [] ys c = (a, c)
climbs_after a (x ∷ xs) ys c = climbs_after (x.place + 1) xs ys c.1

climbs_front : (a : ℕ) (xs ys : List Lexeme) → Climbs a (xs ++ ys) → Climbs a xs
climbs_front a [] ys c = tt
climbs_front a (x ∷ xs) ys c = (c.0, climbs_front (x.place + 1) xs ys c.1)

pub body_climbs : (ts : TextTokens) (before : List Item) (item : Item) (after : List Item) → Climbs 0 ts.lexemes
    → IsDivided ts.lexemes [] (before ++ item ∷ after) → (a : ℕ) × Climbs a item.body
body_climbs ts before item after climbs d =
    let later = flat_map lexemes_of after in (
      item.word.place + 1,
      climbs_front (item.word.place + 1) item.body later
          (climbs_after 0 (flat_map lexemes_of before) (item.word ∷ (item.body ++ later))
          (subst (Climbs 0) (d.whole ∙ all_append before (item ∷ after)) climbs)).1.1,
    )

-- ---- one lexeme at a place

stands_from : (a : ℕ) (xs : List Lexeme) (l : Lexeme) (us : List Lexeme) → Climbs a (xs ++ l ∷ us) → a ≤ l.place
stands_from a [] l us c = c.0
stands_from a (x ∷ xs) l us c = omega (arith, stands_from (x.place + 1) xs l us c.1, c.0)

-- lists that are the same, cut at lexemes of one place
pub one_lexeme : (a : ℕ) (xs ys us vs : List Lexeme) (l m : Lexeme) → Climbs a (xs ++ l ∷ us) → xs ++ l ∷ us ≡ ys ++ m ∷ vs
    → l.place ≡ m.place → SameCut xs ys us vs l m
one_lexeme a [] [] us vs l m c e p = record { front = refl; here = same_head e; following = same_tail e }
one_lexeme a [] (y ∷ ys) us vs l m c e p =
    absurd (omega (arith, stands_from (l.place + 1) ys m vs (subst (Climbs (l.place + 1)) (same_tail e) c.1), p))
one_lexeme a (x ∷ xs) [] us vs l m c e p =
    absurd (omega (arith, stands_from (x.place + 1) xs l us c.1, ap (λ (z : Lexeme). z.place) (same_head e), p))
one_lexeme a (x ∷ xs) (y ∷ ys) us vs l m c e p =
    let rest = one_lexeme (x.place + 1) xs ys us vs l m c.1 (same_tail e) p in
    record { front = (λ i. (same_head e) i ∷ rest.front i); here = rest.here; following = rest.following }
