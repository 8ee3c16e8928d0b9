-- A text is answered token by token.
use Rattle.std.proofs.Common.{◌⊎◌, ⊎_elim, Option, List, [], ◌∷◌, ◌++◌}
use Rattle.polcert_text.specs.Cut.{Lexeme, Rest, IsCut}
use Rattle.polcert_text.specs.TakenTokens.{Taken, nothing, token}
use Rattle.polcert_text.specs.declared.tokens.TokenFault.{TokenFault}
use Rattle.polcert_text.proofs.Scanning.SomeCut.{some_cut}
use Rattle.polcert_text.proofs.Taken.TakenTokens.{all_taken}

-- There is an answer, if each token keeps what is known of the tokens before it or gives an answer, and the end gives one.
module _ {Answer : Type 0} (text : Rest) (SoFar : List Lexeme → Type 0) (start : SoFar [])
    (take : (seen : List Lexeme) (t : Lexeme) → SoFar seen → SoFar (seen ++ t ∷ [])
    ⊎ ((rest : Rest) → Taken text (seen ++ t ∷ []) rest → Answer))
    (at_end : (seen : List Lexeme) (end : Option TokenFault) → IsCut text seen end → SoFar seen → Answer) where
  -- the tokens so far were taken, and these are left
  answered_from : (left seen : List Lexeme) (rest : Rest) (end : Option TokenFault) → Taken text seen rest → IsCut rest left end
      → SoFar seen → Answer
  answered_from [] seen rest end taken ends so_far = at_end _ end (all_taken _ _ _ end taken ends) so_far
  answered_from (t ∷ left) seen rest end taken cut so_far =
      let more = token _ _ _ _ t taken cut.1 in
      ⊎_elim (λ next. answered_from left _ _ end more cut.2 next) (λ answer. answer _ more) (take _ t so_far)

  pub answered : Answer
  answered = let all = some_cut _ in answered_from _ [] text _ (nothing _) all.2 start
