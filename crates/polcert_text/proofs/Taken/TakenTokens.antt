-- The tokens that were taken, and the cut of the whole.
use Rattle.std.proofs.Common.{◌≡◌, ◌∙◌, Option, List, [], ◌∷◌, ◌++◌, refl, sym, ap, append_assoc, arith}
use Rattle.std.proofs.lemmas.List.{append-nil}
use Rattle.polcert_text.proofs.Common.{Lexeme, Rest, Ends, IsCut, Taken, token, TokenFault}
use Rattle.polcert_text.specs.TakenTokens.{nothing}
use Rattle.polcert_text.proofs.TextLaws.{token_or_end, one_next_token}

module _ (old : Rest) where
  -- after the tokens taken comes the rest's cut
  pub taken_cut : (new : Rest) (seen ts : List Lexeme) (end : Option TokenFault) → Taken old seen new → IsCut new ts end
      → IsCut old (seen ++ ts) end
  taken_cut new seen ts end (nothing _) cut = cut
  taken_cut new seen ts end (token _ between _ us t before takes) cut =
      grind (arith, append_assoc, taken_cut between us (t ∷ ts) end before (new, takes, cut))

  -- each cut of the whole begins with the tokens taken
  pub cut_taken : (new : Rest) (seen all : List Lexeme) (end : Option TokenFault) → Taken old seen new → IsCut old all end
      → (more : List Lexeme) × ((all ≡ seen ++ more) × IsCut new more end)
  cut_taken new seen all end (nothing _) cut = (all, (refl, cut))
  cut_taken new seen all end (token _ between _ us t before takes) cut =
      let was = cut_taken between us all end before cut in
      at was.0 was.1.0 was.1.1
    where
      at : (more : List Lexeme) → all ≡ us ++ more → IsCut between more end → (more : List Lexeme)
          × ((all ≡ (us ++ t ∷ []) ++ more) × IsCut new more end)
      at [] e rest = absurd (token_or_end between t new end takes rest)
      at (u ∷ more) e rest =
          let next = one_next_token between t u new rest.0 takes rest.1 in (
            more,
            (
              e ∙ ap (λ x. us ++ x ∷ more) (sym next.0) ∙ sym (append_assoc us _ more),
              rw next.1 rest.2,
            ),
          )

  -- where the rest holds no more tokens, the tokens taken are all
  pub all_taken : (new : Rest) (seen : List Lexeme) (end : Option TokenFault) → Taken old seen new → Ends new end → IsCut old seen end
  all_taken new seen end taken ends = rw (← append-nil seen) (taken_cut new seen [] end taken ends)
