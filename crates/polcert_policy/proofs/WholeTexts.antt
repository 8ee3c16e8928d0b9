-- What is known of a text whose tokens are right, whatever tokens are.
use Rattle.std.proofs.Common.{Some, None, List, ◌++◌, subst, ℕ, arith}
use Rattle.polcert_policy.proofs.Common.{Lexeme, Rest, IsCut, text_rest, text_limit, Taken, TokenFault}
use Rattle.polcert_text.proofs.TextLaws.{one_cut}
use Rattle.polcert_text.proofs.Taken.TakenTokens.{cut_taken}
use Rattle.polcert_policy.proofs.Places.{some_none}

module _ {V : Type 0} (IsRight : List Lexeme → V → Type 0) (text : List ℕ) (v : V) (all : List Lexeme)
    (cut : IsCut (text_rest text text_limit) all None) (right : IsRight all v) where
  -- whatever tokens were taken of it, right ones begin with them
  pub not_stopped : (ts : List Lexeme) (rest : Rest) → Taken (text_rest text text_limit) ts rest
      → ((more : List Lexeme) × ((w : V) × IsRight (ts ++ more) w) → ⊥) → ⊥
  not_stopped = grind (arith, cut_taken)

  -- its tokens are right, whatever cut of it they are
  pub same_tokens : (ts : List Lexeme) → IsCut (text_rest text text_limit) ts None → IsRight ts v
  same_tokens ts other = subst (λ xs. IsRight xs v) (one_cut _ all ts None None cut other).0 right

  -- and no token of it is at fault
  pub no_token_fault : (ts : List Lexeme) (fault : TokenFault) → IsCut (text_rest text text_limit) ts (Some fault) → ⊥
  no_token_fault ts fault other = some_none fault (one_cut _ all ts None (Some fault) cut other).1
