-- Tokens that stand whole at the front of some bytes and that a reader takes together.
use Rattle.std.proofs.Common.{◌≡◌, ℕ, ◌+◌, ◌≤◌, Option, List, [], ◌++◌, length, drop, subst, arith, append_assoc}
use Rattle.std.proofs.lemmas.List.{append-nil, length-drop}
use Rattle.polcert_text.proofs.Common.{BeginWith, passed, Lexeme, Stream, visible, TakenFrom}
use Rattle.polcert_text.specs.Steps.TakenAhead.{ReadsOn, TakesAhead, ArePassed}
use Rattle.polcert_text.proofs.Taken.BeginLaws.{begin_none, begin_then}
use Rattle.polcert_text.proofs.Taken.PassedTokens.{passed_taken}

module _ {X R : Type 0} (IsRead : X → List Lexeme → R → Type 0) where
  pub takes_none : (r : R) (bytes : List ℕ) → TakesAhead (ReadsOn IsRead r r) bytes 0
  takes_none r bytes = record {
    within = omega arith;
    taken = λ place. ([], (begin_none place bytes, λ x seen h. rw (append-nil seen) h));
  }

  -- some, and more after them
  pub takes_more : (a b c : R) (bytes : List ℕ) (at n : ℕ) → TakesAhead (ReadsOn IsRead a b) bytes at
      → ((place : ℕ) → (ts : List Lexeme) × (BeginWith place (drop at bytes) n ts × ReadsOn IsRead b c ts))
      → TakesAhead (ReadsOn IsRead a c) bytes (at + n)
  takes_more a b c bytes at n was more = record {
    within = omega (arith, (more 0).1.0.within, length-drop at bytes);
    taken = λ place.
        let first = was.taken place in
        let next = more _ in (
          _,
          (
            begin_then place bytes at n first.0 next.0 first.1.0 next.1.0,
            λ x seen h. rw (← append_assoc seen first.0 next.0) (next.1.1 x _ (first.1.1 x seen h)),
          ),
        );
  }

-- what is at the front of a rest of some bytes ends within them
pub front_within : (bytes : List ℕ) (at n : ℕ) → at ≤ length bytes → n ≤ length (drop at bytes) → at + n ≤ length bytes
front_within bytes at n high within = omega (arith, length-drop at bytes)

module _ {Reads : List Lexeme → Type 0} where
  -- what was taken is passed
  pub ahead_passed : (tokens after : Stream) (bytes : List ℕ) (count : ℕ) → bytes ≡ visible tokens.ahead → after ≡ passed count tokens
      → TakesAhead Reads bytes count → ArePassed Reads tokens after
  ahead_passed tokens after bytes count is tokens_are takes =
      let here = (subst (λ xs. TakesAhead Reads xs count) is takes).taken _ in
      record { count = count; ts = here.0; front = here.1.0; tokens_are = tokens_are; reads_on = here.1.1 }

  -- and taken from the source
  pub all_passed : {S : Type 0} (reads : S → ℕ → Option (List ℕ) → S → Type 0) (failures : S → ℕ) (limit : ℕ) (first : S)
      (seen : List Lexeme) (tokens after : Stream) (s : S)
      → TakenFrom reads failures limit first seen tokens s → (p : ArePassed Reads tokens after)
      → TakenFrom reads failures limit first (seen ++ p.ts) after s
  all_passed = grind (arith, passed_taken)
