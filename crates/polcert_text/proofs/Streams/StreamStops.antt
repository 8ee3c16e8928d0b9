-- A stream that has stopped.
use Rattle.std.proofs.Common.{◌≡◌, ℕ, Option, Some, None, List, [], Result, Ok, Err, refl, arith}
use Rattle.polcert_text.proofs.Common.{Lexeme, Ahead, Stream, GivesEnd, EndsAsAnswered, TokenFault}
use Rattle.polcert_text.specs.Stream.{IsAtEnd, Answers, AnswersNext, answer_of}
use Rattle.polcert_text.specs.declared.stream_tokens.StreamFault.{StreamFault}
use Rattle.polcert_text.specs.declared.stream_tokens.LastAnswer.{LastAnswer}
use Rattle.polcert_text.proofs.Streams.StreamLaws.{from_nothing}

some≢none : {A : Type 0} {x : A} {o : Option A} → o ≡ Some x → o ≡ None → ⊥
some≢none e f = cc

one_stop : (stop other : LastAnswer) (o : Option LastAnswer) → o ≡ Some stop → o ≡ Some other → stop ≡ other
one_stop stop other o e f = cc

module _ {S : Type 0} (reads : S → ℕ → Option (List ℕ) → S → Type 0) (failures : S → ℕ) where
  ends_again : (a : Ahead) (s : S) (answer : Option TokenFault) → IsAtEnd a answer → GivesEnd reads failures a s answer a s
  ends_again a s answer at = record {
    given = [];
    was_read = from_nothing reads failures _ s;
    same_count = refl;
    size = omega arith;
    ends = at.ends;
    at_end = at;
  }

  module _ {T : Type 0} (lexeme : T → Lexeme) (old : Stream) (s : S) where
    answered_again : (stop : LastAnswer) → old.stop ≡ Some stop → EndsAsAnswered old.ahead (Some stop)
        → Answers reads failures lexeme old s (answer_of stop) old s
    answered_again = grind (arith, some≢none, ends_again)

    -- the same answer once more
    pub stopped_answers : (stop : LastAnswer) (result : Result (Option T) StreamFault) → result ≡ answer_of stop → old.stop ≡ Some stop
        → EndsAsAnswered old.ahead old.stop
        → AnswersNext reads failures lexeme old s result old s
    stopped_answers = grind (arith, one_stop, answered_again)

  module _ {T U : Type 0} (lexeme : T → Lexeme) (other : U → Lexeme) (old : Stream) (s : S) (new : Stream) (u : S) where
    -- the end, and a fault, show no lexeme
    pub end_as : AnswersNext reads failures lexeme old s (Ok None) new u → AnswersNext reads failures other old s (Ok None) new u
    end_as a = record {
      answers = a.answers;
      again = λ stop is. let was = a.again stop is in (grind arith, was.1, was.2);
    }

    pub fault_as : (fault : StreamFault) → AnswersNext reads failures lexeme old s (Err fault) new u
        → AnswersNext reads failures other old s (Err fault) new u
    fault_as fault a = record {
      answers = grind arith;
      again = λ stop is. let was = a.again stop is in (grind arith, was.1, was.2);
    }
