-- That texts have an answer other than out of memory. That there is at most one is said by other laws: `one_answer`, `one_answer_above`
-- and `one_bound_answer`.
use Rattle.std.specs.Prelude.{◌⊎◌, ℕ, List, Result, Ok, Err}
use Rattle.polcert_check.specs.declared.survey.Verdict.{Verdict}
use Rattle.polcert_check.specs.declared.above.AboveVerdict.{AboveVerdict}
use Rattle.polcert_optimum.specs.declared.verdict.InformedVerdict.{InformedVerdict}
use Rattle.polcert_answer.specs.declared.fault.Fault.{Fault}
use Rattle.polcert_answer.specs.Answer.{IsAnswer, IsAnswerAbove, IsOutOfMemory}
use Rattle.polcert_bound_answer.specs.Answer.{IsBoundAnswer}

-- some verdict is an answer, or some fault is, which isn't out of memory
abbrev pub HasSome : {V : Type 0} → (Result V Fault → Type 0) → Type 0
HasSome {V} IsAnswered = ((verdict : V) × IsAnswered (Ok verdict)) ⊎ ((fault : Fault) × (IsOutOfMemory fault → ⊥) × IsAnswered (Err fault))

-- three texts have an answer
abbrev pub HasAnswer : List ℕ → List ℕ → List ℕ → Type 0
HasAnswer model graph vectors = HasSome {V = Verdict} (λ result. IsAnswer model graph vectors result)

-- and one from above
abbrev pub HasAnswerAbove : List ℕ → List ℕ → List ℕ → Type 0
HasAnswerAbove model graph vectors = HasSome {V = AboveVerdict} (λ result. IsAnswerAbove model graph vectors result)

-- a bound's two texts have an answer
abbrev pub HasBoundAnswer : List ℕ → List ℕ → Type 0
HasBoundAnswer model vectors = HasSome {V = InformedVerdict} (λ result. IsBoundAnswer model vectors result)
