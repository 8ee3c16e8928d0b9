-- What is said of points where their tokens end.
use Rattle.std.proofs.Common.{◌≡◌, ◌∙◌, ℕ, ◌+◌, ◌*◌, ◌/◌, ◌%◌, ◌<◌, ◌≤◌, inl, ◌⊎◌, Result, Ok, Err, List, [], length, refl}
use Rattle.std.proofs.Common.{ap, subst, arith, MatchResult}
use Rattle.std.proofs.lemmas.Nat.{div-add-mod', mod_below}
use Rattle.polcert_policy.proofs.Common.{Lexeme, Minus, is_joined}
use Rattle.polcert_policy.specs.Steps.GraphRead.{IsFirstBeyondAt}
use Rattle.polcert_policy.specs.Points.{PointValues}
use Rattle.polcert_policy.specs.PointTokens.{PointsSoFar, nothing_read, TakesSign, TakesValue, TakesAll, IsWrongValue, is_joined_to}
use Rattle.polcert_policy.specs.PointText.{AreLoosePoints, IsFirstUnknown}
use Rattle.polcert_policy.specs.Steps.PointsRead.{IsMemoryOr}
use Rattle.polcert_policy.specs.declared.graph.MinusSign.{MinusSign}
use Rattle.polcert_policy.specs.declared.points_reading.PointField.TheVariants as fields
use Rattle.polcert_policy.specs.declared.fault.PointFault.{PointFault}
use Rattle.polcert_policy.specs.declared.fault.PointFault.TheVariants as faults

-- a `-` that stops there
abbrev pub minus_at : ℕ → Lexeme
minus_at stop = record { kind = Minus; place = stop; bytes = [] }

pub joined_as : (m : MinusSign) (t : Lexeme) → is_joined (minus_at m.stop) t ≡ is_joined_to m t
joined_as m t = grind arith

pub memory_or : (IsWrong : PointFault → Type 0) (fault : PointFault) → IsWrong fault → IsMemoryOr IsWrong fault
memory_or IsWrong faults.Memory h = tt
memory_or IsWrong fault h = h

pub sign_taken : (a : ℕ) (old new : PointsSoFar) (t : Lexeme) (r : Result (Unit {0}) PointFault)
    → MatchResult r (λ _. TakesSign old t new) (IsWrongValue old t)
    → MatchResult r (λ _. TakesSign old t new ⊎ TakesValue a old t new) (IsMemoryOr (IsWrongValue old t))
sign_taken a old new t (Ok u) h = inl h
sign_taken a old new t (Err fault) h = memory_or (IsWrongValue old t) fault h

module _ (S A Z : ℕ) (ts : List Lexeme) (st : PointsSoFar) (read : TakesAll S A Z nothing_read ts st) (whole : st.field ≡ fields.Number)
  where
    abbrev read_points : PointValues
    read_points = record { states = S; actions = A; observations = Z; rows = st.rows; values = st.values; names = st.names }

    pub loose_read : (p : PointValues) → p ≡ read_points → AreLoosePoints S A Z ts p
    loose_read p e = record { last = st; read = read; whole = whole; points_are = e }

    pub unknown_read : (place : ℕ) → 1 ≤ A → 1 ≤ Z → IsFirstBeyondAt (length st.rows) st.names place
        → (p : PointValues) × AreLoosePoints S A Z ts p × IsFirstUnknown p (place / Z / A) (place / Z % A) (place % Z)
    unknown_read place some_a some_z first =
        let of_action = div-add-mod' (place / Z) A in
        let at = ap (λ n. n * Z + place % Z) of_action
        ∙ div-add-mod' place Z in (
          read_points,
          loose_read read_points refl,
          record {
            number = first.node;
            action_is = mod_below (place / Z) A some_a;
            observation_is = mod_below place Z some_z;
            named = cc (at, first.beyond);
            unknown = first.above;
            first = λ k m before named. first.first k m (subst (λ n. k < n) at before) named;
          },
        )
