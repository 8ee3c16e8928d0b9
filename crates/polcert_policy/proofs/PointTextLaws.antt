-- What refused or accepted tokens of points say of the whole text.
use Rattle.polcert_policy.specs.declared.points_reading.PointField.{PointField}
use Rattle.std.proofs.Common.{◌≡◌, ◌∙◌, ℕ, ◌≤◌, inl, inr, None, List, [], ◌∷◌, ◌++◌, length, refl, sym, ap, subst, arith}
use Rattle.polcert_policy.proofs.Common.{Lexeme, Rest, IsCut, text_rest, text_limit, Taken}
use Rattle.polcert_text.proofs.Scanning.CleanCut.{clean_cut, clean_tokens}
use Rattle.polcert_policy.specs.Points.{PointValues}
use Rattle.polcert_policy.specs.PointTokens.{PointsSoFar, nothing_read, TakesPointToken, TakesAll, IsWrongField, IsWrongPoint}
use Rattle.polcert_policy.specs.PointText.{AreLoosePoints, ArePointTokens, IsPointsText, NamesPointsOnly, BeginPoints, HasWrongPoint}
use Rattle.polcert_policy.specs.PointText.{EndsInsidePoint, HasFirstUnknown, IsPointsRefusal, IsNoPointsText, IsRefusedPointsText}
use Rattle.polcert_policy.specs.Steps.PointsRead.{IsMemoryOr, IsPointsEnd}
use Rattle.polcert_policy.specs.declared.fault.PointFault.{PointFault}
use Rattle.polcert_policy.specs.declared.fault.PointFault.TheVariants as faults
use Rattle.polcert_policy.proofs.WholeTexts.{not_stopped, same_tokens, no_token_fault}
use Rattle.polcert_policy.proofs.PointLaws.{all_taken, front_taken, taken_right}
use Rattle.polcert_policy.proofs.PointFieldLaws.{by_fields}
use Rattle.polcert_policy.proofs.PointFieldsTaken.{from_fields}

-- a fault that one token shows
abbrev IsAtToken : PointFault → Type 0
IsAtToken (faults.Token fault) = ⊥
IsAtToken (faults.NextOutOfRange i a z) = ⊥
IsAtToken (faults.Truncated place) = ⊥
IsAtToken faults.Memory = ⊥
IsAtToken _ = Unit {0}

field_at_token : (S : ℕ) (f : PointField) (old : PointsSoFar) (t : Lexeme) (fault : PointFault) → IsWrongField S f old t fault
    → IsAtToken fault
field_at_token S f old t fault h = grind arith

at_token : (S : ℕ) (old : PointsSoFar) (t : Lexeme) (fault : PointFault) → IsWrongPoint S old t fault → IsAtToken fault
at_token S old t fault (inl h) = subst IsAtToken (sym h.fault_is) tt
at_token S old t fault (inr h) = field_at_token S old.field _ t fault h.wrong

module _ (S A Z : ℕ) where
  -- the tokens are at most one list of points
  pub one_loose : (ts : List Lexeme) (p q : PointValues) → AreLoosePoints S A Z ts p → AreLoosePoints S A Z ts q → p ≡ q
  one_loose ts p q x y =
      x.points_are ∙ ap (λ (st : PointsSoFar). record {
        states = S;
        actions = A;
        observations = Z;
        rows = st.rows;
        values = st.values;
        names = st.names;
      }) (all_taken S A Z nothing_read x.last y.last ts x.read y.read) ∙ sym y.points_are

  pub begin_front : (ts us : List Lexeme) → BeginPoints S A Z (ts ++ us) → BeginPoints S A Z ts
  begin_front ts us h = let front = front_taken S A Z nothing_read h.0 ts us h.1 in (front.0, front.1)

  loose_begin : (ts us : List Lexeme) (p : PointValues) → AreLoosePoints S A Z (ts ++ us) p → BeginPoints S A Z ts
  loose_begin ts us p h = begin_front ts us (h.last, h.read)

  module _ (text : List ℕ) where
    module _ (seen : List Lexeme) (t : Lexeme) (rest : Rest) (st : PointsSoFar)
        (taken : Taken (text_rest text text_limit) (seen ++ t ∷ []) rest) (read : TakesAll S A Z nothing_read seen st) where
      first_bad : (fault : PointFault) → IsWrongPoint S st t fault → HasWrongPoint S A Z text fault
      first_bad fault wrong = (
        seen ++ t ∷ [],
        (
          rest,
          taken,
          record {
            before = seen;
            token = t;
            spelled = refl;
            possible = (st, read);
            impossible = λ begin.
                let front = front_taken S A Z nothing_read begin.0 seen (t ∷ []) begin.1 in
                let same = all_taken S A Z nothing_read front.0 st seen front.1 read in
                taken_right S A Z st front.2.0 t fault (subst (λ m. TakesPointToken S A Z m t front.2.0) same front.2.1) wrong;
            wrong = (st, read, wrong);
          },
        ),
      )

      -- a token is refused
      pub token_refusal : (fault : PointFault) → IsMemoryOr (IsWrongPoint S st t) fault → IsPointsRefusal S A Z text fault
      token_refusal (faults.Token fault) h = absurd (at_token S st t _ h)
      token_refusal (faults.NextOutOfRange i a z) h = absurd (at_token S st t _ h)
      token_refusal (faults.Truncated place) h = absurd (at_token S st t _ h)
      token_refusal faults.Memory h = tt
      token_refusal fault h = first_bad fault h

    -- the tokens end
    pub end_refusal : (ts : List Lexeme) (fault : PointFault) → IsCut (text_rest text text_limit) ts None
        → IsPointsEnd S A Z ts (length text) fault → IsPointsRefusal S A Z text fault
    end_refusal ts (faults.Truncated place) cut h = record
        { tokens = ts; cut = cut; place_is = h.0; last = h.1.0; read = h.1.1; inside = h.1.2 }
    end_refusal ts (faults.NextOutOfRange i a z) cut h = record { tokens = ts; points = h.0; cut = cut; loose = h.1; unknown = h.2 }
    end_refusal ts _ cut h = absurd h

    -- the text is no points where it is refused
    module _ (p : PointValues) (ts : List Lexeme) (cut : IsCut (text_rest text text_limit) ts None) (loose : AreLoosePoints S A Z ts p)
      where
        no_wrong : (fault : PointFault) → HasWrongPoint S A Z text fault → ⊥
        no_wrong fault h = not_stopped (AreLoosePoints S A Z) text p ts cut loose h.0 h.1.0 h.1.1
            (λ more. h.1.2.impossible (loose_begin h.0 more.0 more.1.0 more.1.1))

        not_inside : (place : ℕ) → EndsInsidePoint S A Z text place → ⊥
        not_inside place h =
            let whole = same_tokens (AreLoosePoints S A Z) text p ts cut loose h.tokens h.cut in
            h.inside (ap (λ st. st.field) (all_taken S A Z nothing_read h.last whole.last h.tokens h.read whole.read) ∙ whole.whole)

        all_known : NamesPointsOnly p → (i a z : ℕ) → HasFirstUnknown S A Z text i a z → ⊥
        all_known bound i a z h =
            let same = one_loose h.tokens p h.points (same_tokens (AreLoosePoints S A Z) text p ts cut loose h.tokens h.cut) h.loose in
            let known = subst NamesPointsOnly same bound _ _ h.unknown.named in
            omega arith

    module _ (some_s : 1 ≤ S) (some_a : 1 ≤ A) (some_z : 1 ≤ Z) where
      pub read_of : (p : PointValues) → IsPointsText S A Z text p → (ts : List Lexeme) × IsCut (text_rest text text_limit) ts None
          × ArePointTokens S A Z ts p
      read_of p given = (given.0, clean_cut text given.0 given.1, from_fields S A Z given.0 p some_s some_a some_z given.2)

      no_points : (fault : PointFault) → IsPointsRefusal S A Z text fault → IsNoPointsText S A Z text fault
      no_points (faults.Token fault) h = λ p given. let is = read_of p given in
          no_token_fault (AreLoosePoints S A Z) text p is.0 is.1 is.2.loose h.0 fault h.1
      no_points (faults.Truncated place) h = λ p given. let is = read_of p given in not_inside p is.0 is.1 is.2.loose place h
      no_points (faults.NextOutOfRange i a z) h = λ p given. let is = read_of p given in all_known p is.0 is.1 is.2.loose is.2.bound i a z h
      no_points faults.Memory h = tt
      no_points fault h = λ p given. let is = read_of p given in no_wrong p is.0 is.1 is.2.loose fault h

      -- all that is promised of a refusal
      pub refused_text : (fault : PointFault) → IsPointsRefusal S A Z text fault → IsRefusedPointsText S A Z fault text
      refused_text fault r = record { no_points = no_points fault r; refusal = r }

      pub points_text : (p : PointValues) (ts : List Lexeme) → IsCut (text_rest text text_limit) ts None → ArePointTokens S A Z ts p
          → IsPointsText S A Z text p
      points_text p ts cut are = (ts, clean_tokens text ts cut, by_fields S A Z ts p some_s some_a some_z are)

-- ---- the same for a reading of this shape

module _ (S A Z B C D : ℕ) (s : S ≡ B) (a : A ≡ C) (z : Z ≡ D) where
  pub takes_at : (old new : PointsSoFar) (t : Lexeme) → TakesPointToken S A Z old t new → TakesPointToken B C D old t new
  takes_at old new t h = subst (λ x. TakesPointToken x C D old t new) s
      (subst (λ y. TakesPointToken S y D old t new) a (subst (λ w. TakesPointToken S A w old t new) z h))

  pub takes_all_back : (old new : PointsSoFar) (ts : List Lexeme) → TakesAll B C D old ts new → TakesAll S A Z old ts new
  takes_all_back old new ts h = subst (λ x. TakesAll x A Z old ts new) (sym s)
      (subst (λ y. TakesAll B y Z old ts new) (sym a) (subst (λ w. TakesAll B C w old ts new) (sym z) h))

  pub points_at : (ts : List Lexeme) (p : PointValues) → ArePointTokens S A Z ts p → ArePointTokens B C D ts p
  points_at ts p h = subst (λ x. ArePointTokens x C D ts p) s
      (subst (λ y. ArePointTokens S y D ts p) a (subst (λ w. ArePointTokens S A w ts p) z h))

  pub end_at : (ts : List Lexeme) (end : ℕ) (fault : PointFault) → IsPointsEnd S A Z ts end fault → IsPointsEnd B C D ts end fault
  end_at ts end fault h = subst (λ x. IsPointsEnd x C D ts end fault) s
      (subst (λ y. IsPointsEnd S y D ts end fault) a (subst (λ w. IsPointsEnd S A w ts end fault) z h))

  pub wrong_at : (old : PointsSoFar) (t : Lexeme) (fault : PointFault) → IsMemoryOr (IsWrongPoint S old t) fault
      → IsMemoryOr (IsWrongPoint B old t) fault
  wrong_at old t fault h = subst (λ x. IsMemoryOr (IsWrongPoint x old t) fault) s h

pub end_place : (S A Z : ℕ) (ts : List Lexeme) (m n : ℕ) (fault : PointFault) → m ≡ n → IsPointsEnd S A Z ts m fault
    → IsPointsEnd S A Z ts n fault
end_place S A Z ts m n fault e h = subst (λ x. IsPointsEnd S A Z ts x fault) e h
