-- Every text is vectors of a graph, or has a right refusal other than out of memory.
use Rattle.std.proofs.Common.{◌≡◌, ◌≢◌, ◌⊎◌, inl, inr, ⊎_elim, ℕ, ℤ, ◌+◌, ◌<◌, ◌≤◌, Bool, true, Option, Some, None, Err, List, []}
use Rattle.std.proofs.Common.{◌∷◌, ◌++◌, length, refl, subst, arith}
use Rattle.std.proofs.lemmas.Bool.{cases_Bool}
use Rattle.polcert_text.specs.Numbers.{IsReadable, IsRounded, IsRefused}
unfoldable use Rattle.polcert_text.specs.Numbers.{exponent_size, size_of, millionth}
use Rattle.polcert_text.specs.declared.number.NumberFault.{NumberFault}
use Rattle.polcert_text.specs.declared.number.NumberFault.TheVariants as number_faults
use Rattle.polcert_text.specs.declared.number.Rounding.{Rounding}
use Rattle.polcert_text.specs.declared.number.Rounding.TheVariants.{Up}
use Rattle.polcert_text.proofs.Numbers.SizeLaws.{numeral_measure}
use Rattle.polcert_text.proofs.Numbers.SignedLaws.{rounded_signed}
use Rattle.polcert_text.specs.Cut.{Lexeme, Rest, IsCut, text_rest, text_limit}
use Rattle.polcert_text.specs.TakenTokens.{Taken}
use Rattle.polcert_text.specs.declared.tokens.TokenFault.{TokenFault}
use Rattle.polcert_cells.specs.Elements.{most_states, most_actions}
use Rattle.polcert_policy.specs.Fields.{numeral_kind}
use Rattle.polcert_policy.specs.Graphs.{PolicyGraph, IsProperGraph, nodes}
use Rattle.polcert_policy.specs.Vectors.{sign_kind, IsRoundedVectors}
use Rattle.polcert_policy.specs.VectorText.{IsRefusedRoundedVectorsText}
use Rattle.polcert_policy.specs.Steps.VectorsRead.{HasReadVectors, IsPartRefusal, CheckedAction, AreEndRefusal, kept_sign, place_after}
use Rattle.polcert_policy.specs.declared.fault.VectorFault.{VectorFault}
use Rattle.polcert_policy.specs.declared.fault.VectorFault.TheVariants as faults
use Rattle.polcert_policy.specs.declared.vectors.OpenSign.{OpenSign}
use Rattle.polcert_policy.specs.declared.vectors_reading.VectorsReading.{VectorsReading}
use Rattle.polcert_policy.proofs.ActionGraphs.{action_graph_proper}
use Rattle.polcert_policy.proofs.FlatVectors.{vectors_text}
use Rattle.polcert_policy.proofs.Places.{below_or_at}
use Rattle.polcert_policy.proofs.VectorReadLaws.{possible_seen, refuse_vector_action, refuse_other, refuse_second_sign, refuse_numeral}
use Rattle.polcert_policy.proofs.VectorReadLaws.{read_vector_action, read_sign, read_value, none_read}
use Rattle.polcert_policy.proofs.VectorEndLaws.{unfinished_vector, too_few, vectors_of, vectors_read}
use Rattle.polcert_policy.proofs.VectorTextLaws.{part_refusal, refused_text, end_refused}
use Rattle.polcert_existence.specs.Answers.{HasVectorsAnswer, HasActionVectorsAnswer}
use Rattle.polcert_existence.proofs.EachToken.{answered}
use Rattle.polcert_existence.proofs.Decisions.{below_or_not, same_or_not}
use Rattle.polcert_existence.proofs.Readings.{as_vec, room}

-- bytes are readable or refused
pub readable_or_refused : (bs : List ℕ) → IsReadable bs ⊎ ((fault : NumberFault) × IsRefused bs fault)
readable_or_refused bs = ⊎_elim (λ numeral. ⊎_elim (λ long. inr (number_faults.TooLong, (numeral, inl long))) (λ short. ⊎_elim
    (λ high. inr (number_faults.TooLong, (numeral, inr high)))
    (λ low. ⊎_elim
    (λ large. inr (number_faults.TooLarge, (numeral, short, low, large)))
    (λ small. inl (record { numeral = numeral; short = short; exponent = low; size = small }))
    (below_or_not _ _))
    (below_or_not 400 _))
    (below_or_not 400 _))
    (λ none. inr (number_faults.NotANumeral, none))
    (cases_Bool _)

-- a readable number has a value, rounded either way
some_value : (way : Rounding) (negative : Bool) (bs : List ℕ) → IsReadable bs → (h : ℤ) × IsRounded way negative bs h
some_value way negative bs readable = (
  _,
  rounded_signed way bs _ _ _ (numeral_measure bs readable.numeral readable.short readable.exponent),
)

-- ---- one more token

module _ (way : Rounding) (g : PolicyGraph) (seen : List Lexeme) (r : VectorsReading) (t : Lexeme) (h : HasReadVectors way g seen r) where
  -- the tokens are read on by this token, or stop being possible at it
  abbrev IsTakenOrRefused : Type 0
  IsTakenOrRefused = ((new : VectorsReading) × (new.states ≡ r.states) × HasReadVectors way g (seen ++ t ∷ []) new)
      ⊎ ((fault : VectorFault) × (fault ≢ faults.Memory) × IsPartRefusal way g r.states (seen ++ t ∷ []) fault)

  take_action : r.column ≡ 0 → IsTakenOrRefused
  take_action e = ⊎_elim inside (λ l. stop (faults.WrongVectorCount t.place) (λ m. cc) (refl, l)) (below_or_not _ _)
    where
      stop : (fault : VectorFault) → fault ≢ faults.Memory → CheckedAction g r.node t (Err fault) → IsTakenOrRefused
      stop fault says c = inr (fault, says, refuse_vector_action g _ r t r.some_states h _ e c)

      next : r.node < nodes g → VectorsReading
      next few = record {
        states = r.states;
        node = _;
        column = 1;
        values = r.values;
        sign = r.sign;
        some_states = r.some_states;
        few_states = r.few_states;
        column_within = r.some_states;
        few = r.few;
        few_begun = λ l. omega arith;
      }

      inside : r.node < nodes g → IsTakenOrRefused
      inside few = ⊎_elim (λ whole. ⊎_elim (λ value. inl (
        next few,
        refl,
        read_vector_action g r _ _ t r.some_states e refl refl refl refl refl h few whole value,
      ))
          (λ other. stop (faults.ActionMismatch t.place) (λ m. cc) (refl, few, whole, other))
          (same_or_not _ _))
          (λ wrong. stop (faults.BadShape t.place) (λ m. cc) (refl, few, wrong))
          (cases_Bool _)

  take_sign : 0 < r.column → sign_kind t.kind ≡ true → IsTakenOrRefused
  take_sign begun sign = at r.sign refl
    where
      next : VectorsReading
      next = record r { sign = Some (kept_sign t) }

      at : (u : Option OpenSign) → r.sign ≡ u → IsTakenOrRefused
      at None e = inl (next, refl, read_sign g r _ _ t _ begun e refl refl refl refl refl sign refl refl h)
      at (Some u) e = inr (faults.BadShape _, (λ m. cc), refuse_second_sign g _ r t r.some_states h u begun e sign)

  take_numeral : 0 < r.column → numeral_kind t.kind ≡ true → IsTakenOrRefused
  take_numeral begun numeral = ⊎_elim read (λ fault. inr (
    faults.Number _ place,
    (λ m. cc),
    refuse_numeral g _ r t r.some_states h _ place begun refl numeral fault.1,
  ))
      (readable_or_refused _)
    where
      place : ℕ
      place = place_after r.sign t.place

      read : IsReadable t.bytes → IsTakenOrRefused
      read readable =
          let value = some_value way _ t.bytes readable in
          let mid = record r {
            values = as_vec _ (room way g seen r _ h);
            sign = _;
          } in
          ⊎_elim
          (λ l.
          let next : VectorsReading = record mid {
            column = _;
            column_within = omega arith;
            few_begun = λ k. r.few_begun begun;
          } in
          inl (
            next,
            refl,
            read_value g r mid _ _ t value.0 begun numeral readable value.1 refl refl refl refl refl (record {
              states_same = refl;
              values_same = refl;
              sign_same = refl;
              inside = λ k. (refl, refl);
              last = λ e. absurd (omega arith);
            }) h,
          ))
          (λ e.
          let next = record mid {
            node = r.node + 1;
            column = 0;
            column_within = omega arith;
            few = omega arith;
            few_begun = λ k. absurd (omega arith);
          } in
          inl (
            next,
            refl,
            read_value g r mid _ _ t value.0 begun numeral readable value.1 refl refl refl refl refl (record {
              states_same = refl;
              values_same = refl;
              sign_same = refl;
              inside = λ l. absurd (omega arith);
              last = λ k. (refl, refl);
            }) h,
          ))
          (below_or_at _ r.states r.column_within)

  take_value : 0 < r.column → IsTakenOrRefused
  take_value begun = ⊎_elim (take_numeral begun) (λ no_numeral. ⊎_elim (take_sign begun) (λ no_sign. inr (
    faults.BadShape _,
    (λ m. cc),
    refuse_other g _ r t r.some_states h _ begun refl no_numeral no_sign,
  ))
      (cases_Bool _))
      (cases_Bool _)

  take_token : IsTakenOrRefused
  take_token = ⊎_elim take_value (λ l. take_action (omega arith)) (below_or_not 0 _)

-- ---- the whole text

module _ (way : Rounding) (g : PolicyGraph) (states : ℕ) (proper : IsProperGraph g) (some : 1 ≤ states) (few : states ≤ most_states)
    (text : List ℕ) where
  -- what is read of the tokens
  record VectorsSoFar (seen : List Lexeme) : Type 0 where
    pub reading : VectorsReading
    pub states_are : reading.states ≡ states
    pub read : HasReadVectors way g seen reading

  refused : (fault : VectorFault) → fault ≢ faults.Memory → IsRefusedRoundedVectorsText way g states fault text
      → HasVectorsAnswer way g states text
  refused fault says h = inr (_, says, h)

  -- the text ends cleanly after the tokens
  at_end : (seen : List Lexeme) → IsCut (text_rest text text_limit) seen None → VectorsSoFar seen → HasVectorsAnswer way g states text
  at_end seen cut so_far = ⊎_elim inside whole (below_or_not 0 _)
    where
      r : VectorsReading
      r = so_far.reading

      ends : (fault : VectorFault) → fault ≢ faults.Memory → AreEndRefusal way g r.states seen (length text) fault
          → HasVectorsAnswer way g states text
      ends fault says h = refused _ says (end_refused way g _ _ _ _ _ _ so_far.states_are cut refl h)

      inside : 0 < r.column → HasVectorsAnswer way g states text
      inside begun = ends (faults.Truncated _) (λ m. cc) (refl, (_, (_, unfinished_vector g _ r r.some_states begun so_far.read, begun)))

      whole : r.column ≤ 0 → HasVectorsAnswer way g states text
      whole none = ⊎_elim (λ fewer. ends (faults.WrongVectorCount _) (λ m. cc)
          (refl, (_, too_few g _ r r.some_states none fewer so_far.read, fewer)))
          (λ enough. inl (
            _,
            vectors_text way g _ _ _ _ cut
                (subst (λ o. IsRoundedVectors way g o seen (vectors_of r.node r.states r.values.items)) so_far.states_are
                (vectors_read g _ r none enough so_far.read)),
          ))
          (below_or_not _ _)

  answer_after : (seen : List Lexeme) (end : Option TokenFault) → IsCut (text_rest text text_limit) seen end → VectorsSoFar seen
      → HasVectorsAnswer way g states text
  answer_after seen None cut so_far = at_end seen cut so_far
  answer_after seen (Some fault) cut so_far = refused (faults.Token fault) (λ m. cc) (refused_text way g _ _ _ (
    _,
    cut,
    rw (← so_far.states_are) (possible_seen g _ _ so_far.reading.some_states so_far.read),
  ))

  take_next : (seen : List Lexeme) (t : Lexeme) → VectorsSoFar seen
      → VectorsSoFar (seen ++ t ∷ []) ⊎ ((rest : Rest) → Taken (text_rest text text_limit) (seen ++ t ∷ []) rest
      → HasVectorsAnswer way g states text)
  take_next seen t so_far = ⊎_elim (λ next. inl (record { reading = _; states_are = cc; read = next.2 }))
      (λ stop. inr (λ rest taken. refused _ stop.1 (refused_text way g _ _ _
      (part_refusal way g _ _ _ _ _ _ so_far.states_are taken stop.2))))
      (take_token way g _ _ t so_far.read)

  none : VectorsReading
  none = record {
    states = _;
    node = 0;
    column = 0;
    values = as_vec [] (omega arith);
    sign = None;
    some_states = some;
    few_states = few;
    column_within = omega arith;
    few = omega arith;
    few_begun = λ l. absurd (omega arith);
  }

  pub vectors_answer : HasVectorsAnswer way g states text
  unfolding none
  vectors_answer =
      answered _ _ (record
      { reading = none; states_are = refl; read = none_read g _ proper refl refl refl refl }) take_next answer_after

-- one vector for each action
pub action_vectors_answer : (actions states : ℕ) → 1 ≤ actions → actions ≤ most_actions → 1 ≤ states → states ≤ most_states
    → (text : List ℕ) → HasActionVectorsAnswer actions states text
action_vectors_answer actions states some_actions few_actions some few text =
    vectors_answer Up _ _ (action_graph_proper _ some_actions few_actions) some few _
