-- The tokens of vectors, field after field, and the same by the index of each number.
use Rattle.std.proofs.Common.{◌≡◌, ◌∙◌, ℕ, ℤ, suc, zero, ◌+◌, ◌*◌, ◌<◌, ◌⊎◌, inl, inr, true, false, Option, Some, None, List, [], ◌∷◌, ◌++◌}
use Rattle.std.proofs.Common.{length, flat_map, pos, slice_get, get_or, refl, sym, ap, subst, arith}
use Rattle.polcert_policy.proofs.Common.{range_with_len, AllZip, length-map-range_with_len, get_or-map-range_with_len, TokenKind}
use Rattle.polcert_policy.proofs.Common.{get_or_from_slice_get, slice_get-get_or, Lexeme, IsCut, text_rest, text_limit, Numeral}
use Rattle.polcert_policy.proofs.Common.{Plus, Minus, Rounding, IsRounded, numeral_kind, PolicyGraph, nodes, PolicyVectors}
use Rattle.polcert_policy.proofs.Common.{value_of, sign_kind, Part, with_sign, tokens_of, IsActionPart, IsValuePart, IsRoundedVectors}
use Rattle.polcert_policy.proofs.Common.{IsRoundedVectorsText}
use Rattle.polcert_text.proofs.Scanning.CleanCut.{clean_cut, clean_tokens}
use Rattle.polcert_cells.specs.Numbers.{IsNumeral}
use Rattle.polcert_policy.specs.Vectors as vectors
use Rattle.polcert_policy.specs.Vectors.{AreFields, vector_fields, AreVectorTokens}
use Rattle.polcert_policy.proofs.Places.{row_below, place_inside, within_get, same_some}
use Rattle.polcert_policy.proofs.FlatRows.{row_long, row_at, rows_zip}
use Rattle.polcert_policy.proofs.FlatGraphs.{whole_is, is_whole_of}

is_numeral : (k : TokenKind) → numeral_kind k ≡ true → k ≡ Numeral
is_numeral k h1 = grind arith

is_sign : (k : TokenKind) → sign_kind k ≡ true → (k ≡ Plus) ⊎ (k ≡ Minus)
is_sign k h1 = grind arith

abbrev part : Option Lexeme → Lexeme → Part
part sign t = record { sign = sign; token = t }

abbrev value_at : PolicyVectors → ℕ → ℕ → ℕ ⊎ ℤ
value_at v n s = inr (value_of v n s)

module _ (way : Rounding) where
  -- the number is this field
  abbrev PartIs : Part → ℕ ⊎ ℤ → Type 0
  PartIs p (inl a) = IsActionPart a p
  PartIs p (inr h) = IsValuePart way p h

  action_first : (sign : Option Lexeme) (t : Lexeme) (a : ℕ) (ts : List Lexeme) (fs : List (ℕ ⊎ ℤ))
      → IsActionPart a (record { sign = sign; token = t }) → AreFields way ts fs
      → AreFields way (with_sign sign t ++ ts) (inl a ∷ fs)
  action_first None t a ts fs is rest = vectors.action (whole_is t a is.whole is.value) rest
  action_first (Some s) t a ts fs is rest = cc

  value_first : (sign : Option Lexeme) (t : Lexeme) (h : ℤ) (ts : List Lexeme) (fs : List (ℕ ⊎ ℤ))
      → IsValuePart way (record { sign = sign; token = t }) h → AreFields way ts fs
      → AreFields way (with_sign sign t ++ ts) (inr h ∷ fs)
  value_first None t h ts fs is rest = vectors.unsigned
      (record { kind = is_numeral t.kind is.part.numeral; readable = is.readable; value = is.rounded }) rest
  value_first (Some s) t h ts fs is rest = at (is_sign s.kind (is.part.signed s refl))
    where
      at : (s.kind ≡ Plus) ⊎ (s.kind ≡ Minus) → AreFields way (s ∷ t ∷ ts) (inr h ∷ fs)
      at (inl e) = vectors.plus e (record {
        kind = is_numeral t.kind is.part.numeral;
        readable = is.readable;
        value = simp e at is.rounded;
      }) rest
      at (inr e) = vectors.minus e (record {
        kind = is_numeral t.kind is.part.numeral;
        readable = is.readable;
        value = simp e at is.rounded;
      }) rest

  spelled_fields : (ps : List Part) (fs : List (ℕ ⊎ ℤ)) → AllZip PartIs ps fs → AreFields way (tokens_of ps) fs
  spelled_fields [] [] are = vectors.none
  spelled_fields (p ∷ ps) (inl a ∷ fs) are = action_first p.sign p.token a (tokens_of ps) fs are.0 (spelled_fields ps fs are.1)
  spelled_fields (p ∷ ps) (inr h ∷ fs) are = value_first p.sign p.token h (tokens_of ps) fs are.0 (spelled_fields ps fs are.1)
  spelled_fields c d are = grind arith

  plain_value : (t : Lexeme) (h : ℤ) → IsNumeral (IsRounded way) false t h → IsValuePart way (part None t) h
  plain_value t h is = record {
    part = record { numeral = ap numeral_kind is.kind; signed = λ s e. cc };
    readable = is.readable;
    rounded = is.value;
  }

  plus_value : (s t : Lexeme) (h : ℤ) → s.kind ≡ Plus → IsNumeral (IsRounded way) false t h → IsValuePart way (part (Some s) t) h
  plus_value s t h e is = grind arith

  minus_value : (s t : Lexeme) (h : ℤ) → s.kind ≡ Minus → IsNumeral (IsRounded way) true t h → IsValuePart way (part (Some s) t) h
  minus_value s t h e is = grind arith

  parts_of : (ts : List Lexeme) (fs : List (ℕ ⊎ ℤ)) → AreFields way ts fs → (ps : List Part) × (ts ≡ tokens_of ps) × AllZip PartIs ps fs
  parts_of [] [] vectors.none = ([], refl, tt)
  parts_of [] (f ∷ fs) are = elim are [ ]
  parts_of (t ∷ ts) [] are = elim are [ ]
  parts_of (t ∷ ts) (inl a ∷ fs) (vectors.action is rest) =
      let r = parts_of ts fs rest in
      (part None t ∷ r.0, ap (λ xs. t ∷ xs) r.1, (record { unsigned = refl; whole = is_whole_of t a is; value = is.value }, r.2))
  parts_of (t ∷ ts) (inr h ∷ fs) (vectors.unsigned is rest) =
      let r = parts_of ts fs rest in (part None t ∷ r.0, ap (λ xs. t ∷ xs) r.1, (plain_value t h is, r.2))
  parts_of (s ∷ t ∷ ts) (inr h ∷ fs) (vectors.plus e is rest) =
      let r = parts_of ts fs rest in (part (Some s) t ∷ r.0, ap (λ xs. s ∷ t ∷ xs) r.1, (plus_value s t h e is, r.2))
  parts_of (s ∷ t ∷ ts) (inr h ∷ fs) (vectors.minus e is rest) =
      let r = parts_of ts fs rest in (part (Some s) t ∷ r.0, ap (λ xs. s ∷ t ∷ xs) r.1, (minus_value s t h e is, r.2))

  -- ---- the fields of a vector

  wide : (g : PolicyGraph) (v : PolicyVectors) (n : ℕ) → length (vector_fields g v n) ≡ 1 + v.states
  wide g v n = omega (arith, length-map-range_with_len (value_at v n) 0 v.states)

  value_field : (g : PolicyGraph) (v : PolicyVectors) (n s : ℕ) → s < v.states
      → slice_get (vector_fields g v n) (suc s) ≡ Some (inr (value_of v n s))
  value_field g v n s l =
      slice_get-get_or _ s (inl 0)
      (omega (arith, l, length-map-range_with_len (value_at v n) 0 v.states))
      ∙ ap Some (get_or-map-range_with_len (value_at v n) 0 v.states s s (inl 0) l (omega arith))

  -- ---- vectors

  module _ (g : PolicyGraph) (states : ℕ) (ts : List Lexeme) (v : PolicyVectors) where
    pub parts_from : AreVectorTokens way g states ts v → IsRoundedVectors way g states ts v
    parts_from are =
        let found = parts_of ts _ are.fields in
        let wide_all : (n : ℕ) → length (vector_fields g v n) ≡ 1 + states = λ n. wide g v n ∙ ap (λ w. 1 + w) are.states_are in
        let long = row_long (vector_fields g v) (1 + states) wide_all PartIs found.0 (nodes g) found.2 in
        let node_below : (n j : ℕ) (p : Part) → slice_get found.0 (n * (1 + states) + j) ≡ Some p → n < nodes g =
        λ n j p at. row_below (1 + states) n j (nodes g) (omega (arith, within_get found.0 _ p at, long)) in
        record {
          nodes_are = are.nodes_are;
          states_are = are.states_are;
          parts = found.0;
          spelled = found.1;
          count = long;
          filled = are.filled;
          records = record {
            action = λ n p at. row_at (vector_fields g v) (1 + states) wide_all PartIs found.0 (nodes g) found.2 n 0 p _ (omega arith)
                (subst (λ k. slice_get found.0 k ≡ Some p) (omega arith) at) refl;
            value = λ n s p l at.
                let here = row_at (vector_fields g v) (1 + states) wide_all PartIs found.0 (nodes g) found.2 n (suc s) p
                _ (omega (arith, l)) (subst (λ k. slice_get found.0 k ≡ Some p) (omega arith) at)
                (value_field g v n s (omega arith)) in
                let inside = place_inside states n s (nodes g) (node_below n (1 + s) p at) l in (
                  value_of v n s,
                  slice_get-get_or v.values _ (pos 0) (omega arith)
                      ∙ ap (λ w. Some (get_or v.values (n * w + s) (pos 0))) (sym are.states_are),
                  here,
                );
          };
        }

    pub tokens_of_vectors : IsRoundedVectors way g states ts v → AreVectorTokens way g states ts v
    tokens_of_vectors is = record {
      nodes_are = is.nodes_are;
      states_are = is.states_are;
      filled = is.filled;
      fields = subst (λ xs. AreFields way xs (flat_map (vector_fields g v) (range_with_len 0 (nodes g)))) (sym is.spelled)
          (spelled_fields is.parts _
          (rows_zip (vector_fields g v) (1 + states) (λ n. wide g v n ∙ ap (λ w. 1 + w) is.states_are) PartIs is.parts (nodes g)
          (omega arith) is.count at));
    }
      where
        at : (n j : ℕ) (p : Part) (f : _) → n < nodes g → j < 1 + states → slice_get is.parts (n * (1 + states) + j) ≡ Some p
            → slice_get (vector_fields g v n) j ≡ Some f → PartIs p f
        at n zero p f l k here also = grind arith
        at n (suc s) p f l k here also =
            let below : s < states = omega (arith, k) in
            let was = is.records.value n s p below (subst (λ i. slice_get is.parts i ≡ Some p) (omega arith) here) in
            let value = ap (λ w. get_or v.values (n * w + s) (pos 0)) is.states_are
            ∙ get_or_from_slice_get v.values _ was.0 (pos 0) was.1 in
            subst (PartIs p) (same_some _ f (sym (value_field g v n s (omega (arith, below, is.states_are))) ∙ also))
            (subst (IsValuePart way p) (sym value) was.2)

  -- ---- texts

  -- a text that is tokens of vectors, by the indices of their numbers
  abbrev pub AreIndexedText : PolicyGraph → ℕ → List ℕ → PolicyVectors → Type 0
  AreIndexedText g states text v = (ts : List Lexeme) × IsCut (text_rest text text_limit) ts None × IsRoundedVectors way g states ts v

  pub indexed : (g : PolicyGraph) (states : ℕ) (text : List ℕ) (v : PolicyVectors) → IsRoundedVectorsText way g states text v
      → AreIndexedText g states text v
  indexed g states text v is = (is.0, clean_cut text is.0 is.1, parts_from g states is.0 v is.2)

  pub vectors_text : (g : PolicyGraph) (states : ℕ) (text : List ℕ) (v : PolicyVectors) (ts : List Lexeme)
      → IsCut (text_rest text text_limit) ts None → IsRoundedVectors way g states ts v
      → IsRoundedVectorsText way g states text v
  vectors_text g states text v ts cut is = (ts, clean_tokens text ts cut, tokens_of_vectors g states ts v is)
