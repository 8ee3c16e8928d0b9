-- What is read of vectors where the text ends.
use Rattle.std.proofs.Common.{◌≡◌, ◌∙◌, ℕ, ℤ, ◌+◌, ◌*◌, ◌<◌, ◌≤◌, ◌≤ℤ◌, ◌*ℤ◌, Bool, true, false, pos, neg_ℤ, Some, None, List, []}
use Rattle.std.proofs.Common.{◌∷◌, ◌++◌, length, slice_get, get_or, refl, sym, ap, subst, arith, append-nil, length-append}
use Rattle.polcert_policy.proofs.Common.{ints, slice_get-get_or, Lexeme, size_of, largest, IsReadable, IsRounded, PolicyGraph, nodes, Part}
use Rattle.polcert_policy.proofs.Common.{PolicyVectors, sign_kind, with_sign, tokens_of, AreVectors, IsRoundedVectors, IsInRange}
use Rattle.polcert_policy.proofs.Common.{AreProper, IsPartColumn, AreVectorsUpTo, open_of, HasReadVectors, AreUnfinished, VectorsReading}
use Rattle.polcert_policy.proofs.Common.{Rounding, Down, Up}
use Rattle.std.proofs.lemmas.Int.{to_z-of_z, fits_signed_from_abs}
use Rattle.std.specs.Prelude.{FitsSigned}
use mir.Syntax.{w64}
use mir.Val.{to_z, of_z}
use Rattle.polcert_text.specs.Numbers.{millionth, signed}
use Rattle.polcert_text.proofs.Numbers.SignedLaws.{signed-mul, le_times_back}
use Rattle.polcert_text.proofs.Numbers.SizeLaws.{millionth_pos}
use Rattle.polcert_policy.proofs.Places.{row_above, same_column}
use Rattle.polcert_policy.proofs.VectorLaws.{part_of_value, front_parts, vector_parts}
use Rattle.polcert_policy.proofs.VectorSteps.{tokens-append}
use Rattle.polcert_policy.proofs.VectorReadLaws.{NextPart, drop_same, next_part, possible_seen, column_read, closed_lexeme}

no_tokens : (ps : List Part) → [] ≡ tokens_of ps → length ps ≡ 0
no_tokens [] e = refl
no_tokens (p ∷ ps) e = grind arith

module _ (b : Bool) (size : ℕ) (most : ℕ) where
  low_end : size ≤ most → neg_ℤ (pos most) ≤ℤ signed b size
  low_end h1 = grind arith

  high_end : size ≤ most → signed b size ≤ℤ pos most
  high_end h1 = grind arith

le_through : (x y z : ℤ) → x ≤ℤ y → y ≤ℤ z → x ≤ℤ z
le_through x y z a b = omega (arith, ints)

-- a readable number lies in the range of values, rounded either way
pub rounded_in_range : (rounding : Rounding) (b : Bool) (bs : List ℕ) (h : ℤ) → IsReadable bs → IsRounded rounding b bs h → IsInRange h
rounded_in_range rounding b bs h readable rounded = at rounding rounded
  where
    low : (neg_ℤ (pos largest) *ℤ pos millionth) ≤ℤ signed b (size_of bs)
    low = subst (λ z. z ≤ℤ signed b (size_of bs)) (sym (signed-mul true largest millionth)) (low_end b (size_of bs) _ readable.size)

    high : signed b (size_of bs) ≤ℤ (pos largest *ℤ pos millionth)
    high = subst (λ z. signed b (size_of bs) ≤ℤ z) (sym (signed-mul false largest millionth)) (high_end b (size_of bs) _ readable.size)

    at : (r : _) → IsRounded r b bs h → IsInRange h
    at Down is = (
      is.greatest _ low,
      le_times_back millionth millionth_pos h (pos largest) (le_through _ _ _ is.not_above high),
    )
    at Up is = (
      le_times_back millionth millionth_pos _ h (le_through _ _ _ low is.not_below),
      is.least (pos largest) high,
    )

abbrev pub vectors_of : ℕ → ℕ → List ℤ → PolicyVectors
vectors_of node o vs = record { nodes = node; states = o; values = vs }

pub in_range_fits : (x : ℤ) → IsInRange x → FitsSigned w64 x
in_range_fits x h = fits_signed_from_abs w64 x (omega (arith, ints, h.0, h.1))

-- a value in range is kept as it is
pub kept_in_range : (x : ℤ) → IsInRange x → IsInRange (to_z w64 (of_z w64 x))
kept_in_range x h = subst IsInRange (sym (to_z-of_z w64 x (in_range_fits x h))) h

pub value_in_range : (count o n s : ℕ) (vs : List ℤ) (x d : ℤ) → AreProper count o vs → n < count → s < o → x ≡ get_or vs (n * o + s) d
    → IsInRange (to_z w64 (of_z w64 x))
value_in_range count o n s vs x d proper l k e =
    kept_in_range x (proper.in_range (n * o + s) x (slice_get-get_or vs (n * o + s) d
    (omega (arith, row_above o n count l, k, proper.filled)) ∙ ap Some (sym e)))

module _ {way : Rounding} where
  -- the parts of whole vectors
  whole_count : (g : PolicyGraph) (o : ℕ) (ps : List Part) (vs : List ℤ) (v : PolicyVectors) → AreVectors way g o ps vs
      → IsRoundedVectors way g o (tokens_of ps ++ []) v → length ps ≡ nodes g * (1 + o)
  whole_count g o ps vs v old all =
      let found = front_parts ps all.parts [] (vector_parts g o ps vs old) (vector_parts g o all.parts v.values all.records) all.spelled in
      grind (arith, length-append, tokens-append, drop_same, no_tokens)

  -- no vectors end in a sign
  open_ended : (g : PolicyGraph) (o : ℕ) (ps : List Part) (node column : ℕ) (vs : List ℤ) (s : Lexeme) (v : PolicyVectors)
      → sign_kind s.kind ≡ true
      → AreVectorsUpTo way g o ps node column vs → IsRoundedVectors way g o (tokens_of ps ++ s ∷ []) v → ⊥
  open_ended g o ps node column vs s v sign old all = at n.part.sign n.tokens
    where
      n : NextPart way g o ps node column v.values s []
      n = next_part g o ps node column vs s [] v old all

      at : (u : _) → s ∷ [] ≡ with_sign u n.part.token ++ tokens_of n.rest → ⊥
      at u h1 = grind arith

  pub unfinished_vector : (g : PolicyGraph) (seen : List Lexeme) (r : VectorsReading) → 1 ≤ r.states → 0 < r.column
      → HasReadVectors way g seen r → AreUnfinished way g r.states seen r.node r.column
  unfinished_vector g seen r some begun h = record {
    column_is = column_read g seen r h;
    possible = possible_seen g seen r some h;
    unfinished = λ v all. at h.sign h.signed v (subst (λ ts. IsRoundedVectors way g r.states ts v) h.spelled all);
  }
    where
      at : (sign : _) → ((s : Lexeme) → sign ≡ Some s → (sign_kind s.kind ≡ true) × (0 < r.column)) → (v : _)
          → IsRoundedVectors way g r.states (tokens_of h.parts ++ open_of sign) v → ⊥
      at None signed v all =
          let count = whole_count g r.states h.parts r.values.items v h.vectors.records all in
          let zero_is = same_column (1 + r.states) r.node (nodes g) r.column 0 h.vectors.within (omega arith)
          (omega arith) in
          omega arith
      at (Some s) signed v all = open_ended g r.states h.parts r.node r.column r.values.items s v (signed s refl).0 h.vectors all

  pub at_column : (g : PolicyGraph) (seen : List Lexeme) (r : VectorsReading) → r.column ≤ 0 → (h : HasReadVectors way g seen r)
      → AreVectorsUpTo way g r.states h.parts r.node 0 r.values.items
  at_column g seen r e h = grind arith

  -- at a vector's action the tokens are the parts'
  spelled_whole : (g : PolicyGraph) (seen : List Lexeme) (r : VectorsReading) → r.column ≤ 0 → (h : HasReadVectors way g seen r)
      → seen ≡ tokens_of h.parts ++ []
  spelled_whole g seen r e h = h.spelled ∙ ap (λ s. tokens_of h.parts ++ open_of s) (closed_lexeme g seen r h (omega (arith, e)))

  pub too_few : (g : PolicyGraph) (seen : List Lexeme) (r : VectorsReading) → 1 ≤ r.states → r.column ≤ 0 → r.node < nodes g
      → HasReadVectors way g seen r → AreUnfinished way g r.states seen r.node 0
  too_few g seen r some e fewer h = record {
    column_is = (let zero_is : r.column ≡ 0 = omega (arith, e) in
        subst (λ c. IsPartColumn r.states seen r.node c) zero_is (column_read g seen r h));
    possible = possible_seen g seen r some h;
    unfinished = λ v all. omega (
      arith,
      whole_count g r.states h.parts r.values.items v h.vectors.records
          (subst (λ ts. IsRoundedVectors way g r.states ts v) (spelled_whole g seen r e h) all),
      (at_column g seen r e h).count,
      row_above (1 + r.states) r.node (nodes g) fewer,
    );
  }

  pub values_in_range : (g : PolicyGraph) (o : ℕ) (ps : List Part) (node : ℕ) (vs : List ℤ) → AreVectors way g o ps vs
      → length ps ≡ node * (1 + o) → length vs ≡ node * o
      → (k : ℕ) (h : ℤ) → slice_get vs k ≡ Some h → IsInRange h
  values_in_range g o ps node vs records count filled k h e = grind (arith, part_of_value, rounded_in_range)

  -- whole vectors, one for each node
  pub vectors_read : (g : PolicyGraph) (seen : List Lexeme) (r : VectorsReading) → r.column ≤ 0 → nodes g ≤ r.node
      → HasReadVectors way g seen r
      → IsRoundedVectors way g r.states seen (vectors_of r.node r.states r.values.items)
  vectors_read g seen r e enough h =
      let at = at_column g seen r e h in
      let all : r.node ≡ nodes g = omega arith in
      record {
        nodes_are = all;
        states_are = refl;
        parts = h.parts;
        spelled = spelled_whole g seen r e h ∙ append-nil _;
        count = at.count ∙ omega (arith, ap (λ n. n * (1 + r.states)) all);
        filled = at.filled ∙ omega (arith, ap (λ n. n * r.states) all);
        records = at.records;
      }
