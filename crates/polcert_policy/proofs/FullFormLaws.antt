-- The full form of vectors, read with their graph, gives the vectors back.
use Rattle.polcert_policy.proofs.Common.{common_steps, list_all, ints, take_more, slice_get-get_or, is_blank, IsCut, text_limit}
use Rattle.polcert_policy.proofs.Common.{scaled_text, largest, Measures, Rounding, PolicyGraph, nodes, action_of, IsProperGraph}
use Rattle.polcert_policy.proofs.Common.{PolicyVectors, Part, sign_kind, tokens_of, value_of, IsActionPart, IsValuePart, IsRoundedVectors}
use Rattle.polcert_policy.proofs.Common.{IsInRange, AreProperVectors, IsRoundedVectorsText, AreVectorsUpTo, after_value, values_text}
use Rattle.polcert_policy.proofs.Common.{action_line, vectors_text_up_to}
use Rattle.std.proofs.Common.{◌≡◌, ◌∙◌, ℕ, ℤ, suc, zero, ◌+◌, ◌-◌, ◌*◌, ◌^◌, ◌<◌, ◌≤◌, Bool, true, false, cond, pos, negsuc, None, List, []}
use Rattle.std.proofs.Common.{◌∷◌, ◌++◌, length, take, decimal, codes, refl, sym, ap, subst, arith, append_assoc, append-nil, length-append}
use Rattle.std.proofs.Common.{take_all}
use Rattle.std.proofs.Math.Path.{subst₂}
use Rattle.std.specs.Prelude.{◌==◌}
use Rattle.std.proofs.lemmas.Bool.{le-ltb}
use Rattle.polcert_text.specs.Millionths.{unsigned_text}
use Rattle.polcert_text.proofs.Numbers.SignedLaws.{rounded_whole}
use Rattle.polcert_text.proofs.Numbers.SizeLaws.{millionth_pos}
use Rattle.polcert_policy.specs.FullForm.{vectors_text}
use Rattle.polcert_policy.proofs.FlatVectors as flat_vectors
use Rattle.polcert_policy.proofs.Places.{some_none, same_some}
use Rattle.polcert_policy.proofs.Fillers.{action_spelled}
use Rattle.polcert_policy.proofs.GraphLaws.{IsAfter}
use Rattle.polcert_policy.proofs.VectorSteps.{step_vector_action, step_value}
use Rattle.polcert_text.proofs.Printing.Numerals.{IsPlain, plain_decimal}
use Rattle.polcert_text.proofs.Printing.WrittenNumbers.{size_written, plain_size, readable_written}
use Rattle.polcert_policy.proofs.PrintedCut.{Printed, printed_text, IsPrinted, texts_of, AllPrinted, part_with, parts_from, cut_printed}

-- a number's sign and size as they are written
abbrev is_below_zero : ℤ → Bool
is_below_zero (pos n) = false
is_below_zero (negsuc n) = true

abbrev size_text : ℤ → List ℕ
size_text (pos n) = unsigned_text n
size_text (negsuc n) = unsigned_text (suc n)

abbrev number_printed : ℤ → List ℕ → Printed
number_printed h following = record { negative = is_below_zero h; numeral = size_text h; following = following }

text-number : (h : ℤ) (following : List ℕ) → printed_text (number_printed h following) ≡ scaled_text h ++ following
text-number h following = grind arith

module _ (n : ℕ) where
  measures_written : n ≤ largest → Measures (unsigned_text n) n false
  measures_written l = grind (arith, millionth_pos, size_written)

  positive_size : IsInRange (pos n) → n ≤ largest
  positive_size r = omega (arith, ints, r.1)

  negative_size : IsInRange (negsuc n) → suc n ≤ largest
  negative_size r = omega (arith, ints, r.0)

-- the part that is written of a value has that value
value_part : (way : Rounding) (place : ℕ) (h : ℤ) → IsInRange h → IsValuePart way (part_with place (is_below_zero h) (size_text h)) h
value_part way place (pos n) r =
    let l = positive_size n r in
    record {
      part = record { numeral = refl; signed = λ s e. absurd (some_none s e) };
      readable = readable_written n l;
      rounded = rounded_whole way false (unsigned_text n) n (measures_written n l);
    }
value_part way place (negsuc n) r =
    let l = negative_size n r in
    record {
      part = record { numeral = refl; signed = λ s e. subst (λ x. sign_kind x.kind ≡ true) (same_some _ s e) refl };
      readable = readable_written (suc n) l;
      rounded = rounded_whole way true (unsigned_text (suc n)) (suc n) (measures_written (suc n) l);
    }

action_part : (place a : ℕ) → a < 2 ^ 64 → IsActionPart a (part_with place false (decimal a))
action_part place a l = let was = action_spelled a l in record { unsigned = refl; whole = was.whole; value = was.value }

-- what stands after a number
record After (bs : List ℕ) : Type 0 where
  blank : list_all is_blank bs ≡ true
  first : ℕ
  more : List ℕ
  is : bs ≡ first ∷ more
  few : length bs ≤ 2

line_end_blank : list_all is_blank (codes "\n") ≡ true
unfolding is_blank
line_end_blank = refl

blank_blank : list_all is_blank (codes " ") ≡ true
unfolding is_blank
blank_blank = refl

line_ends_blank : list_all is_blank (codes "\n\n") ≡ true
unfolding is_blank
line_ends_blank = refl

after_either : (b : Bool) → After (cond b (codes "\n\n") (codes " "))
after_either b = grind (arith, blank_blank, line_ends_blank)

plain_value : (h : ℤ) → IsInRange h → IsPlain (size_text h)
plain_value h h1 = grind (arith, plain_size)

value_is_printed : (h : ℤ) (o s : ℕ) → IsInRange h → IsPrinted (number_printed h (after_value o s))
value_is_printed h o s r =
    let b = after_either (suc s == o) in
    record { plain = plain_value h r; blank = b.blank; first = b.first; more = b.more; after_is = b.is; few = b.few }

abbrev action_printed : PolicyGraph → ℕ → Printed
action_printed g n = record { negative = false; numeral = decimal (action_of g n); following = codes "\n" }

action_is_printed : (g : PolicyGraph) (n : ℕ) → action_of g n < 1_001 → IsPrinted (action_printed g n)
action_is_printed g n l = grind (arith, plain_decimal, line_end_blank)

abbrev value_printed : PolicyVectors → ℕ → ℕ → Printed
value_printed v n s = number_printed (value_of v n s) (after_value v.states s)

abbrev values_printed : PolicyVectors → ℕ → ℕ → List Printed
values_printed v n zero = []
values_printed v n (suc s) = values_printed v n s ++ value_printed v n s ∷ []

abbrev vector_printed : PolicyGraph → PolicyVectors → ℕ → List Printed
vector_printed g v n = action_printed g n ∷ values_printed v n v.states

abbrev all_printed : PolicyGraph → PolicyVectors → ℕ → List Printed
all_printed g v zero = []
all_printed g v (suc n) = all_printed g v n ++ vector_printed g v n

texts-append : (us ws : List Printed) → texts_of (us ++ ws) ≡ texts_of us ++ texts_of ws
texts-append [] ws = refl
texts-append (u ∷ us) ws = ap (λ bs. printed_text u ++ bs) (texts-append us ws) ∙ sym (append_assoc _ (texts_of us) (texts_of ws))

text-values : (v : PolicyVectors) (n s : ℕ) → texts_of (values_printed v n s) ≡ values_text v n s
text-values v n zero = refl
text-values v n (suc s) =
    texts-append (values_printed v n s) _
    ∙ (λ i. text-values v n s i ++ append-nil (printed_text (value_printed v n s)) i)
    ∙ ap (λ bs. values_text v n s ++ bs) (text-number _ _)

text-all : (g : PolicyGraph) (v : PolicyVectors) (n : ℕ) → texts_of (all_printed g v n) ≡ vectors_text_up_to g v n
text-all g v zero = refl
text-all g v (suc n) = texts-append (all_printed g v n) _ ∙ (λ i. text-all g v n i ++ (action_line g n ++ text-values v n v.states i))

parts-append : (place : ℕ) (us ws : List Printed) → parts_from place (us ++ ws)
    ≡ parts_from place us ++ parts_from (place + length (texts_of us)) ws
parts-append place [] ws = ap (λ p. parts_from p ws) (omega arith)
parts-append place (u ∷ us) ws = grind (arith, length-append, parts-append (place + length (printed_text u)) us ws)

all-append : (us ws : List Printed) → AllPrinted us → AllPrinted ws → AllPrinted (us ++ ws)
all-append [] ws a b = b
all-append (u ∷ us) ws a b = (a.0, all-append us ws a.1 b)

text_short : (us : List Printed) → AllPrinted us → length (texts_of us) ≤ 33 * length us
text_short [] a = omega arith
text_short (u ∷ us) a = grind (arith, length-append, text_short us a.1)

module _ (g : PolicyGraph) (v : PolicyVectors) (proper_g : IsProperGraph g) (proper_v : AreProperVectors v) (same : v.nodes ≡ nodes g)
  where
    in_place : (n s : ℕ) → n < nodes g → s < v.states → n * v.states + s < length v.values
    in_place n s l k = grind arith

    value_fits : (n s : ℕ) → n < nodes g → s < v.states → IsInRange (value_of v n s)
    value_fits n s l k = proper_v.in_range _ _ (slice_get-get_or v.values _ (pos 0) (in_place n s l k))

    values_are_printed : (n s : ℕ) → n < nodes g → s ≤ v.states → AllPrinted (values_printed v n s)
    values_are_printed n zero l k = tt
    values_are_printed n (suc s) l k = grind (arith, value_is_printed, all-append, value_fits, values_are_printed n s l (omega (arith, k)))

    all_are_printed : (n : ℕ) → n ≤ nodes g → AllPrinted (all_printed g v n)
    all_are_printed zero l = tt
    all_are_printed (suc n) l = grind (arith, action_is_printed, all-append, values_are_printed, all_are_printed n (omega (arith, l)))

    length-values : (n s : ℕ) → length (values_printed v n s) ≡ s
    length-values n zero = refl
    length-values n (suc s) = length-append (values_printed v n s) _ ∙ omega (arith, length-values n s)

    length-all : (n : ℕ) → length (all_printed g v n) ≡ n * (1 + v.states)
    length-all zero = omega arith
    length-all (suc n) = length-append (all_printed g v n) _ ∙ omega (arith, length-all n, length-values n v.states)

    values_more : (n s : ℕ) → n < nodes g → s < v.states
        → take (n * v.states + s) v.values ++ value_of v n s ∷ [] ≡ take (n * v.states + suc s) v.values
    values_more n s l k = sym (take_more v.values _ (pos 0) (in_place n s l k)) ∙ ap (λ m. take m v.values) (omega arith)

    parts_more : (ps : List Part) (n place s : ℕ) → (ps ++ parts_from place (action_printed g n ∷ values_printed v n s)) ++ part_with
        (place + length (texts_of (action_printed g n ∷ values_printed v n s))) (is_below_zero (value_of v n s))
        (size_text (value_of v n s)) ∷
        []
        ≡ ps ++ parts_from place (action_printed g n ∷ values_printed v n (suc s))
    parts_more ps n place s = grind (arith, common_steps, append_assoc, texts_of, part_with, parts_from, parts-append)

    abbrev UpTo : Rounding → List Part → ℕ → ℕ → List ℤ → Type 0
    UpTo way ps n c vs = AreVectorsUpTo way g v.states ps n c vs

    short_text : length (texts_of (all_printed g v (nodes g))) ≤ text_limit
    short_text = grind (arith, text_short, all_are_printed, length-all)

    module _ (way : Rounding) where
      -- one value more
      one_value : (ps : List Part) (n place s m c : ℕ) → n < nodes g → s < v.states → IsAfter 1 v.states n s m c
          → UpTo way (ps ++ parts_from place (action_printed g n ∷ values_printed v n s)) n (1 + s) (take (n * v.states + s) v.values)
          → UpTo way (ps ++ parts_from place (action_printed g n ∷ values_printed v n (suc s))) m c (take (n * v.states + suc s) v.values)
      one_value ps n place s m c l k following old =
          let right = value_part way _ _ (value_fits n s l k) in
          subst₂ (λ qs vs. UpTo way qs m c vs) (parts_more ps n place s) (values_more n s l k)
          (step_value g v.states _ _ _ n s m c
          _ old right following)

      row : (ps : List Part) (n place : ℕ) → n < nodes g → UpTo way ps n 0 (take (n * v.states) v.values) → (s : ℕ) → s < v.states
          → UpTo way (ps ++ parts_from place (action_printed g n ∷ values_printed v n s)) n (1 + s) (take (n * v.states + s) v.values)
      row ps n place l old zero k =
          let part = part_with place false (decimal _) in
          subst (λ m. UpTo way (ps ++ part ∷ []) n 1 (take m v.values)) (omega arith)
          (step_vector_action g v.states ps part n _ proper_v.some_states old l
          (action_part place _ (omega arith)))
      row ps n place l old (suc s) k =
          let inside : s < v.states = omega (arith, k) in
          one_value ps n place s n (1 + suc s) l inside (record { inside = λ k. (refl, refl); last = λ e. absurd (omega (arith, e, k)) })
          (row ps n place l old s inside)

      whole_row : (ps : List Part) (n place : ℕ) → n < nodes g → UpTo way ps n 0 (take (n * v.states) v.values)
          → UpTo way (ps ++ parts_from place (vector_printed g v n)) (suc n) 0 (take (suc n * v.states) v.values)
      whole_row ps n place l old =
          let s = v.states - 1 in
          let last : suc s ≡ v.states = omega arith in
          let inside : s < v.states = omega (arith, last) in
          let read = one_value ps n place s (suc n) 0 l inside
          (record { inside = λ k. absurd (omega (arith, k, last)); last = λ e. (refl, refl) }) (row ps n place l old s inside) in
          subst₂ (λ c m. UpTo way (ps ++ parts_from place (action_printed g n ∷ values_printed v n c)) (suc n) 0 (take m v.values)) last
          (omega (arith, last)) read

      all_rows : (n : ℕ) → n ≤ nodes g → UpTo way (parts_from 0 (all_printed g v n)) n 0 (take (n * v.states) v.values)
      all_rows zero l = grind arith
      all_rows (suc n) l =
          subst (λ qs. UpTo way qs (suc n) 0 (take (suc n * v.states) v.values))
          (sym (parts-append 0 _ _))
          (whole_row _ n _ (omega (arith, l))
          (all_rows n (omega (arith, l))))

      tokens_read_back : IsRoundedVectors way g v.states (tokens_of (parts_from 0 (all_printed g v (nodes g)))) v
      tokens_read_back = grind (arith, take_all, parts_from, all_rows (nodes g) (omega arith))

      -- the full form reads back
      pub reads_back : IsRoundedVectorsText way g v.states (vectors_text g v) v
      reads_back =
          let us = all_printed g v (nodes g) in
          let cut = cut_printed us 0 [] (all_are_printed (nodes g) (omega arith)) refl in
          subst (λ text. IsRoundedVectorsText way g v.states text v) (text-all g v (nodes g))
          (flat_vectors.vectors_text way g v.states (texts_of us) v (tokens_of (parts_from 0 us))
          (subst (λ r. IsCut r (tokens_of (parts_from 0 us)) None) (sym (simp (le-ltb text_limit (length (texts_of us)) short_text))) cut)
          tokens_read_back)
