-- The full form of points reads back.
use Rattle.std.proofs.Common.{◌≡◌, ◌∙◌, ⊎_elim, ℕ, zero, suc, ◌+◌, ◌*◌, ◌<◌, ◌≤◌, Bool, true, false, cond, ℤ, pos, negsuc, ◌+ℤ◌, Option}
use Rattle.std.proofs.Common.{Some, None, List, [], ◌∷◌, ◌++◌, length, map, flat_map, decimal, codes, refl, sym, ap, subst, arith}
use Rattle.std.proofs.Common.{append_assoc, append-nil, length-append}
use Rattle.std.specs.Prelude.{◌==◌}
use Rattle.std.specs.List.{range_with_len}
use Rattle.std.proofs.Math.Nat.{mul-le-mul_right}
use Rattle.std.proofs.Math.Path.{subst₂}
use Rattle.std.proofs.lemmas.Bool.{le-ltb}
use Rattle.std.proofs.lemmas.Grind.{flat_map-append}
use Rattle.std.proofs.lemmas.List.{length-map}
use Rattle.std.proofs.lemmas.Bool.{cases_lt}
use Rattle.std.proofs.lemmas.Int.{ints}
use Rattle.polcert_text.specs.Bytes.{is_blank, is_letter, is_digit, is_point, is_exponent_mark}
use Rattle.polcert_text.specs.Cut.{Lexeme, IsCut, text_rest, text_limit}
use Rattle.polcert_text.specs.Lexemes.{kind_of}
use Rattle.polcert_text.specs.Millionths.{unsigned_text}
use Rattle.polcert_text.specs.Numbers.{largest, millionth}
use Rattle.polcert_text.specs.declared.number.Rounding.TheVariants.{Down, Up}
use Rattle.polcert_text.specs.declared.tokens.TokenKind.{TokenKind}
use Rattle.polcert_text.specs.declared.tokens.TokenKind.TheVariants.{Numeral, Minus}
use Rattle.polcert_text.proofs.Numbers.SignedLaws.{rounded_whole}
use Rattle.polcert_text.proofs.Numbers.SizeLaws.{millionth_pos}
use Rattle.polcert_text.proofs.Printing.Numerals.{plain_decimal}
use Rattle.polcert_text.proofs.Printing.PrintedCut.{Printed, text_of, lexemes_at, ArePrinted, rest_at, cut_printed, text-append}
use Rattle.polcert_text.proofs.Printing.PrintedCut.{lexemes-append, printed-append}
use Rattle.polcert_text.proofs.Printing.PrintedWords.{plain, minus, spelled, IsPiece, Blank, text_word, numeral_piece, word_printed}
use Rattle.polcert_text.proofs.Printing.WrittenNumbers.{size_written, plain_size, readable_written}
use Rattle.polcert_text.proofs.Scanning.CleanCut.{clean_tokens}
use Rattle.polcert_cells.specs.Meaning.{sum_below}
use Rattle.polcert_cells.specs.Numbers.{one, IsWhole}
use Rattle.polcert_policy.specs.Points.{PointValues, point_count, point_weight, value_at, named_at}
use Rattle.polcert_policy.specs.Points as sets
use Rattle.polcert_policy.specs.PointTokens.{IsWeight}
use Rattle.polcert_policy.specs.PointFields as flat
use Rattle.polcert_policy.specs.PointFields.{Field, number_field, weight_field, value_field, name_field, ArePointFields, IsNotJoined}
use Rattle.polcert_policy.specs.PointFields.{weight_fields, name_fields, action_fields, point_fields, AreFieldTokens}
use Rattle.polcert_policy.specs.PointText.{IsPointsText}
use Rattle.polcert_policy.specs.Vectors.{IsInRange}
use Rattle.polcert_policy.proofs.ActionGraphs.{one_more}
use Rattle.polcert_policy.proofs.Fillers.{action_spelled}
use Rattle.polcert_policy.proofs.FlatGraphs.{whole_is}
use Rattle.polcert_points_form.specs.FullForm.{after_item, weight_text, weights_text, named_text, point_name_text, names_text}
use Rattle.polcert_points_form.specs.FullForm.{point_value_text}
use Rattle.polcert_points_form.specs.FullForm.{action_text, actions_text, point_number_text, point_text, points_text_up_to, points_text}
use Rattle.polcert_points_form.specs.RaisedSet.{raised_set, HasAllValues, CanRaisePoints}
use Rattle.polcert_points_form.proofs.RaisedSets.{value_raised}

-- ---- a text that spells fields, whatever tokens come after it
abbrev pub StartsFrom : ℕ → List Lexeme → Type 0
StartsFrom n [] = Unit {0}
StartsFrom n (t ∷ ts) = n ≤ t.place

starts_before : (m n : ℕ) (ts : List Lexeme) → m ≤ n → StartsFrom n ts → StartsFrom m ts
starts_before m n [] l h = tt
starts_before m n (t ∷ ts) l h = omega (arith, l, h)

starts_at : (place : ℕ) (us : List Printed) (ts : List Lexeme) → StartsFrom (place + length (text_of us)) ts
    → StartsFrom place (lexemes_at place us ++ ts)
starts_at place [] ts h = starts_before place (place + 0) ts (omega arith) h
starts_at place (u ∷ us) ts h = omega arith

pub record Spells (text : List ℕ) (fs : List Field) : Type 0 where
  pub pieces : List Printed
  pub is : text_of pieces ≡ text
  pub printed : ArePrinted pieces
  pub tokens : (place : ℕ) (ts : List Lexeme) (gs : List Field) → StartsFrom (place + length text) ts → ArePointFields ts gs
      → ArePointFields (lexemes_at place pieces ++ ts) (fs ++ gs)

nothing : Spells [] []
nothing = record { pieces = []; is = refl; printed = tt; tokens = λ place ts gs start rest. rest }

join : (x y : List ℕ) (fs gs : List Field) → Spells x fs → Spells y gs → Spells (x ++ y) (fs ++ gs)
join x y fs gs a b = record {
  pieces = a.pieces ++ b.pieces;
  is = text-append a.pieces b.pieces ∙ (λ i. a.is i ++ b.is i);
  printed = printed-append a.pieces b.pieces a.printed b.printed;
  tokens = λ place ts hs start rest.
      let mid : ℕ = place + length x in
      let longer : place + length (x ++ y) ≡ mid + length y = omega (arith, length-append x y) in
      let far : StartsFrom (mid + length y) ts = subst (λ (n : ℕ). StartsFrom n ts) longer start in
      let after : ArePointFields (lexemes_at mid b.pieces ++ ts) (gs ++ hs) = b.tokens mid ts hs far rest in
      let begins : StartsFrom mid (lexemes_at mid b.pieces ++ ts) =
      starts_at mid b.pieces ts (subst (λ (bs : List ℕ). StartsFrom (mid + length bs) ts) (sym b.is) far) in
      let split : lexemes_at place (a.pieces ++ b.pieces) ≡ lexemes_at place a.pieces ++ lexemes_at mid b.pieces =
      lexemes-append place a.pieces b.pieces ∙ ap (λ (bs : List ℕ). lexemes_at place a.pieces ++ lexemes_at (place + length bs) b.pieces)
      a.is in
      let whole : lexemes_at place a.pieces ++ (lexemes_at mid b.pieces ++ ts) ≡ lexemes_at place (a.pieces ++ b.pieces) ++ ts =
      sym (append_assoc (lexemes_at place a.pieces) (lexemes_at mid b.pieces) ts) ∙ ap (λ (ls : List Lexeme). ls ++ ts) (sym split) in
      subst₂ (λ (ls : List Lexeme) (all : List Field). ArePointFields ls all) whole (sym (append_assoc fs gs hs))
      (a.tokens place (lexemes_at mid b.pieces ++ ts) (gs ++ hs) begins after);
}

-- part after part
next_range : (n : ℕ) → range_with_len 0 (suc n) ≡ range_with_len 0 n ++ n ∷ []
next_range n = let e : n + 1 ≡ suc n = omega arith in subst (λ (k : ℕ). range_with_len 0 k ≡ range_with_len 0 n ++ n ∷ []) e (one_more n)

fields_more : (fields : ℕ → List Field) (n : ℕ) → flat_map fields (range_with_len 0 (suc n))
    ≡ flat_map fields (range_with_len 0 n) ++ fields n
fields_more fields n =
    ap (λ (ks : List ℕ). flat_map fields ks) (next_range n) ∙ flat_map-append fields (range_with_len 0 n) (n ∷ [])
    ∙ ap (λ (fs : List Field). flat_map fields (range_with_len 0 n) ++ fs) (append-nil (fields n))

many : (part whole : ℕ → List ℕ) (fields : ℕ → List Field) → whole 0 ≡ [] → ((n : ℕ) → whole (suc n) ≡ whole n ++ part n) → (m : ℕ)
    → ((n : ℕ) → n < m → Spells (part n) (fields n)) → Spells (whole m) (flat_map fields (range_with_len 0 m))
many part whole fields none step zero each = subst (λ (x : List ℕ). Spells x []) (sym none) nothing
many part whole fields none step (suc m) each =
    subst₂ (λ (x : List ℕ) (fs : List Field). Spells x fs) (sym (step m)) (sym (fields_more fields m))
    (join (whole m) (part m) (flat_map fields (range_with_len 0 m)) (fields m)
    (many part whole fields none step m (λ n l. each n (omega (arith, l)))) (each m (omega arith)))

singles : (f : ℕ → Field) (ks : List ℕ) → flat_map (λ k. f k ∷ []) ks ≡ map f ks
singles f [] = refl
singles f (k ∷ ks) = ap (λ (fs : List Field). f k ∷ fs) (singles f ks)

-- ---- one word
line_end : Blank (codes "\n")
unfolding is_blank
line_end = record { all = refl; first = 10; more = []; is = refl }

space : Blank (codes " ")
unfolding is_blank
space = record { all = refl; first = 32; more = []; is = refl }

after_blank : (count k : ℕ) → Blank (after_item count k)
after_blank count k = either (suc k == count)
  where
    either : (b : Bool) → Blank (cond b (codes "\n") (codes " "))
    either true = line_end
    either false = space

minus_piece : IsPiece Minus (codes "-")
unfolding kind_of is_letter is_digit is_point is_exponent_mark
minus_piece = record { kind_is = refl; short = omega arith }

abbrev lexeme : TokenKind → ℕ → List ℕ → Lexeme
lexeme kind place bytes = record { kind = kind; place = place; bytes = bytes }

word : (kind : TokenKind) (bytes following : List ℕ) (f : Field) → IsPiece kind bytes → Blank following
    → ((place : ℕ) (ts : List Lexeme) (gs : List Field) → StartsFrom (place + length (bytes ++ following)) ts → ArePointFields ts gs
    → ArePointFields (lexeme kind place bytes ∷ ts) (f ∷ gs))
    → Spells (bytes ++ following) (f ∷ [])
word kind bytes following f piece blank tokens = record {
  pieces = spelled (plain kind bytes) following;
  is = text_word (plain kind bytes) following;
  printed = word_printed (plain kind bytes) following piece blank;
  tokens = tokens;
}

whole_number : (place n : ℕ) → n ≤ 10000 → IsWhole (lexeme Numeral place (decimal n)) n
whole_number place n l = let was = action_spelled n (omega (arith, l)) in
    whole_is (lexeme Numeral place (decimal n)) n was.whole was.value

number_piece : (n : ℕ) → n ≤ 10000 → IsPiece Numeral (decimal n)
number_piece n l = numeral_piece (decimal n) (plain_decimal n (omega (arith, l)))

spelled_number : (i : ℕ) → i ≤ 10000 → Spells (point_number_text i) (number_field i ∷ [])
spelled_number i l = word Numeral (decimal i) (codes " ") (number_field i) (number_piece i l) space
    (λ place ts gs start rest. flat.number (whole_number place i l) rest)

is_weight : (w : ℕ) → w ≤ one → IsWeight (unsigned_text w) w
is_weight w l =
    let few : w ≤ largest = omega (arith, l) in record {
      readable = readable_written w few;
      at_most_one = subst (λ (n : ℕ). n ≤ one * millionth) (sym (size_written w few)) (mul-le-mul_right millionth l);
      rounded = rounded_whole Down false (unsigned_text w) w (grind (arith, millionth_pos, size_written));
    }

spelled_weight : (w : ℕ) (following : List ℕ) → w ≤ one → Blank following → Spells (unsigned_text w ++ following) (weight_field w ∷ [])
spelled_weight w following l blank =
    word Numeral (unsigned_text w) following (weight_field w) (numeral_piece (unsigned_text w) (plain_size w (omega (arith, l)))) blank
    (λ place ts gs start rest. flat.weight refl (is_weight w l) rest)

spelled_value : (h : ℤ) → IsInRange h → Spells (point_value_text h) (value_field h ∷ [])
spelled_value (pos n) r =
    let few : n ≤ largest = omega (arith, ints, r.1) in
    word Numeral (unsigned_text n) (codes " ") (value_field (pos n)) (numeral_piece (unsigned_text n) (plain_size n few)) space
    (λ place ts gs start rest. flat.unsigned (record {
      kind = refl;
      readable = readable_written n few;
      value =
          rounded_whole Up false (unsigned_text n) n (grind (arith, millionth_pos, size_written));
    }) rest)
spelled_value (negsuc n) r =
    let few : suc n ≤ largest = omega (arith, ints, r.0) in record {
      pieces = spelled (minus (unsigned_text (suc n))) (codes " ");
      is = text_word (minus (unsigned_text (suc n))) (codes " ");
      printed = word_printed (minus (unsigned_text (suc n))) (codes " ") (plain_size (suc n) few) space;
      tokens = λ place ts gs start rest. flat.minus refl (record {
        kind = refl;
        readable = readable_written (suc n) few;
        value =
            rounded_whole Up true (unsigned_text (suc n)) (suc n) (grind (arith, millionth_pos, size_written));
      }) rest;
    }

not_joined : (place : ℕ) (following : List ℕ) → Blank following → (ts : List Lexeme)
    → StartsFrom (place + length (codes "-" ++ following)) ts → IsNotJoined (lexeme Minus place (codes "-")) ts
not_joined place following blank [] start = tt
not_joined place following blank (u ∷ us) start = λ kind e. let long : length following ≡ suc (length blank.more) = ap length blank.is in
    omega (arith, start, e, long)

spelled_name : (name : Option ℕ) (following : List ℕ) → ((j : ℕ) → name ≡ Some j → j ≤ 10000) → Blank following
    → Spells (named_text name ++ following) (name_field name ∷ [])
spelled_name None following few blank =
    word Minus (codes "-") following (name_field None) minus_piece blank
    (λ place ts gs start rest. flat.dash refl (not_joined place following blank ts start) rest)
spelled_name (Some j) following few blank =
    word Numeral (decimal j) following (name_field (Some j)) (number_piece j (few j refl)) blank
    (λ place ts gs start rest. flat.named (whole_number place j (few j refl)) rest)

-- ---- points
module _ (q : PointValues) (few : point_count q ≤ 10000) (weights : (i s : ℕ) → i < point_count q → s < q.states → point_weight q i s ≤ one)
    (values : (i a : ℕ) → i < point_count q → a < q.actions → IsInRange (value_at q i a))
    (named : (i a z j : ℕ) → i < point_count q → a < q.actions → z < q.observations → named_at q i a z ≡ Some j → j < point_count q)
  where
    spelled_weights : (i : ℕ) → i < point_count q → Spells (weights_text (point_weight q i) q.states q.states)
        (weight_fields q i (range_with_len 0 q.states))
    spelled_weights i il =
        subst (λ (fs : List Field). Spells (weights_text (point_weight q i) q.states q.states) fs)
        (singles (λ s. weight_field (point_weight q i s)) (range_with_len 0 q.states))
        (many (weight_text (point_weight q i) q.states) (weights_text (point_weight q i) q.states)
        (λ s. weight_field (point_weight q i s) ∷ [])
        refl
        (λ n. refl) q.states
        (λ s sl. spelled_weight (point_weight q i s) (after_item q.states s) (weights i s il sl) (after_blank q.states s)))

    spelled_names : (i a : ℕ) → i < point_count q → a < q.actions
        → Spells (names_text (named_at q i a) q.observations q.observations) (name_fields q i a (range_with_len 0 q.observations))
    spelled_names i a il al =
        subst (λ (fs : List Field). Spells (names_text (named_at q i a) q.observations q.observations) fs)
        (singles (λ z. name_field (named_at q i a z)) (range_with_len 0 q.observations))
        (many (point_name_text (named_at q i a) q.observations) (names_text (named_at q i a) q.observations)
        (λ z. name_field (named_at q i a z) ∷ []) refl (λ n. refl) q.observations
        (λ z zl. spelled_name (named_at q i a z) (after_item q.observations z) (λ j is. omega (arith, few, named i a z j il al zl is))
        (after_blank q.observations z)))

    spelled_action : (i a : ℕ) → i < point_count q → a < q.actions → Spells (action_text q i a) (action_fields q i a)
    spelled_action i a il al = join (point_value_text (value_at q i a)) (names_text (named_at q i a) q.observations q.observations)
        (value_field (value_at q i a) ∷ []) (name_fields q i a (range_with_len 0 q.observations))
        (spelled_value (value_at q i a) (values i a il al)) (spelled_names i a il al)

    spelled_point : (i : ℕ) → i < point_count q → Spells (point_text q i) (point_fields q i)
    spelled_point i il =
        join (point_number_text i) (weights_text (point_weight q i) q.states q.states ++ actions_text q i q.actions) (number_field i ∷ [])
        (weight_fields q i (range_with_len 0 q.states) ++ flat_map (action_fields q i) (range_with_len 0 q.actions))
        (spelled_number i (omega (arith, few, il)))
        (join (weights_text (point_weight q i) q.states q.states) (actions_text q i q.actions)
        (weight_fields q i (range_with_len 0 q.states))
        (flat_map (action_fields q i) (range_with_len 0 q.actions)) (spelled_weights i il)
        (many (action_text q i) (actions_text q i) (action_fields q i) refl (λ n. refl) q.actions (λ a al. spelled_action i a il al)))

    pub spelled_points : Spells (points_text q) (flat_map (point_fields q) (range_with_len 0 (point_count q)))
    spelled_points = many (point_text q) (points_text_up_to q) (point_fields q) refl (λ n. refl) (point_count q)
        (λ i il. spelled_point i il)

    -- ---- the text
    abbrev pub tokens : List Lexeme
    tokens = lexemes_at 0 spelled_points.pieces

    are_fields : ArePointFields tokens (flat_map (point_fields q) (range_with_len 0 (point_count q)))
    are_fields =
        subst₂ (λ (ls : List Lexeme) (fs : List Field). ArePointFields ls fs) (append-nil tokens)
        (append-nil (flat_map (point_fields q) (range_with_len 0 (point_count q))))
        (spelled_points.tokens 0 [] [] tt flat.none)

    cut_is : length (points_text q) ≤ text_limit → IsCut (text_rest (points_text q) text_limit) tokens None
    cut_is short =
        let cut : IsCut (rest_at 0 (text_of spelled_points.pieces)) tokens None =
        cut_printed spelled_points.pieces 0 [] spelled_points.printed refl in
        let whole : text_rest (points_text q) text_limit ≡ rest_at 0 (points_text q) =
        simp (le-ltb text_limit (length (points_text q)) short) in
        subst (λ r. IsCut r tokens None) (sym whole) (subst (λ (bs : List ℕ). IsCut (rest_at 0 bs) tokens None) spelled_points.is cut)

    pub full_form : (states actions observations : ℕ) →
        (ArePointFields tokens (flat_map (point_fields q) (range_with_len 0 (point_count q)))
        → AreFieldTokens states actions observations tokens q)
        → length (points_text q) ≤ text_limit
        → IsPointsText states actions observations (points_text q) q
    full_form states actions observations are short = (tokens, clean_tokens (points_text q) tokens (cut_is short), are are_fields)

-- ---- points that were read, each value raised
pub weight_le : (f : ℕ → ℕ) (s n : ℕ) → s < n → f s ≤ sum_below f n
weight_le f s zero l = absurd (omega (arith, l))
weight_le f s (suc n) l =
    ⊎_elim (λ (k : s < n). omega (arith, weight_le f s n k)) (λ (k : n ≤ s). let e : s ≡ n = omega (arith, l, k) in rw e (omega arith))
    (cases_lt s n)

-- a text gives a value for each action of each point
pub all_values_read : (states actions observations : ℕ) (text : List ℕ) (p : PointValues)
    → IsPointsText states actions observations text p
    → HasAllValues p
all_values_read states actions observations text p is = is.2.all_values ∙ ap (λ (n : ℕ). point_count p * n) (sym is.2.actions_are)

pub raised_reads_back : (states actions observations : ℕ) (text : List ℕ) (p : PointValues) (by : ℕ) → sets.AreProperPoints p
    → IsPointsText states actions observations text p → CanRaisePoints p by
    → length (points_text (raised_set p by)) ≤ text_limit
    → IsPointsText states actions observations (points_text (raised_set p by)) (raised_set p by)
raised_reads_back states actions observations text p by proper is can short =
    let was = is.2 in
    let all : HasAllValues p = all_values_read states actions observations text p is in
    full_form (raised_set p by) proper.few_points (λ i s il sl. omega
    (arith, weight_le (point_weight p i) s p.states sl, (proper.mass i il).few))
    (λ i a il al. subst IsInRange (sym (value_raised p all by i a il al)) (can i a il al)) proper.named states actions observations
    (λ fields. record {
      states_are = was.states_are;
      actions_are = was.actions_are;
      observations_are = was.observations_are;
      few = was.few;
      rows_are = was.rows_are;
      all_values = length-map p.values (λ h. h +ℤ pos by) ∙ was.all_values;
      all_names = was.all_names;
      fields = fields;
      bound = was.bound;
    })
    short
