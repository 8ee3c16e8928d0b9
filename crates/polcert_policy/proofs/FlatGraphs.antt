-- The tokens of a graph, field after field, and the same by the index of each token.
use Rattle.std.proofs.Common.{◌≡◌, ◌∙◌, ℕ, suc, zero, ◌+◌, ◌*◌, ◌<◌, Bool, true, false, ◌&&◌, Some, None, IfSome, List, [], length, Option}
use Rattle.std.proofs.Common.{codes, slice_get, get_or, refl, sym, ap, subst, arith}
use Rattle.polcert_policy.proofs.Common.{length-map-range_with_len, get_or-map-range_with_len, get_or_from_slice_get, TokenKind}
use Rattle.polcert_policy.proofs.Common.{slice_get-get_or, Lexeme, IsCut, text_rest, text_limit, Name, Numeral}
use Rattle.polcert_policy.proofs.Common.{Minus, numeral_kind, minus_kind, is_whole, whole_number_of, is_successor, is_successor_of}
use Rattle.polcert_policy.proofs.Common.{successor_of}
use Rattle.polcert_policy.proofs.Common.{number_at, is_joined, PolicyGraph, nodes, next_of, width, IsLooseGraph, HasNodesOnly}
use Rattle.polcert_policy.proofs.Common.{IsGraph, IsGraphText}
use Rattle.std.proofs.lemmas.Bool.Decides.{nat_tests}
use Rattle.polcert_text.proofs.Scanning.CleanCut.{clean_cut, clean_tokens}
use Rattle.polcert_cells.specs.Numbers.{IsWhole}
use Rattle.polcert_policy.specs.Fields.{is_x}
use Rattle.polcert_policy.specs.Graphs as graphs
use Rattle.polcert_policy.specs.Graphs.{fields_of, IsField, AreGraphTokens}
use Rattle.polcert_policy.proofs.Places.{row_of, row_below, row_above, some_columns, place_inside, within_get, same_some}
use Rattle.polcert_policy.proofs.FlatRows.{row_long, row_at, rows_zip}

-- ---- one token

whole_parts : (k : TokenKind) (b : Bool) → (numeral_kind k && b) ≡ true → (k ≡ Numeral) × (b ≡ true)
whole_parts k b h1 = grind arith

module _ (t : Lexeme) (n : ℕ) where
  pub whole_is : is_whole t ≡ true → whole_number_of t ≡ n → IsWhole t n
  whole_is whole value = let parts = whole_parts t.kind _ whole in
      record { kind = parts.0; digits = parts.1; value = value }

  pub is_whole_of : IsWhole t n → is_whole t ≡ true
  is_whole_of is = simp (is.kind, is.digits)

x_bytes : (bs : List ℕ) → is_x bs ≡ true → bs ≡ codes "X"
x_bytes bs h1 = grind arith

module _ (t : Lexeme) where
  successor_field : is_successor t ≡ true → IsField t (successor_of t)
  successor_field right = at t.kind refl right
    where
      at : (k : _) → t.kind ≡ k → is_successor_of k t.bytes ≡ true → IsField t (number_at k (whole_number_of t))
      at Numeral e digits = graphs.number (record { kind = e; digits = digits; value = refl })
      at Name e is = graphs.x (record { kind = e; bytes = x_bytes t.bytes is })
      at Minus e is = graphs.dash e
      at _ e is = cc

  field_successor : (f : Option ℕ) → IsField t f → (is_successor t ≡ true) × (successor_of t ≡ f)
  field_successor f h1 = grind arith

  field_whole : (n : ℕ) → IsField t (Some n) → IsWhole t n
  field_whole n (graphs.number is) = is

joined_parts : (j k : TokenKind) (b : Bool) → (j ≡ Minus → k ≡ Numeral → b ≡ false) → (minus_kind j && (numeral_kind k && b)) ≡ false
joined_parts j k b h1 = grind arith

if_some : {c : ℕ} (f : Option ℕ) → ((m : ℕ) → f ≡ Some m → m < c) → IfSome f (λ m. m < c)
if_some f h1 = grind arith

-- ---- the fields of a node

module _ (g : PolicyGraph) (n : ℕ) where
  wide : length (fields_of g n) ≡ width g.observations
  wide = omega (arith, length-map-range_with_len (next_of g n) 0 g.observations)

  next_field : (z : ℕ) → z < g.observations → slice_get (fields_of g n) (suc (suc z)) ≡ Some (next_of g n z)
  next_field z l =
      slice_get-get_or _ z None
      (omega (arith, l, length-map-range_with_len (next_of g n) 0 g.observations))
      ∙ ap Some (get_or-map-range_with_len (next_of g n) 0 g.observations z z None l (omega arith))

-- ---- graphs

module _ (a o : ℕ) (ts : List Lexeme) (g : PolicyGraph) where
  module _ (are : AreGraphTokens a o ts g) where
    at_column : (n j : ℕ) (t : Lexeme) (f : Option ℕ) → j < width o → slice_get ts (n * width o + j) ≡ Some t
        → slice_get (fields_of g n) j ≡ Some f → IsField t f
    at_column n j t f l at is =
        row_at (fields_of g) (width o) (λ n. wide g n ∙ ap width are.observations_are) IsField ts (nodes g) are.fields n j t f l at is

    tokens : length ts ≡ nodes g * width o
    tokens = row_long (fields_of g) (width o) (λ n. wide g n ∙ ap width are.observations_are) IsField ts (nodes g) are.fields

    node_below : (n j : ℕ) (t : Lexeme) → slice_get ts (n * width o + j) ≡ Some t → n < nodes g
    node_below n j t at = row_below (width o) n j (nodes g) (omega (arith, within_get ts _ t at, tokens))

    pub loose_from : IsLooseGraph a o ts g
    loose_from = record {
      actions_are = are.actions_are;
      observations_are = are.observations_are;
      some = are.some;
      few = are.few;
      tokens = tokens;
      successors = are.filled;
      records = record {
        number = λ n t at.
            let is = field_whole t n (at_column n 0 t (Some n) (omega arith) (subst (λ k. slice_get ts k ≡ Some t) (omega arith) at) refl)
            in
            (is_whole_of t n is, is.value);
        action = λ n t at.
            let below = node_below n 1 t at in
            let is = field_whole t _ (at_column n (suc zero) t _ (omega arith)
            (subst (λ k. slice_get ts k ≡ Some t) (omega arith) at) refl) in
            record {
              whole = is_whole_of t _ is;
              known = subst (λ x. x < a) (sym is.value) (are.actions_known n 0 below);
              value = slice_get-get_or g.chosen n 0 below ∙ ap Some (sym is.value);
            };
        next = λ n z t below at.
            let is = field_successor t _ (at_column n (suc (suc z)) t _ (omega (arith, below))
            (subst (λ k. slice_get ts k ≡ Some t) (omega arith) at) (next_field g n z (omega arith))) in
            let inside = place_inside o n z (nodes g) (node_below n (2 + z) t at) below in
            record {
              right = is.0;
              value = slice_get-get_or g.successors (n * o + z) None (omega arith)
                  ∙ ap (λ w. Some (get_or g.successors (n * w + z) None)) (sym are.observations_are) ∙ ap Some (sym is.1);
            };
        apart = λ k s t first second. joined_parts s.kind t.kind _ (λ e f. grind (arith, nat_tests));
      };
    }

    pub bound_from : HasNodesOnly g
    bound_from n z l k m e = grind arith

  pub graph_from : AreGraphTokens a o ts g → IsGraph a o ts g
  graph_from are = record { loose = loose_from are; bound = bound_from are }

  pub tokens_of_graph : IsLooseGraph a o ts g → HasNodesOnly g → AreGraphTokens a o ts g
  tokens_of_graph loose bound = record {
    actions_are = loose.actions_are;
    observations_are = loose.observations_are;
    some = loose.some;
    few = loose.few;
    filled = loose.successors;
    fields = rows_zip (fields_of g) (width o) (λ n. wide g n ∙ ap width loose.observations_are) IsField ts (nodes g) (omega arith)
        loose.tokens at;
    actions_known = actions_below;
    successors_known = successors_below;
    apart = λ k s t first second e f same.
        let free = loose.records.apart k s t first second in joined k s t e f same free;
  }
    where
      at : (n j : ℕ) (t : _) (f : _) → n < nodes g → j < width o → slice_get ts (n * width o + j) ≡ Some t
          → slice_get (fields_of g n) j ≡ Some f → IsField t f
      at n zero t f l k here is =
          let was = loose.records.number n t (subst (λ p. slice_get ts p ≡ Some t) (omega arith) here) in
          subst (IsField t) (same_some (Some n) f is) (graphs.number (whole_is t n was.0 was.1))
      at n (suc zero) t f l k here is =
          let was = loose.records.action n t (subst (λ p. slice_get ts p ≡ Some t) (omega arith) here) in
          subst (IsField t) (same_some _ f is)
          (graphs.number (whole_is t _ was.whole (sym (get_or_from_slice_get g.chosen n _ 0 was.value))))
      at n (suc (suc z)) t f l k here is =
          let below : z < o = omega (arith, k) in
          let was = loose.records.next n z t below (subst (λ p. slice_get ts p ≡ Some t) (omega arith) here) in
          let next =
          ap (λ w. get_or g.successors (n * w + z) None) loose.observations_are
          ∙ get_or_from_slice_get g.successors (n * o + z) _ None was.value in
          let same = same_some _ f (sym (next_field g n z (omega arith)) ∙ is) in
          subst (IsField t) (sym next ∙ same) (successor_field t was.right)

      actions_below : (n d : ℕ) → n < nodes g → get_or g.chosen n d < a
      actions_below n d l =
          let inside : n * width o + 1 < length ts = omega (arith, row_above (width o) n (nodes g) l, loose.tokens) in
          let token = slice_get-get_or ts _ (record { kind = Minus; place = 0; bytes = [] }) inside in
          let was = loose.records.action n _ token in
          subst (λ x. x < a) (sym (get_or_from_slice_get g.chosen n _ d was.value)) was.known

      successors_below : (k : ℕ) (d : _) → k < length g.successors → IfSome (get_or g.successors k d) (λ m. m < nodes g)
      successors_below k d l =
          let filled : k < nodes g * o = omega arith in
          let row = row_of o k (some_columns (nodes g) o k filled) in
          let inside : row.0 * o + row.1.0 < nodes g * o = omega arith in
          let below = bound row.0 row.1.0 (row_below o row.0 row.1.0 (nodes g) inside) (omega arith) in
          let here =
          same_some _ _ (sym (slice_get-get_or g.successors k d l) ∙ slice_get-get_or g.successors k None l)
          ∙ ap (λ p. get_or g.successors p None) (row.1.1 ∙ ap (λ w. row.0 * w + row.1.0) (sym loose.observations_are)) in
          subst (λ f. IfSome f (λ m. m < nodes g)) (sym here) (if_some _ below)

      joined : ℕ → (s t : Lexeme) → s.kind ≡ Minus → t.kind ≡ Numeral → t.place ≡ s.place + length s.bytes → is_joined s t ≡ false → ⊥
      joined k s t e f same free = grind arith

-- ---- texts

-- a text that is tokens of a graph, by their indices
abbrev pub IsIndexedText : ℕ → ℕ → List ℕ → PolicyGraph → Type 0
IsIndexedText a o text g = (ts : List Lexeme) × IsCut (text_rest text text_limit) ts None × IsGraph a o ts g

module _ (a : ℕ) (o : ℕ) (text : List ℕ) (g : PolicyGraph) where
  pub indexed : IsGraphText a o text g → IsIndexedText a o text g
  indexed is = (is.0, clean_cut text is.0 is.1, graph_from a o is.0 g is.2)

  pub graph_text : (ts : List Lexeme) → IsCut (text_rest text text_limit) ts None
      → IsGraph a o ts g → IsGraphText a o text g
  graph_text ts cut is = (ts, clean_tokens text ts cut, tokens_of_graph a o ts g is.loose is.bound)
