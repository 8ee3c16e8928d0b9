-- Rows that are kept, and what they are made of.
use Rattle.std.proofs.Common.{◌≡◌, ◌∙◌, ℕ, zero, suc, ◌*◌, ◌<◌, ◌≤◌, ◌==◌, ◌↔◌, ⊎_elim, Bool, cond, eqb, IsTrue, Option, Some, List, []}
use Rattle.std.proofs.Common.{◌∷◌, ◌++◌, length, map, get_or, slice_index, slice_index_or, All, refl, sym, ap, subst, arith, rules, tests}
use Rattle.std.specs.Option.{option_map}
use Rattle.polcert_rules.proofs.Common.{map-append, get_or_past, cases_lt, All-push, slice_get_within, slice_get-get_or, slice_get-map}
use Rattle.polcert_rules.proofs.Common.{get_or_from_slice_get, same_Some, Place, Body, Entry, one, Fills, Cell, Shape, RowOrigin, SharedRow}
use Rattle.polcert_rules.proofs.Common.{IsShapeWithin, FitsShape, entry_weight, sum_below, scaled_cells, IsSparse, IsRow, given_at, IsFrom}
use Rattle.polcert_rules.proofs.Common.{IsWholeRowEntry, sum_of_weights}
use Rattle.polcert_rules.proofs.Common.{AreKept, IsKeptRow, IsShared, IsAfter, Stays}
use Rattle.std.proofs.lemmas.List.Elements.{All-weaker}
use Rattle.polcert_rules.specs.Steps.Given.{body_weight}
use Rattle.polcert_rules.specs.Steps.Sources.{origin_of, IsSharedRow, is_proper, HaveScale}
use Rattle.std.specs.List.{slice_get}
use Rattle.std.proofs.Math.Nat.{mul-le-mul_left, mul_comm}
use Rattle.polcert_rules.specs.declared.row_store.RowOrigin.TheVariants.{Nothing, Even, Diagonal, Line}
use Rattle.polcert_rules.specs.declared.row_store.RowStore.{RowStore}
use Rattle.polcert_cells.proofs.SparseLaws.{row_same}
use Rattle.polcert_cells.proofs.ScaledRows.{scaled_row}
use Rattle.polcert_rules.specs.Steps.Lists.{IsFullLine}
use Rattle.polcert_rules.proofs.RowLaws.SumLaws.{sum_is, sum_same}

-- ---- lists
pub at_number : {X : Type 0} (P : X → Type 0) (xs : List X) (n : ℕ) (x : X) → All P xs → slice_get xs n ≡ Some x → P x
at_number P xs n x all is = subst P (get_or_from_slice_get xs n x x is) (all n x (slice_get_within xs n x is))

pub get_front : {X : Type 0} (xs ys : List X) (n : ℕ) (x : X) → slice_get xs n ≡ Some x → slice_get (xs ++ ys) n ≡ Some x
get_front [] ys n x e = cc
get_front (y ∷ xs) ys zero x e = e
get_front (y ∷ xs) ys (suc n) x e = get_front xs ys n x e

get_last : {X : Type 0} (xs : List X) (x : X) → slice_get (xs ++ x ∷ []) (length xs) ≡ Some x
get_last [] x = refl
get_last (y ∷ xs) x = get_last xs x

equal_test : (x a b : ℕ) → x ≡ a → IsTrue (x == b) ↔ (a ≡ b)
equal_test x a b e = (
  λ t. sym e ∙ (search (rules, tests)),
  λ same. search (rules, tests),
)

-- ---- rows that are made of the same
module _ (columns : ℕ) (entries : List Entry) where
  -- what a row that is made of this has in a column
  abbrev made_of : RowOrigin → ℕ → ℕ
  made_of Nothing c = 0
  made_of Even c = one
  made_of (Diagonal s) c = cond (eqb s c) (one * columns) 0
  made_of (Line n l) c = given_at columns entries (Some n) l c

  by_source : (whole : Option ℕ) (s c : ℕ) → given_at columns entries whole s c ≡ made_of (origin_of entries whole s) c
  by_source whole s c = grind arith

  same_source : (one other : Option ℕ) (s t c : ℕ) → origin_of entries one s ≡ origin_of entries other t
      → given_at columns entries one s c ≡ given_at columns entries other t c
  same_source one other s t c e = by_source one s c ∙ ap (λ x. made_of x c) e ∙ sym (by_source _ t c)

  pub from_row : (whole : Option ℕ) (s : ℕ) (cells : List Cell) → IsRow columns (given_at columns entries whole s) cells
      → IsFrom columns entries (origin_of entries whole s) cells
  from_row whole s cells r other t e c l = r.each c l ∙ sym (same_source _ _ t s c e)

  -- ---- a row that is kept already, and one more
  pub known_row : (whole : Option ℕ) (s n : ℕ) (k : RowStore) → AreKept columns entries k
      → IsShared k.shared.items (origin_of entries whole s) n → IsKeptRow columns (given_at columns entries whole s) k.rows n
  known_row whole s n k all m =
      let x = at_number (IsSharedRow columns entries k.rows) k.shared.items m.place
      (record { source = origin_of entries whole s; number = n }) all.common m.is in
      record { row = x.row; is = x.is; each = x.made whole s refl }

  -- the cells of a row that is kept
  pub cells_row : (cells : List Cell) (k : RowStore) (f : ℕ → ℕ) (n : ℕ) → AreKept columns entries k → IsKeptRow columns f k.rows n
      → slice_get k.rows n ≡ Some cells → IsRow columns f cells
  cells_row cells k f n all h is =
      subst (λ xs. IsRow columns f xs) (same_Some h.row cells (sym h.is ∙ is))
      (record { sparse = at_number (IsSparse columns) _ n _ all.sparse h.is; each = h.each })

  -- a row with these cells, where they are a row of these weights
  pub weighed_row : (cells : List Cell) (rows : List (List Cell)) (f : ℕ → ℕ) (n : ℕ) → slice_get rows n ≡ Some cells
      → IsRow columns f cells → IsKeptRow columns f rows n
  weighed_row cells rows f n is r = record { row = _; is = is; each = r.each }

  pub after_stays : (cells : List Cell) (old new : RowStore) → IsAfter columns cells old new → Stays old.rows new.rows
  after_stays cells old new b n row e = subst (λ (xs : List (List Cell)). slice_get xs n ≡ Some row) (sym b.rows_are)
      (get_front _ (cells ∷ []) n row e)

  common_stays : (old new : List (List Cell)) → Stays old new → (x : SharedRow) → IsSharedRow columns entries old x
      → IsSharedRow columns entries new x
  common_stays old new stays x h = record { row = h.row; is = stays _ _ h.is; made = h.made }

  pub after_kept : (cells : List Cell) (old new : RowStore) → IsAfter columns cells old new → IsSparse columns cells
      → AreKept columns entries old → AreKept columns entries new
  after_kept cells old new b sparse all = record {
    sparse = subst (λ (xs : List (List Cell)). All (IsSparse columns) xs) (sym b.rows_are)
        (All-push (IsSparse columns) _ cells all.sparse sparse);
    tested =
        b.tests_are ∙ ap (λ bs. bs ++ is_proper columns cells ∷ []) all.tested
        ∙ sym (map-append _ _ _)
        ∙ sym (ap (map (is_proper columns)) b.rows_are);
    common = subst (λ xs. All (IsSharedRow columns entries new.rows) xs) (sym b.common_are) (All-weaker _ _
        (common_stays _ new.rows (after_stays cells old new b)) _ all.common);
  }

  pub after_row : (cells : List Cell) (old new : RowStore) (n : ℕ) → IsAfter columns cells old new → n ≡ length old.rows
      → slice_get new.rows n ≡ Some cells
  after_row cells old new n b e = grind (arith, get_last)

  -- one more row that one entry gives alone
  pub one_more_common : (old new : RowStore) (x : SharedRow) → new.rows ≡ old.rows → new.proper.items ≡ old.proper.items
      → new.shared.items ≡ old.shared.items ++ x ∷ []
      → IsSharedRow columns entries old.rows x → AreKept columns entries old → AreKept columns entries new
  one_more_common old new x rows tests more here all = record {
    sparse = subst (λ (xs : List (List Cell)). All (IsSparse columns) xs) (sym rows) all.sparse;
    tested = tests ∙ all.tested ∙ sym (ap (map (is_proper columns)) rows);
    common = subst (λ (xs : List (List Cell)). All (IsSharedRow columns entries xs) new.shared.items) (sym rows)
        (subst (λ xs. All (IsSharedRow columns entries old.rows) xs) (sym more)
        (All-push (IsSharedRow columns entries old.rows) _ x all.common here));
  }

  -- what is known of the sum of a row
  pub proper_is : (k : RowStore) (f : ℕ → ℕ) (n : ℕ) (b : Bool) → AreKept columns entries k → IsKeptRow columns f k.rows n
      → slice_get k.proper.items n ≡ Some b → IsTrue b ↔ (sum_below f columns ≡ one * columns)
  proper_is k f n b all h is =
      let same = same_Some _ b
      (sym (slice_get-map (is_proper columns) k.rows n ∙ ap (option_map (is_proper columns)) h.is)
      ∙ ap (λ bs. slice_get bs n) (sym all.tested) ∙ is) in
      subst (λ t. IsTrue t ↔ (sum_below f columns ≡ one * columns)) same
      (equal_test _ _ _ (sum_is columns h.row (at_number (IsSparse columns) k.rows n h.row all.sparse h.is)
      ∙ sum_same _ _ columns h.each))

-- ---- rows that stay
pub row_within : (columns : ℕ) (f : ℕ → ℕ) (rows : List (List Cell)) (n : ℕ) → IsKeptRow columns f rows n → n < length rows
row_within columns f rows n k = slice_get_within rows n _ k.is

pub number_stays : (old new : List (List Cell)) (n : ℕ) → Stays old new → n < length old → n < length new
number_stays old new n stays l = slice_get_within new n _ (stays n _ (slice_get-get_or old n [] l))

pub numbers_stay : (numbers : List ℕ) (old new : List (List Cell)) → Stays old new → All (λ n. n < length old) numbers
    → All (λ n. n < length new) numbers
numbers_stay numbers old new stays all k d l = number_stays old new _ stays (all k d l)

-- ---- how large weights are
number_small : (ps : List ℕ) (k : ℕ) → All (λ p. p ≤ one) ps → slice_index ps k ≤ one
number_small ps k all = ⊎_elim (all k 0) (λ ge. let past : get_or ps k 0 ≡ 0 = get_or_past ps k 0 ge in omega arith)
    (cases_lt k (length ps))

given_by_small : (columns cells : ℕ) (places : List Place) (body : Body) (s c : ℕ) → 1 ≤ columns → Fills cells body
    → body_weight columns places body s c ≤ one * columns
given_by_small columns cells places body s c h1 h2 = grind (arith, mul-le-mul_left, mul_comm, number_small)

pub given_small : (shape : Shape) (e : Entry) (s c : ℕ) → IsShapeWithin shape → FitsShape shape e
    → entry_weight shape.columns e s c ≤ one * shape.columns
given_small shape e s c w f = given_by_small _ _ _ _ s c w.columns.0 f.body

pub whole_small : (shape : Shape) (entries : List Entry) (whole : Option ℕ) (s c : ℕ) → IsShapeWithin shape
    → IsWholeRowEntry shape entries whole
    → given_at shape.columns entries whole s c ≤ one * shape.columns
whole_small shape entries whole s c h1 h2 = grind (arith, given_small)

-- ---- the sum of a row that is found by its number
pub scale_at : (shape : Shape) (rows : List (List Cell)) (numbers : List (List ℕ)) (line : List ℕ) (cells : List Cell) (a s : ℕ)
    → HaveScale shape rows numbers → a < shape.actions → s < shape.states → slice_get numbers a ≡ Some line
    → slice_get rows (slice_index line s) ≡ Some cells → sum_of_weights cells ≡ one * shape.columns
scale_at shape rows numbers line cells a s h la ls line_is cells_are =
    let row = get_or_from_slice_get rows _ _ [] cells_are in
    ap sum_of_weights (sym row)
    ∙ ap (λ ns. sum_of_weights (slice_index_or rows (slice_index ns s) [])) (sym (get_or_from_slice_get numbers a line [] line_is))
    ∙ h a s la ls

-- ---- rows of numbers
pub full_row : (n : ℕ) (f : ℕ → ℕ) (ns : List ℕ) → IsFullLine n f ns → IsRow n f (scaled_cells (length ns) 0 ns)
full_row n f ns line =
    let row =
    subst (λ m. IsRow m (λ c. slice_index ns c * length ns) (scaled_cells (length ns) 0 ns)) line.size (scaled_row (length ns) ns)
    in
    row_same n _ f _ (λ c l. ap (λ m. slice_index ns c * m) line.size ∙ line.each c l) row
