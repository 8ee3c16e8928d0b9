-- Names kept as texts, and the list of their bytes.
use Rattle.std.proofs.Common.{◌≡◌, ◌∙◌, ℕ, zero, suc, ◌+◌, Bool, true, false, not, ◌||◌, List, [], ◌∷◌, ◌++◌, map, position, bytes_eq, Some}
use Rattle.std.proofs.Common.{refl, ap, subst, arith, slice_get, string_bytes, cond, String, if◌then◌else◌, rules}
use Rattle.polcert_cells.proofs.Common.{list_any, map-append, length-map, bytes_eq-Decides}
use Rattle.std.specs.List.{position_or_len, AllByRecursion, IsDistinct}
use Rattle.std.proofs.lemmas.Bool.{lt-ltb}
use Rattle.std.proofs.lemmas.Map.Keys.{IsDistinct-head, IsDistinct-tail}
use Rattle.std.proofs.lemmas.Option.{slice_get_within}
use Rattle.polcert_cells.proofs.Basics.{true≢false}
use Rattle.std.specs.String.{string_eq}
use Rattle.indexmap.proofs.SetLemmas.{set_all_distinct}
use Rattle.indexmap.specs.IndexSet.{insert_key, insert_all}

apart_flipped : (a b : List ℕ) → bytes_eq a b ≡ false → bytes_eq b a ≡ false
apart_flipped a b apart = grind (arith, bytes_eq, bytes_eq-Decides, true≢false)

module _ {Z : Type 0} where
  -- ---- a test of texts is one of their bytes

  at_of_bytes : (name : List ℕ) (keys : List (String Z)) →
      position_or_len (λ k. bytes_eq name (string_bytes k)) keys
      ≡ position_or_len (bytes_eq name) (map string_bytes keys)
  at_of_bytes name [] = refl
  at_of_bytes name (k ∷ keys) = grind (arith, bytes_eq, string_bytes, at_of_bytes name keys)

  pub position_of_bytes : (name : List ℕ) (keys : List (String Z)) →
      position (λ k. bytes_eq name (string_bytes k)) keys ≡ position (bytes_eq name) (map string_bytes keys)
  position_of_bytes name keys = grind (arith, bytes_eq, string_bytes, length-map, at_of_bytes)

  any_of_bytes : (name : List ℕ) (keys : List (String Z)) →
      list_any (λ k. bytes_eq name (string_bytes k)) keys ≡ list_any (bytes_eq name) (map string_bytes keys)
  any_of_bytes name [] = refl
  any_of_bytes name (k ∷ keys) = ap (λ rest. bytes_eq name (string_bytes k) || rest) (any_of_bytes name keys)

  -- ---- one name more

  module _ (item : String Z) (keys pushed : List (String Z)) (name : List ℕ) (is_new : Bool) (old : List (List ℕ))
      (seen : map string_bytes keys ≡ old) (is : string_bytes item ≡ name)
      (answer : is_new ≡ not (list_any (string_eq item) keys)) (inserted : pushed ≡ insert_key string_eq keys item) where
    looked : list_any (string_eq item) keys ≡ list_any (bytes_eq name) old
    looked =
        any_of_bytes (string_bytes item) keys
        ∙ ap (λ n. list_any (bytes_eq n) (map string_bytes keys)) is
        ∙ ap (list_any (bytes_eq name)) seen

    kept : (known : Bool) → list_any (string_eq item) keys ≡ known → pushed ≡ (if known then keys else keys ++ item ∷ [])
    kept known k = inserted ∙ ap (λ b. if b then keys else keys ++ item ∷ []) k

    pub new_name : is_new ≡ true
        → (list_any (bytes_eq name) old ≡ false) × (map string_bytes pushed ≡ old ++ name ∷ [])
    new_name e = grind (arith, bytes_eq, string_bytes, map-append, looked, kept)

    pub known_name : is_new ≡ false → (list_any (bytes_eq name) old ≡ true) × (map string_bytes pushed ≡ old)
    known_name e = grind (arith, bytes_eq, string_bytes, looked, kept)

  -- ---- the names of a set, put into an empty one

  pub moved : (keys empty made : List (String Z)) (old : List (List ℕ)) → map string_bytes keys ≡ old
      → IsDistinct string_eq keys → empty ≡ [] → made ≡ insert_all string_eq empty keys → map string_bytes made ≡ old
  moved keys empty made old seen differ none all = search (rules, string_bytes, set_all_distinct)

  -- ---- the name that is at a place is at none before it

  other_name : (x : String Z) (xs : List (String Z)) (n : ℕ) (key : String Z) → AllByRecursion (λ y. string_eq x y ≡ false) xs
      → slice_get xs n ≡ Some key → string_eq x key ≡ false
  other_name x [] n key all is = cc
  other_name x (y ∷ ys) zero key all is = let same : y ≡ key = cc in subst (λ k. string_eq x k ≡ false) same all.0
  other_name x (y ∷ ys) (suc n) key all is = other_name x ys n key all.1 is

  first_at : (keys : List (String Z)) (n : ℕ) (key : String Z) → IsDistinct string_eq keys → slice_get keys n ≡ Some key
      → position_or_len (bytes_eq (string_bytes key)) (map string_bytes keys) ≡ n
  first_at [] n key differ is = cc
  first_at (x ∷ xs) zero key differ is = grind (arith, bytes_eq, string_bytes, bytes_eq-Decides)
  first_at (x ∷ xs) (suc n) key differ is =
      let other = apart_flipped (string_bytes x) (string_bytes key) (other_name x xs n key (IsDistinct-head string_eq x xs differ) is) in
      ap (λ b. cond (not b) (1 + position_or_len (bytes_eq (string_bytes key)) (map string_bytes xs)) 0) other
      ∙ ap (λ m. 1 + m) (first_at xs n key (IsDistinct-tail string_eq x xs differ) is)
      ∙ (omega arith)

  pub stands_at : (keys : List (String Z)) (names : List (List ℕ)) (name : List ℕ) (n : ℕ) (key : String Z) → map string_bytes keys ≡ names
      → IsDistinct string_eq keys
      → slice_get keys n ≡ Some key → bytes_eq (string_bytes key) name ≡ true → Some n ≡ position (bytes_eq name) names
  stands_at keys names name n key are differ is same =
      grind (arith, bytes_eq, slice_get, string_bytes, length-map, lt-ltb, slice_get_within, bytes_eq-Decides, first_at)
