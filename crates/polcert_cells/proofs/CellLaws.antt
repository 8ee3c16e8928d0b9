-- A cell has the value of the last entry that covers it.
use Rattle.std.proofs.Common.{◌≡◌, ◌∙◌, ℕ, pos, zero, suc, ◌*◌, ◌<◌, Bool, true, false, cond, ◌&&◌, ⊎_elim, Option, Some, None, List, []}
use Rattle.std.proofs.Common.{◌∷◌, ◌++◌, reverse, mul-suc, refl, sym, ap, subst, arith}
use Rattle.std.proofs.lemmas.List.{reverse-append, append_assoc, append-nil}
use Rattle.polcert_cells.proofs.Common.{list_any, Table, Preamble, Place, Entry, covers, fit_places}
use Rattle.std.specs.List.{find}
use Rattle.polcert_cells.specs.declared.entries.Body.TheVariants.{Uniform}
use Rattle.polcert_cells.specs.Cells.{last_covering, weight, weight_of, reward, reward_of, value_or, IsLastCovering, last, none, fits_place}
use Rattle.polcert_cells.specs.Meaning.{sum_below}
use Rattle.polcert_cells.specs.declared.entries.Table.TheVariants.{Reward}
use Rattle.polcert_cells.specs.Laws.{OneMoreWeight, OneMoreReward}
use Rattle.polcert_cells.proofs.Basics.{true≢false, or_false, or_false_from, and_true, is_true_or_false}

-- with one more entry at the end
pub one_more_entry : (entries : List Entry) (entry : Entry) (table : Table) (indices : List ℕ)
    → last_covering (entries ++ entry ∷ []) table indices
    ≡ cond (covers table indices entry) (Some entry) (last_covering entries table indices)
one_more_entry entries entry table indices = ap (find (covers table indices)) (reverse-append entries (entry ∷ []))

pub covered_now : (entries : List Entry) (entry : Entry) (table : Table) (indices : List ℕ) → covers table indices entry ≡ true
    → last_covering (entries ++ entry ∷ []) table indices ≡ Some entry
covered_now entries entry table indices e = grind (arith, one_more_entry)

pub not_covered_now : (entries : List Entry) (entry : Entry) (table : Table) (indices : List ℕ) → covers table indices entry ≡ false
    → last_covering (entries ++ entry ∷ []) table indices ≡ last_covering entries table indices
not_covered_now entries entry table indices e = grind (arith, one_more_entry)

-- entries that don't cover the cell are passed over, from the end backwards
passed_over : (p : Entry → Bool) (xs ys : List Entry) → list_any p xs ≡ false → find p (reverse xs ++ ys) ≡ find p ys
passed_over p [] ys e = refl
passed_over p (x ∷ xs) ys e =
    let both = or_false (p x) (list_any p xs) e in
    let turned : reverse (x ∷ xs) ++ ys ≡ reverse xs ++ x ∷ ys = ap (λ (l : List Entry). l ++ ys) (reverse-append (x ∷ []) xs)
    ∙ append_assoc (reverse xs) (x ∷ []) ys in
    ap (find p) turned ∙ passed_over p xs (x ∷ ys) both.1 ∙ ap (λ b. cond b (Some x) (find p ys)) both.0

last_is_found : (p : Entry → Bool) (before : List Entry) (entry : Entry) (after : List Entry) → p entry ≡ true → list_any p after ≡ false
    → find p (reverse (before ++ entry ∷ after)) ≡ Some entry
last_is_found p before entry after here following =
    let turned : reverse (before ++ entry ∷ after) ≡ reverse after ++ entry ∷ reverse before =
    reverse-append before (entry ∷ after) ∙ ap (λ (l : List Entry). l ++ reverse before) (reverse-append (entry ∷ []) after)
    ∙ append_assoc (reverse after) (entry ∷ []) (reverse before) in
    ap (find p) turned ∙ passed_over p after (entry ∷ reverse before) following
    ∙ ap (λ b. cond b (Some entry) (find p (reverse before))) here

none_is_found : (p : Entry → Bool) (entries : List Entry) → list_any p entries ≡ false → find p (reverse entries) ≡ None
none_is_found p entries e = ap (find p) (sym (append-nil (reverse entries))) ∙ passed_over p entries [] e

pub last_is_one : (entries : List Entry) (table : Table) (indices : List ℕ) (found : Option Entry)
    → IsLastCovering entries table indices found → found ≡ last_covering entries table indices
last_is_one entries table indices found h1 = grind (arith, last_is_found, none_is_found)

one_before : (entry : Entry) (entries : List Entry) (table : Table) (indices : List ℕ) (found : Option Entry)
    → IsLastCovering entries table indices found
    → (o : Option Entry) × IsLastCovering (entry ∷ entries) table indices o
one_before entry entries table indices (Some f) (last before e after whole here following) =
    (Some e, last (entry ∷ before) e after (ap (λ (l : List Entry). entry ∷ l) whole) here following)
one_before entry entries table indices None (none clear) = ⊎_elim
    (λ here. (Some entry, last [] entry entries refl here clear))
    (λ not_here. (None, none (or_false_from (covers table indices entry) _ not_here clear)))
    (is_true_or_false (covers table indices entry))

some_last : (entries : List Entry) (table : Table) (indices : List ℕ) → (o : Option Entry) × IsLastCovering entries table indices o
some_last [] table indices = (None, none refl)
some_last (x ∷ xs) table indices = let following = some_last xs table indices in one_before x xs table indices following.0 following.1

pub last_is : (entries : List Entry) (table : Table) (indices : List ℕ)
    → IsLastCovering entries table indices (last_covering entries table indices)
last_is entries table indices =
    let found = some_last entries table indices in
    subst (IsLastCovering entries table indices) (last_is_one entries table indices found.0 found.1) found.1

-- places that fit the first indices fit them however they continue
fit_further : (ps : List Place) (row more : List ℕ) → fit_places ps row ≡ true → fit_places ps (row ++ more) ≡ true
fit_further [] row more e = refl
fit_further (p ∷ ps) [] more e = absurd (true≢false e refl)
fit_further (p ∷ ps) (i ∷ row) more e =
    let both = and_true (fits_place p i) (fit_places ps row) e in
    ap (λ b. b && fit_places ps (row ++ more)) both.0 ∙ (fit_further ps row more both.1)

pub covers_row : (table : Table) (row more : List ℕ) (entry : Entry) → covers table row entry ≡ true
    → covers table (row ++ more) entry ≡ true
covers_row table row more entry e = grind (arith, and_true, fit_further)

pub sum_of_same : (f : ℕ → ℕ) (k n : ℕ) → ((i : ℕ) → i < n → f i ≡ k) → sum_below f n ≡ k * n
sum_of_same f k zero h = let e : 0 ≡ k * 0 = omega arith in e
sum_of_same f k (suc n) h =
    let before : sum_below f n ≡ k * n = sum_of_same f k n (λ i l. h i (omega arith)) in
    grind (arith, mul-suc)

uniform_weight : (p : Preamble) (indices : List ℕ) (entry : Entry) → entry.body ≡ Uniform → weight_of p indices entry ≡ 1_000_000
uniform_weight p indices entry e = grind arith

-- a row whose cells all have their values from `uniform` sums to its scale
pub uniform_row : (p : Preamble) (entries : List Entry) (table : Table) (row : List ℕ) (entry : Entry) (n : ℕ) → entry.body ≡ Uniform
    → ((c : ℕ) → c < n → last_covering entries table (row ++ c ∷ []) ≡ Some entry)
    → sum_below (λ c. weight p entries table (row ++ c ∷ [])) n ≡ 1_000_000 * n
uniform_row p entries table row entry n u h = grind (arith, sum_of_same, uniform_weight)

pub uncovered_weight : (p : Preamble) (entries : List Entry) (table : Table) (indices : List ℕ)
    → list_any (covers table indices) entries ≡ false → weight p entries table indices ≡ 0
uncovered_weight p entries table indices e = ap (value_or 0 (weight_of p indices)) (none_is_found (covers table indices) entries e)

pub uncovered_reward : (p : Preamble) (entries : List Entry) (indices : List ℕ) → list_any (covers Reward indices) entries ≡ false
    → reward p entries indices ≡ pos 0
uncovered_reward p entries indices e = ap (value_or (pos 0) (reward_of p indices)) (none_is_found (covers Reward indices) entries e)

pub one_more_weight : (p : Preamble) (entries : List Entry) (entry : Entry) (table : Table) (indices : List ℕ)
    → OneMoreWeight p entries entry table indices
one_more_weight p entries entry table indices = grind (arith, covered_now, not_covered_now)

pub one_more_reward : (p : Preamble) (entries : List Entry) (entry : Entry) (indices : List ℕ) → OneMoreReward p entries entry indices
one_more_reward p entries entry indices = grind (arith, covered_now, not_covered_now)
