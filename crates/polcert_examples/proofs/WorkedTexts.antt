-- What the worked texts have in common: items, numerals and their values.
use Rattle.std.proofs.Common.{◌≡◌, ℕ, ◌≤◌, ◌==◌, ◌∷◌, ◌++◌, length, drop, true, None, List, [], codes, refl, lit≤}
use Rattle.polcert_examples.proofs.Common.{list_any, Lexeme, Entry, Probabilities, ArePlaces, IsEntry, IsBody, dimensions}
use Rattle.polcert_examples.proofs.Common.{All-from_recursion, Item, ModelSoFar, name, numeral}
use Rattle.polcert_cells.specs.Words.{IsWord}
use Rattle.polcert_cells.specs.Entry as entries
use Rattle.polcert_cells.specs.Preamble.{Preamble, is_mdp, named as named_by}
use Rattle.polcert_cells.specs.Numbers as numbers
use Rattle.polcert_examples.proofs.Computed.{numerals}
use Rattle.polcert_format.specs.Text.{IsInPreamble}

abbrev pub an_item : List ℕ → List Lexeme → Item
an_item word body = record { word = name word; body = body }

pub a_word : (w : List ℕ) → IsWord w (name w)
a_word w = record { kind = refl; bytes = refl }

pub fresh : (k : ModelSoFar) → k.start ≡ None → k.entries ≡ [] → IsInPreamble k
fresh k s e = record { no_start = s; no_entry = e }

pub an_entry : (p : Preamble) (entry : Entry) (pattern rest : List Lexeme)
    → list_any (λ n. n == length entry.places) (entries.forms (is_mdp p) entry.table entry.body) ≡ true
    → ArePlaces (named_by p entry.table) pattern entry.places
    → IsBody (entries.cells_in (drop (length entry.places) (dimensions p entry.table))) rest entry.body
    → IsEntry p entry.table (pattern ++ rest) entry
an_entry p entry pattern rest form places body = record
    { pattern = pattern; rest = rest; whole = refl; table_is = refl; form = form; places = places; body = body }

-- the numbers 0.85, 0.15, 0.15 and 0.85
pub heard_right : IsBody 4 (numeral (codes "0.85") ∷ numeral (codes "0.15") ∷ numeral (codes "0.15") ∷ numeral (codes "0.85") ∷ [])
    (Probabilities (850_000 ∷ 150_000 ∷ 150_000 ∷ 850_000 ∷ []))
heard_right = entries.probabilities
    (numbers.unsigned (numerals.n_0_85 _) (numbers.unsigned (numerals.n_0_15 _)
    (numbers.unsigned (numerals.n_0_15 _) (numbers.unsigned (numerals.n_0_85 _) numbers.none))))
    refl
    (All-from_recursion (λ p. p ≤ 1_000_000) (850_000 ∷ 150_000 ∷ 150_000 ∷ 850_000 ∷ []) (lit≤ tt, (lit≤ tt, (lit≤ tt, (lit≤ tt, tt)))))
