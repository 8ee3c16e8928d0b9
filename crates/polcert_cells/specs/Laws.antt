-- Laws of cells.
use Rattle.std.specs.Prelude.{◌≡◌, ℕ, ◌*◌, true, false, List, [], ◌∷◌, ◌++◌, Option}
use Rattle.polcert_cells.specs.declared.entries.Table.{Table}
use Rattle.polcert_cells.specs.declared.entries.Table.TheVariants.{Reward}
use Rattle.polcert_cells.specs.Preamble.{Preamble}
use Rattle.polcert_cells.specs.declared.entries.Body.TheVariants.{Uniform}
use Rattle.polcert_cells.specs.declared.entries.Entry.{Entry}
use Rattle.polcert_cells.specs.Cells.{covers, last_covering, weight, weight_of, reward, reward_of, IsLastCovering}
use Rattle.polcert_cells.specs.Meaning.{sum_below}

-- Of the entries one is the last that covers a cell, or none covers it, and `last_covering` gives just that.
abbrev pub GivesLastCovering : List Entry → Table → List ℕ → Type 0
GivesLastCovering entries table indices =
    IsLastCovering entries table indices (last_covering entries table indices)
    × ((found : Option Entry) → IsLastCovering entries table indices found → found ≡ last_covering entries table indices)

-- One more entry at the end gives its value to the cells that it covers, and the others keep theirs.
abbrev pub OneMoreWeight : Preamble → List Entry → Entry → Table → List ℕ → Type 0
OneMoreWeight p entries entry table indices =
    (covers table indices entry ≡ true → weight p (entries ++ entry ∷ []) table indices ≡ weight_of p indices entry)
    × (covers table indices entry ≡ false → weight p (entries ++ entry ∷ []) table indices ≡ weight p entries table indices)

abbrev pub OneMoreReward : Preamble → List Entry → Entry → List ℕ → Type 0
OneMoreReward p entries entry indices =
    (covers Reward indices entry ≡ true → reward p (entries ++ entry ∷ []) indices ≡ reward_of p indices entry)
    × (covers Reward indices entry ≡ false → reward p (entries ++ entry ∷ []) indices ≡ reward p entries indices)

-- A row of n columns that is covered last by one `uniform` sums to 1,000,000 times n, for every n.
abbrev pub UniformRowSums : Preamble → List Entry → Entry → Table → List ℕ → Type 0
UniformRowSums p entries entry table row =
    entry.body ≡ Uniform → covers table row entry ≡ true
    → (n : ℕ) → sum_below (λ c. weight p (entries ++ entry ∷ []) table (row ++ c ∷ [])) n ≡ 1_000_000 * n
