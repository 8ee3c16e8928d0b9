-- The end states that are marked, one more at a time.
use Rattle.std.proofs.Common.{◌≡◌, ℕ, ◌+◌, ◌<◌, ◌≤◌, Bool, true, false, List, length, set, arith}
use Rattle.std.specs.Prelude.{slice_index_or}
use Rattle.polcert_check.proofs.Common.{get_or-set_at}
use Rattle.std.proofs.lemmas.List.{get_or-set_other}

module _ (marks : List Bool) (e : ℕ) (room : e < length marks) where
  pub still_marked : (i : ℕ) → slice_index_or marks i false ≡ true → slice_index_or (set marks e true) i false ≡ true
  still_marked i is = grind (arith, get_or-set_at, get_or-set_other)

  pub one_marked : (t : ℕ → ℕ) (from : ℕ) → ((k : ℕ) → from ≤ k → k < e → t k ≡ 0)
      → ((i : ℕ) → i < from → 0 < t i → slice_index_or marks i false ≡ true) → (i : ℕ) → i < e + 1 → 0 < t i
      → slice_index_or (set marks e true) i false ≡ true
  one_marked t from none before i il some = grind (arith, get_or-set_at, still_marked)
