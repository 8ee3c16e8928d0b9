-- Matching: the newest rule as a function of the rules.
use Rattle.std.specs.Prelude.{ℕ, zero, suc, ◌+◌, ◌*◌, ◌^◌, ◌==◌, ◌||◌, Bool, List, [], ◌∷◌, Option, Some, None, nat_le, if◌then◌else◌}
use Rattle.polcert_rules.specs.declared.index.Rule.{Rule}
use Rattle.polcert_rules.specs.Keys.{key_base}

-- the greater of two numbers, where there are any
abbrev pub max_option : Option ℕ → Option ℕ → Option ℕ
max_option None b = b
max_option (Some m) None = Some m
max_option (Some m) (Some n) = if nat_le m n then Some n else Some m

-- The key is that of some places, after those of the key `low`, that fit the first of these indices: it is `low` itself, where
-- there are none, or it continues with `*`, or with the first index, and the places after fit the indices after.
abbrev pub fits_key : ℕ → ℕ → List ℕ → ℕ → Bool
fits_key levels low [] key = key == low
fits_key zero low (i ∷ indices) key = key == low
fits_key (suc levels) low (i ∷ indices) key =
    key == low || (fits_key levels (low + key_base ^ levels) indices key || fits_key levels (low + (i + 2) * key_base ^ levels) indices key)

-- the greatest number of the rules whose keys pass the test
abbrev pub newest_by : (ℕ → Bool) → List Rule → Option ℕ
newest_by passes [] = None
newest_by passes (r ∷ rs) = if passes r.key then max_option (Some r.number) (newest_by passes rs) else newest_by passes rs

-- the greatest number of the rules whose keys, after `low`, fit these indices
abbrev pub newest_in : ℕ → ℕ → List Rule → List ℕ → Option ℕ
newest_in levels low rules indices = newest_by (fits_key levels low indices) rules
