-- Helper definitions of private functions: rows as lists, and the rows by which a least mean is found. Nobody has to believe them.
use Rattle.std.specs.Prelude.{◌≡◌, ℕ, ◌-◌, ◌<◌, ◌≤◌, ℤ, pos, ◌+ℤ◌, ◌*ℤ◌, ◌≤ℤ◌, ◌<ℤ◌, int_le, ◌⊎◌, List, slice_index, slice_index_or, if◌then◌else◌}
use Rattle.polcert_cells.specs.Meaning.{sum_below}
use Rattle.polcert_robust.specs.Intervals.{low_of, high_of}
use Rattle.polcert_robust.specs.declared.distance.Spread.{Spread}
use Rattle.polcert_robust.specs.Worst.{mean}

abbrev pub listed_weight : List ℕ → ℕ → ℕ
listed_weight row i = slice_index row i

abbrev pub listed_value : List ℤ → ℕ → ℤ
listed_value values i = slice_index_or values i (pos 0)

-- the high end of a weight's interval if its value is at most the level, else the low end
abbrev pub end_until : Spread → ℤ → ℕ → ℤ → ℕ
end_until by level w v = if int_le v level then high_of by w else low_of by w

-- the row of these ends
abbrev pub ends_until : Spread → ℤ → (ℕ → ℕ) → (ℕ → ℤ) → ℕ → ℕ
ends_until by level f x i = end_until by level (f i) (x i)

-- Between two levels there is no value, and the scale lies between the sums of their rows: a worst row has what is left at the values
-- of the higher level.
pub record AreLevels (by : Spread) (scale count : ℕ) (f : ℕ → ℕ) (x : ℕ → ℤ) (low high : ℤ) : Type 0 where
  pub order : low <ℤ high
  pub from : sum_below (ends_until by low f x) count ≤ scale
  pub to : scale ≤ sum_below (ends_until by high f x) count
  pub between : (i : ℕ) → i < count → (x i ≤ℤ low) ⊎ (high ≤ℤ x i)

-- the mean of that row
abbrev pub level_mean : Spread → ℕ → ℕ → (ℕ → ℕ) → (ℕ → ℤ) → ℤ → ℤ → ℤ
level_mean by scale count f x low high = mean (ends_until by low f x) x count +ℤ pos (scale - sum_below (ends_until by low f x) count) *ℤ high

-- the value is the mean at some levels
pub record IsLevelMean (by : Spread) (scale count : ℕ) (f : ℕ → ℕ) (x : ℕ → ℤ) (value : ℤ) : Type 0 where
  pub low : ℤ
  pub high : ℤ
  pub levels : AreLevels by scale count f x low high
  pub is : value ≡ level_mean by scale count f x low high
