-- The check of points that name, for each action and observation, one point that covers the belief that follows.
use Rattle.std.specs.Prelude.{◌≡◌, ℕ, suc, ◌*◌, ◌<◌, ◌≤◌, ℤ, pos, ◌+ℤ◌, ◌*ℤ◌, ◌≤ℤ◌, ◌<ℤ◌, [], ◌∷◌, Option, Some, None}
use Rattle.polcert_cells.specs.Tables.{CellTable}
use Rattle.polcert_check.specs.Horizon.{one}
use Rattle.polcert_points.specs.Belief.{Belief, updated_belief}
use Rattle.polcert_points.specs.Points.{Points, Cover, Covers}

-- so often, and no more, can the point be taken out of the belief
pub record IsMostTimes (states : ℕ) (b point : Belief) (n : ℕ) : Type 0 where
  pub fits : (s : ℕ) → s < states → n * point s ≤ b s
  pub most : ((s : ℕ) → s < states → suc n * point s ≤ b s) → ⊥

-- the cover by the named point, if there is one: taken as often as it can be
abbrev pub IsCoverBy : CellTable → Points → Belief → Option ℕ → Cover → Type 0
IsCoverBy t points b None cover = cover ≡ []
IsCoverBy t points b (Some j) cover = (n : ℕ) × IsMostTimes t.states b (points.belief j) n × (cover ≡ (j, n) ∷ [])

-- for each point, action and observation the point that is named
abbrev pub Next : Type 0
Next = ℕ → ℕ → ℕ → Option ℕ

-- each named point is one of the points
abbrev pub IsKnown : CellTable → Points → Next → Type 0
IsKnown t points next = (i a z j : ℕ) → i < points.count → a < t.actions → z < t.observations → next i a z ≡ Some j → j < points.count

-- the covers that the file means
abbrev pub AreCoversBy : CellTable → Points → Next → Covers → Type 0
AreCoversBy t points next covers = (i a z : ℕ) → i < points.count → a < t.actions → z < t.observations → IsCoverBy t points (updated_belief t (points.belief i) a z) (next i a z) (covers i a z)

-- x is y / one, rounded up
abbrev pub IsRoundedUp : ℤ → ℤ → Type 0
IsRoundedUp y x = (y ≤ℤ (pos one *ℤ x)) × ((pos one *ℤ x) <ℤ (y +ℤ pos one))
