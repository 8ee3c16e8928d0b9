-- Helper definitions of private functions: least means at end states, which a node's start states share. Nobody has to believe them.
use Rattle.std.specs.Prelude.{◌≡◌, ℕ, ◌<◌, ℤ, pos, ◌+ℤ◌, ◌*ℤ◌, Bool, true, false, None, slice_index_or}
use Rattle.polcert_check.specs.Horizon.{Controller, one}
use Rattle.polcert_check.specs.Steps.Factored.{IsLeastOf, Misses}
use Rattle.polcert_robust.specs.Intervals.{IntervalTable}
use Rattle.polcert_robust.specs.Steps.Pairs.{IsEndMean}
use Rattle.polcert_robust.specs.Steps.Rewards.{HasSameRewards}
use Rattle.polcert_robust.specs.declared.end_means.EndMean.{EndMean}
use Rattle.polcert_robust.specs.declared.end_means.EndMeans.{EndMeans}

-- whatever is observed, h is the least reward of n's action from s to e
abbrev pub IsSharedReward : IntervalTable → Controller → ℕ → ℕ → ℕ → ℤ → Type 0
IsSharedReward i c n s e h = (z : ℕ) → z < i.observations → i.r_low (c.action n) s e z ≡ h

-- what such a reward adds to the least mean at an end state
abbrev pub reward_part : IntervalTable → ℤ → ℤ
reward_part i h = pos i.o_scale *ℤ (pos one *ℤ h)

-- ---- means
-- The least mean at e, where n has a successor for each observation: with the rewards, which are the same from all states; or without, so that
-- from each state whose reward does not depend on the observation this reward is added to it.
pub record IsKeptMean (i : IntervalTable) (c : Controller) (n e : ℕ) (mean : ℤ) (have_rewards : Bool) : Type 0 where
  pub complete : IsLeastOf (Misses c n e c.cells.observations) None
  pub without : have_rewards ≡ false → (s : ℕ) (h : ℤ) → IsSharedReward i c n s e h → IsEndMean i c n s e (mean +ℤ reward_part i h)
  pub full : have_rewards ≡ true → (s : ℕ) → s < i.states → IsEndMean i c n s e mean

-- the least mean at e from s, as it is found or as it is kept
pub record IsReadyMean (i : IntervalTable) (c : Controller) (n s e : ℕ) (mean : ℤ) (is_kept have_rewards : Bool) : Type 0 where
  pub kept : is_kept ≡ true → IsKeptMean i c n e mean have_rewards
  pub shared : is_kept ≡ true → have_rewards ≡ false → (h : ℤ) × IsSharedReward i c n s e h
  pub found : is_kept ≡ false → IsEndMean i c n s e mean
  pub full : have_rewards ≡ true → IsEndMean i c n s e mean

-- the means that are kept are those of n
pub record AreKept (i : IntervalTable) (c : Controller) (n : ℕ) (ends : EndMeans) : Type 0 where
  pub same : ends.have_rewards ≡ true → HasSameRewards c.cells (c.action n)
  pub each : (e : ℕ) → e < i.states → slice_index_or ends.are_kept e false ≡ true → IsKeptMean i c n e (slice_index_or ends.means e (pos 0)) ends.have_rewards

-- the mean at e is ready
abbrev pub IsReadyAt : IntervalTable → Controller → ℕ → ℕ → ℕ → EndMeans → Type 0
IsReadyAt i c n s e ends = IsReadyMean i c n s e (slice_index_or ends.means e (pos 0)) (slice_index_or ends.are_kept e false) ends.have_rewards

-- the means at the first end states are ready, as far as n reaches them from s
abbrev pub AreReady : IntervalTable → Controller → ℕ → ℕ → ℕ → EndMeans → Type 0
AreReady i c n s count ends = (e : ℕ) → e < count → 0 < c.cells.t (c.action n) s e → IsReadyAt i c n s e ends

-- nothing but the mean at e and its mark is another
pub record IsChangedAt (e : ℕ) (old new : EndMeans) : Type 0 where
  pub rewards : new.have_rewards ≡ old.have_rewards
  pub means : (j : ℕ) → (j ≡ e → ⊥) → slice_index_or new.means j (pos 0) ≡ slice_index_or old.means j (pos 0)
  pub marks : (j : ℕ) → (j ≡ e → ⊥) → slice_index_or new.are_kept j false ≡ slice_index_or old.are_kept j false

-- the mean at e is this one
pub record IsNotedAt (e : ℕ) (end : EndMean) (old new : EndMeans) : Type 0 where
  pub others : IsChangedAt e old new
  pub mean : slice_index_or new.means e (pos 0) ≡ end.mean
  pub mark : slice_index_or new.are_kept e false ≡ end.is_kept
