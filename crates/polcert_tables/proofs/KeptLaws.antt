-- What a model keeps has the meaning of the items of its text.
use Rattle.std.proofs.Common.{◌≡◌, ◌∙◌, ℕ, zero, suc, ◌<◌, ◌≤◌, ◌==◌, false, cond, List, [], ◌∷◌, ℤ, pos, true, Option, sym, ap, subst}
use Rattle.std.proofs.Common.{arith, refl, ◌*◌, ◌/◌, ◌%◌, div-lt_iff_lt-mul, mod-lt}
use Rattle.polcert_tables.proofs.Common.{ForSome, Entry, Table, count_of, most_states, most_actions, most_observations, Preamble, is_mdp}
use Rattle.polcert_tables.proofs.Common.{observed, weight, reward, IsCommonReward, sum_below, AreRewardsOf, Kept, IsKeptOf, IsKeptModel}
use Rattle.polcert_tables.proofs.Common.{Transition, Draft}
use Rattle.polcert_cells.specs.Preamble.{rewarded, columns}
use Rattle.polcert_cells.specs.CommonRewards.{cell_at}
use Rattle.polcert_cells.specs.Meaning.{observation_weight, reward_index, IsSame}
use Rattle.polcert_tables.specs.Kept.{observed_at, kept_meaning}
use Rattle.polcert_tables.specs.Steps.KeptOf.{AreObservationsOf}
use Rattle.std.proofs.Math.Nat.{div-one, mod-one, mul-one}
use Rattle.std.proofs.lemmas.Bool.Decides.{nat_tests}
use Rattle.polcert_cells.specs.declared.common_reward.CommonReward.{CommonReward}
use Rattle.polcert_cells.specs.declared.common_reward.RewardCell.{RewardCell}
use Rattle.polcert_cells.specs.Sparse.{weight_at}
use Rattle.polcert_rules.proofs.RewardLaws.CellRewards.{some_factor}
use Rattle.polcert_rules.specs.RowTables.{RowTable, row_at, AreRowsOf}
use Rattle.polcert_rules.specs.RewardAt.{RewardRules}
use Rattle.polcert_cells.proofs.CellLaws.{sum_of_same}
use Rattle.polcert_cells.proofs.SoundLaws.{rewarded_few}
use Rattle.polcert_rules.proofs.RewardLaws.RewardAt.{reward_is}
use Rattle.polcert_cells.specs.Steps.Sound.{IsSound}
use Rattle.polcert_rules.specs.Steps.Shapes.{AreSound}
use Rattle.polcert_cells.specs.Steps.Drafts as drafts
use Rattle.polcert_cells.specs.CommonRewards.{HasBase, IsRewardRow}
use Rattle.polcert_cells.specs.declared.common_reward.RewardRow.{RewardRow}

same_cell : (p : Preamble) (entries : List Entry) (table : Table) (t : RowTable) → AreRowsOf p entries table t
    → (a s c : ℕ) → a < count_of p.actions → s < count_of p.states → c < columns p table
    → weight_at (row_at t a s) c ≡ weight p entries table (a ∷ s ∷ c ∷ [])
same_cell p entries table t h a s c i j k =
    (h.each a s (omega (arith, i, h.actions)) (omega (arith, j, h.states))).each c (omega (arith, k, h.width))

-- no more elements of a kind than there may be
abbrev pub AreFew : Preamble → Type 0
AreFew p = (count_of p.actions ≤ most_actions) × (count_of p.states ≤ most_states) × (count_of (observed p) ≤ most_observations)

-- the rows of O
observed_cell : (p : Preamble) (entries : List Entry) (rows : Option RowTable) → AreObservationsOf p entries rows
    → (a e z : ℕ) → a < count_of p.actions → e < count_of p.states → z < count_of (observed p)
    → observed_at p rows a e z ≡ observation_weight p entries a e z
observed_cell p entries rows h1 a e z h2 h3 h4 = grind (arith, same_cell)

-- what a reward depends on is one of so many
pub index_within : (p : Preamble) (z : ℕ) → z < count_of (observed p) → reward_index p z < count_of (rewarded p)
index_within p z = grind arith

pub kept_same : (d : drafts.Draft) (k : Kept) → AreFew k.preamble → IsKeptOf d k → IsSame (kept_meaning k) (drafts.draft_meaning d)
kept_same d k few h = record {
  preamble = h.preamble;
  start = grind arith;
  t = λ a s e i j l. grind (arith, same_cell);
  o = λ a e z i j l. grind (arith, observed_cell);
  r = λ a s e z i j l m. grind (arith, reward_is, rewarded_few, index_within);
}

-- where observations are named, a reward's last index is the observation
pub observed_index : (p : Preamble) (z : ℕ) → is_mdp p ≡ false → reward_index p z ≡ z
observed_index p z pomdp = ap (λ b. cond b 0 z) pomdp

-- a sum of which all parts but one are 0
pub sum_at : (f : ℕ → ℕ) (k n c : ℕ) → k < n → f k ≡ c → ((i : ℕ) → i < n → (i ≡ k → ⊥) → f i ≡ 0) → sum_below f n ≡ c
sum_at f k zero c l here others = absurd (omega (arith, l))
sum_at f k (suc n) c l here others = one_more f k n c (λ b. sum_at f k n c b here (λ i m. others i (omega (arith, m)))) l here others
  where
    one_more : (f : ℕ → ℕ) (k n c : ℕ) → (k < n → sum_below f n ≡ c) → k < suc n → f k ≡ c → ((i : ℕ) → i < suc n → (i ≡ k → ⊥) → f i ≡ 0)
        → sum_below f (suc n) ≡ c
    one_more f k n c before l here others = grind (arith, sum_of_same f 0 n)

-- a row whose whole weight stands in one column
pub sum_of_one : (n k e : ℕ) → e < n → sum_below (λ z. cond (e == z) k 0) n ≡ k
sum_of_one n k e l = grind (arith, nat_tests, sum_at (λ z. cond (e == z) k 0) e n k)

-- in an MDP as many elements are observed as there are states
pub states_seen : (p : Preamble) → is_mdp p ≡ true → count_of p.states ≡ count_of (observed p)
states_seen p = grind arith

-- otherwise rewards run over what is observed
same_count : (p : Preamble) → is_mdp p ≡ false → count_of (rewarded p) ≡ count_of (observed p)
same_count p = grind arith

-- in an MDP rewards run over nothing else
one_rewarded : (p : Preamble) → is_mdp p ≡ true → count_of (rewarded p) ≡ 1
one_rewarded p = grind arith

-- ---- of what a model keeps
few_in : (k : Kept) → IsKeptModel k → AreFew k.preamble
few_in k d = (d.actions.1, d.states.1, d.observations.1)

module _ (k : Kept) (d : IsKeptModel k) where
  -- what a reward depends on has its place in the rules
  pub model_index : (z : ℕ) → z < count_of (observed k.preamble) → reward_index k.preamble z < k.rewards.shape.observations
  model_index z l = subst (λ n. reward_index k.preamble z < n) d.r_counts.observations (index_within k.preamble z l)

  -- what all entries give a cell of R is what the rules give it
  pub model_reward : (a s e z : ℕ) (h : ℤ) → a < count_of k.preamble.actions → s < count_of k.preamble.states
      → e < count_of k.preamble.states → z < count_of (observed k.preamble)
      → ((p : Preamble) (entries : List Entry) → AreRewardsOf p entries k.rewards
      → h ≡ reward p entries (a ∷ s ∷ e ∷ reward_index k.preamble z ∷ [])) → h ≡ (kept_meaning k).r a s e z
  model_reward a s e z h i j l m is = grind (
    arith,
    (kept_same d.items k (few_in k d) d.said).r a s e z,
    is d.items.preamble d.items.entries
        d.said.rewards,
  )

  -- where observations are named, a reward runs over them
  rewards_seen : is_mdp k.preamble ≡ false → k.rewards.shape.observations ≡ count_of (observed k.preamble)
  rewards_seen pomdp = sym d.r_counts.observations ∙ same_count k.preamble pomdp

  pub model_reward_row : (a s e : ℕ) (found : Option RewardRow) (cells : List RewardCell) → a < count_of k.preamble.actions
      → s < count_of k.preamble.states → e < count_of k.preamble.states
      → is_mdp k.preamble ≡ false
      → ((p : Preamble) (entries : List Entry) → AreRewardsOf p entries k.rewards
      → ForSome found (λ row. IsRewardRow (λ z. reward p entries (a ∷ s ∷ e ∷ z ∷ [])) k.rewards.shape.observations row cells))
      → ForSome found (λ row. IsRewardRow ((kept_meaning k).r a s e) (count_of (observed k.preamble)) row cells)
  model_reward_row a s e found cells i j l pomdp given = λ row is.
      let c = given d.items.preamble d.items.entries d.said.rewards row is in
      let same = rewards_seen pomdp in
      let within : (n : ℕ) → n < row.exceptions → (cell_at cells n).observation < count_of (observed k.preamble) =
      λ n m. subst (λ size. (cell_at cells n).observation < size) same (c.rewards.within n m) in
      let there : (z : ℕ) → z < count_of (observed k.preamble)
      → (kept_meaning k).r a s e z ≡ reward d.items.preamble d.items.entries (a ∷ s ∷ e ∷ z ∷ []) = λ z m.
      (kept_same d.items k (few_in k d) d.said).r a s e z i j l m
      ∙ ap (λ (p : Preamble). reward d.items.preamble d.items.entries (a ∷ s ∷ e ∷ reward_index p z ∷ [])) (sym d.said.preamble)
      ∙ ap (λ y. reward d.items.preamble d.items.entries (a ∷ s ∷ e ∷ y ∷ [])) (observed_index k.preamble z pomdp) in
      record {
        size = subst (HasBase row.base) same c.size;
        rewards = record {
          room = c.rewards.room;
          distinct = c.rewards.distinct;
          within = within;
          each = λ n m. there (cell_at cells n).observation (within n m) ∙ c.rewards.each n m;
          others = λ z m unnamed. there z m ∙ c.rewards.others z (subst (λ size. z < size) (sym same) m) unnamed;
        };
      }

  -- the same of all end states
  pub model_row_reward : (a s : ℕ) (found : Option CommonReward) (cells : List RewardCell) → a < count_of k.preamble.actions
      → s < count_of k.preamble.states
      → is_mdp k.preamble ≡ false
      → ((p : Preamble) (entries : List Entry) → AreRewardsOf p entries k.rewards
      → ForSome found (λ common. IsCommonReward (λ n. reward p entries
      (a ∷ s ∷ n / k.rewards.shape.observations ∷ n % k.rewards.shape.observations ∷ []))
      (k.rewards.shape.states * k.rewards.shape.observations) common cells))
      → ForSome found (λ common. IsCommonReward (λ n. (kept_meaning k).r a s (n / count_of (observed k.preamble))
      (n % count_of (observed k.preamble)))
      (count_of k.preamble.states * count_of (observed k.preamble)) common cells)
  model_row_reward a s found cells i j pomdp given = λ common is.
      let given_here = given d.items.preamble d.items.entries d.said.rewards common is in
      let states : k.rewards.shape.states ≡ count_of k.preamble.states = sym d.r_counts.states in
      let c = subst (λ (z : ℕ). IsCommonReward (λ n. reward d.items.preamble d.items.entries (a ∷ s ∷ n / z ∷ n % z ∷ []))
      (count_of k.preamble.states * z) common cells) (rewards_seen pomdp)
      (subst (λ (e : ℕ). IsCommonReward (λ n. reward d.items.preamble d.items.entries
      (a ∷ s ∷ n / k.rewards.shape.observations ∷ n % k.rewards.shape.observations ∷ []))
      (e * k.rewards.shape.observations) common cells) states given_here) in
      let there : (n : ℕ) → n < count_of k.preamble.states * count_of (observed k.preamble)
      → (kept_meaning k).r a s (n / count_of (observed k.preamble)) (n % count_of (observed k.preamble))
      ≡ reward d.items.preamble d.items.entries (a ∷ s ∷ n / count_of (observed k.preamble) ∷ n % count_of (observed k.preamble) ∷ []) =
      λ n m.
      let some = some_factor n (count_of k.preamble.states) (count_of (observed k.preamble)) m in
      let e = n / count_of (observed k.preamble) in
      let z = n % count_of (observed k.preamble) in
      (kept_same d.items k (few_in k d) d.said).r a s e z i j ((div-lt_iff_lt-mul some).1 m) (mod-lt n some)
      ∙ ap (λ (p : Preamble). reward d.items.preamble d.items.entries (a ∷ s ∷ e ∷ reward_index p z ∷ [])) (sym d.said.preamble)
      ∙ ap (λ y. reward d.items.preamble d.items.entries (a ∷ s ∷ e ∷ y ∷ [])) (observed_index k.preamble z pomdp) in
      record {
        room = c.room;
        distinct = c.distinct;
        within = c.within;
        each = λ n m. there (cell_at cells n).observation (c.within n m) ∙ c.each n m;
        others = λ n m unnamed. there n m ∙ c.others n m unnamed;
      }

  -- the same in an MDP, of end states alone
  pub model_end_reward : (a s z : ℕ) (found : Option CommonReward) (cells : List RewardCell) → a < count_of k.preamble.actions
      → s < count_of k.preamble.states → z < count_of (observed k.preamble)
      → is_mdp k.preamble ≡ true
      → ((p : Preamble) (entries : List Entry) → AreRewardsOf p entries k.rewards
      → ForSome found (λ common. IsCommonReward (λ n. reward p entries
      (a ∷ s ∷ n / k.rewards.shape.observations ∷ n % k.rewards.shape.observations ∷ []))
      (k.rewards.shape.states * k.rewards.shape.observations) common cells))
      → ForSome found (λ common. IsCommonReward (λ e. (kept_meaning k).r a s e z) (count_of k.preamble.states) common cells)
  model_end_reward a s z found cells i j l mdp given = λ common is.
      let states : k.rewards.shape.states ≡ count_of k.preamble.states = sym d.r_counts.states in
      let one : k.rewards.shape.observations ≡ 1 = sym d.r_counts.observations ∙ one_rewarded k.preamble mdp in
      let c = subst (λ (n : ℕ). IsCommonReward (λ e. reward d.items.preamble d.items.entries (a ∷ s ∷ e / n ∷ e % n ∷ []))
      (count_of k.preamble.states * n) common cells) one
      (subst (λ (n : ℕ). IsCommonReward (λ e. reward d.items.preamble d.items.entries
      (a ∷ s ∷ e / k.rewards.shape.observations ∷ e % k.rewards.shape.observations ∷ []))
      (n * k.rewards.shape.observations) common cells) states (given d.items.preamble d.items.entries d.said.rewards common is)) in
      let there : (e : ℕ) → e < count_of k.preamble.states
      → (kept_meaning k).r a s e z ≡ reward d.items.preamble d.items.entries (a ∷ s ∷ e / 1 ∷ e % 1 ∷ []) = λ e m.
      (kept_same d.items k (few_in k d) d.said).r a s e z i j m l
      ∙ ap (λ (p : Preamble). reward d.items.preamble d.items.entries (a ∷ s ∷ e ∷ reward_index p z ∷ [])) (sym d.said.preamble)
      ∙ ap (λ b. reward d.items.preamble d.items.entries (a ∷ s ∷ e ∷ cond b 0 z ∷ [])) mdp
      ∙ rw (div-one e, mod-one e) refl in
      record {
        room = c.room;
        distinct = c.distinct;
        within = λ n m. rw (sym (mul-one (count_of k.preamble.states))) (c.within n m);
        each = λ n m. there (cell_at cells n).observation (rw (sym (mul-one (count_of k.preamble.states))) (c.within n m)) ∙ c.each n m;
        others = λ e m unnamed. there e m ∙ c.others e (rw (mul-one (count_of k.preamble.states)) m) unnamed;
      }

  pub model_same : (a s other : ℕ) → a < count_of k.preamble.actions → s < count_of k.preamble.states → other < count_of k.preamble.states
      → ((p : Preamble) (entries : List Entry) → AreRewardsOf p entries k.rewards → (e z : ℕ) → e < k.rewards.shape.states
      → z < k.rewards.shape.observations
      → reward p entries (a ∷ s ∷ e ∷ z ∷ []) ≡ reward p entries (a ∷ other ∷ e ∷ z ∷ []))
      → (e z : ℕ) → e < count_of k.preamble.states → z < count_of (observed k.preamble)
      → (kept_meaning k).r a s e z ≡ (kept_meaning k).r a other e z
  model_same a s other i j o same e z l m = grind (
    arith,
    kept_same d.items k (few_in k d) d.said,
    same d.items.preamble d.items.entries
        d.said.rewards,
    model_index z m,
  )

  pub model_ends : (a s e until : ℕ) → a < count_of k.preamble.actions → s < count_of k.preamble.states → e < count_of k.preamble.states
      → ((p : Preamble) (entries : List Entry) → AreRewardsOf p entries k.rewards → (f z : ℕ) → e ≤ f → f < until
      → f < k.rewards.shape.states → z < k.rewards.shape.observations
      → reward p entries (a ∷ s ∷ f ∷ z ∷ []) ≡ reward p entries (a ∷ s ∷ e ∷ z ∷ []))
      → (f z : ℕ) → e ≤ f → f < until → f < count_of k.preamble.states → z < count_of (observed k.preamble)
      → (kept_meaning k).r a s f z ≡ (kept_meaning k).r a s e z
  model_ends a s e until i j o same f z from to l m = grind (
    arith,
    kept_same d.items k (few_in k d) d.said,
    same d.items.preamble d.items.entries
        d.said.rewards,
    model_index z m,
  )

  pub model_unpaid : (a s : ℕ) → a < count_of k.preamble.actions → s < count_of k.preamble.states
      → ((p : Preamble) (entries : List Entry) → AreRewardsOf p entries k.rewards → (e z : ℕ)
      → reward p entries (a ∷ s ∷ e ∷ z ∷ []) ≡ pos 0)
      → (e z : ℕ) → e < count_of k.preamble.states → z < count_of (observed k.preamble) → (kept_meaning k).r a s e z ≡ pos 0
  model_unpaid a s i j none e z l m = grind (
    arith,
    (kept_same d.items k (few_in k d) d.said).r a s e z,
    none d.items.preamble
        d.items.entries d.said.rewards e (reward_index d.items.preamble z),
  )

-- ---- what a model is built of
pub are_sound : (d : Draft) → IsSound d → AreSound d.preamble d.entries
are_sound d s = record { states = s.states; actions = s.actions; observations = s.observations; each = s.entries }

module _ (d : Draft) (s : IsSound d) (t : RowTable) (o : Option RowTable) (r : RewardRules)
    (transitions : AreRowsOf d.preamble d.entries Transition t)
    (observations : AreObservationsOf d.preamble d.entries o) (rewards : AreRewardsOf d.preamble d.entries r) where
  abbrev kept : Kept
  kept = record { preamble = d.preamble; start = d.start; transitions = t; observations = o; rewards = r }

  pub is_kept : IsKeptOf d kept
  is_kept = record { preamble = refl; start = refl; transitions = transitions; observations = observations; rewards = rewards }

  pub is_kept_model : IsKeptModel kept
  is_kept_model = grind arith
