-- How many cells an entry covers with a weight above 0, and what entries give of a large table, counted entry by entry.
use Rattle.std.proofs.Common.{◌≡◌, ◌∙◌, ℕ, zero, suc, ◌+◌, ◌*◌, ◌<◌, ◌≤◌, ◌==◌, ◌⊎◌, ⊎_elim, Bool, true, false, cond, ◌&&◌}
use Rattle.std.proofs.Common.{nat_lt, count_by, Some, List, [], ◌∷◌, length, drop, get_or, refl, sym, ap, subst, arith, Option, None, ◌++◌}
use Rattle.std.proofs.Common.{slice_get, Fits, w64}
use Rattle.polcert_items.proofs.Common.{list_any, nat_tests, sum_by-cons, Elements, Body, Entry, Place, Every, Only, Table, Transition}
use Rattle.polcert_items.proofs.Common.{Observation, Reward, count_of, most_states, most_actions, most_observations, cells_in, Preamble}
use Rattle.polcert_items.proofs.Common.{is_mdp, dimensions, nonzero_cells, most_covered, IsCoveringOf, common_steps}
use Rattle.std.proofs.lemmas.List.Sums.{sum_by_push}
use Rattle.polcert_cells.specs.Entry.{forms}
use Rattle.polcert_cells.specs.Preamble.{observed, columns, rewarded}
use Rattle.polcert_items.specs.Steps.CellBudget.{place_count, covered_by, open_row_cells, budget_after, CanComeNext}
use Rattle.std.proofs.Math.Nat.{mul_comm, mul_assoc, add-mul, one-mul, mul-one, mul-pos, mul-le-mul}
use Rattle.polcert_cells.specs.declared.entries.Body.TheVariants.{Probabilities, Rewards, Uniform, Identity}
use Rattle.polcert_cells.specs.Cells.{is_table, fit_places, row_major, weight_in, weight_of}
use Rattle.polcert_cells.specs.Meaning.{sum_below}
use Rattle.polcert_cells.specs.Steps.Sound.{ArePlacesIn, Fills, IsSoundEntry}
use Rattle.polcert_cells.proofs.CellLaws.{sum_of_same}
use Rattle.polcert_tables.proofs.FilledLaws.{sum_same}
use Rattle.polcert_tables.proofs.KeptLaws.{sum_at}
use Rattle.polcert_format.specs.Limits.{count_cells, gives_weight, HasFewCells, covered, most_cells, most_reward_entries}
use Rattle.polcert_items.specs.declared.model_so_far.CellBudget.{CellBudget}
use Rattle.polcert_items.specs.declared.model_so_far.Sizes.{Sizes}

-- ---- sums

module _ (f : ℕ → ℕ) where
  sum_append : (m n : ℕ) → sum_below f (m + n) ≡ sum_below f m + sum_below (λ k. f (m + k)) n
  sum_append m zero = let e : m + 0 ≡ m = omega arith in let same = ap (sum_below f) e in
      omega arith
  sum_append m (suc n) =
      let e : m + suc n ≡ suc (m + n) = omega arith in
      let before = sum_append m n in
      omega (arith, ap (sum_below f) e, before)

  -- rows one after another
  sum_rows : (c n : ℕ) → sum_below (λ i. sum_below (λ k. f (i * c + k)) c) n ≡ sum_below f (n * c)
  sum_rows c zero = grind arith
  sum_rows c (suc n) = grind (arith, add-mul 1 n c, one-mul c, sum_append (n * c) c, sum_rows c n)

  sum_front : (n : ℕ) → sum_below f (suc n) ≡ f 0 + sum_below (λ k. f (suc k)) n
  sum_front zero = omega arith
  sum_front (suc n) = grind (arith, sum_front n)

-- ---- cells

all_cells : (ds : List Elements) → count_cells ds (λ is. true) ≡ cells_in ds
all_cells [] = refl
all_cells (d ∷ ds) = sum_of_same _ _ _ (λ i l. all_cells ds) ∙ mul_comm _ _

no_cells : (ds : List Elements) → count_cells ds (λ is. false) ≡ 0
no_cells [] = refl
no_cells (d ∷ ds) = sum_of_same _ 0 _ (λ i l. no_cells ds) ∙ omega arith

-- by the numbers of cells that are covered_at row after row
by_number : (ds : List Elements) (is_so : ℕ → Bool)
    → count_cells ds (λ is. is_so (row_major ds is)) ≡ sum_below (λ k. cond (is_so k) 1 0) (cells_in ds)
by_number [] is_so = omega arith
by_number (d ∷ ds) is_so =
    sum_same _ _ _
    (λ i l. by_number ds _)
    ∙ sum_rows _ _ _

still_above : (x n : ℕ) → 0 < n → nat_lt 0 (x * n) ≡ nat_lt 0 x
still_above = grind arith

-- numbers above 0 of a list
numbers_above : (ps : List ℕ) (n : ℕ) → 0 < n → sum_below (λ k. cond (nat_lt 0 (get_or ps k 0 * n)) 1 0) (length ps)
    ≡ count_by (nat_lt 0) ps
numbers_above [] n l = refl
numbers_above (p ∷ ps) n l = grind (
  arith,
  sum_front (λ k. cond (nat_lt 0 (get_or (p ∷ ps) k 0 * n)) 1 0) (length ps),
  still_above p n l,
  numbers_above ps n l,
  sum_by-cons (λ x. cond (nat_lt 0 x) 1 0) p ps,
)

same_number : (i : ℕ) → (i == i) ≡ true
same_number i = grind arith

other_number : (i k : ℕ) → (i ≡ k → ⊥) → (k == i) ≡ false
other_number i k d = grind arith

-- ---- places

abbrev every_chosen : List Elements → List Place → ℕ
every_chosen ds [] = 1
every_chosen [] (p ∷ ps) = 1
every_chosen (d ∷ ds) (p ∷ ps) = place_count (Some p) (count_of d) * every_chosen ds ps

swap : (c r n : ℕ) → c * r * n ≡ n * c * r
swap c r n = mul_comm (c * r) n ∙ sym (mul_assoc n c r)

by_places : (ds : List Elements) (places : List Place) (is_so : List ℕ → Bool) → ArePlacesIn ds places
    → count_cells ds (λ is. fit_places places is && is_so (drop (length places) is)) ≡ every_chosen ds places
    * count_cells (drop (length places) ds) is_so
by_places ds [] is_so a = sym (one-mul _)
by_places [] (p ∷ ps) is_so a = absurd a
by_places (d ∷ ds) (Every ∷ ps) is_so a = grind (arith, sum_of_same, swap, by_places ds ps is_so a.1)
by_places (d ∷ ds) (Only n ∷ ps) is_so a =
    sum_at _ n _ _ a.0
    (ap (λ b. count_cells ds (inside b)) (same_number n) ∙ by_places ds ps is_so a.1)
    (λ i l other. ap (λ b. count_cells ds (inside b)) (other_number i n other) ∙ no_cells ds)
    ∙ ap (λ c. c * count_cells (drop (length ps) ds) is_so) (sym (one-mul _))
  where
    inside : Bool → List ℕ → Bool
    inside b is = (b && fit_places ps is) && is_so (drop (length ps) is)

-- ---- one entry

-- a cell that is read by the indices left open
abbrev is_above : ℕ → Body → List Elements → List ℕ → Bool
is_above n body ds is = nat_lt 0 (weight_in n body ds is)

-- the cells that the body fills
by_body : (n : ℕ) (body : Body) (ds : List Elements) (cells : ℕ) → 0 < n → (body ≡ Identity → ⊥) → cells ≡ cells_in ds
    → Fills (cells_in ds) body
    → (states : ℕ) → count_cells ds (is_above n body ds) ≡ nonzero_cells body states cells
by_body n (Probabilities ps) ds cells l other e fills states =
    by_number ds _ ∙ ap (sum_below _) (sym fills.0)
    ∙ numbers_above ps n l
by_body n (Rewards hs) ds cells l other e fills states = no_cells ds
by_body n Uniform ds cells l other e fills states = all_cells ds ∙ sym e
by_body n Identity ds cells l other e fills states = absurd (other refl)

module _ (mdp : Bool) where
  not_observed : (body : Body) → list_any (λ n. n == 1) (forms mdp Observation body) ≡ true → body ≡ Identity → ⊥
  not_observed = grind arith

  pub nothing_written : (table : Table) (body : Body) → list_any (λ n. n == 0) (forms mdp table body) ≡ true → ⊥
  nothing_written = grind arith

-- the three indices of a table of rows
module _ (a s c : Elements) (n : ℕ) (above : 0 < n) (body : Body) where
  abbrev ds : List Elements
  ds = a ∷ s ∷ c ∷ []

  abbrev covered_at : List Place → ℕ
  covered_at places = covered_by (count_of a) (count_of s) (count_of c) places body

  abbrev count : List Place → ℕ
  count places = count_cells ds (λ is. fit_places places is && is_above n body (drop (length places) ds) (drop (length places) is))

  one_place : (p : Place) → ArePlacesIn ds (p ∷ []) → count_cells (s ∷ c ∷ []) (is_above n body (s ∷ c ∷ []))
      ≡ nonzero_cells body (count_of s) (count_of s * count_of c) → count (p ∷ []) ≡ covered_at (p ∷ [])
  one_place p i e = grind (arith, by_places ds (p ∷ []) (is_above n body (s ∷ c ∷ [])), mul-one)

  two_places : (p q : Place) → ArePlacesIn ds (p ∷ q ∷ [])
      → count_cells (c ∷ []) (is_above n body (c ∷ [])) ≡ nonzero_cells body (count_of s) (count_of c)
      → count (p ∷ q ∷ []) ≡ covered_at (p ∷ q ∷ [])
  two_places p q i e = grind (arith, by_places ds (p ∷ q ∷ []) (is_above n body (c ∷ [])), mul_assoc)

  three_places : (p q r : Place) → ArePlacesIn ds (p ∷ q ∷ r ∷ []) → count_cells [] (is_above n body []) ≡ nonzero_cells body (count_of s) 1
      → count (p ∷ q ∷ r ∷ []) ≡ covered_at (p ∷ q ∷ r ∷ [])
  three_places p q r i e = grind (arith, by_places ds (p ∷ q ∷ r ∷ []) (is_above n body []), mul_assoc)

-- the cells of a table of rows that an entry covers with a weight above 0
in_rows : (mdp : Bool) (table : Table) (a s c : Elements) (n : ℕ) (places : List Place) (body : Body) → 0 < n → (table ≡ Transition → c ≡ s)
    → (table ≡ Reward → ⊥)
    → list_any (λ m. m == length places) (forms mdp table body) ≡ true → ArePlacesIn (a ∷ s ∷ c ∷ []) places
    → Fills (cells_in (drop (length places) (a ∷ s ∷ c ∷ []))) body
    → count_cells (a ∷ s ∷ c ∷ []) (λ is. fit_places places is && nat_lt 0
    (weight_in n body (drop (length places) (a ∷ s ∷ c ∷ [])) (drop (length places) is)))
    ≡ covered_by (count_of a) (count_of s) (count_of c) places body
in_rows mdp table a s c n [] body l square other form i fills = absurd (nothing_written mdp table body form)
in_rows mdp table a s c n (p ∷ []) body l square other form i fills = one_place a s c n l body p i (⊎_elim diagonal filled (grind arith))
  where
    filled : (body ≡ Identity → ⊥) → count_cells (s ∷ c ∷ []) (is_above n body (s ∷ c ∷ []))
        ≡ nonzero_cells body (count_of s) (count_of s * count_of c)
    filled not_identity = by_body n body (s ∷ c ∷ []) (count_of s * count_of c) l not_identity
        (ap (λ z. (count_of s) * z) (sym (mul-one (count_of c)))) fills
        (count_of s)

    of_transitions : (t : Table) → table ≡ t → body ≡ Identity → c ≡ s
    of_transitions t h1 h2 = grind (arith, not_observed)

    diagonal : body ≡ Identity → count_cells (s ∷ c ∷ []) (is_above n body (s ∷ c ∷ []))
        ≡ nonzero_cells body (count_of s) (count_of s * count_of c)
    diagonal is =
        (λ j. count_cells (s ∷ of_transitions table refl is j ∷ []) (is_above n (is j) (s ∷ of_transitions table refl is j ∷ [])))
        ∙ sum_of_same _ 1 (count_of s) (λ i m. sum_at _ i (count_of s) 1 m (grind (arith, nat_tests, mul-pos))
        (λ j k other. grind (arith, nat_tests))) ∙ one-mul (count_of s)
        ∙ sym (ap (λ b. nonzero_cells b (count_of s) (count_of s * count_of c)) is)
in_rows mdp table a s c n (p ∷ q ∷ []) body l square other form i fills =
    two_places a s c n l body p q i (by_body n body (c ∷ []) (count_of c) l (grind arith)
    (sym (mul-one (count_of c))) fills (count_of s))
in_rows mdp table a s c n (p ∷ q ∷ r ∷ []) body l square other form i fills =
    three_places a s c n l body p q r i (by_body n body [] 1 l (grind arith) refl fills (count_of s))
in_rows mdp table a s c n (p ∷ q ∷ r ∷ x ∷ ps) body l square other form i fills = absurd i.1.1.1

module _ (p : Preamble) (e : Entry) where
  pub covered_transitions : e.table ≡ Transition → IsSoundEntry p e → 1 ≤ count_of p.states
      → count_cells (dimensions p Transition) (gives_weight p Transition e)
      ≡ covered_by (count_of p.actions) (count_of p.states) (count_of p.states) e.places e.body
  covered_transitions is sound some =
      (λ i. count_cells (dimensions p Transition) (λ indices. (is_table (is i) Transition && fit_places e.places indices) && nat_lt 0
      (weight_in (columns p (is i)) e.body (drop (length e.places) (dimensions p (is i))) (drop (length e.places) indices))))
      ∙ in_rows (is_mdp p) Transition _ p.states p.states _ e.places e.body some (λ same. refl) (λ same. cc)
      (rw (← is) sound.form)
      (subst (λ t. ArePlacesIn (dimensions p t) e.places) is sound.places)
      (subst (λ t. Fills (cells_in (drop (length e.places) (dimensions p t))) e.body) is sound.body)

  pub covered_observations : e.table ≡ Observation → IsSoundEntry p e → 1 ≤ count_of (observed p)
      → count_cells (dimensions p Observation) (gives_weight p Observation e)
      ≡ covered_by (count_of p.actions) (count_of p.states) (count_of (observed p)) e.places e.body
  covered_observations is sound some =
      (λ i. count_cells (dimensions p Observation) (λ indices. (is_table (is i) Observation && fit_places e.places indices) && nat_lt 0
      (weight_in (columns p (is i)) e.body (drop (length e.places) (dimensions p (is i))) (drop (length e.places) indices))))
      ∙ in_rows (is_mdp p) Observation _ p.states _ _ e.places e.body some (λ same. cc) (λ same. cc)
      (rw (← is) sound.form)
      (subst (λ t. ArePlacesIn (dimensions p t) e.places) is sound.places)
      (subst (λ t. Fills (cells_in (drop (length e.places) (dimensions p t))) e.body) is sound.body)

-- an entry of another table covers none of these cells
pub not_covered : (p : Preamble) (table : Table) (e : Entry) → is_table e.table table ≡ false
    → count_cells (dimensions p table) (gives_weight p table e) ≡ 0
not_covered p table e other = ap (λ b. count_cells (dimensions p table)
    (λ indices. (b && fit_places e.places indices) && nat_lt 0 (weight_of p indices e))) other ∙ no_cells _

-- ---- what entries give of a large table, counted entry by entry
chosen_few : (place : Option Place) (count most : ℕ) → 1 ≤ most → count ≤ most → place_count place count ≤ most
chosen_few = grind arith

-- the cells that an entry covers fit a word
pub covered_few : (actions states columns : ℕ) (places : List Place) (body : Body) → actions ≤ most_actions → states ≤ most_states
    → columns ≤ most_observations
    → nonzero_cells body states (open_row_cells states columns (length places)) ≤ states * columns
    → covered_by actions states columns places body ≤ most_covered
covered_few actions states columns places body la ls lc few =
    let pairs = mul-le-mul ls lc in
    let rows = mul-le-mul (chosen_few (slice_get places 0) actions _ (omega arith) la)
    (chosen_few (slice_get places 1) states _ (omega arith) ls) in
    let cells = mul-le-mul rows (chosen_few (slice_get places 2) columns _ (omega arith) lc) in
    grind (arith, mul-le-mul)

pub covered_fits : (n : ℕ) → n ≤ most_covered → Fits w64 n
covered_fits n few = record { fits = omega arith }

pub more_fits : (count n : ℕ) → count ≤ most_cells → n ≤ most_covered → Fits w64 (count + n)
more_fits count n l few = record { fits = omega arith }

pub rewards_fit : (actions states rewarded : ℕ) → actions ≤ most_actions → states ≤ most_states → rewarded ≤ most_observations
    → Fits w64 (actions * states * states * rewarded)
rewards_fit actions states rewarded la ls lr =
    let rows = mul-le-mul (mul-le-mul la ls) ls in
    grind (arith, mul-le-mul)

-- ---- what an entry covers, within its table

pub observations_few : (p : Preamble) (es : List Entry) (c : CellBudget) (s : Sizes) (e : Entry) → CanComeNext p es c s e
    → e.table ≡ Observation
    → nonzero_cells e.body s.states (open_row_cells s.states s.observed (length e.places)) ≤ s.states * s.observed
observations_few = grind (arith, common_steps)

-- ---- one entry more

covered_push : (p : Preamble) (table : Table) (es : List Entry) (e : Entry)
    → covered p table (es ++ e ∷ []) ≡ covered p table es + count_cells (dimensions p table) (gives_weight p table e)
covered_push p table es e = sum_by_push _ es e

abbrev pub paid : List Entry → ℕ
paid es = count_by (λ (x : Entry). is_table x.table Reward) es

paid_push : (es : List Entry) (e : Entry) → paid (es ++ e ∷ []) ≡ paid es + cond (is_table e.table Reward) 1 0
paid_push es e = sum_by_push _ es e

unlike : (p : Preamble) (table : Table) (es : List Entry) (e : Entry) → is_table e.table table ≡ false
    → covered p table (es ++ e ∷ []) ≡ covered p table es
unlike p table es e other = let more = covered_push p table es e in omega (arith, more, not_covered p table e other)

module _ (es : List Entry) (e : Entry) where
  not_paid : is_table e.table Reward ≡ false → paid (es ++ e ∷ []) ≡ paid es
  not_paid other = let more = paid_push es e in omega (arith, more, ap (λ b. cond {A = ℕ} b 1 0) other)

  no_push : es ++ e ∷ [] ≡ [] → ⊥
  no_push = grind (arith, common_steps)

-- by the tests: whether the table is large, and whether there are too many
outcome : (P : Option ℕ → Type 0) (cells most count more : ℕ) → count ≤ most → (most_cells < cells → most < count + more → P None)
    → ((n : ℕ) → (most_cells < cells → n ≡ count + more) → n ≤ most → P (Some n)) → P (budget_after cells most count more)
outcome = grind arith

-- one of the three counts with the entry
abbrev pub IsWith : (p : Preamble) (es : List Entry) (e : Entry) → (ℕ → CellBudget) → Option ℕ → Type 0
IsWith p es e put None = HasFewCells p (es ++ e ∷ []) → ⊥
IsWith p es e put (Some n) = IsCoveringOf p (es ++ e ∷ []) (put n)

large_rows : (a s c : ℕ) (cells : ℕ) → cells ≡ a * (s * (c * 1)) → a * s * c ≡ cells
large_rows a s c cells e = mul_assoc a s c ∙ ap (λ n. a * (s * n)) (sym (mul-one c)) ∙ sym e

module _ (p : Preamble) (es : List Entry) (c : CellBudget) (s : Sizes) (e : Entry) where
  pub transitions_with : CanComeNext p es c s e
      → e.table ≡ Transition
      → IsWith p es e (λ n. record c { transitions = n })
      (budget_after (s.actions * s.states * s.states) most_cells c.transitions (covered_by s.actions s.states s.states e.places e.body))
  transitions_with next is =
      outcome (IsWith p es e _) _ _ _ _ next.1.few_transitions
      (λ large over few. grind (arith, all, large_rows))
      (λ n is_counted few. grind (arith, all, unlike, not_paid, no_push, large_rows))
    where
      all : most_cells < s.actions * s.states * s.states → covered p Transition (es ++ e ∷ []) ≡ c.transitions
          + covered_by s.actions s.states s.states e.places e.body
      all l = grind (arith, covered_push p Transition es e, covered_transitions p e, large_rows)

  pub observations_with : CanComeNext p es c s e
      → e.table ≡ Observation
      → IsWith p es e (λ n. record c { observations = n })
      (budget_after (s.actions * s.states * s.observed) most_cells c.observations
      (covered_by s.actions s.states s.observed e.places e.body))
  observations_with next is =
      outcome (IsWith p es e _) _ _ _ _ next.1.few_observations
      (λ large over few. grind (arith, all, large_rows))
      (λ n is_counted few. grind (arith, all, unlike, not_paid, no_push, large_rows))
    where
      all : most_cells < s.actions * s.states * s.observed
          → covered p Observation (es ++ e ∷ []) ≡ c.observations + covered_by s.actions s.states s.observed e.places e.body
      all l = grind (arith, covered_push p Observation es e, covered_observations p e, large_rows)

  pub rewards_with : CanComeNext p es c s e → e.table ≡ Reward
      → IsWith p es e (λ n. record c { rewards = n }) (budget_after (s.actions * s.states * s.states * s.rewarded) most_reward_entries
      c.rewards 1)
  rewards_with = grind (arith, paid_push, unlike)

pub reward_more : (p : Preamble) (es : List Entry) (c : CellBudget) (e : Entry) → c.rewards < most_reward_entries → IsCoveringOf p es c
    → e.table ≡ Reward
    → IsCoveringOf p (es ++ e ∷ []) (record c { rewards = c.rewards + 1 })
reward_more = grind (arith, paid_push, unlike, no_push)
