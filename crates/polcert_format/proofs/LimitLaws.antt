-- What a right text denotes is within its limits.
use Rattle.std.proofs.Common.{◌≡◌, ℕ, zero, suc, ◌+◌, ◌*◌, ◌<◌, ◌≤◌, Bool, true, ◌⊎◌, ⊎_elim, Option, Some, None, unwrap_or, List, [], ◌∷◌}
use Rattle.std.proofs.Common.{◌++◌, get_or, ℤ, pos, neg_ℤ, sym, ap, subst, arith, unsigned_abs}
use Rattle.std.proofs.lemmas.List.{length-map}
use Rattle.polcert_format.proofs.Common.{largest, Lexeme, Reward, Topic, IsMillionths, AreNumbers, Elements, count_of, most_states}
use Rattle.polcert_format.proofs.Common.{most_actions, most_observations, most_pairs, AreElements, Item, Preamble, observed, Body, Entry}
use Rattle.polcert_format.proofs.Common.{IsBody, Meaning, sum_below, states_of, observations_of, ModelSoFar, nothing_known, IsRight}
use Rattle.polcert_format.proofs.Common.{AreRight, Denotes, StartWeights}
use Rattle.polcert_cells.specs.Numbers as numbers
use Rattle.polcert_cells.specs.declared.entries.Body.TheVariants.{Rewards}
use Rattle.polcert_cells.specs.Entry as entries
use Rattle.polcert_cells.specs.Cells.{reward, reward_of, reward_in, value_or, IsLastCovering, none}
use Rattle.polcert_cells.specs.Meaning.{reward_index, IsCount, HasLimitedNumbers}
use Rattle.polcert_format.specs.Text as texts
use Rattle.polcert_cells.proofs.NumberLaws.{millionth_pos}
use Rattle.polcert_cells.specs.Start.{equal_weights}
use Rattle.polcert_cells.proofs.CellLaws.{last_is}
use Rattle.polcert_cells.proofs.StartLimits.{IsFair, start_fair, no_start_fair}

-- ---- one number
pub abs-neg : (h : ℤ) → unsigned_abs (neg_ℤ h) ≡ unsigned_abs h
abs-neg h = grind arith

pub number_within : (negative : Bool) (l : Lexeme) (h : ℤ) → IsMillionths negative l h → unsigned_abs h ≤ largest
number_within negative l h a = grind (arith, millionth_pos)

abbrev pub AreWithin : List ℤ → Type 0
AreWithin [] = Unit {0}
AreWithin (h ∷ hs) = (unsigned_abs h ≤ largest) × AreWithin hs

numbers_within : {ls : List Lexeme} {hs : List ℤ} → AreNumbers ls hs → AreWithin hs
numbers_within numbers.none = tt
numbers_within (numbers.unsigned a more) = (number_within _ _ _ a, numbers_within more)
numbers_within (numbers.plus sign a more) = (number_within _ _ _ a, numbers_within more)
numbers_within (numbers.minus sign a more) = (number_within _ _ _ a, numbers_within more)

one_within : (hs : List ℤ) (k : ℕ) → AreWithin hs → unsigned_abs (get_or hs k (pos 0)) ≤ largest
one_within [] k a = omega arith
one_within (h ∷ hs) zero a = a.0
one_within (h ∷ hs) (suc k) a = one_within hs k a.1

-- ---- entries
abbrev pub BodyWithin : Body → Type 0
BodyWithin (Rewards hs) = AreWithin hs
BodyWithin _ = Unit {0}

body_within : {cells : ℕ} {ls : List Lexeme} {b : Body} → IsBody cells ls b → BodyWithin b
body_within h1 = grind (arith, numbers_within)

abbrev pub EntriesWithin : List Entry → Type 0
EntriesWithin [] = Unit {0}
EntriesWithin (e ∷ es) = BodyWithin e.body × EntriesWithin es

one_more_within : (es : List Entry) (e : Entry) → EntriesWithin es → BodyWithin e.body → EntriesWithin (es ++ e ∷ [])
one_more_within [] e a b = (b, tt)
one_more_within (x ∷ xs) e a b = (a.0, one_more_within xs e a.1 b)

one_of_within : (before : List Entry) (e : Entry) (after : List Entry) → EntriesWithin (before ++ e ∷ after) → BodyWithin e.body
one_of_within [] e after a = a.0
one_of_within (x ∷ xs) e after a = one_of_within xs e _ a.1

reward_in_within : (costs : Bool) (b : Body) (ds : List Elements) (indices : List ℕ) → BodyWithin b
    → unsigned_abs (reward_in costs b ds indices) ≤ largest
reward_in_within costs b ds indices h1 = grind (arith, abs-neg, one_within)

module _ (p : Preamble) (es : List Entry) (indices : List ℕ) where
  found_within : (found : Option Entry) → EntriesWithin es
      → IsLastCovering es Reward indices found → unsigned_abs (value_or (pos 0) (reward_of p indices) found) ≤ largest
  found_within found h1 h2 = grind (arith, one_of_within, reward_in_within)

  reward_within : EntriesWithin es → unsigned_abs (reward p es indices) ≤ largest
  reward_within a = found_within _ a (last_is es Reward indices)

-- ---- what the items so far say
abbrev pub CountWithin : ℕ → Option Elements → Type 0
CountWithin most None = Unit {0}
CountWithin most (Some e) = IsCount most (count_of e)

abbrev pub DiscountWithin : Option ℕ → Type 0
DiscountWithin None = Unit {0}
DiscountWithin (Some g) = g ≤ 1_000_000

abbrev pub StartWithin : Option Elements → Option StartWeights → Type 0
StartWithin o None = Unit {0}
StartWithin None (Some weights) = ⊥
StartWithin (Some e) (Some weights) = IsFair (count_of e) weights

pub record KnownWithin (k : ModelSoFar) : Type 0 where
  pub start : StartWithin k.states k.start
  pub discount : DiscountWithin k.discount
  pub states : CountWithin most_states k.states
  pub actions : CountWithin most_actions k.actions
  pub observations : CountWithin most_observations k.observations
  pub entries : EntriesWithin k.entries

elements_within : (most : ℕ) {ls : List Lexeme} {e : Elements} → AreElements most ls e → IsCount most (count_of e)
elements_within most h1 = grind (arith, length-map)

right_within : (k : ModelSoFar) (t : Topic) (ls : List Lexeme) (next : ModelSoFar) → KnownWithin k → IsRight k t ls next → KnownWithin next
right_within k t ls next h1 h2 = grind (arith, start_fair, body_within, one_more_within, elements_within)

pub all_within : (k : ModelSoFar) (items : List Item) (end : ModelSoFar) → KnownWithin k → AreRight k items end → KnownWithin end
all_within k items end w texts.none = w
all_within k (item ∷ items) end w (texts.more {next = next} t e a following) =
    all_within next items end (right_within k t item.body next w a) following

nothing_within : KnownWithin nothing_known
nothing_within = record { start = tt; discount = tt; states = tt; actions = tt; observations = tt; entries = tt }

-- the counts that right items give
pub counts_within : (items : List Item) (k : ModelSoFar) → AreRight nothing_known items k → CountWithin most_states k.states
    × (CountWithin most_actions k.actions × CountWithin most_observations k.observations)
counts_within items k right = let w = all_within _ _ k nothing_within right in (w.states, (w.actions, w.observations))

-- ---- what is denoted
one_of_sum : (f : ℕ → ℕ) (n i : ℕ) → i < n → f i ≤ sum_below f n
one_of_sum f zero i l = absurd (omega (arith, l))
one_of_sum f (suc n) i l =
    ⊎_elim (λ before. omega (arith, one_of_sum f n i before))
    (λ here. omega (arith, ap f here)) (before_or_last i n l)
  where
    before_or_last : (i n : ℕ) → i < suc n → (i < n) ⊎ (i ≡ n)
    before_or_last i n l = grind arith

start_within : (e : Elements) (start : Option StartWeights) → IsCount most_states (count_of e) → StartWithin (Some e) start
    → IsFair (count_of e) (unwrap_or start (equal_weights (count_of e) (λ s. true)))
start_within e None count w = no_start_fair _ count.0 count.1
start_within e (Some weights) count w = w

pub within_limits : (ls : List Lexeme) (m : Meaning) → Denotes ls m → HasLimitedNumbers m
within_limits ls m d =
    let w = all_within nothing_known d.right.items d.known nothing_within d.right.right in
    let c = d.right.complete in
    let p : m.preamble ≡ d.preamble = d.same.preamble in
    let found : IsFair (count_of d.preamble.states) (unwrap_or d.known.start (equal_weights (count_of d.preamble.states) (λ s. true))) =
    start_within d.preamble.states d.known.start (subst (CountWithin most_states) c.lines.states w.states)
    (subst (λ o. StartWithin o d.known.start) c.lines.states w.start) in
    let fair : IsFair (states_of m) m.start = subst (λ (q : Preamble). IsFair (count_of q.states) m.start) (sym p)
    (subst (IsFair (count_of d.preamble.states)) (sym d.same.start) found) in
    record {
      start_count = fair.count;
      start_sum = fair.adds_up;
      start_some = fair.some;
      start_most = fair.most;
      states = subst (λ (q : Preamble). IsCount most_states (count_of q.states)) (sym p)
          (subst (CountWithin most_states) c.lines.states w.states);
      actions = subst (λ (q : Preamble). IsCount most_actions (count_of q.actions)) (sym p)
          (subst (CountWithin most_actions) c.lines.actions w.actions);
      observations = grind arith;
      pairs = subst (λ (q : Preamble). count_of q.states * count_of (observed q) ≤ most_pairs) (sym p) c.pairs;
      discount = subst (λ (q : Preamble). q.discount ≤ 1_000_000) (sym p) (subst DiscountWithin c.lines.discount w.discount);
      t = λ a s e x y z. subst (λ n. m.t a s e ≤ n) (d.rows.transitions a s x y) (one_of_sum (m.t a s) (states_of m) e z);
      o = λ a e o x y z. subst (λ n. m.o a e o ≤ n) (d.rows.observations a e x y) (one_of_sum (m.o a e) (observations_of m) o z);
      r = λ a s e o x y z v. subst (λ n. unsigned_abs n ≤ largest) (sym (d.same.r a s e o x y z v))
          (reward_within d.preamble d.known.entries (a ∷ s ∷ e ∷ reward_index d.preamble o ∷ []) w.entries);
    }
