-- Entries as they are kept: what stands in lists that continue stays, and an entry that is put after them stands there.
use Rattle.std.proofs.Common.{◌≡◌, ◌∙◌, ℕ, zero, suc, ◌+◌, ◌-◌, ◌≤◌, ℤ, List, [], ◌∷◌, ◌++◌, Option, Some, None, length, get_or, take, drop}
use Rattle.std.proofs.Common.{map, All, refl, sym, ap, subst, arith, length-append, append_assoc, take_all, rules}
use Rattle.polcert_cells.proofs.Basics.{slice_get-drop}
use Rattle.polcert_cells.proofs.Common.{map-append, All-head, All-tail, All-cons, All-nil, EntryStore, Entry, AreHeldIn, length-map}
use Rattle.std.proofs.lemmas.List.{append-nil, drop-append-le, take-append-le, length-drop, length-take-le}
use Rattle.std.proofs.lemmas.List.Elements.{All-append, All-weaker}
use Rattle.std.proofs.lemmas.Option.{get_or_from_slice_get, same_Some, slice_get-map, slice_get_within}
use Rattle.std.specs.List.{slice_get}
use Rattle.std.specs.Option.{IsSomeAnd, option_map}
use Rattle.polcert_cells.specs.declared.entries.BodyTag.{BodyTag}
use Rattle.polcert_cells.specs.declared.entries.BodyTag.TheVariants.{Probabilities, Rewards}
use Rattle.polcert_cells.specs.declared.entries.EntryHeader.{EntryHeader}
use Rattle.polcert_cells.specs.declared.entries.Place.{Place}
use Rattle.polcert_cells.specs.declared.entries.Place.TheVariants.{Every}
use Rattle.polcert_cells.specs.Steps.EntryLists.{part, place_of, reward_body, body_in, entry_in, LiesIn, HasNumbers, IsWithin, Continues}
use Rattle.polcert_cells.specs.Steps.EntryLists.{GoOn, IsPut}
use Rattle.polcert_cells.specs.EntryRefs.{IsSmallPlace, rewards_of, all_rewards, AreEntryBodies, AreRewardsFrom}

-- ---- a part of a list
lies_stays : {X : Type 0} (xs ys : List X) (start len : ℕ) → Continues xs ys → LiesIn (length xs) start len → LiesIn (length ys) start len
lies_stays xs ys start len g l = grind (arith, length-append)

part_stays : {X : Type 0} (xs ys : List X) (start len : ℕ) → Continues xs ys → LiesIn (length xs) start len
    → part start len ys ≡ part start len xs
part_stays xs ys start len g l = grind (arith, drop-append-le, take-append-le, length-drop)

-- ---- places in 16 bits
abbrev AreKept : List ℕ → List Place → Type 0
AreKept (k ∷ ks) (p ∷ ps) = (IsSmallPlace p → place_of k ≡ p) × AreKept ks ps
AreKept _ _ = Unit {0}

front_kept : (n : ℕ) (ks : List ℕ) (ps : List Place) → length ks ≡ length ps → AreKept ks ps → All IsSmallPlace (take n ps)
    → take n (map place_of ks) ≡ take n ps
front_kept zero ks ps same kept small = refl
front_kept (suc n) [] [] same kept small = refl
front_kept (suc n) (k ∷ ks) (p ∷ ps) same kept small =
    λ i. (kept.0 (All-head IsSmallPlace p (take n ps) small)) i ∷
    (front_kept n ks ps (omega arith) kept.1 (All-tail IsSmallPlace p (take n ps) small)) i
front_kept (suc n) [] (p ∷ ps) same kept small = absurd (omega arith)
front_kept (suc n) (k ∷ ks) [] same kept small = absurd (omega arith)

pub four_kept : (n a b c d : ℕ) (ps : List Place) → length ps ≡ 4 → (IsSmallPlace (get_or ps 0 Every) → place_of a ≡ get_or ps 0 Every)
    → (IsSmallPlace (get_or ps 1 Every) → place_of b ≡ get_or ps 1 Every)
    → (IsSmallPlace (get_or ps 2 Every) → place_of c ≡ get_or ps 2 Every)
    → (IsSmallPlace (get_or ps 3 Every) → place_of d ≡ get_or ps 3 Every)
    → All IsSmallPlace (take n ps) → take n (place_of a ∷ place_of b ∷ place_of c ∷ place_of d ∷ []) ≡ take n ps
four_kept n a b c d (p ∷ q ∷ r ∷ s ∷ []) four h1 h2 h3 h4 small =
    front_kept n (a ∷ b ∷ c ∷ d ∷ []) (p ∷ q ∷ r ∷ s ∷ []) refl (h1, (h2, (h3, (h4, tt)))) small
four_kept n a b c d [] four h1 h2 h3 h4 small = absurd (omega arith)
four_kept n a b c d (p ∷ []) four h1 h2 h3 h4 small = absurd (omega arith)
four_kept n a b c d (p ∷ q ∷ []) four h1 h2 h3 h4 small = absurd (omega arith)
four_kept n a b c d (p ∷ q ∷ r ∷ []) four h1 h2 h3 h4 small = absurd (omega arith)
four_kept n a b c d (p ∷ q ∷ r ∷ s ∷ t ∷ ps) four h1 h2 h3 h4 small = absurd (omega arith)

-- ---- an entry
numbers_stay : (p q : EntryStore) (f : BodyTag) (n k : ℕ) → GoOn p q → HasNumbers p f n k → HasNumbers q f n k
numbers_stay p q Probabilities n k g l = lies_stays p.probabilities.items q.probabilities.items n k g.probabilities l
numbers_stay p q Rewards n k g l = lies_stays p.rewards.items q.rewards.items n k g.rewards l
numbers_stay p q c n k g l = tt

body_stays : (p q : EntryStore) (f : BodyTag) (n k : ℕ) → GoOn p q → HasNumbers p f n k → body_in q f n k ≡ body_in p f n k
body_stays p q f n k h1 h2 = grind (arith, part_stays)

within_stays : (p q : EntryStore) → GoOn p q → (h : EntryHeader) → IsWithin p h → IsWithin q h
within_stays p q g h w = search (rules, numbers_stay)

entry_stays : (p q : EntryStore) → GoOn p q → (h : EntryHeader) → IsWithin p h → entry_in q h ≡ entry_in p h
entry_stays p q g h w = grind (arith, body_stays)

-- ---- all entries
pub all_stay : (p q : EntryStore) (hs : List EntryHeader) → GoOn p q → All (IsWithin p) hs → All (IsWithin q) hs
all_stay p q hs g a = All-weaker (IsWithin p) (IsWithin q) (within_stays p q g) hs a

pub list_stays : (p q : EntryStore) (hs : List EntryHeader) → GoOn p q → All (IsWithin p) hs → map (entry_in q) hs ≡ map (entry_in p) hs
list_stays p q [] g a = refl
list_stays p q (h ∷ hs) g a =
    λ i. (entry_stays p q g h (All-head (IsWithin p) h hs a)) i ∷ (list_stays p q hs g (All-tail (IsWithin p) h hs a)) i

pub one_more_within : (p q : EntryStore) (hs : List EntryHeader) (h : EntryHeader) → GoOn p q → All (IsWithin p) hs → IsWithin q h
    → All (IsWithin q) (hs ++ h ∷ [])
one_more_within p q hs h g a w = All-append (IsWithin q) hs (h ∷ []) (all_stay p q hs g a)
    (All-cons (IsWithin q) h [] w (All-nil (IsWithin q)))

pub one_more : (p q : EntryStore) (hs : List EntryHeader) (h : EntryHeader) (entry : Entry) → GoOn p q → All (IsWithin p) hs
    → entry_in q h ≡ entry → map (entry_in q) (hs ++ h ∷ []) ≡ map (entry_in p) hs ++ entry ∷ []
one_more p q hs h entry g a e = grind (arith, map-append, list_stays)

-- ---- the rewards of all entries
all_rewards_append : (es : List Entry) (e : Entry) → all_rewards (es ++ e ∷ []) ≡ all_rewards es ++ rewards_of e.body
all_rewards_append [] e = append-nil (rewards_of e.body)
all_rewards_append (x ∷ es) e = ap (λ hs. rewards_of x.body ++ hs) (all_rewards_append es e)
    ∙ sym (append_assoc (rewards_of x.body) (all_rewards es) (rewards_of e.body))

pub held_more : (p q : EntryStore) (old new : List EntryHeader) (entry : Entry) → GoOn p q → AreHeldIn p old → IsPut old new p q entry
    → AreHeldIn q new
held_more p q old new entry g a put = subst (AreHeldIn q) (sym put.heads) (record {
  within = one_more_within p q old put.head g a.within put.within;
  rewards =
      put.rewards ∙ ap (λ hs. hs ++ rewards_of entry.body) a.rewards ∙ sym (all_rewards_append (map (entry_in p) old) entry)
      ∙ sym (ap all_rewards (one_more p q old put.head entry g a.within put.is));
})

pub listed_more : (p q : EntryStore) (old new : List EntryHeader) (entry : Entry) → GoOn p q → AreHeldIn p old → IsPut old new p q entry
    → map (entry_in q) new ≡ map (entry_in p) old ++ entry ∷ []
listed_more p q old new entry g a put = ap (map (entry_in q)) put.heads ∙ one_more p q old put.head entry g a.within put.is

-- rewards that were put and belong to no entry are dropped
dropped : (p q : EntryStore) → GoOn p q → take (length p.rewards.items) q.rewards.items ≡ p.rewards.items
dropped p q g = ap (take (length p.rewards.items)) g.rewards.whole
    ∙ take-append-le (length p.rewards.items) p.rewards.items g.rewards.more (omega arith)
    ∙ take_all (length p.rewards.items) p.rewards.items (omega arith)

go_on_dropped : (p q r : EntryStore) → GoOn p q → r.probabilities ≡ q.probabilities
    → r.rewards.items ≡ take (length p.rewards.items) q.rewards.items → GoOn p r
go_on_dropped p q r g probabilities rewards = grind (arith, append-nil, dropped)

module _ (p q r : EntryStore) (g : GoOn p q) (probabilities : r.probabilities ≡ q.probabilities)
    (rewards : r.rewards.items ≡ take (length p.rewards.items) q.rewards.items) where
  pub listed_still : (hs : List EntryHeader) → AreHeldIn p hs → map (entry_in r) hs ≡ map (entry_in p) hs
  listed_still hs a = list_stays p r hs (go_on_dropped p q r g probabilities rewards) a.within

  pub held_still : (hs : List EntryHeader) → AreHeldIn p hs → AreHeldIn r hs
  held_still hs a = grind (arith, all_stay, dropped, go_on_dropped, listed_still)

-- ---- the bodies of the entries
read_before : {X : Type 0} (n k : ℕ) (xs : List X) (x : X) → slice_get (take n xs) k ≡ Some x → slice_get xs k ≡ Some x
read_before zero k xs x is = cc
read_before (suc n) k [] x is = is
read_before (suc n) zero (y ∷ xs) x is = is
read_before (suc n) (suc k) (y ∷ xs) x is = read_before n k xs x is

-- the rewards of an entry stand from its start on
read_from : (p : EntryStore) (f : BodyTag) (start len k : ℕ) (x : ℤ) → slice_get (rewards_of (body_in p f start len)) k ≡ Some x
    → slice_get p.rewards.items (start + k) ≡ Some x
read_from p Rewards start len k x is = sym (slice_get-drop start k p.rewards.items)
    ∙ read_before (start + len - start) k (drop start p.rewards.items) x is
read_from p f start len k x is = cc

pub bodies_stand : (p : EntryStore) (hs : List EntryHeader) → AreHeldIn p hs → AreEntryBodies (map (entry_in p) hs) (map reward_body hs)
bodies_stand p hs a n e is = at (slice_get hs n) refl
  where
    entries : List Entry
    entries = map (entry_in p) hs

    at : (o : Option EntryHeader) → slice_get hs n ≡ o → IsSomeAnd (slice_get (map reward_body hs) n)
        (λ b. (b.places ≡ length e.places) × AreRewardsFrom entries n b.start)
    at None none = grind (arith, slice_get-map)
    at (Some h) found =
        let here : slice_get entries n ≡ Some (entry_in p h) = slice_get-map (entry_in p) hs n ∙ ap (option_map (entry_in p)) found in
        let same : entry_in p h ≡ e = same_Some _ _ (sym here ∙ is) in
        let within : IsWithin p h = subst (IsWithin p) (get_or_from_slice_get hs n h h found) (a.within n h (slice_get_within hs n h found))
        in
        let kept = within.few in
        let few : h.count ≤ length (map place_of h.places) = grind (arith, length-map) in
        let places : h.count ≡ length e.places = sym (length-take-le h.count (map place_of h.places) few)
        ∙ ap (λ (y : Entry). length y.places) same in
        let from : AreRewardsFrom entries n h.start =
        λ x x_is k r r_is. subst (λ rs. slice_get rs (h.start + k) ≡ Some r) a.rewards
        (read_from p h.filling h.start h.len k r (subst (λ (y : Entry). slice_get (rewards_of y.body) k ≡ Some r)
        (same_Some _ _ (sym x_is ∙ here)) r_is)) in
        subst (λ o. IsSomeAnd o (λ b. (b.places ≡ length e.places) × AreRewardsFrom entries n b.start))
        (sym (slice_get-map reward_body hs n ∙ ap (option_map reward_body) found)) (places, from)
