-- `runs t k` holds no list twice.
use Rattle.std.proofs.Common.{◌≡◌, ℕ, zero, suc, ◌+◌, ◌<◌, ◌≤◌, ◌⊎◌, inl, inr, ⊎_elim, List, [], ◌∷◌, ◌++◌, map, flat_map, sym, refl, ap}
use Rattle.std.proofs.Common.{◌∙◌, subst, arith, Contains}
use Rattle.polcert_check.proofs.Common.{All-contains, range_with_len, CellTable, pairs, runs}
use Rattle.std.proofs.lemmas.List.Elements.{Contains-append_cases}
use Rattle.polcert_check.specs.Horizon.{HasNoRepeat}
use Rattle.polcert_check.proofs.Horizons.Enumerated.{Contains-cons_cases, Contains-cons, Contains-first, All-from}

Contains-nil : {X : Type 0} (x : X) → Contains [] x → ⊥
Contains-nil x (k, l, e) = omega arith

-- what is in a `map` or a `flat_map` comes from an item
pub Contains-map_cases : {X Y : Type 0} (f : X → Y) (xs : List X) (y : Y) → Contains (map f xs) y → (x : X) × Contains xs x × (f x ≡ y)
Contains-map_cases f [] y c = absurd (Contains-nil y c)
Contains-map_cases {X} {Y} f (w ∷ xs) y c = go (Contains-cons_cases (f w) (map f xs) y c) (Contains-map_cases f xs y)
  where
    go : (f w ≡ y) ⊎ Contains (map f xs) y → (Contains (map f xs) y → (x : X) × Contains xs x × (f x ≡ y)) → (x : X) × Contains (w ∷ xs) x
        × (f x ≡ y)
    go (inl e) later = (w, Contains-first w xs w refl, e)
    go (inr d) later = let (x, h, e) = later d in (x, Contains-cons w xs x h, e)

pub Contains-flat_map_cases : {X Y : Type 0} (f : X → List Y) (xs : List X) (y : Y) → Contains (flat_map f xs) y → (x : X) × Contains xs x
    × Contains (f x) y
Contains-flat_map_cases f [] y c = absurd (Contains-nil y c)
Contains-flat_map_cases {X} {Y} f (w ∷ xs) y c = go (Contains-append_cases (f w) (flat_map f xs) y c)
    (Contains-flat_map_cases f xs y)
  where
    go : Contains (f w) y ⊎ Contains (flat_map f xs) y → (Contains (flat_map f xs) y → (x : X) × Contains xs x × Contains (f x) y) → (x : X)
        × Contains (w ∷ xs) x × Contains (f x) y
    go (inl h) later = (w, Contains-first w xs w refl, h)
    go (inr d) later = let (x, h, k) = later d in (x, Contains-cons w xs x h, k)

pub HasNoRepeat-append : {X : Type 0} (xs ys : List X) → HasNoRepeat xs → HasNoRepeat ys → ((x : X) → Contains xs x → Contains ys x → ⊥)
    → HasNoRepeat (xs ++ ys)
HasNoRepeat-append [] ys p q apart = q
HasNoRepeat-append {X} (x ∷ xs) ys p q apart = (
  (λ c. ⊎_elim p.0 (apart x (Contains-first x xs x refl)) (Contains-append_cases xs ys x c)),
  HasNoRepeat-append xs ys p.1 q (λ y c. apart y (Contains-cons x xs y c)),
)

pub HasNoRepeat-map : {X Y : Type 0} (f : X → Y) → ((x y : X) → f x ≡ f y → x ≡ y) → (xs : List X) → HasNoRepeat xs → HasNoRepeat (map f xs)
HasNoRepeat-map f inj [] p = tt
HasNoRepeat-map f inj (x ∷ xs) p =
    ((λ c. let (y, h, e) = Contains-map_cases f xs (f x) c in p.0 (subst (Contains xs) (inj y x e) h)), HasNoRepeat-map f inj xs p.1)

pub HasNoRepeat-flat_map : {X Y : Type 0} (f : X → List Y) → ((x : X) → HasNoRepeat (f x))
    → ((x z : X) (y : Y) → Contains (f x) y → Contains (f z) y → x ≡ z) → (xs : List X) → HasNoRepeat xs → HasNoRepeat (flat_map f xs)
HasNoRepeat-flat_map f each apart [] p = tt
HasNoRepeat-flat_map f each apart (x ∷ xs) p =
    HasNoRepeat-append (f x) (flat_map f xs) (each x) (HasNoRepeat-flat_map f each apart xs p.1)
    (λ y c d. let (z, h, k) = Contains-flat_map_cases f xs y d in p.0 (subst (Contains xs) (sym (apart x z y c k)) h))

HasNoRepeat-from : (a n : ℕ) → HasNoRepeat (range_with_len a n)
HasNoRepeat-from a zero = tt
HasNoRepeat-from a (suc n) = (
  (λ c. let later = All-contains (λ i. (a + 1 ≤ i) × (i < a + 1 + n)) (range_with_len (a + 1) n) a (All-from (a + 1) n) c in
      omega (arith, later.0)),
  HasNoRepeat-from (a + 1) n,
)

cons_tail : (p : ℕ × ℕ) (x y : List (ℕ × ℕ)) → p ∷ x ≡ p ∷ y → x ≡ y
cons_tail p x y e = cc

cons_head : (p q : ℕ × ℕ) (x y : List (ℕ × ℕ)) → p ∷ x ≡ q ∷ y → p ≡ q
cons_head p q x y e = cc

pub HasNoRepeat-runs : (t : CellTable) (k : ℕ) → HasNoRepeat (runs t k)
HasNoRepeat-runs t zero = ((Contains-nil []), tt)
HasNoRepeat-runs t (suc k) =
    HasNoRepeat-flat_map (λ p. map _ (runs t k))
    (λ p. HasNoRepeat-map (λ run. p ∷ run) (cons_tail p) (runs t k) (HasNoRepeat-runs t k))
    (λ p q run a b. let (x, h, d) = Contains-map_cases (λ u. p ∷ u) (runs t k) run a in let (y, i, e) =
    Contains-map_cases (λ u. q ∷ u) (runs t k) run b in cons_head p q x y (d ∙ sym e))
    (pairs t)
    (HasNoRepeat-flat_map (λ e. map (λ z. (e, z)) (range_with_len 0 t.observations))
    (λ e. HasNoRepeat-map (λ z. (e, z)) (λ x y. ap (λ p. p.1)) (range_with_len 0 t.observations) (HasNoRepeat-from 0 t.observations))
    (λ e f p a b. let (x, h, d) = Contains-map_cases (λ z. (e, z)) (range_with_len 0 t.observations) p a in let (y, i, j) =
    Contains-map_cases (λ z. (f, z)) (range_with_len 0 t.observations) p b in ap (λ q. q.0) (d ∙ sym j))
    (range_with_len 0 t.states) (HasNoRepeat-from 0 t.states))
