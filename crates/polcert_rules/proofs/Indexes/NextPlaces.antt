-- Rules that continue with a place for an index: what is known of their keys, and that what is found among them is found after `low`.
use Rattle.std.proofs.Common.{ℕ, ◌+◌, ◌*◌, ◌-◌, ◌^◌, ◌≤◌, List, [], ◌∷◌, refl, sym, subst, arith, Contains}
use Rattle.polcert_rules.proofs.Common.{Rule, key_base, AreIndices, most_places}
use Rattle.polcert_rules.specs.declared.index.NextPlace.{NextPlace}
use Rattle.polcert_rules.specs.Steps.NextPlaces.{IsNextPlace}
use Rattle.polcert_rules.proofs.Indexes.Newer.{IsSpan, IsDeeper, is_deeper}

pub first_index : (m i : ℕ) (indices : List ℕ) → AreIndices m (i ∷ indices) → AreIndices m (i ∷ [])
first_index m i indices h1 = grind arith

-- what the search continues with
pub record GoesDeeper (rules : List Rule) (m low i : ℕ) (indices : List ℕ) (next : NextPlace) : Type 0 where
  pub deeper : IsDeeper m low i indices (key_base ^ (m - 1))
  pub few : next.levels ≤ most_places
  pub indices_are : AreIndices next.levels indices
  pub from_every : (r : Rule) → Contains next.of_every.now r → next.every ≤ r.key
  pub from_only : (r : Rule) → Contains next.of_only.now r → next.only ≤ r.key
  pub room_every : next.every + key_base ^ next.levels ≤ low + key_base ^ m
  pub room_only : next.only + key_base ^ next.levels ≤ low + key_base ^ m
  pub span_every : IsSpan rules next.of_every.now (low + key_base ^ (m - 1)) (key_base ^ (m - 1))
  pub span_only : IsSpan rules next.of_only.now (low + (i + 2) * key_base ^ (m - 1)) (key_base ^ (m - 1))

pub goes_deeper : (rules : List Rule) (m low i : ℕ) (indices : List ℕ) (next : NextPlace) → m ≤ most_places → AreIndices m (i ∷ indices)
    → IsNextPlace rules low m i next
    → GoesDeeper rules m low i indices next
goes_deeper rules m low i indices next few a n =
    let d = is_deeper m low i indices (key_base ^ (m - 1)) a refl in
    record {
      deeper = d;
      few = omega (arith, few, n.levels_are);
      indices_are = subst (λ k. AreIndices k indices) (sym n.levels_are) d.indices_are;
      from_every = λ r among. ((n.of_every r).0 among).1;
      from_only = λ r among. ((n.of_only r).0 among).1;
      room_every = subst (λ k. next.every + key_base ^ k ≤ low + key_base ^ m) (sym n.levels_are) (omega (arith, n.every_is, d.every));
      room_only = subst (λ k. next.only + key_base ^ k ≤ low + key_base ^ m) (sym n.levels_are) (omega (arith, n.only_is, d.only));
      span_every = subst (λ k. IsSpan rules next.of_every.now k (key_base ^ (m - 1))) n.every_is n.of_every;
      span_only = subst (λ k. IsSpan rules next.of_only.now k (key_base ^ (m - 1))) n.only_is n.of_only;
    }

-- what is so after the next keys is so at their numbers
pub at_every : (P : ℕ → ℕ → Type 0) (rules : List Rule) (m low i : ℕ) (next : NextPlace) → IsNextPlace rules low m i next
    → P next.levels next.every → P (m - 1) (low + key_base ^ (m - 1))
at_every P rules m low i next n p = subst (P (m - 1)) n.every_is (subst (λ k. P k next.every) n.levels_are p)

pub at_only : (P : ℕ → ℕ → Type 0) (rules : List Rule) (m low i : ℕ) (next : NextPlace) → IsNextPlace rules low m i next
    → P next.levels next.only → P (m - 1) (low + (i + 2) * key_base ^ (m - 1))
at_only P rules m low i next n p = subst (P (m - 1)) n.only_is (subst (λ k. P k next.only) n.levels_are p)
