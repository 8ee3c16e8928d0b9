-- The bodies of rewards, and the numbers of all of them in one list.
use Rattle.std.proofs.Common.{◌≡◌, ℕ, ◌+◌, ◌<◌, Bool, List, [], ◌∷◌, ◌++◌, map, length, get_or, drop, Option, Some, None, arith}
use Rattle.std.proofs.Common.{append_assoc}
use Rattle.std.specs.List.{slice_get}
use Rattle.std.specs.Option.{IsSomeAnd}
use Rattle.polcert_rules.proofs.Common.{drop_more, slice_get-map, Entry, all_rewards, RewardBody, worth, IsBodyOf, AreBodiesOf}
use Rattle.polcert_cells.specs.EntryRefs.{AreRewardsFrom, AreEntryBodies}

-- ---- one more at the end, where the others are still to come
pub one_more : {X Y : Type 0} (f : X → Y) (xs : List X) (i : ℕ) (d : X) (x : Y) (before after whole : List Y) → i < length xs
    → x ≡ f (get_or xs i d) → after ≡ before ++ x ∷ []
    → before ++ map f (drop i xs) ≡ whole → after ++ map f (drop (i + 1) xs) ≡ whole
one_more f xs i d x before after whole l is pushed so_far = grind (arith, append_assoc, drop_more)

-- ---- the bodies of entries
-- the body of an entry, where the numbers are those of all entries
pub body_is : (costs : Bool) (entries : List Entry) (entry : Entry) (n : ℕ) (b : RewardBody) → slice_get entries n ≡ Some entry
    → AreRewardsFrom entries n b.start → b.places ≡ length entry.places
    → IsBodyOf costs entry (map (worth costs) (all_rewards entries)) b
body_is costs entries entry n b is from places = grind (arith, slice_get-map)

pub bodies_are : (costs : Bool) (entries : List Entry) (bodies : List RewardBody) → AreEntryBodies entries bodies
    → AreBodiesOf costs entries (map (worth costs) (all_rewards entries)) bodies
bodies_are costs entries bodies of_each n e is = at (slice_get bodies n) (of_each n e is)
  where
    at : (b : Option RewardBody) → IsSomeAnd b (λ x. (x.places ≡ length e.places) × AreRewardsFrom entries n x.start)
        → IsSomeAnd b (IsBodyOf costs e (map (worth costs) (all_rewards entries)))
    at None a = a
    at (Some b) a = body_is _ _ e n b is a.1 a.0
