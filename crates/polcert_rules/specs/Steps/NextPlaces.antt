-- Rules that continue with a place for an index.
-- Nobody has to believe this file: only private functions cite it.
use Rattle.std.specs.Prelude.{◌≡◌, ℕ, ◌+◌, ◌*◌, ◌-◌, ◌^◌, ◌<◌, ◌≤◌, ◌↔◌, List, Contains}
use Rattle.polcert_rules.specs.declared.index.Rule.{Rule}
use Rattle.polcert_rules.specs.declared.index.NextPlace.{NextPlace}
use Rattle.polcert_rules.specs.Keys.{key_base}
use Rattle.polcert_rules.specs.Steps.Newest.{IsRising}

-- after the key `low` a place more: `*`, or this index
pub record IsNextPlace (rules : List Rule) (low levels index : ℕ) (next : NextPlace) : Type 0 where
  pub levels_are : next.levels ≡ levels - 1
  pub every_is : next.every ≡ low + key_base ^ (levels - 1)
  pub of_every : (r : Rule) → Contains next.of_every.now r ↔ (Contains rules r × (next.every ≤ r.key) × (r.key < next.every + key_base ^ (levels - 1)))
  pub every_rises : IsRising next.of_every.now
  pub only_is : next.only ≡ low + (index + 2) * key_base ^ (levels - 1)
  pub of_only : (r : Rule) → Contains next.of_only.now r ↔ (Contains rules r × (next.only ≤ r.key) × (r.key < next.only + key_base ^ (levels - 1)))
  pub only_rises : IsRising next.of_only.now
