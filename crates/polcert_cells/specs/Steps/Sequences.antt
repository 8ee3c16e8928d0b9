-- A list whose only item may stand in the value itself.
-- Nobody has to believe this: only the view of a private field cites it.
use Rattle.std.specs.Prelude.{List, Option, Some, None}

abbrev pub items_of : {X : Type 0} → Option (List X) → List X → List X
items_of (Some only) more = only
items_of None more = more
