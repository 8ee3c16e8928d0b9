-- Right items, put together and taken apart.
use Rattle.std.proofs.Common.{◌≡◌, Some, List, ◌∷◌, ◌++◌, arith}
use Rattle.polcert_format.proofs.Common.{Topic, topic, Item, ModelSoFar, AreRight, none, more, IsWrong}
use Rattle.polcert_cells.proofs.Basics.{one_some}
use Rattle.polcert_format.proofs.TextLaws.{one_right}

pub append_right : (k m n : ModelSoFar) (items ys : List Item) → AreRight k items m → AreRight m ys n → AreRight k (items ++ ys) n
append_right k m n items ys none b = b
append_right k m n items ys (more {next = next} {items = rest} t e a following) b = more t e a (append_right next m n rest ys following b)

pub rest_right : (k m n : ModelSoFar) (items ys : List Item) → AreRight k items m → AreRight k (items ++ ys) n → AreRight m ys n
rest_right k m n items ys none b = b
rest_right k m n (item ∷ items) ys (more {next = u} t e a following) (more {next = v} s f b after) =
    grind (arith, one_some, one_right, rest_right u m n items ys following)

-- an item that isn't taken isn't the next of taken items
pub no_wrong_next : (k last : ModelSoFar) (item : Item) (items : List Item)
    → ((t : Topic) → topic item.word ≡ Some t → IsWrong k t item.body) → AreRight k (item ∷ items) last → ⊥
no_wrong_next k last item items wrong (more {next = next} t e a _) = wrong t e next a

-- nor does it stand after items that are
pub no_wrong_item : (k m last : ModelSoFar) (before after : List Item) (item : Item)
    → ((t : Topic) → topic item.word ≡ Some t → IsWrong m t item.body) → AreRight k before m
    → AreRight k (before ++ item ∷ after) last → ⊥
no_wrong_item k m last before after item wrong right all = no_wrong_next m last item _ wrong (rest_right k m last _ _ right all)
