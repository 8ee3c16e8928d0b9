-- Full forms, typed line by line.
use Rattle.std.specs.Prelude.{ℕ, Bool, List, [], ◌∷◌, ◌++◌, None, codes}
use Rattle.polcert_cells.specs.declared.elements.Elements.TheVariants.{Count}
use Rattle.polcert_cells.specs.declared.entries.Place.TheVariants.{Only}
use Rattle.polcert_cells.specs.declared.entries.Body.TheVariants.{Probabilities}
use Rattle.polcert_cells.specs.Meaning.{Meaning, meaning_of}
use Rattle.polcert_examples.specs.Worked.Examples.{transition, rewards, whole}

-- an MDP of two states, with rewards or costs: `T: 0 0 1 1 0 R: 0 : 0 : 1 1`
abbrev pub two_states : Bool → Meaning
two_states costs = meaning_of (record { discount = 500_000; costs = costs; states = Count 2; actions = Count 1; observations = None }) None
    (transition (Only 0 ∷ []) (Probabilities (0 ∷ 1_000_000 ∷ 1_000_000 ∷ 0 ∷ []))
    ∷ rewards (Only 0 ∷ Only 0 ∷ Only 1 ∷ []) (whole 1 ∷ []) ∷ [])

-- where this stands after `values:`
abbrev pub two_states_form : List ℕ → List ℕ
two_states_form values =
    codes "discount: 0.5\n"
    ++ codes "values: " ++ values ++ codes "\n"
    ++ codes "states: 2\n"
    ++ codes "actions: 1\n"
    ++ codes "start: uniform\n"
    ++ codes "T: 0 : 0\n"
    ++ codes "0 1\n"
    ++ codes "T: 0 : 1\n"
    ++ codes "1 0\n"
    ++ codes "R: 0 : 0\n"
    ++ codes "0 1\n"
