-- Each weight is that of one part in n, or of a number of millionths: whatever the entries are.
use Rattle.std.proofs.Common.{◌≡◌, ℕ, ◌*◌, ◌==◌, Bool, true, false, cond, Option, List, [], ◌∷◌, refl, arith}
use Rattle.polcert_full_form.proofs.Common.{Table, Observation, Entry, one, count_of, Preamble, is_mdp, observed, columns}
use Rattle.polcert_full_form.proofs.Common.{observation_weight, weight, weight_of, value_or}
use Rattle.polcert_cells.specs.Cells.{IsLastCovering}
use Rattle.polcert_cells.proofs.CellLaws.{last_is}
use Rattle.polcert_full_form.proofs.Denoting.RowEntries.{Fits}
use Rattle.polcert_full_form.proofs.Denoting.Observing.{states_seen}

found_fits : (p : Preamble) (entries : List Entry) (table : Table) (indices : List ℕ) (found : Option Entry)
    → IsLastCovering entries table indices found
    → Fits (columns p table) (value_or 0 (weight_of p indices) found)
found_fits p entries table indices found h1 = grind arith

pub weight_fits : (p : Preamble) (entries : List Entry) (table : Table) (indices : List ℕ)
    → Fits (columns p table) (weight p entries table indices)
weight_fits p entries table indices = found_fits p entries _ _ _ (last_is _ _ _)

-- in an MDP the whole scale or nothing
pub observation_fits : (p : Preamble) (entries : List Entry) (a e z : ℕ) → Fits (count_of (observed p)) (observation_weight p entries a e z)
observation_fits p entries a e z = at (is_mdp p) refl
  where
    whole_or_none : (b : Bool) → Fits (count_of p.states) (cond b (one * count_of p.states) 0)
    whole_or_none true = grind arith
    whole_or_none false = grind arith

    at : (b : Bool) → is_mdp p ≡ b → Fits (count_of (observed p))
        (cond b (cond (e == z) (one * count_of p.states) 0) (weight p entries Observation (a ∷ e ∷ z ∷ [])))
    at true mdp = rw (states_seen p mdp) (whole_or_none _)
    at false seen = weight_fits p entries _ _
