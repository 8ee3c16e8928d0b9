-- What is said of the texts of three sources, from what is said of what these denote, whichever way values are rounded.
use Rattle.std.proofs.Common.{◌≡◌, ℕ, ℤ, List, Option, Result, Ok, IfOk, subst, arith}
use Rattle.polcert_answer.proofs.Common.{Rounding, Takes, Meaning, PolicyGraph, PolicyVectors, IsRoundedVectorsText, vectors_text, RunFault}
use Rattle.polcert_answer.proofs.Common.{WritesAnswer, HoldsOfTexts, Side, AreDenoted, AreWrittenMoved}
use Rattle.polcert_answer.specs.Steps.Reading.{AreMoved}

-- what a run wrote of an answer, from what is known of what belongs to it
module _ {T W : Type 0} {writes : W → Option (List ℕ) → W → Type 0} {sink sink' : W} (P : T → List ℕ → Type 0) where
  pub wrote_mapped : (Q : T → List ℕ → Type 0) → ((answer : T) (text : List ℕ) → P answer text → Q answer text) → (r : Result T RunFault)
      → WritesAnswer writes P r sink sink' → WritesAnswer writes Q r sink sink'
  wrote_mapped Q follows r wrote = grind arith

  -- the text that belongs to one answer
  pub text_of_answer : (r : Result T RunFault) (answer : T) → WritesAnswer writes P r sink sink' → r ≡ Ok answer → (text : List ℕ)
      × P answer text × Takes writes sink text sink'
  text_of_answer r answer wrote same = subst (λ (x : Result T RunFault). IfOk x
      (λ a. (text : List ℕ) × P a text × Takes writes sink text sink')) same wrote.took

  -- what follows of each answer and its text holds of the answer
  pub answered_with : (Q : T → Type 0) → ((answer : T) (text : List ℕ) → P answer text → Q answer) → (r : Result T RunFault)
      → WritesAnswer writes P r sink sink' → IfOk r Q
  answered_with Q h1 r h2 = grind arith

-- what holds of the texts that denote a model, a graph and vectors holds of those of the sources
pub holds_of : {rounding : Rounding} {of_model of_graph of_vectors : List ℕ → Type 0} (m : Meaning) (g : PolicyGraph) (v : PolicyVectors)
    (d : AreDenoted rounding of_model of_graph of_vectors m g v) (Holds : List ℕ → List ℕ → List ℕ → Type 0)
    → Holds d.first d.second d.third
    → HoldsOfTexts rounding of_model of_graph of_vectors Holds
holds_of m g v d Holds h = grind arith

-- what is known of moved vectors and of their full form
pub are_written : {V F : Type 0} (side : Side V F) (m : Meaning) (g : PolicyGraph) (v : PolicyVectors) (by : ℤ) (w : PolicyVectors)
    → AreMoved side m g v (by, w)
    → IsRoundedVectorsText side.rounding g w.states (vectors_text g w) w → AreWrittenMoved side m g v by (vectors_text g w)
are_written side m g v by w moved reads_back = grind arith
