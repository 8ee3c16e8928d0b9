-- A start item as its reader continues with it.
use Rattle.std.proofs.Common.{◌≡◌, ℕ, List, [], Result, Ok, Err, OnOk, refl, rules}
use Rattle.polcert_items.proofs.Common.{Lexeme, Elements, StartWeights, IsStart, Numbers, ProbabilitiesGo, HasRoom, IsStartFed, TakesLexeme}
use Rattle.polcert_items.proofs.Common.{SignIs, StartGives, HasReadStart, ExpectsNext, expected_by_numbers}
use Rattle.polcert_items.specs.Steps.Start.{new_start, HasProbabilityRoom}
use Rattle.polcert_items.specs.declared.start_reader.StartReader.TheVariants as reader
use Rattle.polcert_items.proofs.StartNumbers.{shares_take}
use Rattle.polcert_items.proofs.StartSeen.{further_seen}

module _ (states : Elements) (ls : List Lexeme) (found : StartWeights) where
  pub new_start_on : IsStart states ls found
      → StartGives states new_start ls found
  new_start_on a = a

  pub new_start_back : StartGives states new_start ls found
      → IsStart states ls found
  new_start_back a = a

pub new_start_seen : (count : ℕ) → HasReadStart count [] new_start
new_start_seen count = record { sign = refl; body_is = refl }

-- more probabilities
pub shares_fed : {E : Type 0} (result : Result Unit E) (states : Elements) (old new : Numbers ℕ) (l : Lexeme)
    → HasProbabilityRoom states old
    → new.needed ≡ old.needed → OnOk result (HasRoom new)
    → OnOk result (TakesLexeme ProbabilitiesGo old l new) → OnOk result (ExpectsNext (expected_by_numbers old) l (expected_by_numbers new))
    → OnOk result (SignIs new.sign l)
    → OnOk result (IsStartFed states (reader.Probabilities old) l (reader.Probabilities new))
shares_fed (Ok v) states old new l within needed room takes leads sign = search (rules, shares_take, further_seen)
shares_fed (Err e) states old new l within needed room takes leads sign = tt
