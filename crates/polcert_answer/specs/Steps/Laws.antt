-- What a side has to obey so that one run serves it. Nobody has to believe it.
use Rattle.std.specs.Prelude.{◌≡◌, ℕ, ℤ, List, Ok}
use Rattle.polcert_cells.specs.Meaning.{Meaning, IsSame, states_of}
use Rattle.polcert_cells.specs.Tables.{table_of}
use Rattle.polcert_policy.specs.Graphs.{PolicyGraph, IsProperGraph}
use Rattle.polcert_policy.specs.Vectors.{PolicyVectors}
use Rattle.polcert_policy.specs.VectorText.{IsRoundedVectorsText}
use Rattle.polcert_check.specs.Horizon.{Controller, Fits, controller_of}
use Rattle.polcert_check.specs.Steps.Ranges.{IsController}
use Rattle.polcert_answer.specs.declared.fault.RunFault.{RunFault}
use Rattle.polcert_answer.specs.declared.fault.RunFault.TheVariants.{Write}
use Rattle.polcert_answer.specs.Answer.{HasGraph, IsRoundedAnswer}
use Rattle.polcert_answer.specs.Side.{Side}
use Rattle.polcert_answer.specs.Steps.Reading.{IsReadFault, IsNoReadFault}

-- What the side says of a graph and vectors for one model, it says of them for each same one.
pub record SaysTheSame {V F : Type 0} (side : Side V F) (m n : Meaning) (g : PolicyGraph) (v : PolicyVectors) : Type 0 where
  pub verdict : (x : V) → side.Is (controller_of (table_of m) g v) x → side.Is (controller_of (table_of n) g v) x
  pub line : (x : V) (text : List ℕ) → side.IsLine m (controller_of (table_of m) g v) v x text → side.IsLine n (controller_of (table_of n) g v) v x text
  pub least : (by : ℤ) → side.IsLeast (controller_of (table_of m) g v) v by → side.IsLeast (controller_of (table_of n) g v) v by
  pub reason : (f : F) → side.IsReason (controller_of (table_of m) g v) v f → side.IsReason (controller_of (table_of n) g v) v f

pub record SideLaws {V F : Type 0} (side : Side V F) : Type 0 where
  pub one_verdict : (c : Controller) (x y : V) → side.Is c x → side.Is c y → x ≡ y
  pub meets : (c : Controller) → IsController c → (x : V) → side.Is c x → side.Meets c x
  pub same : (m n : Meaning) → IsSame m n → (g : PolicyGraph) (v : PolicyVectors) → IsProperGraph g → Fits (table_of m) g v → SaysTheSame side m n g v
  -- what a yes to three texts promises, and what its line says of the start
  pub promised : (model graph vectors : List ℕ) → IsRoundedAnswer side.rounding side.Is model graph vectors (Ok side.yes) → side.Promised model graph vectors
  pub started : (model graph vectors : List ℕ) → IsRoundedAnswer side.rounding side.Is model graph vectors (Ok side.yes)
      → (m : Meaning) (g : PolicyGraph) (v : PolicyVectors) → HasGraph model graph m g → IsRoundedVectorsText side.rounding g (states_of m) vectors v
      → (line : List ℕ) → side.IsLine m (controller_of (table_of m) g v) v side.yes line → side.StartPromised line model graph vectors
  -- which faults a run that moves vectors may answer
  pub one_fault : (x y : F) → side.run_fault x ≡ side.run_fault y → x ≡ y
  pub no_write : (x : F) → side.run_fault x ≡ Write → ⊥
  pub own_fault : (x : F) → side.IsRunFault (side.run_fault x) × IsNoReadFault (side.run_fault x)
  pub write_fault : side.IsRunFault Write
  pub read_fault : (fault : RunFault) → IsReadFault fault → side.IsRunFault fault
