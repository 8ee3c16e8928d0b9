-- Helper definitions of private functions: vectors that are moved, and the laws of a move. Nobody has to believe them.
use Rattle.std.specs.Prelude.{◌≡◌, ℕ, ℤ, List}
use Rattle.polcert_cells.specs.Meaning.{IsSame, Meaning, states_of}
use Rattle.polcert_cells.specs.Tables.{table_of}
use Rattle.polcert_policy.specs.FullForm.{vectors_text}
use Rattle.polcert_policy.specs.Graphs.{PolicyGraph}
use Rattle.polcert_policy.specs.VectorText.{IsRoundedVectorsText}
use Rattle.polcert_policy.specs.Vectors.{PolicyVectors}
use Rattle.polcert_check.specs.Horizon.{controller_of}
use Rattle.polcert_check.specs.Lower.{IsMoved}
use Rattle.polcert_answer.specs.Headline.{RoundedCertificate, controller}
use Rattle.polcert_answer.specs.Steps.Reading.{IsNoReadFault, IsReadFault}
use Rattle.polcert_answer.specs.declared.fault.RunFault.{RunFault}
use Rattle.polcert_answer.specs.declared.fault.RunFault.TheVariants.{Write}
use Rattle.polcert_robust_answer.specs.Moves.{NearMove}
use Rattle.polcert_robust_answer.specs.Near.{models_near}
use Rattle.polcert_robust_answer.specs.declared.within.Within.{Within}

module _ {F : Type 0} (move : NearMove F) (w : Within) (m : Meaning) (g : PolicyGraph) (v : PolicyVectors) where
  -- the answer is the least constant by which these vectors are moved to pass in every model within, and the moved ones
  abbrev pub AreMovedNear : ℤ × PolicyVectors → Type 0
  AreMovedNear answer = IsMoved (move.IsLeast (models_near w (table_of m))) move.added (move.Pass (models_near w (table_of m))) (table_of m) g v answer

  -- why they aren't moved
  abbrev pub IsReasonNear : F → Type 0
  IsReasonNear fault = move.IsReason (models_near w (table_of m)) (controller_of (table_of m) g v) v fault

  -- This is the constant, and the text is the full form of the moved vectors, which reads back.
  pub record AreWrittenNear (by : ℤ) (text : List ℕ) : Type 0 where
    pub other : PolicyVectors
    pub moved : AreMovedNear (by, other)
    pub text_is : text ≡ vectors_text g other
    pub reads_back : IsRoundedVectorsText move.rounding g (states_of m) text other

-- what a move has to obey so that one run serves it
pub record NearMoveLaws {F : Type 0} (move : NearMove F) : Type 0 where
  -- what is said of a model is said of each same model
  pub same_least : (w : Within) (m n : Meaning) → IsSame m n → (g : PolicyGraph) (v : PolicyVectors) (by : ℤ)
      → move.IsLeast (models_near w (table_of m)) (controller_of (table_of m) g v) v by → move.IsLeast (models_near w (table_of n)) (controller_of (table_of n) g v) v by
  pub same_pass : (w : Within) (m n : Meaning) → IsSame m n → (g : PolicyGraph) (v : PolicyVectors)
      → move.Pass (models_near w (table_of m)) (controller_of (table_of m) g v) → move.Pass (models_near w (table_of n)) (controller_of (table_of n) g v)
  -- whatever three texts denote, it promises this if its vectors pass
  pub promised : (w : Within) (model graph vectors : List ℕ)
      → ((c : RoundedCertificate move.rounding model graph vectors) → move.Pass (models_near w (table_of c.meaning)) (controller c))
      → move.Promised w model graph vectors
  -- which faults a run that moves vectors may answer
  pub one_fault : (x y : F) → move.run_fault x ≡ move.run_fault y → x ≡ y
  pub no_write : (x : F) → move.run_fault x ≡ Write → ⊥
  pub own_fault : (x : F) → move.IsRunFault (move.run_fault x) × IsNoReadFault (move.run_fault x)
  pub write_fault : move.IsRunFault Write
  pub read_fault : (fault : RunFault) → IsReadFault fault → move.IsRunFault fault
