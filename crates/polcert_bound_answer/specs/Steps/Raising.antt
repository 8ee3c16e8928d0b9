-- Helper definitions of private functions: what raising comes to. Nobody has to believe them.
use Rattle.std.specs.Prelude.{◌≡◌, ℕ, ℤ, List}
use Rattle.polcert_cells.specs.Meaning.{Meaning, states_of, actions_of}
use Rattle.polcert_cells.specs.Tables.{table_of}
use Rattle.polcert_policy.specs.Vectors.{PolicyVectors, value_of, shifted_by}
use Rattle.polcert_policy.specs.ActionVectors.{action_graph, IsActionVectorsText}
use Rattle.polcert_policy.specs.FullForm.{vectors_text}
use Rattle.polcert_optimum.specs.Informed.{AreInformed}
use Rattle.polcert_optimum.specs.InformedRaise.{IsRaiseConstant}

-- This is the least constant by which these vectors can be raised to pass, and the text is the full form of the raised ones, which reads
-- back.
pub record AreBoundRaised (m : Meaning) (v : PolicyVectors) (by : ℤ) (text : List ℕ) : Type 0 where
  pub constant : IsRaiseConstant (table_of m) v by
  pub text_is : text ≡ vectors_text (action_graph (actions_of m)) (shifted_by v by)
  pub informed : AreInformed (table_of m) (value_of (shifted_by v by))
  pub reads_back : IsActionVectorsText (actions_of m) (states_of m) text (shifted_by v by)
