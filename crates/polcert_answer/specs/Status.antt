-- The exit status for a fault: 4 for out of memory, 3 for a device, 1 where the vectors can't be lowered or raised, 2 for a
-- text that is refused and for a model that is too large to print. Of a verdict: 0 for a yes, 1 for a no.
use Rattle.std.specs.Prelude.{ℕ, Result, Ok, Err}
use Rattle.polcert_format.specs.declared.fault.ModelFault.TheVariants as models
use Rattle.polcert_policy.specs.declared.fault.GraphFault.TheVariants as graphs
use Rattle.polcert_policy.specs.declared.fault.VectorFault.TheVariants as values
use Rattle.polcert_policy.specs.declared.fault.PointFault.TheVariants as points
use Rattle.polcert_check.specs.declared.fault.LowerFault.TheVariants as lowering
use Rattle.polcert_check.specs.declared.fault.RaiseFault.TheVariants as raising
use Rattle.polcert_check.specs.declared.survey.Verdict.{Verdict}
use Rattle.polcert_check.specs.declared.survey.Verdict.TheVariants.{Yes}
use Rattle.polcert_check.specs.declared.above.AboveVerdict.{AboveVerdict}
use Rattle.polcert_check.specs.declared.above.AboveVerdict.TheVariants as above
use Rattle.polcert_answer.specs.declared.fault.Fault.{Fault}
use Rattle.polcert_answer.specs.declared.fault.Fault.TheVariants.{Model, Graph, Vectors, Points}
use Rattle.polcert_answer.specs.declared.fault.RunFault.{RunFault}
use Rattle.polcert_answer.specs.declared.fault.RunFault.TheVariants.{Text, ReadModel, ReadGraph, ReadVectors, ReadPoints, Write, Lower, Raise, TooLargeToPrint}

abbrev pub text_status : Fault → ℕ
text_status (Model models.Memory) = 4
text_status (Graph graphs.Memory) = 4
text_status (Vectors values.Memory) = 4
text_status (Points points.Memory) = 4
text_status _ = 2

abbrev pub status : RunFault → ℕ
status (Text fault) = text_status fault
status ReadModel = 3
status ReadGraph = 3
status ReadVectors = 3
status ReadPoints = 3
status Write = 3
status (Lower lowering.Memory) = 4
status (Lower _) = 1
status (Raise raising.Memory) = 4
status (Raise _) = 1
status TooLargeToPrint = 2

-- of a run that answers a status, or stops
abbrev pub run_status : Result ℕ RunFault → ℕ
run_status (Ok n) = n
run_status (Err fault) = status fault

abbrev pub verdict_status : Verdict → ℕ
verdict_status Yes = 0
verdict_status _ = 1

abbrev pub above_verdict_status : AboveVerdict → ℕ
above_verdict_status above.Yes = 0
above_verdict_status _ = 1
