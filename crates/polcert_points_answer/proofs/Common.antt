-- The names of std and of specs that several proofs of this crate cite, passed on from one place. Declares nothing.
pub use Rattle.polcert_answer.specs.declared.fault.Fault.{Fault}
pub use Rattle.polcert_answer.specs.declared.fault.Fault.TheVariants.{Graph, Model, Points, Vectors}
pub use Rattle.polcert_answer.specs.declared.fault.RunFault.{RunFault}
pub use Rattle.polcert_answer.specs.declared.fault.RunFault.TheVariants.{Text, Write}
pub use Rattle.polcert_cells.specs.Meaning.{IsSame, Meaning, actions_of, observations_of, states_of}
pub use Rattle.polcert_cells.specs.Tables.{CellTable, IsProper, table_of}
pub use Rattle.polcert_model.specs.Contents.{meaning}
pub use Rattle.polcert_model.specs.Text.{IsModelText}
pub use Rattle.polcert_optimum.specs.Informed.{AreInformed}
pub use Rattle.polcert_optimum.specs.InformedCheck.{FitActions, IsInformedVerdict}
pub use Rattle.polcert_points.specs.PointTable.{FitPoints, PointTable, table_of_set}
pub use Rattle.polcert_points.specs.PointVerdict.{IsPointVerdict}
pub use Rattle.polcert_policy.specs.ActionVectors.{IsActionVectorsText}
pub use Rattle.polcert_policy.specs.Points.{PointValues}
pub use Rattle.polcert_policy.specs.PointText.{IsNoPointsText, IsPointsRefusal, IsPointsText}
pub use Rattle.polcert_policy.specs.Vectors.{PolicyVectors, value_of}
pub use Rattle.polcert_policy.specs.declared.fault.PointFault.{PointFault}
pub use Rattle.polcert_points_answer.specs.Answer.{ArePointsRefused, HasVectors, IsPointBoundAnswer, IsPointBoundFault, IsPointBoundVerdict}
pub use Rattle.polcert_points_answer.specs.Headline.{IsPointBoundMost, PointCertificate}
pub use Rattle.polcert_points_answer.specs.Lines.{IsPointBoundLine}
pub use Rattle.polcert_points_answer.specs.Run.{IsPointCheckFault, RefusesPointsRightly}
pub use Rattle.polcert_points_answer.specs.Steps.Reading.{ArePointsDenoted, IsPointReadFault, IsPointWriteFault, IsPointsReadFault}
pub use Rattle.polcert_points_answer.specs.declared.verdict.PointBoundVerdict.{PointBoundVerdict}
pub use Rattle.polcert_points_answer.specs.declared.verdict.PointBoundVerdict.TheVariants.{PointExceeded, VectorExceeded, Yes}
