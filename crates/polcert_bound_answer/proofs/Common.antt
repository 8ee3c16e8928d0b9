-- The names of std and of specs that several proofs of this crate cite, passed on from one place. Declares nothing.
pub use Rattle.polcert_answer.specs.declared.fault.Fault.{Fault}
pub use Rattle.polcert_answer.specs.declared.fault.Fault.TheVariants.{Graph, Model, Points, Vectors}
pub use Rattle.polcert_answer.specs.declared.fault.RunFault.{RunFault}
pub use Rattle.polcert_answer.specs.declared.fault.RunFault.TheVariants.{Text}
pub use Rattle.polcert_bound_answer.specs.Answer.{AreActionVectorsRefused, IsBoundAnswer, IsBoundFault}
pub use Rattle.polcert_bound_answer.specs.Headline.{BoundCertificate}
pub use Rattle.polcert_bound_answer.specs.Run.{IsBoundCheckFault, RefusesBoundRightly}
pub use Rattle.polcert_bound_answer.specs.Inputs.{AreBoundDenoted, IsBoundReadFault}
pub use Rattle.polcert_bound_answer.specs.Steps.Reading.{IsBoundWriteFault}
pub use Rattle.polcert_cells.specs.Meaning.{IsSame, Meaning, actions_of, states_of}
pub use Rattle.polcert_cells.specs.SameCells.{HasSameCells}
pub use Rattle.polcert_cells.specs.Tables.{CellTable, IsProper, table_of}
pub use Rattle.polcert_model.specs.Contents.{meaning}
pub use Rattle.polcert_model.specs.Text.{IsModelText}
pub use Rattle.polcert_optimum.specs.Informed.{AreInformed, IsInformed}
pub use Rattle.polcert_optimum.specs.InformedCheck.{FitActions, IsInformedVerdict}
pub use Rattle.polcert_optimum.specs.Seen.{IsBoundStartMost}
pub use Rattle.polcert_optimum.specs.declared.verdict.InformedVerdict.{InformedVerdict}
pub use Rattle.polcert_optimum.specs.declared.verdict.InformedVerdict.TheVariants.{Exceeded, Yes}
pub use Rattle.polcert_policy.specs.ActionVectors.{IsActionVectorsText, IsNoActionVectorsText, action_graph}
pub use Rattle.polcert_policy.specs.Vectors.{PolicyVectors, shifted_by, value_of}
pub use Rattle.polcert_policy.specs.declared.fault.VectorFault.{VectorFault}
pub use Rattle.polcert_text.specs.Millionths.{scaled_text}
pub use Rattle.polcert_text.specs.declared.number.Rounding.TheVariants.{Up}
pub use Rattle.std.proofs.Math.Path.{subst⁻¹}
