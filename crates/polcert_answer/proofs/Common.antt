-- The names of std and of specs that several proofs of this crate cite, passed on from one place. Declares nothing.
pub use Rattle.polcert_answer.specs.Answer.{AreRoundedVectorsRefused, HasGraph, IsAnswer, IsGraphRefused, IsModelFault, IsRoundedAnswer}
pub use Rattle.polcert_answer.specs.Headline.{Certificate, controller}
pub use Rattle.polcert_answer.specs.Lines.{IsAboveVerdictLine, IsVerdictLine, count_text, line_text}
pub use Rattle.polcert_answer.specs.Run.{HoldsOfTexts, IsCheckRunFault, IsNamedRightly, ReadsInOrder, RefusesRightly, WritesAnswer}
pub use Rattle.polcert_answer.specs.Side.{Side}
pub use Rattle.polcert_answer.specs.Steps.Laws.{SideLaws}
pub use Rattle.polcert_answer.specs.Steps.Reading.{AreDenoted, AreWrittenMoved, IsGraphReadFault, IsNoReadFault}
pub use Rattle.polcert_answer.specs.declared.fault.Fault.{Fault}
pub use Rattle.polcert_answer.specs.declared.fault.Fault.TheVariants.{Graph, Model, Points, Vectors}
pub use Rattle.polcert_answer.specs.declared.fault.RunFault.{RunFault}
pub use Rattle.polcert_answer.specs.declared.fault.RunFault.TheVariants.{Text, Write}
pub use Rattle.polcert_cells.specs.Meaning.{IsSame, Meaning, observations_of, states_of}
pub use Rattle.polcert_cells.specs.Tables.{CellTable, table_of}
pub use Rattle.polcert_check.specs.Above.{IsAboveVerdict}
pub use Rattle.polcert_check.specs.Horizon.{Controller, controller_of}
pub use Rattle.polcert_check.specs.Verdict.{IsVerdict}
pub use Rattle.polcert_check.specs.declared.above.AboveVerdict.TheVariants.{Yes}
pub use Rattle.polcert_format.specs.declared.fault.ModelFault.{ModelFault}
pub use Rattle.polcert_model.specs.Contents.{meaning}
pub use Rattle.polcert_model.specs.Refusals.{SaysOfText}
pub use Rattle.polcert_model.specs.Text.{IsModelText}
pub use Rattle.polcert_policy.specs.FullForm.{vectors_text}
pub use Rattle.polcert_policy.specs.GraphText.{IsGraphText, IsNoGraphText}
pub use Rattle.polcert_policy.specs.Graphs.{IsProperGraph, PolicyGraph, nodes}
pub use Rattle.polcert_policy.specs.VectorText.{IsNoRoundedVectorsText, IsRoundedVectorsText}
pub use Rattle.polcert_policy.specs.Vectors.{PolicyVectors}
pub use Rattle.polcert_policy.specs.declared.fault.GraphFault.{GraphFault}
pub use Rattle.polcert_policy.specs.declared.fault.VectorFault.{VectorFault}
pub use Rattle.polcert_text.specs.Millionths.{scaled_text}
pub use Rattle.polcert_text.specs.Sink.{Takes}
pub use Rattle.polcert_text.specs.declared.number.Rounding.{Rounding}
pub use Rattle.polcert_text.specs.declared.number.Rounding.TheVariants.{Down, Up}
pub use Rattle.std.proofs.Math.Path.{subst⁻¹}
