-- The names of specs that several proofs of this crate cite, passed on from one place. Declares nothing.
pub use Rattle.polcert_answer.specs.Answer.{HasGraph}
pub use Rattle.polcert_answer.specs.Lines.{count_text, lack_line, long_line, short_line}
pub use Rattle.polcert_answer.specs.Steps.Reading.{AreDenoted, IsGraphReadFault, IsNoReadFault, IsVectorsReadFault}
pub use Rattle.polcert_answer.specs.declared.fault.Fault.TheVariants.{Graph, Model, Vectors}
pub use Rattle.polcert_answer.specs.declared.fault.RunFault.TheVariants.{Text}
pub use Rattle.polcert_cells.specs.Meaning.{IsSame, Meaning, states_of}
pub use Rattle.polcert_cells.specs.Tables.{CellTable, IsWithinLimits, table_of}
pub use Rattle.polcert_check.specs.Horizon.{Controller, Fits, controller_of, one}
pub use Rattle.polcert_model.specs.Contents.{meaning}
pub use Rattle.polcert_policy.specs.Graphs.{IsProperGraph, PolicyGraph, nodes}
pub use Rattle.polcert_policy.specs.Vectors.{AreProperVectors, PolicyVectors}
pub use Rattle.polcert_robust.specs.Intervals.{IntervalTable, LiesWithin, around, negated}
pub use Rattle.polcert_robust_answer.specs.Near.{NearSide, models_near}
pub use Rattle.polcert_robust_answer.specs.declared.within.Within.{Within}
