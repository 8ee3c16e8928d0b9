use Rattle.polcert_robust.specs.Steps.KnownRewards.{AreKnownRewards}
use Rattle.polcert_robust.specs.Steps.EndMeans.{AreKept}
use Rattle.polcert_robust.specs.Steps.Pairs.{cells_of, near_controller, near_table}
use Rattle.polcert_robust.specs.Steps.Surveys.{IsSurveyedBefore}
use Rattle.polcert_robust.proofs.survey.survey_robust.Given as goal

abbrev pub invariant-loop-n : goal.invariant-loop-n
invariant-loop-n g l = record {
  surveyed : IsSurveyedBefore (near_table l.input) (near_controller l.input) l.n 0 l.findings;
  known : AreKnownRewards (cells_of l.input) l.known;
}

abbrev pub invariant-loop-s : goal.invariant-loop-s
invariant-loop-s g l = record {
  surveyed : IsSurveyedBefore (near_table l.input) (near_controller l.input) l.n l.s l.findings;
  kept : AreKept (near_table l.input) (near_controller l.input) l.n l.buffers.ends;
  known : AreKnownRewards (cells_of l.input) l.known;
}
