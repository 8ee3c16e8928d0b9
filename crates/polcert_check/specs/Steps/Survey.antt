-- Helper definitions of private functions: what the walk over pairs knows of an action. Nobody has to believe them.
use Rattle.std.specs.Prelude.{◌≡◌, ℕ, true}
use Rattle.polcert_cells.specs.Tables.{CellTable}
use Rattle.polcert_check.specs.Steps.Factored.{factored_reward, AreKnown, AreMarked, HasSameRows}
use Rattle.polcert_check.specs.declared.survey.SurveyState.{SurveyState}

-- rewards and marks are those of action a, the rewards as far as they are known
pub record IsPrepared (m : CellTable) (a : ℕ) (survey : SurveyState) : Type 0 where
  pub rewards : AreKnown (factored_reward m a) m.states survey.earnings.rewards
  pub marks : AreMarked m a m.states survey.reached.marks
  pub same : survey.reached.has_same_rows ≡ true → HasSameRows m a

-- if anything is known, it is of action a
abbrev pub IsOfAction : CellTable → ℕ → SurveyState → Type 0
IsOfAction m a survey = survey.reached.is_known ≡ true → IsPrepared m a survey
