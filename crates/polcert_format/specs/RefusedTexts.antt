-- A text that is refused.
use Rattle.std.specs.Prelude.{ℕ, List}
use Rattle.polcert_format.specs.declared.fault.ModelFault.{ModelFault}
use Rattle.polcert_format.specs.FirstWrong.{TextTokens, AreTokensOf}
use Rattle.polcert_format.specs.Refusals.{IsRefusal, IsPlacedRight, IsNoModel}

-- the text is refused for this reason: all that is promised of a refusal
pub record IsRefusedModelText (fault : ModelFault) (text : List ℕ) : Type 0 where
  pub no_model : IsNoModel text fault
  pub refusal : (ts : TextTokens) → AreTokensOf text ts → IsRefusal ts fault
  pub placed : (ts : TextTokens) → AreTokensOf text ts → IsPlacedRight ts fault
