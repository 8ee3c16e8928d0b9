use Rattle.polcert_format.proofs.SomeTokens as tokens
use Rattle.polcert_format.proofs.laws.one_list_of_tokens.Goals as goal

pub returns : goal.returns
returns c = record { some = tokens.has_tokens; one = tokens.one_list_of_tokens }
