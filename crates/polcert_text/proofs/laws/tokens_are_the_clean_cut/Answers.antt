use Rattle.polcert_text.proofs.Scanning.CleanCut.{clean_cut, clean_tokens}
use Rattle.polcert_text.proofs.laws.tokens_are_the_clean_cut.Goals as goal

pub returns : goal.returns
returns c = record { cut = clean_cut; tokens = clean_tokens }
