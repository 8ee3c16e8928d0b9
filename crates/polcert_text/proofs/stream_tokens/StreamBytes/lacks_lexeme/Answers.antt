use Rattle.std.proofs.Common.{rules}
use Rattle.polcert_text.proofs.stream_tokens.StreamBytes.lacks_lexeme.Goals as goal

pub returns-clause-has : goal.returns-clause-has
returns-clause-has c = search rules
