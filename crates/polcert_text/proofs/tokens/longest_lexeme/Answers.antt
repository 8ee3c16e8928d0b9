use Rattle.polcert_text.proofs.Scanning.LexemeEnds.{scanned}
use Rattle.polcert_text.proofs.tokens.longest_lexeme.Goals as goal

pub returns : goal.returns
returns c = rw c.longest.ensures (scanned c.args.bytes.now c.scan_over.result c.scan_over.ensures.with_byte c.scan_over.ensures.all)
