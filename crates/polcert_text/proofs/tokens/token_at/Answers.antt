use Rattle.std.proofs.Common.{append-nil, []}
use Rattle.polcert_text.proofs.Scanning.SeenLaws.{seen_whole}
use Rattle.polcert_text.proofs.tokens.token_at.Goals as goal

pub returns : goal.returns
returns c =
    let seen = c.token_of.ensures [] (seen_whole c.args.bytes.now c.longest_lexeme.result c.longest_lexeme.ensures) in
    rw append-nil at seen
