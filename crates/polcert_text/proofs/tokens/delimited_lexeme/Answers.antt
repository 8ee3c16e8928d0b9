use Rattle.polcert_text.proofs.tokens.delimited_lexeme.Goals as goal

pub returns-in-Some : goal.returns-in-Some
returns-in-Some c = c.in-Some.ensures.within
