use Rattle.polcert_items.proofs.Common.{lexeme_of, Include, Exclude}
use Rattle.polcert_items.proofs.StartForms.{colon_begins, list_begins}
use Rattle.polcert_items.proofs.start_reader.form_of.Goals as goal

pub returns-then-is_word-clause-begun : goal.returns-then-is_word-clause-begun
returns-then-is_word-clause-begun c = λ states. list_begins states (lexeme_of c.args.token) Include (c.is_word.ensures.0 c.if-is_word.true)

pub returns-then-is_word-2-clause-begun : goal.returns-then-is_word-2-clause-begun
returns-then-is_word-2-clause-begun c = λ states. list_begins states (lexeme_of c.args.token) Exclude
    (c.is_word-2.ensures.0 c.if-is_word-2.true)

pub returns-clause-begun : goal.returns-clause-begun
returns-clause-begun c = λ states. colon_begins states (lexeme_of c.args.token) c.in_ok-take_colon.ensures.ok
