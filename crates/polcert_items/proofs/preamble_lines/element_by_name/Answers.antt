use Rattle.polcert_items.proofs.Common.{lexeme_of}
use Rattle.std.proofs.Common.{◌∙◌, sym}
use Rattle.polcert_items.proofs.WantLaws.{unknown_name}
use Rattle.polcert_items.proofs.preamble_lines.element_by_name.Goals as goal

pub returns-in-None-clause-kind : goal.returns-in-None-clause-kind
returns-in-None-clause-kind c = unknown_name (lexeme_of c.args.token) c.requires.name (sym c.is_reserved.ensures ∙ c.if-is_reserved.false)
