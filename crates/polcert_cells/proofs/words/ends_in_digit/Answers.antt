use Rattle.std.proofs.Common.{◌∙◌, sym}
use Rattle.polcert_cells.proofs.WordLaws.{digit_is_free}
use Rattle.polcert_cells.proofs.words.ends_in_digit.Goals as goal

pub returns : goal.returns
returns c = λ ends. digit_is_free c.args.word.now (sym c.is_ascii_digit.ensures.value ∙ ends)
