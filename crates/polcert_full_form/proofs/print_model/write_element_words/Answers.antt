use Rattle.std.proofs.Common.{rules}
use Rattle.polcert_full_form.proofs.print_model.write_element_words.Goals as goal

pub returns-in-Names : goal.returns-in-Names
returns-in-Names g c = search rules
