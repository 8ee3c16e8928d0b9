-- The forms of a start's line.
-- Nobody has to believe this file: only private functions cite it.
use Rattle.std.specs.Prelude.{ℕ, List, codes}
use Rattle.polcert_cells.specs.declared.elements.StartWeights.{StartWeights}
use Rattle.polcert_full_form.specs.declared.print_model.StartForm.{StartForm}
use Rattle.polcert_full_form.specs.declared.print_model.StartForm.TheVariants.{Chosen, Each}
use Rattle.polcert_full_form.specs.Steps.Printing.{chosen_text, share_text}

abbrev pub start_word : StartForm → List ℕ
start_word Chosen = codes "start include:"
start_word Each = codes "start:"

-- what the line says of a state
abbrev pub start_part : StartForm → StartWeights → ℕ → List ℕ
start_part Chosen = chosen_text
start_part Each = share_text
