-- The rows that the code lends while it writes them, and the parts of their text.
-- Nobody has to believe this file: only private functions cite it.
use Rattle.std.specs.Prelude.{ℕ, ◌+◌, List, ℤ, pos}
use Rattle.polcert_tables.specs.Contents.{meaning}
use Rattle.polcert_tables.specs.Steps.RowSums.{row_of}
use Rattle.polcert_format.specs.FullForm.{for_each, cell_text}
use Rattle.polcert_full_form.specs.declared.weight_row.WeightRow.{WeightRow}
use Rattle.polcert_full_form.specs.declared.weight_row.ColumnForm.{ColumnForm}
use Rattle.polcert_full_form.specs.declared.weight_row.ColumnForm.TheVariants.{Decimals, Cells}
use Rattle.polcert_full_form.specs.declared.reward_row.WrittenRewards.{WrittenRewards}
use Rattle.polcert_full_form.specs.Steps.Printing.{number_text, decimal_text, cell_line, body_text, reward_columns, printed_reward, reward_text, reward_row_text}

-- ---- a row of T or O
-- its weights, by column
abbrev pub row_weights : WeightRow → ℕ → ℕ
row_weights r = row_of r.model.now.kept r.table r.action r.state

-- what stands after the line of its indices
abbrev pub row_body : WeightRow → List ℕ
row_body r = body_text r.table r.action r.state r.columns (row_weights r)

-- a column
abbrev pub column_text : ColumnForm → WeightRow → ℕ → List ℕ
column_text Decimals r = decimal_text r.columns (row_weights r)
column_text Cells r = cell_text r.table r.action r.state r.columns (row_weights r)

-- a column whose weight is 0
abbrev pub zero_text : ColumnForm → WeightRow → ℕ → List ℕ
zero_text Decimals r = λ c. number_text c (pos 0)
zero_text Cells r = λ c. cell_line r.table r.action r.state c (pos 0)

-- this many of these, from this column on
abbrev pub zeros_from : ColumnForm → WeightRow → ℕ → ℕ → List ℕ
zeros_from form r first count = for_each count (λ i. zero_text form r (first + i))

-- ---- a row of rewards
abbrev pub row_width : WrittenRewards → ℕ
row_width r = reward_columns (meaning r.model.now) r.end

-- its rewards, by column
abbrev pub row_rewards : WrittenRewards → ℕ → ℤ
row_rewards r = printed_reward (meaning r.model.now) r.action r.start r.end

-- the reward in this column, as the text gives it
abbrev pub rewarded_text : WrittenRewards → ℕ → List ℕ
rewarded_text r = reward_text (meaning r.model.now).preamble.costs (row_rewards r)

abbrev pub paid_row_text : WrittenRewards → List ℕ
paid_row_text r = reward_row_text (meaning r.model.now) r.action r.start r.end
