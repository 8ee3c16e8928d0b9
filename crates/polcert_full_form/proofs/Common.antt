-- The names of std and of specs that several proofs of this crate cite, passed on from one place. Declares nothing.
pub use Rattle.polcert_cells.specs.BorrowedRows.{reached}
pub use Rattle.polcert_cells.specs.Cells.{covers, is_table, reward, value_or, weight, weight_of}
pub use Rattle.polcert_cells.specs.Cursors.{IsNext}
pub use Rattle.polcert_cells.specs.Elements.{AreElements, by_number, count_of, counted, most_actions, most_elements, most_observations}
pub use Rattle.polcert_cells.specs.Elements.{most_states}
pub use Rattle.polcert_cells.specs.Entry.{IsBody, MayBeGiven, cells_in, forms}
pub use Rattle.polcert_cells.specs.Meaning.{HasLimitedNumbers, HasProperRows, IsSame, Meaning, actions_of, meaning_of, observation_weight}
pub use Rattle.polcert_cells.specs.Meaning.{observations_of, states_of}
pub use Rattle.polcert_cells.specs.Numbers.{AreNumbers, one}
pub use Rattle.polcert_cells.specs.Preamble.{Preamble, columns, dimensions, is_mdp, named, observed, rewarded}
pub use Rattle.polcert_cells.specs.Start.{IsStart, IsStartBody, all_states, equal_weights, included, is_level, shares_of}
pub use Rattle.polcert_cells.specs.Words.{IsName, begins_item, topic}
unfoldable pub use Rattle.polcert_cells.specs.Words.{topic_of}
pub use Rattle.polcert_cells.specs.declared.elements.Elements.{Elements}
pub use Rattle.polcert_cells.specs.declared.elements.Elements.TheVariants.{Count, Names}
pub use Rattle.polcert_cells.specs.declared.elements.StartWeights.{StartWeights}
pub use Rattle.polcert_cells.specs.declared.entries.Body.{Body}
pub use Rattle.polcert_cells.specs.declared.entries.Body.TheVariants.{Probabilities, Rewards, Uniform}
pub use Rattle.polcert_cells.specs.declared.entries.Entry.{Entry}
pub use Rattle.polcert_cells.specs.declared.entries.Place.TheVariants.{Only}
pub use Rattle.polcert_cells.specs.declared.entries.Table.{Table}
pub use Rattle.polcert_cells.specs.declared.entries.Table.TheVariants.{Observation, Reward, Transition}
pub use Rattle.polcert_cells.specs.declared.words.Topic.{Topic}
pub use Rattle.polcert_cells.specs.declared.words.Topic.TheVariants.{Start}
pub use Rattle.polcert_format.specs.FullForm.{all_below, cell_text, chosen_states, element_words, for_each, full_form, is_choice}
pub use Rattle.polcert_format.specs.FullForm.{is_decimal}
pub use Rattle.polcert_format.specs.FullForm.{is_uniform, is_uniform_start, is_zero, millionths_text, observations_line, observations_text}
pub use Rattle.polcert_format.specs.FullForm.{preamble_text, reward_words, rewards_from, rewards_row, rewards_text, row_text, row_words}
pub use Rattle.polcert_format.specs.FullForm.{start_text, table_word, transitions_text, values, written}
pub use Rattle.polcert_format.specs.Items.{Item, lexemes_of}
pub use Rattle.polcert_format.specs.Printable.{IsPrintable}
pub use Rattle.polcert_format.specs.Text.{AreRight, IsComplete, IsModelText, IsRight, ModelSoFar, nothing_known}
pub use Rattle.polcert_format.specs.Writable.{IsEndObserved, IsMillionthsStart, IsWritable, IsWritableName}
pub use Rattle.polcert_full_form.specs.Steps.PrintedRows.{column_text, rewarded_text, row_rewards, row_weights, row_width, zero_text}
pub use Rattle.polcert_full_form.specs.Steps.Printing.{IsFilled, after_blank, block_text, cell_line, name_text, number_text}
pub use Rattle.polcert_full_form.specs.Steps.Printing.{reward_row_text, share_of, values_line}
pub use Rattle.polcert_tables.specs.Contents.{meaning}
unfoldable pub use Rattle.polcert_text.specs.Bytes.{is_digit, is_exponent_mark, is_letter, is_name_byte, is_point}
pub use Rattle.polcert_text.specs.Cut.{IsCut, Lexeme, text_limit}
unfoldable pub use Rattle.polcert_text.specs.Lexemes.{kind_of}
pub use Rattle.polcert_text.specs.Lines.{line}
pub use Rattle.polcert_text.specs.Millionths.{scaled_text, unsigned_text}
pub use Rattle.polcert_text.specs.Numbers.{largest}
pub use Rattle.polcert_text.specs.Sink.{WritesText}
pub use Rattle.polcert_text.specs.declared.tokens.TokenKind.TheVariants.{Colon, Name, Numeral}
pub use Rattle.std.proofs.lemmas.Bool.Decides.{nat_tests}
pub use Rattle.std.proofs.lemmas.Int.{to_z_pos}
pub use Rattle.std.proofs.lemmas.List.Elements.{All-cons, All-head, All-nil, All-tail}
pub use Rattle.std.proofs.lemmas.List.FromFn.{get_or-map-range_with_len}
pub use Rattle.std.proofs.lemmas.List.Sums.{sum-map, sum_by-cons}
pub use Rattle.std.proofs.lemmas.Nat.{div_below}
pub use Rattle.std.specs.List.{list_all, list_any, range_with_len}
pub use Rattle.std.specs.Option.{ForSome}
