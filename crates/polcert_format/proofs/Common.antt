-- The names of std and of specs that several proofs of this crate cite, passed on from one place. Declares nothing.
pub use Rattle.polcert_cells.specs.Elements.{AreElements, count_of, most_actions, most_observations, most_pairs, most_states}
pub use Rattle.polcert_cells.specs.Entry.{ArePlaces, IsBody, IsEntry, forms}
pub use Rattle.polcert_cells.specs.Meaning.{IsSame, Meaning, meaning_of, observations_of, states_of, sum_below}
pub use Rattle.polcert_cells.specs.Numbers.{AreNumbers, IsMillionths}
pub use Rattle.polcert_cells.specs.Preamble.{Preamble, dimensions, observed}
pub use Rattle.polcert_cells.specs.Rows.{IsFirstWrongRow}
pub use Rattle.polcert_cells.specs.Words.{begins_item, topic}
pub use Rattle.polcert_cells.specs.declared.elements.Elements.{Elements}
pub use Rattle.polcert_cells.specs.declared.elements.StartWeights.{StartWeights}
pub use Rattle.polcert_cells.specs.declared.entries.Body.{Body}
pub use Rattle.polcert_cells.specs.declared.entries.Entry.{Entry}
pub use Rattle.polcert_cells.specs.declared.entries.Place.{Place}
pub use Rattle.polcert_cells.specs.declared.entries.Table.{Table}
pub use Rattle.polcert_cells.specs.declared.entries.Table.TheVariants.{Observation, Reward, Transition}
pub use Rattle.polcert_cells.specs.declared.words.Topic.{Topic}
pub use Rattle.polcert_cells.specs.declared.words.Topic.TheVariants.{Cells, Discount, Start}
pub use Rattle.polcert_format.specs.FirstNumber.{IsLateIn}
pub use Rattle.polcert_format.specs.FirstWrong.{AreTokensOf, IsDecided, TextTokens, text_tokens, word_place}
pub use Rattle.polcert_format.specs.Forms.{HasForm, IsPossible}
pub use Rattle.polcert_format.specs.Items.{IsDivided, IsItem, Item, lexemes_of}
pub use Rattle.polcert_format.specs.Misfits.{IsOfValue}
pub use Rattle.polcert_format.specs.Order.{preamble_fault, word_fault}
pub use Rattle.polcert_format.specs.Reading.{AreRightItems, IsWithinItem, IsWrong}
pub use Rattle.polcert_format.specs.Reasons.{IsNoFraction, IsReason, IsRefusedNumber, is_sign_kind}
pub use Rattle.polcert_format.specs.Refusals.{EndsPossible, IsOfTokens, StandsRight, Stops, StopsInBody, after_body, at_end, at_lexeme}
pub use Rattle.polcert_format.specs.Refusals.{at_number, at_once, before_body, in_body, in_item, of_first_number, of_tokens, place_or}
pub use Rattle.polcert_format.specs.Text.{AreRight, Denotes, HasLines, IsComplete, IsModelText, IsRight, IsRightText, ModelSoFar, more}
pub use Rattle.polcert_format.specs.Text.{none, nothing_known}
pub use Rattle.polcert_format.specs.declared.fault.ItemFault.{ItemFault}
pub use Rattle.polcert_format.specs.declared.fault.ItemFault.TheVariants.{DiscountRange, Number, ProbabilityRange, TooManyCells}
pub use Rattle.polcert_format.specs.declared.fault.ModelFault.{ModelFault}
pub use Rattle.polcert_text.specs.Cut.{IsCut, Lexeme, Rest, TakesToken, end_place, text_limit, text_rest}
pub use Rattle.polcert_text.specs.Numbers.{largest}
pub use Rattle.polcert_text.specs.declared.number.NumberFault.{NumberFault}
pub use Rattle.polcert_text.specs.declared.tokens.TokenFault.{TokenFault}
pub use Rattle.polcert_text.specs.declared.tokens.TokenFault.TheVariants.{TextTooLong}
pub use Rattle.polcert_text.specs.declared.tokens.TokenKind.TheVariants.{Colon, Numeral}
pub use Rattle.std.proofs.lemmas.Bool.Decides.{nat_tests}
pub use Rattle.std.proofs.lemmas.List.Elements.{All-append, All-cons, All-nil}
pub use Rattle.std.specs.List.{list_any}
