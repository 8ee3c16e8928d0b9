-- The names of std and of specs that several proofs of this crate cite, passed on from one place. Declares nothing.
pub use Rattle.polcert_cells.specs.Preamble.{Preamble, dimensions, named}
pub use Rattle.polcert_cells.specs.Rows.{IsFirstWrongRow}
pub use Rattle.polcert_cells.specs.Words.{begins_item, topic}
pub use Rattle.polcert_cells.specs.declared.elements.Elements.{Elements}
pub use Rattle.polcert_cells.specs.declared.entries.Entry.{Entry}
pub use Rattle.polcert_cells.specs.declared.entries.Table.{Table}
pub use Rattle.polcert_cells.specs.declared.entries.Table.TheVariants.{Observation, Reward, Transition}
pub use Rattle.polcert_cells.specs.declared.words.Topic.{Topic}
pub use Rattle.polcert_cells.specs.declared.words.Topic.TheVariants.{Actions, Cells, Observations, Start, States}
pub use Rattle.polcert_format.specs.FirstNumber.{IsLate, IsLateIn, states_known}
pub use Rattle.polcert_format.specs.FirstWrong.{AreTokensOf, IsDecided, LiesInItem, TextTokens, wrong_last}
pub use Rattle.polcert_format.specs.Forms.{HasForm, IsPossible, PassesCellLimit}
pub use Rattle.polcert_format.specs.Items.{IsDivided, Item}
pub use Rattle.polcert_format.specs.KnownPreamble.{indices_in, preamble_in}
pub use Rattle.polcert_format.specs.Limits.{HasFewCells}
pub use Rattle.polcert_format.specs.Misfits.{unexpected_token}
pub use Rattle.polcert_format.specs.Order.{fault_after, preamble_fault, word_fault}
pub use Rattle.polcert_format.specs.Reasons.{IsReason}
pub use Rattle.polcert_format.specs.Text.{AreRight, IsRight, ModelSoFar, nothing_known}
pub use Rattle.polcert_format.specs.Wants.{expected}
pub use Rattle.polcert_format.specs.declared.fault.ItemFault.{ItemFault}
pub use Rattle.polcert_format.specs.declared.fault.ItemFault.TheVariants.{BadShape, BeforeFirstItem, TooManyCells}
pub use Rattle.polcert_format.specs.declared.fault.ModelFault.{ModelFault}
pub use Rattle.polcert_items.specs.Steps.Items.{HasElements, IsEndReason, IsItemWithin, IsSeen, ItemForms, ItemGoes, new_item, pending_in}
pub use Rattle.polcert_items.specs.Steps.Items.{topic_of_reader}
pub use Rattle.polcert_items.specs.Steps.Lines.{CannotEnd, TakesLexeme}
pub use Rattle.polcert_items.specs.Steps.ModelSoFar.{AreContentsOf, IsAllowedNext, IsWholeRead, said, with_item}
pub use Rattle.polcert_items.specs.Steps.Start.{IsStartReason}
pub use Rattle.polcert_items.specs.Steps.Wants.{ExpectsNext, IfStart, item_wants}
pub use Rattle.polcert_items.specs.declared.item.ItemContents.{ItemContents}
pub use Rattle.polcert_items.specs.declared.item.ItemReader.{ItemReader}
pub use Rattle.polcert_items.specs.declared.signed_number.Refusal.{Refusal}
pub use Rattle.polcert_items.specs.declared.signed_number.Sign.{Sign}
pub use Rattle.polcert_model.specs.Steps.Texts.{AreItemsRead, IsBodyRead, IsItemRead, IsRefusedAfter, IsRefusedAt, IsRefusedWhole, IsShaped}
pub use Rattle.polcert_model.specs.Steps.Texts.{IsTextOf, IsTextRead, Refuses, TextReadsOn, pending_at, tokens_end}
pub use Rattle.polcert_model.specs.declared.reader.TextReader.{TextReader}
pub use Rattle.polcert_text.specs.Cut.{IsCut, Lexeme, end_place, text_limit, text_rest}
pub use Rattle.polcert_text.specs.Reading.{lexeme_of}
pub use Rattle.polcert_text.specs.Steps.StreamTaken.{TakenFrom}
pub use Rattle.polcert_text.specs.Steps.TakenAhead.{TakesAhead}
pub use Rattle.polcert_text.specs.declared.tokens.TokenFault.{TokenFault}
pub use Rattle.std.proofs.lemmas.Result.{err_from_is_err_and}
