-- The names of std and of specs that several proofs of this crate cite, passed on from one place. Declares nothing.
pub use Rattle.polcert_cells.specs.Elements.{StandsFor, count_of, most_actions, most_observations, most_states}
pub use Rattle.polcert_cells.specs.Entry.{IsPlace, cells_in}
pub use Rattle.polcert_cells.specs.EntryRefs.{body_of, entry_of}
pub use Rattle.polcert_cells.specs.Numbers.{AreNumbers, IsMillionths, IsWhole, one}
pub use Rattle.polcert_cells.specs.Preamble.{Preamble, dimensions, is_mdp}
pub use Rattle.polcert_cells.specs.Start.{IsStart, IsStartBody, all_states, is_level, plain, shares_of, single}
pub use Rattle.polcert_cells.specs.Steps.Sound.{IsSound}
pub use Rattle.polcert_cells.specs.Words.{IsName, IsWord, begins_item}
unfoldable pub use Rattle.polcert_cells.specs.Words.{is_reserved}
pub use Rattle.polcert_cells.specs.declared.elements.Elements.{Elements}
pub use Rattle.polcert_cells.specs.declared.elements.Elements.TheVariants.{Count}
pub use Rattle.polcert_cells.specs.declared.elements.StartWeights.{StartWeights}
pub use Rattle.polcert_cells.specs.declared.entries.Body.{Body}
pub use Rattle.polcert_cells.specs.declared.entries.Entry.{Entry}
pub use Rattle.polcert_cells.specs.declared.entries.Place.{Place}
pub use Rattle.polcert_cells.specs.declared.entries.Place.TheVariants.{Every, Only}
pub use Rattle.polcert_cells.specs.declared.entries.Table.{Table}
pub use Rattle.polcert_cells.specs.declared.entries.Table.TheVariants.{Observation, Reward, Transition}
pub use Rattle.polcert_cells.specs.declared.words.Topic.TheVariants.{Start}
pub use Rattle.polcert_format.specs.FirstNumber.{BeginsWithDigits, BeginsWithNumber, IsLate, states_known}
pub use Rattle.polcert_format.specs.Forms.{IsStartBodyForm, IsStartForm}
pub use Rattle.polcert_format.specs.KnownPreamble.{indices_in, named_in, preamble_in}
pub use Rattle.polcert_format.specs.Misfits.{Expected, IsMisfit, begins_number}
pub use Rattle.polcert_format.specs.Reasons.{IsNoFraction, IsRefusedNumber, ends_in_sign, is_sign_kind}
pub use Rattle.polcert_format.specs.Text.{ModelSoFar}
pub use Rattle.polcert_format.specs.Wants.{least_written, numbers_want}
pub use Rattle.polcert_format.specs.declared.fault.ItemFault.{ItemFault}
pub use Rattle.polcert_format.specs.declared.fault.ItemFault.TheVariants.{DuplicateName, IndexOutOfRange, Number, ProbabilityRange}
pub use Rattle.polcert_items.specs.Steps.Ahead.{AreTaken, BeginWithPlace, FedAhead, IsFed, IsListFed, StepsAhead, more, none}
pub use Rattle.polcert_items.specs.Steps.CellBudget.{IsCoveringOf, most_covered, nonzero_cells}
pub use Rattle.polcert_items.specs.Steps.Elements.{AreElementsSeen, AreNamesRead, ElementsReason, NamesGo}
pub use Rattle.polcert_items.specs.Steps.Entries.{AreBegun, CannotBegin, EntryGoes, HasRoom, IfRefused, IsFirstPlace, IsFull, IsListReason}
pub use Rattle.polcert_items.specs.Steps.Entries.{IsStateWithin, IsWithinIndices, IsWordAfter, NumberListGoes, ProbabilitiesGo, entry_sign}
pub use Rattle.polcert_items.specs.Steps.Entries.{entry_with, no_numbers}
pub use Rattle.polcert_items.specs.Steps.Feeding.{IsStartFed, RefusesInStart}
pub use Rattle.polcert_items.specs.Steps.Items.{IsItemWithin, IsSeen, ItemForms, ItemGoes, pending_in, topic_of_reader}
pub use Rattle.polcert_items.specs.Steps.Lines.{CannotEnd, CannotTake, TakesLexeme}
pub use Rattle.polcert_items.specs.Steps.Numbers.{AreNumbersAfter, FitsRange, IsNoNumber, IsSignAt, ListKind, SignIs, is_minus_sign}
pub use Rattle.polcert_items.specs.Steps.Numbers.{signed_place, of_probabilities, of_rewards}
pub use Rattle.polcert_items.specs.Steps.Start.{AreStartDigits, AreStartNumbers, AreUnmarked, Begins, CanStillBeRight, DigitsGo}
pub use Rattle.polcert_items.specs.Steps.Start.{HasReadStart}
pub use Rattle.polcert_items.specs.Steps.Start.{IsAfterColon, IsDue, IsDueNumber, IsDueValue, IsEndDue, IsFraction, IsLateEnd}
pub use Rattle.polcert_items.specs.Steps.Start.{BeginsWithListWord}
pub use Rattle.polcert_items.specs.Steps.Start.{IsOutside, IsStartReason, IsStartWithin, IsStop, IsValue, IsWordBody, NumbersGo, StartGives}
pub use Rattle.polcert_items.specs.Steps.Start.{StartGoes, StopsStart, at_once, due, first_above_0, first_of, first_of_more, is_level_at}
pub use Rattle.polcert_items.specs.Steps.Start.{marked, pending_refusal, pending_of, picks, start_sign, state_number}
pub use Rattle.polcert_items.specs.Steps.Wants.{ExpectsNext, IfStart, expected_by_numbers, expected_by_start, state_wants}
pub use Rattle.polcert_items.specs.declared.entry_reader.EntryReader.{EntryReader}
pub use Rattle.polcert_items.specs.declared.entry_reader.EntryState.{EntryState}
pub use Rattle.polcert_items.specs.declared.entry_reader.Numbers.{Numbers}
pub use Rattle.polcert_items.specs.declared.item.EndError.{EndError}
pub use Rattle.polcert_items.specs.declared.item.FeedError.{FeedError}
pub use Rattle.polcert_items.specs.declared.item.ItemReader.{ItemReader}
pub use Rattle.polcert_items.specs.declared.preamble_lines.ElementsReader.{ElementsReader}
pub use Rattle.polcert_items.specs.declared.signed_number.Range.TheVariants.{Probability}
pub use Rattle.polcert_items.specs.declared.signed_number.Refusal.{Refusal}
pub use Rattle.polcert_items.specs.declared.signed_number.Sign.{Sign}
pub use Rattle.polcert_items.specs.declared.start_reader.Selection.{Selection}
pub use Rattle.polcert_items.specs.declared.start_reader.Selection.TheVariants.{Exclude, Include}
pub use Rattle.polcert_items.specs.declared.start_reader.Chosen.{Chosen}
pub use Rattle.polcert_items.specs.declared.start_reader.FirstNumber.{FirstNumber}
pub use Rattle.polcert_items.specs.declared.start_reader.StartReader.{StartReader}
pub use Rattle.polcert_items.specs.declared.start_reader.StateOrNumber.{StateOrNumber}
pub use Rattle.polcert_text.specs.Beginning.{BeginWith, BeginWithNumber, at_offset}
unfoldable pub use Rattle.polcert_text.specs.Bytes.{is_digit}
pub use Rattle.polcert_text.specs.Cut.{Lexeme}
pub use Rattle.polcert_text.specs.Lexemes.{are_digits}
pub use Rattle.polcert_text.specs.Reading.{lexeme_of}
pub use Rattle.polcert_text.specs.declared.number.NumberFault.{NumberFault}
pub use Rattle.polcert_text.specs.declared.tokens.TokenKind.{TokenKind}
pub use Rattle.polcert_text.specs.declared.tokens.TokenKind.TheVariants.{Colon, Minus, Name, Numeral, Plus, Star}
pub use Rattle.std.proofs.lemmas.Bool.Decides.{nat_tests}
pub use Rattle.std.proofs.lemmas.Grind.{common_steps}
pub use Rattle.std.proofs.lemmas.List.{take_rest}
pub use Rattle.std.proofs.lemmas.List.Elements.{All-cons, All-head, All-nil, All-tail}
pub use Rattle.std.proofs.lemmas.List.Sums.{sum_by-cons}
pub use Rattle.std.proofs.lemmas.Result.{IfErr-weaker, err_from_is_err_and, on_ok_weaker}
pub use Rattle.std.specs.List.{list_any}
