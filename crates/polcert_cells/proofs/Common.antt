-- The names of std and of specs that several proofs of this crate cite, passed on from one place. Declares nothing.
pub use Rattle.polcert_cells.specs.Cells.{covers, fit_places}
pub use Rattle.polcert_cells.specs.Elements.{Elements, StandsFor, count_of}
pub use Rattle.polcert_cells.specs.Numbers.{AreNumbers}
pub use Rattle.polcert_cells.specs.Preamble.{Preamble}
pub use Rattle.polcert_cells.specs.Sparse.{IsRow, scaled_cells, weight_at}
pub use Rattle.polcert_cells.specs.Start.{IsStart, IsStartBody, StartWeights, equal_weights, name, number, only_state, probabilities}
pub use Rattle.polcert_cells.specs.Start.{shares_of, uniform}
pub use Rattle.polcert_cells.specs.Steps.EntryLists.{AreHeldIn}
pub use Rattle.polcert_cells.specs.Words.{IsWord}
unfoldable pub use Rattle.polcert_cells.specs.Words.{is_reserved, topic_of}
pub use Rattle.polcert_cells.specs.declared.elements.Cell.{Cell}
pub use Rattle.polcert_cells.specs.declared.entries.Entry.{Entry}
pub use Rattle.polcert_cells.specs.declared.entries.EntryStore.{EntryStore}
pub use Rattle.polcert_cells.specs.declared.entries.Place.{Place}
pub use Rattle.polcert_cells.specs.declared.entries.Table.{Table}
pub use Rattle.polcert_text.specs.Cut.{Lexeme}
pub use Rattle.polcert_text.specs.declared.tokens.TokenKind.{TokenKind}
pub use Rattle.polcert_text.specs.declared.tokens.TokenKind.TheVariants.{Colon, Name, Numeral}
pub use Rattle.std.proofs.lemmas.Bool.{cases_lt}
pub use Rattle.std.proofs.lemmas.Bool.Decides.{nat_tests}
pub use Rattle.std.proofs.lemmas.List.{length-map, map-append}
pub use Rattle.std.proofs.lemmas.List.Elements.{All-cons, All-head, All-nil, All-tail}
pub use Rattle.std.proofs.lemmas.Slice.Eq.{bytes_eq-Decides}
pub use Rattle.std.specs.List.{list_any, range_with_len}
