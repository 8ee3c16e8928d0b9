-- The names of std and of specs that several proofs of this crate cite, passed on from one place. Declares nothing.
pub use Rattle.polcert_cells.specs.Elements.{StandsFor, by_name}
pub use Rattle.polcert_cells.specs.Entry.{ArePlaces, IsBody, IsEntry}
pub use Rattle.polcert_cells.specs.Numbers.{none, unsigned}
pub use Rattle.polcert_cells.specs.Preamble.{dimensions}
pub use Rattle.polcert_cells.specs.Words.{IsName}
unfoldable pub use Rattle.polcert_cells.specs.Words.{topic_of}
pub use Rattle.polcert_cells.specs.declared.entries.Body.TheVariants.{Probabilities}
pub use Rattle.polcert_cells.specs.declared.entries.Entry.{Entry}
pub use Rattle.polcert_cells.specs.declared.words.Topic.TheVariants.{Discount}
unfoldable pub use Rattle.polcert_check.specs.Horizon.{one}
pub use Rattle.polcert_examples.specs.Worked.Examples.{name, numeral, whole}
pub use Rattle.polcert_examples.specs.Worked.RefusedExamples.{numeral_at}
pub use Rattle.polcert_examples.specs.Worked.Tiger.{minus_whole}
pub use Rattle.polcert_format.specs.Items.{IsDivided, Item}
pub use Rattle.polcert_format.specs.Text.{ModelSoFar, nothing_known}
pub use Rattle.polcert_text.specs.Cut.{Lexeme}
pub use Rattle.std.proofs.lemmas.List.Elements.{All-from_recursion}
pub use Rattle.std.specs.List.{list_any}
