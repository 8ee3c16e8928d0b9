pub mod Steps
-- what a model's text is, and how it is refused
pub use Rattle.polcert_format.specs.Items
pub use Rattle.polcert_format.specs.Text
pub use Rattle.polcert_format.specs.Order
pub use Rattle.polcert_format.specs.Laws
pub use Rattle.polcert_format.specs.Reading
pub use Rattle.polcert_format.specs.FirstWrong
pub use Rattle.polcert_format.specs.KnownPreamble
pub use Rattle.polcert_format.specs.Wants
pub use Rattle.polcert_format.specs.Misfits
pub use Rattle.polcert_format.specs.Reasons
pub use Rattle.polcert_format.specs.Refusals
pub use Rattle.polcert_format.specs.RefusedTexts
pub use Rattle.polcert_format.specs.FullForm
pub use Rattle.polcert_format.specs.Writable
pub use Rattle.polcert_format.specs.Printable
-- what is kept of it
pub use Rattle.polcert_tables.specs.Contents
pub use Rattle.polcert_tables.specs.Kept
pub use Rattle.polcert_tables.specs.Filled
