mod Common
pub mod ItemsGoOn
pub mod ModelStreams
pub mod ReadingAhead
pub mod Refusing
pub mod RefusingEnds
pub mod Shaped
pub mod TakenItems
pub mod TextReading
pub mod WholeTexts
-- laws that crates above cite
pub use Rattle.polcert_format.proofs.LimitLaws
pub use Rattle.polcert_format.proofs.RefusalLaws
pub use Rattle.polcert_format.proofs.TextLaws
pub use Rattle.polcert_tables.proofs.FilledLaws
pub use Rattle.polcert_full_form.proofs.Printing.WrittenParts
