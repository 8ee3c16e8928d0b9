-- One more lexeme: what each reader of items says of it.
-- Nobody has to believe this: only contracts of the readers of items cite it.
use Rattle.std.specs.Prelude.{◌≡◌, ℕ, List, [], ◌∷◌, ◌++◌, None, Result, IfOk, OnOk, IfErr, OnErr}
use Rattle.polcert_text.specs.Cut.{Lexeme}
use Rattle.polcert_format.specs.declared.fault.ItemFault.{ItemFault}
use Rattle.polcert_format.specs.KnownPreamble.{preamble_in}
use Rattle.polcert_format.specs.Misfits.{Expected, unexpected_token, IsMisfit}
use Rattle.polcert_format.specs.Text.{ModelSoFar}
use Rattle.polcert_cells.specs.Elements.{count_of}
use Rattle.polcert_cells.specs.declared.elements.Elements.{Elements}
use Rattle.polcert_cells.specs.declared.words.Topic.{Topic}
use Rattle.polcert_items.specs.declared.entry_reader.EntryReader.{EntryReader}
use Rattle.polcert_items.specs.declared.signed_number.Refusal.{Refusal}
use Rattle.polcert_items.specs.declared.start_reader.StartReader.{StartReader}
use Rattle.polcert_items.specs.declared.item.FeedError.{FeedError}
use Rattle.polcert_items.specs.Steps.Entries.{EntryGoes, IfRefused}
use Rattle.polcert_items.specs.Steps.Items.{IsEndReason}
use Rattle.polcert_items.specs.Steps.Lines.{TakesLexeme, CannotTake, CannotEnd}
use Rattle.polcert_items.specs.Steps.Start.{StartGoes, IsStartWithin, HasReadStart, IsStartReason, IsStop, IsDue, start_sign}
use Rattle.polcert_items.specs.Steps.Wants.{ExpectsNext, expected_by_entry, expected_by_start}

-- A reader whose state continues so, and wants this, takes the lexeme; or nothing continues with it, and it is refused for such a reason.
-- (What holds of an error that is a refusal is said by `If`: another error is out of memory.)
pub record IsTokenStep {S V E : Type 0} (If : E → (Refusal → Type 0) → Type 0) (Goes : S → List Lexeme → V → Type 0) (wants : S → List Lexeme → Expected)
    (Reason : Lexeme → ItemFault → ℕ → Type 0) (old : S) (l : Lexeme) (new : S) (result : Result Unit E) : Type 0 where
  -- what continues after the lexeme is what went on from before it
  pub takes : OnOk result (TakesLexeme Goes old l new)
  -- and what is wanted there is what was wanted before it
  pub leads : OnOk result (ExpectsNext (wants old) l (wants new))
  pub refused : IfErr result (λ e. If e (λ r. CannotTake Goes old l))
  pub reason : IfErr result (λ e. If e (λ r. Reason l r.kind r.place))
  pub kind : IfErr result (λ e. If e (λ r. IsMisfit (wants old []) l r.kind))

-- an error that is a refusal
abbrev pub IfRefusal : Refusal → (Refusal → Type 0) → Type 0
IfRefusal r P = P r

-- an entry's reader, with this known
abbrev pub IsEntryStep : ModelSoFar → (Lexeme → ItemFault → ℕ → Type 0) → EntryReader → Lexeme → EntryReader → Result Unit FeedError → Type 0
IsEntryStep k Reason old l new result = IsTokenStep IfRefused (EntryGoes (preamble_in k)) (expected_by_entry (preamble_in k)) Reason old l new result

-- A line whose state continues so, and wants this, ends with what it says; or nothing ends it here, for a reason of its topic.
pub record EndsLine {S V : Type 0} (Goes : S → List Lexeme → V → Type 0) (wants : S → List Lexeme → Expected)
    (topic : Topic) (s : S) (result : Result V ItemFault) : Type 0 where
  pub said : IfOk result (Goes s [])
  pub refused : OnErr result (CannotEnd Goes s)
  pub reason : IfErr result (IsEndReason topic)
  pub kind : IfErr result (λ kind. kind ≡ unexpected_token (wants s []) None)

-- a start item's reader took one more lexeme, with these states
pub record IsStartFed (states : Elements) (old : StartReader) (l : Lexeme) (new : StartReader) : Type 0 where
  pub within : IsStartWithin states new
  pub takes : TakesLexeme (StartGoes states) old l new
  pub seen : (body : List Lexeme) → HasReadStart (count_of states) body old → HasReadStart (count_of states) (body ++ l ∷ []) new
  pub leads : ExpectsNext (expected_by_start (count_of states) old) l (expected_by_start (count_of states) new)

-- it cannot take the lexeme, and refuses it so
pub record RefusesInStart (states : Elements) (old : StartReader) (l : Lexeme) (r : Refusal) : Type 0 where
  pub stuck : CannotTake (StartGoes states) old l
  pub reason : (body : List Lexeme) → HasReadStart (count_of states) body old → IsStartReason (body ++ l ∷ []) r.kind r.place
  pub stops : IsStop (IsDue old l) (start_sign old) (expected_by_start (count_of states) old []) l r.kind r.place
