-- What the places of numbers and entries are for, step by step, and the kind of a refusal where something else is found.
use Rattle.std.proofs.Common.{◌≡◌, ℕ, ◌≤◌, true, false, None, List, [], ◌∷◌, ◌++◌, length, drop, arith, length-append, ◌≢◌}
use Rattle.std.proofs.Common.{bytes_eq, Some, codes}
use Rattle.polcert_items.proofs.Common.{Lexeme, TokenKind, DuplicateName, Table, Numbers, EntryReader, Preamble, is_mdp, dimensions}
use Rattle.polcert_items.proofs.Common.{cells_in, least_written, numbers_want, no_numbers, Expected, begins_number, IsMisfit, ExpectsNext}
use Rattle.polcert_items.proofs.Common.{expected_by_numbers, Name, Numeral, ItemFault, is_reserved, IsName, ElementsReason}
use Rattle.polcert_format.specs.declared.fault.ItemFault.TheVariants.{WrongNumberCount, BadCount, UnknownName}
use Rattle.polcert_format.specs.Wants.{by_kind, entry_wants}
use Rattle.polcert_format.specs.Misfits.{unexpected_token, Index, FurtherName, CountOrName}
use Rattle.polcert_items.specs.Steps.Wants.{expected_by_entry}
use Rattle.polcert_items.proofs.PatternLaws.{BeginsNumber}
use Rattle.polcert_items.specs.declared.preamble_lines.ElementsReader.TheVariants.{Named}
use Rattle.polcert_text.specs.declared.tokens.TokenKind.TheVariants as kinds
use Rattle.polcert_items.specs.declared.entry_reader.EntryState.TheVariants as states

-- ---- numbers

pub list_numeral_leads : {T : Type 0} (n : Numbers T) (l : Lexeme) (read : List T) (v : T) → l.kind ≡ kinds.Numeral
    → read ≡ n.read ++ v ∷ [] → ExpectsNext (expected_by_numbers n) l (expected_by_numbers (record n { read = read; sign = None }))
list_numeral_leads = grind (arith, length-append)

-- ---- entries

module _ (preamble : Preamble) (table : Table) (written : ℕ) (l : Lexeme) where
  pub colon_leads : l.kind ≡ kinds.Colon
      → ExpectsNext (entry_wants preamble table false written) l (entry_wants preamble table true written)
  colon_leads e = record {
    same =
        λ ls i. by_kind (e i) (entry_wants preamble table true written ls)
        (numbers_want false (cells_in (drop written (dimensions preamble table))) (l ∷ ls));
  }

  pub numbers_lead : (new : List Lexeme → Expected)
      → begins_number l.kind ≡ true
      → ExpectsNext (numbers_want false (cells_in (drop written (dimensions preamble table)))) l new
      → ExpectsNext (entry_wants preamble table false written) l new
  numbers_lead = grind arith

-- ---- from a known state

pub no_numbers_lead : {T : Type 0} (n : Numbers T) (needed : ℕ) (l : Lexeme) (new : List Lexeme → Expected) → n ≡ no_numbers needed
    → ExpectsNext (expected_by_numbers n) l new → ExpectsNext (numbers_want false needed) l new
no_numbers_lead = grind arith

module _ (preamble : Preamble) (r : EntryReader) where
  pub body_leads : (l : Lexeme) (new : List Lexeme → Expected) → r.state ≡ states.Body
      → ExpectsNext (entry_wants preamble r.table false (length r.places)) l new → ExpectsNext (expected_by_entry preamble r) l new
  body_leads l new e leads = rw e leads

  pub body_ends_in : r.state ≡ states.Body
      → least_written (is_mdp preamble) r.table ≤ length r.places → 1 ≤ cells_in (drop (length r.places) (dimensions preamble r.table))
      → WrongNumberCount ≡ unexpected_token (expected_by_entry preamble r []) None
  body_ends_in = grind arith

pub number_begins : (k : TokenKind) → BeginsNumber k → begins_number k ≡ true
number_begins = grind arith

-- ---- the kind of a refusal, where something else is found than is wanted
-- a name that isn't reserved is not `reset`
not_reset : (bytes : List ℕ) → is_reserved bytes ≡ false → bytes_eq bytes (codes "reset") ≡ false
unfolding is_reserved
not_reset = grind arith

pub unknown_name : (l : Lexeme) → l.kind ≡ Name → is_reserved l.bytes ≡ false → UnknownName ≡ unexpected_token Index (Some l)
unknown_name = grind (arith, not_reset)

module _ (most : ℕ) (names : List (List ℕ)) (l : Lexeme) where
  pub name_too_many : IsName l → length names ≡ most
      → BadCount ≡ unexpected_token (FurtherName most names) (Some l)
  name_too_many = grind (arith, not_reset)

  pub name_again : IsName l → length names ≢ most
      → DuplicateName ≡ unexpected_token (FurtherName most names) (Some l)
  name_again = grind (arith, not_reset)

pub first_misfit : (most : ℕ) (l : Lexeme) (kind : ItemFault) (place : ℕ) → 1 ≤ most → (l.kind ≡ Numeral → ⊥)
    → ElementsReason (Named []) l kind place
    → kind ≡ unexpected_token (FurtherName most []) (Some l) → IsMisfit CountOrName l kind
first_misfit = grind arith
