-- A text's reader that continues with several lexemes at once.
use Rattle.std.proofs.Common.{◌≡◌, ◌∙◌, ℕ, ◌+◌, ◌<◌, ◌≤◌, Option, Some, None, List, [], ◌∷◌, ◌++◌, length, length-append, drop, refl, sym}
use Rattle.std.proofs.Common.{ap, subst, append_assoc, arith}
use Rattle.std.proofs.lemmas.List.{append-nil}
use Rattle.polcert_text.specs.Beginning.{BeginWith}
use Rattle.polcert_model.proofs.Common.{Lexeme, Cells, Entry, Table, topic, indices_in, ModelSoFar}
use Rattle.polcert_model.proofs.Common.{TakesLexeme, ExpectsNext, ItemReader, fault_after, preamble_fault, word_fault}
use Rattle.polcert_model.proofs.Common.{ItemFault, TakesAhead, IsTextRead, TextReadsOn, TextReader}
use Rattle.polcert_text.specs.Cut.{Rest}
use Rattle.polcert_text.specs.Fronts.{IsLongestLexeme}
use Rattle.polcert_text.specs.TakenTokens.{Taken, nothing as none_taken, token as one_taken}
use Rattle.polcert_text.specs.declared.tokens.TokenKind.{TokenKind}
use Rattle.polcert_text.proofs.Scanning.LexemeLaws.{none_empty}
use Rattle.polcert_cells.proofs.Basics.{some≢none}
use Rattle.polcert_items.specs.Steps.Ahead.{IsFed, AreTaken, none, more, ItemFedAhead, nothing, entry, IsNextItem}
use Rattle.polcert_items.specs.Steps.Entries.{IsWithinIndices}
use Rattle.polcert_items.specs.declared.entry_reader.EntryReader.{EntryReader}
use Rattle.polcert_items.specs.declared.item.ItemReader.TheVariants as items
use Rattle.polcert_items.specs.declared.item.ItemContents.TheVariants as says
use Rattle.polcert_items.proofs.ItemReading.{sign_ends}
use Rattle.polcert_text.proofs.Taken.TakenAhead.{takes_none, takes_more}
use Rattle.polcert_model.proofs.TextReading.{item_takes, item_ended, item_opened}

-- a reader within this item
abbrev pub within_item : ModelSoFar → ℕ → ItemReader → TextReader
within_item known number i = record { known = known; item = Some i; number = number }

-- a reader within this entry
abbrev pub within_entry : ModelSoFar → ℕ → EntryReader → TextReader
within_entry known number r = within_item known number (items.Entry r)

module _ (known : ModelSoFar) (number : ℕ) where
  -- one lexeme
  entry_fed : (seen : List Lexeme) (old new : EntryReader) (l : Lexeme) → IsTextRead seen (within_entry known number old)
      → IsFed known old l new → IsTextRead (seen ++ l ∷ []) (within_entry known number new)
  entry_fed seen old new l read fed =
      let takes : TakesLexeme _ _ l _ = record {
        back = λ ls next g. (g.0, (fed.takes.back ls g.0 g.1.0, g.1.1));
        on = λ ls next g. (g.0, (fed.takes.on ls g.0 g.1.0, g.1.1));
      } in
      let leads : ExpectsNext _ l _ =
      record { same = fed.leads.same } in
      item_takes seen _ l _ _ read refl fed.inside (cc)
      (record {
        within = subst (λ t. IsWithinIndices (indices_in known t) new) (sym fed.table) fed.within;
        takes = takes;
        formed = tt;
        seen = λ body s. sign_ends _ body l fed.sign;
        leads = leads;
      })

  -- several
  entries_fed : (seen ls : List Lexeme) (old new : EntryReader) → AreTaken (IsFed known) old ls new
      → IsTextRead seen (within_entry known number old) → IsTextRead (seen ++ ls) (within_entry known number new)
  entries_fed seen ls old new (none _) read = rw (append-nil seen) read
  entries_fed seen ls old new (more _ between _ us l before fed) read =
      rw (← append_assoc seen us (l ∷ []))
      (entry_fed _ _ new l (entries_fed seen us old _ before read) fed)

  -- the same of any item
  pub item_ahead : (old new : ItemReader) (bytes : List ℕ) (count : ℕ) → ItemFedAhead known old bytes count new
      → TakesAhead (TextReadsOn (within_item known number old) (within_item known number new)) bytes count
  item_ahead old new bytes count (nothing zero same) =
      rw zero
      (rw same
      (takes_none (λ (_ : Unit {0}). IsTextRead) _ _))
  item_ahead old new bytes count (entry a b is was fed) =
      rw is
      (rw was
      (record {
        within = fed.within;
        taken = λ place. let f = fed.fed place in
            (f.0, (f.1.0, λ x seen read. entries_fed seen f.0 a b f.1.1 read));
      }))

-- ---- the next entry

-- whether an entry may stand here does not depend on the entries
fault_stays : (f : Option ItemFault) (k : ModelSoFar) (es : List Entry) (table : Table) → fault_after f k (Cells table) ≡ None
    → fault_after f (record k { entries = es }) (Cells table) ≡ None
fault_stays (Some fault) k es table free = free
fault_stays None k es _ free = free

-- an entry ends, and the next begins at its word
pub next_begun : (seen : List Lexeme) (r : TextReader) (item next : ItemReader) (known : ModelSoFar) (table : Table) (word : Lexeme)
    → IsTextRead seen r → r.item ≡ Some item
    → IsNextItem r.known item table known next → topic word ≡ Some (Cells table)
    → IsTextRead (seen ++ word ∷ []) (within_item known (r.number + 1) next)
next_begun seen r item next known table word read is n about =
    let e = n.next.e in
    let after : TextReader = record { known = _; item = None; number = r.number } in
    let free = subst (λ k. word_fault k (Cells table) ≡ None) (sym n.next.known_is)
    (fault_stays (preamble_fault r.known) r.known (r.known.entries ++ e ∷ []) table n.next.free) in
    item_opened seen after word _ next (item_ended seen r None (items.Entry n.a) _ (says.Entry e) read
    (is ∙ ap Some n.old_is) refl (e, (n.next.goes, refl)) n.next.known_is n.next.few) about free (cc)

-- ---- the bytes of a token

some_byte : (bs all : List ℕ) (kind : TokenKind) → IsLongestLexeme all kind (length bs) → 0 < length bs
some_byte [] all kind l = absurd (some≢none l.lexeme none_empty)
some_byte (b ∷ bs) all kind l = omega arith

-- each token takes a byte at least
taken_grows : (old new : Rest) (ts : List Lexeme) → Taken old ts new → old.place + length ts ≤ new.place
taken_grows old new ts (none_taken _) = omega arith
taken_grows old new ts (one_taken _ between _ us t before takes) =
    let was = taken_grows old _ us before in
    let place = ap (λ r. r.place) takes.rest in
    let some = some_byte _ _ _ takes.token_at.lexeme in
    omega (arith, length-append us (t ∷ []))

pub some_bytes : (place : ℕ) (bytes : List ℕ) (count : ℕ) (t : Lexeme) → BeginWith place bytes count (t ∷ []) → 0 < count
some_bytes place bytes count t front = omega (arith, taken_grows _ _ _ (front.taken [] None))

-- ---- tokens ahead, some after others

pub text_more : (a b c : TextReader) (bytes rest : List ℕ) (at n : ℕ) → rest ≡ drop at bytes → TakesAhead (TextReadsOn a b) bytes at
    → TakesAhead (TextReadsOn b c) rest n → TakesAhead (TextReadsOn a c) bytes (at + n)
text_more a b c bytes rest at n is was further = takes_more (λ (_ : Unit {0}). IsTextRead) a b c _ at n was
    (subst (λ xs. TakesAhead (TextReadsOn b c) xs n) is further).taken

pub text_read : (old new : TextReader) (bytes : List ℕ) (count : ℕ) → TakesAhead (TextReadsOn old new) bytes count
    → ((seen : List Lexeme) × IsTextRead seen old) → (seen : List Lexeme) × IsTextRead seen new
text_read old new bytes count takes read =
    let first = takes.taken 0 in
    (_, first.1.1 tt read.0 read.1)

pub same_item : (r : TextReader) (i : ItemReader) → r.item ≡ Some i → r ≡ within_item r.known r.number i
same_item r i is = λ j. record { known = r.known; item = is j; number = r.number }
