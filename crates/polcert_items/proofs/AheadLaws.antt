-- A reader that continues with several lexemes at once, and a list of numbers that does.
use Rattle.std.proofs.Common.{◌≡◌, ◌∙◌, ℕ, ◌+◌, ◌-◌, ◌<◌, ◌≤◌, Bool, true, false, Some, None, List, [], ◌∷◌, ◌++◌, length, drop, refl, sym}
use Rattle.std.proofs.Common.{ap, subst, append-nil, append_assoc, length-append, Result, IfOk, arith, if◌then◌else◌}
use Rattle.std.proofs.lemmas.List.{length-drop}
use Rattle.polcert_items.proofs.Common.{BeginWith, BeginWithNumber, Lexeme, begins_number, is_sign_kind, ModelSoFar, numbers_want, IsFed}
use Rattle.polcert_items.proofs.Common.{IsListFed, AreTaken, none, more, StepsAhead, FedAhead, ListKind, FitsRange, IsSignAt, is_minus_sign}
use Rattle.polcert_items.proofs.Common.{EntryReader, Numbers, Sign, IsWithinIndices, indices_in}
use Rattle.polcert_items.specs.Steps.Ahead.{with_state}
use Rattle.polcert_items.specs.declared.entry_reader.EntryState.{EntryState}
use Rattle.polcert_text.specs.Beginning.{IsNumeralOf, kind_of_sign, unsigned, signed}
use Rattle.polcert_text.specs.declared.front_tokens.FrontNumber.{FrontNumber}
use Rattle.polcert_text.proofs.Taken.BeginLaws.{begin_none, begin_then}
use Rattle.polcert_items.proofs.ListLaws.{takes_number, takes_sign}

-- ---- some steps, and others after them

module _ {R : Type 0} (Step : R → Lexeme → R → Type 0) where
  taken_both : (a b c : R) (us vs : List Lexeme) → AreTaken Step a us b → AreTaken Step b vs c → AreTaken Step a (us ++ vs) c
  taken_both a b c us vs first (none _) = rw (append-nil us) first
  taken_both a b c us vs first (more _ between _ ws l before step) =
      grind (arith, append_assoc, more, taken_both a b between us ws first before)

  -- no bytes
  pub takes_none : (r : R) (bytes : List ℕ) → StepsAhead Step r bytes 0 r
  takes_none r bytes = record { within = omega arith; fed = λ place. ([], (begin_none place bytes, none r)) }

  -- some bytes, and others after them
  pub takes_then : (a b c : R) (bytes : List ℕ) (m n : ℕ) → StepsAhead Step a bytes m b → StepsAhead Step b (drop m bytes) n c
      → StepsAhead Step a bytes (m + n) c
  takes_then a b c bytes m n first second = record {
    within = omega (arith, first.within, second.within, length-drop m bytes);
    fed = λ place.
        let u = first.fed place in
        let v = second.fed _ in
        (u.0 ++ v.0, (begin_then place bytes m n u.0 v.0 u.1.0 v.1.0, taken_both a b c u.0 v.0 u.1.1 v.1.1));
  }

module _ (k : ModelSoFar) where
  pub fed_none : (r : EntryReader) (bytes : List ℕ) → FedAhead k r bytes 0 r
  fed_none r bytes = takes_none _ r bytes

  -- nor is anything else changed
  pub fed_nothing : (r : EntryReader) (bytes : List ℕ) (s : EntryState) → r.state ≡ s
      → FedAhead k r bytes 0 (with_state r s)
  fed_nothing r bytes s is = rw (← is) (fed_none r bytes)

  pub fed_then : (a b c : EntryReader) (bytes : List ℕ) (m n : ℕ) → FedAhead k a bytes m b → FedAhead k b (drop m bytes) n c
      → FedAhead k a bytes (m + n) c
  fed_then a b c bytes m n first second = takes_then _ a b c bytes m n first second

  taken_within : (a b : EntryReader) (ls : List Lexeme) → AreTaken (IsFed k) a ls b
      → IsWithinIndices (indices_in k a.table) a → IsWithinIndices (indices_in k b.table) b
  taken_within a b ls (none _) within = within
  taken_within a b ls (more _ mid _ us l before f) within = subst (λ t. IsWithinIndices (indices_in k t) b) (sym f.table) f.within

  pub fed_within : (a b : EntryReader) (bytes : List ℕ) (count : ℕ) → FedAhead k a bytes count b
      → IsWithinIndices (indices_in k a.table) a → IsWithinIndices (indices_in k b.table) b
  fed_within a b bytes count fed within =
      let f = fed.fed 0 in
      taken_within a b f.0 f.1.1 within

pub if_ok_map : {T E : Type 0} (r : Result T E) (P Q : T → Type 0) → ((v : T) → P v → Q v) → IfOk r P → IfOk r Q
if_ok_map = grind arith

-- ---- a number of a list

module _ (is_minus_sign : Bool) where
  sign_is : (s : Lexeme) → s.kind ≡ kind_of_sign is_minus_sign
      → IsSignAt (record { negative = is_minus_sign; place = s.place }) s
  sign_is = grind arith

  is_a_sign : (is_sign_kind (kind_of_sign is_minus_sign) ≡ true)
      × (begins_number (kind_of_sign is_minus_sign) ≡ true)
  is_a_sign = grind arith

-- a number at the front of some bytes ends within them
pub number_within : (place : ℕ) (bytes : List ℕ) (found : FrontNumber) → BeginWithNumber place bytes found → found.len ≤ length bytes
number_within = grind arith

-- and within all of the bytes
pub ends_within : (bytes : List ℕ) (at : ℕ) (found : FrontNumber) → at ≤ length bytes
    → ((place : ℕ) → BeginWithNumber place (drop at bytes) found) → at + found.len ≤ length bytes
ends_within bytes at found high front = omega (arith, number_within 0 _ found (front 0), length-drop at bytes)

-- the list with this sign at its end, or with this number
abbrev with_sign : {T : Type 0} → Numbers T → Sign → Numbers T
with_sign n s = record { read = n.read; needed = n.needed; sign = Some s }

abbrev with_number : {T : Type 0} → Numbers T → T → Numbers T
with_number n x = record { read = n.read ++ x ∷ []; needed = n.needed; sign = None }

module _ {T : Type 0} (kind : ListKind T) (old : Numbers T) where
  sign_fed : (is_minus_sign : Bool) (s : Lexeme) → s.kind ≡ kind_of_sign is_minus_sign → old.sign ≡ None → length old.read < old.needed
      → IsListFed kind old s (with_sign old (record { negative = is_minus_sign; place = s.place }))
  sign_fed is_minus_sign s is no_sign room =
      let sign : Sign = record { negative = is_minus_sign; place = s.place } in
      let at = sign_is _ s is in
      let a = is_a_sign _ in
      let mark = ap is_sign_kind is ∙ a.0 in
      let left = old.needed - length old.read in
      record {
        begins = ap begins_number is ∙ a.1;
        room = omega arith;
        takes = takes_sign kind old _ s refl sign at no_sign refl refl;
        sign = at;
        leads = record { same = λ ls i. numbers_want (mark i) (if mark i then left else left - 1) ls };
      }

  numeral_fed : (x : T) (l : Lexeme) → ((y z : T) → kind.worth y ≡ kind.worth z → y ≡ z)
      → IsNumeralOf (is_minus_sign old.sign) l (kind.worth x) → FitsRange kind.range (kind.worth x) → length old.read < old.needed
      → IsListFed kind old l (with_number old x)
  numeral_fed = grind (arith, length-append, takes_number)

-- the number at the front of some bytes
module _ {T : Type 0} (kind : ListKind T) (old : Numbers T) (x : T) (bytes : List ℕ) (found : FrontNumber)
    (distinct : (y z : T) → kind.worth y ≡ kind.worth z → y ≡ z) (worth : kind.worth x ≡ found.value)
    (fits : FitsRange kind.range found.value) (no_sign : old.sign ≡ None) (room : length old.read < old.needed) where
  numeral_of : (is_minus_sign : Bool) (l : Lexeme) → IsNumeralOf is_minus_sign l found.value → IsNumeralOf is_minus_sign l (kind.worth x)
  numeral_of is_minus_sign l v = subst (IsNumeralOf _ l) (sym worth) v

  taken_at : (place : ℕ) → BeginWithNumber place bytes found → (ls : List Lexeme)
      × (BeginWith place bytes found.len ls × AreTaken (IsListFed kind) old ls (with_number old x))
  taken_at place (unsigned n v front) =
      let is = subst (λ s. IsNumeralOf (is_minus_sign s) n (kind.worth x)) (sym no_sign) (numeral_of false n v) in (
        n ∷ [],
        (
          front,
          more old old _ [] n (none old) (grind (arith, length-append, takes_number)),
        ),
      )
  taken_at place (signed is_minus_sign s n sign v front) =
      let mid = with_sign old _ in
      let fed = numeral_fed kind mid x n distinct (numeral_of _ n v) (subst (FitsRange kind.range) (sym worth) fits) room in (
        s ∷ n ∷ [],
        (
          front,
          more old mid _ (s ∷ []) n (more old old mid [] s (none old) (sign_fed kind old is_minus_sign s sign no_sign room)) fed,
        ),
      )

  pub number_ahead : ((place : ℕ) → BeginWithNumber place bytes found) → (new : Numbers T) → new ≡ with_number old x
      → StepsAhead (IsListFed kind) old bytes found.len new
  number_ahead front new is = subst (StepsAhead _ old bytes _) (sym is)
      (record { within = number_within 0 bytes found (front 0); fed = λ place. taken_at place (front place) })
