-- The first number of a start item: what is due of it after the body that was taken is just what its reader has kept.
use Rattle.std.proofs.Common.{◌≡◌, ◌∙◌, ℕ, ◌++◌, ◌⊎◌, Bool, false, true, Option, Some, None, Result, Ok, Err, List, [], ◌∷◌, ℤ, refl, sym}
use Rattle.std.proofs.Common.{ap, subst, arith, rules}
use Rattle.std.proofs.lemmas.List.{append-nil}
use Rattle.polcert_items.proofs.Common.{Lexeme, NumberFault, IsMillionths, ItemFault, Number, IndexOutOfRange, ProbabilityRange}
use Rattle.polcert_items.proofs.Common.{BeginsWithNumber, BeginsWithDigits, IsLate, Expected, begins_number, IsRefusedNumber, IsNoFraction}
use Rattle.polcert_items.proofs.Common.{Refusal, Sign, FirstNumber, StateOrNumber, StartReader, EndError, start_sign, pending_refusal}
use Rattle.polcert_items.proofs.Common.{pending_of}
use Rattle.polcert_items.proofs.Common.{IsValue, IsOutside, IsFraction, HasReadStart, IsDue}
use Rattle.polcert_items.proofs.Common.{IsDueNumber, IsDueValue, CanStillBeRight, IsStop, due, at_once, IsEndDue, IsLateEnd, StopsStart}
use Rattle.polcert_format.specs.FirstNumber.{IsNoState, no_value, no_state, out_of_range}
use Rattle.polcert_items.specs.Steps.Start.{IsNumberBody, IsDigitsKept, IsFurtherBody, first_number, token}
use Rattle.polcert_cells.proofs.Basics.{cons≢nil}
use Rattle.polcert_cells.proofs.NumberLaws.{one_millionths}
use Rattle.polcert_format.proofs.FirstNumbers.{same_digits, same_number, digits_are_number, value_not_refused}
use Rattle.polcert_format.proofs.FirstNumbers.{no_fraction_numeral}
use Rattle.polcert_items.specs.declared.start_reader.StartReader.TheVariants as reader
use Rattle.polcert_items.proofs.StartSeen.{begins_map, begins_more, digits_begin, digits_more}

-- ---- what is due stands so in the whole body

-- a first number that is out of its range
out_of : (count : ℕ) (body more : List Lexeme) (l : Lexeme) (ends : Bool) (h : ℤ) (kind : ItemFault) (place at : ℕ)
    → BeginsWithNumber body at (λ negative m. IsMillionths negative m h) [] → IsDueNumber h at l kind place
    → IsLate count (body ++ l ∷ more) ends kind place
out_of count body more l ends h kind place at b d =
    let so = begins_map body at _ _ [] (λ negative m v. (h, v, d.1.0)) b in
    out_of_range l more (subst (λ p. BeginsWithNumber (body ++ l ∷ more) p IsNoFraction (l ∷ more)) (sym d.1.2)
    (begins_more body at IsNoFraction [] (l ∷ more) so)) d.0 d.1.1

-- digits without a value
without_value : (count : ℕ) (body tail : List Lexeme) (ends : Bool) (d : StateOrNumber) (fault : NumberFault) (kind : ItemFault)
    (place : ℕ)
    → BeginsWithDigits count body d.place (IsDigitsKept count d) [] → d.value ≡ Err fault
    → (tail ≡ [] → ends ≡ false) → kind ≡ Number fault → place ≡ d.place → IsLate count (body ++ tail) ends kind place
without_value count body tail ends d fault kind place b is more e p =
    no_value fault tail (subst (λ q. BeginsWithDigits count (body ++ tail) q (IsRefusedNumber fault false) tail) (sym p)
    (digits_more count body d.place (IsDigitsKept count d) (IsRefusedNumber fault false) [] tail
    (λ m k. subst (λ v. IsValue v false m) is k.value) b)) more e

module _ (count : ℕ) (body : List Lexeme) (more : List Lexeme) (l : Lexeme) (ends : Bool) where
  due_value : (d : StateOrNumber) (kind : ItemFault) (place : ℕ)
      → BeginsWithDigits count body d.place (IsDigitsKept count d) []
      → (v : Result ℤ NumberFault) → d.value ≡ v → IsDueValue v d.place l kind place → IsLate count (body ++ l ∷ more) ends kind place
  due_value d kind place b (Ok h) is x =
      out_of count body more l ends h kind place d.place (digits_begin count body d.place _
      _ [] (λ m k. subst (λ v. IsValue v false m) is k.value) b) x
  due_value d kind place b (Err fault) is x = without_value count body _ ends d fault kind place b is (λ e. absurd (cons≢nil e)) x.0 x.1

  due_is_late : (r : StartReader) (kind : ItemFault) (place : ℕ)
      → HasReadStart count body r → IsDue r l kind place
      → IsLate count (body ++ l ∷ more) ends kind place
  due_is_late (reader.Number f) kind place s d = out_of count body more l ends f.value kind place f.place s.body_is.number d
  due_is_late (reader.StateOrNumber x) kind place s d = due_value x kind place s.body_is x.value refl d
  due_is_late _ kind place s d = absurd d

-- ---- why a token is refused

pub stops_start : (count : ℕ) (body : List Lexeme) (r : StartReader) (w : Expected) (l : Lexeme) (x : Refusal)
    → HasReadStart count body r
    → ((y : Refusal) → IsDue r l y.kind y.place → x ≡ y)
    → IsStop (IsDue r l) (start_sign r) w l x.kind x.place → StopsStart (pending_refusal r) count body w l x.kind x.place
stops_start count body r w l x s same (due d) = first_number (λ more ends. due_is_late count body more l ends r x.kind x.place s d)
stops_start count body r w l x s same (at_once m why) = of _ refl
  where
    of : (held : Option Refusal) → pending_refusal r ≡ held → StopsStart (pending_refusal r) count body w l x.kind x.place
    of None e = token _ e s.sign m why
    of (Some y) e =
        let d : IsDue r l y.kind y.place = grind arith in
        first_number (λ more ends. due_is_late count body more l ends r x.kind x.place s
        (rw (same y d) d))

-- ---- what is due of a body that continues so

-- the first of the lexemes, and this is so of it
abbrev HasNext : List Lexeme → (Lexeme → Type 0) → Type 0
HasNext [] Is = ⊥
HasNext (l ∷ ls) Is = Is l

-- what is due of digits where the body ends
data IsDueAtEnd (count : ℕ) (d : StateOrNumber) (ends : Bool) (kind : ItemFault) (place : ℕ) : Type 0 where
  value_wants : (fault : NumberFault) → d.value ≡ Err fault → ends ≡ false → kind ≡ Number fault → place ≡ d.place
      → IsDueAtEnd count d ends kind place
  state_wants : ends ≡ true → kind ≡ IndexOutOfRange → place ≡ d.place → IsDueAtEnd count d ends kind place

abbrev DigitsDue : ℕ → StateOrNumber → List Lexeme → Bool → ItemFault → ℕ → Type 0
DigitsDue count d [] ends kind place = IsDueAtEnd count d ends kind place
DigitsDue count d (l ∷ ls) ends kind place = IsDueValue d.value d.place l kind place

-- after what was kept the lexemes make this due
abbrev DueAfter : ℕ → StartReader → List Lexeme → Bool → ItemFault → ℕ → Type 0
DueAfter count (reader.Number f) tail ends kind place = HasNext tail (λ l. IsDueNumber f.value f.place l kind place)
DueAfter count (reader.StateOrNumber d) tail ends kind place = DigitsDue count d tail ends kind place
DueAfter count reader.Form tail ends kind place = HasNext tail (CanStillBeRight count reader.Form)
DueAfter count reader.Body tail ends kind place = HasNext tail (CanStillBeRight count reader.Body)
DueAfter count (reader.Sign s) tail ends kind place = HasNext tail (CanStillBeRight count (reader.Sign s))
DueAfter count _ tail ends kind place = ⊥

outside_too : (h : ℤ) (negative : Bool) (l : Lexeme) → IsMillionths negative l h → IsNoFraction negative l → IsOutside h
outside_too h negative l v n = subst IsOutside (one_millionths negative l n.0 h n.1 v) n.2

next_due : (h : ℤ) (at : ℕ) (tail : List Lexeme) (next : Lexeme) (following : List Lexeme) (kind : ItemFault) (place : ℕ)
    → tail ≡ next ∷ following → begins_number next.kind ≡ true → IsOutside h → kind ≡ ProbabilityRange
    → place ≡ at → HasNext tail (λ l. IsDueNumber h at l kind place)
next_due = grind arith

module _ (count : ℕ) (body : List Lexeme) (tail : List Lexeme) (ends : Bool) where
  number_due : (f : FirstNumber) (kind : ItemFault) (place : ℕ)
      → IsNumberBody count body f → IsLate count (body ++ tail) ends kind place
      → HasNext tail (λ l. IsDueNumber f.value f.place l kind place)
  number_due f kind place b late = at late
    where
      whole : BeginsWithNumber (body ++ tail) f.place (λ negative l. IsMillionths negative l f.value) tail
      whole = begins_more body f.place _ [] tail b.number

      no_digits_end : (xs : List Lexeme) → BeginsWithDigits count (body ++ tail) place (IsNoState count) [] → tail ≡ xs
          → HasNext xs (λ l. IsDueNumber f.value f.place l kind place)
      no_digits_end [] d e =
          let same : body ++ tail ≡ body = ap (λ (t : List Lexeme). body ++ t) e ∙ append-nil body in
          let only : BeginsWithDigits count (body ++ tail) place (λ l. Unit {0}) [] =
          record {
            colon = d.colon;
            digits = d.digits;
            whole = d.whole;
            is_colon = d.is_colon;
            are_digits = d.are_digits;
            place_is = d.place_is;
            holds = tt;
          } in
          absurd (b.no_digits place (rw (← same) only))
      no_digits_end (x ∷ xs) d e = absurd (cons≢nil (sym e
          ∙ sym (digits_are_number count (body ++ tail) place f.place (IsNoState count) _ []
          tail
          d whole).2))

      at : IsLate count (body ++ tail) ends kind place → HasNext tail (λ l. IsDueNumber f.value f.place l kind place)
      at (no_value reason following d more is) = grind arith
      at (no_state d clean is) = no_digits_end tail d refl
      at (out_of_range next following n number is) =
          let same = same_number (body ++ tail) f.place place _ IsNoFraction tail
          (next ∷ following) (λ negative l v. v.kind) no_fraction_numeral whole n in
          next_due f.value f.place tail next following kind place same.following number
          (outside_too f.value same.negative same.numeral same.first same.second) is (sym same.place)

  -- after digits alone
  digits_due : (d : StateOrNumber) (kind : ItemFault) (place : ℕ)
      → BeginsWithDigits count body d.place (IsDigitsKept count d) [] → IsLate count (body ++ tail) ends kind place
      → DigitsDue count d tail ends kind place
  digits_due d kind place b late = at late
    where
      whole : BeginsWithDigits count (body ++ tail) d.place (IsDigitsKept count d) tail
      whole = digits_more count body d.place _ _ [] tail (λ l k. k) b

      wants_value : (xs : List Lexeme) (fault : NumberFault) → d.value ≡ Err fault → (xs ≡ [] → ends ≡ false) → kind ≡ Number fault
          → place ≡ d.place → DigitsDue count d xs ends kind place
      wants_value [] fault is more e p = value_wants fault is (more refl) e p
      wants_value (l ∷ ls) fault is more e p = rw is (e, p)

      fault_is : (v : Result ℤ NumberFault) (l : Lexeme) (reason : NumberFault) → IsValue v false l → IsRefusedNumber reason false l
          → v ≡ Err reason
      fault_is v l reason h1 h2 = grind arith

      value_is : (v : Result ℤ NumberFault) (l : Lexeme) → IsValue v false l → IsNoFraction false l → (h : ℤ) × (v ≡ Ok h) × IsOutside h
      value_is (Ok h) l is n = (h, refl, outside_too h false l is n)
      value_is (Err g) l is n = absurd (value_not_refused false l n.0 g n.1 is)

      out_wants : (xs : List Lexeme) (h : ℤ) (next : Lexeme) (following : List Lexeme) → d.value ≡ Ok h → xs ≡ next ∷ following
          → begins_number next.kind ≡ true → IsOutside h → kind ≡ ProbabilityRange → place ≡ d.place
          → DigitsDue count d xs ends kind place
      out_wants xs h next following h1 h2 h3 h4 h5 h6 = grind arith

      state_end : (xs : List Lexeme) → xs ≡ [] → ends ≡ true → kind ≡ IndexOutOfRange → place ≡ d.place
          → DigitsDue count d xs ends kind place
      state_end xs h1 h2 h3 h4 = grind arith

      at : IsLate count (body ++ tail) ends kind place → DigitsDue count d tail ends kind place
      at h1 = grind (arith, same_digits, digits_are_number, whole, wants_value, fault_is, value_is, out_wants, state_end)

module _ (count : ℕ) (body : List Lexeme) (tail : List Lexeme) (ends : Bool) where
  further_due : (kind : ItemFault) (place : ℕ) → IsFurtherBody body
      → IsLate count (body ++ tail) ends kind place → ⊥
  further_due kind place b late = at late
    where
      after_it : List Lexeme
      after_it = (b.next ∷ b.following) ++ tail

      whole : BeginsWithNumber (body ++ tail) b.place IsFraction after_it
      whole = begins_more body b.place IsFraction _ tail b.number

      at : IsLate count (body ++ tail) ends kind place → ⊥
      at (no_value reason following d more is) = grind arith
      at (no_state d clean is) = cons≢nil (sym (digits_are_number count (body ++ tail) place b.place _ IsFraction [] after_it d whole).2)
      at (out_of_range next following n number is) =
          let same = same_number (body ++ tail) b.place place IsFraction IsNoFraction after_it _ (λ negative l f. f.1.kind)
          no_fraction_numeral whole n in
          same.first.2 (outside_too same.first.0 same.negative same.numeral same.first.1 same.second)

  due_after : (r : StartReader) (kind : ItemFault) (place : ℕ)
      → HasReadStart count body r
      → IsLate count (body ++ tail) ends kind place
      → DueAfter count r tail ends kind place
  due_after (reader.Number f) kind place s late = number_due count body tail ends f kind place s.body_is late
  due_after (reader.StateOrNumber d) kind place s late = digits_due count body tail ends d kind place s.body_is late
  due_after (reader.Probabilities n) kind place s late = further_due kind place s.body_is late
  due_after _ kind place s late = grind arith

-- ---- after a lexeme, at the end, and at a fault of the tokens

module _ (count : ℕ) (body : List Lexeme) where
  -- what is due after a lexeme is the reader's refusal, or is tested later
  pub late_at_lexeme : (more : List Lexeme) (l : Lexeme) (ends : Bool) (r : StartReader) (kind : ItemFault) (place : ℕ)
      → HasReadStart count body r → IsLate count (body ++ l ∷ more) ends kind place
      → IsDue r l kind place ⊎ CanStillBeRight count r l
  late_at_lexeme more l ends r kind place s late = grind (arith, due_after count body _ ends r kind place s late)

  late_whole : (ends : Bool) (r : StartReader) (kind : ItemFault) (place : ℕ) → HasReadStart count body r
      → IsLate count body ends kind place → DueAfter count r [] ends kind place
  late_whole = search (rules, due_after)

  -- what is due where the item ends is why it cannot
  pub late_at_end : (r : StartReader) (e : EndError) (late : Refusal) → HasReadStart count body r
      → IsLate count body true late.kind late.place → IsEndDue r e → IsLateEnd e late
  late_at_end r e late s is ends = grind (arith, late_whole true r _ _ s is)

  -- what is due where the tokens end in a fault is the number without a value
  pub late_at_fault : (r : StartReader) (kind : ItemFault) (place : ℕ) → HasReadStart count body r
      → IsLate count body false kind place
      → pending_refusal r ≡ Some (record { kind = kind; place = place })
  late_at_fault r kind place s is = grind (arith, late_whole false r kind place s is)

  pub pending_is_late : (r : StartReader) (x : Refusal) → HasReadStart count body r
      → pending_refusal r ≡ Some x
      → IsLate count body false x.kind x.place
  pending_is_late (reader.StateOrNumber d) x s e = of d.value refl e
    where
      some_once : {A : Type 0} {a b : A} → Some a ≡ Some b → a ≡ b
      some_once q = cc

      of : (v : Result ℤ NumberFault) → d.value ≡ v → pending_of v d.place ≡ Some x → IsLate count body false x.kind x.place
      of (Ok h) is q = cc
      of (Err fault) is q =
          let same = some_once q in
          rw (← append-nil body)
          (without_value count body [] false d fault x.kind x.place s.body_is is (λ none. refl) (sym (ap (λ (y : Refusal). y.kind) same))
          (sym (ap (λ (y : Refusal). y.place) same)))
  pending_is_late _ x s e = cc
