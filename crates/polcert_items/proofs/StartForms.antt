-- The forms of a start item, token by token.
use Rattle.std.proofs.Common.{◌≡◌, ◌∙◌, ℕ, ◌<◌, ◌==◌, ◌||◌, ◌⊎◌, inl, inr, Bool, false, true, Option, Some, None, Result, Ok, Err, List, []}
use Rattle.std.proofs.Common.{◌∷◌, length, map, slice_set, codes, ℤ, pos, refl, sym, ap, subst, arith, rules}
use Rattle.std.proofs.Math.Bool.{or_assoc}
use Rattle.std.specs.List.{AllZip}
use Rattle.polcert_items.proofs.Common.{Lexeme, are_digits, Name, Numeral, Colon, Plus, Minus, Selection, Include, Exclude, Chosen}
use Rattle.polcert_items.proofs.Common.{StateOrNumber, StartReader, IsWord, IsWhole, IsMillionths, AreNumbers, one, Elements, count_of}
use Rattle.polcert_items.proofs.Common.{StandsFor, StartWeights, all_states, single, IsStartBody, IsStart, plain, IsStartBodyForm}
use Rattle.polcert_items.proofs.Common.{IsStartForm, TakesLexeme, CannotTake, marked, AreStartNumbers, NumbersGo, DigitsGo, state_number}
use Rattle.polcert_items.proofs.Common.{first_of_more}
use Rattle.polcert_items.proofs.Common.{StartGoes, Begins, AreStartDigits, IsValue, NumberFault}
use Rattle.polcert_cells.specs.Elements.{by_name}
use Rattle.polcert_cells.specs.Start.{included, include, exclude}
use Rattle.polcert_items.specs.Steps.Lines.{AfterColon}
use Rattle.polcert_items.specs.Steps.Start.{chosen_with, listed, AreAsked, ListGoes, AreShares, AreFormed, BodyGoes, IsState}
use Rattle.polcert_items.specs.declared.start_reader.StartReader.TheVariants as reader
use Rattle.polcert_cells.specs.Start as forms
use Rattle.polcert_format.specs.Forms as shapes
use Rattle.polcert_items.specs.Steps.Start as steps
use Rattle.polcert_cells.proofs.NumberLaws.{one_millionths}
use Rattle.polcert_cells.proofs.StartLaws.{name_not_colon, uniform_is_reserved}
use Rattle.polcert_items.proofs.SignedNumbers.{first_number}
use Rattle.polcert_items.proofs.StartNumbers.{value_begins}
use Rattle.polcert_text.proofs.TextLaws.{exact_not_refused}

-- ---- the first token

pub colon_begins : (states : Elements) (l : Lexeme) → l.kind ≡ Colon → TakesLexeme (StartGoes states) reader.Form l reader.Body
colon_begins states l colon = record {
  back = grind (arith, shapes.plain, plain);
  on = grind (arith, name_not_colon);
}

-- the word of a list of states
abbrev IsWordOf : Selection → Lexeme → Type 0
IsWordOf Include l = IsWord (codes "include") l
IsWordOf Exclude l = IsWord (codes "exclude") l

-- after it the states are listed
module _ (states : Elements) (l : Lexeme) where
  list_formed : (choice : Selection) → IsWordOf choice l → (ls : List Lexeme) → AfterColon (ListGoes states choice (λ s. false)) ls None
      → IsStartForm states (l ∷ ls)
  list_formed = grind (arith, shapes.listed)

  list_back : (choice : Selection) → IsWordOf choice l → (ls : List Lexeme) (v : StartWeights)
      → AfterColon (ListGoes states choice (λ s. false)) ls (Some v) → IsStart states (l ∷ ls) v
  list_back choice word [] v g = absurd g
  list_back Include word (c ∷ ls) v g = subst (IsStart states _) (sym g.1.said.0) (include _ word g.0 g.1.stand g.1.said.1)
  list_back Exclude word (c ∷ ls) v g = subst (IsStart states _) (sym g.1.said.0) (exclude _ word g.0 g.1.stand g.1.said.1)

  list_on : (choice : Selection) → IsWordOf choice l → (ls : List Lexeme) (v : StartWeights) → IsStart states (l ∷ ls) v
      → AfterColon (ListGoes states choice (λ s. false)) ls (Some v)
  list_on = grind arith

  pub list_begins : (choice : Selection) → IsWordOf choice l → TakesLexeme (StartGoes states) reader.Form l (reader.Colon choice)
  list_begins choice word = grind (arith, list_on choice word, list_formed choice word, list_back choice word)

-- ---- lists of states

pub list_same : (states : Elements) (choice : Selection) (p q : ℕ → Bool) (ls : List Lexeme) (asked : Option StartWeights)
    → ((s : ℕ) → p s ≡ q s) → ListGoes states choice p ls asked
    → ListGoes states choice q ls asked
list_same = grind arith

pub marked_more : (marks : List Bool) (s : ℕ) → s < length marks → (k : ℕ)
    → marked (slice_set marks s true) k ≡ (marked marks k || (s == k))
marked_more = search rules

module _ (states : Elements) (choice : Selection) (old : ℕ → Bool) (l : Lexeme) (s : ℕ) (is : StandsFor states l s) where
  more : (further : List ℕ) → chosen_with (λ k. old k || (s == k)) further ≡ chosen_with old (s ∷ further)
  more further = λ i k. or_assoc (old k) (s == k) (included further k) i

  state_back : (ls : List Lexeme) (asked : Option StartWeights) → ListGoes states choice (λ k. old k || (s == k)) ls asked
      → ListGoes states choice old (l ∷ ls) asked
  state_back ls asked g = record { further = s ∷ g.further; stand = (is, g.stand); said = grind arith }

module _ (states : Elements) (old : Chosen) (l : Lexeme) where
  pub list_takes : (s : ℕ) (marks : List Bool) → StandsFor states l s → s < length old.marks
      → marks ≡ slice_set old.marks s true
      → TakesLexeme (StartGoes states) (reader.List old) l (reader.List (record { choice = old.choice; marks = marks }))
  list_takes s marks is low set =
      let same : (k : ℕ) → marked marks k ≡ (marked old.marks k || (s == k)) = λ k. ap (λ m. marked m k) set
      ∙ marked_more old.marks s low k in
      record {
        back = λ ls v g. state_back states old.choice _ l s is ls v (list_same states old.choice _ _ ls v same g);
        on = λ ls v g. list_same states old.choice _ (marked marks) ls v (λ k. sym (same k)) (grind arith);
      }

  pub list_stuck : ((s : ℕ) → StandsFor states l s → ⊥)
      → CannotTake (StartGoes states) (reader.List old) l
  list_stuck none = λ ls v g. at ls _ g.stand
    where
      at : (ls : List Lexeme) (further : List ℕ) → AllZip (StandsFor states) (l ∷ ls) further → ⊥
      at ls [] stand = stand
      at ls (n ∷ ns) stand = none n stand.0

-- the number of a state is below their count
pub stands_low : (states : Elements) (l : Lexeme) (s count : ℕ) → count ≡ count_of states → StandsFor states l s → s < count
stands_low = grind arith

-- ---- the plain form

module _ (states : Elements) (l : Lexeme) (name : l.kind ≡ Name) where
  no_numbers : {ls : List Lexeme} {hs : List ℤ} → AreNumbers (l ∷ ls) hs → ⊥
  no_numbers = grind arith

  -- nothing stands after a name
  name_alone : (ls : List Lexeme) → IsStartBodyForm states (l ∷ ls) → ls ≡ []
  name_alone = grind arith

  pub uniform_begins : IsWord (codes "uniform") l → TakesLexeme (StartGoes states) reader.Body l reader.Every
  uniform_begins word = record {
    back = back;
    on = λ ls asked g. grind (arith, name_alone, uniform_is_reserved, no_numbers);
  }
    where
      back : (ls : List Lexeme) (asked : Option StartWeights) → (ls ≡ []) × AreAsked (all_states states) asked
          → BodyGoes states (l ∷ ls) asked
      back ls None g = rw g.0 (shapes.uniform word)
      back ls (Some v) g = rw g.0 (subst (IsStartBody states (l ∷ [])) (sym g.1) (forms.uniform word))

  named_on : (s : ℕ) → StandsFor states l s → (IsWord (codes "uniform") l → ⊥) → (ls : List Lexeme) (v : StartWeights)
      → IsStartBody states (l ∷ ls) v → (ls ≡ []) × (v ≡ single states s)
  named_on = grind arith

  named_back : (s : ℕ) → StandsFor states l s → IsStartBody states (l ∷ []) (single states s)
  named_back = grind (arith, forms.name)

  named_form : (s : ℕ) → StandsFor states l s → IsStartBodyForm states (l ∷ [])
  named_form = grind (arith, shapes.name)

  pub name_begins : (s : ℕ) → StandsFor states l s → (IsWord (codes "uniform") l → ⊥)
      → TakesLexeme (StartGoes states) reader.Body l (reader.Only s)
  name_begins s is other = grind (arith, named_form s is, named_back s is, name_alone, named_on s is other)

  pub name_stuck : ((s : ℕ) → StandsFor states l s → ⊥) → (IsWord (codes "uniform") l → ⊥) → CannotTake (StartGoes states) reader.Body l
  name_stuck none other ls asked g = stuck ls asked g
    where
      of_form : (ls : List Lexeme) → IsStartBodyForm states (l ∷ ls) → ⊥
      of_form ls (shapes.uniform w) = other w
      of_form ls (shapes.name {s = k} n f) = none k (by_name n f)
      of_form ls (shapes.state_number m n b) = cc
      of_form ls (shapes.one_number n) = no_numbers n
      of_form ls (shapes.probabilities ps m n c t) = no_numbers n

      of_body : (ls : List Lexeme) (v : StartWeights) → IsStartBody states (l ∷ ls) v → ⊥
      of_body ls v (forms.uniform w) = other w
      of_body ls v (forms.name {s = k} n f) = none k (by_name n f)
      of_body ls v (forms.number m n b) = cc
      of_body ls v (forms.only_state c n h) = no_numbers n
      of_body ls v (forms.probabilities ps m n c t) = no_numbers n

      stuck : (ls : List Lexeme) (asked : Option StartWeights) → BodyGoes states (l ∷ ls) asked → ⊥
      stuck ls asked h1 = grind (arith, of_form, of_body)

-- a numeral or a sign that stands for no state begins numbers
module _ (states : Elements) (l : Lexeme) (no_name : l.kind ≡ Name → ⊥) where
  numbers_back : (ls : List Lexeme) (asked : Option StartWeights) → NumbersGo states [] None ls asked → BodyGoes states ls asked
  numbers_back ls asked g = of asked _ g.numbers g.given
    where
      only : (v : StartWeights) (hs : List ℤ) → AreNumbers ls hs → count_of states ≡ 1 → (hs ≡ pos 0 ∷ []) ⊎ (hs ≡ pos one ∷ [])
          → v ≡ all_states states → IsStartBody states ls v
      only v hs a c (inl e) s = subst (IsStartBody states ls) (sym s)
          (forms.only_state {h = pos 0} c (subst (AreNumbers ls) e a) (inl refl))
      only v hs a c (inr e) s = subst (IsStartBody states ls) (sym s)
          (forms.only_state {h = pos one} c (subst (AreNumbers ls) e a) (inr refl))

      at : (v : StartWeights) (hs : List ℤ) → AreNumbers ls hs → AreShares states hs v → IsStartBody states ls v
      at v hs a (steps.only_state c e s) = only v hs a c e s
      at v hs a (steps.probabilities ps m e c t s) = subst (IsStartBody states ls) (sym s)
          (forms.probabilities ps m (subst (AreNumbers ls) e a) c t)

      formed : (hs : List ℤ) → AreNumbers ls hs → AreFormed states hs → IsStartBodyForm states ls
      formed hs a (steps.alone h e) = shapes.one_number (subst (AreNumbers ls) e a)
      formed hs a (steps.each ps m e c small) = shapes.probabilities ps m (subst (AreNumbers ls) e a) c small

      of : (asked : Option StartWeights) (hs : List ℤ) → AreNumbers ls hs → AreStartNumbers states hs asked → BodyGoes states ls asked
      of None hs a given = formed hs a given
      of (Some v) hs a given = at v hs a given

  numbers_on : ((s : ℕ) → 1 < count_of states → IsWhole l s → s < count_of states → ⊥) → (ls : List Lexeme) (asked : Option StartWeights)
      → BodyGoes states (l ∷ ls) asked
      → NumbersGo states [] None (l ∷ ls) asked
  numbers_on none ls asked g = of ls asked g
    where
      of_form : (ls : List Lexeme) → IsStartBodyForm states (l ∷ ls) → NumbersGo states [] None (l ∷ ls) None
      of_form ls (shapes.uniform w) = absurd (no_name w.kind)
      of_form ls (shapes.name n f) = absurd (no_name n.kind)
      of_form ls (shapes.state_number {s = k} m n b) = absurd (none k m n b)
      of_form ls (shapes.one_number {h} n) = record { further = h ∷ []; numbers = n; given = steps.alone h refl }
      of_form ls (shapes.probabilities ps m n c small) = record { further = map pos ps; numbers = n; given = steps.each ps m refl c small }

      of_body : (ls : List Lexeme) (v : StartWeights) → IsStartBody states (l ∷ ls) v → NumbersGo states [] None (l ∷ ls) (Some v)
      of_body ls v (forms.uniform w) = absurd (no_name w.kind)
      of_body ls v (forms.name n f) = absurd (no_name n.kind)
      of_body ls v (forms.number {s = k} m n b) = absurd (none k m n b)
      of_body ls v (forms.only_state {h} c n (inl e)) = record
          { further = h ∷ []; numbers = n; given = steps.only_state c (inl (ap (λ x. x ∷ []) e)) refl }
      of_body ls v (forms.only_state {h} c n (inr e)) = record
          { further = h ∷ []; numbers = n; given = steps.only_state c (inr (ap (λ x. x ∷ []) e)) refl }
      of_body ls v (forms.probabilities ps m n c t) = record
          { further = map pos ps; numbers = n; given = steps.probabilities ps m refl c t refl }

      of : (ls : List Lexeme) (asked : Option StartWeights) → BodyGoes states (l ∷ ls) asked → NumbersGo states [] None (l ∷ ls) asked
      of = grind (arith, of_form, of_body)

  pub body_begins : ((s : ℕ) → 1 < count_of states → IsWhole l s → s < count_of states → ⊥) → (r : StartReader)
      → Begins (NumbersGo states [] None) l (StartGoes states r) → TakesLexeme (StartGoes states) reader.Body l r
  body_begins none r b = record {
    back = λ ls v g. numbers_back (l ∷ ls) v (b.back ls v g);
    on = λ ls v g. b.on ls v (numbers_on none ls v g);
  }

  pub body_stuck : ((s : ℕ) → 1 < count_of states → IsWhole l s → s < count_of states → ⊥) → CannotTake (NumbersGo states []) None l
      → CannotTake (StartGoes states) reader.Body l
  body_stuck none stuck ls v g = stuck ls v (numbers_on none ls v g)

-- ---- digits alone

module _ (states : Elements) (l : Lexeme) (digits : StateOrNumber) (are : AreStartDigits (count_of states) l digits) where
  digits_no_name : l.kind ≡ Name → ⊥
  digits_no_name name = cc

  state_of : (s : ℕ) (o : Option ℕ) → o ≡ Some s → IsState (count_of states) o l → IsWhole l s × (s < count_of states)
  state_of = grind arith

  of_state : (s : ℕ) (o : Option ℕ) → IsState (count_of states) o l → IsWhole l s → s < count_of states → o ≡ Some s
  of_state = grind arith

  of_value : (h : ℤ) (r : Result ℤ NumberFault) → IsValue r false l → IsMillionths false l h → r ≡ Ok h
  of_value h (Ok k) is v = ap Ok (one_millionths false l k h is v)
  of_value h (Err f) is v = absurd (exact_not_refused false l.bytes f h v.readable v.value is.1)

  number_back : (ls : List Lexeme) (asked : Option StartWeights) (s : ℕ) → ls ≡ [] → digits.state ≡ Some s
      → AreAsked (single states s) asked → BodyGoes states (l ∷ ls) asked
  number_back ls None s none e f =
      let is = state_of s _ e are.state in
      rw none (shapes.state_number are.more is.0 is.1)
  number_back ls (Some v) s none e f = grind (arith, more, state_of, forms.number)

  back : (ls : List Lexeme) (asked : Option StartWeights) → DigitsGo states digits ls asked → BodyGoes states (l ∷ ls) asked
  back ls asked (state_number s none e f) = number_back ls asked s none e f
  back ls asked (first_of_more h e g) =
      numbers_back states l digits_no_name (l ∷ ls) asked
      ((value_begins states [] l None h (grind arith)).back ls asked g)

  first_on : (ls : List Lexeme) (asked : Option StartWeights) → NumbersGo states [] None (l ∷ ls) asked → DigitsGo states digits ls asked
  first_on ls asked g =
      let f = first_number None l ls _ are.digits_are.0 g.numbers in
      first_of_more f.first (of_value f.first _ are.value f.value)
      ((value_begins states [] l None f.first f.value).on ls asked g)

  form_on : (ls : List Lexeme) → IsStartBodyForm states (l ∷ ls) → DigitsGo states digits ls None
  form_on ls (shapes.uniform w) = absurd (digits_no_name w.kind)
  form_on ls (shapes.name n f) = absurd (digits_no_name n.kind)
  form_on ls (shapes.state_number {s = k} m n b) = state_number k refl (of_state k _ are.state n b) tt
  form_on ls (shapes.one_number {h} n) = first_on ls None (record { further = h ∷ []; numbers = n; given = steps.alone h refl })
  form_on ls (shapes.probabilities ps m n c small) = first_on ls None
      (record { further = map pos ps; numbers = n; given = steps.each ps m refl c small })

  body_on : (ls : List Lexeme) (v : StartWeights) → IsStartBody states (l ∷ ls) v → DigitsGo states digits ls (Some v)
  body_on ls v (forms.uniform w) = absurd (digits_no_name w.kind)
  body_on ls v (forms.name n f) = absurd (digits_no_name n.kind)
  body_on ls v (forms.number {s = k} m n b) = state_number k refl (of_state k _ are.state n b) refl
  body_on ls v (forms.only_state c n h) = absurd (omega arith)
  body_on ls v (forms.probabilities ps m n c t) = first_on ls (Some v)
      (record { further = map pos ps; numbers = n; given = steps.probabilities ps m refl c t refl })

  on : (ls : List Lexeme) (asked : Option StartWeights) → BodyGoes states (l ∷ ls) asked → DigitsGo states digits ls asked
  on ls None g = form_on ls g
  on ls (Some v) g = body_on ls v g

  pub digits_begin : TakesLexeme (StartGoes states) reader.Body l (reader.StateOrNumber digits)
  digits_begin = record { back = back; on = on }

-- digits are a state's number where there is more than one state
pub not_whole : (states : Elements) (l : Lexeme) → (count_of states ≡ 1) ⊎ (are_digits l.bytes ≡ false) → (s : ℕ) → 1 < count_of states
    → IsWhole l s → s < count_of states → ⊥
not_whole = grind arith

pub sign_not_whole : (states : Elements) (l : Lexeme) → (l.kind ≡ Numeral → ⊥) → (s : ℕ) → 1 < count_of states → IsWhole l s
    → s < count_of states → ⊥
sign_not_whole = grind arith

pub whole_or_one : (states : Elements) (l : Lexeme) (count : ℕ) → count ≡ count_of states → (count ≡ 1) ⊎ (are_digits l.bytes ≡ false)
    → (count_of states ≡ 1) ⊎ (are_digits l.bytes ≡ false)
whole_or_one states l count e w = rw (← e) w

pub numeral_not_name : (l : Lexeme) → l.kind ≡ Numeral → l.kind ≡ Name → ⊥
numeral_not_name l a b = cc

pub plus_or_minus : (l : Lexeme) → (l.kind ≡ Plus) ⊎ (l.kind ≡ Minus) → (l.kind ≡ Numeral → ⊥) × (l.kind ≡ Name → ⊥)
plus_or_minus = grind arith
