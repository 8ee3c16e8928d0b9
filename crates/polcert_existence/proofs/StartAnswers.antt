-- What the reader of a start item answers.
use Rattle.std.proofs.Math.Logic.{⊎_map}
use Rattle.std.proofs.Common.{◌≡◌, ◌≢◌, ◌∙◌, ◌⊎◌, inl, inr, ⊎_elim, ℕ, ℤ, zero, suc, pos, negsuc, ◌-◌, ◌<◌, ◌≤◌, true, false, Option}
use Rattle.std.proofs.Common.{Some, None, Result, Ok, Err, List, [], ◌∷◌, ◌++◌, length, map, sum, replicate, codes, refl}
use Rattle.std.proofs.Common.{sym, ap, subst, arith, length-append}
use Rattle.std.specs.Prelude.{is_some, if◌then◌else◌}
use Rattle.std.specs.List.{AllZip}
use Rattle.std.proofs.lemmas.Bool.{cases_Bool}
use Rattle.std.proofs.lemmas.Bool.Decides.{nat_tests}
use Rattle.std.proofs.lemmas.Grind.{common_steps}
use Rattle.std.proofs.lemmas.List.{length-replicate, append-nil, length-map}
use Rattle.polcert_text.specs.Cut.{Lexeme}
use Rattle.polcert_text.specs.Lexemes.{are_digits}
use Rattle.polcert_text.specs.declared.number.NumberFault.{NumberFault}
use Rattle.polcert_text.specs.declared.tokens.TokenKind.{TokenKind}
use Rattle.polcert_text.specs.declared.tokens.TokenKind.TheVariants as kinds
use Rattle.polcert_cells.proofs.Basics.{some≢none, true≢false, cons≢nil, same_head, same_tail}
use Rattle.polcert_cells.specs.Words.{IsWord}
use Rattle.polcert_cells.specs.Numbers.{IsWhole, AreNumbers, one}
use Rattle.polcert_cells.specs.Elements.{StandsFor, count_of}
use Rattle.polcert_cells.specs.Start.{IsStart, all_states}
use Rattle.polcert_cells.specs.declared.elements.Elements.{Elements}
use Rattle.polcert_cells.specs.declared.elements.StartWeights.{StartWeights}
use Rattle.polcert_cells.specs.declared.entries.Body.TheVariants as bodies
use Rattle.polcert_format.specs.declared.fault.ItemFault.{ItemFault}
use Rattle.polcert_format.specs.declared.fault.ItemFault.TheVariants as faults
use Rattle.polcert_format.specs.Forms.{IsStartForm}
use Rattle.polcert_format.specs.Forms as shapes
use Rattle.polcert_cells.specs.Start as starts
use Rattle.polcert_format.specs.Misfits.{Expected, StartBody, NumberOrEnd, Number, EndOfWord, IsMisfit, of_place, of_value, IsOfValue}
use Rattle.polcert_format.specs.Misfits.{unexpected_token, tests_value, begins_number, is_reset}
use Rattle.polcert_format.specs.Reasons.{is_sign_kind}
use Rattle.polcert_format.specs.Wants.{numbers_want, number_end, start_body_wants, may_be_state, by_kind, is_colon}
use Rattle.polcert_format.specs.Wants as wants
use Rattle.polcert_items.specs.Steps.Entries.{IsListReason, HasRoom, IsFull}
use Rattle.polcert_items.specs.Steps.Feeding.{IsStartFed, RefusesInStart}
use Rattle.polcert_items.specs.Steps.Lines.{TakesLexeme, CannotTake, CannotEnd}
use Rattle.polcert_items.specs.Steps.Numbers.{IsMisplaced, IsNumberStep, IsSignAt, SignIs, IsNumberReason}
use Rattle.polcert_items.specs.Steps.Start.{StartGoes, StartGives, IsStartWithin, HasReadStart, IsReasonAt, IsDue, IsDueNumber, IsDueValue}
use Rattle.polcert_items.specs.Steps.Start.{IsStop, due, at_once, CanStillBeRight, IsNumberHeld, IsNumberKept, IsKept, NumbersGo, Begins}
use Rattle.polcert_items.specs.Steps.Start.{IsOutside, AreStartDigits, IsState, IsValue, marked, start_sign, AreStartNumbers}
use Rattle.polcert_items.specs.Steps.Start.{AreShares}
use Rattle.polcert_items.specs.Steps.Start.{AreLeft, listed, chosen_with, IsStartEndKind, IsEndDue, pending_refusal, state_number}
use Rattle.polcert_items.specs.Steps.Start.{first_of_more}
use Rattle.polcert_items.specs.Steps.Start.{alone, each, only_state, probabilities}
use Rattle.polcert_format.proofs.FurtherNumbers.{begins_no_number}
use Rattle.polcert_items.specs.Steps.Wants.{ExpectsNext, expected_by_numbers, expected_by_start, number_wants}
use Rattle.polcert_items.specs.declared.entry_reader.Numbers.{Numbers}
use Rattle.polcert_items.specs.declared.item.FeedError.TheVariants as stops
use Rattle.polcert_items.specs.declared.signed_number.NumberStep.{NumberStep}
use Rattle.polcert_items.specs.declared.signed_number.NumberStep.TheVariants as steps
use Rattle.polcert_items.specs.declared.signed_number.Range.TheVariants as ranges
use Rattle.polcert_items.specs.declared.signed_number.Refusal.{Refusal}
use Rattle.polcert_items.specs.declared.signed_number.Sign.{Sign}
use Rattle.polcert_items.specs.declared.start_reader.Selection.{Selection}
use Rattle.polcert_items.specs.declared.start_reader.Selection.TheVariants.{Include, Exclude}
use Rattle.polcert_items.specs.declared.start_reader.Chosen.{Chosen}
use Rattle.polcert_items.specs.declared.start_reader.FirstNumber.{FirstNumber}
use Rattle.polcert_items.specs.declared.start_reader.StateOrNumber.{StateOrNumber}
use Rattle.polcert_items.specs.declared.start_reader.StartReader.{StartReader}
use Rattle.polcert_items.specs.declared.start_reader.StartReader.TheVariants as reader
use Rattle.polcert_items.proofs.ListLaws.{held_not_refused}
use Rattle.polcert_items.specs.declared.item.EndError.TheVariants as ends
use Rattle.polcert_items.specs.Steps.Numbers.{AreNumbersAfter}
use Rattle.polcert_items.proofs.PatternLaws.{list_full}
use Rattle.polcert_items.proofs.StartForms as forms
use Rattle.polcert_items.proofs.StartNumbers as numbers
use Rattle.polcert_items.proofs.StartReading.{shares_fed}
use Rattle.polcert_items.proofs.StartSeen as seen
use Rattle.polcert_existence.proofs.Decisions.{below_or_not, same_or_not, numeral_kind_or_not}
use Rattle.polcert_existence.proofs.TokenAnswers.{misplaced, after_numbers, colon_or_not, number_step, exact_or_refused, word_or_not}
use Rattle.polcert_existence.proofs.TokenAnswers.{fraction_or_not}
use Rattle.polcert_existence.proofs.EntryAnswers.{element_no_sign, no_lexemes, full_wants, element_or_not, feed_probabilities, full_or_not}
use Rattle.polcert_existence.proofs.EntryAnswers.{list_unended as list_unended_at}

-- a token is refused in a start item
pub record StartRefused (states : Elements) (old : StartReader) (l : Lexeme) : Type 0 where
  pub refusal : Refusal
  pub refuses : RefusesInStart states old l refusal
  pub held : CanStillBeRight (count_of states) old l → ⊥
  pub late : (r : Refusal) → IsDue old l r.kind r.place → refusal ≡ r

abbrev pub StartFed : Elements → StartReader → Lexeme → Type 0
StartFed states old l = ((new : StartReader) × IsStartFed states old l new) ⊎ StartRefused states old l

abbrev refusal_of : ItemFault → ℕ → Refusal
refusal_of kind place = record { kind = kind; place = place }

as_reason : (sign : Option Sign) (l : Lexeme) (kind : ItemFault) (place : ℕ) → IsMisplaced l kind place → IsReasonAt sign l kind place
as_reason sign l kind place h = grind arith

number_reason : (sign : Option Sign) (l : Lexeme) (kind : ItemFault) (place : ℕ) → IsNumberReason ranges.Reward sign l kind place
    → IsReasonAt sign l kind place
number_reason sign l kind place h = grind arith

record FirstTaken (sign : Option Sign) (l : Lexeme) (new : StartReader) : Type 0 where
  begun : (states : Elements) → Begins (NumbersGo states [] sign) l (StartGoes states new)
  within : (states : Elements) → IsStartWithin states new
  kept : IsNumberKept sign l new
  leads : (count : ℕ) → ExpectsNext (numbers_want (is_some sign) count) l (expected_by_start count new)

record FirstRefused (sign : Option Sign) (l : Lexeme) : Type 0 where
  kind : ItemFault
  place : ℕ
  stuck : (states : Elements) → CannotTake (NumbersGo states []) sign l
  held : IsNumberHeld sign l → ⊥
  reason : IsReasonAt sign l kind place
  misfit : IsMisfit (number_wants sign) l kind
  number : l.kind ≡ kinds.Numeral → IsOfValue kind

record FurtherTaken (states : Elements) (f : FirstNumber) (l : Lexeme) (n : Numbers ℕ) : Type 0 where
  takes : TakesLexeme (StartGoes states) (reader.Number f) l (reader.Probabilities n)
  within : IsStartWithin states (reader.Probabilities n)
  sign : SignIs n.sign l
  inside : IsOutside f.value → ⊥
  leads : ExpectsNext (numbers_want false (count_of states - 1)) l (expected_by_numbers n)

record FurtherRefused (states : Elements) (f : FirstNumber) (l : Lexeme) : Type 0 where
  kind : ItemFault
  place : ℕ
  stuck : CannotTake (StartGoes states) (reader.Number f) l
  stop : IsStop (IsDueNumber f.value f.place l) None (number_end false (count_of states - 1)) l kind place
  late : (r : Refusal) → IsDueNumber f.value f.place l r.kind r.place → refusal_of kind place ≡ r

pub record StartEnds (states : Elements) (r : StartReader) : Type 0 where
  pub shares : StartWeights
  pub gives : StartGives states r [] shares

pub record StartUnended (states : Elements) (r : StartReader) : Type 0 where
  pub kind : ItemFault
  pub stuck : CannotEnd (StartGives states) r
  pub reason : IsStartEndKind kind
  pub kinds : kind ≡ unexpected_token (expected_by_start (count_of states) r []) None
  pub due : IsEndDue r (ends.AtEnd kind)
  pub unheld : pending_refusal r ≡ None

-- digits that are no state's number
pub record DigitsUnended (states : Elements) (r : StartReader) : Type 0 where
  pub digits : StateOrNumber
  pub is : r ≡ reader.StateOrNumber digits
  pub none : digits.state ≡ None

pub data StartEnded (states : Elements) (r : StartReader) : Type 0 where
  ended : StartEnds states r → StartEnded states r
  unended : StartUnended states r → StartEnded states r
  digits_unended : DigitsUnended states r → StartEnded states r

abbrev shares_listed : Elements → Chosen → StartWeights
shares_listed states c = listed states c.choice (chosen_with (marked c.marks) [])

module _ (states : Elements) where
  -- the token is refused for itself
  for_itself : (r : StartReader) (l : Lexeme) (kind : ItemFault) (place : ℕ) → CannotTake (StartGoes states) r l
      → IsReasonAt (start_sign r) l kind place → IsMisfit (expected_by_start (count_of states) r []) l kind
      → (CanStillBeRight (count_of states) r l → ⊥) → ((x : Refusal) → IsDue r l x.kind x.place → ⊥) → StartFed states r l
  for_itself r l kind place stuck reason misfit held none = inr (record {
    refusal = _;
    refuses = seen.token_refused {T = Unit {0}} (Err (stops.Refused _)) _ r l stuck reason misfit;
    held = held;
    late = λ x d. absurd (none x d);
  })

  fed : (r new : StartReader) (l : Lexeme) → IsStartWithin states new → TakesLexeme (StartGoes states) r l new
      → ExpectsNext (expected_by_start (count_of states) r) l (expected_by_start (count_of states) new)
      → ((body : List Lexeme) → HasReadStart (count_of states) body r → HasReadStart (count_of states) (body ++ l ∷ []) new)
      → StartFed states r l
  fed r new l within takes leads also = inl (new, seen.fed_as _ r r new l refl within takes leads also)

  -- ---- the first number

  value_leads : (sign : Option Sign) (l : Lexeme) (first : FirstNumber) → l.kind ≡ kinds.Numeral → (count : ℕ)
      → ExpectsNext (numbers_want (is_some sign) count) l (expected_by_start count (reader.Number first))
  value_leads sign l first e count = grind arith

  first_number : (sign : Option Sign) (l : Lexeme) → ((new : StartReader) × FirstTaken sign l new) ⊎ FirstRefused sign l
  first_number sign l = ⊎_elim (λ s. inl (step s.0 s.1)) (λ no. inr (record {
    kind = _;
    place = _;
    stuck = λ states ls v g. no.refuses.none ls _ g.numbers (λ k d h. tt);
    held = held_not_refused sign l no.refuses.none;
    reason = number_reason sign l no.kind no.place no.refuses.reason;
    misfit = no.misfit;
    number = no.number;
  }))
      (number_step ranges.Reward sign l)
    where
      step : (s : NumberStep) → IsNumberStep ranges.Reward sign l s → (new : StartReader) × FirstTaken sign l new
      step (steps.Sign s) is = (
        reader.Sign s,
        record {
          begun = λ states. rw is.0 (numbers.sign_begins _ [] l s is.1);
          within = λ states. tt;
          kept = is;
          leads = λ count. rw is.0 (grind arith);
        },
      )
      step (steps.Value h) is = (
        reader.Number _,
        record {
          begun = λ states. numbers.value_begins _ [] l _ h is.0;
          within = λ states. tt;
          kept = (refl, is.0);
          leads = grind arith;
        },
      )

  kept_as_first : (count : ℕ) (l : Lexeme) (r : StartReader) → may_be_state count l.kind l.bytes ≡ false → IsNumberKept None l r
      → IsKept count l r
  kept_as_first count l (reader.Sign s) none kept = (none, kept)
  kept_as_first count l (reader.Number first) none kept = (none, kept)
  kept_as_first count l _ none kept = absurd kept

  -- ---- after the colon

  fed_body : (new : StartReader) (l : Lexeme) → IsStartWithin states new
      → TakesLexeme (StartGoes states) reader.Body l new → IsKept (count_of states) l new
      → ExpectsNext (start_body_wants (count_of states)) l (expected_by_start (count_of states) new) → StartFed states reader.Body l
  fed_body new l within takes kept leads = fed _ new l within takes leads (λ body read. seen.body_seen _ _ l new read.body_is kept)

  name_leads : (l : Lexeme) → l.kind ≡ kinds.Name → (ls : List Lexeme)
      → start_body_wants (count_of states) (l ∷ ls) ≡ EndOfWord
  name_leads l e _ = grind arith

  by_other : (k : TokenKind) (further other : Expected) → (k ≡ kinds.Name → ⊥) → (k ≡ kinds.Colon → ⊥) → by_kind k further other ≡ other
  by_other k further other no_name no_colon = grind arith

  number_leads : (count : ℕ) (l : Lexeme) (new : StartReader) → (l.kind ≡ kinds.Name → ⊥) → (l.kind ≡ kinds.Colon → ⊥)
      → may_be_state count l.kind l.bytes ≡ false
      → ExpectsNext (numbers_want false count) l (expected_by_start count new)
      → ExpectsNext (start_body_wants count) l (expected_by_start count new)
  number_leads count l new no_name no_colon none leads = record { same = at }
    where
      at : (ls : List Lexeme) → start_body_wants count (l ∷ ls) ≡ expected_by_start count new ls
      at [] = ap (λ b. if b then NumberOrEnd else by_kind l.kind EndOfWord (numbers_want false count (l ∷ []))) none
          ∙ by_other _ _ _ no_name no_colon ∙ leads.same []
      at (m ∷ ls) = grind arith ∙ leads.same _

  kept_no_colon : (l : Lexeme) (r : StartReader) → IsNumberKept None l r → l.kind ≡ kinds.Colon → ⊥
  kept_no_colon l (reader.Sign s) kept e = sign_no_colon l s kept.1 e
    where
      sign_no_colon : (l : Lexeme) (s : Sign) → IsSignAt s l → l.kind ≡ kinds.Colon → ⊥
      sign_no_colon l s at e = grind arith
  kept_no_colon l (reader.Number first) kept e = cc
  kept_no_colon l _ kept e = absurd kept

  other_tests : (k : TokenKind) → (k ≡ kinds.Numeral → ⊥) → (tests_value Number k ≡ false) × (tests_value StartBody k ≡ false)
  other_tests k no_numeral = grind arith

  body_misfit : (l : Lexeme) (kind : ItemFault) → (l.kind ≡ kinds.Name → ⊥) → IsMisfit Number l kind
      → (l.kind ≡ kinds.Numeral → IsOfValue kind) → IsMisfit StartBody l kind
  body_misfit l kind no_name m number = ⊎_elim (λ e. of_value (cc) (number e)) (λ other. at other m) (numeral_kind_or_not _)
    where
      at : (l.kind ≡ kinds.Numeral → ⊥) → IsMisfit Number l kind → IsMisfit StartBody l kind
      at other (of_value t v) = let f = (other_tests _ other).0 in absurd (true≢false t f)
      at other (of_place t same) = of_place (other_tests _ other).1
          (same ∙ ap (λ m. if is_reset l.kind l.bytes then faults.Reset else m) (sym (grind arith)))

  begin_number : (l : Lexeme) → (l.kind ≡ kinds.Name → ⊥) → may_be_state (count_of states) l.kind l.bytes ≡ false
      → ((s : ℕ) → 1 < count_of states → IsWhole l s → s < count_of states → ⊥) → StartFed states reader.Body l
  begin_number l no_name none not_whole = ⊎_elim
      (λ s. fed_body s.0 l (s.1.within states) (forms.body_begins _ l no_name not_whole s.0 (s.1.begun _))
      (kept_as_first _ l s.0 none s.1.kept)
      (number_leads _ l s.0 no_name (kept_no_colon l s.0 s.1.kept) none (s.1.leads _)))
      (λ stop. for_itself _ l _ _ (forms.body_stuck _ l no_name not_whole (stop.stuck _))
      stop.reason (body_misfit l _ no_name stop.misfit stop.number) (⊎_elim (λ may. cc) stop.held) (λ r d. d))
      (first_number _ l)

  -- digits that may be a state's number
  state_of : (count : ℕ) (l : Lexeme) → l.kind ≡ kinds.Numeral → are_digits l.bytes ≡ true → (s : Option ℕ) × IsState count s l
  state_of count l e digits = ⊎_elim (λ below. (Some _, (record { kind = e; digits = digits; value = refl }, below)))
      (λ above. (None, λ s whole low. omega arith))
      (below_or_not _ _)

  value_of : (l : Lexeme) → l.kind ≡ kinds.Numeral → (v : Result ℤ NumberFault) × IsValue v false l
  value_of l e = ⊎_elim (λ h. (Ok h.0, record { kind = e; readable = h.1; value = h.2 })) (λ f. (Err f.0, (e, f.1)))
      (exact_or_refused false l.bytes)

  digits_leads : (count : ℕ) (l : Lexeme) (d : StateOrNumber) → l.kind ≡ kinds.Numeral → may_be_state count l.kind l.bytes ≡ true
      → ExpectsNext (start_body_wants count) l (expected_by_start count (reader.StateOrNumber d))
  digits_leads count l d e may = record { same = at }
    where
      at : (ls : List Lexeme) → start_body_wants count (l ∷ ls) ≡ expected_by_start count (reader.StateOrNumber d) ls
      at [] = ap (λ b. if b then NumberOrEnd else by_kind l.kind EndOfWord (numbers_want false count (l ∷ []))) may
      at (m ∷ ls) = grind arith ∙ (value_leads None l (record { value = pos 0; place = 0 }) e _).same (m ∷ ls)

  begin_digits : (l : Lexeme) → 1 < count_of states → l.kind ≡ kinds.Numeral → are_digits l.bytes ≡ true
      → may_be_state (count_of states) l.kind l.bytes ≡ true → StartFed states reader.Body l
  begin_digits l more e digits may =
      let s = state_of _ l e digits in
      let v = value_of l e in
      let d : StateOrNumber = record { state = s.0; value = v.0; place = _ } in
      let are : AreStartDigits _ l d = record
      { more = more; place = refl; digits_are = (e, digits); state = s.1; value = v.1 }
      in
      fed_body _ l (more, state_below s.0 s.1) (forms.digits_begin _ l d are) are
      (digits_leads _ l d e may)
    where
      state_below : (s : Option ℕ) → IsState (count_of states) s l → (t : ℕ) → s ≡ Some t → t < count_of states
      state_below None is t e = cc
      state_below (Some n) is t e = omega (arith, some_once e)
        where
          some_once : {A : Type 0} {a b : A} → Some a ≡ Some b → a ≡ b
          some_once e = cc

  begin_name : (l : Lexeme) → l.kind ≡ kinds.Name → StartFed states reader.Body l
  begin_name l e = ⊎_elim (λ uniform. fed_body _ l tt (forms.uniform_begins _ l e uniform) e (record { same = name_leads l e }))
      (λ other. ⊎_elim
      (λ s. fed_body (reader.Only s.0) l (forms.stands_low _ l s.0 _ refl s.1)
      (forms.name_begins states l e s.0 s.1 other) e (record { same = name_leads l e }))
      (λ no. for_itself _ l _ l.place (forms.name_stuck _ l e no.none other) (grind arith)
      (of_place (ap (tests_value StartBody) e) no.kind_is)
      (⊎_elim (no_state l e) (⊎_elim (no_sign l e) (λ h. let f = h.1.kind in cc))) (λ r d. d))
      (element_or_not states l))
      (word_or_not _ l)
    where
      no_state : (l : Lexeme) → l.kind ≡ kinds.Name → may_be_state (count_of states) l.kind l.bytes ≡ true → ⊥
      no_state l e may = grind arith

      no_sign : (l : Lexeme) → l.kind ≡ kinds.Name → is_sign_kind l.kind ≡ true → ⊥
      no_sign l e sign = grind arith

  begin_body : 1 ≤ count_of states → (l : Lexeme) → StartFed states reader.Body l
  begin_body some l = at l.kind refl
    where
      numeral : l.kind ≡ kinds.Numeral → StartFed states reader.Body l
      numeral e = ⊎_elim (λ only. begin_number l (λ f. cc) (grind (arith, nat_tests)) (forms.not_whole states l (inl only)))
          (λ other. ⊎_elim
          (λ digits. begin_digits l (omega arith)
          e digits (grind (arith, nat_tests)))
          (λ none. begin_number l (λ f. cc) (grind (arith, nat_tests)) (forms.not_whole states l (inr none)))
          (cases_Bool _))
          (same_or_not _ 1)
        where
          more_or_one : (n : ℕ) → 1 ≤ n → (1 < n) ⊎ (n ≡ 1)
          more_or_one n h = grind arith

      at : (k : TokenKind) → l.kind ≡ k → StartFed states reader.Body l
      at kinds.Name e = begin_name l e
      at kinds.Numeral e = numeral e
      at _ e = begin_number l (λ f. cc) (grind arith) (forms.sign_not_whole states l (λ f. cc))

  -- ---- after the first number

  no_number_kind : (l : Lexeme) → begins_number l.kind ≡ false → (l.kind ≡ kinds.Numeral → ⊥)
      × ((l.kind ≡ kinds.Plus → ⊥) × (l.kind ≡ kinds.Minus → ⊥))
  no_number_kind l e = ((λ f. cc), ((λ f. cc), (λ f. cc)))

  no_further_stuck : (f : FirstNumber) (l : Lexeme) → begins_number l.kind ≡ false
      → CannotTake (StartGoes states) (reader.Number f) l
  no_further_stuck f l e ls v g = let no = no_number_kind l e in begins_no_number no.0 no.1.0 no.1.1 g.numbers

  -- with one state there is one number
  one_alone : (h : ℤ) (xs : List Lexeme) (further : List ℤ) (asked : Option StartWeights) → count_of states ≡ 1
      → (l : Lexeme) (ls : List Lexeme) → xs ≡ l ∷ ls → AreNumbers xs further → AreStartNumbers states (h ∷ further) asked → ⊥
  one_alone h xs further None only l ls e a (alone k same) = cons≢nil (sym e ∙ no_lexemes xs _ (same_tail same) a)
  one_alone h xs further None only l ls e a (each ps more same count small) = omega arith
  one_alone h xs further (Some v) only l ls e a (only_state count (inl same) shares) = cons≢nil (sym e ∙ no_lexemes xs _ (same_tail same) a)
  one_alone h xs further (Some v) only l ls e a (only_state count (inr same) shares) = cons≢nil (sym e ∙ no_lexemes xs _ (same_tail same) a)
  one_alone h xs further (Some v) only l ls e a (probabilities ps more same count total shares) = omega arith

  not_due : (f : FirstNumber) (l : Lexeme) (P : Refusal → Type 0) → (IsOutside f.value → ⊥) → (r : Refusal)
      → IsDueNumber f.value f.place l r.kind r.place → P r
  not_due f l P inside r d = absurd (inside d.1.0)

  probability_reason : (sign : Option Sign) (l : Lexeme) (kind : ItemFault) (place : ℕ) → IsListReason ranges.Probability sign l kind place
      → IsReasonAt sign l kind place
  probability_reason sign l kind place h = seen.list_reason _ l _ _ h

  none_left : (count : ℕ) → count ≡ 1 → 0 ≡ count - 1
  none_left count e = omega arith

  more_numbers : 1 ≤ count_of states → (f : FirstNumber) (l : Lexeme) → begins_number l.kind ≡ true → (p : ℕ)
      → f.value ≡ pos p → p ≤ one → (IsOutside f.value → ⊥)
      → ((n : Numbers ℕ) × FurtherTaken states f l n) ⊎ FurtherRefused states f l
  more_numbers some f l begins p value small inside = ⊎_elim (λ only. let m = after_numbers l in inr (record {
    kind = m.kind;
    place = l.place;
    stuck = λ ls v g. one_alone f.value (l ∷ ls) g.further v only l ls refl g.numbers g.given;
    stop = at_once (subst (λ n. IsMisfit (number_end false n) l m.kind) (none_left (count_of states) only) (of_place refl m.kind_is))
        (grind arith);
    late = not_due f l _ inside;
  }))
      (λ other.
      let more = numbers.more_states _ _ refl other some in
      let is = numbers.one_read _ p _ _ refl refl in
      ⊎_elim
      (λ s. inl (
        s.0,
        record {
          takes = numbers.number_takes _ f p _ s.0 l value small more is s.1.step.takes;
          within = record { more = more; needed = s.1.needed; room = s.1.room };
          sign = s.1.sign;
          inside = inside;
          leads = s.1.step.leads;
        },
      ))
      (λ stop. inr (record {
        kind = _;
        place = _;
        stuck = numbers.number_stuck _ f p _ l value small more is stop.stuck;
        stop = at_once stop.misfit (probability_reason _ l _ _ stop.reason);
        late = not_due f l _ inside;
      }))
      (feed_probabilities _ l (omega arith)))
      (same_or_not _ 1)

  same_refusal : (kind other : ItemFault) (place at : ℕ) → kind ≡ other → place ≡ at → refusal_of other at ≡ refusal_of kind place
  same_refusal kind other place at e f = λ i. record { kind = sym e i; place = sym f i }

  advance : 1 ≤ count_of states → (f : FirstNumber) (l : Lexeme) → ((n : Numbers ℕ) × FurtherTaken states f l n)
      ⊎ FurtherRefused states f l
  advance some f l = ⊎_elim (λ begins. ⊎_elim (λ p. more_numbers some f l begins p.0 p.1.0 p.1.1 (λ out. out p.0 p.1.0 p.1.1))
      (λ out. inr (record {
        kind = _;
        place = _;
        stuck = numbers.outside_stuck _ f l out;
        stop = due (begins, (out, refl, refl));
        late = λ r d. same_refusal _ _ _ _ d.1.1 d.1.2;
      }))
      (⊎_elim inl (λ none. inr (λ p e small. none (p, (e, small)))) (fraction_or_not f.value)))
      (λ none. let w = number_end false (count_of states - 1) in let m = misplaced w l (grind arith) in
      inr (record {
        kind = m.kind;
        place = l.place;
        stuck = no_further_stuck f l none;
        stop = at_once (of_place (grind arith) m.kind_is) (grind arith);
        late = λ r d. let b = d.0 in absurd (true≢false b none);
      }))
      (cases_Bool _)

  -- ---- one more token

  number_is_wanted : (count : ℕ) → 1 < count → number_end false (count - 1) ≡ Number
  number_is_wanted count more = grind arith

  or_end : (l : Lexeme) (kind : ItemFault) → IsMisfit Number l kind → IsMisfit NumberOrEnd l kind
  or_end l kind (of_value t v) = of_value (grind arith ∙ t) v
  or_end l kind (of_place t same) = of_place (grind arith ∙ t) same

  stop_or_end : (count : ℕ) (f : FirstNumber) (l : Lexeme) (kind : ItemFault) (place : ℕ) → 1 < count
      → IsStop (IsDueNumber f.value f.place l) None (number_end false (count - 1)) l kind place
      → IsStop (IsDueNumber f.value f.place l) None NumberOrEnd l kind place
  stop_or_end count f l kind place more (due d) = due d
  stop_or_end count f l kind place more (at_once m r) = at_once (or_end l _ (subst (λ w. IsMisfit w l kind) (grind arith) m)) r

  form_stuck : (l : Lexeme) → (l.kind ≡ kinds.Colon → ⊥) → (IsWord (codes "include") l → ⊥)
      → (IsWord (codes "exclude") l → ⊥) → CannotTake (StartGoes states) reader.Form l
  form_stuck l no_colon no_include no_exclude ls None g = of_form _ refl g
    where
      of_form : (xs : List Lexeme) → xs ≡ l ∷ ls → IsStartForm states xs → ⊥
      of_form xs e (shapes.plain colon body) = no_colon (cc)
      of_form xs e (shapes.listed chosen word colon zip) =
          ⊎_elim (λ w. no_include (subst (IsWord _) (same_head e) w))
          (λ w. no_exclude (subst (IsWord _) (same_head e) w)) word
  form_stuck l no_colon no_include no_exclude ls (Some v) g = of_start _ v refl g
    where
      of_start : (xs : List Lexeme) (v : StartWeights) → xs ≡ l ∷ ls → IsStart states xs v → ⊥
      of_start xs v e (starts.plain colon body) = no_colon (cc)
      of_start xs v e (starts.include chosen word colon zip left) = no_include (subst (IsWord _) (same_head e) word)
      of_start xs v e (starts.exclude chosen word colon zip left) = no_exclude (subst (IsWord _) (same_head e) word)

  word_leads : (count : ℕ) (l : Lexeme) (choice : Selection) → l.kind ≡ kinds.Name
      → ExpectsNext (expected_by_start count reader.Form) l (expected_by_start count (reader.Colon choice))
  word_leads count l choice e = record { same = λ ls. ap (λ k. if is_colon k then start_body_wants count ls else wants.list_wants ls) e }

  feed_form : (l : Lexeme) → StartFed states reader.Form l
  feed_form l = ⊎_elim (λ word. fed reader.Form (reader.Colon Include) l tt (forms.list_begins states l Include word)
      (word_leads (count_of states) l Include word.kind) (λ body s. seen.form_seen (count_of states) body l (reader.Colon Include)
      s.body_is
      word.kind))
      (λ no_include. ⊎_elim
      (λ word. fed reader.Form (reader.Colon Exclude) l tt (forms.list_begins states l Exclude word)
      (word_leads (count_of states) l Exclude word.kind) (λ body s. seen.form_seen (count_of states) _ l _
      s.body_is
      word.kind))
      (λ no_exclude. ⊎_elim
      (λ colon. fed _ _ l tt (forms.colon_begins _ l colon)
      (record { same = λ ls. ap (λ k. if is_colon k then start_body_wants (count_of states) ls else wants.list_wants ls) colon })
      (λ body s. seen.form_seen _ body l reader.Body s.body_is colon))
      (λ no. for_itself reader.Form l no.kind l.place (form_stuck l no.other no_include no_exclude)
      (as_reason None l no.kind l.place no.reason) no.misfit no.other (λ r d. d))
      (colon_or_not l))
      (word_or_not (codes "exclude") l))
      (word_or_not (codes "include") l)

  unmarked : (count : ℕ) (s : ℕ) → marked (replicate count false) s ≡ false
  unmarked count s = grind (arith, common_steps)

  feed_colon : (choice : Selection) (l : Lexeme) → StartFed states (reader.Colon choice) l
  feed_colon choice l = ⊎_elim (λ colon.
      let c : Chosen = record { choice = _; marks = _ } in
      fed (reader.Colon choice) _ l (length-replicate _ false) (record {
        back = λ ls v g. (colon, forms.list_same states _ _ (λ s. false) ls v (grind (arith, common_steps)) g);
        on = λ ls v g. forms.list_same _ choice _ _ ls v (λ s. sym (unmarked (count_of states) s)) g.1;
      }) (record { same = λ ls. refl }) (λ body s. seen.list_seen _ _ l c s.body_is (ap is_sign_kind colon)))
      (λ no. for_itself _ l _ l.place (λ ls v g. no.other g.0) (grind arith) no.misfit (λ h. h) (λ r d. d))
      (colon_or_not l)

  feed_listed : (c : Chosen) (l : Lexeme) → length c.marks ≡ count_of states → StartFed states (reader.List c) l
  feed_listed c l within = ⊎_elim (λ s.
      let new : Chosen = record { choice = _; marks = _ } in
      fed _ _ l (grind (arith, common_steps) ∙ within) (forms.list_takes _ c l s.0 _ s.1 (forms.stands_low _ l s.0 _ within s.1) refl)
      (record { same = λ ls. refl }) (λ body read. seen.list_seen _ _ l new read.body_is
      (element_no_sign _ l s.0 s.1)))
      (λ no. for_itself (reader.List c) l no.kind l.place (forms.list_stuck states c l no.none) (grind arith) (of_place refl no.kind_is)
      (λ h. h) (λ r d. d))
      (element_or_not _ l)

  feed_digits : 1 ≤ count_of states → (d : StateOrNumber) (l : Lexeme) → 1 < count_of states
      → (v : Result ℤ NumberFault) → d.value ≡ v → StartFed states (reader.StateOrNumber d) l
  feed_digits some d l more (Ok h) e =
      let f : FirstNumber = record { value = h; place = _ } in
      ⊎_elim
      (λ s. fed _ _ l s.1.within (numbers.digits_take _ d l f s.0 e s.1.takes) (record { same = s.1.leads.same })
      (λ body read. seen.digits_go_on _ _ l d f s.0 read e s.1.inside s.1.sign))
      (λ stop. inr (record {
        refusal = _;
        refuses = seen.first_refused {T = Unit {0}} (Err (stops.Refused _)) _ d f l (cc) stop.stuck (stop_or_end _ f l _ _ more stop.stop);
        held = λ x. x;
        late = λ r x. stop.late r (subst (λ v. IsDueValue v d.place l r.kind r.place) e x);
      }))
      (advance some f l)
  feed_digits some d l more (Err fault) e = inr (record {
    refusal = _;
    refuses = seen.valueless_refused _ d _ l (cc);
    held = λ x. x;
    late = λ r x. let y = subst (λ v. IsDueValue v d.place l r.kind r.place) e x in
        same_refusal _ _ _ _ y.0 y.1;
  })

  no_more : (r : StartReader) (l : Lexeme) → CannotTake (StartGoes states) r l
      → expected_by_start (count_of states) r [] ≡ EndOfWord → start_sign r ≡ None → (CanStillBeRight (count_of states) r l → ⊥)
      → ((x : Refusal) → IsDue r l x.kind x.place → ⊥) → StartFed states r l
  no_more r l stuck wants no_sign held none =
      let m = misplaced EndOfWord l refl in
      for_itself r l m.kind l.place stuck (grind arith) (rw wants (of_place refl m.kind_is)) held none

  pub feed_start : 1 ≤ count_of states → (old : StartReader) (l : Lexeme) → IsStartWithin states old
      → StartFed states old l
  feed_start some reader.Form l within = feed_form l
  feed_start some (reader.Colon choice) l within = feed_colon _ l
  feed_start some (reader.List c) l within = feed_listed c l within
  feed_start some reader.Body l within = begin_body some l
  feed_start some reader.Every l within = no_more _ l (λ ls v g. cons≢nil g.0) refl refl (λ h. h) (λ x d. d)
  feed_start some (reader.Only s) l within = no_more _ l (λ ls v g. cons≢nil g.0) refl refl (λ h. h) (λ x d. d)
  feed_start some (reader.Sign sign) l within = ⊎_elim (λ s. fed _ s.0 l (s.1.within states) (numbers.sign_takes _ _ l s.0 (s.1.begun _))
      (s.1.leads _)
      (λ body read. seen.numeral_seen _ _ _ l s.0 read.body_is s.1.kept))
      (λ stop. for_itself _ l _ _ (stop.stuck states) stop.reason stop.misfit stop.held (λ r d. d))
      (first_number _ l)
  feed_start some (reader.Number f) l within = ⊎_elim (λ s. fed _ _ l s.1.within s.1.takes s.1.leads
      (λ body read. seen.number_seen _ _ l f s.0 read s.1.inside s.1.sign))
      (λ stop. inr (record {
        refusal = _;
        refuses = seen.number_refused {T = Unit {0}} (Err (stops.Refused _)) _ f l stop.stuck stop.stop;
        held = λ h. h;
        late = stop.late;
      }))
      (advance some f l)
  feed_start some (reader.StateOrNumber d) l within = feed_digits some d l within.0 _ refl
  feed_start some (reader.Probabilities n) l within = ⊎_elim (λ s. inl (
    _,
    shares_fed {E = Unit {0}} (Ok tt) _ n s.0 l within s.1.needed s.1.room s.1.step.takes s.1.step.leads s.1.sign,
  ))
      (λ stop. for_itself _ l _ _ (numbers.shares_stuck states n l stop.stuck) (probability_reason _ l _ _ stop.reason) stop.misfit (λ h. h)
      (λ r d. d))
      (feed_probabilities n l within.room)

  -- ---- the end

  zero_or_not : (n : ℕ) → (n ≡ 0) ⊎ (0 < n)
  zero_or_not zero = inl refl
  zero_or_not (suc n) = inr (omega arith)

  list_unended : (c : Chosen) → (shares_listed states c).total ≡ 0 → CannotEnd (StartGives states) (reader.List c)
  list_unended c empty v g = at g.further g.stand g.said
    where
      at : (further : List ℕ) → AllZip (StandsFor states) [] further
          → AreLeft (listed states c.choice (chosen_with (marked c.marks) further)) (Some v) → ⊥
      at [] stand said = omega arith
      at (n ∷ ns) stand said = stand

  end_list : (c : Chosen) → StartEnded states (reader.List c)
  end_list c = ⊎_elim (λ empty. unended (record {
    kind = _;
    stuck = list_unended c empty;
    reason = tt;
    kinds = refl;
    due = tt;
    unheld = refl;
  }))
      (λ left. ended (record { shares = _; gives = record { further = []; stand = tt; said = (refl, left) } }))
      (zero_or_not (shares_listed states c).total)

  one_zero : (xs : List Lexeme) (further : List ℤ) → xs ≡ [] → AreNumbers xs further → further ≡ []
  one_zero xs further e a = grind arith

  -- a number alone that gives no shares
  number_unended : (f : FirstNumber) → ((count_of states ≡ 1) → (f.value ≡ pos 0) ⊎ (f.value ≡ pos one) → ⊥)
      → CannotEnd (StartGives states) (reader.Number f)
  number_unended f none v g = at g.further (grind arith) g.given
    where
      at : (further : List ℤ) → further ≡ [] → AreShares states (f.value ∷ further) v → ⊥
      at further e (only_state count (inl same) shares) = none count (inl (same_head same))
      at further e (only_state count (inr same) shares) = none count (inr (same_head same))
      at further e (probabilities ps more same count total shares) = omega (arith, more, ap length same, ap length e, length-map ps pos)

  -- digits that are the number of no state give none
  pub digits_give_none : (d : StateOrNumber) → 1 < count_of states → d.state ≡ None
      → CannotEnd (StartGives states) (reader.StateOrNumber d)
  digits_give_none d more none v (state_number s e is asked) = some≢none is none
  digits_give_none d more none v (first_of_more h value g) = number_unended (record { value = h; place = 0 }) (λ only is. omega arith) v g

  end_number : (f : FirstNumber) → 1 ≤ count_of states → StartEnded states (reader.Number f)
  end_number f some = ⊎_elim (λ only. ⊎_elim (λ zero_is. ended (record {
    shares = all_states states;
    gives = numbers.number_ends _ f _ only (inl zero_is) refl;
  }))
      (λ no_zero. ⊎_elim
      (λ one_is. ended (record {
        shares = all_states states;
        gives = numbers.number_ends _ f _ only (inr one_is) refl;
      }))
      (λ no_one. unended (record {
        kind = faults.StartSum;
        stuck = number_unended f (λ count. ⊎_elim no_zero no_one);
        reason = tt;
        kinds = cc;
        due = tt;
        unheld = refl;
      }))
      (same_int f.value _))
      (same_int _ (pos 0)))
      (λ other. unended (record {
        kind = _;
        stuck = number_unended f (λ count h. other count);
        reason = tt;
        kinds = ap (λ w. unexpected_token w None) (sym (number_is_wanted _ (numbers.more_states (count_of states) _ refl other some)));
        due = tt;
        unheld = refl;
      }))
      (same_or_not _ 1)
    where
      same_int : (h k : ℤ) → (h ≡ k) ⊎ (h ≢ k)
      same_int (pos m) (pos n) = ⊎_elim (λ e. inl (ap pos e)) (λ f. inr (λ e. f (cc))) (same_or_not m n)
      same_int (negsuc m) (negsuc n) = ⊎_map (λ e. ap negsuc e) (λ f. λ e. f (cc)) (same_or_not m n)
      same_int (pos m) (negsuc n) = inr (λ e. cc)
      same_int (negsuc m) (pos n) = inr (λ e. cc)

  end_shares : (n : Numbers ℕ) → HasRoom n → StartEnded states (reader.Probabilities n)
  end_shares n room = ⊎_elim (λ full. ⊎_elim (λ total. ended (record { shares = _; gives = numbers.shares_end states n _ full total refl }))
      (λ other. unended (record {
        kind = _;
        stuck = λ v g. other (whole_sum full _ _ (list_full _ n _ g.go) g.go.body_is g.go.enough g.whole.0);
        reason = tt;
        kinds = ap (λ w. unexpected_token w None) (sym (full_wants n full));
        due = tt;
        unheld = refl;
      }))
      (same_or_not _ one))
      (λ open_list. let u = list_unended_at n room open_list in unended (record {
        kind = _;
        stuck = λ v g. open_list (list_full _ n _ g.go);
        reason = grind arith;
        kinds = u.kind_is;
        due = tt;
        unheld = refl;
      }))
      (full_or_not n)
    where
      whole_sum : IsFull n → (all further : List ℕ) → IsFull n → bodies.Probabilities all ≡ bodies.Probabilities (n.read ++ further)
          → length (n.read ++ further) ≡ n.needed → sum all ≡ one → sum n.read ≡ one
      whole_sum full all further f body enough total = at further (omega (arith, enough, length-append n.read further)) (same_all body)
        where
          same_all : bodies.Probabilities all ≡ bodies.Probabilities (n.read ++ further) → all ≡ n.read ++ further
          same_all e = cc

          at : (further : List ℕ) → length further ≡ 0 → all ≡ n.read ++ further → sum n.read ≡ one
          at [] e same = ap sum (sym (append-nil n.read)) ∙ ap sum (sym same) ∙ total
          at (x ∷ xs) e same = absurd (omega arith)

  bad_shape : (r : StartReader) → CannotEnd (StartGives states) r
      → faults.BadShape ≡ unexpected_token (expected_by_start (count_of states) r []) None → IsEndDue r (ends.AtEnd faults.BadShape)
      → pending_refusal r ≡ None → StartEnded states r
  bad_shape r stuck kinds owed unheld = unended
      (record { kind = _; stuck = stuck; reason = tt; kinds = kinds; due = owed; unheld = unheld })

  empty_start : (xs : List Lexeme) (v : StartWeights) → xs ≡ [] → IsStart states xs v → ⊥
  empty_start xs v e (starts.plain colon body) = cons≢nil e
  empty_start xs v e (starts.include chosen word colon zip left) = cons≢nil e
  empty_start xs v e (starts.exclude chosen word colon zip left) = cons≢nil e

  empty_body : (xs : List Lexeme) (v : StartWeights) → xs ≡ [] → starts.IsStartBody states xs v → ⊥
  empty_body xs v e (starts.only_state {ls} {h} only number value) = cons≢nil (one_zero ls (h ∷ []) e number)
  empty_body xs v e (starts.probabilities {ls} ps more number count total) =
      omega (arith, more, count, ap length (one_zero ls (map pos ps) e number), length-map ps pos)
  empty_body xs v e _ = cons≢nil e

  pub end_start : 1 ≤ count_of states → (r : StartReader) → IsStartWithin states r → StartEnded states r
  end_start some reader.Form within = bad_shape _ (λ v. empty_start [] v refl) refl tt refl
  end_start some (reader.Colon choice) within = bad_shape _ (λ v g. g) refl tt refl
  end_start some (reader.List c) within = end_list c
  end_start some reader.Body within = unended (record
      { kind = _; stuck = λ v. empty_body [] v refl; reason = tt; kinds = refl; due = tt; unheld = refl })
  end_start some reader.Every within = ended (record { shares = _; gives = (refl, refl) })
  end_start some (reader.Only s) within = ended (record { shares = _; gives = (refl, refl) })
  end_start some (reader.Sign sign) within = bad_shape _ (λ v g. sign_open g.further g.numbers) refl tt refl
    where
      sign_open : (further : List ℤ) → AreNumbersAfter (Some sign) [] further → ⊥
      sign_open further a = grind arith
  end_start some (reader.Number f) within = end_number f some
  end_start some (reader.StateOrNumber d) within = at d.state refl
    where
      at : (s : Option ℕ) → d.state ≡ s → StartEnded states (reader.StateOrNumber d)
      at None e = digits_unended (record { digits = d; is = refl; none = e })
      at (Some s) e = ended (record { shares = _; gives = state_number s refl e refl })
  end_start some (reader.Probabilities n) within = end_shares n within.room
