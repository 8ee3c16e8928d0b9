-- What the reader of an entry answers.
use Rattle.std.proofs.Math.Logic.{⊎_map}
use Rattle.std.proofs.Common.{◌≡◌, ◌≢◌, ◌∙◌, ◌⊎◌, inl, inr, ⊎_elim, ℕ, ℤ, ◌+◌, ◌<◌, ◌≤◌, Bool, true, false, Option, Some, None, List}
use Rattle.std.proofs.Common.{[], ◌∷◌, ◌++◌, length, map, drop, refl, sym, ap, subst, arith, length-append}
use Rattle.std.specs.Prelude.{◌==◌, ◌&&◌, nat_lt, if◌then◌else◌}
use Rattle.std.proofs.lemmas.Bool.{cases_Bool}
use Rattle.std.proofs.lemmas.List.{length-drop}
use Rattle.std.specs.Str.Parse.{digits_value}
use Rattle.polcert_text.specs.Cut.{Lexeme}
use Rattle.polcert_text.specs.Lexemes.{are_digits}
use Rattle.polcert_text.specs.declared.tokens.TokenKind.{TokenKind}
use Rattle.polcert_text.specs.declared.tokens.TokenKind.TheVariants as kinds
unfoldable use Rattle.polcert_cells.specs.Words.{is_reserved}
use Rattle.polcert_cells.specs.Numbers.{IsMillionths, AreNumbers}
use Rattle.polcert_cells.specs.Elements.{StandsFor, by_number, by_name, count_of, number_of}
use Rattle.polcert_cells.specs.Entry.{cells_in}
use Rattle.polcert_cells.specs.Preamble.{Preamble, is_mdp, dimensions, named}
use Rattle.polcert_cells.specs.declared.elements.Elements.{Elements}
use Rattle.polcert_cells.specs.declared.entries.Entry.{Entry}
use Rattle.polcert_cells.specs.declared.entries.Place.{Place}
use Rattle.polcert_cells.specs.declared.entries.Place.TheVariants.{Every, Only}
use Rattle.polcert_cells.specs.declared.entries.Table.{Table}
use Rattle.polcert_cells.specs.declared.entries.Table.TheVariants.{Transition, Observation, Reward}
use Rattle.polcert_cells.proofs.Basics.{cons≢nil}
use Rattle.polcert_cells.proofs.EntryLaws.{one_place}
use Rattle.polcert_format.specs.declared.fault.ItemFault.{ItemFault}
use Rattle.polcert_format.specs.declared.fault.ItemFault.TheVariants as faults
use Rattle.polcert_format.specs.KnownPreamble.{preamble_in, indices_in}
use Rattle.polcert_format.specs.Misfits.{Expected, Mark, Index, EndOfWord, EndOfNumbers, IsMisfit, of_place, unexpected_token, misfit_at}
use Rattle.polcert_format.specs.Misfits.{tests_value, begins_number}
use Rattle.polcert_format.specs.Reasons.{is_sign_kind}
use Rattle.polcert_format.specs.Text.{ModelSoFar}
use Rattle.polcert_format.specs.Wants.{least_written, numbers_want, place_wants}
use Rattle.polcert_format.specs.Wants as wants
use Rattle.polcert_format.proofs.FurtherNumbers.{begins_no_number}
use Rattle.polcert_items.specs.Steps.Entries.{IsFirstPlace, NumberListGoes, StateGoes, EntryGoes, HasRoom, IsStateWithin, IsWithinIndices}
use Rattle.polcert_items.specs.Steps.Entries.{entry_sign, IsPlaceReason, IsFull, IsListReason, no_number, no_further, IsEntryReason}
use Rattle.polcert_items.specs.Steps.Entries.{no_place, no_probability, no_reward, IsWordAfter, no_numbers}
use Rattle.polcert_items.specs.Steps.Entries.{AreBegun}
use Rattle.polcert_items.specs.Steps.Entries.{CannotBegin, AreSome}
use Rattle.polcert_items.specs.Steps.Lines.{TakesLexeme, CannotTake, CannotEnd}
use Rattle.polcert_items.specs.Steps.Numbers.{IsMisplaced, IsNumberStep, SignIs, FitsRange, ListKind, of_probabilities}
use Rattle.polcert_items.specs.Steps.Numbers.{of_rewards}
use Rattle.polcert_items.specs.Steps.Numbers.{AreNumbersAfter}
use Rattle.polcert_items.specs.Steps.Wants.{ExpectsNext, expected_by_numbers, state_wants, expected_by_entry, number_wants}
use Rattle.polcert_items.specs.declared.entry_reader.EntryReader.{EntryReader}
use Rattle.polcert_items.specs.declared.entry_reader.EntryState.{EntryState}
use Rattle.polcert_items.specs.declared.entry_reader.EntryState.TheVariants as states
use Rattle.polcert_items.specs.declared.entry_reader.Numbers.{Numbers}
use Rattle.polcert_items.specs.declared.entry_reader.Word.{Word}
use Rattle.polcert_items.specs.declared.entry_reader.Word.TheVariants as words
use Rattle.polcert_items.specs.declared.signed_number.NumberStep.{NumberStep}
use Rattle.polcert_items.specs.declared.signed_number.NumberStep.TheVariants as steps
use Rattle.polcert_items.specs.declared.signed_number.Sign.{Sign}
use Rattle.polcert_items.proofs.ListLaws as lists
use Rattle.polcert_items.proofs.PatternLaws as patterns
use Rattle.polcert_items.proofs.WantLaws.{number_begins, list_numeral_leads, colon_leads, numbers_lead, no_numbers_lead, body_ends_in}
use Rattle.polcert_items.proofs.WantLaws.{unknown_name}
use Rattle.polcert_existence.proofs.Decisions.{below_or_not, same_or_not, star_kind_or_not}
use Rattle.polcert_existence.proofs.TokenAnswers.{TokenTaken, TokenRefused, misplaced, after_numbers, colon_or_not, number_step}
use Rattle.polcert_existence.proofs.TokenAnswers.{word_or_not}

-- ---- lists of numbers

-- a list takes a token
pub record ListTaken {T : Type 0} (kind : ListKind T) (old : Numbers T) (l : Lexeme) (new : Numbers T) : Type 0 where
  pub step : TokenTaken (NumberListGoes kind) expected_by_numbers old l new
  pub needed : new.needed ≡ old.needed
  pub room : HasRoom new
  pub sign : SignIs new.sign l

abbrev pub ListFed : {T : Type 0} → ListKind T → Numbers T → Lexeme → Type 0
ListFed {T} kind old l = ((new : Numbers T) × ListTaken kind old l new)
    ⊎ TokenRefused (NumberListGoes kind) expected_by_numbers (IsListReason kind.range old.sign) old l

pub full_or_not : {T : Type 0} (n : Numbers T) → IsFull n ⊎ (IsFull n → ⊥)
full_or_not n = at n.sign refl
  where
    at : (s : Option Sign) → n.sign ≡ s → IsFull n ⊎ (IsFull n → ⊥)
    at None e = ⊎_map (λ same. record { sign = e; count = same }) (λ other. λ f. other f.count) (same_or_not _ _)
    at (Some s) e = inr (λ f. cc)

pub no_lexemes : (ls : List Lexeme) (hs : List ℤ) → hs ≡ [] → AreNumbers ls hs → ls ≡ []
no_lexemes ls hs h1 h2 = grind arith

full_stuck : {T : Type 0} (kind : ListKind T) (n : Numbers T) (l : Lexeme) → IsFull n → CannotTake (NumberListGoes kind) n l
full_stuck {T} kind n l full = λ ls b g. at ls _ (omega (arith, g.enough, length-append n.read g.further))
    (subst (λ s. AreNumbersAfter s (l ∷ ls) (map kind.worth g.further)) full.sign g.numbers)
  where
    at : (ls : List Lexeme) (further : List T) → length further ≡ 0 → AreNumbersAfter None (l ∷ ls) (map kind.worth further) → ⊥
    at ls [] e a = cons≢nil (no_lexemes _ [] refl a)
    at ls (x ∷ xs) e a = absurd (omega arith)

pub full_wants : {T : Type 0} (n : Numbers T) → IsFull n → expected_by_numbers n [] ≡ EndOfNumbers
full_wants n full = grind arith

open_wants : {T : Type 0} (n : Numbers T) → HasRoom n → (IsFull n → ⊥) → expected_by_numbers n [] ≡ number_wants n.sign
open_wants n room open_list = at n.sign refl
  where
    at : (s : Option Sign) → n.sign ≡ s → expected_by_numbers n [] ≡ number_wants n.sign
    at _ e = grind arith

room_for_one : {T : Type 0} (n : Numbers T) → HasRoom n → (IsFull n → ⊥) → length n.read + 1 ≤ n.needed
room_for_one n room open_list = at n.sign refl
  where
    at : (s : Option Sign) → n.sign ≡ s → length n.read + 1 ≤ n.needed
    at _ e = grind arith

module _ {T : Type 0} (kind : ListKind T) (value_of : (h : ℤ) → FitsRange kind.range h → (x : T) × (kind.worth x ≡ h))
    (distinct : (y z : T) → kind.worth y ≡ kind.worth z → y ≡ z) where
  pub feed_list : (old : Numbers T) (l : Lexeme) → HasRoom old → ListFed kind old l
  feed_list old l room = ⊎_elim (λ full. let m = after_numbers l in inr (record {
    kind = _;
    place = _;
    stuck = full_stuck _ old l full;
    reason = no_further m.reason;
    misfit = rw (full_wants old full) (of_place refl m.kind_is);
  }))
      (λ open_list. ⊎_elim (λ s. inl (step open_list s.0 s.1))
      (λ no. inr (record {
        kind = _;
        place = _;
        stuck = lists.no_number _ old l no.refuses.none;
        reason = no_number no.refuses.reason;
        misfit = rw (open_wants old room open_list) no.misfit;
      }))
      (number_step _ _ l))
      (full_or_not old)
    where
      step : (IsFull old → ⊥) → (s : NumberStep) → IsNumberStep kind.range old.sign l s → (new : Numbers T) × ListTaken kind old l new
      step open_list (steps.Sign s) is = (
        _,
        record {
          step = record {
            takes = lists.takes_sign _ old _ l refl s is.1 is.0 refl refl;
            leads = grind arith;
          };
          needed = refl;
          room = room_for_one old room open_list;
          sign = is.1;
        },
      )
      step open_list (steps.Value h) is =
          let x = value_of h is.1 in
          let new = record old { read = _; sign = _ } in (
            new,
            record {
              step = record {
                takes = lists.takes_number _ old new l refl x.0 distinct (subst (IsMillionths _ l) (sym x.1) is.0)
                    (subst (FitsRange _) (sym x.1) is.1) refl refl;
                leads = list_numeral_leads old l _ x.0 is.0.kind refl;
              };
              needed = refl;
              room = omega (arith, length-append old.read (x.0 ∷ []), room_for_one old room open_list);
              sign = cc;
            },
          )

pub feed_probabilities : (old : Numbers ℕ) (l : Lexeme) → HasRoom old → ListFed of_probabilities old l
feed_probabilities = feed_list _ (λ h is. (is.0, cc)) (λ y z e. cc)

pub feed_rewards : (old : Numbers ℤ) (l : Lexeme) → HasRoom old → ListFed of_rewards old l
feed_rewards = feed_list _ (λ h is. (h, refl)) (λ y z e. e)

-- ---- places

-- a token stands for no element
pub record NoElement (d : Elements) (l : Lexeme) : Type 0 where
  pub kind : ItemFault
  pub none : (index : ℕ) → StandsFor d l index → ⊥
  pub reason : IsPlaceReason l kind l.place
  pub kind_is : kind ≡ unexpected_token Index (Some l)

module _ (d : Elements) (l : Lexeme) where
  no_element : misfit_at Index l ≡ faults.BadShape → ((index : ℕ) → StandsFor d l index → ⊥) → NoElement d l
  no_element shape none = let m = misplaced Index l shape in
      record { kind = _; none = none; reason = grind arith; kind_is = m.kind_is }

  by_digits : l.kind ≡ kinds.Numeral → are_digits l.bytes ≡ true → ((index : ℕ) × StandsFor d l index)
      ⊎ NoElement d l
  by_digits e digits = ⊎_elim (λ below. inl (_, by_number (record { kind = e; digits = digits; value = refl }) below))
      (λ above. inr (record {
        kind = faults.IndexOutOfRange;
        none = none above;
        reason = (refl, (e, digits));
        kind_is = grind arith;
      }))
      (below_or_not _ _)
    where
      none : count_of d ≤ digits_value 10 l.bytes → (index : ℕ) → StandsFor d l index → ⊥
      none above index (by_number whole below) = omega arith
      none above index (by_name name same) = cc

  no_digits : l.kind ≡ kinds.Numeral → are_digits l.bytes ≡ false → (index : ℕ) → StandsFor d l index → ⊥
  no_digits e none index (by_number whole below) = let f = whole.digits in cc
  no_digits e none index (by_name name same) = cc

  no_name : l.kind ≡ kinds.Name → (is_reserved l.bytes ≡ true) ⊎ (number_of d l.bytes ≡ None) → (index : ℕ)
      → StandsFor d l index → ⊥
  no_name e (inl reserved) index (by_name name same) = let f = name.free in cc
  no_name e (inr none) index (by_name name same) = cc
  no_name e _ index (by_number whole below) = let f = whole.kind in cc

  neither : (l.kind ≡ kinds.Numeral → ⊥) → (l.kind ≡ kinds.Name → ⊥) → (index : ℕ) → StandsFor d l index → ⊥
  neither no_numeral no_name index (by_number whole below) = no_numeral whole.kind
  neither no_numeral no_name index (by_name name same) = no_name name.kind

  by_free_name : l.kind ≡ kinds.Name → is_reserved l.bytes ≡ false → ((index : ℕ) × StandsFor d l index)
      ⊎ NoElement d l
  by_free_name e free = at (number_of d _) refl
    where
      at : (found : Option ℕ) → number_of d l.bytes ≡ found → ((index : ℕ) × StandsFor d l index) ⊎ NoElement d l
      at (Some index) is = inl (_, by_name (record { kind = e; free = free }) is)
      at None is = inr (record {
        kind = _;
        none = no_name e (inr is);
        reason = (refl, record { kind = e; free = free });
        kind_is = unknown_name l e free;
      })

  pub element_or_not : ((index : ℕ) × StandsFor d l index) ⊎ NoElement d l
  element_or_not = at l.kind refl
    where
      at : (k : TokenKind) → l.kind ≡ k → ((index : ℕ) × StandsFor d l index) ⊎ NoElement d l
      at kinds.Numeral e = ⊎_elim (by_digits e) (λ none. inr (no_element (grind arith) (no_digits e none))) (cases_Bool _)
      at kinds.Name e = ⊎_elim (λ reserved. inr (no_element (grind arith) (no_name e (inl reserved)))) (by_free_name e) (cases_Bool _)
      at _ e = inr (no_element (grind arith) (neither (λ f. cc) (λ f. cc)))

-- a token is no place
record NoPlace (w : Expected) (ds : List Elements) (l : Lexeme) : Type 0 where
  kind : ItemFault
  none : (q : Place) → IsFirstPlace ds l q → ⊥
  reason : IsPlaceReason l kind l.place
  kind_is : kind ≡ unexpected_token w (Some l)

abbrev reader : Table → List Place → EntryState → EntryReader
reader table places state = record { table = table; places = places; state = state }

-- an entry takes a token
pub record EntryTaken (k : ModelSoFar) (old : EntryReader) (l : Lexeme) (new : EntryReader) : Type 0 where
  pub step : TokenTaken (EntryGoes (preamble_in k)) (expected_by_entry (preamble_in k)) old l new
  pub table : new.table ≡ old.table
  pub within : IsWithinIndices (indices_in k old.table) new
  pub sign : SignIs (entry_sign new.state) l

abbrev pub EntryFed : ModelSoFar → EntryReader → Lexeme → Type 0
EntryFed k old l = ((new : EntryReader) × EntryTaken k old l new)
    ⊎ TokenRefused (EntryGoes (preamble_in k)) (expected_by_entry (preamble_in k)) (IsEntryReason old) old l

as_entry : (r : EntryReader) (l : Lexeme) (kind : ItemFault) (place : ℕ) → IsMisplaced l kind place → IsEntryReason r l kind place
as_entry r l kind place h = no_place (grind arith)

module _ (p : Preamble) (table : Table) where
  -- the fourth place of an MDP
  fourth : (n : ℕ) (l : Lexeme) (q : Place) → is_mdp p ≡ true → n ≡ 3
      → IsFirstPlace (drop n (named p table)) l q → l.kind ≡ kinds.Star
  fourth n l q mdp three first = at table q (rw (← three) first)
    where
      none : p.observations ≡ None
      none = grind arith

      at : (t : Table) (q : Place) → IsFirstPlace (drop 3 (named p t)) l q → l.kind ≡ kinds.Star
      at Reward Every f = f
      at Reward (Only i) f = grind arith
      at _ q f = absurd f

  star_place : (n : ℕ) (l : Lexeme) → is_mdp p ≡ true → n ≡ 3 → n < length (named p table)
      → ((q : Place) × IsFirstPlace (drop n (named p table)) l q) ⊎ NoPlace Mark (drop n (named p table)) l
  star_place n l mdp three inside = ⊎_elim (λ star. inl (_, some _ (omega (arith, length-drop n (named p table))) star))
      (λ other. let m = misplaced Mark l refl in inr (record {
        kind = _;
        none = λ q f. other (fourth n l q mdp three f);
        reason = grind arith;
        kind_is = m.kind_is;
      }))
      (star_kind_or_not _)
    where
      some : (ds : List Elements) → 0 < length ds → l.kind ≡ kinds.Star → IsFirstPlace ds l Every
      some [] h e = absurd (omega arith)
      some (d ∷ ds) h e = e

  next_place : (n : ℕ) (l : Lexeme) → n < length (named p table)
      → ((q : Place) × IsFirstPlace (drop n (named p table)) l q) ⊎ NoPlace (place_wants p n) (drop n (named p table)) l
  next_place n l inside = at (is_mdp p && n == 3) refl
    where
      elsewhere : (ds : List Elements) → 0 < length ds → ((q : Place) × IsFirstPlace ds l q) ⊎ NoPlace Index ds l
      elsewhere [] h = absurd (omega arith)
      elsewhere (d ∷ ds) h = ⊎_elim (λ star. inl (Every, star))
          (λ other. ⊎_elim (λ i. inl (Only i.0, i.1)) (λ no. inr
          (record { kind = no.kind; none = patterns.no_place d l other no.none; reason = no.reason; kind_is = no.kind_is }))
          (element_or_not d l)) (star_kind_or_not l.kind)

      at : (b : Bool) → (is_mdp p && n == 3) ≡ b → ((q : Place) × IsFirstPlace (drop n (named p table)) l q)
          ⊎ NoPlace (if b then Mark else Index) (drop n (named p table)) l
      at true e = star_place n l (grind arith) (grind arith) inside
      at false e = elsewhere _ (omega (arith, length-drop n (named p table)))

  one_first : (ds : List Elements) (l : Lexeme) (q r : Place) → IsFirstPlace ds l q → IsFirstPlace ds l r → q ≡ r
  one_first [] l q r a b = absurd a
  one_first (d ∷ ds) l q r a b = one_place d l q r a b

  -- ---- an entry

  places_named : length (named p table) ≡ length (dimensions p table)
  places_named = patterns.same_length p _

  place_takes : (places : List Place) (l : Lexeme) (q : Place)
      → IsFirstPlace (drop (length places) (named p table)) l q
      → TakesLexeme (EntryGoes p) (reader table places states.Place) l (reader table (places ++ q ∷ []) states.Body)
  place_takes places l q first = record {
    back = λ ls e g. (q, (first, g));
    on = λ ls e g. rw (← one_first (drop (length places) (named p table)) l g.0 q g.1.0 first) g.1.1;
  }

  place_leads : (places : List Place) (l : Lexeme) (q : Place)
      → ExpectsNext (expected_by_entry p (reader table places states.Place)) l
      (expected_by_entry p (reader table (places ++ q ∷ []) states.Body))
  place_leads places l q = record {
    same = λ ls. ap (λ n. wants.entry_wants p table false n ls) (sym (length-append _ _));
  }

  test_of_place : (n : ℕ) (k : TokenKind) → tests_value (place_wants p n) k ≡ false
  test_of_place n k = at (is_mdp p && n == 3)
    where
      at : (b : Bool) → tests_value (if b then Mark else Index) k ≡ false
      at true = refl
      at false = refl

pub element_no_sign : (d : Elements) (l : Lexeme) (index : ℕ) → StandsFor d l index → is_sign_kind l.kind ≡ false
element_no_sign d l index (by_number whole below) = ap is_sign_kind whole.kind
element_no_sign d l index (by_name name same) = ap is_sign_kind name.kind

place_no_sign : (ds : List Elements) (l : Lexeme) (q : Place) → IsFirstPlace ds l q → is_sign_kind l.kind ≡ false
place_no_sign [] l q f = absurd f
place_no_sign (d ∷ ds) l Every f = ap is_sign_kind f
place_no_sign (d ∷ ds) l (Only i) f = element_no_sign d l i f

feed_place : (k : ModelSoFar) (table : Table) (places : List Place) (l : Lexeme) → length places < length (indices_in k table)
    → EntryFed k (reader table places states.Place) l
feed_place k table places l inside =
    let p = preamble_in k in
    ⊎_elim
    (λ q. inl (
      _,
      record {
        step = record { takes = place_takes p _ _ l q.0 q.1; leads = place_leads p _ _ l q.0 };
        table = refl;
        within = (omega (arith, length-append places (q.0 ∷ [])), omega (arith, length-append places (q.0 ∷ [])));
        sign = place_no_sign _ l q.0 q.1;
      },
    ))
    (λ no. inr (record {
      kind = _;
      place = _;
      stuck = λ ls e g. no.none g.0 g.1.0;
      reason = no_place no.reason;
      misfit = of_place (test_of_place p table _ _) no.kind_is;
    }))
    (next_place p _ _ l (omega (arith, places_named p table)))

module _ (p : Preamble) (table : Table) where
  few_wants : (n : ℕ) → (least_written (is_mdp p) table ≤ n → ⊥)
      → wants.entry_wants p table false n [] ≡ Mark
  few_wants n few = at (nat_lt n _) refl
    where
      at : (b : Bool) → nat_lt n (least_written (is_mdp p) table) ≡ b → wants.entry_wants p table false n [] ≡ Mark
      at true e = ap (λ b. if b then Mark else numbers_want false (cells_in (drop n (dimensions p table))) []) e
      at false e = absurd (few (grind arith))

  enough_wants : (n : ℕ) → least_written (is_mdp p) table ≤ n
      → wants.entry_wants p table false n [] ≡ numbers_want false (cells_in (drop n (dimensions p table))) []
  enough_wants n low = at (nat_lt n _) refl
    where
      at : (b : Bool) → nat_lt n (least_written (is_mdp p) table) ≡ b
          → wants.entry_wants p table false n [] ≡ numbers_want false (cells_in (drop n (dimensions p table))) []
      at true e = absurd (grind arith)
      at false e = ap (λ b. if b then Mark else numbers_want false (cells_in (drop n (dimensions p table))) []) e

word_after : (mdp : Bool) (table : Table) (n : ℕ) (l : Lexeme) (w : Word) → IsWordAfter mdp table n l w
    ⊎ (IsWordAfter mdp table n l w → ⊥)
word_after mdp table n l w = ⊎_elim (λ is. ⊎_map (λ may. (is, may)) (λ none. λ h. let f = h.1 in cc) (cases_Bool _))
    (λ none. inr (λ h. none h.0)) (word_or_not _ l)

some_word : (mdp : Bool) (table : Table) (n : ℕ) (l : Lexeme) → ((w : Word) × IsWordAfter mdp table n l w)
    ⊎ ((w : Word) → IsWordAfter mdp table n l w → ⊥)
some_word mdp table n l = ⊎_elim (λ h. inl (words.Uniform, h))
    (λ no_uniform. ⊎_map (λ h. (words.Identity, h)) (λ no_identity. none no_uniform no_identity)
    (word_after mdp _ n l words.Identity))
    (word_after mdp _ n l words.Uniform)
  where
    none : (IsWordAfter mdp table n l words.Uniform → ⊥) → (IsWordAfter mdp table n l words.Identity → ⊥) → (w : Word)
        → IsWordAfter mdp table n l w → ⊥
    none a b words.Uniform h = a h
    none a b words.Identity h = b h

module _ (k : ModelSoFar) (table : Table) (places : List Place) (l : Lexeme) (inside : length places ≤ length (indices_in k table)) where
  abbrev p : Preamble
  p = preamble_in k

  abbrev needed : ℕ
  needed = cells_in (drop (length places) (indices_in k table))

  abbrev in_body : EntryReader
  in_body = reader table places states.Body

  abbrev BodyFed : Type 0
  BodyFed = EntryFed k in_body l

  -- a token that isn't a number's
  no_other : begins_number l.kind ≡ false → CannotTake (StateGoes p table places) states.Body l → BodyFed
  no_other none stuck =
      let m = misplaced _ l (grind arith) in
      inr (record {
        kind = _;
        place = _;
        stuck = stuck;
        reason = as_entry _ l _ _ m.reason;
        misfit = of_place (grind arith) m.kind_is;
      })

  body_colon : l.kind ≡ kinds.Colon → BodyFed
  body_colon e = ⊎_elim (λ below. inl (
    _,
    record {
      step = record {
        takes = patterns.in_state p _ _ _ l refl (patterns.colon_takes p _ _ l e);
        leads = colon_leads p _ _ l e;
      };
      table = refl;
      within = below;
      sign = cc;
    },
  ))
      (λ full. no_other (cc) (patterns.colon_stuck p _ _ l e full))
      (below_or_not _ _)

  body_word : l.kind ≢ kinds.Colon → begins_number l.kind ≡ false → ((ls : List Lexeme) (hs : List ℤ) → AreNumbers (l ∷ ls) hs → ⊥)
      → BodyFed
  body_word no_colon none no_numbers = ⊎_elim (λ w. inl (
    _,
    record {
      step = record {
        takes = patterns.in_state p _ _ _ l refl (patterns.word_takes p _ _ l w.0 w.1);
        leads = grind arith;
      };
      table = refl;
      within = tt;
      sign = cc;
    },
  ))
      (λ no_word. no_other none (patterns.nothing_takes p _ _ l no_colon no_numbers no_word))
      (some_word _ _ _ l)

  module _ (begins : patterns.BeginsNumber l.kind) (low : least_written (is_mdp p) table ≤ length places) where
    begun : {T : Type 0} (kind : ListKind T) (state : Numbers T → EntryState) (n : Numbers T) → ListTaken kind (no_numbers needed) l n
        → AreBegun table needed l (state n) → IsStateWithin (indices_in k table) table places (state n)
        → entry_sign (state n) ≡ n.sign → ((ls : List Lexeme) → state_wants p table places (state n) ls ≡ expected_by_numbers n ls)
        → BodyFed
    begun {T} kind state n s are within same_sign same_wants = inl (
      _,
      record {
        step = record {
          takes = patterns.in_state p _ _ _ l refl (patterns.numbers_begin k _ _ l _ _ (patterns.number_not_colon _ begins)
              (patterns.number_not_name _ begins) refl low inside are);
          leads = record {
            same = λ ls. (numbers_lead p _ _ l _ (number_begins _ begins)
                (no_numbers_lead {T = T} (no_numbers _) _ l _ refl s.step.leads)).same ls
                ∙ sym (same_wants ls);
          };
        };
        table = refl;
        within = within;
        sign = rw same_sign s.sign;
      },
    )

    not_begun : {T : Type 0} (kind : ListKind T) → (stop : TokenRefused (NumberListGoes kind) expected_by_numbers
        (IsListReason kind.range None)
        (no_numbers {T = T} needed) l) → CannotBegin table needed l
        → IsEntryReason in_body l stop.kind stop.place → BodyFed
    not_begun kind stop none reason = inr (record {
      kind = _;
      place = _;
      stuck = patterns.numbers_stuck k table places l needed (patterns.number_not_colon l.kind begins)
          (patterns.number_not_name l.kind begins) refl none;
      reason = reason;
      misfit = subst (λ w. IsMisfit w l stop.kind) (ap (λ m. numbers_want false m []) (omega arith)
          ∙ sym (enough_wants p _ _ low)) stop.misfit;
    })

    -- the numbers of a table begin
    body_numbers : (t : Table) → table ≡ t → BodyFed
    body_numbers Reward e = ⊎_elim
        (λ s. begun of_rewards states.Rewards s.0 s.1 (subst (λ t. AreBegun t needed l (states.Rewards s.0)) (sym e) s.1.step.takes)
        (e, s.1.room) refl (λ ls. refl))
        (λ stop. not_begun of_rewards stop (subst (λ t. CannotBegin t needed l) (sym e) stop.stuck) (no_reward stop.reason))
        (feed_rewards (no_numbers needed) l (omega arith))
    body_numbers _ e = ⊎_elim (λ s. begun of_probabilities states.Probabilities s.0 s.1
        (subst (λ t. AreBegun t needed l (states.Probabilities s.0)) (sym e) s.1.step.takes) ((λ f. cc), s.1.room) refl (λ ls. refl))
        (λ stop. not_begun of_probabilities stop (subst (λ t. CannotBegin t needed l) (sym e) stop.stuck)
        (no_probability (λ f. cc) stop.reason))
        (feed_probabilities (no_numbers needed) l (omega arith))

  body_number : patterns.BeginsNumber l.kind → BodyFed
  body_number begins = ⊎_elim (λ few. let m = misplaced Mark l refl in
      let too_few : least_written _ _ ≤ length _ → ⊥ = λ low. omega arith in
      inr (record {
        kind = _;
        place = _;
        stuck = patterns.few_stuck p table places l begins too_few;
        reason = as_entry _ l _ _ m.reason;
        misfit = rw ((few_wants p table (length places) too_few)) (of_place refl m.kind_is);
      }))
      (λ low. body_numbers begins low _ refl)
      (below_or_not _ _)

  feed_body : BodyFed
  feed_body = at l.kind refl
    where
      at : (kind : TokenKind) → l.kind ≡ kind → BodyFed
      at kinds.Colon e = body_colon e
      at kinds.Numeral e = body_number (inl e)
      at kinds.Plus e = body_number (inr (inl e))
      at kinds.Minus e = body_number (inr (inr e))
      at _ e = body_word (λ f. cc) (cc) (λ ls hs. begins_no_number (λ f. cc) (λ f. cc) (λ f. cc))

feed_state : (k : ModelSoFar) (table : Table) (places : List Place) (state : EntryState) (l : Lexeme)
    → IsStateWithin (indices_in k table) table places state → EntryFed k (reader table places state) l
feed_state k table places states.Colon l within = ⊎_elim (λ colon. inl (
  reader _ _ states.Place,
  record {
    step = record {
      takes = record { back = λ ls e g. (colon, g); on = λ ls e g. g.1 };
      leads = record { same = λ ls. ap (λ ps. wants.entry_wants (preamble_in k) table true (length ps) ls) (sym within) };
    };
    table = refl;
    within = some_indices k _ _ within;
    sign = cc;
  },
))
    (λ no. inr (record {
      kind = _;
      place = _;
      stuck = λ ls e g. no.other g.0;
      reason = as_entry _ l _ _ no.reason;
      misfit = no.misfit;
    }))
    (colon_or_not l)
  where
    some_indices : (k : ModelSoFar) (t : Table) (ps : List Place) → ps ≡ [] → length ps < length (indices_in k t)
    some_indices k Transition ps e = omega (arith, ap length e)
    some_indices k Observation ps e = omega (arith, ap length e)
    some_indices k Reward ps e = omega (arith, ap length e)
feed_state k table places states.Place l within = feed_place k _ _ l within
feed_state k table places states.Body l within = feed_body k _ _ l within.1
feed_state k table places (states.Probabilities n) l within =
    let r = reader _ _ _ in
    ⊎_elim
    (λ s. inl (
      _,
      record {
        step = record {
          takes = patterns.list_in _ _ patterns.probability_state (preamble_in k) r n l refl s.0 s.1.step.takes;
          leads = s.1.step.leads;
        };
        table = refl;
        within = (within.0, s.1.room);
        sign = s.1.sign;
      },
    ))
    (λ stop. inr (record {
      kind = _;
      place = _;
      stuck = patterns.list_stuck _ _ patterns.probability_state (preamble_in k) r n l refl stop.stuck;
      reason = no_probability within.0 stop.reason;
      misfit = stop.misfit;
    }))
    (feed_probabilities n l within.1)
feed_state k table places (states.Rewards n) l within =
    let r = reader _ _ _ in
    ⊎_elim
    (λ s. inl (
      _,
      record {
        step = record {
          takes = patterns.list_in _ _ patterns.reward_state (preamble_in k) r n l refl s.0 s.1.step.takes;
          leads = s.1.step.leads;
        };
        table = refl;
        within = (within.0, s.1.room);
        sign = s.1.sign;
      },
    ))
    (λ stop. inr (record {
      kind = _;
      place = _;
      stuck = patterns.list_stuck _ _ patterns.reward_state (preamble_in k) r n l refl stop.stuck;
      reason = no_reward stop.reason;
      misfit = stop.misfit;
    }))
    (feed_rewards n l within.1)
feed_state k table places (states.Word w) l within =
    let m = misplaced EndOfWord l refl in
    inr (record {
      kind = _;
      place = _;
      stuck = λ ls e g. cons≢nil g.0;
      reason = as_entry _ l _ _ m.reason;
      misfit = of_place refl m.kind_is;
    })

pub feed_entry : (k : ModelSoFar) (r : EntryReader) (l : Lexeme) → IsWithinIndices (indices_in k r.table) r → EntryFed k r l
feed_entry k r l within = feed_state k _ _ _ l within

-- ---- its end

-- an entry ends
pub record EntryEnds (k : ModelSoFar) (r : EntryReader) : Type 0 where
  pub entry : Entry
  pub goes : EntryGoes (preamble_in k) r [] entry

-- or cannot
pub record EntryUnended (k : ModelSoFar) (r : EntryReader) : Type 0 where
  pub kind : ItemFault
  pub shape : (kind ≡ faults.BadShape) ⊎ (kind ≡ faults.WrongNumberCount)
  pub stuck : AreSome (indices_in k r.table) → CannotEnd (EntryGoes (preamble_in k)) r
  pub kinds : AreSome (indices_in k r.table) → kind ≡ unexpected_token (expected_by_entry (preamble_in k) r []) None

-- why a list isn't full
pub record ListUnended {T : Type 0} (n : Numbers T) : Type 0 where
  pub kind : ItemFault
  pub shape : (kind ≡ faults.BadShape) ⊎ (kind ≡ faults.WrongNumberCount)
  pub kind_is : kind ≡ unexpected_token (expected_by_numbers n []) None

pub list_unended : {T : Type 0} (n : Numbers T) → HasRoom n → (IsFull n → ⊥) → ListUnended n
list_unended n room open_list = at n.sign refl
  where
    kind_of : (s : Option Sign) → n.sign ≡ s → unexpected_token (number_wants s) None ≡ unexpected_token (expected_by_numbers n []) None
    kind_of s e = ap (λ w. unexpected_token w None) (ap number_wants (sym e) ∙ sym (open_wants n room open_list))

    at : (s : Option Sign) → n.sign ≡ s → ListUnended n
    at None e = record { kind = _; shape = inr refl; kind_is = kind_of _ e }
    at (Some s) e = record { kind = _; shape = inl refl; kind_is = kind_of _ e }

end_state : (k : ModelSoFar) (table : Table) (places : List Place) (state : EntryState)
    → IsStateWithin (indices_in k table) table places state
    → EntryEnds k (reader table places state) ⊎ EntryUnended k (reader table places state)
end_state k table places states.Colon within = inr (record { kind = _; shape = inl refl; stuck = λ some e g. g; kinds = λ some. refl })
end_state k table places states.Place within = inr (record {
  kind = _;
  shape = inl refl;
  stuck = λ some e g. g;
  kinds = λ some. kind_of _;
})
  where
    kind_of : (b : Bool) → faults.BadShape ≡ unexpected_token (if b then Mark else Index) None
    kind_of true = refl
    kind_of false = refl
end_state k table places states.Body within = ⊎_elim (λ few. inr (record {
  kind = _;
  shape = inl refl;
  stuck = λ some e g. patterns.no_end _ _ _ e some g;
  kinds = λ some. ap (λ w. unexpected_token w None) (sym (few_wants (preamble_in k) _ _ (λ low. omega arith)));
}))
    (λ low. inr (record {
      kind = _;
      shape = inr refl;
      stuck = λ some e g. patterns.no_end _ _ _ e some g;
      kinds = λ some. body_ends_in (preamble_in k) _ refl low (patterns.cells_some _ (patterns.some_dropped _ _ some));
    }))
    (below_or_not _ _)
end_state k table places (states.Probabilities n) within = ⊎_elim (λ full. inl (record {
  entry = _;
  goes = (_, (patterns.full_list _ n full, refl));
}))
    (λ open_list. let u = list_unended n within.1 open_list in
    inr (record {
      kind = _;
      shape = u.shape;
      stuck = λ some e g. open_list (patterns.list_full _ n g.0 g.1.0);
      kinds = λ some. u.kind_is;
    }))
    (full_or_not n)
end_state k table places (states.Rewards n) within = ⊎_elim (λ full. inl (record {
  entry = _;
  goes = (_, (patterns.full_list _ n full, refl));
}))
    (λ open_list. let u = list_unended n within.1 open_list in
    inr (record {
      kind = _;
      shape = u.shape;
      stuck = λ some e g. open_list (patterns.list_full _ n g.0 g.1.0);
      kinds = λ some. u.kind_is;
    }))
    (full_or_not n)
end_state k table places (states.Word w) within = inl (record { entry = _; goes = (refl, refl) })

pub end_entry : (k : ModelSoFar) (r : EntryReader) → IsWithinIndices (indices_in k r.table) r → EntryEnds k r ⊎ EntryUnended k r
end_entry k r within = end_state k _ _ _ within
