-- The places and the body of an entry, token by token.
use Rattle.std.proofs.Common.{◌≡◌, ◌∙◌, ℕ, suc, ◌≤◌, Bool, true, List, [], ◌∷◌, ◌++◌, length, drop, map, ℤ, refl, sym, ap, subst, arith}
use Rattle.std.proofs.Common.{append_assoc, append-nil, length-append, ◌⊎◌, Result, IfErr, OnOk, zero, All, rules}
use Rattle.std.proofs.lemmas.Bool.{both_ways}
use Rattle.std.specs.Prelude.{◌==◌}
use Rattle.polcert_items.proofs.Common.{list_any, nat_tests, All-tail, All-nil, Lexeme, TokenKind, Name, Numeral, Colon, Plus, Minus, Star}
use Rattle.polcert_items.proofs.Common.{Table, Transition, Observation, Reward, Place, Every, Only, Body, Entry, EntryState, Numbers}
use Rattle.polcert_items.proofs.Common.{EntryReader, ItemFault, Refusal, Probability, FeedError, IsWord, AreNumbers, Elements, count_of}
use Rattle.polcert_items.proofs.Common.{StandsFor, cells_in, IsPlace, ModelSoFar, least_written, TakesLexeme, CannotTake, CannotEnd}
use Rattle.polcert_items.proofs.Common.{FitsRange}
use Rattle.polcert_items.proofs.Common.{ListKind, of_probabilities, of_rewards, Preamble, is_mdp, dimensions, preamble_in, indices_in}
use Rattle.polcert_items.proofs.Common.{IsFirstPlace, entry_with, NumberListGoes, ProbabilitiesGo, EntryGoes, IfRefused, IsWordAfter}
use Rattle.polcert_items.proofs.Common.{no_numbers, AreBegun, CannotBegin, IsFull, IsListReason, entry_sign}
use Rattle.polcert_cells.specs.Entry.{ArePlaces, IsBody}
use Rattle.polcert_cells.specs.Preamble.{named}
use Rattle.polcert_items.specs.Steps.Entries.{IsEntryAfter, PlaceRest, RewardsGo, BodyIs, StateGoes, body_of_word, word_text, MayStand}
use Rattle.polcert_items.specs.Steps.Entries.{IsEntryReason, AreSome}
use Rattle.std.proofs.lemmas.List.{drop-drop, drop_all, map-id}
use Rattle.std.proofs.Math.Nat.{mul-pos}
use Rattle.polcert_cells.specs.declared.entries.Body.TheVariants as bodies
use Rattle.polcert_items.specs.declared.entry_reader.Word.{Word}
use Rattle.polcert_items.specs.declared.entry_reader.EntryState.TheVariants as states
use Rattle.polcert_cells.specs.Numbers as numbers
use Rattle.polcert_cells.specs.Entry as entries
use Rattle.polcert_items.specs.Steps.Entries as reasons
use Rattle.polcert_items.proofs.ListLaws.{small_fractions}
use Rattle.polcert_cells.proofs.Basics.{cons≢nil, same_head, same_tail}
use Rattle.polcert_cells.proofs.EntryLaws.{NoColonFirst, body_no_colon}

module _ (preamble : Preamble) (table : Table) (before : List Place) where
  -- after a colon
  one_more : (d : Elements) (es : List Elements) (p : Place) → drop (length before) (named preamble table) ≡ d ∷ es
      → drop (length (before ++ p ∷ [])) (named preamble table) ≡ es
  one_more = grind (arith, length-append, drop-drop 1 (length before) (named preamble table))

  module _ (l : Lexeme) (colon : l.kind ≡ Colon) where
    place_then : (ls : List Lexeme) (e : Entry) (further : List Place) (pattern rest : List Lexeme) (es : List Elements)
        → drop (length before) (named preamble table) ≡ es → ArePlaces es pattern further
        → l ∷ ls ≡ pattern ++ rest → NoColonFirst rest → e.places ≡ before ++ further → e.table ≡ table
        → MayStand (is_mdp preamble) table e.body (length e.places)
        → IsBody (cells_in (drop (length e.places) (dimensions preamble table))) rest e.body → PlaceRest preamble table before ls e
    place_then ls e further pattern rest es same entries.none whole free places_are table_is form body =
        absurd (subst NoColonFirst (sym whole) free colon)
    place_then ls e further pattern rest es same (entries.more {d} {ds = fs} {colon = c} {l = m} {ls = more} {p} {ps} at place following)
        whole free places_are table_is form body =
        let tail : ls ≡ m ∷ (more ++ rest) = same_tail whole in
        let next : drop (length (before ++ p ∷ [])) (named preamble table) ≡ fs = one_more d fs p same in
        grind (arith, append_assoc)

    pub colon_on : (ls : List Lexeme) (e : Entry) → IsEntryAfter preamble table before (l ∷ ls) e → PlaceRest preamble table before ls e
    colon_on ls e b = place_then ls e b.further b.pattern b.rest _ refl b.places b.whole (body_no_colon b.body) b.places_are b.table_is
        b.form b.body

    pub colon_back : (ls : List Lexeme) (e : Entry) → PlaceRest preamble table before ls e
        → IsEntryAfter preamble table before (l ∷ ls) e
    colon_back [] e r = absurd r
    colon_back (m ∷ ls) e r = at (drop (length before) (named preamble table)) refl r.1.0
      where
        at : (es : List Elements) → drop (length before) (named preamble table) ≡ es → IsFirstPlace es m r.0
            → IsEntryAfter preamble table before (l ∷ m ∷ ls) e
        at [] same place = absurd place
        at (d ∷ es) same place =
            let b = r.1.1 in
            let next : drop (length (before ++ r.0 ∷ [])) (named preamble table) ≡ es = one_more d es r.0 same in
            record {
              further = r.0 ∷ b.further;
              pattern = l ∷ m ∷ b.pattern;
              rest = b.rest;
              whole = ap (λ xs. l ∷ m ∷ xs) b.whole;
              places_are = b.places_are ∙ append_assoc before (r.0 ∷ []) b.further;
              table_is = b.table_is;
              form = b.form;
              places = subst (λ es. ArePlaces es (l ∷ m ∷ b.pattern) (r.0 ∷ b.further)) (sym same)
                  (entries.more colon place (subst (λ es. ArePlaces es b.pattern b.further) next b.places));
              body = b.body;
            }

    pub colon_takes : TakesLexeme (StateGoes preamble table before) states.Body l states.Place
    colon_takes = record { back = λ ls e r. colon_back ls e r; on = λ ls e b. colon_on ls e b }

  -- after a lexeme that is no colon: the body itself
  record BodyHere (ls : List Lexeme) (e : Entry) : Type 0 where
    places_are : e.places ≡ before
    table_is : e.table ≡ table
    form : MayStand (is_mdp preamble) table e.body (length before)
    body : IsBody (cells_in (drop (length before) (dimensions preamble table))) ls e.body

  here : (l : Lexeme) (ls : List Lexeme) (e : Entry) → (l.kind ≡ Colon → ⊥) → IsEntryAfter preamble table before (l ∷ ls) e
      → BodyHere (l ∷ ls) e
  here l ls e no_colon b = at b.further b.pattern _ refl b.places b.whole b.places_are
    where
      at : (further : List Place) (pattern : List Lexeme) (es : List Elements) → drop (length before) (named preamble table) ≡ es
          → ArePlaces es pattern further → l ∷ ls ≡ pattern ++ b.rest → e.places ≡ before ++ further → BodyHere (l ∷ ls) e
      at further pattern es same entries.none whole places_are = grind (arith, append-nil)
      at further pattern es same (entries.more {colon = c} colon place following) whole places_are =
          absurd (no_colon (subst (λ (m : Lexeme). m.kind ≡ Colon) (sym (same_head whole)) colon))

  -- the body itself after the places
  there : (ls : List Lexeme) (e : Entry) → BodyHere ls e → IsEntryAfter preamble table before ls e
  there ls e h = record {
    further = [];
    pattern = [];
    rest = ls;
    whole = refl;
    places_are = grind (arith, append-nil);
    table_is = h.table_is;
    form = grind arith;
    places = entries.none;
    body = grind arith;
  }

  entry_eta : (e : Entry) → e.places ≡ before → e.table ≡ table → (b : Body) → e.body ≡ b → e ≡ entry_with table before b
  entry_eta e p t b s = λ i. record { table = t i; places = p i; body = s i }

-- a body that begins with a numeral or a sign is numbers
probabilities_of : (mdp : Bool) (cells n : ℕ) (l : Lexeme) (ls : List Lexeme) (table : Table) (b : Body) → IsBody cells (l ∷ ls) b
    → MayStand mdp table b n → (l.kind ≡ Name → ⊥) → ((hs : List ℤ) → MayStand mdp table (bodies.Rewards hs) n → ⊥)
    → ProbabilitiesGo (no_numbers cells) (l ∷ ls) b
probabilities_of mdp cells n l ls table b h1 h2 h3 h4 = grind arith

rewards_of : (mdp : Bool) (cells n : ℕ) (l : Lexeme) (ls : List Lexeme) (b : Body) → IsBody cells (l ∷ ls) b → MayStand mdp Reward b n
    → RewardsGo (no_numbers cells) (l ∷ ls) b
rewards_of mdp cells n l ls b (entries.rewards {hs} a count) form =
    record {
      further = hs;
      numbers = subst (AreNumbers (l ∷ ls)) (sym (map-id hs)) a;
      in_range = λ k d h. tt;
      enough = count;
      body_is = refl;
    }
rewards_of mdp cells n l ls b c form = cc

-- a list of such numbers is this state of an entry
pub record IsStateOf {T : Type 0} (kind : ListKind T) (state : Numbers T → EntryState) : Type 0 where
  out : (p : Preamble) (table : Table) (places : List Place) (n : Numbers T) (ls : List Lexeme) (e : Entry)
      → StateGoes p table places (state n) ls e → BodyIs table places (NumberListGoes kind n) ls e
  into : (p : Preamble) (table : Table) (places : List Place) (n : Numbers T) (ls : List Lexeme) (e : Entry)
      → BodyIs table places (NumberListGoes kind n) ls e → StateGoes p table places (state n) ls e

pub probability_state : IsStateOf of_probabilities states.Probabilities
probability_state = record { out = λ p table places n ls e g. g; into = λ p table places n ls e g. g }

pub reward_state : IsStateOf of_rewards states.Rewards
reward_state = record { out = λ p table places n ls e g. g; into = λ p table places n ls e g. g }

-- numbers of the kind are a body
abbrev AreBody : {T : Type 0} → ListKind T → Type 0
AreBody {T} kind = (cells : ℕ) (ls : List Lexeme) (xs : List T) → AreNumbers ls (map kind.worth xs) → length xs ≡ cells
    → All (λ x. FitsRange kind.range (kind.worth x)) xs → IsBody cells ls (kind.body xs)

probability_body : AreBody of_probabilities
probability_body cells ls ps a count all = entries.probabilities a count (small_fractions ps all)

reward_body : AreBody of_rewards
reward_body cells ls hs a count all = entries.rewards (subst (AreNumbers ls) (map-id hs) a) count

module _ (preamble : Preamble) (table : Table) (before : List Place) (l : Lexeme) (no_colon : l.kind ≡ Colon → ⊥) (needed : ℕ)
    (cells : needed ≡ cells_in (drop (length before) (dimensions preamble table)))
    {T : Type 0} (kind : ListKind T) (state : Numbers T → EntryState) (is_state : IsStateOf kind state) (body : AreBody kind)
    (may : (xs : List T) → MayStand (is_mdp preamble) table (kind.body xs) (length before))
    (of_body : (ls : List Lexeme) (b : Body) → IsBody needed (l ∷ ls) b → MayStand (is_mdp preamble) table b (length before)
    → NumberListGoes kind (no_numbers needed) (l ∷ ls) b) (n : Numbers T) (t : TakesLexeme (NumberListGoes kind) (no_numbers needed) l n)
  where
    list_begins : TakesLexeme (StateGoes preamble table before) states.Body l (state n)
    list_begins = record {
      back = λ ls e r.
          let r' = is_state.out preamble table before n ls e r in
          let g = t.back ls r'.0 r'.1.0 in
          let body_is : e.body ≡ kind.body g.further = ap (λ (x : Entry). x.body) r'.1.1 ∙ g.body_is in
          there preamble table before (l ∷ ls) e (record {
            places_are = ap (λ (x : Entry). x.places) r'.1.1;
            table_is = ap (λ (x : Entry). x.table) r'.1.1;
            form = subst (λ b. MayStand (is_mdp preamble) table b (length before)) (sym body_is) (may g.further);
            body = subst (IsBody (cells_in (drop (length before) (dimensions preamble table))) (l ∷ ls)) (sym body_is)
                (body _ (l ∷ ls) g.further g.numbers (g.enough ∙ cells) g.in_range);
          });
      on = λ ls e b.
          let h = here preamble table before l ls e no_colon b in
          let go = of_body ls e.body (subst (λ c. IsBody c (l ∷ ls) e.body) (sym cells) h.body) h.form in
          is_state.into preamble table before n ls e (
            e.body,
            (
              t.on ls e.body go,
              entry_eta preamble table before e h.places_are h.table_is e.body refl,
            ),
          );
    }

pub one_to_three : (n : ℕ) → 1 ≤ n → n ≤ 3 → list_any (λ k. k == n) (1 ∷ 2 ∷ 3 ∷ []) ≡ true
one_to_three = grind (arith, nat_tests)

-- rewards may stand after enough places
pub rewards_may_stand : (mdp : Bool) (n : ℕ) (hs : List ℤ) → least_written mdp Reward ≤ n → n ≤ 4
    → MayStand mdp Reward (bodies.Rewards hs) n
rewards_may_stand = grind arith

module _ (k : ModelSoFar) where
  -- the body's numbers were begun
  pub numbers_begin : (table : Table) (before : List Place) (l : Lexeme) (new : EntryState) (needed : ℕ)
      → (l.kind ≡ Colon → ⊥) → (l.kind ≡ Name → ⊥)
      → needed ≡ cells_in (drop (length before) (indices_in k table)) → least_written (is_mdp (preamble_in k)) table ≤ length before
      → length before ≤ length (indices_in k table)
      → AreBegun table needed l new → TakesLexeme (StateGoes (preamble_in k) table before) states.Body l new
  numbers_begin Transition before l (states.Probabilities n) needed no_colon no_name cells low high t =
      list_begins (preamble_in k) Transition before l no_colon needed cells of_probabilities states.Probabilities probability_state
      probability_body (λ ps. one_to_three (length before) low high)
      (λ ls b is form. probabilities_of (is_mdp (preamble_in k)) needed (length before) l ls Transition b is form no_name
      (λ hs form. both_ways _ refl form)) n t
  numbers_begin Observation before l (states.Probabilities n) needed no_colon no_name cells low high t =
      list_begins (preamble_in k) Observation before l no_colon needed cells of_probabilities states.Probabilities probability_state
      probability_body (λ ps. one_to_three (length before) low high)
      (λ ls b is form. probabilities_of (is_mdp (preamble_in k)) needed (length before) l ls Observation b is form no_name
      (λ hs form. both_ways _ refl form)) n t
  numbers_begin Reward before l (states.Rewards n) needed no_colon no_name cells low high t =
      list_begins (preamble_in k) Reward before l no_colon needed cells of_rewards states.Rewards reward_state reward_body
      (λ hs. rewards_may_stand (is_mdp (preamble_in k)) (length before) hs low high)
      (λ ls b is form. rewards_of (is_mdp (preamble_in k)) needed (length before) l ls b is form) n t
  numbers_begin _ before l _ needed no_colon no_name cells low high t = absurd t

  -- numbers that cannot begin with a lexeme
  pub numbers_stuck : (table : Table) (before : List Place) (l : Lexeme) (needed : ℕ) → (l.kind ≡ Colon → ⊥)
      → (l.kind ≡ Name → ⊥)
      → needed ≡ cells_in (drop (length before) (indices_in k table)) → CannotBegin table needed l
      → CannotTake (StateGoes (preamble_in k) table before) states.Body l
  numbers_stuck Transition before l needed no_colon no_name cells stuck = λ ls e b.
      let h = here (preamble_in k) Transition before l ls e no_colon b in
      stuck ls e.body (probabilities_of (is_mdp (preamble_in k)) needed (length before) l ls Transition e.body
      (subst (λ c. IsBody c (l ∷ ls) e.body) (sym cells) h.body) h.form no_name (λ hs form. both_ways _ refl form))
  numbers_stuck Observation before l needed no_colon no_name cells stuck = λ ls e b.
      let h = here (preamble_in k) Observation before l ls e no_colon b in
      stuck ls e.body (probabilities_of (is_mdp (preamble_in k)) needed (length before) l ls Observation e.body
      (subst (λ c. IsBody c (l ∷ ls) e.body) (sym cells) h.body) h.form no_name (λ hs form. both_ways _ refl form))
  numbers_stuck Reward before l needed no_colon no_name cells stuck = λ ls e b.
      let h = here (preamble_in k) Reward before l ls e no_colon b in
      stuck ls e.body (rewards_of (is_mdp (preamble_in k)) needed (length before) l ls e.body
      (subst (λ c. IsBody c (l ∷ ls) e.body) (sym cells) h.body) h.form)

-- what a name begins as a body: a word
record WordHere (l : Lexeme) (ls : List Lexeme) (b : Body) : Type 0 where
  word : Word
  is_word : IsWord (word_text word) l
  body_is : b ≡ body_of_word word
  none_left : ls ≡ []

no_numbers_at : (l : Lexeme) (ls : List Lexeme) (hs : List ℤ) → l.kind ≡ Name → AreNumbers (l ∷ ls) hs → ⊥
no_numbers_at = grind arith

module _ (cells : ℕ) (l : Lexeme) where
  word_here : (ls : List Lexeme) (b : Body) → ((hs : List ℤ) → AreNumbers (l ∷ ls) hs → ⊥)
      → IsBody cells (l ∷ ls) b
      → WordHere l ls b
  word_here = grind arith

  word_body : (w : Word) → IsWord (word_text w) l → IsBody cells (l ∷ []) (body_of_word w)
  word_body = grind (arith, entries.uniform, entries.identity)

module _ (preamble : Preamble) (table : Table) (before : List Place) (l : Lexeme) where
  pub word_takes : (w : Word)
      → IsWordAfter (is_mdp preamble) table (length before) l w
      → TakesLexeme (StateGoes preamble table before) states.Body l (states.Word w)
  word_takes = grind (arith, here, there, no_numbers_at, word_body)

  -- a lexeme that is no colon, no word that may stand here and begins no numbers
  pub nothing_takes : (l.kind ≡ Colon → ⊥)
      → ((ls : List Lexeme) (hs : List ℤ) → AreNumbers (l ∷ ls) hs → ⊥)
      → ((w : Word) → IsWordAfter (is_mdp preamble) table (length before) l w → ⊥)
      → CannotTake (StateGoes preamble table before) states.Body l
  nothing_takes = search (rules, here, word_here)

-- the kind of a token that begins a number
abbrev pub BeginsNumber : TokenKind → Type 0
BeginsNumber kind = (kind ≡ Numeral) ⊎ ((kind ≡ Plus) ⊎ (kind ≡ Minus))

module _ (kind : TokenKind) where
  pub number_not_colon : BeginsNumber kind → kind ≡ Colon → ⊥
  number_not_colon = grind arith

  pub number_not_name : BeginsNumber kind → kind ≡ Name → ⊥
  number_not_name = grind arith

-- as many places as indices
pub same_length : (preamble : Preamble) (table : Table) → length (named preamble table) ≡ length (dimensions preamble table)
same_length = grind arith

module _ (preamble : Preamble) (table : Table) (before : List Place) (l : Lexeme) where
  -- no colon is taken where all indices have their place
  pub colon_stuck : l.kind ≡ Colon
      → length (dimensions preamble table) ≤ length before → CannotTake (StateGoes preamble table before) states.Body l
  colon_stuck colon full = λ ls e b. grind
      (arith, drop_all (length before) (named preamble table), same_length, colon_on preamble table before l colon ls e b)

  -- no number is taken after too few places
  pub few_stuck : BeginsNumber l.kind
      → (least_written (is_mdp preamble) table ≤ length before → ⊥) → CannotTake (StateGoes preamble table before) states.Body l
  few_stuck = search rules

module _ (preamble : Preamble) (r : EntryReader) (old : EntryState) where
  -- a reader whose state is known
  pub in_state : (new : EntryState) (l : Lexeme) → r.state ≡ old
      → TakesLexeme (StateGoes preamble r.table r.places) old l new → TakesLexeme (EntryGoes preamble) r l (record r { state = new })
  in_state = grind arith

  pub stuck_in_state : (l : Lexeme) → r.state ≡ old
      → CannotTake (StateGoes preamble r.table r.places) old l → CannotTake (EntryGoes preamble) r l
  stuck_in_state l is stuck = λ ls e goes. stuck ls e (subst (λ s. StateGoes preamble r.table r.places s (l ∷ ls) e) is goes)

pub if_err_map : {T E : Type 0} (r : Result T E) (P Q : E → Type 0) → ((e : E) → P e → Q e) → IfErr r P → IfErr r Q
if_err_map = grind arith

pub on_ok_map : {T E : Type 0} (r : Result T E) {P Q : Type 0} → (P → Q) → OnOk r P → OnOk r Q
on_ok_map = grind arith

pub if_err_both : {T E : Type 0} (r : Result T E) (P Q R : E → Type 0) → ((e : E) → P e → Q e → R e) → IfErr r P → IfErr r Q → IfErr r R
if_err_both = grind arith

pub refused_map : {P Q : Type 0} (stop : FeedError) → (P → Q) → IfRefused stop (λ r. P) → IfRefused stop (λ r. Q)
refused_map = grind arith

pub each_refused_map : {P Q : Refusal → Type 0} (stop : FeedError) → ((r : Refusal) → P r → Q r) → IfRefused stop P → IfRefused stop Q
each_refused_map = grind arith

pub each_refused_both : {P Q R : Refusal → Type 0} (stop : FeedError) → ((r : Refusal) → P r → Q r → R r) → IfRefused stop P
    → IfRefused stop Q → IfRefused stop R
each_refused_both = grind arith

pub probability_reason : (r : EntryReader) (n : Numbers ℕ) (l : Lexeme) (kind : ItemFault) (place : ℕ) → r.state ≡ states.Probabilities n
    → (r.table ≡ Reward → ⊥) → IsListReason Probability n.sign l kind place → IsEntryReason r l kind place
probability_reason r n l kind place is not_reward reason =
    reasons.no_probability not_reward (subst (λ s. IsListReason Probability (entry_sign s) l kind place) (sym is) reason)

-- a list that is full continues with nothing
pub full_list : {T : Type 0} (kind : ListKind T) (n : Numbers T) → IsFull n → NumberListGoes kind n [] (kind.body n.read)
full_list = grind (arith, append-nil, All-nil, numbers.none)

none_mapped : {X Y : Type 0} (f : X → Y) (xs : List X) → map f xs ≡ [] → xs ≡ []
none_mapped f [] e = refl
none_mapped f (x ∷ xs) e = absurd (cons≢nil e)

-- a list that continues with nothing is full
pub list_full : {T : Type 0} (kind : ListKind T) (n : Numbers T) (body : Body) → NumberListGoes kind n [] body → IsFull n
list_full = grind (arith, append-nil, none_mapped)

pub cells_some : (ds : List Elements) → AreSome ds → 1 ≤ cells_in ds
cells_some [] some = omega arith
cells_some (d ∷ ds) some = grind (arith, mul-pos, some 0 d, cells_some ds (All-tail (λ d. 1 ≤ count_of d) d ds some))

pub some_dropped : (n : ℕ) (ds : List Elements) → AreSome ds → AreSome (drop n ds)
some_dropped zero ds some = some
some_dropped (suc n) [] some = some
some_dropped (suc n) (d ∷ ds) some = some_dropped n ds (All-tail (λ d. 1 ≤ count_of d) d ds some)

no_body : (cells : ℕ) (b : Body) → 1 ≤ cells → IsBody cells [] b → ⊥
no_body = grind (arith, none_mapped)

-- an entry doesn't end after a place
pub no_end : (preamble : Preamble) (table : Table) (before : List Place) (e : Entry) → AreSome (dimensions preamble table)
    → IsEntryAfter preamble table before [] e → ⊥
no_end = grind (arith, cells_some, no_body)

module _ (preamble : Preamble) (r : EntryReader) (old : EntryState) where
  pub cannot_end_in : r.state ≡ old
      → ((e : Entry) → StateGoes preamble r.table r.places old [] e → ⊥) → CannotEnd (EntryGoes preamble) r
  cannot_end_in is none = λ e goes. none e (subst (λ s. StateGoes preamble r.table r.places s [] e) is goes)

  pub ends_in : (e : Entry) → r.state ≡ old
      → StateGoes preamble r.table r.places old [] e → EntryGoes preamble r [] e
  ends_in e is goes = subst (λ s. StateGoes preamble r.table r.places s [] e) (sym is) goes

-- the numbers of an entry continue
module _ {T : Type 0} (kind : ListKind T) (state : Numbers T → EntryState) (is_state : IsStateOf kind state) (p : Preamble)
    (r : EntryReader) (old : Numbers T) (l : Lexeme) (is : r.state ≡ state old) where
  pub list_in : (new : Numbers T) → TakesLexeme (NumberListGoes kind) old l new
      → TakesLexeme (EntryGoes p) r l (record r { state = state new })
  list_in = grind arith

  pub list_stuck : CannotTake (NumberListGoes kind) old l → CannotTake (EntryGoes p) r l
  list_stuck stuck = stuck_in_state p r (state old) l is
      (λ ls e g. let g' = is_state.out p r.table r.places old (l ∷ ls) e g in stuck ls g'.0 g'.1.0)

-- what is no `*` and stands for no element is no place
pub no_place : (d : Elements) (l : Lexeme) → (l.kind ≡ Star → ⊥) → ((index : ℕ) → StandsFor d l index → ⊥) → (p : Place) → IsPlace d l p
    → ⊥
no_place d l star none Every h = star h
no_place d l star none (Only index) h = none index h
