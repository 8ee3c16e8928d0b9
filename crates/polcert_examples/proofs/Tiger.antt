-- The lexemes of the tiger problem are right, and denote its model.
use Rattle.std.proofs.Common.{◌≡◌, ◌∙◌, ◌≢◌, ◌==◌, ℕ, take, drop, bytes_eq, ap, true, false, Some, List, [], ◌∷◌, ◌++◌, AllPairs, ℤ, codes}
use Rattle.std.proofs.Common.{refl, arith, lit≤}
use Rattle.polcert_examples.proofs.Common.{All-from_recursion, list_any, Lexeme, Probabilities, Entry, Discount, topic_of, IsName}
use Rattle.polcert_examples.proofs.Common.{StandsFor, by_name, Item, IsDivided, ArePlaces, IsEntry, IsBody, dimensions, ModelSoFar}
use Rattle.polcert_examples.proofs.Common.{nothing_known, name, numeral, whole, minus_whole}
use Rattle.std.proofs.lemmas.List.Elements.{All-nil}
use Rattle.std.proofs.lemmas.List.Kept.{AllPairs-cons}
use Rattle.polcert_cells.specs.declared.entries.Table.{Table}
use Rattle.polcert_cells.specs.declared.entries.Table.TheVariants.{Transition, Observation, Reward}
use Rattle.polcert_cells.specs.declared.entries.Place.{Place}
use Rattle.polcert_cells.specs.declared.entries.Place.TheVariants.{Every, Only}
use Rattle.polcert_cells.specs.declared.entries.Body.{Body}
use Rattle.polcert_cells.specs.declared.entries.Body.TheVariants.{Uniform, Identity}
use Rattle.polcert_cells.specs.declared.words.Topic.TheVariants.{Values, States, Actions, Observations, Cells}
use Rattle.polcert_cells.specs.Words.{topic}
use Rattle.polcert_cells.specs.Numbers.{AreNumbers}
use Rattle.polcert_cells.specs.Numbers as numbers
use Rattle.polcert_cells.specs.declared.elements.Elements.TheVariants.{Names}
use Rattle.polcert_cells.specs.Elements.{AreElements, named, most_states, most_actions}
use Rattle.polcert_cells.specs.Entry as entries
use Rattle.polcert_cells.specs.Preamble.{named as named_by}
use Rattle.polcert_cells.proofs.Basics.{true≢false}
use Rattle.polcert_format.proofs.RightItems.{append_right}
use Rattle.polcert_cells.specs.Meaning.{HasProperRows}
use Rattle.polcert_format.specs.Text as texts
use Rattle.polcert_format.specs.Limits.{HasFewCells}
use Rattle.polcert_format.specs.Text.{IsComplete, AreRight, Denotes}
use Rattle.polcert_examples.specs.Worked.Examples.{colon, observation, rewards}
use Rattle.polcert_examples.specs.Worked.Tiger.{star, minus, tiger, tiger_states, tiger_actions, tiger_preamble, tiger_entries, tiger_known}
use Rattle.polcert_examples.specs.Worked.Tiger.{tiger_model}
use Rattle.polcert_examples.proofs.WorkedTexts.{an_item, a_word, an_entry, heard_right, fresh}
use Rattle.polcert_examples.proofs.Computed.{numerals, names}

-- ---- items

abbrev tiger_items : List Item
tiger_items =
    an_item (codes "discount") (colon ∷ numeral (codes "0.95") ∷ [])
    ∷ an_item (codes "values") (colon ∷ name (codes "reward") ∷ [])
    ∷ an_item (codes "states") (colon ∷ name (codes "tiger-left") ∷ name (codes "tiger-right") ∷ [])
    ∷ an_item (codes "actions") (colon ∷ name (codes "listen") ∷ name (codes "open-left") ∷ name (codes "open-right") ∷ [])
    ∷ an_item (codes "observations") (colon ∷ name (codes "tiger-left") ∷ name (codes "tiger-right") ∷ [])
    ∷ an_item (codes "T") (colon ∷ name (codes "listen") ∷ name (codes "identity") ∷ [])
    ∷ an_item (codes "T") (colon ∷ name (codes "open-left") ∷ name (codes "uniform") ∷ [])
    ∷ an_item (codes "T") (colon ∷ name (codes "open-right") ∷ name (codes "uniform") ∷ [])
    ∷ an_item (codes "O") (colon ∷ name (codes "listen") ∷ numeral (codes "0.85") ∷ numeral (codes "0.15") ∷ numeral (codes "0.15") ∷
    numeral (codes "0.85") ∷ [])
    ∷ an_item (codes "O") (colon ∷ name (codes "open-left") ∷ name (codes "uniform") ∷ [])
    ∷ an_item (codes "O") (colon ∷ name (codes "open-right") ∷ name (codes "uniform") ∷ [])
    ∷ an_item (codes "R") (colon ∷ name (codes "listen") ∷ colon ∷ star ∷ colon ∷ star ∷ colon ∷ star ∷ minus ∷ numeral (codes "1") ∷ [])
    ∷ an_item (codes "R") (colon ∷ name (codes "open-left") ∷ colon ∷ name (codes "tiger-left") ∷ colon ∷ star ∷ colon ∷ star ∷ minus ∷
    numeral (codes "100") ∷ [])
    ∷ an_item (codes "R") (colon ∷ name (codes "open-left") ∷ colon ∷ name (codes "tiger-right") ∷ colon ∷ star ∷ colon ∷ star ∷ numeral
    (codes "10") ∷ [])
    ∷ an_item (codes "R") (colon ∷ name (codes "open-right") ∷ colon ∷ name (codes "tiger-left") ∷ colon ∷ star ∷ colon ∷ star ∷ numeral
    (codes "10") ∷ [])
    ∷ an_item (codes "R") (colon ∷ name (codes "open-right") ∷ colon ∷ name (codes "tiger-right") ∷ colon ∷ star ∷ colon ∷ star ∷ minus ∷
    numeral (codes "100") ∷ []) ∷ []

divided : IsDivided tiger [] tiger_items
unfolding topic_of
divided = grind arith

-- ---- names and numbers

stands_tiger_left : StandsFor (Names tiger_states) (name (codes "tiger-left")) 0
stands_tiger_left = by_name names.tiger_left refl

stands_tiger_right : StandsFor (Names tiger_states) (name (codes "tiger-right")) 1
stands_tiger_right = by_name names.tiger_right refl

stands_listen : StandsFor (Names tiger_actions) (name (codes "listen")) 0
stands_listen = by_name names.listen refl

stands_open_left : StandsFor (Names tiger_actions) (name (codes "open-left")) 1
stands_open_left = by_name names.open_left refl

stands_open_right : StandsFor (Names tiger_actions) (name (codes "open-right")) 2
stands_open_right = by_name names.open_right refl

-- ---- elements

differ : (x y : List ℕ) → bytes_eq x x ≡ true → bytes_eq x y ≡ false → x ≢ y
differ x y same other = λ e. true≢false same (ap (bytes_eq x) e ∙ other)

abbrev Apart : List (List ℕ) → Type 0
Apart xs = AllPairs (λ (x y : List ℕ). x ≢ y) xs

none_apart : Apart []
none_apart = λ i j d l m. absurd (omega (arith, l, m))

one_apart : (x : List ℕ) → Apart (x ∷ [])
one_apart x = AllPairs-cons (λ a b. a ≢ b) x [] (All-nil (λ b. x ≢ b)) none_apart

two_apart : (x y : List ℕ) → x ≢ y → Apart (x ∷ y ∷ [])
two_apart x y xy = AllPairs-cons (λ a b. a ≢ b) x (y ∷ []) (All-from_recursion (λ b. x ≢ b) (y ∷ []) (xy, tt)) (one_apart y)

three_apart : (x y z : List ℕ) → x ≢ y → x ≢ z → y ≢ z → Apart (x ∷ y ∷ z ∷ [])
three_apart x y z xy xz yz = AllPairs-cons (λ a b. a ≢ b) x (y ∷ z ∷ []) (All-from_recursion (λ b. x ≢ b) (y ∷ z ∷ []) (xy, (xz, tt)))
    (two_apart y z yz)

the_states : AreElements most_states (name (codes "tiger-left") ∷ name (codes "tiger-right") ∷ []) (Names tiger_states)
the_states = named
    (All-from_recursion IsName (name (codes "tiger-left") ∷ name (codes "tiger-right") ∷ []) (names.tiger_left, (names.tiger_right, tt)))
    (lit≤ tt) (lit≤ tt) (two_apart _ _ (differ _ _ refl refl))

the_actions : AreElements most_actions (name (codes "listen") ∷ name (codes "open-left") ∷ name (codes "open-right") ∷ [])
    (Names tiger_actions)
the_actions = named
    (All-from_recursion IsName (name (codes "listen") ∷ name (codes "open-left") ∷ name (codes "open-right") ∷ [])
    (names.listen, (names.open_left, (names.open_right, tt))))
    (lit≤ tt) (lit≤ tt) (three_apart _ _ _ (differ _ _ refl refl) (differ _ _ refl refl) (differ _ _ refl refl))

-- ---- entries

-- a word for one action
word_entry : (table : Table) (action : List ℕ) (n : ℕ) (w : List ℕ) (body : Body) → StandsFor (Names tiger_actions) (name action) n
    → list_any (λ k. k == 1) (entries.forms false table body) ≡ true
    → IsBody (entries.cells_in (drop 1 (dimensions tiger_preamble table))) (name w ∷ []) body
    → ArePlaces (named_by tiger_preamble table) (colon ∷ name action ∷ []) (Only n ∷ [])
    → IsEntry tiger_preamble table (colon ∷ name action ∷ name w ∷ []) (record { table = table; places = Only n ∷ []; body = body })
word_entry table action n w body a f b p = an_entry tiger_preamble (record { table = table; places = Only n ∷ []; body = body })
    (colon ∷ name action ∷ []) (name w ∷ []) f p b

hear : IsEntry tiger_preamble Observation (colon ∷ name (codes "listen") ∷ numeral (codes "0.85") ∷ numeral (codes "0.15") ∷ numeral
    (codes "0.15") ∷ numeral (codes "0.85") ∷ [])
    (observation (Only 0 ∷ []) (Probabilities (850_000 ∷ 150_000 ∷ 150_000 ∷ 850_000 ∷ [])))
hear = an_entry tiger_preamble (observation (Only 0 ∷ []) (Probabilities (850_000 ∷ 150_000 ∷ 150_000 ∷ 850_000 ∷ [])))
    (colon ∷ name (codes "listen") ∷ []) _ refl
    (entries.more refl stands_listen entries.none) heard_right

-- a reward by action and start state
reward_entry : (ls following : List Lexeme) (action state : Lexeme) (p q : Place) (h : ℤ) → entries.IsPlace (Names tiger_actions) action p
    → entries.IsPlace (Names tiger_states) state q
    → AreNumbers following (h ∷ []) → ls ≡ (colon ∷ action ∷ colon ∷ state ∷ colon ∷ star ∷ colon ∷ star ∷ []) ++ following
    → IsEntry tiger_preamble Reward ls (rewards (p ∷ q ∷ Every ∷ Every ∷ []) (h ∷ []))
reward_entry ls following action state p q h a s n e = record {
  pattern = colon ∷ action ∷ colon ∷ state ∷ colon ∷ star ∷ colon ∷ star ∷ [];
  rest = following;
  whole = e;
  table_is = refl;
  form = refl;
  places = entries.more refl a (entries.more refl s (entries.more refl refl (entries.more refl refl entries.none)));
  body = entries.rewards n refl;
}

ten : AreNumbers (numeral (codes "10") ∷ []) (whole 10 ∷ [])
ten = numbers.unsigned (numerals.ten _) numbers.none

minus_one : AreNumbers (minus ∷ numeral (codes "1") ∷ []) (minus_whole 1 ∷ [])
minus_one = numbers.minus refl (numerals.minus_one _) numbers.none

minus_hundred : AreNumbers (minus ∷ numeral (codes "100") ∷ []) (minus_whole 100 ∷ [])
minus_hundred = numbers.minus refl (numerals.minus_hundred _) numbers.none

-- ---- the whole

complete : (es : List Entry) → IsComplete (tiger_known es) tiger_preamble
complete es = grind arith

few : (es : List Entry) → HasFewCells tiger_preamble es
few es = grind arith

one_entry : (es : List Entry) (items : List Item) (table : Table) (body : List Lexeme) (word : List ℕ) (e : Entry) (last : ModelSoFar)
    → topic (name word) ≡ Some (Cells table)
    → IsEntry tiger_preamble table body e → AreRight (tiger_known (es ++ e ∷ [])) items last
    → AreRight (tiger_known es) (an_item word body ∷ items) last
one_entry es items table body word e last t a rest =
    texts.more (Cells table) t (texts.entry (complete es) (given table) a (few (es ++ e ∷ []))) rest
  where
    given : (table : Table) → entries.MayBeGiven tiger_preamble table
    given Transition = tt
    given Observation = refl
    given Reward = tt

right_rewards : AreRight (tiger_known (take 6 tiger_entries)) (drop 11 tiger_items) (tiger_known tiger_entries)
unfolding topic_of
right_rewards =
    one_entry (take 6 tiger_entries) _ Reward _ (codes "R") _ _ refl
    (reward_entry _ _ (name (codes "listen")) star (Only 0) Every (minus_whole 1) stands_listen refl minus_one refl)
    (one_entry (take 7 tiger_entries) _ Reward _ (codes "R") _ _ refl
    (reward_entry _ _ (name (codes "open-left")) (name (codes "tiger-left")) (Only 1) (Only 0) (minus_whole 100) stands_open_left
    stands_tiger_left minus_hundred refl)
    (one_entry (take 8 tiger_entries) _ Reward _ (codes "R") _ _ refl
    (reward_entry _ _ (name (codes "open-left")) (name (codes "tiger-right")) (Only 1) (Only 1) (whole 10) stands_open_left
    stands_tiger_right ten refl)
    (one_entry (take 9 tiger_entries) _ Reward _ (codes "R") _ _ refl
    (reward_entry _ _ (name (codes "open-right")) (name (codes "tiger-left")) (Only 2) (Only 0) (whole 10) stands_open_right
    stands_tiger_left ten refl)
    (one_entry (take 10 tiger_entries) _ Reward _ (codes "R") _ _ refl
    (reward_entry _ _ (name (codes "open-right")) (name (codes "tiger-right")) (Only 2) (Only 1) (minus_whole 100) stands_open_right
    stands_tiger_right minus_hundred refl)
    texts.none))))

right_weights : AreRight (tiger_known []) (take 6 (drop 5 tiger_items)) (tiger_known (take 6 tiger_entries))
unfolding topic_of
right_weights =
    one_entry [] _ Transition _ (codes "T") _ _ refl (word_entry Transition _ 0 _ Identity stands_listen refl (entries.identity (a_word _))
    (entries.more refl stands_listen entries.none))
    (one_entry (take 1 tiger_entries) _ Transition _ (codes "T") _ _ refl
    (word_entry Transition _ 1 _ Uniform stands_open_left refl (entries.uniform (a_word _))
    (entries.more refl stands_open_left entries.none))
    (one_entry (take 2 tiger_entries) _ Transition _ (codes "T") _ _ refl
    (word_entry Transition _ 2 _ Uniform stands_open_right refl (entries.uniform (a_word _))
    (entries.more refl stands_open_right entries.none))
    (one_entry (take 3 tiger_entries) _ Observation _ (codes "O") _ _ refl hear
    (one_entry (take 4 tiger_entries) _ Observation _ (codes "O") _ _ refl
    (word_entry Observation _ 1 _ Uniform stands_open_left refl (entries.uniform (a_word _))
    (entries.more refl stands_open_left entries.none))
    (one_entry (take 5 tiger_entries) _ Observation _ (codes "O") _ _ refl
    (word_entry Observation _ 2 _ Uniform stands_open_right refl (entries.uniform (a_word _))
    (entries.more refl stands_open_right entries.none))
    texts.none)))))

right_preamble : AreRight nothing_known (take 5 tiger_items) (tiger_known [])
unfolding topic_of
right_preamble =
    texts.more Discount refl (texts.discount (fresh _ refl refl) refl refl (numbers.unsigned (numerals.n_0_95 _) numbers.none) (lit≤ tt))
    (texts.more Values refl (texts.rewards (fresh _ refl refl) refl refl (a_word _))
    (texts.more States refl (texts.states (fresh _ refl refl) refl refl the_states)
    (texts.more Actions refl (texts.actions (fresh _ refl refl) refl refl the_actions)
    (texts.more Observations refl (texts.observations (fresh _ refl refl) refl refl the_states)
    texts.none))))

right : AreRight nothing_known tiger_items (tiger_known tiger_entries)
right = grind (arith, append_right, right_rewards, right_weights, right_preamble)

proper : HasProperRows tiger_model
proper = grind arith

pub tiger_denotes : Denotes tiger tiger_model
tiger_denotes = grind (arith, divided, complete, right, proper)
