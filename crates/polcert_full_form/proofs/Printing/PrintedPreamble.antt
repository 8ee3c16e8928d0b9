-- The printed preamble is read as the preamble.
use Rattle.std.proofs.Common.{◌≡◌, ◌≢◌, ◌∙◌, ℕ, suc, ◌≤◌, Bool, true, false, is_some, Option, Some, None, List, [], ◌∷◌, length, map, All}
use Rattle.std.proofs.Common.{rules}
use Rattle.std.proofs.Common.{AllPairs, codes, refl, sym, ap, arith}
use Rattle.polcert_full_form.proofs.Common.{list_any, ForSome, All-cons, All-nil, All-head, All-tail, is_letter, is_name_byte, is_digit}
use Rattle.polcert_full_form.proofs.Common.{is_point, is_exponent_mark, kind_of, largest, Lexeme, Name, Numeral, Colon}
use Rattle.polcert_full_form.proofs.Common.{Elements, Count, Names, Topic, Start, topic_of, begins_item, IsName, one, most_states}
use Rattle.polcert_full_form.proofs.Common.{most_actions, most_observations, most_elements, AreElements, counted, Preamble, ModelSoFar}
use Rattle.polcert_full_form.proofs.Common.{nothing_known, IsRight, Meaning, line, IsWritableName, millionths_text, element_words}
use Rattle.polcert_full_form.proofs.Common.{observations_line, preamble_text}
use Rattle.polcert_cells.specs.declared.words.Topic.TheVariants.{Discount, Values, States, Actions, Observations}
use Rattle.polcert_cells.specs.Words.{is_reserved}
use Rattle.polcert_cells.specs.Numbers as numbers
use Rattle.polcert_cells.specs.Elements.{named}
use Rattle.polcert_format.specs.Text as texts
use Rattle.polcert_cells.proofs.Basics.{or_false_from}
use Rattle.polcert_format.specs.FullForm.{values_word}
use Rattle.polcert_text.proofs.Printing.PrintedCut.{Printed, text_of, lexemes_at, ArePrinted}
use Rattle.polcert_text.proofs.Printing.PrintedWords.{Word, plain, key, word_text, spelled_line, IsPiece, AreSpellings, text_line}
use Rattle.polcert_text.proofs.Printing.PrintedWords.{line_printed, numeral_piece}
use Rattle.polcert_text.proofs.Printing.WrittenNumbers.{plain_size}
use Rattle.polcert_full_form.proofs.Printing.PrintedNumbers.{whole_at, whole_piece, millionths_at}
use Rattle.polcert_full_form.proofs.Printing.PrintedItems.{Prints, prints_nothing, prints_then, one_item}

-- ---- elements
-- a count of at most so many, or different names that a text may give
abbrev pub AreWritable : ℕ → Elements → Type 0
AreWritable most (Count n) = (1 ≤ n) × (n ≤ most)
AreWritable most (Names names) = All IsWritableName names × (1 ≤ length names) × (length names ≤ most) × AllPairs (λ x y. x ≢ y) names

abbrev name_word : List ℕ → Word
name_word name = plain Name name

text_names : (names : List (List ℕ)) → map word_text (map name_word names) ≡ names
text_names [] = refl
text_names (x ∷ xs) = rw (text_names xs)

name_piece : (name : List ℕ) → IsWritableName name → IsPiece Name name
name_piece name w = grind arith

spells_names : (names : List (List ℕ)) → All IsWritableName names → AreSpellings (map name_word names)
spells_names [] a = tt
spells_names (x ∷ xs) a = (name_piece x (All-head IsWritableName x xs a), spells_names xs (All-tail IsWritableName x xs a))

name_is : (place : ℕ) (name : List ℕ) → IsWritableName name → IsName (record { kind = Name; place = place; bytes = name })
name_is place name w = grind arith

-- the lexemes of a line of names
bytes_of_names : (x : List ℕ) (xs : List (List ℕ)) (place : ℕ)
    → map (λ l. l.bytes) (lexemes_at place (spelled_line (name_word x) (map name_word xs))) ≡ x ∷ xs
bytes_of_names x [] place = refl
bytes_of_names x (y ∷ ys) place = rw (bytes_of_names y ys _)

names_are : (x : List ℕ) (xs : List (List ℕ)) (place : ℕ) → All IsWritableName (x ∷ xs)
    → All IsName (lexemes_at place (spelled_line (name_word x) (map name_word xs)))
names_are x [] place a = All-cons IsName _ [] (name_is _ x (All-head IsWritableName x [] a)) (All-nil _)
names_are x (y ∷ ys) place a = All-cons IsName _ _ (name_is _ x (All-head IsWritableName x (y ∷ ys) a))
    (names_are y ys _ (All-tail IsWritableName x (y ∷ ys) a))

reserved_topic : (name : List ℕ) → is_reserved name ≡ false → is_some (topic_of name) ≡ false
unfolding is_reserved
reserved_topic name e = grind arith

name_begins_none : (l : Lexeme) → IsName l → begins_item l ≡ false
name_begins_none l n = simp n.kind (reserved_topic _ n.free)

names_begin_none : (ls : List Lexeme) → All IsName ls → list_any begins_item ls ≡ false
names_begin_none [] a = refl
names_begin_none (l ∷ ls) a = or_false_from _ _ (name_begins_none l (All-head IsName l ls a)) (names_begin_none ls (All-tail IsName l ls a))

length-map_bytes : (ls : List Lexeme) → length (map (λ (l : Lexeme). l.bytes) ls) ≡ length ls
length-map_bytes [] = refl
length-map_bytes (l ∷ ls) = ap suc (length-map_bytes ls)

-- what stands after the colon of such a line
record IsElementsLine (most : ℕ) (word : List ℕ) (elements : Elements) : Type 0 where
  lexemes : List Printed
  text_is : text_of (record { kind = Name; bytes = word; following = [] } ∷ record
      { kind = Colon; bytes = codes ":"; following = codes " " } ∷ lexemes) ≡ line (word_text (key word) ∷ element_words elements)
  printed : ArePrinted (record { kind = Name; bytes = word; following = [] } ∷ record
      { kind = Colon; bytes = codes ":"; following = codes " " } ∷ lexemes)
  are : (place : ℕ) → AreElements most (lexemes_at place lexemes) elements
  begin_none : (place : ℕ) → list_any begins_item (lexemes_at place lexemes) ≡ false

elements_line : (most : ℕ) → most ≤ most_elements → (word : List ℕ) (elements : Elements) → IsPiece Name word → AreWritable most elements
    → IsElementsLine most word elements
elements_line most few word (Count n) piece w = record {
  lexemes = spelled_line (plain _ _) [];
  text_is = text_line (key _) (plain Numeral _ ∷ []);
  printed = line_printed (key _) (plain _ _ ∷ []) piece (whole_piece n (omega arith), tt);
  are = λ place. counted (whole_at _ n (omega arith)) w.0 w.1;
  begin_none = λ place. refl;
}
elements_line most few word (Names []) piece w = grind arith
elements_line most few word (Names (x ∷ xs)) piece w = record {
  lexemes = _;
  text_is = text_line (key _) (map _ (x ∷ xs)) ∙ ap (λ ws. line (word_text (key word) ∷ ws)) (text_names (x ∷ xs));
  printed = line_printed (key _) (map _ (x ∷ xs)) piece (spells_names (x ∷ xs) w.0);
  are = λ place.
      let ls = lexemes_at _ _ in
      let same = bytes_of_names x xs place in
      let count = sym (length-map_bytes ls) ∙ ap length same in
      rw (← same)
      (named (names_are x xs place w.0) (omega arith) (omega arith)
      (grind arith));
  begin_none = λ place. names_begin_none _ (names_are x xs _ w.0);
}

-- ---- words
pub record IsItemWord (word : List ℕ) (t : Topic) : Type 0 where
  pub piece : IsPiece Name word
  pub topic_is : topic_of word ≡ Some t

-- a word that begins no item
pub record IsInnerWord (word : List ℕ) : Type 0 where
  pub piece : IsPiece Name word
  pub begins_none : (place : ℕ) → begins_item (record { kind = Name; place = place; bytes = word }) ≡ false

pub record Words : Type 0 where
  pub discount : IsItemWord (codes "discount") Discount
  pub values : IsItemWord (codes "values") Values
  pub states : IsItemWord (codes "states") States
  pub actions : IsItemWord (codes "actions") Actions
  pub observations : IsItemWord (codes "observations") Observations
  pub start : IsItemWord (codes "start") Start
  pub cost : IsInnerWord (codes "cost")
  pub reward : IsInnerWord (codes "reward")
  pub include : IsInnerWord (codes "include")
  pub uniform : IsInnerWord (codes "uniform")

pub words : Words
unfolding kind_of is_letter is_name_byte is_digit is_point is_exponent_mark topic_of
words = grind arith

-- ---- the lines
discount_prints : (k : ModelSoFar) (g : ℕ) → texts.IsInPreamble k → k.discount ≡ None → g ≤ one
    → Prints (line (codes "discount:" ∷ millionths_text g ∷ [])) k (record k { discount = Some g })
discount_prints k g fresh new small =
    let within : g ≤ largest = omega arith in
    record {
      lexemes = spelled_line (key _) (plain _ _ ∷ []);
      text_is = search rules;
      printed = line_printed (key _) (plain _ _ ∷ []) words.discount.piece (numeral_piece _ (plain_size g within), tt);
      items = λ place. one_item _ _ _ k _ words.discount.topic_is refl
          (texts.discount fresh new refl (numbers.unsigned (millionths_at false _ g within) numbers.none) small);
    }

values_prints : (k : ModelSoFar) (costs : Bool) → texts.IsInPreamble k → k.costs ≡ None
    → Prints (line (codes "values:" ∷ values_word costs ∷ [])) k (record k { costs = Some costs })
values_prints k true fresh new = record {
  lexemes = spelled_line (key _) (plain _ _ ∷ []);
  text_is = refl;
  printed = line_printed (key _) (plain _ _ ∷ []) words.values.piece (words.cost.piece, tt);
  items = λ place. one_item _ _ _ k _ words.values.topic_is
      (or_false_from _ _ (words.cost.begins_none place) refl) (texts.costs fresh new refl (record { kind = refl; bytes = refl }));
}
values_prints k false fresh new = record {
  lexemes = spelled_line (key _) (plain _ _ ∷ []);
  text_is = refl;
  printed = line_printed (key _) (plain _ _ ∷ []) words.values.piece (words.reward.piece, tt);
  items = λ place. one_item _ _ _ k _ words.values.topic_is
      (or_false_from _ _ (words.reward.begins_none place) refl) (texts.rewards fresh new refl (record { kind = refl; bytes = refl }));
}

elements_print : (most : ℕ) → most ≤ most_elements → (word : List ℕ) (t : Topic) (elements : Elements) (k next : ModelSoFar)
    → IsItemWord word t → AreWritable most elements
    → ((colon : Lexeme) (ls : List Lexeme) → colon.kind ≡ Colon → AreElements most ls elements → IsRight k t (colon ∷ ls) next)
    → Prints (line (word_text (key word) ∷ element_words elements)) k next
elements_print most few word t elements k next w e right =
    let l = elements_line _ few _ _ w.piece e in
    record {
      lexemes = record { kind = _; bytes = _; following = [] } ∷ record { kind = _; bytes = _; following = _ } ∷ l.lexemes;
      text_is = l.text_is;
      printed = l.printed;
      items = λ place. one_item _ _ t k _ w.topic_is (l.begin_none _) (grind arith);
    }

-- ---- the preamble
-- what is known after these lines
abbrev pub lines_known : Preamble → ModelSoFar
lines_known p = record nothing_known {
  discount = Some p.discount;
  costs = Some p.costs;
  states = Some p.states;
  actions = Some p.actions;
  observations = p.observations;
}

-- the line of observations, where there is one
observations_print : (k : ModelSoFar) (o : Option Elements) → texts.IsInPreamble k → k.observations ≡ None
    → ForSome o (AreWritable most_observations) → Prints (observations_line o) k (record k { observations = o })
observations_print k None fresh new w = rw (← new) (prints_nothing k)
observations_print k (Some elements) fresh new w =
    elements_print _ (omega arith) _ _ _ k
    _ words.observations (w _ refl) (λ colon ls. texts.observations fresh new)

pub preamble_prints : (m : Meaning) → m.preamble.discount ≤ one → AreWritable most_states m.preamble.states
    → AreWritable most_actions m.preamble.actions → ForSome m.preamble.observations (AreWritable most_observations)
    → Prints (preamble_text m) nothing_known (lines_known m.preamble)
preamble_prints m small states actions observations =
    let p = m.preamble in
    let k1 = record nothing_known { discount = _ } in
    let k2 = record k1 { costs = _ } in
    let k3 = record k2 { states = _ } in
    let k4 = record k3 { actions = _ } in
    let k5 = record k4 { observations = _ } in
    let fresh : (k : ModelSoFar) → k.start ≡ None → k.entries ≡ [] → texts.IsInPreamble k =
    λ k s e. record { no_start = s; no_entry = e } in
    prints_then _ _ _ k4 k5
    (prints_then _ _ _ k3 k4
    (prints_then _ _ _ k2 k3
    (prints_then _ _ _ k1 k2
    (discount_prints _ _ (fresh _ refl refl) refl small)
    (values_prints k1 _ (fresh k1 refl refl) refl))
    (elements_print _ (omega arith) _ _ _ k2 k3 words.states states
    (λ colon ls. texts.states (fresh k2 refl refl) refl)))
    (elements_print _ (omega arith) _ _ _ k3 k4 words.actions actions
    (λ colon ls. texts.actions (fresh k3 refl refl) refl)))
    (observations_print k4 _ (fresh k4 refl refl) refl observations)
