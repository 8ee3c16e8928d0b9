-- The lines of an entry are an item, and that entry.
use Rattle.std.proofs.Common.{◌≡◌, ◌∙◌, ℕ, zero, suc, ◌^◌, ◌<◌, ◌==◌, true, false, Some, List, [], ◌∷◌, ◌++◌, codes}
use Rattle.std.proofs.Common.{decimal, refl, ap, arith, append_assoc, append-nil}
use Rattle.polcert_full_form.proofs.Common.{list_any, is_letter, is_name_byte, is_digit, is_point, is_exponent_mark, kind_of, Lexeme, Name}
use Rattle.polcert_full_form.proofs.Common.{Colon, Table, Transition, Observation, Reward, Only, Body, Entry, Elements, StartWeights, topic}
use Rattle.polcert_full_form.proofs.Common.{topic_of, begins_item, count_of, by_number, Preamble, is_mdp, dimensions, named, cells_in}
use Rattle.polcert_full_form.proofs.Common.{forms, MayBeGiven, IsBody, ModelSoFar, IsComplete, for_each, table_word}
use Rattle.polcert_cells.specs.declared.words.Topic.TheVariants.{Cells}
use Rattle.polcert_cells.specs.Entry.{IsEntry}
use Rattle.polcert_cells.specs.Entry as entries
use Rattle.polcert_format.specs.Text as texts
use Rattle.polcert_text.proofs.Printing.PrintedWords.{key, word_text, IsPiece}
use Rattle.polcert_full_form.proofs.Printing.PrintedNumbers.{numeral_at, whole_at}
use Rattle.polcert_full_form.proofs.Writable.Printable.{HasRoom}
use Rattle.polcert_full_form.proofs.Printing.PrintedItems.{AreItems, Prints, prints_nothing, prints_then, one_item}

abbrev pub letter : Table → List ℕ
letter Transition = codes "T"
letter Observation = codes "O"
letter Reward = codes "R"

known_topic : (table : Table) → topic_of (letter table) ≡ Some (Cells table)
unfolding topic_of
known_topic table = grind arith

name_topic : (l : Lexeme) → l.kind ≡ Name → topic l ≡ topic_of l.bytes
name_topic l k = simp k

letter_topic : (table : Table) (l : Lexeme) → l.kind ≡ Name → l.bytes ≡ letter table → topic l ≡ Some (Cells table)
letter_topic table l k b = name_topic l k ∙ ap topic_of b ∙ known_topic _

letter_name : (table : Table) → kind_of (letter table) ≡ Some Name
unfolding kind_of is_letter is_name_byte is_digit is_point is_exponent_mark
letter_name table = grind arith

pub letter_piece : (table : Table) → IsPiece Name (letter table)
letter_piece table = record { kind_is = letter_name _; short = grind arith }

pub text_letter : (table : Table) → word_text (key (letter table)) ≡ table_word table
text_letter table = grind arith

abbrev pub name_at : ℕ → List ℕ → Lexeme
name_at place bytes = record { kind = Name; place = place; bytes = bytes }

abbrev pub colon_at : ℕ → Lexeme
colon_at place = record { kind = Colon; place = place; bytes = codes ":" }

-- what is known after a whole preamble, a start item and some entries
abbrev pub known_of : Preamble → StartWeights → List Entry → ModelSoFar
known_of p start es = record {
  discount = Some p.discount;
  costs = Some p.costs;
  states = Some p.states;
  actions = Some p.actions;
  observations = p.observations;
  start = Some start;
  entries = es;
}

pub complete : (p : Preamble) (start : StartWeights) (es : List Entry) → HasRoom p → IsComplete (known_of p start es) p
complete p start es room = grind arith

module _ (p : Preamble) (start : StartWeights) (room : HasRoom p) where
  -- The text is further entries after any that came before.
  abbrev pub PrintsEntries : List ℕ → List Entry → Type 0
  PrintsEntries text new = (es : List Entry) → Prints text (known_of p start es) (known_of p start (es ++ new))

  pub no_entries : PrintsEntries [] []
  no_entries es = rw (append-nil es) (prints_nothing _)

  pub entries_then : (s t : List ℕ) (xs ys : List Entry) → PrintsEntries s xs → PrintsEntries t ys → PrintsEntries (s ++ t) (xs ++ ys)
  entries_then s t xs ys a b es = grind (arith, append_assoc, prints_then)

  pub entries_each : (n : ℕ) (f : ℕ → List ℕ) (g : ℕ → List Entry) → ((i : ℕ) → i < n → PrintsEntries (f i) (g i))
      → PrintsEntries (for_each n f) (for_each n g)
  entries_each zero f g h = no_entries
  entries_each (suc n) f g h = entries_then _ _ _ _ (entries_each n f g (λ i l. h i (omega arith))) (h n (omega arith))

  -- ---- one entry
  right_entry : (table : Table) (word : Lexeme) (body : List Lexeme) (e : Entry) (es : List Entry) → word.kind ≡ Name
      → word.bytes ≡ letter table → list_any begins_item body ≡ false
      → MayBeGiven p table → IsEntry p table body e → AreItems (word ∷ body) (known_of p start es) (known_of p start (es ++ e ∷ []))
  right_entry table word body e es k b none given a =
      one_item _ _ _ _ _ (letter_topic _ word k b) none
      (texts.entry (complete p _ es room) given a (grind arith))

  -- two places before a body
  pub two_places : (table : Table) (a s : ℕ) (column names : List Elements) (body : Body) → MayBeGiven p table
      → dimensions p table ≡ p.actions ∷ p.states ∷ column → named p table ≡ p.actions ∷ p.states ∷ names → a < count_of p.actions
      → s < count_of p.states
      → a < 2 ^ 64 → s < 2 ^ 64 → list_any (λ n. n == 2) (forms (is_mdp p) table body) ≡ true
      → (rest : List Lexeme) → IsBody (cells_in column) rest body → list_any begins_item rest ≡ false
      → (p0 p1 p2 p3 p4 : ℕ) (es : List Entry)
      → AreItems (name_at p0 (letter table) ∷ colon_at p1 ∷ numeral_at p2 (decimal a) ∷ colon_at p3 ∷ numeral_at p4 (decimal s) ∷ rest)
      (known_of p start es)
      (known_of p start (es ++ record { table = table; places = Only a ∷ Only s ∷ []; body = body } ∷ []))
  two_places table a s column names body given dims names_are l k al sl form rest b none p0 p1 p2 p3 p4 es =
      right_entry _ _ _ _ es refl refl
      none given
      (record {
        pattern = colon_at p1 ∷ numeral_at p2 _ ∷ colon_at p3 ∷ numeral_at p4 _ ∷ [];
        rest = _;
        whole = refl;
        table_is = refl;
        form = form;
        places = rw names_are
            (entries.more refl (by_number (whole_at p2 a al) l) (entries.more refl (by_number (whole_at p4 s sl) k) entries.none));
        body = rw dims b;
      })

  -- three places before a body
  pub three_places : (table : Table) (a s c : ℕ) (column : Elements) (more names : List Elements) (body : Body) → MayBeGiven p table
      → dimensions p table ≡ p.actions ∷ p.states ∷ column ∷ more
      → named p table ≡ p.actions ∷ p.states ∷ column ∷ names
      → a < count_of p.actions → s < count_of p.states → c < count_of column
      → a < 2 ^ 64 → s < 2 ^ 64 → c < 2 ^ 64 → list_any (λ n. n == 3) (forms (is_mdp p) table body) ≡ true
      → (rest : List Lexeme) → IsBody (cells_in more) rest body → list_any begins_item rest ≡ false
      → (p0 p1 p2 p3 p4 p5 p6 : ℕ) (es : List Entry)
      → AreItems (name_at p0 (letter table) ∷ colon_at p1 ∷ numeral_at p2 (decimal a) ∷ colon_at p3 ∷ numeral_at p4 (decimal s) ∷ colon_at
      p5 ∷ numeral_at p6 (decimal c) ∷ rest) (known_of p start es)
      (known_of p start (es ++ record { table = table; places = Only a ∷ Only s ∷ Only c ∷ []; body = body } ∷ []))
  three_places table a s c column more names body given dims names_are l k d al sl cl form rest b none p0 p1 p2 p3 p4 p5 p6 es =
      right_entry _ _ _ _ es
      refl refl none given
      (record {
        pattern = colon_at p1 ∷ numeral_at p2 _ ∷ colon_at p3 ∷ numeral_at p4 _ ∷ colon_at p5 ∷ numeral_at p6 _ ∷ [];
        rest = _;
        whole = refl;
        table_is = refl;
        form = form;
        places = rw names_are (entries.more refl (by_number (whole_at p2 a al) l)
            (entries.more refl (by_number (whole_at p4 s sl) k) (entries.more refl (by_number (whole_at p6 c cl) d) entries.none)));
        body = rw dims b;
      })
