-- Texts that are whole items, each right after those before it.
use Rattle.std.proofs.Common.{◌≡◌, ◌∙◌, ℕ, ◌≤◌, false, Some, None, List, [], ◌∷◌, ◌++◌, length, flat_map, All, refl, sym, ap}
use Rattle.std.proofs.Common.{append-nil, arith}
use Rattle.polcert_full_form.proofs.Common.{list_any, All-nil, Lexeme, IsCut, text_limit, Topic, topic, begins_item, Item}
use Rattle.polcert_full_form.proofs.Common.{lexemes_of, Preamble, Meaning, meaning_of, IsSame, HasProperRows, ModelSoFar, nothing_known}
use Rattle.polcert_full_form.proofs.Common.{IsComplete, IsRight, AreRight, IsModelText}
use Rattle.std.proofs.lemmas.List.Elements.{All-append}
use Rattle.polcert_text.proofs.Scanning.CleanCut.{tokens_from}
use Rattle.polcert_format.specs.Items.{IsItem}
use Rattle.polcert_format.specs.Text as texts
use Rattle.polcert_format.proofs.Dividing.{all_append}
use Rattle.polcert_format.proofs.RightItems.{append_right}
use Rattle.polcert_text.proofs.Printing.PrintedCut.{Printed, text_of, lexemes_at, ArePrinted, rest_at, cut_printed, text-append}
use Rattle.polcert_text.proofs.Printing.PrintedCut.{lexemes-append, printed-append}

-- the lexemes are these right items
pub record AreItems (ls : List Lexeme) (k next : ModelSoFar) : Type 0 where
  pub items : List Item
  pub whole : ls ≡ flat_map lexemes_of items
  pub each : All IsItem items
  pub right : AreRight k items next

-- The text is whole items, right after what is known, and this is known after them.
pub record Prints (text : List ℕ) (k next : ModelSoFar) : Type 0 where
  pub lexemes : List Printed
  pub text_is : text_of lexemes ≡ text
  pub printed : ArePrinted lexemes
  pub items : (place : ℕ) → AreItems (lexemes_at place lexemes) k next

pub prints_nothing : (k : ModelSoFar) → Prints [] k k
prints_nothing k = record {
  lexemes = [];
  text_is = refl;
  printed = tt;
  items = λ place. record { items = []; whole = refl; each = All-nil _; right = texts.none };
}

items_then : (xs ys : List Lexeme) (k m n : ModelSoFar) → AreItems xs k m → AreItems ys m n → AreItems (xs ++ ys) k n
items_then xs ys k m n a b = record {
  items = _;
  whole = (λ i. a.whole i ++ b.whole i) ∙ sym (all_append _ _);
  each = All-append IsItem _ _ a.each b.each;
  right = append_right k m n _ _ a.right b.right;
}

pub prints_then : (s t : List ℕ) (k m n : ModelSoFar) → Prints s k m → Prints t m n → Prints (s ++ t) k n
prints_then s t k m n a b = grind (arith, text-append, lexemes-append, printed-append, items_then)

-- one item
pub one_item : (word : Lexeme) (body : List Lexeme) (t : Topic) (k next : ModelSoFar) → topic word ≡ Some t
    → list_any begins_item body ≡ false → IsRight k t body next → AreItems (word ∷ body) k next
one_item word body t k next e none right =
    record {
      items = _;
      whole = ap (λ ls. word ∷ ls) (sym (append-nil body));
      each = grind arith;
      right = texts.more t e right texts.none;
    }

-- the text of a model, from its items
pub text_from_items : (text : List ℕ) (m : Meaning) (p : Preamble) (k : ModelSoFar) → length text ≤ text_limit → Prints text nothing_known k
    → IsComplete k p
    → IsSame m (meaning_of p k.start k.entries) → HasProperRows m → IsModelText text m
text_from_items text m p k short prints complete same rows =
    let us = prints.lexemes in
    let found = prints.items 0 in
    let cut : IsCut (rest_at 0 _) _ None =
    rw (← prints.text_is) (cut_printed us 0 [] prints.printed refl) in
    record {
      lexemes = _;
      tokens = record { short = short; each = tokens_from _ _ cut };
      denotes = record {
        preamble = p;
        known = k;
        right = record {
          items = _;
          divided = record { whole = found.whole; no_word = refl; each = found.each };
          right = found.right;
          complete = complete;
        };
        same = same;
        rows = rows;
      };
    }
